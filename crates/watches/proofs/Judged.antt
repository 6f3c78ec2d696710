-- A round given to a watch is refused as judging refuses it, and else by 21 alone.
-- Assumes nothing.
use Prim.Native.Nat.{ℕ, ◌<◌}
use mathlib.Core.Path.{◌≡◌, sym, ap, ◌∙◌}
use mathlib.Core.Logic.{◌⊎◌, inl, inr, ⊎_elim, ◌≢◌}
use mathlib.Core.List.{List, [], ◌∷◌}
use native.Mathlib.Omega.{arith}
use lib.ListN.{get_or}
use Rattle.types.specs.declared.Round.{Round}
use Rattle.types.specs.declared.Verdict.{Verdict}
use Rattle.types.specs.declared.Verdict.TheVariants.{Refused}
use Rattle.lists.specs.Places.{places}
use Rattle.rules.specs.Call.{answer, number_of}
use Rattle.rules.specs.Condition.{◌if◌}
use Rattle.rules.proofs.Determined.{either, refused_alike, refused_own}
use Rattle.formats.specs.Load.{load, load_refusal}
use Rattle.formats.specs.Sheet.{instance_of}
use Rattle.runs.specs.Calls.{judge_round}
use Rattle.runs.specs.Ours.{Accepts}
use Rattle.runs.proofs.Outcome.{judged_number}
use Rattle.runs.proofs.Protocol.{sheet_accepted}
use Rattle.runs.proofs.RunRefusals.{run_refusals}
use Rattle.runs.proofs.RunsWhere.{rounds_run}
use Rattle.sigma.specs.Answer.{judged, outcome}
use Rattle.sigma.specs.Judge.{judging}
use Rattle.sigma.specs.Knowledge.{AcceptedPair}
use Rattle.sigma.proofs.Calculus.{says_stable}
use Rattle.sigma.proofs.Calls.{judge_not_refused}
use Rattle.watches.specs.Watch.{watch_round, watch_verdict}
use Rattle.watches.specs.Window.{Nearest, no_round, window}
use Rattle.watches.specs.declared.Watch.{Watch}
use Rattle.watches.specs.declared.Watched.{Watched}
use Rattle.watches.proofs.Bytes.{other_bytes, says_watched}
use Rattle.watches.proofs.Call.{told_verdict_law}
use Rattle.watches.proofs.WatchRefusals.{Unfit, says_accepts, watch_refusals}

-- a verdict on values that two lists of rules leave is one
judged_alike : (n m : ℕ) (v : Verdict) → ((k : ℕ) → v ≢ Refused k) → (outcome (judged n v)).number ≡ 0
    → (outcome (judged m v)).number ≡ 0 → judged n v ≡ judged m v
judged_alike n m v u e e' = ap (λ (k : ℕ). judged k v) (sym (judged_number n v u) ∙ e ∙ sym e' ∙ judged_number m v u)

module _ (sheet : List ℕ) (w : Watch) (round : Round) where
  -- the number of the watch's verdict, and of judging
  abbrev pub number_told : ℕ
  number_told = (outcome (watch_round sheet w round).verdict).number

  abbrev pub number_judged : ℕ
  number_judged = (outcome (judge_round sheet round)).number

  -- a round that judging refuses is refused alike
  pub told_alike : 0 < number_judged → number_told ≡ number_judged
  told_alike =
      refused_alike ((21 if Unfit sheet w round) ∷ []) (run_refusals.judging sheet round) (watch_refusals.hearing sheet w round)

  -- any other by 21 alone
  told_own : number_judged ≡ 0 → (Unfit sheet w round × (number_told ≡ 21)) ⊎ ((¬ Unfit sheet w round) × (number_told ≡ 0))
  told_own =
      refused_own ((21 if Unfit sheet w round) ∷ []) (run_refusals.judging sheet round) (watch_refusals.hearing sheet w round)

  -- 21 applies to it
  pub told_unfit : number_judged ≡ 0 → Unfit sheet w round → number_told ≡ 21
  told_unfit none unfit = ⊎_elim (λ (u, e). e) (λ (not, e). absurd (not unfit)) (told_own none)

  -- or does not
  pub told_fit : ¬ Unfit sheet w round → number_told ≡ number_judged
  told_fit fit = either number_judged (λ none. ⊎_elim (λ (u, e). absurd (fit u)) (λ (not, e). e ∙ sym none) (told_own none)) told_alike

  -- a round that is not refused is not refused by judging, and 21 does not apply
  pub told_clear : number_told ≡ 0 → (number_judged ≡ 0) × (¬ Unfit sheet w round)
  told_clear none =
      either number_judged
      (λ judged. (judged, ⊎_elim (λ (u, e). absurd (omega arith)) (λ (not, e). not) (told_own judged)))
      (λ some. absurd (omega (arith, told_alike some)))

  -- its verdict is that of judging
  pub told_judged : number_told ≡ 0 → (watch_round sheet w round).verdict ≡ judge_round sheet round
  unfolding watch_verdict judge_round judging answer number_of judged
  told_judged none =
      let is = told_verdict_law sheet w round in
      is
      ∙ judged_alike _ _ _ (judge_not_refused (instance_of sheet) round) (ap (λ (v : Verdict). (outcome v).number) (sym is) ∙ none)
      (told_clear none).0

  -- a verdict with a number is that refusal
  pub told_left : 0 < number_told → (watch_round sheet w round).verdict ≡ Refused number_told
  told_left some = ap (λ (told : Watched). told.verdict) ((watch_refusals.hearing sheet w round).left some)

  -- so one number is one verdict
  pub told_same : number_told ≡ number_judged → (watch_round sheet w round).verdict ≡ judge_round sheet round
  told_same same =
      either number_told told_judged
      (λ some. told_left some ∙ ap Refused same ∙ sym ((run_refusals.judging sheet round).left (rw same at some)))

  -- where 21 does not apply, the watch holds the sheet's bytes
  pub fit_bytes : ¬ Unfit sheet w round → places w.length w.sheet ≡ sheet
  fit_bytes fit = says_stable (says_watched w sheet) (λ other. fit (inl ((other_bytes w sheet).0 other)))

  -- the sheet loads
  pub judged_loads : number_judged ≡ 0 → load_refusal sheet ≡ 0
  unfolding load
  judged_loads none = ((rounds_run.judges sheet round).0 none).0

  -- where 21 does not apply, an accepted round and the one that it names are a pair for the extractor
  pub named_pair : ¬ Unfit sheet w round → Accepts sheet round → (b : ℕ) → Nearest sheet (window w) round b
      → AcceptedPair (instance_of sheet).header (Accepts sheet) round (get_or (window w) b no_round)
  unfolding outcome
  named_pair fit accepted b named =
      let loaded = judged_loads (ap (λ (v : Verdict). (outcome v).number) accepted) in
      let other = get_or (window w) b no_round in
      let holds = ((sheet_accepted sheet loaded round).0 accepted).1 in
      let sound = says_stable (says_accepts sheet loaded other) (λ not. fit (inr (inr (holds, (b, named, not))))) in
      let (inside, (same, apart), before) = named in
      record {
        first_accepted = accepted;
        second_accepted = (sheet_accepted sheet loaded other).1 sound;
        commitments = λ j l. sym (same j l);
        challenges = λ e. apart (sym e);
      }
