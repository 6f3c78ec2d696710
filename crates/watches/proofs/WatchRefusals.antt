-- The calls on a watch are refused exactly by their conditions, and a refused call hands back the watch.
-- Assumes nothing.
use Prim.Native.Nat.{ℕ, ◌<◌}
use mathlib.Core.Path.{◌≡◌, refl, sym, ap, ◌∙◌}
use mathlib.Core.Logic.{◌⊎◌, ◌≢◌}
use mathlib.Core.Bool.{not, ◌&&◌}
use mathlib.Core.List.{List, [], ◌∷◌, ◌++◌, append_assoc}
use native.Mathlib.Omega.{arith}
use Rattle.types.specs.declared.Round.{Round}
use Rattle.types.specs.declared.Verdict.{Verdict}
use Rattle.types.specs.declared.Verdict.TheVariants.{Accepted, Refused}
use Rattle.lists.specs.Places.{zeros8}
use Rattle.rules.specs.Condition.{Given, ◌if◌}
use Rattle.rules.specs.Order.{is_sublist, refusal_order, sheet_numbers}
use Rattle.rules.specs.Refuses.{condition_numbers}
use Rattle.rules.specs.Rule.{Clear, Rule, ◌when◌}
use Rattle.rules.specs.Says.{Says}
use Rattle.rules.proofs.Condition.{given_behind, tests_append}
use Rattle.rules.proofs.Lowest.{lowest_clear}
use Rattle.rules.proofs.Refuses.{refuses_given, refuses_tested}
use Rattle.rules.proofs.Says.{says_and, says_iff, says_less, says_not, says_or}
use Rattle.formats.specs.Load.{load, load_refusal, load_rules}
use Rattle.formats.specs.Refusals.{load_conditions}
use Rattle.formats.specs.Sheet.{instance_of}
use Rattle.formats.proofs.Loads.{loads_valid}
use Rattle.formats.proofs.Refusals.{load_tests}
use Rattle.runs.proofs.Numbers.{judge_lowest}
use Rattle.runs.proofs.Outcome.{judged_kept, judged_number}
use Rattle.runs.proofs.RunsWhere.{rounds_run}
use Rattle.sigma.specs.Answer.{is_accepted, outcome}
use Rattle.sigma.specs.Judge.{judging, judge_loaded}
use Rattle.sigma.specs.Meaning.{Fits, Holds}
use Rattle.sigma.specs.Refusals.{judge_conditions}
use Rattle.rules.proofs.Answer.{unless_refused_positive}
use Rattle.sigma.proofs.Calls.{judge_not_refused, valid_judge_accepted}
use Rattle.sigma.proofs.Refusals.{judge_tests}
use Rattle.sigma.proofs.Tests.{says_accepted}
use Rattle.watches.specs.Ours.{watch_calls}
use Rattle.watches.specs.Refusals.{NamesForged, OtherBytes, watch_conditions}
use Rattle.watches.specs.Watch.{fresh_watch, is_named, named_round, nearest, open_watch, unfit_watch, watch_round, watch_rules}
use Rattle.watches.specs.Watch.{watch_verdict, zero_round}
use Rattle.watches.specs.WatchesNonces.{WatchRefusals}
use Rattle.watches.specs.Window.{remembered_at}
use Rattle.watches.specs.declared.Watch.{Watch}
use Rattle.watches.proofs.Bytes.{other_bytes, says_watched}
use Rattle.watches.proofs.Call.{told_other, told_verdict_law, told_verdict}
use Rattle.watches.proofs.Named.{nearest_is}
use Rattle.watches.proofs.Window.{window_at}

-- a verdict with a number is not accepted
numbered_other : (v : Verdict) → 0 < (outcome v).number → v ≢ Accepted
unfolding outcome
numbered_other v some e = let none : (outcome v).number ≡ 0 = ap (λ (u : Verdict). (outcome u).number) e in omega arith

-- ---- what 21 says

-- the refusals of a sheet and a round
abbrev sheet_judging : List ℕ → Round → List Rule
sheet_judging sheet round = load_rules sheet ++ (judging (instance_of sheet) round).refusals

-- if none of them applies, the sheet loads and the round fits
clear_fits : (sheet : List ℕ) (round : Round) → Clear (sheet_judging sheet round) → (load_refusal sheet ≡ 0) × Fits (instance_of sheet) round
unfolding load
clear_fits sheet round none =
    (rounds_run.judges sheet round).0 (judge_lowest sheet round ∙ lowest_clear (sheet_judging sheet round) none)

-- the test whether a round is accepted
pub says_accepts : (sheet : List ℕ) → load_refusal sheet ≡ 0 → (round : Round)
    → Says (is_accepted (judge_loaded (instance_of sheet) round)) (Fits (instance_of sheet) round × Holds (instance_of sheet) round)
says_accepts sheet loaded round =
    says_iff (says_accepted (judge_loaded (instance_of sheet) round))
    (valid_judge_accepted (instance_of sheet) round (loads_valid sheet loaded))

module _ (sheet : List ℕ) (w : Watch) (round : Round) where
  -- 21 as a fact
  abbrev pub Unfit : Type 0
  Unfit = OtherBytes sheet w ⊎ (63 < w.count) ⊎ (Holds (instance_of sheet) round × NamesForged sheet w round)

  module _ (loaded : load_refusal sheet ≡ 0) where
    -- the test whether the named round is not
    says_forged : Says
        (is_named (instance_of sheet).header w round &&
        not (is_accepted (judge_loaded (instance_of sheet) (named_round (instance_of sheet).header w round))))
        (NamesForged sheet w round)
    unfolding is_named named_round
    says_forged =
        let found = nearest (instance_of sheet).header w round in
        says_iff (says_and (says_less found w.count) (says_not (says_accepts sheet loaded (remembered_at w found)))) (
          λ (inside, forged). (
            found,
            (nearest_is sheet w round found).0 (inside, refl),
            rw (window_at w found inside) forged,
          ),
          λ (b, named, forged).
              let (inside, is) = (nearest_is sheet w round b).1 named in
              rw is (inside, rw (window_at w b inside) at forged),
        )

    -- the whole test, of a round that fits
    says_unfit : Fits (instance_of sheet) round → Says (unfit_watch sheet (instance_of sheet) w round) Unfit
    unfolding unfit_watch
    says_unfit fits =
        says_or (says_iff (says_not (says_watched w sheet)) (other_bytes w sheet))
        (says_or (says_less 63 w.count)
        (says_and (says_iff (says_accepts sheet loaded round) (λ x. x.1, λ holds. (fits, holds))) says_forged))

  -- ---- giving a round

  -- the number is that of the first condition that holds
  watch_number : Given (load_conditions sheet ++ watch_conditions sheet w round) (outcome (watch_round sheet w round).verdict).number
  unfolding watch_verdict watch_rules
  watch_number =
      rw (
        told_verdict_law sheet w round,
        judged_number _ _ (judge_not_refused (instance_of sheet) round),
        ← append_assoc (load_rules sheet) _ ((21 when unfit_watch sheet (instance_of sheet) w round) ∷ []),
      )
      (given_behind (sheet_judging sheet round) ((21 when unfit_watch sheet (instance_of sheet) w round) ∷ [])
      (load_conditions sheet ++ judge_conditions (instance_of sheet) round) ((21 if Unfit) ∷ [])
      (tests_append (load_rules sheet) _ (load_conditions sheet) _ (load_tests sheet) (judge_tests (instance_of sheet) round))
      (λ none. let (loaded, fits) = clear_fits sheet round none in (refl, says_unfit loaded fits, tt)))

  -- a verdict with a number is that refusal
  told_refused : 0 < (outcome (told_verdict sheet w round)).number
      → told_verdict sheet w round ≡ Refused (outcome (told_verdict sheet w round)).number
  unfolding watch_verdict
  told_refused = judged_kept _ _ (judge_not_refused (instance_of sheet) round)

  -- a refused call hands back the watch
  watch_left : 0 < (outcome (watch_round sheet w round).verdict).number
      → watch_round sheet w round
      ≡ record { watch = w; witness = zeros8; back = 0; verdict = Refused (outcome (watch_round sheet w round).verdict).number }
  watch_left some =
      let is = told_verdict_law sheet w round in
      let positive = rw is at some in
      told_other sheet w round (numbered_other _ positive)
      ∙ ap (λ (v : Verdict). record { watch = w; witness = zeros8; back = 0; verdict = v })
      (told_refused positive ∙ ap (λ (v : Verdict). Refused (outcome v).number) (sym is))

-- ---- both calls

pub watch_refusals : WatchRefusals watch_calls
unfolding condition_numbers is_sublist refusal_order sheet_numbers open_watch fresh_watch zero_round
watch_refusals = record {
  opening = λ sheet. refuses_tested _ _ refl refl _ (load_tests sheet) (unless_refused_positive (fresh_watch sheet) (fresh_watch []) _);
  hearing = λ sheet w round. refuses_given _ _ refl refl _ (watch_number sheet w round) (watch_left sheet w round);
}
