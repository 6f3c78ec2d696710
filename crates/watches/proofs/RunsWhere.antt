-- Each call on a watch is not refused exactly when WatchRuns says so, and the round that it names is the one that WatchRuns says.
-- Assumes nothing.
use Prim.Native.Nat.{ℕ, zero, suc, ◌<◌}
use mathlib.Core.Path.{◌≡◌, refl, sym, ap, subst, ◌∙◌}
use mathlib.Core.Logic.Iff
use mathlib.Core.Logic.{◌↔◌, inl, inr, ⊎_elim}
use mathlib.Core.List.{List}
use native.Mathlib.Omega.{arith}
use lib.ListN.{get_or}
use Rattle.types.specs.declared.Round.{Round}
use Rattle.types.specs.declared.Verdict.{Verdict}
use Rattle.types.specs.declared.Verdict.TheVariants.{Accepted}
use Rattle.lists.specs.Places.{places}
use Rattle.rules.proofs.Determined.{below_or_not, either}
use Rattle.formats.specs.Load.{load, load_refusal}
use Rattle.formats.specs.Ours.{file_calls}
use Rattle.runs.specs.Calls.{extract_witness, judge_round}
use Rattle.runs.specs.Ours.{Accepts, run_calls}
use Rattle.runs.proofs.Demand3.{one_commitment}
use Rattle.runs.proofs.Protocol.{sheet_accepted}
use Rattle.runs.proofs.ReadAlone.{judge_round_same}
use Rattle.runs.proofs.RunsWhere.{rounds_run}
use Rattle.sigma.specs.Answer.{outcome}
use Rattle.watches.specs.Ours.{watch_calls}
use Rattle.watches.specs.RunsWhere.{Again as AgainBy, WatchRuns}
use Rattle.watches.specs.Watch.{open_watch, watch_round}
use Rattle.watches.specs.WatchesNonces.{NamesNearest}
use Rattle.watches.specs.Window.{Nearest, Reuses, no_round, remembered_at, window}
use Rattle.watches.specs.declared.Watch.{Watch}
use Rattle.watches.proofs.Bytes.{other_bytes}
use Rattle.watches.proofs.Judged.{fit_bytes, judged_loads, named_pair, told_clear, told_fit, told_judged}
use Rattle.watches.proofs.WatchAnswers.{watch_answers}
use Rattle.watches.proofs.WatchRefusals.{Unfit}
use Rattle.watches.proofs.Window.{length_window, window_at}

-- of our calls
abbrev Again : List ℕ → Round → Round → Type 0
Again sheet round other = AgainBy run_calls sheet round other

-- the nearest counted round that has an accepted one's commitment and another challenge
abbrev NearestAgain : List ℕ → Watch → Round → ℕ → Type 0
NearestAgain sheet w round b =
    (b < w.count) × Again sheet round (get_or w.rounds b no_round) ×
    ((i : ℕ) → i < b → ¬ Again sheet round (get_or w.rounds i no_round))

module _ (sheet : List ℕ) (w : Watch) (round : Round) where
  -- the i-th round of the window
  counted_at : (i : ℕ) → i < w.count → get_or (window w) i no_round ≡ get_or w.rounds i no_round
  unfolding remembered_at
  counted_at i inside = window_at w i inside

  module _ (loaded : load_refusal sheet ≡ 0) (accepts : Accepts sheet round) where
    -- to have an accepted round's commitment is to be accepted with its c and r
    again_reuses : (other : Round) → Again sheet round other ↔ Reuses sheet round other
    again_reuses other = (
      λ (with_it, apart).
          (one_commitment sheet loaded other.commitment round.commitment round.challenge round.response with_it accepts, apart),
      λ (same, apart). (
        judge_round_same sheet (record { commitment = same; challenge = refl; response = λ j inside. refl }) ∙ accepts,
        apart,
      ),
    )

    -- of a counted round
    again_at : (i : ℕ) → i < w.count → Again sheet round (get_or w.rounds i no_round) ↔ Reuses sheet round (get_or (window w) i no_round)
    again_at i inside = rw (counted_at i inside) (again_reuses (get_or w.rounds i no_round))

    -- so the nearest is one
    nearest_again : (b : ℕ) → NearestAgain sheet w round b ↔ Nearest sheet (window w) round b
    nearest_again b = (
      λ (inside, is, before). (
        rw (length_window w) inside,
        (again_at b inside).0 is,
        λ i less has. before i less ((again_at i (omega arith)).1 has),
      ),
      λ (within, is, before).
          let inside : b < w.count = rw (length_window w) at within in
          (inside, (again_at b inside).1 is, λ i less has. before i less ((again_at i (omega arith)).0 has)),
    )

  -- ---- when a round is not refused

  -- the nearest counted round is accepted
  abbrev NearestAccepted : Type 0
  NearestAccepted =
      Accepts sheet round → (b : ℕ) → b < w.count → Again sheet round (get_or w.rounds b no_round)
      → ((i : ℕ) → i < b → ¬ Again sheet round (get_or w.rounds i no_round)) → Accepts sheet (get_or w.rounds b no_round)

  -- then 21 does not apply to a round that judging does not refuse if the watch is one of the sheet's
  runs_fit : (outcome (judge_round sheet round)).number ≡ 0 → places w.length w.sheet ≡ sheet → w.count < 64
      → NearestAccepted → ¬ Unfit sheet w round
  unfolding load
  runs_fit judged same few nearest unfit =
      let (loaded, fits) = (rounds_run.judges sheet round).0 judged in
      ⊎_elim (λ other. (other_bytes w sheet).1 other same)
      (⊎_elim (λ (many : 63 < w.count). omega (arith, few, many))
      (λ (holds, (b, named, forged)).
      let accepts = (sheet_accepted sheet loaded round).1 (fits, holds) in
      let (inside, is, before) = (nearest_again loaded accepts b).1 named in
      let sound = subst (Accepts sheet) (sym (counted_at b inside)) (nearest accepts b inside is before) in
      forged ((sheet_accepted sheet loaded (get_or (window w) b no_round)).0 sound))) unfit

  -- giving a round
  hears_where : ((outcome (watch_round sheet w round).verdict).number ≡ 0)
      ↔ (((outcome (judge_round sheet round)).number ≡ 0) × (places w.length w.sheet ≡ sheet) × (w.count < 64) × NearestAccepted)
  hears_where = (
    λ none.
        let (judged, fit) = told_clear sheet w round none in
        let few : ¬ (63 < w.count) = λ many. fit (inr (inl many)) in (
          judged,
          fit_bytes sheet w round fit,
          omega (arith, few),
          λ accepts b inside is before.
              let named = (nearest_again (judged_loads sheet w round judged) accepts b).0 (inside, is, before) in
              subst (Accepts sheet) (counted_at b inside) (named_pair sheet w round fit accepts b named).second_accepted,
        ),
    λ (judged, same, few, nearest). told_fit sheet w round (runs_fit judged same few nearest) ∙ judged,
  )

  -- ---- which round is named

  module _ (told : (watch_round sheet w round).verdict ≡ Accepted) where
    -- it is not refused
    told_none : (outcome (watch_round sheet w round).verdict).number ≡ 0
    unfolding outcome
    told_none = ap (λ (v : Verdict). (outcome v).number) told

    told_accepts : Accepts sheet round
    told_accepts = sym (told_judged sheet w round told_none) ∙ told

    names_nearest : NamesNearest run_calls sheet (window w) round (watch_round sheet w round)
    names_nearest = (watch_answers.accepted sheet w round told).1

    -- the extractor takes the round that is named
    named_taken : (b : ℕ) → Nearest sheet (window w) round b
        → (extract_witness sheet round (get_or w.rounds b no_round)).refusal ≡ 0
    named_taken b named =
        let (judged, fit) = told_clear sheet w round told_none in
        let inside : b < w.count = rw (length_window w) at named.0 in
        subst (λ (other : Round). (extract_witness sheet round other).refusal ≡ 0) (counted_at b inside)
        ((rounds_run.extracts sheet round (get_or (window w) b no_round)).1 (named_pair sheet w round fit told_accepts b named))

    -- what it takes has the same commitment and another challenge
    taken_reuses : (i : ℕ) → i < w.count → (extract_witness sheet round (get_or w.rounds i no_round)).refusal ≡ 0
        → Reuses sheet round (get_or (window w) i no_round)
    taken_reuses i inside taken =
        let pair = (rounds_run.extracts sheet round (get_or w.rounds i no_round)).0 taken in
        rw (counted_at i inside) (λ j l. sym (pair.commitments j l), λ e. pair.challenges (sym e))

    -- so it is the nearest that the extractor takes
    names_where : (b : ℕ) → ((watch_round sheet w round).back ≡ suc b)
        ↔ ((b < w.count) × ((extract_witness sheet round (get_or w.rounds b no_round)).refusal ≡ 0)
        × ((i : ℕ) → i < b → 0 < (extract_witness sheet round (get_or w.rounds i no_round)).refusal))
    names_where b = (
      λ e.
          let named = (names_nearest.named b).0 e in
          let inside : b < w.count = rw (length_window w) at named.0 in (
            inside,
            named_taken b named,
            λ i less. either _ (λ taken. absurd (named.2 i less (taken_reuses i (omega arith) taken))) (λ some. some),
          ),
      λ (inside, taken, before). found inside taken before (watch_round sheet w round).back refl,
    )
      where
        found : b < w.count → (extract_witness sheet round (get_or w.rounds b no_round)).refusal ≡ 0
            → ((i : ℕ) → i < b → 0 < (extract_witness sheet round (get_or w.rounds i no_round)).refusal)
            → (k : ℕ) → (watch_round sheet w round).back ≡ k → (watch_round sheet w round).back ≡ suc b
        found inside taken before zero e =
            absurd (names_nearest.none.0 e b (rw (length_window w) inside) (taken_reuses b inside taken))
        found inside taken before (suc k) e =
            let named = (names_nearest.named k).0 e in
            below_or_not k b
            (λ less. absurd (omega (arith, before k less, named_taken k named)))
            (λ high. below_or_not b k (λ less. absurd (named.2 b less (taken_reuses b inside taken)))
            (λ low. e ∙ ap suc (omega (arith, high, low))))

pub watch_runs : WatchRuns file_calls run_calls watch_calls
unfolding open_watch load load_refusal
watch_runs = record { opens = λ sheet. Iff.rfl; hears = hears_where; names = names_where }
