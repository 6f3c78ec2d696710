-- What a call on a watch answers if it is not refused: a new watch, and for a round the verdict of judging, what is remembered and
-- what is named.
-- Assumes nothing.
use Prim.Native.Nat.{ℕ, suc}
use mathlib.Core.Path.{◌≡◌, refl, sym, ap, ◌∙◌}
use mathlib.Core.Logic.Iff
use mathlib.Core.Logic.{◌↔◌, ◌≢◌}
use mathlib.Core.List.{List, []}
use borrow.Author.Tests.{le-ltb, lt-ltb}
use lib.ListN.{get_or}
use Rattle.types.specs.declared.Computed.{Computed}
use Rattle.types.specs.declared.Round.{Round}
use Rattle.types.specs.declared.Verdict.{Verdict}
use Rattle.types.specs.declared.Verdict.TheVariants.{Accepted}
use Rattle.lists.specs.Places.{zeros8}
use Rattle.formats.specs.Sheet.{instance_of}
use Rattle.runs.specs.Ours.{run_calls}
use Rattle.runs.proofs.Demand3.{sheet_extraction}
use Rattle.runs.proofs.Loaded.{extract_loaded_law}
use Rattle.sigma.specs.Answer.{outcome}
use Rattle.sigma.specs.Extractor.{extract_loaded}
use Rattle.rules.proofs.Answer.{unless_refused_zero}
use Rattle.watches.specs.Ours.{watch_calls}
use Rattle.watches.specs.Watch.{fresh_watch, is_named, named_round, nearest, noting, open_watch, remembering, watch_round}
use Rattle.watches.specs.Watch.{zero_round}
use Rattle.watches.specs.WatchesNonces.{NamesNearest, Remembers, WatchAnswers}
use Rattle.watches.specs.Window.{Nearest, no_round, window}
use Rattle.watches.specs.declared.Watch.{Watch}
use Rattle.watches.specs.declared.Watched.{Watched}
use Rattle.watches.proofs.Call.{told_accepted, told_other, told_verdict_law}
use Rattle.watches.proofs.Judged.{judged_loads, named_pair, told_clear, told_judged}
use Rattle.watches.proofs.Named.{counted_at, counted_none, nearest_is, nearest_none}
use Rattle.watches.proofs.Window.{window_at}

-- a new watch
opened : (sheet : List ℕ) → (open_watch sheet).refusal ≡ 0 → (open_watch sheet).watch ≡ fresh_watch sheet
unfolding open_watch
opened sheet e = rw e (unless_refused_zero (fresh_watch sheet) (fresh_watch []))

module _ (sheet : List ℕ) (w : Watch) (round : Round) where
  -- ---- what is noted of an accepted round

  -- by how many back the nearest stands
  noted_back : (b : ℕ) → ((noting (instance_of sheet) w round).back ≡ suc b) ↔ Nearest sheet (window w) round b
  unfolding noting is_named
  noted_back b = Iff.trans (counted_at (nearest (instance_of sheet).header w round) w.count b) (nearest_is sheet w round b)

  -- the witness of a round that stands b back
  noted_witness : (b : ℕ) → (noting (instance_of sheet) w round).back ≡ suc b
      → (noting (instance_of sheet) w round).witness ≡ (extract_loaded (instance_of sheet) round (get_or (window w) b no_round)).values
  unfolding noting is_named named_round
  noted_witness b e =
      let h = (instance_of sheet).header in
      let (inside, is) = (counted_at (nearest h w round) w.count b).0 e in
      rw (is, lt-ltb b w.count inside, window_at w b inside)

  -- zeros for none
  noted_none : (noting (instance_of sheet) w round).back ≡ 0 → (noting (instance_of sheet) w round).witness ≡ zeros8
  unfolding noting is_named
  noted_none e =
      let h = (instance_of sheet).header in
      rw (le-ltb (nearest h w round) w.count ((counted_none (nearest h w round) w.count).0 e))

  module _ (accepted : (watch_round sheet w round).verdict ≡ Accepted) where
    -- its number is 0
    no_number : (outcome (watch_round sheet w round).verdict).number ≡ 0
    unfolding outcome
    no_number = ap (λ (v : Verdict). (outcome v).number) accepted

    -- it is noted
    is_noted : watch_round sheet w round ≡ noting (instance_of sheet) w round
    is_noted = told_accepted sheet w round (sym (told_verdict_law sheet w round) ∙ accepted)

    -- the named round is the nearest, and the witness is the extractor's
    noted_names : NamesNearest run_calls sheet (window w) round (noting (instance_of sheet) w round)
    unfolding noting is_named
    noted_names =
        let h = (instance_of sheet).header in
        let (judged, fit) = told_clear sheet w round no_number in
        let loaded = judged_loads sheet w round judged in
        record {
          named = noted_back;
          none = Iff.trans (counted_none (nearest h w round) w.count) (nearest_none sheet w round);
          witness = λ b e. (
            noted_witness b e ∙ ap (λ (c : Computed). c.values) (sym (extract_loaded_law sheet loaded round _)),
            sheet_extraction sheet loaded round (get_or (window w) b no_round)
                (named_pair sheet w round fit (sym (told_judged sheet w round no_number) ∙ accepted) b ((noted_back b).0 e)),
          );
          no_witness = noted_none;
        }

    -- ---- an accepted round

    pub accepted_answer : Remembers sheet round w (watch_round sheet w round).watch
        × NamesNearest run_calls sheet (window w) round (watch_round sheet w round)
    unfolding noting remembering
    accepted_answer = rw is_noted (record { rounds = refl; count = refl; bytes = refl; long = refl }, noted_names)

  -- ---- any other

  pub other_answer : (watch_round sheet w round).verdict ≢ Accepted
      → ((watch_round sheet w round).watch ≡ w) × ((watch_round sheet w round).back ≡ 0) × ((watch_round sheet w round).witness ≡ zeros8)
  other_answer other =
      let kept = told_other sheet w round (λ e. other (told_verdict_law sheet w round ∙ e)) in
      (ap (λ (t : Watched). t.watch) kept, ap (λ (t : Watched). t.back) kept, ap (λ (t : Watched). t.witness) kept)

pub watch_answers : WatchAnswers run_calls watch_calls
unfolding fresh_watch zero_round
watch_answers = record {
  opened = opened;
  judged = told_judged;
  accepted = accepted_answer;
  unmoved = other_answer;
}
