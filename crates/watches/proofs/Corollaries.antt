-- What is not read of a watch and of a round plays no part in what a watch says.
-- Assumes nothing.
use Prim.Native.Nat.{ℕ, zero, suc, ◌<◌, min}
use mathlib.Core.Path.{◌≡◌, refl, sym, ap, ◌∙◌}
use mathlib.Core.Logic.{◌≢◌}
use mathlib.Core.Bool.{Bool, true, false, not, ◌&&◌}
use mathlib.Core.List.{List, ◌∷◌}
use native.Mathlib.Omega.{arith}
use borrow.Author.Tests.{ltb-true}
use lib.ListN.{get_or}
use Rattle.types.specs.declared.Computed.{Computed}
use Rattle.types.specs.declared.Header.{Header}
use Rattle.types.specs.declared.Round.{Round}
use Rattle.types.specs.declared.Verdict.{Verdict}
use Rattle.types.specs.declared.Verdict.TheVariants.{Accepted}
use Rattle.lists.specs.Places.{places}
use Rattle.lists.proofs.Places.{places_agree}
use Rattle.numbers.proofs.Search.{find_agree}
use Rattle.numbers.specs.Search.{find}
use Rattle.rules.specs.Call.{Call, answer}
use Rattle.rules.proofs.Says.{says_elim, says_iff, says_same}
use Rattle.formats.specs.Sheet.{instance_of}
use Rattle.sigma.specs.Answer.{is_accepted}
use Rattle.sigma.specs.Extractor.{extract_loaded}
use Rattle.sigma.specs.Reads.{Agree, SameRound, padded_round}
use Rattle.sigma.proofs.Tests.{says_accepted}
use Rattle.sigma.proofs.Unread.{extracting_same, judge_same, judging_same, same_round_of_padded}
use Rattle.sigma.proofs.Unread.{same_round_sym, same_round_trans}
use Rattle.watches.specs.Corollaries.{SameWatch, WatchCorollaries}
use Rattle.watches.specs.Ours.{watch_calls}
use Rattle.watches.specs.Watch.{is_named, is_watched, named_round, nearest, noting, reuses, unfit_watch, watch_round}
use Rattle.watches.specs.Watch.{watch_rules, watch_verdict}
use Rattle.watches.specs.WatchesNonces.{Remembers}
use Rattle.watches.specs.Window.{no_round, remembered_at, window}
use Rattle.watches.specs.declared.Watch.{Watch}
use Rattle.watches.proofs.Bytes.{says_watched}
use Rattle.watches.proofs.Call.{told_accepted, told_other, told_verdict_law, told_verdict}
use Rattle.watches.proofs.Named.{says_reuses}
use Rattle.watches.proofs.WatchAnswers.{watch_answers}
use Rattle.watches.proofs.Window.{next_at, window_at}

-- a second test counts only where the first passes
and_same : (a b c : Bool) → (a ≡ true → b ≡ c) → (a && b) ≡ (a && c)
and_same true b c same = same refl
and_same false b c same = refl

-- rounds that are the same reuse alike
reuse_over : (h : Header) {round round' other other' : Round} → SameRound h round round' → SameRound h other other'
    → Agree h.rows other.commitment round.commitment × (other.challenge ≢ round.challenge)
    → Agree h.rows other'.commitment round'.commitment × (other'.challenge ≢ round'.challenge)
reuse_over h s o (agree, apart) = (
  λ j b. sym (o.commitment j b) ∙ agree j b ∙ s.commitment j b,
  λ e. apart (o.challenge ∙ e ∙ sym s.challenge),
)

module _ (sheet : List ℕ) (w w' : Watch) (round round' : Round) (same : SameWatch sheet w w')
    (alike : SameRound (instance_of sheet).header round round') where
  -- the sheet's bytes are held by both or by neither
  watched_same : is_watched w sheet ≡ is_watched w' sheet
  watched_same =
      let held : places w.length w.sheet ≡ places w'.length w'.sheet =
      places_agree w.length w.sheet w'.sheet same.bytes ∙ ap (λ (n : ℕ). places n w'.sheet) same.long in
      says_same (says_watched w sheet) (says_iff (says_watched w' sheet) (λ e. held ∙ e, λ e. sym held ∙ e))

  -- the search ends at one place
  nearest_same : nearest (instance_of sheet).header w round ≡ nearest (instance_of sheet).header w' round'
  unfolding nearest
  nearest_same =
      let h = (instance_of sheet).header in
      find_agree _ _ 0 w.count (λ i from before.
      let other = same.rounds i (omega arith) in
      says_same (says_reuses h round (remembered_at w i))
      (says_iff (says_reuses h round' (remembered_at w' i))
      (reuse_over h (same_round_sym alike) (same_round_sym other), reuse_over h alike other)))
      ∙ ap (find (λ i. reuses (instance_of sheet).header round' (remembered_at w' i)) 0) same.count

  named_same : is_named (instance_of sheet).header w round ≡ is_named (instance_of sheet).header w' round'
  unfolding is_named
  named_same = rw (nearest_same, same.count)

  -- and the rounds there are the same
  round_same : is_named (instance_of sheet).header w round ≡ true
      → SameRound (instance_of sheet).header (named_round (instance_of sheet).header w round) (named_round (instance_of sheet).header w' round')
  unfolding is_named named_round
  round_same named = rw (← nearest_same) (same.rounds _ (ltb-true _ _ named))

  -- so 21 applies to both or to neither
  unfit_same : unfit_watch sheet (instance_of sheet) w round ≡ unfit_watch sheet (instance_of sheet) w' round'
  unfolding unfit_watch
  unfit_same =
      let inst = instance_of sheet in
      let forged = and_same (is_named inst.header w round) _ _
      (λ named. ap (λ (v : Verdict). not (is_accepted v)) (judge_same inst (round_same named))) in
      rw (forged, named_same, watched_same, judge_same inst alike, same.count)

  -- the verdict is one
  verdict_same : told_verdict sheet w round ≡ told_verdict sheet w' round'
  unfolding watch_verdict watch_rules
  verdict_same = rw (unfit_same, judging_same (instance_of sheet) alike)

  -- so is what is noted of an accepted round
  noted_back : (noting (instance_of sheet) w round).back ≡ (noting (instance_of sheet) w' round').back
  unfolding noting
  noted_back = rw (named_same, nearest_same)

  noted_witness : (noting (instance_of sheet) w round).witness ≡ (noting (instance_of sheet) w' round').witness
  unfolding noting extract_loaded
  noted_witness = go (is_named (instance_of sheet).header w round) refl
    where
      go : (t : Bool) → is_named (instance_of sheet).header w round ≡ t
          → (noting (instance_of sheet) w round).witness ≡ (noting (instance_of sheet) w' round').witness
      go true e =
          rw (e, sym named_same ∙ e)
          (ap (λ (c : Call Computed). (answer c).values) (extracting_same (instance_of sheet) alike (round_same e)))
      go false e = rw (e, sym named_same ∙ e)

  -- what both are told
  module _ (accepted : told_verdict sheet w round ≡ Accepted) where
    told : watch_round sheet w round ≡ noting (instance_of sheet) w round
    told = told_accepted sheet w round accepted

    told' : watch_round sheet w' round' ≡ noting (instance_of sheet) w' round'
    told' = told_accepted sheet w' round' (sym verdict_same ∙ accepted)

  read_same : ((watch_round sheet w round).verdict ≡ (watch_round sheet w' round').verdict)
      × ((watch_round sheet w round).back ≡ (watch_round sheet w' round').back)
      × ((watch_round sheet w round).witness ≡ (watch_round sheet w' round').witness)
  unfolding noting
  read_same =
      says_elim (says_accepted (told_verdict sheet w round))
      (λ e. rw (told e, told' e) (refl, noted_back, noted_witness))
      (λ n. rw (told_other sheet w round n, told_other sheet w' round' (λ e. n (verdict_same ∙ e))) (verdict_same, refl, refl))

  -- ---- the watch that is handed back

  module _ (next next' : Watch) (more : Remembers sheet round w next) (more' : Remembers sheet round' w' next') where
    -- a round of those that are remembered with one more
    each_same : (i : ℕ) → i < suc w.count
        → SameRound (instance_of sheet).header (get_or (padded_round (instance_of sheet).header round ∷ window w) i no_round)
        (get_or (padded_round (instance_of sheet).header round' ∷ window w') i no_round)
    each_same zero inside =
        let h = (instance_of sheet).header in
        same_round_trans (same_round_of_padded h round) (same_round_trans alike (same_round_sym (same_round_of_padded h round')))
    each_same (suc i) inside =
        let here : i < w'.count = omega (arith, same.count) in
        rw (window_at w i (omega arith), window_at w' i here) (same.rounds i (omega arith))

    next_same : SameWatch sheet next next'
    next_same = record {
      long = more.long ∙ same.long ∙ sym more'.long;
      bytes = rw (more.long, more.bytes, more'.bytes) same.bytes;
      count = more.count ∙ ap (λ (n : ℕ). min 63 (suc n)) same.count ∙ sym more'.count;
      rounds = λ i inside.
          let few : i < 63 = omega (arith, more.count) in
          let here : i < suc w.count = omega (arith, more.count) in
          rw (next_at sheet round w next more i few here, next_at sheet round' w' next' more' i few (omega (arith, same.count)))
          (each_same i here);
    }

  watch_same : SameWatch sheet (watch_round sheet w round).watch (watch_round sheet w' round').watch
  watch_same =
      says_elim (says_accepted (told_verdict sheet w round))
      (λ e.
      let accepted = told_verdict_law sheet w round ∙ e in
      let accepted' = told_verdict_law sheet w' round' ∙ sym verdict_same ∙ e in
      next_same _ _ (watch_answers.accepted sheet w round accepted).0 (watch_answers.accepted sheet w' round' accepted').0)
      (λ n. rw (told_other sheet w round n, told_other sheet w' round' (λ e. n (verdict_same ∙ e))) same)

pub watch_corollaries : WatchCorollaries watch_calls
watch_corollaries = record { read = read_same; next = watch_same }
