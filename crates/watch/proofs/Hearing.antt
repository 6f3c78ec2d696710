-- Giving a watch a round on loaded values, return by return: 14 to 16, 21, the verdict, and what an accepted round names.
-- Assumes nothing.
use Prim.Native.Nat.{ℕ, ◌+◌, ◌≤◌, ◌<◌}
use mathlib.Core.Path.{◌≡◌, refl, sym, ap, ◌∙◌}
use mathlib.Core.Bool.{true, false, not, ◌&&◌, or-true}
use mathlib.Core.Logic.{◌≢◌}
use mathlib.Core.List.{List, [], ◌∷◌}
use native.Mathlib.Numerals.{add-one}
use native.Mathlib.Omega.{arith}
use borrow.Author.Tests.{lt-ltb, le-ltb}
use lib.Dec.{ltb}
use Rattle.std.specs.Prelude.{Result, Ok, Err}
use Rattle.std.specs.Result.{result_unwrap_or}
use Rattle.types.specs.declared.Computed.{Computed}
use Rattle.types.specs.declared.Round.{Round}
use Rattle.types.specs.declared.Verdict.{Verdict}
use Rattle.types.specs.declared.Verdict.TheVariants.{Accepted, Rejected, Refused}
use Rattle.lists.specs.Places.{zeros8}
use Rattle.rules.specs.Call.{answer, number_of}
use Rattle.rules.specs.Rule.{Rule, ◌when◌, lowest}
use Rattle.rules.proofs.Lowest.{pass, stop, lowest_behind, lowest_earlier, lowest_later_zero}
use Rattle.rules.proofs.Says.{says_false}
use Rattle.refusals.specs.declared.Refusal.{Refusal}
use Rattle.refusals.specs.Number.{computed}
use Rattle.sigma.specs.Answer.{is_accepted, judged, outcome}
use Rattle.sigma.specs.Extractor.{extract_loaded}
use Rattle.sigma.specs.Instance.{Instance}
use Rattle.sigma.specs.Judge.{judging, judge_loaded}
use Rattle.sigma.proofs.Answer.{judged_positive}
use Rattle.sigma.proofs.Calls.{judge_not_refused, judge_refused}
use Rattle.sigma.proofs.Positive.{judge_positive}
use Rattle.sigma.proofs.Tests.{says_accepted}
use Rattle.runs.proofs.Outcome.{judged_number}
use Rattle.watches.specs.Watch.{is_named, is_watched, named_round, nearest, noting, unfit_watch, watch_after, watch_rules}
use Rattle.watches.specs.Watch.{watch_verdict}
use Rattle.watches.specs.Window.{remembered_at}
use Rattle.watches.specs.declared.Watch.{Watch}
use Rattle.watch.specs.Told.{told_of}

-- a verdict that is no refusal has no number
pub not_refused : (v : Verdict) → ((k : ℕ) → v ≢ Refused k) → (outcome v).number ≡ 0
unfolding outcome
not_refused Accepted other = refl
not_refused (Rejected mask) other = refl
not_refused (Refused number) other = absurd (other number refl)

-- a refusal is not accepted
refused_other : (n : ℕ) → Refused n ≢ Accepted
refused_other n e = let z : ◌≡◌ {A = ℕ} 0 1 = cc in omega arith

-- the values of extracting, and zeros where it is refused, are those of the record
pub values_or_zeros : (outcome : Result (List ℕ) Refusal) → result_unwrap_or outcome zeros8 ≡ (computed outcome).values
values_or_zeros (Ok values) = refl
values_or_zeros (Err refusal) = refl

module _ (sheet : List ℕ) (inst : Instance) (w : Watch) (round : Round) where
  -- the refusals of the round
  abbrev round_rules : List Rule
  round_rules = (judging inst round).refusals

  -- the verdict that the watch gives
  abbrev told_verdict : Verdict
  told_verdict = watch_verdict [] sheet inst w round

  -- ---- the verdict

  -- where 21 applies, a round that judging does not refuse gets it
  verdict_unfit : (outcome (judge_loaded inst round)).number ≡ 0 → unfit_watch sheet inst w round ≡ true → told_verdict ≡ Refused 21
  unfolding judge_loaded judging answer number_of judged watch_verdict watch_rules
  verdict_unfit none unfit =
      let clear = sym (judged_number (lowest round_rules) _ (judge_not_refused inst round)) ∙ none in
      rw (lowest_later_zero round_rules ((21 when unfit_watch sheet inst w round) ∷ []) (judge_positive inst round) clear, stop 21 [] unfit)
      (judged_positive 21 _ (omega arith))

  -- where it does not, each gets judging's verdict
  verdict_fit : unfit_watch sheet inst w round ≡ false → told_verdict ≡ judge_loaded inst round
  unfolding judge_loaded judging answer number_of judged watch_verdict watch_rules
  verdict_fit fit = rw (lowest_behind round_rules ((21 when unfit_watch sheet inst w round) ∷ []) [] (pass 21 [] fit))

  -- ---- the whole answer

  -- an accepted round is noted
  pub told_accepted : told_verdict ≡ Accepted → watch_after [] sheet inst w round ≡ noting inst w round
  unfolding watch_after
  told_accepted e = rw ((says_accepted told_verdict).complete e)

  -- any other leaves the watch as it is
  pub told_other : {v : Verdict} → told_verdict ≡ v → v ≢ Accepted
      → watch_after [] sheet inst w round ≡ record { watch = w; witness = zeros8; back = 0; verdict = v }
  unfolding watch_after
  told_other {v} same other = rw (same, (says_false (says_accepted v)).1 other)

  -- and names none
  unnamed_told : {v : Verdict} → told_verdict ≡ v → v ≢ Accepted
      → record { witness = zeros8; back = 0; verdict = v } ≡ told_of (watch_after [] sheet inst w round)
  unnamed_told same other = sym (ap told_of (told_other same other))

  -- ---- what is told

  -- a round that judging refuses is refused alike
  pub refused_told : {v : Verdict} → v ≡ judge_loaded inst round → {n : ℕ} → v ≡ Refused n
      → record { witness = zeros8; back = 0; verdict = Refused n } ≡ told_of (watch_after [] sheet inst w round)
  unfolding number_of watch_verdict watch_rules
  refused_told same {n} given =
      let (some, number) = (judge_refused inst round n).0 (sym same ∙ given) in
      let alike : told_verdict ≡ Refused n =
      rw (lowest_earlier round_rules ((21 when unfit_watch sheet inst w round) ∷ []) (rw number some), number) (judged_positive n _ some) in
      unnamed_told alike (refused_other n)

  -- any other gets 21 where it applies
  pub unfit_told : {v : Verdict} → v ≡ judge_loaded inst round → (outcome v).number ≡ 0 → unfit_watch sheet inst w round ≡ true
      → record { witness = zeros8; back = 0; verdict = Refused 21 } ≡ told_of (watch_after [] sheet inst w round)
  unfit_told same none unfit = unnamed_told (verdict_unfit (rw (sym same) none) unfit) (refused_other 21)

  -- ---- 21

  -- the watch was opened on other bytes
  pub unfit_bytes : is_watched w sheet ≡ false → unfit_watch sheet inst w round ≡ true
  unfolding unfit_watch
  unfit_bytes other = rw other

  -- or counts too many
  pub unfit_count : 63 < w.count → unfit_watch sheet inst w round ≡ true
  unfolding unfit_watch
  unfit_count many = rw (lt-ltb 63 w.count many, or-true)

  module _ (watched : is_watched w sheet ≡ true) (few : w.count ≤ 63) where
    -- else it is by the named round alone
    unfit_named : unfit_watch sheet inst w round
        ≡ is_accepted (judge_loaded inst round) &&
        (is_named inst.header w round && not (is_accepted (judge_loaded inst (named_round inst.header w round))))
    unfolding unfit_watch
    unfit_named = rw (watched, le-ltb 63 w.count few)

    -- a round that is not accepted names none
    pub rejected_told : {v : Verdict} → v ≡ judge_loaded inst round → v ≢ Accepted
        → record { witness = zeros8; back = 0; verdict = v } ≡ told_of (watch_after [] sheet inst w round)
    rejected_told {v} same other =
        let fit : unfit_watch sheet inst w round ≡ false = rw (unfit_named, sym same, (says_false (says_accepted v)).1 other) in
        unnamed_told (verdict_fit fit ∙ sym same) other

    module _ (accepted : judge_loaded inst round ≡ Accepted) where
      -- what is told of an accepted round that 21 does not apply to
      noted : is_named inst.header w round && not (is_accepted (judge_loaded inst (named_round inst.header w round))) ≡ false
          → watch_after [] sheet inst w round ≡ noting inst w round
      unfolding is_accepted
      noted sound = told_accepted (verdict_fit (rw (unfit_named, accepted, sound)) ∙ accepted)

      module _ (i : ℕ) (found : i ≡ nearest inst.header w round) where
        -- it names none
        pub none_told : w.count ≤ i
            → record { witness = zeros8; back = 0; verdict = Accepted } ≡ told_of (watch_after [] sheet inst w round)
        unfolding noting is_named
        none_told past =
            let none : ltb (nearest inst.header w round) w.count ≡ false = rw (← found, le-ltb i w.count past) in
            rw (noted (rw none), none)

        module _ (inside : i < w.count) where
          -- it names one
          is_named_law : is_named inst.header w round ≡ true
          unfolding is_named
          is_named_law = rw (← found, lt-ltb i w.count inside)

          -- this one
          named_is : named_round inst.header w round ≡ remembered_at w i
          unfolding named_round
          named_is = rw (← found)

          -- that is not accepted
          pub forged_told : {v : Verdict} → v ≡ judge_loaded inst (remembered_at w i) → v ≢ Accepted
              → record { witness = zeros8; back = 0; verdict = Refused 21 } ≡ told_of (watch_after [] sheet inst w round)
          unfolding is_accepted outcome
          forged_told {v} same other =
              let unfit : unfit_watch sheet inst w round ≡ true =
              rw (unfit_named, accepted, is_named_law, named_is, sym same, (says_false (says_accepted v)).1 other) in
              unfit_told refl (rw accepted) unfit

          -- that is
          pub named_told : {v : Verdict} → v ≡ judge_loaded inst (remembered_at w i) → v ≡ Accepted → {answer : Computed}
              → answer ≡ extract_loaded inst round (remembered_at w i)
              → record { witness = answer.values; back = i + 1; verdict = Accepted } ≡ told_of (watch_after [] sheet inst w round)
          unfolding noting is_accepted
          named_told same sound extracted =
              rw (noted (rw (is_named_law, named_is, sym same, sound)), is_named_law, named_is, ← found, extracted, add-one i)
