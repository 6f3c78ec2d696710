-- The whole answer to a round: the watch that is handed back, beside what is told.
-- Assumes nothing.
use Prim.Native.Nat.{ℕ, suc, ◌<◌, min}
use mathlib.Core.Path.{◌≡◌, refl, sym, ap, ◌∙◌}
use mathlib.Core.Bool.{cond}
use mathlib.Core.Logic.{◌≢◌}
use mathlib.Core.List.{List, [], ◌∷◌}
use lib.ListN.{take}
use Rattle.types.specs.declared.Round.{Round}
use Rattle.types.specs.declared.Verdict.{Verdict}
use Rattle.types.specs.declared.Verdict.TheVariants.{Accepted, Rejected, Refused}
use Rattle.lists.specs.Places.{zeros8}
use Rattle.rules.specs.Rule.{Rule, lowest, Clear}
use Rattle.rules.proofs.Lowest.{lowest_earlier, lowest_later}
use Rattle.sigma.specs.Answer.{is_accepted}
use Rattle.sigma.specs.Instance.{Instance}
use Rattle.sigma.specs.Reads.{padded_round}
use Rattle.sigma.proofs.Answer.{judged_positive}
use Rattle.watches.specs.Watch.{noting, remembering, watch_after, watch_rules, watch_verdict}
use Rattle.watches.specs.declared.Watch.{Watch}
use Rattle.watch_parts.specs.Parts.{watch_with}
use Rattle.watch.specs.Told.{told_of}
use Rattle.watch.specs.declared.loaded.Told.{Told}
use Rattle.watch.proofs.Hearing.{told_accepted, told_other}

module _ (sheet : List ℕ) (w : Watch) (round : Round) where
  -- rules before it that do not apply change nothing
  pub watch_after_clear : (before : List Rule) (inst : Instance) → Clear before
      → watch_after before sheet inst w round ≡ watch_after [] sheet inst w round
  unfolding watch_after watch_verdict
  watch_after_clear before inst none = rw (lowest_later before (watch_rules sheet inst w round) none)

  -- one that applies gives the verdict, and the watch comes back as it is
  pub watch_after_refused : (before : List Rule) (inst : Instance) → 0 < lowest before
      → watch_after before sheet inst w round ≡ record { watch = w; witness = zeros8; back = 0; verdict = Refused (lowest before) }
  unfolding watch_after watch_verdict is_accepted
  watch_after_refused before inst some =
      rw (lowest_earlier before (watch_rules sheet inst w round) some, judged_positive (lowest before) _ some)

  module _ (inst : Instance) where
    -- the verdict that is answered
    answered_verdict : (watch_after [] sheet inst w round).verdict ≡ watch_verdict [] sheet inst w round
    unfolding watch_after noting is_accepted
    answered_verdict = answered (watch_verdict [] sheet inst w round)
      where
        answered : (v : Verdict)
            → (cond (is_accepted v) (noting inst w round) (record { watch = w; witness = zeros8; back = 0; verdict = v })).verdict ≡ v
        answered Accepted = refl
        answered (Rejected mask) = refl
        answered (Refused number) = refl

    module _ {told : Told} (is_told : told ≡ told_of (watch_after [] sheet inst w round)) where
      -- so it is what is told
      told_verdict_law : watch_verdict [] sheet inst w round ≡ told.verdict
      told_verdict_law = sym answered_verdict ∙ ap (λ (t : Told). t.verdict) (sym is_told)

      -- an accepted round is remembered
      pub accepted_answer : told.verdict ≡ Accepted → {rounds : List Round} {newest : Round} {count : ℕ}
          → newest ≡ padded_round inst.header round → rounds ≡ take 63 (newest ∷ w.rounds) → count ≡ min 63 (suc w.count)
          → record {
            watch = watch_with rounds w.sheet w.length count;
            witness = told.witness;
            back = told.back;
            verdict = told.verdict;
          } ≡ watch_after [] sheet inst w round
      unfolding noting remembering
      accepted_answer accepted is_newest are_rounds is_count =
          rw (is_told, told_accepted sheet inst w round (told_verdict_law ∙ accepted), are_rounds, is_newest, is_count)

      -- any other leaves the watch as it is
      pub other_answer : told.verdict ≢ Accepted
          → record { watch = w; witness = told.witness; back = told.back; verdict = told.verdict }
          ≡ watch_after [] sheet inst w round
      other_answer other = rw (is_told, told_other sheet inst w round told_verdict_law other)
