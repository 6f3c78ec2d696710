-- One round given to a watch, whatever it brings: its verdict, and that only an accepted round changes the watch.
-- Assumes nothing.
use Prim.Native.Nat.{ℕ}
use mathlib.Core.Path.{◌≡◌, refl}
use mathlib.Core.Bool.{cond}
use mathlib.Core.Logic.{◌≢◌}
use mathlib.Core.List.{List}
use Rattle.types.specs.declared.Round.{Round}
use Rattle.types.specs.declared.Verdict.{Verdict}
use Rattle.types.specs.declared.Verdict.TheVariants.{Accepted, Rejected, Refused}
use Rattle.lists.specs.Places.{zeros8}
use Rattle.rules.proofs.Says.{says_false}
use Rattle.formats.specs.Load.{load_rules}
use Rattle.formats.specs.Sheet.{instance_of}
use Rattle.sigma.specs.Answer.{is_accepted}
use Rattle.sigma.proofs.Tests.{says_accepted}
use Rattle.watches.specs.Watch.{noting, watch_after, watch_round, watch_verdict}
use Rattle.watches.specs.declared.Watch.{Watch}
use Rattle.watches.specs.declared.Watched.{Watched}

module _ (sheet : List ℕ) (w : Watch) (round : Round) where
  -- the verdict on the round
  abbrev pub told_verdict : Verdict
  told_verdict = watch_verdict (load_rules sheet) sheet (instance_of sheet) w round

  -- it is the verdict that is answered
  pub told_verdict_law : (watch_round sheet w round).verdict ≡ told_verdict
  unfolding watch_round watch_after noting is_accepted
  told_verdict_law = told told_verdict _ refl
    where
      told : (v : Verdict) (other : Watched) → other.verdict ≡ v → (cond (is_accepted v) (noting (instance_of sheet) w round) other).verdict ≡ v
      told Accepted other e = refl
      told (Rejected mask) other e = e
      told (Refused number) other e = e

  -- an accepted round is noted
  pub told_accepted : told_verdict ≡ Accepted → watch_round sheet w round ≡ noting (instance_of sheet) w round
  unfolding watch_round watch_after
  told_accepted e = rw ((says_accepted told_verdict).complete e)

  -- any other leaves the watch as it is
  pub told_other : told_verdict ≢ Accepted
      → watch_round sheet w round ≡ record { watch = w; witness = zeros8; back = 0; verdict = told_verdict }
  unfolding watch_round watch_after
  told_other n = rw ((says_false (says_accepted told_verdict)).1 n)
