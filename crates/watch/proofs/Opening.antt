-- Opening a watch, with the sheet's number or without one.
-- Assumes nothing.
use Prim.Native.Nat.{ℕ, ◌-◌, ◌<◌}
use mathlib.Core.Path.{◌≡◌}
use mathlib.Core.List.{List, ◌++◌}
use lib.ListN.{length, replicate}
use Rattle.rules.specs.Rule.{lowest}
use Rattle.formats.specs.Load.{load_refusal, load_rules}
use Rattle.rules.proofs.Answer.{unless_refused_zero, unless_refused_positive}
use Rattle.watches.specs.Watch.{fresh_watch, open_watch, zero_round}
use Rattle.watches.specs.declared.Watch.{Watch}
use Rattle.watch_parts.specs.Parts.{watch_with}

module _ (sheet : List ℕ) where
  -- a refused sheet's number stands beside a watch of no bytes
  pub open_refused : {n : ℕ} → n ≡ lowest (load_rules sheet) → 0 < lowest (load_rules sheet) → {w : Watch}
      → w ≡ watch_with (replicate 63 zero_round) (replicate 308 0) 0 0 → record { watch = w; refusal = n } ≡ open_watch sheet
  unfolding open_watch fresh_watch
  open_refused number some fresh = rw (number, fresh, unless_refused_positive _ _ _ some)

  -- else the watch holds the sheet's
  pub open_clear : load_refusal sheet ≡ 0 → {held : List ℕ} → held ≡ sheet ++ replicate (308 - length sheet) 0 → {w : Watch}
      → w ≡ watch_with (replicate 63 zero_round) held (length sheet) 0 → record { watch = w; refusal = 0 } ≡ open_watch sheet
  unfolding load_refusal open_watch fresh_watch
  open_clear none is_held_lem fresh = rw (none, fresh, is_held_lem, unless_refused_zero)
