-- The bytes that a watch holds: a sheet's with zeros behind them, and compared with a sheet's, place by place or as a whole.
-- Assumes nothing.
use Prim.Native.Nat.{ℕ, ◌-◌, ◌≤◌, ◌<◌}
use mathlib.Core.Path.{◌≡◌, refl, sym, ap, ◌∙◌}
use mathlib.Core.Bool.{true, false}
use mathlib.Core.Logic.{◌≢◌}
use mathlib.Core.List.{List, ◌++◌}
use native.Mathlib.Omega.{arith}
use borrow.Author.Tests.{eq-eqb, ne_eqb, lt-ltb, le-ltb}
use lib.Dec.{eqb}
use lib.ListN.{length, get_or, take, drop, replicate, length-take}
use Rattle.std.proofs.Common.{Decides}
use Rattle.std.proofs.lemmas.Bool.Decides.{same_from_decides}
use Rattle.std.proofs.lemmas.List.{drop-replicate, get_or-take}
use Rattle.types.specs.declared.Round.{Round}
use Rattle.lists.specs.Places.{places}
use Rattle.lists.proofs.Filling.{Filled, filled_copies}
use Rattle.lists.proofs.Places.{places_is, places_whole}
use Rattle.sigma.specs.Comparison.{first_difference, differ}
use Rattle.watches.specs.Watch.{is_watched}
use Rattle.watches.proofs.Bytes.{says_watched}
use Rattle.watches.specs.declared.Watch.{Watch}
use Rattle.watch_parts.specs.Parts.{watch_with}

-- all numbers of a list stand in front of zeros
pub held_whole : (m : ℕ) (xs : List ℕ) {l : List ℕ} {i : ℕ} → Filled (replicate m 0) (length xs) (λ j. get_or xs j 0) l i
    → length xs ≤ i → l ≡ xs ++ replicate (m - length xs) 0
unfolding places
held_whole m xs filled past =
    filled_copies 0 m (length xs) filled past ∙
    ap (λ (ys : List ℕ). ys ++ replicate (m - length xs) 0) (places_whole (length xs) xs refl)

-- a list stored at the front of zeros
pub held_front : (m : ℕ) (xs : List ℕ) {front : List ℕ} → front ≡ xs
    → front ++ drop (length xs) (replicate m 0) ≡ xs ++ replicate (m - length xs) 0
held_front m xs is_front = rw (is_front, drop-replicate {X = ℕ} (length xs) m 0)

-- the places that are read of a list are its first ones
places_taken : (n : ℕ) (xs : List ℕ) → n ≤ length xs → places n xs ≡ take n xs
places_taken n xs within =
    (places_is n xs (take n xs)).1 (omega (arith, length-take n xs), λ j b. sym (get_or-take n xs j 0 (omega (arith, length-take n xs))))

module _ (w : Watch) (sheet : List ℕ) where
  -- another length
  pub other_length : w.length ≢ length sheet → eqb w.length (length sheet) ≡ is_watched w sheet
  unfolding is_watched
  other_length other = rw (ne_eqb w.length (length sheet) other)

  -- the same length: the bytes decide
  pub same_length : w.length ≡ length sheet → length sheet ≤ length w.sheet → (r : _) → Decides r (sheet ≡ take w.length w.sheet)
      → r ≡ is_watched w sheet
  same_length same within r decides =
      let says = says_watched w sheet in
      let read : places w.length w.sheet ≡ take w.length w.sheet = places_taken w.length w.sheet (omega arith) in
      same_from_decides r _ decides (λ t. sym (says.sound t) ∙ read, λ e. says.complete (read ∙ sym e))

module _ (rounds : List Round) (held : List ℕ) (size count : ℕ) (sheet : List ℕ) where
  module _ (same : size ≡ length sheet) (i : ℕ) (first : i ≡ first_difference (length sheet) held sheet) where
    -- a byte that differs
    pub other_byte : i < length sheet → false ≡ is_watched (watch_with rounds held size count) sheet
    unfolding is_watched differ
    other_byte below = rw (eq-eqb size (length sheet) same, ← first, lt-ltb i (length sheet) below)

    -- none that does
    pub same_bytes : length sheet ≤ i → true ≡ is_watched (watch_with rounds held size count) sheet
    unfolding is_watched differ
    same_bytes past = rw (eq-eqb size (length sheet) same, ← first, le-ltb i (length sheet) past)
