-- A loop that puts one element in front of an array and moves every other on by a place.
-- Assumes nothing.
use Prim.Native.Nat.{ℕ, zero, suc, ◌+◌, ◌≤◌, ◌<◌, min}
use mathlib.Core.Path.{◌≡◌, refl, sym, ◌∙◌}
use mathlib.Core.List.{List, ◌∷◌}
use native.Mathlib.Numerals.{add-one}
use native.Mathlib.Omega.{arith}
use lib.ListN.{length, get_or, take, replicate, length-replicate, length-take}
use lib.Seq.{ext_get_or, get_or-take}
use Rattle.lists.specs.Places.{tabulate, items_at}
use Rattle.lists.proofs.Places.{length_tabulate, get_d_tabulate}
use Rattle.lists.proofs.Filling.{Filled, filled_whole}

module _ {A : Type 0} (d newest : A) (old : List A) where
  -- what is to stand at each place
  abbrev pub moved : ℕ → A
  moved j = get_or (newest ∷ old) j d

  -- before the first turn the newest stands everywhere
  pub behind_start : (n : ℕ) → 0 < n → Filled (replicate n newest) n moved (replicate n newest) 1
  unfolding tabulate items_at
  behind_start zero some = elim some [ ]
  behind_start (suc n) some = record { room = rw (length-replicate (suc n) newest) (omega arith); within = omega arith; held = refl }

  -- the next element moves on by a place
  pub behind_at : (i : ℕ) → get_or old i d ≡ moved (i + 1)
  behind_at i = rw (add-one i)

  -- after the last one
  pub behind_end : (n i : ℕ) (l : List A) → n ≤ suc (length old) → n ≤ i → Filled (replicate n newest) n moved l i
      → l ≡ take n (newest ∷ old)
  behind_end n i l long past filled =
      filled_whole filled past (length-replicate n newest) ∙
      ext_get_or d (tabulate n moved) (take n (newest ∷ old))
      (length_tabulate n moved ∙ sym (length-take n (newest ∷ old) ∙ shorter n (suc (length old)) long))
      (λ j inside.
      let less : j < n = rw (length_tabulate n moved) at inside in
      get_d_tabulate n moved j d less ∙ sym (get_or-take n (newest ∷ old) j d less))
    where
      shorter : (a b : ℕ) → a ≤ b → min a b ≡ a
      shorter a b h = omega arith
