-- The remembered rounds, and those after one round more.
-- Assumes nothing.
use Prim.Native.Nat.{ℕ, zero, suc, ◌<◌, min}
use mathlib.Core.Path.{◌≡◌, refl, sym, ap, ◌∙◌}
use mathlib.Core.List.{List, ◌∷◌}
use native.Mathlib.Omega.{arith}
use lib.ListN.{length, get_or, take, length-take}
use lib.Seq.{ext_get_or, get_or-take}
use Rattle.types.specs.declared.Round.{Round}
use Rattle.lists.proofs.Places.{get_d_tabulate, length_tabulate}
use Rattle.formats.specs.Sheet.{instance_of}
use Rattle.sigma.specs.Reads.{padded_round}
use Rattle.watches.specs.WatchesNonces.{Remembers}
use Rattle.watches.specs.Window.{no_round, remembered_at, window}
use Rattle.watches.specs.declared.Watch.{Watch}

module _ (w : Watch) where
  -- how many are remembered
  pub length_window : length (window w) ≡ w.count
  unfolding window
  length_window = length_tabulate w.count (remembered_at w)

  -- the i-th of them
  pub window_at : (i : ℕ) → i < w.count → get_or (window w) i no_round ≡ remembered_at w i
  unfolding window
  window_at i inside = get_d_tabulate w.count (remembered_at w) i no_round inside

module _ (sheet : List ℕ) (round : Round) (w next : Watch) (more : Remembers sheet round w next) where
  -- what stands at a place after one round more: the round itself, or one of those before it
  pub next_at : (i : ℕ) → i < 63 → i < suc w.count
      → remembered_at next i ≡ get_or (padded_round (instance_of sheet).header round ∷ window w) i no_round
  unfolding remembered_at
  next_at i few inside =
      ap (λ (rounds : List Round). get_or rounds i no_round) more.rounds
      ∙ get_or-take 63 (padded_round (instance_of sheet).header round ∷ w.rounds) i no_round few ∙ older i inside
    where
      older : (j : ℕ) → j < suc w.count
          → get_or (padded_round (instance_of sheet).header round ∷ w.rounds) j no_round
          ≡ get_or (padded_round (instance_of sheet).header round ∷ window w) j no_round
      older zero b = refl
      older (suc j) b = sym (window_at w j (omega arith))

  -- it stands in front of those before it, of which the last 62 stay
  pub window_next : window next ≡ take 63 (padded_round (instance_of sheet).header round ∷ window w)
  window_next =
      let all = padded_round (instance_of sheet).header round ∷ window w in
      let long : length (take 63 all) ≡ min 63 (suc w.count) =
      length-take 63 all ∙ ap (λ (n : ℕ). min 63 (suc n)) (length_window w) in
      ext_get_or no_round (window next) (take 63 all) (length_window next ∙ more.count ∙ sym long) (λ i inside.
      let counted : i < next.count = rw (length_window next) at inside in
      let bound : i < min 63 (suc w.count) = rw more.count at counted in
      let few : i < 63 = omega arith in
      window_at next i counted ∙ next_at i few (omega arith) ∙ sym (get_or-take 63 all i no_round few))
