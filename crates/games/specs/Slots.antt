-- Slot order, first slot leading: which of two choices of n numbers comes first, and the k-th choice of n numbers below q.
-- Assumes nothing.
use Rattle.std.specs.Prelude.{ℕ, zero, suc, ◌/◌, ◌%◌, ◌^◌, ◌<◌, List, [], ◌∷◌, get_or}
use Rattle.sigma.specs.Reads.{Agree}

-- r comes before r': in the first slot in which they differ it has the lower number
pub record Before (n : ℕ) (r r' : List ℕ) : Type 0 where
  pub slot : ℕ
  pub inside : slot < n
  pub earlier : Agree slot r r'
  pub lower : get_or r slot 0 < get_or r' slot 0

-- the k-th choice of n numbers below q, for a k below q^n: the digits of k to base q
unfoldable pub slots_of : ℕ → ℕ → ℕ → List ℕ
slots_of q zero k = []
slots_of q (suc n) k = k / q ^ n ∷ slots_of q n (k % q ^ n)
