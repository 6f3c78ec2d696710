-- Inverses and negative powers place by place.
-- Assumes nothing.
use Rattle.std.specs.Prelude.{ℕ, ◌*◌, ◌%◌, List, pos, neg_ℤ, get_or}
use Rattle.lists.specs.Places.{tabulate}
use Rattle.numbers.specs.Integer.{power}
use Rattle.numbers.specs.Inverse.{inverse}

-- the inverses of the first n places of xs modulo m
unfoldable pub inverses_of : ℕ → ℕ → List ℕ → List ℕ
inverses_of m n xs = tabulate n (λ i. inverse m (get_or xs i 0))

-- the first n places of xs times those of ys by −e, modulo m
unfoldable pub mul_negative_powers : ℕ → ℕ → ℕ → List ℕ → List ℕ → List ℕ
mul_negative_powers m e n xs ys = tabulate n (λ i. get_or xs i 0 * power m (get_or ys i 0) (neg_ℤ (pos e)) % m)
