-- Products and powers place by place.
-- Assumes nothing.
use Rattle.std.specs.Prelude.{◌≡◌, ℕ, ◌+◌, ◌*◌, ◌%◌, ◌^◌, ◌<◌, List, [], ◌∷◌, get_or}
use Rattle.lists.specs.Places.{tabulate}
use Rattle.powers.specs.declared.four.Four.{Four}

-- four numbers as a list
unfoldable pub lanes : Four → List ℕ
lanes x = x.a ∷ x.b ∷ x.c ∷ x.d ∷ []

-- four zeros
abbrev pub no_four : Four
no_four = record { a = 0; b = 0; c = 0; d = 0 }

-- the four numbers of a list from index i on
abbrev pub four_at : List ℕ → ℕ → Four
four_at xs i = record { a = get_or xs i 0; b = get_or xs (i + 1) 0; c = get_or xs (i + 2) 0; d = get_or xs (i + 3) 0 }

-- the products of the first n places of xs and ys modulo m
unfoldable pub products_of : ℕ → ℕ → List ℕ → List ℕ → List ℕ
products_of m n xs ys = tabulate n (λ i. get_or xs i 0 * get_or ys i 0 % m)

-- the powers of the first n places of xs by e modulo m
unfoldable pub powers_of : ℕ → ℕ → ℕ → List ℕ → List ℕ
powers_of m e n xs = tabulate n (λ i. get_or xs i 0 ^ e % m)

-- the first n places of xs times the powers of ys by e, modulo m
unfoldable pub mul_powers : ℕ → ℕ → ℕ → List ℕ → List ℕ → List ℕ
mul_powers m e n xs ys = tabulate n (λ i. get_or xs i 0 * get_or ys i 0 ^ e % m)

-- a list of fours has the powers of x by 0, 1, 2 and 3 modulo m
pub record FirstPowers (m : ℕ) (x : Four) (fours : List Four) : Type 0 where
  pub each : (d : ℕ) → d < 4 → lanes (get_or fours d no_four) ≡ powers_of m d 4 (lanes x)
