-- How a text of the game begins: a line of a challenge with a digit, `none` with its first letter, and neither as a refusal's line.
-- Assumes nothing.
use Prim.Native.Nat.{ℕ, ◌+◌, ◌<◌, ◌≤◌}
use mathlib.Core.Path.{◌≡◌, refl, ap}
use mathlib.Core.Logic.{◌↔◌, ◌≢◌}
use mathlib.Core.List.{List, [], ◌∷◌, ◌++◌, flatten, map}
use native.Mathlib.Omega.{arith}
use lib.ListN.{get_or, length}
use Rattle.encoding.specs.Text.{AllDigits, ascii, decimal, from_digits}
use Rattle.encoding.proofs.Text.{decimal_ascii, decimal_back, decimal_small}
use Rattle.games.specs.Prints.{shown, shown_line}

-- a numeral and what stands after it begin with a digit
first_digit : (n : ℕ) (x y z : List ℕ) → get_or (decimal n ++ x ++ y ++ z) 0 0 ≤ 57
unfolding from_digits
first_digit n x y z = begins (decimal n) (decimal_back n) (decimal_ascii n) (decimal_small n)
  where
    begins : (xs : List ℕ) → from_digits 0 xs ≡ n → AllDigits xs → (n < 10 → xs ≡ (48 + n) ∷ []) → get_or (xs ++ x ++ y ++ z) 0 0 ≤ 57
    begins [] back all small = absurd (omega (arith, ap length (small (omega (arith, back)))))
    begins (d ∷ xs) back (low, high, all) small = high

-- so does a text of lines
lines_begin : (response : ℕ → List ℕ) (c : ℕ) (cs : List ℕ) → get_or (shown response (c ∷ cs)) 0 0 ≤ 57
unfolding shown flatten
lines_begin response c cs =
    first_digit c (flatten (map (λ v. ascii " " ++ decimal v) (response c))) (ascii "\n")
    (flatten (map (λ d. shown_line d (response d)) cs))

-- no text of what is not refused is a refusal's line
pub shown_not_refused : (response : ℕ → List ℕ) (cs : List ℕ) (n : ℕ) → shown response cs ≢ ascii "refused " ++ decimal n ++ ascii "\n"
unfolding shown ascii
shown_not_refused response [] n same = absurd (omega (arith, ap (λ (l : List ℕ). get_or l 0 0) same))
shown_not_refused response (c ∷ cs) n same =
    absurd (omega (arith, lines_begin response c cs, ap (λ (l : List ℕ). get_or l 0 0) same))

-- and it is `none` exactly if there is no challenge
pub shown_none : (response : ℕ → List ℕ) (cs : List ℕ) → (shown response cs ≡ ascii "none\n") ↔ (cs ≡ [])
unfolding shown ascii
shown_none response [] = (λ same. refl, λ same. refl)
shown_none response (c ∷ cs) = (
  λ same. absurd (omega (arith, lines_begin response c cs, ap (λ (l : List ℕ). get_or l 0 0) same)),
  λ same. absurd (omega (arith, ap length same)),
)
