-- Numbers in decimal: the digits give the number back, are ASCII digits, have no leading zero, and are those of the tenth and
-- one more.
-- Assumes nothing.
use Prim.Native.Nat.{ℕ, zero, suc, ◌+◌, ◌-◌, ◌*◌, ◌/◌, ◌%◌, ◌^◌, ◌<◌, ◌≤◌}
use mathlib.Core.Path.{◌≡◌, refl, sym, ap, ◌∙◌}
use mathlib.Core.List.{List, [], ◌∷◌, ◌++◌}
use native.Mathlib.Decide.{dec_lt}
use native.Mathlib.Nat.{mod-eq_of_lt, pow-suc}
use native.Mathlib.Omega.{arith}
use lib.ListN.{length, get_or, length-append}
use borrow.Author.Tests.{lt-ltb, le-ltb}
use Rattle.encoding.specs.Text.{digits, decimal, from_digits, AllDigits}

-- ---- the digits of a number

-- a number below 10 has one digit
digits_small : (most n : ℕ) → n < 10 → digits most n ≡ (48 + n) ∷ []
unfolding digits
digits_small zero n h = rw (mod-eq_of_lt h)
digits_small (suc most) n h = rw (lt-ltb n 10 h, digits)

-- any other has the digits of its tenth and one more
digits_large : (most n : ℕ) → 10 ≤ n → digits (suc most) n ≡ digits most (n / 10) ++ (48 + n % 10) ∷ []
unfolding digits
digits_large most n h = rw (le-ltb n 10 h, digits)

-- the digits' number, one digit more at the end
from_digits_end : (high : ℕ) (ds : List ℕ) (d : ℕ) → from_digits high (ds ++ d ∷ []) ≡ from_digits high ds * 10 + (d - 48)
unfolding from_digits
from_digits_end high [] d = refl
from_digits_end high (e ∷ ds) d = from_digits_end (high * 10 + (e - 48)) ds d

-- enough digits give the number back
digits_back : (most n : ℕ) → n ≤ most → from_digits 0 (digits most n) ≡ n
unfolding digits from_digits
digits_back zero n h = omega arith
digits_back (suc most) n h = elim (dec_lt n 10) [
  | yes small ↦ rw (digits_small (suc most) n small) (omega arith)
  | no large ↦
      let rest : from_digits 0 (digits most (n / 10)) ≡ n / 10 = digits_back most (n / 10) (omega arith) in
      rw (digits_large most n (omega arith), from_digits_end 0 (digits most (n / 10)) (48 + n % 10), rest) (omega arith)
]

-- one ASCII digit more at the end
all_digits_end : (ds : List ℕ) (d : ℕ) → AllDigits ds → 48 ≤ d → d ≤ 57 → AllDigits (ds ++ d ∷ [])
all_digits_end [] d all low high = (low, high, tt)
all_digits_end (e ∷ ds) d all low high = (all.0, all.1, all_digits_end ds d all.2 low high)

-- digits are ASCII digits
digits_ascii : (most n : ℕ) → AllDigits (digits most n)
unfolding digits
digits_ascii zero n = (omega arith, omega arith, tt)
digits_ascii (suc most) n = elim (dec_lt n 10) [
  | yes small ↦ rw (digits_small (suc most) n small) (omega arith, omega arith, tt)
  | no large ↦
      rw (digits_large most n (omega arith))
      (all_digits_end (digits most (n / 10)) (48 + n % 10) (digits_ascii most (n / 10)) (omega arith) (omega arith))
]

-- a list's first number, with more behind it
first_append : (xs ys : List ℕ) → 0 < get_or xs 0 0 → get_or (xs ++ ys) 0 0 ≡ get_or xs 0 0
first_append [] ys h = absurd (omega arith)
first_append (x ∷ xs) ys h = refl

-- the first of enough digits of a number above 0 is not the digit 0
digits_first : (most n : ℕ) → n ≤ most → 0 < n → 49 ≤ get_or (digits most n) 0 0
digits_first zero n h some = absurd (omega arith)
digits_first (suc most) n h some = elim (dec_lt n 10) [
  | yes small ↦ rw (digits_small (suc most) n small) (omega arith)
  | no large ↦
      let rest : 49 ≤ get_or (digits most (n / 10)) 0 0 = digits_first most (n / 10) (omega arith) (omega arith) in
      rw (digits_large most n (omega arith), first_append (digits most (n / 10)) ((48 + n % 10) ∷ []) (omega arith)) rest
]

-- places for more digits than a number has change nothing
digits_enough : (a b n : ℕ) → n ≤ a → n ≤ b → digits a n ≡ digits b n
digits_enough zero b n h k = digits_small zero n (omega arith) ∙ sym (digits_small b n (omega arith))
digits_enough (suc a) zero n h k = digits_small (suc a) n (omega arith) ∙ sym (digits_small zero n (omega arith))
digits_enough (suc a) (suc b) n h k = elim (dec_lt n 10) [
  | yes small ↦ digits_small (suc a) n small ∙ sym (digits_small (suc b) n small)
  | no large ↦
      let rest : digits a (n / 10) ≡ digits b (n / 10) = digits_enough a b (n / 10) (omega arith) (omega arith) in
      rw (digits_large a n (omega arith), digits_large b n (omega arith), rest)
]

-- ---- decimal

-- the digits of a number give it back
pub decimal_back : (n : ℕ) → from_digits 0 (decimal n) ≡ n
unfolding decimal
decimal_back n = digits_back n n (omega arith)

-- they are ASCII digits
pub decimal_ascii : (n : ℕ) → AllDigits (decimal n)
unfolding decimal
decimal_ascii n = digits_ascii n n

-- no number above 0 begins with the digit 0
pub decimal_first : (n : ℕ) → 0 < n → 49 ≤ get_or (decimal n) 0 0
unfolding decimal
decimal_first n = digits_first n n (omega arith)

-- a number below 10 is one digit
pub decimal_small : (n : ℕ) → n < 10 → decimal n ≡ (48 + n) ∷ []
unfolding decimal
decimal_small n small = digits_small n n small

-- any other has the digits of its tenth and one more
pub decimal_large : (n : ℕ) → 10 ≤ n → decimal n ≡ decimal (n / 10) ++ (48 + n % 10) ∷ []
unfolding decimal
decimal_large n large =
    digits_enough n (suc n) n (omega arith) (omega arith) ∙ digits_large n n large
    ∙ ap (λ (ds : List ℕ). ds ++ (48 + n % 10) ∷ []) (digits_enough n (n / 10) (n / 10) (omega arith) (omega arith))

-- a number below a power of ten has at most as many digits as the power has zeros, and at least one
pub decimal_length : (k n : ℕ) → n < 10 ^ suc k → length (decimal n) ≤ suc k
decimal_length zero n h = rw (decimal_small n (omega arith)) (omega arith)
decimal_length (suc k) n h = elim (dec_lt n 10) [
  | yes small ↦ rw (decimal_small n small) (omega arith)
  | no large ↦
      let rest : length (decimal (n / 10)) ≤ suc k = decimal_length k (n / 10) (omega (arith, pow-suc 10 (suc k))) in
      rw (decimal_large n (omega arith), length-append (decimal (n / 10)) ((48 + n % 10) ∷ [])) (omega arith)
]
