-- The k-th choice of n numbers below q runs through all of them, each once, in slot order.
-- Assumes nothing.
use Prim.Native.Nat.{ℕ, zero, suc, ◌+◌, ◌*◌, ◌/◌, ◌%◌, ◌^◌, ◌<◌, ◌≤◌}
use mathlib.Core.Path.{◌≡◌, refl, ap, ap₂, ◌∙◌, subst}
use mathlib.Core.List.{List, [], ◌∷◌}
use native.Mathlib.Decide.{dec_lt}
use native.Mathlib.Nat.{add-zero, mul-add-div_right, mul-add-mod_self_right, mul-le-mul_right, one-le-pow, pow-succ', pow-zero}
use native.Mathlib.Nat.{div-add-mod', div-eq_of_lt, div-lt_iff_lt-mul, le-div_iff_mul-le, mod-eq_of_lt, mod-lt}
use native.Mathlib.Omega.{arith}
use lib.ListN.{get_or, length}
use Rattle.lists.specs.Each.{Each}
use Rattle.lists.proofs.Each.{each_length}
use Rattle.rules.proofs.Determined.{below_or_not}
use Rattle.sigma.specs.Reads.{Agree}
use Rattle.games.specs.Slots.{Before, slots_of}

-- which choice a list of numbers below q is
unfoldable pub index_of : ℕ → List ℕ → ℕ
index_of q [] = 0
index_of q (x ∷ xs) = x * q ^ length xs + index_of q xs

-- lists with equal first numbers agree in one place more than those behind them
first_agree : (a a' : ℕ) (xs ys : List ℕ) (j : ℕ) → a ≡ a' → Agree j xs ys → Agree (suc j) (a ∷ xs) (a' ∷ ys)
first_agree a a' xs ys j same rest zero b = same
first_agree a a' xs ys j same rest (suc i) b = rest i (omega arith)

module _ (q : ℕ) (some : 0 < q) where
  -- a power is positive
  pub power_some : (n : ℕ) → 0 < q ^ n
  power_some n = omega (arith, one-le-pow n q some)

  -- there are n slots
  pub length_slots : (n k : ℕ) → length (slots_of q n k) ≡ n
  unfolding slots_of
  length_slots zero k = refl
  length_slots (suc n) k = ap suc (length_slots n (k % q ^ n))

  -- each is below q
  pub slots_below : (n k : ℕ) → k < q ^ n → Each (λ x. x < q) n (slots_of q n k)
  unfolding slots_of
  slots_below zero k b = tt
  slots_below (suc n) k b = (
    (div-lt_iff_lt-mul (power_some n)).1 (subst (λ (p : ℕ). k < p) (pow-succ' q n) b),
    slots_below n (k % q ^ n) (mod-lt k (power_some n)),
  )

  -- the index of n numbers below q is below q^n
  pub index_below : (n : ℕ) (xs : List ℕ) → Each (λ x. x < q) n xs → index_of q xs < q ^ n
  unfolding index_of
  index_below zero [] e = power_some 0
  index_below zero (x ∷ xs) e = absurd e
  index_below (suc n) [] e = absurd e
  index_below (suc n) (x ∷ xs) (lower, others) =
      let rest = index_below n xs others in
      let long = ap (λ (l : ℕ). x * q ^ l) (each_length _ n xs others) in
      let first : suc x * q ^ n ≤ q * q ^ n = mul-le-mul_right (q ^ n) lower in
      omega (arith, pow-succ' q n)

  -- the index of a first number and others, taken apart
  index_quotient : (n x k : ℕ) → k < q ^ n → (x * q ^ n + k) / q ^ n ≡ x
  index_quotient n x k b = mul-add-div_right (power_some n) x k ∙ ap (λ (r : ℕ). x + r) (div-eq_of_lt b) ∙ add-zero x

  index_rest : (n x k : ℕ) → k < q ^ n → (x * q ^ n + k) % q ^ n ≡ k
  index_rest n x k b = mul-add-mod_self_right x (q ^ n) k ∙ mod-eq_of_lt b

  -- they are the choice of that index
  pub slots_of_index : (n : ℕ) (xs : List ℕ) → Each (λ x. x < q) n xs → slots_of q n (index_of q xs) ≡ xs
  unfolding index_of slots_of
  slots_of_index zero [] e = refl
  slots_of_index zero (x ∷ xs) e = absurd e
  slots_of_index (suc n) [] e = absurd e
  slots_of_index (suc n) (x ∷ xs) (lower, others) =
      let below = index_below n xs others in
      let long : x * q ^ length xs + index_of q xs ≡ x * q ^ n + index_of q xs =
      ap (λ (l : ℕ). x * q ^ l + index_of q xs) (each_length _ n xs others) in
      ap₂ (λ (a d : ℕ). a / q ^ n ∷ slots_of q n (d % q ^ n)) long long
      ∙ ap₂ (λ (a d : ℕ). a ∷ slots_of q n d) (index_quotient n x (index_of q xs) below) (index_rest n x (index_of q xs) below)
      ∙ ap (λ (ys : List ℕ). x ∷ ys) (slots_of_index n xs others)

  -- and a later choice comes later in slot order
  pub slots_rise : (n k k' : ℕ) → k < k' → k' < q ^ n → Before n (slots_of q n k) (slots_of q n k')
  unfolding slots_of
  slots_rise zero k k' less below = absurd (omega (arith, pow-zero q))
  slots_rise (suc n) k k' less below = elim (dec_lt (k / q ^ n) (k' / q ^ n)) [
    | yes lower ↦ record { slot = 0; inside = omega arith; earlier = λ j b. absurd (omega arith); lower = lower }
    | no equal ↦
        let w = q ^ n in
        let same : k / w ≡ k' / w =
        omega (arith, (le-div_iff_mul-le {k = w} {x = k / w} {y = k'} (power_some n)).1 (omega (arith, div-add-mod' k w))) in
        let later = slots_rise n (k % w) (k' % w)
        (omega (arith, div-add-mod' k w, div-add-mod' k' w, ap (λ (d : ℕ). d * w) same)) (mod-lt k' (power_some n)) in
        record {
          slot = suc later.slot;
          inside = omega (arith, later.inside);
          earlier = first_agree (k / w) (k' / w) (slots_of q n (k % w)) (slots_of q n (k' % w)) later.slot same later.earlier;
          lower = later.lower;
        }
  ]

-- where two agree in all earlier slots, the one that comes first has no higher number
pub before_leads : (n : ℕ) (x r : List ℕ) → Before n x r → (j : ℕ) → Agree j x r → get_or x j 0 ≤ get_or r j 0
before_leads n x r first j same =
    below_or_not j first.slot (λ early. omega (arith, first.earlier j early))
    (λ late. below_or_not first.slot j (λ passed. absurd (omega (arith, first.lower, same first.slot passed)))
    (λ reached.
    let here : first.slot ≡ j = omega (arith, late, reached) in
    let lower = subst (λ (i : ℕ). get_or x i 0 < get_or r i 0) here first.lower in
    omega (arith, lower)))
