-- The number that stands for a kind, of what `kind_of` gives.
-- Assumes nothing.
use Rattle.std.specs.Prelude.{Result, Ok, Err}
use Rattle.std.specs.Result.{is_err}
use Prim.Native.Nat.{ℕ}
use mathlib.Core.Path.{◌≡◌, refl, sym, subst, ◌∙◌}
use mathlib.Core.Bool.{Bool, true, false, cond, not, ◌||◌}
use mathlib.Core.Logic.{◌≢◌, ◌⊎◌, inl, inr}
use native.Mathlib.Decide.{ℕ_discrete}
use native.Mathlib.Omega.{arith}
use lib.Dec.{eqb}
use borrow.Author.Tests.{eq-eqb, ne_eqb}
use Rattle.refusals.specs.declared.Refusal.{Refusal}
use Rattle.refusals.specs.declared.Refusal.TheVariants.{LineKind}
use Rattle.ledgers.specs.Check.{bad_line_kind}
use Rattle.ledger_lines.specs.Kinds.{kind_of}
use Rattle.ledger_lines.specs.declared.kinds.Kind.{Kind}
use Rattle.ledger_lines.specs.declared.kinds.Kind.TheVariants.{Commitment, Sum, Product}

-- the number of a kind
abbrev pub number : Kind → ℕ
number Commitment = 1
number Sum = 2
number Product = 3

-- two kinds have two numbers
same_kind : (k l : Kind) → number k ≡ number l → k ≡ l
same_kind Commitment Commitment e = refl
same_kind Commitment Sum e = absurd (omega (arith, e))
same_kind Commitment Product e = absurd (omega (arith, e))
same_kind Sum Commitment e = absurd (omega (arith, e))
same_kind Sum Sum e = refl
same_kind Sum Product e = absurd (omega (arith, e))
same_kind Product Commitment e = absurd (omega (arith, e))
same_kind Product Sum e = absurd (omega (arith, e))
same_kind Product Product e = refl

-- what is known of a number, of the kind that it stands for
abbrev NumberOf : ℕ → Result Kind Refusal → Type 0
NumberOf n (Err refusal) = (n ≢ 1) × (n ≢ 2) × (n ≢ 3)
NumberOf n (Ok k) = n ≡ number k

number_of : (n : ℕ) → NumberOf n (kind_of n)
unfolding kind_of
number_of n = elim (ℕ_discrete n 1) [
  | yes one ↦ rw (eq-eqb n 1 one) one
  | no other ↦ elim (ℕ_discrete n 2) [
    | yes two ↦ rw (ne_eqb n 1 other, eq-eqb n 2 two) two
    | no more ↦ elim (ℕ_discrete n 3) [
      | yes three ↦ rw (ne_eqb n 1 other, ne_eqb n 2 more, eq-eqb n 3 three) three
      | no last ↦ rw (ne_eqb n 1 other, ne_eqb n 2 more, ne_eqb n 3 last) (other, more, last)
    ]
  ]
]

module _ {n : ℕ} {o : Result Kind Refusal} (given : o ≡ kind_of n) where
  -- of no kind
  pub no_kind : {refusal : Refusal} → o ≡ Err refusal → (n ≢ 1) × (n ≢ 2) × (n ≢ 3)
  no_kind none = subst (NumberOf n) (sym given ∙ none) (number_of n)

  module _ {k : Kind} (is : o ≡ Ok k) where
    some_kind : n ≡ number k
    some_kind = subst (NumberOf n) (sym given ∙ is) (number_of n)

    module _ {l : Kind} where
      -- of this kind
      pub kind_number : k ≡ l → n ≡ number l
      kind_number same = some_kind ∙ subst (λ (j : Kind). number k ≡ number j) same refl

      -- of another kind
      pub other_number : k ≢ l → n ≢ number l
      other_number other = λ e. other (same_kind k l (sym some_kind ∙ e))

module _ (n : ℕ) {o : Result Kind Refusal} (given : o ≡ kind_of n) {k : Kind} (is : o ≡ Ok k) where
  -- of a sum or a product
  pub names_lines : (k ≡ Sum) ⊎ (k ≡ Product) → eqb n 2 || eqb n 3 ≡ true
  names_lines joins = elim joins [
    | inl sum ↦ rw (eq-eqb n 2 (kind_number given is sum))
    | inr product ↦
        let three : n ≡ 3 = kind_number given is product in rw (ne_eqb n 2 (omega (arith, three)), eq-eqb n 3 three)
  ]

  -- of a commitment
  pub names_none : k ≢ Sum → k ≢ Product → eqb n 2 || eqb n 3 ≡ false
  names_none sum product = rw (ne_eqb n 2 (other_number given is sum), ne_eqb n 3 (other_number given is product))

-- a number that is none of 1, 2 and 3 stands for no kind
pub is_unknown : (n : ℕ) → is_err (kind_of n) ≡ bad_line_kind n
unfolding bad_line_kind kind_of
is_unknown n = go (eqb n 1) (eqb n 2) (eqb n 3)
  where
    go : (a b c : Bool)
        → is_err (cond a (Ok Commitment) (cond b (Ok Sum) (cond c (Ok Product) (Err LineKind)))) ≡ not (a || (b || c))
    go true b c = refl
    go false true c = refl
    go false false true = refl
    go false false false = refl
