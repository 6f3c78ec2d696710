-- A sheet's values are Valid in one way only, so that a struct may hold the fact.
-- Assumes nothing.
use mathlib.Core.HLevel.{Π_prop, ⊥_prop}
use mathlib.Core.Logic.{inl, inr}
use mathlib.Core.Path.{sym, subst, ◌∙◌}
use Rattle.std.specs.Prelude.{ℕ, ◌≡◌, ◌⊎◌, T, eqb}
use Rattle.std.specs.Coded.{Coded-set, coded_ℕ, le_prop}
use Rattle.types.specs.declared.Header.{Header}
use Rattle.sigma.specs.Instance.{Instance, Table, table_of}
use Rattle.sigma.specs.Element.{Element}
use Rattle.sigma.specs.Valid.{Valid, ValidTable}

-- two numbers are equal in one way
equal_once : {a b : ℕ} → IsProp (a ≡ b)
equal_once {a} {b} = Coded-set coded_ℕ a b

-- a kind is not both 1 and 2
kinds_differ : {k : ℕ} → k ≡ 1 → k ≡ 2 → ⊥
kinds_differ p q = subst (λ n. T (eqb n 1)) (sym p ∙ q) tt

-- a kind is 1 or 2 in one way
kind_once : {k : ℕ} → IsProp ((k ≡ 1) ⊎ (k ≡ 2))
kind_once (inl p) (inl q) = λ i. inl (equal_once p q i)
kind_once (inr p) (inr q) = λ i. inr (equal_once p q i)
kind_once (inl p) (inr q) = absurd (kinds_differ p q)
kind_once (inr p) (inl q) = absurd (kinds_differ q p)

-- a number is a group element in one way
element_once : {h : Header} {v : ℕ} → IsProp (Element h v)
element_once x y i = record {
  positive = le_prop x.positive y.positive i;
  below = le_prop x.below y.below i;
  ordered = Π_prop (λ _. equal_once) x.ordered y.ordered i;
  coprime = Π_prop (λ _. equal_once) x.coprime y.coprime i;
}

-- a table is valid in one way
table_once : (table : Table) → IsProp (ValidTable table)
table_once table x y i = record {
  kind = kind_once x.kind y.kind i;
  modulus = le_prop x.modulus y.modulus i;
  order = le_prop x.order y.order i;
  some_row = le_prop x.some_row y.some_row i;
  few_rows = le_prop x.few_rows y.few_rows i;
  some_column = le_prop x.some_column y.some_column i;
  few_columns = le_prop x.few_columns y.few_columns i;
  square = Π_prop (λ _. equal_once) x.square y.square i;
  some_challenges = le_prop x.some_challenges y.some_challenges i;
  few_challenges = le_prop x.few_challenges y.few_challenges i;
  no_divisor = Π_prop (λ d. Π_prop (λ _. Π_prop (λ _. Π_prop (λ _. ⊥_prop)))) x.no_divisor y.no_divisor i;
  entries = Π_prop (λ _. Π_prop (λ _. Π_prop (λ _. Π_prop (λ _. Π_prop (λ _. element_once))))) x.entries y.entries i;
}

-- and so is an instance
pub valid_once : (inst : Instance) → IsProp (Valid inst)
valid_once inst x y i = record {
  table = table_once (table_of inst) x.table y.table i;
  statement = Π_prop (λ _. Π_prop (λ _. element_once)) x.statement y.statement i;
}
