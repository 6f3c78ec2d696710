-- The rules of the sheet's values turn an instance back exactly when it is not Valid, and what a valid table has.
-- Assumes nothing.
use Prim.Native.Nat.{ℕ, ◌<◌, ◌≤◌}
use mathlib.Core.Path.{◌≡◌}
use mathlib.Core.Logic.{◌↔◌, ◌≢◌, ⊎_elim}
use native.Mathlib.Nat.{dvd_refl}
use native.Mathlib.Decide.{dec_lt}
use native.Mathlib.Omega.{arith}
use Rattle.numbers.specs.Gcd.{gcd}
use Rattle.rules.specs.Rule.{Clear}
use Rattle.sigma.specs.Instance.{Instance, Table}
use Rattle.sigma.specs.Element.{Element}
use Rattle.sigma.specs.Admission.{header_rules, element_rules}
use Rattle.sigma.specs.Valid.{Valid, ValidTable}
use Rattle.sigma.proofs.ElementGroup.{element_coprime}
use Rattle.sigma.proofs.Passed.{kind_passes, modulus_passes, order_passes, size_passes, count_passes}
use Rattle.sigma.proofs.Passed.{entries_pass, statement_passes}

module _ (i : Instance) where
  -- no rule of the sheet's values applies exactly when the instance is Valid
  pub clear_valid : (Clear (header_rules i.header) × Clear (element_rules i)) ↔ Valid i
  unfolding header_rules element_rules
  clear_valid =
      let h = i.header in (
        λ ((kind, (modulus, (order, (size, (count, none))))), (entries, (statement, none'))).
            let sized = (size_passes h).0 size in
            let counted = (count_passes h).0 count in
            record {
              table = record {
                kind = (kind_passes h).0 kind;
                modulus = (modulus_passes h).0 modulus;
                order = (order_passes h).0 order;
                some_row = sized.0;
                few_rows = sized.1;
                some_column = sized.2;
                few_columns = sized.3;
                square = sized.4;
                some_challenges = counted.0;
                few_challenges = counted.1;
                no_divisor = counted.2;
                entries = (entries_pass i).0 entries;
              };
              statement = (statement_passes i).0 statement;
            },
        λ v.
            let t = v.table in
            let size = (size_passes h).1 (t.some_row, t.few_rows, t.some_column, t.few_columns, t.square) in
            let count = (count_passes h).1 (t.some_challenges, t.few_challenges, t.no_divisor) in (
              ((kind_passes h).1 t.kind, ((modulus_passes h).1 t.modulus, ((order_passes h).1 t.order, (size, (count, tt))))),
              ((entries_pass i).1 t.entries, ((statement_passes i).1 v.statement, tt)),
            ),
      )

-- ---- what a valid table has

module _ {table : Table} (v : ValidTable table) where
  -- the modulus is above 1
  pub valid_modulus : 1 < table.header.modulus
  valid_modulus = omega arith

  -- ℓ is above 0
  pub valid_order : 0 < table.header.order
  valid_order = omega arith

  -- K is at most ℓ, which divides itself
  pub valid_challenges : table.header.challenges ≤ table.header.order
  valid_challenges = elim (dec_lt table.header.order table.header.challenges) [
    | yes below ↦ absurd (v.no_divisor table.header.order v.order below (dvd_refl table.header.order))
    | no above ↦ omega arith
  ]

  -- a challenge is below ℓ
  pub valid_challenge : (c : ℕ) → c < table.header.challenges → c < table.header.order
  valid_challenge c h = omega (arith, valid_challenges)

  -- a table that is not of kind 1 is of kind 2
  pub valid_kind : table.header.kind ≢ 1 → table.header.kind ≡ 2
  valid_kind n = ⊎_elim (λ e. absurd (n e)) (λ e. e) v.kind

  -- in both kinds a group element has no divisor in common with the modulus
  pub valid_coprime : (x : ℕ) → Element table.header x → gcd x table.header.modulus ≡ 1
  valid_coprime = element_coprime table.header valid_modulus valid_order
