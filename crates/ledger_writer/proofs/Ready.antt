-- What is right of entries that are not refused: their count, and the lines and the numbers of each.
-- Assumes nothing.
use Prim.Native.Nat.{ℕ, ◌≤◌, ◌<◌}
use mathlib.Core.Path.{◌≡◌}
use mathlib.Core.Logic.{◌⊎◌, inl, inr}
use native.Mathlib.Omega.{arith}
use Rattle.ledgers.specs.Lines.{entry_at}
use Rattle.ledgers.specs.RunsWhere.{RightEntry}
use Rattle.ledgers.specs.Write.{write_ledger}
use Rattle.ledgers.specs.declared.Base.{Base}
use Rattle.ledgers.specs.declared.Entries.{Entries}
use Rattle.ledgers.specs.declared.Entry.{Entry}
use Rattle.ledgers.proofs.Openings.{entry_above}
use Rattle.ledgers.proofs.RunsWhere.{writes_where}

-- the blinding number of a right product is below q
right_blinding : (base : Base) (i : ℕ) (e : Entry) → RightEntry base i e → e.kind ≡ 3 → e.blinding < base.order
right_blinding base i e (inl (one, v, ρ)) three = ρ
right_blinding base i e (inr (inl (two, first, second))) three = absurd (omega (arith, two, three))
right_blinding base i e (inr (inr p)) three = p.3

module _ (base : Base) (entries : Entries) (none : (write_ledger base entries).refusal ≡ 0) where
  -- there are at most 64
  pub few_entries : entries.count ≤ 64
  few_entries = ((writes_where base entries).0 none).1

  -- m and q are above 0
  pub modulus_above : 0 < base.modulus
  modulus_above = let large = ((writes_where base entries).0 none).0.0 in omega (arith, large)

  pub order_above : 0 < base.order
  order_above = let large = ((writes_where base entries).0 none).0.1 in omega (arith, large)

  module _ (i : ℕ) (inside : i < entries.count) where
    right : RightEntry base i (entry_at entries i)
    right = ((writes_where base entries).0 none).2 i inside

    -- the lines that an entry names are inside an array of 64
    pub named_inside : ((entry_at entries i).kind ≡ 2) ⊎ ((entry_at entries i).kind ≡ 3)
        → ((entry_at entries i).first < 64) × ((entry_at entries i).second < 64)
    named_inside joins =
        let (first, second) = entry_above base i (entry_at entries i) right joins in
        let few = few_entries in
        (omega (arith, first, few, inside), omega (arith, second, few, inside))

    -- and those of a product, whose blinding number is below q
    pub product_ready : (entry_at entries i).kind ≡ 3
        → ((entry_at entries i).first < 64) × ((entry_at entries i).second < 64) × ((entry_at entries i).blinding < base.order)
    product_ready three =
        let (first, second) = named_inside (inr three) in
        (first, second, right_blinding base i (entry_at entries i) right three)
