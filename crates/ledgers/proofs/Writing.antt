-- What the writer answers if it is not refused: the ledger is made of the entries' values.
-- Assumes nothing.
use Prim.Native.Nat.{ℕ, ◌+◌, ◌-◌, ◌*◌, ◌%◌, ◌<◌, ◌≤◌}
use mathlib.Core.Path.{◌≡◌, ap, refl, subst, ◌∙◌}
use mathlib.Core.Logic.{inr}
use native.Mathlib.Nat.{mod-lt}
use native.Mathlib.Omega.{arith}
use Rattle.patterns.specs.Table.{pedersen}
use Rattle.ledgers.specs.LedgerHolds.{MadeOf}
use Rattle.ledgers.specs.Lines.{entry_at, line_at}
use Rattle.ledgers.specs.Meaning.{ProductEntry, Values}
use Rattle.ledgers.specs.RunsWhere.{RightEntry}
use Rattle.ledgers.specs.Write.{
  Opening,
  commit_to,
  ledger_of,
  line_of,
  made_commitment,
  made_line,
  made_sum,
  opening_at,
  openings,
  write_ledger,
  writing_ledger,
  zero_line,
}
use Rattle.ledgers.specs.declared.LedgerWritten.{LedgerWritten}
use Rattle.ledgers.specs.declared.Base.{Base}
use Rattle.ledgers.specs.declared.Entries.{Entries}
use Rattle.ledgers.specs.declared.Ledger.{Ledger}
use Rattle.ledgers.proofs.Answers.{write_value}
use Rattle.ledgers.proofs.Made.{
  difference_is,
  line_beyond,
  line_of_law,
  made_given,
  made_product_law,
  made_sum_law,
  product_line_is,
  room_of,
}
use Rattle.ledgers.proofs.Openings.{blinding_of, entry_above, opening_at_law, our_values, own_opening, value_of, values_below}
use Rattle.ledgers.proofs.RunsWhere.{writes_where}
use Rattle.ledgers.proofs.Valid.{Sound, sound}

-- an opening by its two numbers
opening_by : (o : Opening) (a α : ℕ) → o.value ≡ a → o.blinding ≡ α → o ≡ record { value = a; blinding = α }
opening_by o a α v ρ = λ i. record { value = v i; blinding = ρ i }

module _ (base : Base) (entries : Entries) (none : (write_ledger base entries).refusal ≡ 0) where
  -- what is right
  pub right : Sound base
  right = sound base ((writes_where base entries).0 none).0

  pub entries_right : (i : ℕ) → i < entries.count → RightEntry base i (entry_at entries i)
  entries_right = ((writes_where base entries).0 none).2

  pub few : entries.count ≤ 64
  few = ((writes_where base entries).0 none).1

  -- the ledger
  abbrev pub ledger : Ledger
  ledger = ledger_of entries.count (made_line base entries)

  pub ledger_is : (write_ledger base entries).ledger ≡ ledger
  unfolding writing_ledger
  ledger_is = ap (λ (made : LedgerWritten). made.ledger) (write_value base entries none)

  -- the entries' values
  abbrev pub v : ℕ → ℕ
  v = value_of base.order entries

  abbrev pub ρ : ℕ → ℕ
  ρ = blinding_of base.order entries

  pub values : Values base entries v ρ
  values = our_values base entries entries_right

  -- line i
  line_is : (i : ℕ) → i < entries.count
      → line_at ledger i ≡ line_of base (openings base.order entries i) (entry_at entries i)
  unfolding made_line
  line_is i inside = line_of_law entries.count (made_line base entries) i inside

  -- the opening of a line above
  above_is : (i k a α : ℕ) → k < i → v k ≡ a → ρ k ≡ α
      → opening_at (openings base.order entries i) k ≡ record { value = a; blinding = α }
  above_is i k a α early value blinding =
      opening_at_law base.order entries i k early ∙ opening_by (own_opening base.order entries k) a α value blinding

  -- a product's blinding number less aβ
  pub difference_at : (i : ℕ) → i < entries.count → (entry_at entries i).kind ≡ 3
      → (a : ℕ) × (α : ℕ) × (b : ℕ) × (β : ℕ) × (δ : ℕ) × ProductEntry base entries v ρ i a α b β δ
  difference_at i inside three =
      let e = entry_at entries i in
      let q = base.order in
      let order = right.order in
      let some : 1 ≤ base.order = omega (arith, order) in
      let (value, blinding) = values.multiplied i inside three in
      let low = subst (λ (k : ℕ). k < base.order) blinding (values_below base entries entries_right order v ρ values i inside).1 in (
        v e.first,
        ρ e.first,
        v e.second,
        ρ e.second,
        (e.blinding + (q - v e.first * ρ e.second % q)) % q,
        record {
          inside = inside;
          kind = three;
          first = (refl, refl);
          second = (refl, refl);
          below = mod-lt _ some;
          own = difference_is q (v e.first * ρ e.second) e.blinding some low;
        },
      )

  pub made_of : MadeOf base entries v ρ ledger
  unfolding ledger_of made_commitment made_sum zero_line commit_to pedersen
  made_of =
      let q = base.order in
      record {
        count = refl;
        room = room_of entries.count (made_line base entries) few;
        commitments = λ i inside one. line_is i inside ∙ made_given base (openings q entries i) (entry_at entries i) one;
        sums = λ i inside two. line_is i inside ∙ made_sum_law base (openings q entries i) (entry_at entries i) two;
        products = λ i a α b β δ p.
            let (first, second) = entry_above base i (entry_at entries i) (entries_right i p.inside) (inr p.kind) in
            line_is i p.inside
            ∙ made_product_law base (openings q entries i) (entry_at entries i) p.kind
            ∙ product_line_is base right (openings q entries i) (own_opening q entries i) (entry_at entries i) a α b β δ
            (above_is i _ a α first p.first.0 p.first.1) (above_is i _ b β second p.second.0 p.second.1) p.below p.own;
        difference = difference_at;
        beyond = line_beyond entries.count (made_line base entries);
      }
