-- No condition of a ledger's refusals holds exactly if what the lines share, their count and each line are right, in numbers: from one
-- line and one entry to all of them.
-- Assumes nothing.
use Prim.Native.Nat.{ℕ, ◌<◌, ◌≤◌}
use mathlib.Core.Logic.{◌↔◌, inl, inr}
use native.Mathlib.Omega.{arith}
use lib.ListN.{drop, get_or}
use Rattle.rules.proofs.Determined.{NoneHold}
use Rattle.ledgers.specs.Lines.{entry_at, line_at}
use Rattle.ledgers.specs.Refusals.{check_conditions, write_conditions}
use Rattle.ledgers.specs.RunsWhere.{RightBase, RightEntry, RightLine}
use Rattle.ledgers.specs.declared.Base.{Base}
use Rattle.ledgers.specs.declared.Entries.{Entries}
use Rattle.ledgers.specs.declared.Entry.{Entry}
use Rattle.ledgers.specs.declared.Ledger.{Ledger}
use Rattle.ledgers.specs.declared.Line.{Line}
use Rattle.ledgers.proofs.Right.{EntryClear, LineClear, above, base_right, element, entry_clear, known, line_clear}

module _ (base : Base) where
  module _ (i : ℕ) (line : Line) where
    -- a line of which no condition holds is right
    pub clear_line : LineClear base i line → RightLine base i line
    clear_line (kinds, names, elements, challenge, response) = elim (known line.kind kinds) [
      | inl one ↦ inl (one, element base line.commitment (λ n. elements (inl (inl one, n))))
      | inr (inl two) ↦
          let (first, second) = above i line.kind line.first line.second names (inl two) in
          inr (inl (two, first, second))
      | inr (inr three) ↦
          let (first, second) = above i line.kind line.first line.second names (inr three) in
          let c : ¬ (base.challenges ≤ line.challenge) = λ l. challenge (three, l) in
          let r0 : ¬ (base.order ≤ get_or line.response 0 0) = λ l. response (three, inl l) in
          let r1 : ¬ (base.order ≤ get_or line.response 1 0) = λ l. response (three, inr (inl l)) in
          let r2 : ¬ (base.order ≤ get_or line.response 2 0) = λ l. response (three, inr (inr l)) in
          inr (inr (
            three,
            first,
            second,
            element base line.commitment (λ n. elements (inl (inr three, n))),
            element base (get_or line.t 0 0) (λ n. elements (inr (three, inl n))),
            element base (get_or line.t 1 0) (λ n. elements (inr (three, inr n))),
            omega (arith, c),
            omega (arith, r0),
            omega (arith, r1),
            omega (arith, r2),
          ))
    ]

  module _ (i : ℕ) (e : Entry) where
    -- an entry of which no condition holds is right
    pub clear_entry : EntryClear base i e → RightEntry base i e
    clear_entry (kinds, names, challenge, numbers) = elim (known e.kind kinds) [
      | inl one ↦
          let v : ¬ (base.order ≤ e.value) = λ l. numbers (inl (one, inl l)) in
          let ρ : ¬ (base.order ≤ e.blinding) = λ l. numbers (inl (one, inr l)) in
          inl (one, omega (arith, v), omega (arith, ρ))
      | inr (inl two) ↦
          let (first, second) = above i e.kind e.first e.second names (inl two) in
          inr (inl (two, first, second))
      | inr (inr three) ↦
          let (first, second) = above i e.kind e.first e.second names (inr three) in
          let c : ¬ (base.challenges ≤ e.challenge) = λ l. challenge (three, l) in
          let ρ : ¬ (base.order ≤ e.blinding) = λ l. numbers (inr (three, inl l)) in
          let k0 : ¬ (base.order ≤ get_or e.nonce 0 0) = λ l. numbers (inr (three, inr (inl l))) in
          let k1 : ¬ (base.order ≤ get_or e.nonce 1 0) = λ l. numbers (inr (three, inr (inr (inl l)))) in
          let k2 : ¬ (base.order ≤ get_or e.nonce 2 0) = λ l. numbers (inr (three, inr (inr (inr l)))) in
          inr (inr (
            three,
            first,
            second,
            omega (arith, ρ),
            omega (arith, c),
            omega (arith, k0),
            omega (arith, k1),
            omega (arith, k2),
          ))
    ]

  -- ---- all lines and entries

  pub ledger_right : (ledger : Ledger) → NoneHold (check_conditions base ledger)
      ↔ (RightBase base × (ledger.count ≤ 64) × ((i : ℕ) → i < ledger.count → RightLine base i (line_at ledger i)))
  ledger_right ledger = (
    λ (a, (b, (c, (d, (many, (kinds, (names, (elements, (challenges, (responses, none)))))))))). (
      (base_right base).0 (a, (b, (c, (d, tt)))),
      omega (arith, many),
      λ i inside.
          clear_line i (line_at ledger i) (
            λ x. kinds (i, inside, x),
            λ x. names (i, inside, x),
            λ x. elements (i, inside, x),
            λ x. challenges (i, inside, x),
            λ x. responses (i, inside, x),
          ),
    ),
    λ (shared, few, lines).
        let clear : (i : ℕ) → i < ledger.count → LineClear base i (line_at ledger i) =
        λ i inside. line_clear base i (line_at ledger i) (lines i inside) in
        let (a, (b, (c, (d, none)))) = (base_right base).1 shared in
        let rest : NoneHold (drop 4 (check_conditions base ledger)) = (
          λ many. omega (arith, few, many),
          (
            λ (i, inside, x). (clear i inside).0 x,
            (
              λ (i, inside, x). (clear i inside).1 x,
              (
                λ (i, inside, x). (clear i inside).2 x,
                (λ (i, inside, x). (clear i inside).3 x, (λ (i, inside, x). (clear i inside).4 x, tt)),
              ),
            ),
          ),
        ) in
        (a, (b, (c, (d, rest)))),
  )

  pub entries_right : (entries : Entries) → NoneHold (write_conditions base entries)
      ↔ (RightBase base × (entries.count ≤ 64) × ((i : ℕ) → i < entries.count → RightEntry base i (entry_at entries i)))
  entries_right entries = (
    λ (a, (b, (c, (d, (many, (kinds, (names, (challenges, (numbers, none))))))))). (
      (base_right base).0 (a, (b, (c, (d, tt)))),
      omega (arith, many),
      λ i inside.
          clear_entry i (entry_at entries i) (
            λ x. kinds (i, inside, x),
            λ x. names (i, inside, x),
            λ x. challenges (i, inside, x),
            λ x. numbers (i, inside, x),
          ),
    ),
    λ (shared, few, lines).
        let clear : (i : ℕ) → i < entries.count → EntryClear base i (entry_at entries i) =
        λ i inside. entry_clear base i (entry_at entries i) (lines i inside) in
        let (a, (b, (c, (d, none)))) = (base_right base).1 shared in
        let rest : NoneHold (drop 4 (write_conditions base entries)) = (
          λ many. omega (arith, few, many),
          (
            λ (i, inside, x). (clear i inside).0 x,
            (
              λ (i, inside, x). (clear i inside).1 x,
              (λ (i, inside, x). (clear i inside).2 x, (λ (i, inside, x). (clear i inside).3 x, tt)),
            ),
          ),
        ) in
        (a, (b, (c, (d, rest)))),
  )
