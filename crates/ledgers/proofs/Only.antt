-- The refusals and answers of a ledger's calls determine them: two codes that meet them answer the same to every input.
-- Assumes nothing.
use Prim.Native.Nat.{ℕ, ◌<◌, ◌≤◌}
use mathlib.Core.Path.{◌≡◌, refl, sym, ap, ap₂, ◌∙◌}
use mathlib.Core.Logic.{inl, inr}
use native.Mathlib.Omega.{arith}
use lib.Seq.{ext_get_or}
use Rattle.rules.proofs.Determined.{below_or_not, refused_or_not, same_number}
use Rattle.ledgers.specs.LedgerCalls.{LedgerCalls}
use Rattle.ledgers.specs.LedgerHolds.{LedgerAnswers, LedgerRefusals, MadeOf, Tells}
use Rattle.ledgers.specs.Lines.{entry_at, line_at, no_line}
use Rattle.ledgers.specs.Meaning.{Commits, ProductLine, RowsHold, Values, committed}
use Rattle.ledgers.specs.RunsWhere.{RightEntry, RightLine}
use Rattle.ledgers.specs.Same.{SameLedgers}
use Rattle.ledgers.specs.declared.Base.{Base}
use Rattle.ledgers.specs.declared.Checked.{Checked}
use Rattle.ledgers.specs.declared.Entries.{Entries}
use Rattle.ledgers.specs.declared.Ledger.{Ledger}
use Rattle.ledgers.specs.declared.Line.{Line}
use Rattle.ledgers.proofs.Commitments.{product_over}
use Rattle.ledgers.proofs.Openings.{entry_over, values_only}
use Rattle.ledgers.proofs.AllRight.{entries_right, ledger_right}

-- ---- the checker

module _ (base : Base) (ledger : Ledger) (lines : (i : ℕ) → i < ledger.count → RightLine base i (line_at ledger i)) (C C' : ℕ → ℕ)
    (c : Commits base ledger C) (c' : Commits base ledger C') where
  -- of two first product lines none is the earlier
  not_earlier : (k k' : ℕ)
      → (A : ℕ) × (B : ℕ) × (E : ℕ) × ProductLine ledger C k A B E × (¬ RowsHold base A B E (line_at ledger k))
      → ((i A B E : ℕ) → i < k' → ProductLine ledger C' i A B E → RowsHold base A B E (line_at ledger i)) → k' ≤ k
  not_earlier k k' (A, B, E, p, fails) before =
      below_or_not k k' (λ early. absurd (fails (before k A B E early (product_over base ledger lines C C' c c' k A B E p)))) (λ late. late)

  -- so the checker tells one thing of a ledger
  pub tells_only : (told told' : Checked) → Tells base ledger C told → Tells base ledger C' told' → told ≡ told'
  tells_only told told' (inl (is, all)) (inl (is', all')) = is ∙ sym is'
  tells_only told told' (inl (is, all)) (inr (k, is', (A, B, E, p, fails), before)) =
      absurd (fails (all k A B E (product_over base ledger lines C' C c' c k A B E p)))
  tells_only told told' (inr (k, is, (A, B, E, p, fails), before)) (inl (is', all')) =
      absurd (fails (all' k A B E (product_over base ledger lines C C' c c' k A B E p)))
  tells_only told told' (inr (k, is, first, before)) (inr (k', is', first', before')) =
      let low = not_earlier k k' first before' in
      let high = below_or_not k' k (λ early.
      let (A, B, E, p, fails) = first' in
      absurd (fails (before k' A B E early (product_over base ledger lines C' C c' c k' A B E p)))) (λ (late : k ≤ k'). late) in
      is ∙ ap (λ (n : ℕ). record { accepted = 0; line = n; refusal = 0 }) (omega (arith, low, high)) ∙ sym is'

-- ---- the writer

-- two lines with the same numbers are one
pub line_by : (l l' : Line) → l.kind ≡ l'.kind → l.first ≡ l'.first → l.second ≡ l'.second → l.commitment ≡ l'.commitment
    → l.t ≡ l'.t → l.challenge ≡ l'.challenge → l.response ≡ l'.response → l ≡ l'
line_by l l' kind first second commitment t challenge response = λ i. record {
  kind = kind i;
  first = first i;
  second = second i;
  commitment = commitment i;
  t = t i;
  challenge = challenge i;
  response = response i;
}

module _ (base : Base) (entries : Entries) (few : entries.count ≤ 64)
    (right : (i : ℕ) → i < entries.count → RightEntry base i (entry_at entries i)) (v ρ v' ρ' : ℕ → ℕ) (c : Values base entries v ρ)
    (c' : Values base entries v' ρ') (made made' : Ledger) (of : MadeOf base entries v ρ made) (of' : MadeOf base entries v' ρ' made') where
  -- a line within the count
  line_within : (i : ℕ) → i < entries.count → RightEntry base i (entry_at entries i) → line_at made i ≡ line_at made' i
  line_within i inside (inl (one, low, blind)) =
      let (x, y) = values_only base entries right v ρ v' ρ' c c' i inside in
      of.commitments i inside one
      ∙ line_by _ _ refl refl refl (ap₂ (λ (k l : ℕ). committed base k l) x y) refl refl refl
      ∙ sym (of'.commitments i inside one)
  line_within i inside (inr (inl (two, first, second))) = of.sums i inside two ∙ sym (of'.sums i inside two)
  line_within i inside (inr (inr p)) =
      let (x, y) = values_only base entries right v ρ v' ρ' c c' i inside in
      let (a, α, b, β, δ, product) = of.difference i inside p.0 in
      of.products i a α b β δ product
      ∙ line_by _ _ refl refl refl (ap₂ (λ (k l : ℕ). committed base k l) x y) refl refl refl
      ∙ sym (of'.products i a α b β δ (entry_over base entries right v ρ v' ρ' c c' i a α b β δ product))

  -- so one ledger is made of entries
  pub made_only : made ≡ made'
  made_only =
      let lines = ext_get_or no_line made.lines made'.lines (of.room ∙ sym of'.room) (λ i inside.
      let room = of.room in
      below_or_not i entries.count (λ early. line_within i early (right i early)) (λ late.
      of.beyond i late (omega (arith, inside, room)) ∙ sym (of'.beyond i late (omega (arith, inside, room))))) in
      λ j. record { lines = lines j; count = (of.count ∙ sym of'.count) j }

-- ---- both calls

module _ {ledgers ledgers' : LedgerCalls} (refusals : LedgerRefusals ledgers) (refusals' : LedgerRefusals ledgers')
    (answers : LedgerAnswers ledgers) (answers' : LedgerAnswers ledgers') (base : Base) where
  check_same : (ledger : Ledger) → ledgers.check_ledger base ledger ≡ ledgers'.check_ledger base ledger
  check_same ledger =
      refused_or_not (refusals.checking base ledger) (refusals'.checking base ledger)
      (λ n (accepted, line) (accepted', line') i. record {
        accepted = (accepted ∙ sym accepted') i;
        line = (line ∙ sym line') i;
        refusal = n i;
      })
      (λ e e' none.
      let (C, c, told) = answers.checked base ledger e in
      let (C', c', told') = answers'.checked base ledger e' in
      tells_only base ledger ((ledger_right base ledger).0 none).2 C C' c c' _ _ told told')

  write_same : (entries : Entries) → ledgers.write_ledger base entries ≡ ledgers'.write_ledger base entries
  write_same entries =
      let r = refusals.writing base entries in
      let r' = refusals'.writing base entries in
      refused_or_not r r' (λ n l l' i. record { ledger = (l ∙ sym l') i; refusal = n i })
      (λ e e' none i.
      let (v, ρ, c, of) = answers.written base entries e in
      let (v', ρ', c', of') = answers'.written base entries e' in
      let (right, few, lines) = (entries_right base entries).0 none in
      record { ledger = made_only base entries few lines v ρ v' ρ' c c' _ _ of of' i; refusal = same_number r r' i })

-- the calls on a ledger are determined
pub only_ledgers : {ledgers ledgers' : LedgerCalls} → LedgerRefusals ledgers → LedgerRefusals ledgers' → LedgerAnswers ledgers
    → LedgerAnswers ledgers' → SameLedgers ledgers ledgers'
only_ledgers refusals refusals' answers answers' = record {
  check_ledger = check_same refusals refusals' answers answers';
  write_ledger = write_same refusals refusals' answers answers';
}
