-- The sheet of a pattern: what its digits stand for, and what its values hold.
-- Assumes nothing.
use Prim.Native.Nat.{ℕ, zero, suc, ◌-◌, ◌<◌, ◌≤◌}
use mathlib.Core.Path.{◌≡◌, refl, sym, ap, ◌∙◌}
use mathlib.Core.Bool.{Bool, cond}
use mathlib.Core.List.{List}
use native.Mathlib.Decide.{ℕ_discrete}
use native.Mathlib.Omega.{arith}
use lib.ListN.{length, get_or}
use borrow.Author.Tests.{eq-eqb, ne_eqb}
use Rattle.types.specs.declared.Header.{Header}
use Rattle.lists.specs.Places.{eight_by_eight, pad8}
use Rattle.lists.proofs.Places.{get_d_pad8, places_pad8, places_whole}
use Rattle.lists.proofs.Rows.{get_d_table, table_agree}
use Rattle.sigma.specs.Element.{Element}
use Rattle.sigma.specs.Instance.{Instance, table_of, entry, is_exponent, statement_at}
use Rattle.sigma.proofs.ElementGroup.{element_one}
use Rattle.formats.specs.Meaning.{read_instance}
use Rattle.formats.specs.Sheet.{zeros64}
use Rattle.patterns.specs.Pattern.{Pattern, digit, entry_of, header_for, made_for, pattern_entries}

-- ---- what a digit stands for

-- 0 stands for 1
pub entry_of_none : (values : List ℕ) → entry_of values 0 ≡ 1
unfolding entry_of
entry_of_none values = refl

-- any other digit stands for the public value of that position, from 1
pub entry_of_value : (values : List ℕ) (j : ℕ) → entry_of values (suc j) ≡ get_or values j 0
unfolding entry_of
entry_of_value values j =
    let e : suc j - 1 ≡ j = omega arith in
    rw (ne_eqb (suc j) 0 (λ (z : suc j ≡ 0). omega arith)) (ap (λ (k : ℕ). get_or values k 0) e)

-- what a digit stands for is a group element where the public values are
pub entry_of_element : (h : Header) (values : List ℕ) (d : ℕ) → 3 ≤ h.modulus
    → ((j : ℕ) → j < length values → Element h (get_or values j 0)) → d ≤ length values → Element h (entry_of values d)
entry_of_element h values zero low elements inside = rw (entry_of_none values) (element_one h (omega arith))
entry_of_element h values (suc j) low elements inside = rw (entry_of_value values j) (elements j inside)

-- ---- what the values of a pattern's sheet hold

module _ (kind : ℕ) (p : Pattern) (modulus order challenges : ℕ) (values statement : List ℕ) where
  -- the values
  abbrev inst : Instance
  inst = made_for kind p modulus order challenges values statement

  -- a sheet of kind 1 has the entries that the pattern's digits stand for
  pub made_entry : kind ≡ 1 → (r c : ℕ) → r < p.rows → c < p.columns → entry (table_of inst) r c ≡ entry_of values (digit p r c)
  unfolding entry made_for pattern_entries
  made_entry one r c a b =
      rw (eq-eqb kind 1 one) (get_d_table p.rows p.columns (λ i j. entry_of values (digit p i j)) r c a b)

  -- the statement is z, row by row
  pub made_statement : (i : ℕ) → statement_at inst i ≡ get_or statement i 0
  unfolding made_for statement_at
  made_statement i = get_d_pad8 0 statement i

  -- the entries are 0 in the places that are not read
  made_read_entries : (read_instance inst).entries ≡ inst.entries
  unfolding read_instance made_for header_for is_exponent pattern_entries
  made_read_entries = elim (ℕ_discrete kind 1) [
    | yes one ↦
        let rows =
        table_agree p.rows p.columns (entry (table_of inst)) (λ r c. entry_of values (digit p r c)) (made_entry one) in
        ap (λ (b : Bool). cond b (eight_by_eight p.rows p.columns (entry (table_of inst))) zeros64) (eq-eqb kind 1 one)
        ∙ rows ∙ ap (λ (b : Bool). cond b (pattern_entries p values) zeros64) (sym (eq-eqb kind 1 one))
    | no other ↦ rw (ne_eqb kind 1 other)
  ]

  -- of a statement of as many values as there are rows, all values are 0 in the places that are not read
  pub made_read : length statement ≡ p.rows → read_instance inst ≡ inst
  unfolding read_instance made_for header_for
  made_read rowed =
      let z = ap (λ (l : List ℕ). pad8 0 l) (places_pad8 p.rows statement ∙ places_whole _ statement rowed) in
      λ j. record { header = inst.header; entries = made_read_entries j; statement = z j }
