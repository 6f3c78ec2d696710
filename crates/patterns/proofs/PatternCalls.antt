-- What 02's second card asks holds of the definitions.
-- Assumes nothing.
use Prim.Native.Nat.{ℕ, suc}
use mathlib.Core.Path.{◌≡◌, refl, sym, ap, ap₂, ◌∙◌}
use mathlib.Core.List.{List}
use Rattle.lists.specs.Places.{items_at, tabulate, zeros8}
use Rattle.rules.specs.Order.{is_sublist, refusal_order}
use Rattle.rules.specs.Refuses.{condition_numbers}
use Rattle.sigma.specs.Image.{row_image}
use Rattle.sigma.specs.Instance.{Instance, entry, is_exponent, table_of}
use Rattle.formats.specs.Sheet.{zeros64}
use Rattle.formats.proofs.Writing.{writing_refuses}
use Rattle.patterns.specs.Maker.{asked, asked_kind, asked_pattern, make_from}
use Rattle.patterns.specs.Ours.{maker_calls}
use Rattle.patterns.specs.Pattern.{Pattern, digit, header_for, made_for, root}
use Rattle.patterns.specs.PatternCalls.{PatternCalls, PatternRefusals}
use Rattle.patterns.specs.Table.{write_shipped}
use Rattle.patterns.proofs.Files.{not_23}
use Rattle.patterns.proofs.Maker.{asked_pattern_law}
use Rattle.patterns.proofs.Making.{make_puts, make_tests}
use Rattle.patterns.proofs.Meaning.{pattern_means}
use Rattle.patterns.proofs.OldMaker.{one_maker, some_maker}
use Rattle.patterns.proofs.Sheets.{entry_of_none, entry_of_value, made_entry, made_statement}
use Rattle.patterns.proofs.Shipped.{
  asks_root,
  asks_same,
  old_sheet,
  shipped_bytes_law,
  shipped_tests,
}
use Rattle.patterns.proofs.ShippedPuts.{shipped_puts}
use Rattle.patterns.proofs.Spelled.{filed_spells, spells_count, spells_digits, spells_filed, spells_number}

-- demand 1 holds of the calls on pattern files
pub pattern_refusals : PatternRefusals maker_calls
unfolding condition_numbers is_sublist refusal_order tabulate items_at make_from write_shipped
pattern_refusals = record {
  order = refl;
  making = λ f number m ℓ K values z buffer.
      writing_refuses _ _ refl refl _ _ _ buffer (make_tests f number values z _ buffer);
  shipping = λ buffer. writing_refuses _ _ refl refl _ _ _ buffer (shipped_tests buffer);
}

-- the sheet of a number above 0 is of kind 1
asked_sheet : (f : List ℕ) (k m ℓ K : ℕ) (values z : List ℕ) (p : Pattern) → p ≡ asked_pattern f (suc k)
    → asked f (suc k) m ℓ K values z ≡ made_for 1 p m ℓ K values z
unfolding asked
asked_sheet f k m ℓ K values z p e =
    ap₂ (λ (kind : ℕ) (q : Pattern). made_for kind q m ℓ K values z) (asked_pattern_law f k).0 (sym e)

pub pattern_calls : PatternCalls maker_calls
unfolding asked asked_kind asked_pattern made_for header_for digit root row_image is_exponent zeros64 zeros8
pattern_calls = record {
  files = λ f. (λ none. (_, filed_spells ((not_23 f).0 none)), λ (ps, s). (not_23 f).1 (spells_filed s));
  digits = spells_digits;
  count = λ ps f s. spells_count s;
  number = λ ps f s. spells_number s;
  root_asked = λ f. (refl, refl);
  written = make_puts;
  one = entry_of_none;
  value = entry_of_value;
  header = λ f k m ℓ K values z. ap (λ (i : Instance). i.header) (asked_sheet f k m ℓ K values z (asked_pattern f (suc k)) refl);
  entries = λ f k m ℓ K values z p e i j a b.
      ap (λ (inst : Instance). entry (table_of inst) i j) (asked_sheet f k m ℓ K values z p e)
      ∙ made_entry 1 p m ℓ K values z refl i j a b;
  root_header = λ f m e K values z. refl;
  root_entries = λ f m e K values z. refl;
  statement = λ f number m ℓ K values z. made_statement (asked_kind number) (asked_pattern f number) m ℓ K values z;
  means = λ f k m ℓ K values z x p e i h.
      ap (λ (inst : Instance). row_image (table_of inst) x i) (asked_sheet f k m ℓ K values z p e)
      ∙ pattern_means p m ℓ K values z x i h;
  root_means = λ f m e K values z x. refl;
  bytes = shipped_bytes_law;
  ships = shipped_puts;
  same = λ old number m ℓ K values z buffer low high.
      old_sheet (asks_same number low high) m ℓ K values z buffer ∙ one_maker some_maker old number m ℓ K values z buffer;
  same_root = λ old m e K values z buffer.
      old_sheet asks_root m e K values z buffer ∙ one_maker some_maker old 6 m e K values z buffer;
}
