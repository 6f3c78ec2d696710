-- The worked sheets from linear forms hold, computed.
-- Assumes nothing.
use mathlib.Core.Path.{refl}
use mathlib.Core.List.{flatten}
use Rattle.encoding.specs.Bytes.{bytes_of, bytes_of_each, number_at}
use Rattle.encoding.specs.Text.{ascii}
use Rattle.formats.specs.Encode.{header_bytes, sheet_of, stored_entries}
use Rattle.formats.specs.Load.{bad_length, bad_start, load, load_entries, load_refusal, load_rules, shape_rules}
use Rattle.formats.specs.Sheet.{entries_of, entry_count, header_of, instance_of, sheet_length, sheet_mark, statement_of, version_of}
use Rattle.formats.specs.Write.{short}
use Rattle.linear_forms.specs.Linear.{bad_coefficient, bad_counts, coefficient, linear_entry, linear_instance, linear_rules, make_linear}
use Rattle.lists.specs.Places.{eight_by_eight, items_at, pad8, places, tabulate, zeros8}
use Rattle.numbers.specs.Product.{product}
use Rattle.numbers.specs.Search.{any, find}
use Rattle.rules.specs.Answer.{unless_refused}
use Rattle.rules.specs.Call.{answer, number_of}
use Rattle.rules.specs.Rule.{lowest}
use Rattle.sigma.specs.Admission.{bad_count, bad_entries, bad_kind, bad_modulus, bad_order, bad_size, bad_statement, element_rules, first_divisor, header_rules}
use Rattle.sigma.specs.Comparison.{differ, first_difference}
use Rattle.sigma.specs.Element.{is_element, some_non_element}
use Rattle.sigma.specs.Image.{image, row_image}
use Rattle.sigma.specs.Instance.{entry, is_exponent}
use Rattle.examples.specs.AnswerPage.{sevens}
use Rattle.examples.specs.LinearPage.{LinearPage, maurer_forms, maurer_plan, maurer_sheet}
use Rattle.examples.specs.Sheets.{four_bytes, sheet_bytes}
use Rattle.examples.specs.TwoRows.{eight}

pub linear_page : LinearPage
unfolding any ascii bad_coefficient bad_count bad_counts bad_entries bad_kind bad_length bad_modulus bad_order bad_size
    bad_start bad_statement bytes_of bytes_of_each coefficient differ eight eight_by_eight element_rules entries_of entry
    entry_count find first_difference first_divisor four_bytes header_bytes header_of header_rules image instance_of is_element
    is_exponent items_at linear_entry linear_instance linear_rules load load_entries load_refusal load_rules lowest make_linear
    maurer_forms maurer_plan maurer_sheet number_at pad8 places product row_image sevens shape_rules sheet_bytes
    sheet_length sheet_mark sheet_of short some_non_element statement_of stored_entries tabulate unless_refused
    version_of zeros8 flatten answer number_of
linear_page = record {
  made = refl;
  refused = refl;
  loaded = refl;
  table = refl;
  imaged = refl;
  square = refl;
  zeros = refl;
  composite = refl;
}
