-- The worked rounds that multiply hold, computed.
-- Assumes nothing.
use mathlib.Core.Path.{refl}
use mathlib.Core.List.{flatten}
use Rattle.encoding.specs.Bytes.{bytes_of, bytes_of_each, number_at}
use Rattle.encoding.specs.Text.{ascii}
use Rattle.examples.specs.Corners.{root_bytes}
use Rattle.examples.specs.Pages.{array, small_round}
use Rattle.examples.specs.ProductsPage.{ProductsPage, logarithm, logarithms, pair_round, root}
use Rattle.examples.specs.Sheets.{four_bytes, schnorr_sheet, sheet_bytes, small_sheet}
use Rattle.examples.specs.TeamPage.{pair_bytes}
use Rattle.formats.specs.Encode.{encode, encoding, header_bytes, sheet_of, stored_entries}
use Rattle.formats.specs.Load.{bad_length, bad_start, load, load_entries, load_refusal, load_rules, shape_rules}
use Rattle.formats.specs.Sheet.{entries_of, entry_count, header_of, instance_of, sheet_length, sheet_mark, statement_of, version_of, zeros64}
use Rattle.formats.specs.Write.{short}
use Rattle.lists.specs.Places.{eight_by_eight, items_at, pad8, places, tabulate, zeros8}
use Rattle.numbers.specs.Bits.{mask_below}
use Rattle.numbers.specs.Gcd.{euclid, gcd}
use Rattle.numbers.specs.Integer.{bezout_left, bezout_right, power, quotient, residue}
use Rattle.numbers.specs.Inverse.{inverse}
use Rattle.numbers.specs.Product.{product}
use Rattle.numbers.specs.Search.{any, find}
use Rattle.rules.specs.Answer.{unless_refused}
use Rattle.rules.specs.Call.{answer, number_of}
use Rattle.rules.specs.Rule.{lowest}
use Rattle.runs.specs.Calls.{extract_witness, judge_round}
use Rattle.sigma.specs.Admission.{bad_count, bad_entries, bad_kind, bad_modulus, bad_order, bad_size, bad_statement, element_rules, first_divisor, header_rules}
use Rattle.sigma.specs.Answer.{computed, eight_places, is_accepted, judged}
use Rattle.sigma.specs.Comparison.{compare_sides, differ, differences, first_difference}
use Rattle.sigma.specs.Element.{combine, is_coordinate, is_element, some_non_coordinate, some_non_element}
use Rattle.sigma.specs.Extractor.{extracting, extracted, formula, slot_formula}
use Rattle.sigma.specs.Image.{image, row_image}
use Rattle.sigma.specs.Instance.{entry, is_exponent, statement_at}
use Rattle.sigma.specs.Joined.{join_slots, multiply_rows}
use Rattle.sigma.specs.Judge.{judging}
use Rattle.sigma.specs.Round.{bad_challenge, bad_commitment, bad_coordinates, expected_image, verdict}

pub products_page : ProductsPage
unfolding flatten bytes_of bytes_of_each number_at ascii root_bytes array small_round logarithm logarithms pair_round root
    four_bytes schnorr_sheet sheet_bytes small_sheet pair_bytes encode encoding header_bytes sheet_of stored_entries
    bad_length bad_start load load_entries load_refusal load_rules shape_rules entries_of entry_count header_of instance_of
    sheet_length sheet_mark statement_of version_of zeros64 short eight_by_eight items_at pad8 places
    tabulate zeros8 mask_below euclid gcd bezout_left bezout_right power quotient residue inverse product any find
    unless_refused lowest extract_witness judge_round bad_count bad_entries bad_kind bad_modulus bad_order bad_size bad_statement
    element_rules first_divisor header_rules computed eight_places is_accepted judged compare_sides differ differences
    first_difference combine is_coordinate is_element some_non_coordinate some_non_element extracting answer number_of
    extracted formula slot_formula image row_image entry is_exponent statement_at join_slots multiply_rows judging
    bad_challenge bad_commitment bad_coordinates expected_image verdict
products_page =
    record {
      sheets = record {
        loads = (refl, refl);
        alike = record { header = refl; entries = refl };
        whole = record { loads = refl; values = refl };
        written = refl;
      };
      three = record { factors = (refl, refl); values = refl; whole = refl };
      one = record { factors = (refl, refl); values = refl; whole = refl };
      witnesses = record { witness = refl; witness' = refl; whole = refl; joined = refl };
      sheets_over = record {
        loads = (refl, refl);
        alike = record { header = refl; entries = refl };
        whole = record { loads = refl; values = refl };
        written = refl;
      };
      three_over = record { factors = (refl, refl); values = refl; whole = refl };
      one_over = record { factors = (refl, refl); values = refl; whole = refl };
      witnesses_over = record { witness = refl; witness' = refl; whole = refl; joined = refl };
      sheets_squared = record {
        loads = (refl, refl);
        alike = record { header = refl; entries = refl };
        whole = record { loads = refl; values = refl };
        written = refl;
      };
      three_squared = record { factors = (refl, refl); values = refl; whole = refl };
      one_squared = record { factors = (refl, refl); values = refl; whole = refl };
      witnesses_squared = record { witness = refl; witness' = refl; whole = refl; joined = refl };
      sheets_root = record {
        loads = (refl, refl);
        alike = record { header = refl; entries = refl };
        whole = record { loads = refl; values = refl };
        written = refl;
      };
      one_root = record { factors = (refl, refl); values = refl; whole = refl };
      three_root = record { factors = (refl, refl); values = refl; whole = refl };
      witnesses_root = record { witness = refl; witness' = refl; whole = refl; joined = refl };
    }
