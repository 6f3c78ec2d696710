-- The worked ledgers hold, computed.
-- Assumes nothing.
use mathlib.Core.List.{flatten}
use mathlib.Core.Path.{refl}
use Rattle.encoding.specs.Bytes.{bytes_of, bytes_of_each, number_at}
use Rattle.encoding.specs.Text.{ascii}
use Rattle.examples.specs.LedgerPage.{LedgerPage, accepted, added, asked, base_of, both_orders, composite_base, composite_lines, entry_with, found_of, gave, given, line_with, made_of, multiplied, page_entries, page_lines, rejected_at, small_base, unequal_entries, unequal_lines, wrote}
use Rattle.examples.specs.Pages.{array}
use Rattle.examples.specs.Sheets.{four_bytes, sheet_bytes}
use Rattle.examples.specs.TwoRows.{eight, round_with}
use Rattle.formats.specs.Load.{bad_length, bad_start, load_rules, shape_rules}
use Rattle.formats.specs.Sheet.{entries_of, entry_count, header_of, instance_of, sheet_length, sheet_mark, statement_of, version_of, zeros64}
use Rattle.ledgers.specs.Check.{bad_elements, bad_line_challenge, bad_line_kind, bad_response, base_rules, check_ledger, checking_ledger, first_rejected, not_above, rejects_line}
use Rattle.ledgers.specs.Ledger.{commitments, line_commitment, line_instance, product_of}
use Rattle.ledgers.specs.Meaning.{product_sheet}
use Rattle.ledgers.specs.Write.{bad_numbers, commit_to, ledger_of, line_of, made_commitment, made_line, made_product, made_sum, opening_at, opening_of, openings, product_witness, write_ledger, writing_ledger, zero_line}
use Rattle.lists.specs.Choices.{selected}
use Rattle.lists.specs.Places.{eight_by_eight, items_at, pad8, places, tabulate, zeros8}
use Rattle.numbers.specs.Bits.{bit, mask_below}
use Rattle.numbers.specs.Gcd.{euclid, gcd}
use Rattle.numbers.specs.Integer.{bezout_left, bezout_right, power, quotient, residue}
use Rattle.numbers.specs.Inverse.{inverse}
use Rattle.numbers.specs.Product.{product, sum}
use Rattle.numbers.specs.Search.{any, find}
use Rattle.patterns.specs.Pattern.{digit, entry_of, header_for, made_for, pattern_entries, root}
use Rattle.patterns.specs.Table.{kind_of, made, pattern_of, patterns, pedersen}
use Rattle.rules.specs.Call.{answer, number_of}
use Rattle.rules.specs.Answer.{unless_refused}
use Rattle.rules.specs.Rule.{lowest}
use Rattle.runs.specs.Calls.{extract_witness}
use Rattle.sigma.specs.Admission.{bad_count, bad_entries, bad_kind, bad_modulus, bad_order, bad_size, bad_statement, element_rules, first_divisor, header_rules}
use Rattle.sigma.specs.Answer.{computed, eight_places, is_accepted, judged}
use Rattle.sigma.specs.Comparison.{compare_sides, differ, differences, first_difference}
use Rattle.sigma.specs.Element.{is_coordinate, is_element, some_non_coordinate, some_non_element}
use Rattle.sigma.specs.Extractor.{extracting, extracted, formula, slot_formula}
use Rattle.sigma.specs.Image.{image, row_image}
use Rattle.sigma.specs.Instance.{entry, is_exponent, statement_at}
use Rattle.sigma.specs.Judge.{judging, judge_loaded}
use Rattle.sigma.specs.Round.{bad_challenge, bad_commitment, bad_coordinates, expected_image, response, response_coordinate, verdict}

pub ledger_page : LedgerPage
unfolding answer number_of flatten bytes_of bytes_of_each number_at ascii accepted added asked base_of both_orders
    composite_base composite_lines entry_with found_of gave given line_with made_of multiplied page_entries page_lines
    rejected_at small_base unequal_entries unequal_lines wrote array four_bytes sheet_bytes eight round_with
    bad_length bad_start load_rules shape_rules entries_of entry_count header_of instance_of sheet_length sheet_mark
    statement_of version_of zeros64 bad_elements bad_line_challenge bad_line_kind bad_response base_rules check_ledger
    checking_ledger first_rejected not_above rejects_line commitments line_commitment line_instance product_of
    product_sheet bad_numbers commit_to ledger_of line_of made_commitment made_line made_product made_sum opening_at
    opening_of openings product_witness write_ledger writing_ledger zero_line selected eight_by_eight items_at pad8
    places tabulate zeros8 bit mask_below euclid gcd bezout_left bezout_right power quotient residue inverse
    product sum any find digit entry_of header_for made_for pattern_entries root kind_of made pattern_of patterns
    pedersen unless_refused lowest extract_witness bad_count bad_entries bad_kind bad_modulus bad_order bad_size
    bad_statement element_rules first_divisor header_rules computed eight_places is_accepted judged compare_sides
    differ differences first_difference is_coordinate is_element some_non_coordinate some_non_element extracting
    extracted formula slot_formula image row_image entry is_exponent statement_at judging judge_loaded bad_challenge
    bad_commitment bad_coordinates expected_image response response_coordinate verdict
ledger_page = record {
  made = refl;
  made_again = refl;
  checked = refl;
  checked_again = refl;
  line_commitments = refl;
  sheet = refl;
  extracted = refl;
  unequal = refl;
  unequal_checked = refl;
  unequal_exchanged = refl;
  unequal_again = refl;
  unequal_commitments = refl;
  unequal_extracted = refl;
  unequal_opened = refl;
  composite = refl;
  composite_checked = refl;
  none = refl;
  none_checked = refl;
}
