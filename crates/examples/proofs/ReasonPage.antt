-- The reason's lines hold, computed.
-- Assumes nothing.
use mathlib.Core.Path.{refl}
use Rattle.encoding.specs.Bytes.{bytes_of, number_at}
use Rattle.encoding.specs.Text.{ascii, decimal, digits}
use Rattle.examples.specs.Corners.{changed, many_challenges, no_bytes, ones_sheet, root_bytes, zeros_file}
use Rattle.examples.specs.MarkerExample.{example_file, narrow_file}
use Rattle.examples.specs.ReasonPage.{ReasonPage}
use Rattle.examples.specs.RowsPage.{eight_rows}
use Rattle.examples.specs.Sheets.{four_bytes, schnorr_sheet, sheet_bytes, small_sheet}
use Rattle.examples.specs.TeamPage.{pair_bytes}
use Rattle.examples.specs.TwoRows.{narrow, two_columns, two_roots, wide}
use Rattle.formats.specs.Load.{bad_length, bad_start, load_rules, shape_rules}
use Rattle.formats.specs.RoundCalls.{checking, check_round, fetching, fetch_round, no_round}
use Rattle.formats.specs.RoundFile.{bad_file, challenge_width, count_field, file_version, record_length, record_start, round_at, round_mark, unknown_version, width_of}
use Rattle.formats.specs.Sheet.{entries_of, entry_count, header_of, instance_of, sheet_length, sheet_mark, statement_of, version_of, zeros64}
use Rattle.lists.specs.Choices.{selected}
use Rattle.lists.specs.Places.{eight_by_eight, items_at, pad8, places, tabulate, zeros8}
use Rattle.numbers.specs.Bits.{bit, mask_below}
use Rattle.numbers.specs.Gcd.{euclid, gcd}
use Rattle.numbers.specs.Product.{product, sum}
use Rattle.numbers.specs.Search.{any, find}
use Rattle.patterns.specs.Pattern.{digit, root}
use Rattle.patterns.specs.PatternFile.{pattern_bytes, pattern_file, pattern_mark}
use Rattle.patterns.specs.Table.{patterns, shipped}
use Rattle.reasons.specs.Reason.{file_spot, first_non_coordinate, first_non_element, first_verdict, line_text, reason_line, reason_text, round_spot, row_text, sheet_spot, spot_of, spot_text}
use Rattle.rules.specs.Answer.{unless_refused}
use Rattle.rules.specs.Call.{answer, number_of}
use Rattle.rules.specs.Rule.{lowest}
use Rattle.runs.specs.Calls.{judge_round}
use Rattle.sigma.specs.Admission.{bad_count, bad_entries, bad_kind, bad_modulus, bad_order, bad_size, bad_statement, element_rules, first_divisor, header_rules}
use Rattle.sigma.specs.Answer.{judged, outcome, rows_of}
use Rattle.sigma.specs.Comparison.{compare_sides, differ, differences, first_difference}
use Rattle.sigma.specs.Element.{is_coordinate, is_element, some_non_coordinate, some_non_element}
use Rattle.sigma.specs.Image.{image, row_image}
use Rattle.sigma.specs.Instance.{entry, is_exponent, statement_at}
use Rattle.sigma.specs.Judge.{judging}
use Rattle.sigma.specs.Round.{bad_challenge, bad_commitment, bad_coordinates, expected_image, response, response_coordinate, verdict}
use mathlib.Core.List.{flatten}

pub reason_page : ReasonPage
unfolding bytes_of number_at ascii decimal digits changed many_challenges no_bytes ones_sheet root_bytes zeros_file
    example_file narrow_file eight_rows four_bytes schnorr_sheet sheet_bytes small_sheet pair_bytes narrow two_columns two_roots
    wide bad_length bad_start load_rules shape_rules checking check_round fetching fetch_round no_round
    bad_file challenge_width count_field file_version record_length record_start round_at round_mark unknown_version
    width_of entries_of entry_count header_of instance_of sheet_length sheet_mark statement_of version_of zeros64 selected
    eight_by_eight items_at pad8 places tabulate zeros8 bit mask_below euclid gcd product sum any find digit root
    pattern_bytes pattern_file pattern_mark patterns shipped file_spot first_non_coordinate first_non_element first_verdict
    line_text reason_line reason_text round_spot row_text sheet_spot spot_of spot_text unless_refused lowest judge_round
    bad_count bad_entries bad_kind bad_modulus bad_order bad_size bad_statement element_rules first_divisor header_rules judged
    outcome rows_of compare_sides differ differences first_difference is_coordinate is_element some_non_coordinate
    some_non_element image row_image entry is_exponent statement_at judging answer number_of bad_challenge
    bad_commitment bad_coordinates expected_image response response_coordinate verdict flatten
reason_page = record {
  refusal2 = refl;
  refusal3 = refl;
  refusal4 = refl;
  refusal5 = refl;
  refusal6 = refl;
  refusal7 = refl;
  refusal8 = refl;
  refusal9 = refl;
  refusal10 = refl;
  refusal11 = refl;
  start12 = refl;
  rest12 = refl;
  refusal13 = refl;
  refusal14 = refl;
  refusal15 = refl;
  refusal16 = refl;
  lower = refl;
  rejected = refl;
  accepted = refl;
}
