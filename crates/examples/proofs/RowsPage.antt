-- The worked rows that differ hold, computed.
-- Assumes nothing.
use mathlib.Core.Path.{refl}
use Rattle.disjunctions.specs.Judge.{pair_rules, bad_commitments, bad_challenges, bad_responses, combined, verdict_or, judging_or, judge_or}
use Rattle.disjunctions.specs.OneOfTwo.{side_rows, or_outcome}
use Rattle.disjunctions.specs.Round.{other_challenge, first_round, second_round, read_or}
use Rattle.encoding.specs.Bytes.{number_at, bytes_of, bytes_of_each}
use Rattle.encoding.specs.Text.{ascii, digits, decimal}
use Rattle.examples.specs.Pages.{array}
use Rattle.examples.specs.RowsPage.{eight_rows, with_rows, three_differ, pair_round, RowsPage}
use Rattle.examples.specs.Sheets.{four_bytes, sheet_bytes}
use Rattle.examples.specs.TeamPage.{pair_bytes}
use Rattle.formats.specs.Load.{bad_start, bad_length, shape_rules, load_rules, load_refusal}
use Rattle.formats.specs.RoundCalls.{no_round, counting, checking, fetching, count_rounds, fetch_round, check_round}
use Rattle.formats.specs.RoundFile.{round_mark, file_version, count_field, width_of, challenge_width, record_length, record_start, round_at, bad_file, record_bytes, unknown_version}
use Rattle.formats.specs.Rounds.{file_in}
use Rattle.formats.specs.Sheet.{sheet_mark, version_of, header_of, entry_count, sheet_length, zeros64, entries_of, statement_of, instance_of}
use Rattle.lists.specs.Choices.{selected}
use Rattle.lists.specs.Places.{items_at, tabulate, places, pad8, zeros8, eight_by_eight}
use Rattle.numbers.specs.Bits.{bit, mask_below}
use Rattle.numbers.specs.Gcd.{euclid, gcd}
use Rattle.numbers.specs.Product.{product, sum}
use Rattle.numbers.specs.Search.{find, any}
use Rattle.reasons.specs.Reason.{first_non_element, first_non_coordinate, sheet_spot, file_spot, round_spot, spot_of, first_verdict, spot_text, row_text, line_text, reason_line, reason_text}
use Rattle.rules.specs.Answer.{unless_refused}
use Rattle.rules.specs.Call.{answer, number_of}
use Rattle.rules.specs.Either.{either_rules}
use Rattle.rules.specs.Rule.{lowest}
use Rattle.runs.specs.Calls.{judge_round}
use Rattle.runs.specs.Level.{bad_level, strong_enough}
use Rattle.runs.specs.Marker.{newline, word_line, row_word, verdict_text, verdict_line, result_line, verdict_on, round_line, round_lines, marker_text, fails_at, mark_rules, mark_refusal, refused_word}
use Rattle.runs.specs.Verifier.{take_response, taking_response, unfit_commitment, verifier_in, verifier_state}
use Rattle.sigma.specs.Admission.{first_divisor, bad_kind, bad_modulus, bad_order, bad_size, bad_count, bad_entries, bad_statement, header_rules, element_rules}
use Rattle.sigma.specs.Answer.{outcome, is_accepted, judged, rows_of}
use Rattle.sigma.specs.Comparison.{first_difference, differ, differences, compare_sides}
use Rattle.sigma.specs.Element.{is_element, some_non_element, is_coordinate, some_non_coordinate}
use Rattle.sigma.specs.Image.{row_image, image}
use Rattle.sigma.specs.Instance.{is_exponent, entry, statement_at}
use Rattle.sigma.specs.Judge.{judging}
use Rattle.sigma.specs.Round.{expected_image, verdict, bad_commitment, bad_challenge, bad_coordinates}
use mathlib.Core.List.{flatten}

pub rows_page : RowsPage
unfolding euclid gcd product find any items_at tabulate places pad8 zeros8 eight_by_eight unless_refused answer
    number_of lowest number_at bytes_of bytes_of_each ascii digits decimal first_divisor bad_kind bad_modulus bad_order
    bad_size bad_count bad_entries bad_statement header_rules element_rules outcome is_accepted judged
    first_difference differ differences compare_sides rows_of selected bit mask_below sum is_element some_non_element
    is_coordinate some_non_coordinate row_image image is_exponent entry statement_at judging expected_image verdict
    bad_commitment bad_challenge bad_coordinates bad_start bad_length shape_rules load_rules load_refusal no_round
    count_rounds fetch_round round_mark file_version count_field width_of challenge_width record_length record_start
    round_at bad_file sheet_mark version_of header_of entry_count sheet_length zeros64 entries_of statement_of
    instance_of judge_round newline word_line row_word verdict_text verdict_line result_line verdict_on round_line
    round_lines marker_text verifier_state verifier_in unfit_commitment taking_response take_response array four_bytes
    sheet_bytes flatten record_bytes check_round first_non_element first_non_coordinate sheet_spot file_spot round_spot
    spot_of first_verdict spot_text row_text line_text reason_line reason_text bad_level strong_enough fails_at
    mark_rules mark_refusal refused_word either_rules pair_rules bad_commitments bad_challenges bad_responses combined
    verdict_or judge_or side_rows or_outcome other_challenge first_round second_round read_or unknown_version file_in
    eight_rows with_rows three_differ pair_round pair_bytes judging_or counting checking fetching
rows_page = record {
  none = refl;
  three = refl;
  all = refl;
  last = refl;
  rows = refl;
  in_session = refl;
  pair = refl;
  marked = refl;
  told = refl;
  both = refl;
  first = refl;
  second = refl;
  sides = refl;
}
