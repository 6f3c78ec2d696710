-- The worked games hold, computed.
-- Assumes nothing.
use mathlib.Core.List.{flatten}
use mathlib.Core.Path.{refl}
use Rattle.encoding.specs.Bytes.{number_at}
use Rattle.encoding.specs.Text.{ascii, decimal, digits}
use Rattle.examples.specs.Corners.{root_bytes}
use Rattle.examples.specs.GamePage.{GamePage, one_round, okamoto_bytes, play_on}
use Rattle.examples.specs.MarkerExample.{example_file, narrow_file}
use Rattle.examples.specs.Pages.{repeated}
use Rattle.examples.specs.Sheets.{four_bytes, schnorr_sheet, sheet_bytes, small_sheet}
use Rattle.formats.specs.Load.{bad_length, bad_start, load_rules, shape_rules}
use Rattle.formats.specs.RoundCalls.{checking, fetching, fetch_round, no_round}
use Rattle.formats.specs.RoundFile.{bad_file, challenge_width, count_field, file_version, record_length, record_start, round_at, round_mark, unknown_version, width_of}
use Rattle.formats.specs.Sheet.{entries_of, entry_count, header_of, instance_of, sheet_length, sheet_mark, statement_of, version_of}
use Rattle.games.specs.Slots.{slots_of}
use Rattle.games.specs.Text.{answer_line, answer_lines, answered, bad_game, candidate, candidates, first_answer, game_refusal, game_rules, game_text, is_answered, lines_of, named_commitment, text_of}
use Rattle.lists.specs.Choices.{selected}
use Rattle.lists.specs.Places.{eight_by_eight, items_at, pad8, places, tabulate, zeros8}
use Rattle.numbers.specs.Gcd.{euclid, gcd}
use Rattle.numbers.specs.Product.{product}
use Rattle.numbers.specs.Search.{any, find}
use Rattle.rules.specs.Answer.{unless_refused}
use Rattle.rules.specs.Call.{answer, number_of}
use Rattle.rules.specs.Rule.{lowest}
use Rattle.runs.specs.Marker.{newline, row_word, word_line}
use Rattle.sigma.specs.Admission.{bad_count, bad_entries, bad_kind, bad_modulus, bad_order, bad_size, bad_statement, element_rules, first_divisor, header_rules}
use Rattle.sigma.specs.Answer.{is_accepted, judged}
use Rattle.sigma.specs.Comparison.{compare_sides, differ, differences, first_difference}
use Rattle.sigma.specs.Element.{is_coordinate, is_element, some_non_coordinate, some_non_element}
use Rattle.sigma.specs.Image.{image, row_image}
use Rattle.sigma.specs.Instance.{entry, is_exponent, statement_at}
use Rattle.sigma.specs.Judge.{judging, judge_loaded}
use Rattle.sigma.specs.Round.{bad_challenge, bad_commitment, bad_coordinates, expected_image, verdict}

pub game_page : GamePage
unfolding flatten number_at ascii decimal digits root_bytes one_round okamoto_bytes play_on example_file narrow_file repeated
    four_bytes schnorr_sheet sheet_bytes small_sheet bad_length bad_start load_rules shape_rules checking fetching
    fetch_round no_round bad_file challenge_width count_field file_version record_length record_start
    round_at round_mark unknown_version width_of entries_of entry_count header_of instance_of sheet_length sheet_mark
    statement_of version_of slots_of answer_line answer_lines answered bad_game candidate candidates first_answer game_refusal
    game_rules game_text is_answered lines_of named_commitment text_of selected eight_by_eight items_at pad8 places tabulate
    zeros8 euclid gcd product any find unless_refused lowest newline row_word word_line bad_count bad_entries bad_kind
    bad_modulus bad_order bad_size bad_statement element_rules first_divisor header_rules is_accepted judged compare_sides
    differ differences first_difference is_coordinate is_element some_non_coordinate some_non_element image row_image entry
    is_exponent statement_at judging answer number_of judge_loaded bad_challenge bad_commitment bad_coordinates
    expected_image verdict
game_page = record {
  A = refl;
  A-two = refl;
  D = refl;
  two_rows_law = refl;
  G = refl;
  first_answered = refl;
  second_answered = refl;
  none_answered = refl;
  kernel = refl;
  no_image = refl;
  roots = refl;
  none_rooted = refl;
  no_root = refl;
  no_sheet = refl;
  no_file = refl;
  no_rounds_law = refl;
  no_element = refl;
  large = refl;
}
