-- The whole answers of the calls on no session are those that the definitions give, by computation.
-- Assumes nothing.
use mathlib.Core.Path.{refl}
use mathlib.Core.List.{flatten}
use Rattle.disjunctions.specs.Extractor.{extract_or, extracting_or, extracted_of, extracted_or, extracted_side, is_or_accepted}
use Rattle.disjunctions.specs.Judge.{bad_challenges, bad_commitments, bad_responses, combined, judge_or, judging_or, pair_rules, verdict_or}
use Rattle.disjunctions.specs.Round.{first_round, other_challenge, read_or, second_round}
use Rattle.encoding.specs.Bytes.{bytes_of, bytes_of_each, number_at}
use Rattle.encoding.specs.Text.{ascii}
use Rattle.formats.specs.Append.{append, appending, appended, bad_in_use, empty_file, starting, wide_challenge}
use Rattle.formats.specs.Convert.{convert, converting, converted, other_version, wide_record}
use Rattle.formats.specs.Encode.{encode, encoding, header_bytes, sheet_of, stored_entries}
use Rattle.formats.specs.Load.{bad_length, bad_start, load, load_entries, load_refusal, load_rules, no_header, shape_rules}
use Rattle.formats.specs.RoundCalls.{checking, counting, count_rounds, fetching, fetch_round, locating, locate_round, no_round, part_of_round}
use Rattle.formats.specs.RoundFile.{bad_file, challenge_width, count_field, file_version, no_rounds, record_bytes, record_length, record_start, round_at, round_mark, unknown_version, width_of}
use Rattle.formats.specs.Rounds.{file_in, rounds_of}
use Rattle.formats.specs.SameCommitment.{commitment_bytes, comparing, same_commitment}
use Rattle.formats.specs.Sheet.{entries_of, entry_count, header_of, instance_of, sheet_length, sheet_mark, statement_of, version_of, zeros64}
use Rattle.formats.specs.Write.{short}
use Rattle.lists.specs.Places.{eight_by_eight, items_at, pad8, places, tabulate, zeros8}
use Rattle.numbers.specs.Bits.{mask_below}
use Rattle.numbers.specs.Gcd.{euclid, gcd}
use Rattle.numbers.specs.Integer.{bezout_left, bezout_right, power, quotient, residue}
use Rattle.numbers.specs.Inverse.{inverse}
use Rattle.numbers.specs.Product.{product, sum}
use Rattle.numbers.specs.Search.{any, find}
use Rattle.patterns.specs.Maker.{asked, asked_kind, asked_pattern, bad_asked, made_rules, make_from, make_rules}
use Rattle.patterns.specs.Pattern.{digit, entry_of, header_for, made_for, pattern_entries, root}
use Rattle.patterns.specs.PatternFile.{bad_digits, bad_pattern_file, bad_sizes, misnamed, pattern_at, pattern_bytes, pattern_count, pattern_end, pattern_file, pattern_from, pattern_mark, pattern_start, pattern_version}
use Rattle.patterns.specs.Table.{patterns, shipped, write_shipped}
use Rattle.products.specs.Team.{bad_images, bad_product, bad_team, join_all, join_responses, joining, multiply_all, multiply_commitments, multiplying, team_rules}
use Rattle.rules.specs.Answer.{unless_refused}
use Rattle.rules.specs.Call.{answer, number_of}
use Rattle.rules.specs.Either.{either_rules}
use Rattle.rules.specs.Rule.{lowest}
use Rattle.runs.specs.Calls.{extract_witness, judge_round, simulate_commitment}
use Rattle.sigma.specs.Admission.{bad_count, bad_entries, bad_kind, bad_modulus, bad_order, bad_size, bad_statement, element_rules, first_divisor, header_rules}
use Rattle.sigma.specs.Answer.{computed, eight_places, is_accepted, judged}
use Rattle.sigma.specs.Comparison.{compare_sides, differ, differences, first_difference}
use Rattle.sigma.specs.Element.{is_coordinate, is_element, some_non_coordinate, some_non_element}
use Rattle.sigma.specs.Extractor.{extracting, extracted, formula, slot_formula}
use Rattle.sigma.specs.Image.{image, row_image}
use Rattle.sigma.specs.Instance.{entry, is_exponent, statement_at}
use Rattle.sigma.specs.Judge.{judging}
use Rattle.sigma.specs.Round.{bad_challenge, bad_commitment, bad_coordinates, expected_image, verdict}
use Rattle.sigma.specs.Simulator.{simulating, simulated}
use Rattle.examples.specs.AnswerPage.{AnswerPage, narrow_three, one, sevens, table_header, table_values, three, wide_three}
use Rattle.examples.specs.Corners.{changed, no_bytes, root_bytes, shipped_bytes, zeros_file}
use Rattle.examples.specs.FileCorners.{twice}
use Rattle.examples.specs.OrCorners.{challenges_or, honest_or, or_with, responses_or, second_or}
use Rattle.examples.specs.OrPage.{logarithm_sheet, small_or}
use Rattle.examples.specs.Pages.{array}
use Rattle.examples.specs.Sheets.{four_bytes, sheet_bytes, small_sheet}
use Rattle.examples.specs.TeamPage.{brought}
use Rattle.examples.specs.TwoRows.{eight, narrow, round_with, table, two_roots, wide}

pub answer_page : AnswerPage
unfolding any append appending appended array ascii asked asked_kind asked_pattern bad_asked bad_challenge
    bad_challenges bad_commitment bad_commitments bad_coordinates bad_count bad_digits bad_entries bad_file bad_images
    bad_in_use bad_kind bad_length bad_modulus bad_order bad_pattern_file bad_product bad_responses bad_size bad_sizes
    bad_start bad_statement bad_team bezout_left bezout_right brought bytes_of bytes_of_each challenge_width
    challenges_or changed combined commitment_bytes compare_sides computed convert converted count_field
    count_rounds differ differences digit eight eight_by_eight eight_places either_rules element_rules empty_file
    encode entries_of entry entry_count entry_of euclid expected_image extracting answer number_of extract_or
    extract_witness extracted extracted_of extracted_or extracted_side fetch_round file_in file_version find
    first_difference first_divisor first_round formula four_bytes gcd header_bytes header_for header_of header_rules
    honest_or image instance_of inverse is_accepted is_coordinate is_element is_exponent is_or_accepted items_at
    join_all join_responses judging judge_or judge_round judged load load_entries load_refusal load_rules locate_round
    logarithm_sheet lowest made_for made_rules make_from make_rules mask_below misnamed multiply_all
    multiply_commitments narrow narrow_three no_bytes no_header extracting_or joining judging_or multiplying no_round
    no_rounds number_at one or_with other_challenge other_version pad8 pair_rules part_of_round pattern_at pattern_bytes
    pattern_count pattern_end pattern_entries pattern_file pattern_from pattern_mark pattern_start pattern_version
    patterns places power product quotient read_or record_bytes record_length record_start residue responses_or
    root root_bytes round_at round_mark round_with rounds_of row_image same_commitment second_or second_round sevens
    shape_rules sheet_bytes sheet_length sheet_mark sheet_of shipped shipped_bytes short simulating
    simulate_commitment simulated slot_formula small_or small_sheet some_non_coordinate some_non_element checking
    converting counting starting encoding fetching locating comparing statement_at statement_of stored_entries
    sum table table_header table_values tabulate team_rules three twice two_roots unknown_version unless_refused
    verdict verdict_or version_of wide wide_challenge wide_record wide_three width_of write_shipped zeros64 zeros8
    zeros_file flatten
answer_page = record {
  loaded = refl;
  entries = refl;
  loaded_roots = refl;
  load_refused = refl;
  encoded = refl;
  encode_refused = refl;
  made = refl;
  made_root = refl;
  make_refused = refl;
  shipped = refl;
  ship_refused = refl;
  counted = refl;
  count_refused = refl;
  located = refl;
  located_narrow = refl;
  locate_refused = refl;
  part = refl;
  part_refused = refl;
  fetched = refl;
  fetch_refused = refl;
  same = refl;
  not_same = refl;
  same_refused = refl;
  started = refl;
  started_narrow = refl;
  start_refused = refl;
  appended = refl;
  appended_narrow = refl;
  append_refused = refl;
  converted = refl;
  converted_back = refl;
  convert_refused = refl;
  accepted = refl;
  rejected = refl;
  judge_refused = refl;
  simulated = refl;
  simulate_refused = refl;
  extracted = refl;
  extract_refused = refl;
  or_accepted = refl;
  or_rejected = refl;
  or_judge_refused = refl;
  or_extracted = refl;
  or_extracted_second = refl;
  or_extract_refused = refl;
  multiplied = refl;
  multiply_refused = refl;
  joined = refl;
  join_refused = refl;
}
