-- The corners that tell a row, a column, a round, a side, a player or a record from another hold, computed.
-- Assumes nothing.
use mathlib.Core.Path.{refl}
use Rattle.disjunctions.specs.Extractor.{extract_or, extracting_or as extracting_or_call, extracted_of, extracted_or, extracted_side, is_or_accepted}
use Rattle.disjunctions.specs.Judge.{bad_challenges, bad_commitments, bad_responses, combined, judge_or, judging_or, pair_rules, verdict_or}
use Rattle.disjunctions.specs.OneOfTwo.{or_outcome, side_rows}
use Rattle.disjunctions.specs.Prover.{commit_or, committing_or as committing_or_call, first_commitment, new_or_prover, or_prover_in, other, own, respond_or, responding_or, second_commitment, unfit_or, wiped_or}
use Rattle.disjunctions.specs.Round.{first_round, other_challenge, read_or, second_round}
use Rattle.encoding.specs.Bytes.{bytes_of, bytes_of_each, number_at}
use Rattle.encoding.specs.Text.{ascii, decimal, digits}
use Rattle.examples.specs.Corners.{asking_root, changed, committing, converting, dropping, making_from, many_challenges, no_bytes, ones_sheet, peggy, responding, root_bytes, shipped_bytes, vic, zeros_file}
use Rattle.examples.specs.FileCorners.{alike, appending_to, bad_files, last_of, one_of_three, part_length, reading_file, reading_round, twice, FileCorners}
use Rattle.examples.specs.MarkerExample.{example_file, narrow_file}
use Rattle.examples.specs.OrCorners.{answering_or, challenges_or, clean_or, commitments_or, committing_or, extracting_or, high_or, holding, holding_honest, honest_or, knows_roots, knows_table, on_or, or_with, responding_with, responses_or, second_or, states_or, strange_or, unfit_or_peggy, OrCorners}
use Rattle.examples.specs.OrPage.{fewer_challenges, knows_first, logarithm_sheet, or_numbers, or_peggy, small_or}
use Rattle.examples.specs.Pages.{array, repeated, run, small_round}
use Rattle.examples.specs.PatternCorners.{as_f, either_place, making_product, making_root, only_digit, two_patterns, PatternCorners}
use Rattle.examples.specs.RoundCorners.{asking_on, clean, committing_on, extracting_both, hearing_on, high_challenge, holder, on_round, other_commitment, other_statement, responding_in, responding_to, simulating_on, strange_rows, strange_slots, telling_on, unfit_peggy, unfit_vic, wrong_rows, RoundCorners}
use Rattle.examples.specs.SheetCorners.{bad_sheets, calls_on, writing, SheetCorners}
use Rattle.examples.specs.Sheets.{four_bytes, schnorr_sheet, sheet_bytes, small_sheet}
use Rattle.examples.specs.TeamCorners.{both_players, commitments, images, on_other, responses, with_commitments, with_images, with_responses, TeamCorners}
use Rattle.examples.specs.TeamPage.{brought, each, joining, multiplying, pair_bytes, team_numbers}
use Rattle.examples.specs.WatchPage.{new_watch}
use Rattle.examples.specs.TwoRows.{exponents, first, narrow, raised, reworded, roots, round_with, second, spoilt, table, two_roots, wide}
use Rattle.formats.specs.Append.{append, appending, appended, bad_in_use, wide_challenge}
use Rattle.formats.specs.Convert.{convert, converting as converting_call, converted, other_version, wide_record}
use Rattle.formats.specs.Encode.{encode, encoding, header_bytes, sheet_of, stored_entries}
use Rattle.formats.specs.Load.{bad_length, bad_start, load, load_entries, load_refusal, load_rules, no_header, shape_rules}
use Rattle.formats.specs.RoundCalls.{checking, check_round, counting, count_rounds, fetching, fetch_round, locating, locate_round, no_round, part_of_round}
use Rattle.formats.specs.RoundFile.{bad_file, challenge_width, count_field, file_version, record_bytes, record_length, record_start, round_at, round_mark, unknown_version, width_of}
use Rattle.formats.specs.Rounds.{file_in, rounds_of}
use Rattle.formats.specs.SameCommitment.{commitment_bytes, comparing, same_commitment}
use Rattle.formats.specs.Sheet.{entries_of, entry_count, header_of, instance_of, sheet_length, sheet_mark, statement_of, version_of, zeros64}
use Rattle.formats.specs.Write.{short}
use Rattle.lists.specs.Choices.{selected}
use Rattle.lists.specs.Places.{eight_by_eight, items_at, pad8, places, tabulate, zeros8}
use Rattle.numbers.specs.Bits.{bit, mask_below}
use Rattle.numbers.specs.Gcd.{euclid, gcd}
use Rattle.numbers.specs.Integer.{bezout_left, bezout_right, power, quotient, residue}
use Rattle.numbers.specs.Inverse.{inverse}
use Rattle.numbers.specs.Product.{product, sum}
use Rattle.numbers.specs.Search.{any, find}
use Rattle.patterns.specs.Maker.{asked, asked_kind, asked_pattern, bad_asked, made_rules, make_from, make_rules}
use Rattle.patterns.specs.Pattern.{digit, entry_of, header_for, made_for, pattern_entries, root}
use Rattle.patterns.specs.PatternFile.{bad_digits, bad_pattern_file, bad_sizes, misnamed, pattern_at, pattern_bytes, pattern_count, pattern_end, pattern_file, pattern_from, pattern_mark, pattern_start, pattern_version}
use Rattle.patterns.specs.Table.{patterns, shipped}
use Rattle.products.specs.Team.{bad_images, bad_product, bad_team, join_all, join_responses, joining as joining_call, multiply_all, multiply_commitments, multiplying as multiplying_call, team_rules}
use Rattle.rules.specs.Answer.{unless_refused}
use Rattle.rules.specs.Call.{answer, number_of}
use Rattle.rules.specs.Either.{either_rules}
use Rattle.rules.specs.Rule.{lowest}
use Rattle.runs.specs.Calls.{extract_witness, judge_round, simulate_commitment}
use Rattle.runs.specs.Level.{bad_level, strong_enough}
use Rattle.runs.specs.Marker.{fails_at, mark_refusal, mark_rules, marker_text, newline, refused_word, result_line, round_line, round_lines, row_word, verdict_line, verdict_on, verdict_text, word_line}
use Rattle.runs.specs.Memory.{is_full, is_listed, listed_at, listing, no_memory}
use Rattle.runs.specs.Ours.{honest_round}
use Rattle.runs.specs.Prover.{commit, committing as committing_call, drop_session, dropping as dropping_call, new_prover, prover_in, prover_state, respond, responding as responding_call, unfit_prover}
use Rattle.runs.specs.Verifier.{new_verifier, take_challenge, take_commitment, take_response, taking_challenge, taking_commitment, taking_response, unfit_commitment, verifier_in, verifier_state}
use Rattle.sigma.specs.Admission.{bad_count, bad_entries, bad_kind, bad_modulus, bad_order, bad_size, bad_statement, element_rules, first_divisor, header_rules}
use Rattle.sigma.specs.Answer.{computed, eight_places, is_accepted, judged, outcome, rows_of}
use Rattle.sigma.specs.Comparison.{compare_sides, differ, differences, first_difference}
use Rattle.sigma.specs.Element.{is_coordinate, is_element, some_non_coordinate, some_non_element}
use Rattle.sigma.specs.Extractor.{extracting, extract_loaded, extracted, formula, slot_formula}
use Rattle.sigma.specs.Image.{image, row_image}
use Rattle.sigma.specs.Instance.{entry, is_exponent, statement_at}
use Rattle.sigma.specs.Judge.{judging, judge_loaded}
use Rattle.sigma.specs.Reads.{padded_round}
use Rattle.sigma.specs.Round.{bad_challenge, bad_commitment, bad_coordinates, bad_witness, expected_image, response, response_coordinate, verdict}
use Rattle.sigma.specs.Simulator.{simulating, simulated}
use Rattle.watches.specs.Watch.{fresh_watch, is_named, is_watched, named_round, nearest, noting, open_watch, remembering, reuses, unfit_watch, watch_after, watch_round, watch_rules, watch_verdict, zero_round}
use Rattle.watches.specs.Window.{remembered_at}
use Rattle.games.specs.Text.{bad_game, game_refusal, game_rules, named_commitment}
use mathlib.Core.List.{flatten}

pub every_disjunct : SheetCorners × PatternCorners × FileCorners × RoundCorners × OrCorners × TeamCorners
unfolding extract_or extracted_of extracted_or extracted_side is_or_accepted bad_challenges bad_commitments
    bad_responses combined judge_or pair_rules verdict_or or_outcome side_rows commit_or first_commitment new_or_prover
    or_prover_in other own respond_or second_commitment unfit_or wiped_or first_round other_challenge read_or
    second_round bytes_of bytes_of_each number_at ascii decimal digits asking_root changed committing converting
    dropping making_from many_challenges no_bytes ones_sheet peggy responding root_bytes shipped_bytes vic zeros_file
    alike appending_to bad_files last_of one_of_three part_length reading_file reading_round twice example_file
    narrow_file answering_or challenges_or clean_or commitments_or committing_or extracting_or high_or holding
    holding_honest honest_or knows_roots knows_table on_or or_with responding_with responses_or second_or states_or
    strange_or unfit_or_peggy fewer_challenges knows_first logarithm_sheet or_numbers or_peggy small_or array repeated
    run small_round as_f either_place making_product making_root only_digit two_patterns asking_on clean committing_on
    extracting_both hearing_on high_challenge holder on_round other_commitment other_statement responding_in
    responding_to simulating_on strange_rows strange_slots telling_on unfit_peggy unfit_vic wrong_rows bad_sheets
    calls_on writing four_bytes schnorr_sheet sheet_bytes small_sheet both_players commitments images on_other
    responses with_commitments with_images with_responses brought each joining multiplying pair_bytes team_numbers
    exponents first narrow raised reworded roots round_with second spoilt table two_roots wide append appended
    bad_in_use wide_challenge convert converted other_version wide_record encode header_bytes sheet_of stored_entries
    bad_length bad_start load load_entries load_refusal load_rules no_header shape_rules check_round count_rounds
    fetch_round locate_round no_round part_of_round bad_file challenge_width count_field file_version record_bytes
    record_length record_start round_at round_mark unknown_version width_of file_in rounds_of commitment_bytes
    same_commitment entries_of entry_count header_of instance_of sheet_length sheet_mark statement_of version_of
    zeros64 short selected eight_by_eight items_at pad8 places tabulate zeros8 bit mask_below euclid gcd
    bezout_left bezout_right power quotient residue inverse product sum any find asked asked_kind asked_pattern
    bad_asked made_rules make_from make_rules digit entry_of header_for made_for pattern_entries root bad_digits
    bad_pattern_file bad_sizes misnamed pattern_at pattern_bytes pattern_count pattern_end pattern_file pattern_from
    pattern_mark pattern_start pattern_version patterns shipped bad_images bad_product bad_team join_all
    join_responses multiply_all multiply_commitments team_rules unless_refused answer number_of either_rules lowest
    extract_witness judge_round simulate_commitment honest_round bad_level strong_enough fails_at mark_refusal
    mark_rules marker_text newline refused_word result_line round_line round_lines row_word verdict_line verdict_on
    verdict_text word_line commit committing_call dropping_call drop_session new_prover prover_in prover_state respond
    responding_call unfit_prover is_full is_listed listed_at listing no_memory new_verifier take_challenge
    taking_challenge take_commitment taking_commitment take_response taking_response unfit_commitment verifier_in
    verifier_state bad_count bad_entries bad_kind bad_modulus bad_order bad_size bad_statement element_rules
    first_divisor header_rules computed eight_places is_accepted judged outcome rows_of compare_sides differ
    differences first_difference is_coordinate is_element some_non_coordinate some_non_element extracting extracted
    formula slot_formula image row_image entry is_exponent statement_at judging bad_challenge bad_commitment
    bad_coordinates bad_witness expected_image response response_coordinate verdict simulating simulated
    extract_loaded judge_loaded padded_round bad_game game_refusal game_rules named_commitment fresh_watch is_named
    is_watched named_round nearest noting open_watch remembering reuses unfit_watch watch_after watch_round
    watch_rules watch_verdict zero_round remembered_at new_watch flatten extracting_or_call judging_or
    committing_or_call responding_or joining_call multiplying_call appending converting_call encoding checking
    counting fetching locating comparing
every_disjunct = (
  record {
    passing = refl;
    loading7 = (refl, refl);
    loading8 = (refl, refl);
    loading10 = (refl, refl);
    loading11 = (refl, refl);
    writing4 = (refl, refl);
    writing5 = (refl, refl);
    writing6 = (refl, refl);
    writing7 = (refl, refl);
    writing8 = (refl, refl);
    writing10 = (refl, refl);
    writing11 = (refl, refl);
    unread = refl;
    every2 = (refl, refl);
    every3 = (refl, refl);
    every4 = (refl, refl);
    every5 = (refl, refl);
    every6 = (refl, refl);
    every7 = (refl, refl);
    every8 = (refl, refl);
    every9 = (refl, refl);
    every10 = (refl, refl);
    every11 = (refl, refl);
    parts = refl;
    entries = refl;
  },
  record {
    refusal23 = (refl, refl);
    refusal24 = (refl, refl);
    making5 = (refl, refl);
    making6 = (refl, refl);
    making8 = (refl, refl);
    making10 = (refl, refl);
    making11 = (refl, refl);
    making22 = (refl, refl);
  },
  record {
    reading12 = (refl, refl);
    writing12 = (refl, refl);
    reading13 = (refl, refl);
    parts = refl;
    no_parts = refl;
    converting15 = (refl, refl);
    writing22 = (refl, refl);
    wide_bytes_law = refl;
    narrow_bytes = refl;
    fails = refl;
    fails_later = refl;
  },
  record {
    refusal14 = (refl, refl);
    refusal15 = (refl, refl);
    refusal16 = (refl, refl);
    refusal17 = (refl, refl);
    refusal18 = (refl, refl);
    refusal19 = (refl, refl);
    refusal20 = (refl, refl);
    refusal21 = (refl, refl);
  },
  record {
    refusal26 = (refl, refl);
    refusal14 = (refl, refl);
    refusal15 = (refl, refl);
    refusal16 = (refl, refl);
    refusal17 = (refl, refl);
    refusal18 = (refl, refl);
    refusal19 = (refl, refl);
    refusal20 = (refl, refl);
    refusal21 = (refl, refl);
  },
  record {
    refusal11 = (refl, refl);
    refusal10 = (refl, refl);
    refusal14 = (refl, refl);
    refusal16 = (refl, refl);
    refusal28 = (refl, refl);
  },
)
