-- Every starred page, every line of the reason, every bound of a refusal and the OR proof's worked numbers hold of the definitions,
-- by computation.
-- Assumes nothing.
use Prim.Native.Nat.{ℕ, ◌<◌}
use mathlib.Core.Path.{◌≡◌, refl, sym, ap, ◌∙◌}
use mathlib.Core.Logic.{inl}
use mathlib.Core.List.{flatten}
use Rattle.numbers.specs.Bits.{bit, mask_below}
use Rattle.numbers.specs.Gcd.{euclid, gcd}
use Rattle.numbers.specs.Integer.{residue, quotient, power, bezout_right, bezout_left}
use Rattle.numbers.specs.Inverse.{inverse}
use Rattle.numbers.specs.Product.{product, sum}
use Rattle.numbers.specs.Search.{find, any}
use Rattle.lists.specs.Choices.{selected}
use Rattle.lists.specs.Places.{eight_by_eight, items_at, tabulate, places, pad8, zeros8}
use Rattle.rules.specs.Answer.{unless_refused}
use Rattle.rules.specs.Call.{answer, number_of}
use Rattle.rules.specs.Either.{either_rules}
use Rattle.rules.specs.Rule.{lowest}
use Rattle.rules.proofs.Lowest.{pass, stop}
use Rattle.encoding.specs.Bytes.{number_at, bytes_of, bytes_of_each}
use Rattle.encoding.specs.Text.{ascii, digits, decimal}
use Rattle.sigma.specs.Admission.{
  first_divisor,
  bad_kind,
  bad_modulus,
  bad_order,
  bad_size,
  bad_count,
  bad_entries,
  bad_statement,
  header_rules,
  element_rules,
}
use Rattle.sigma.specs.Answer.{rows_of, outcome, is_accepted, judged, eight_places, computed}
use Rattle.sigma.specs.Comparison.{first_difference, differ, differences, compare_sides}
use Rattle.sigma.specs.Element.{is_element, some_non_element, is_coordinate, some_non_coordinate}
use Rattle.sigma.specs.Extractor.{slot_formula, formula, extracted, extracting as extracting_call}
use Rattle.sigma.specs.Image.{row_image, image}
use Rattle.sigma.specs.Instance.{is_exponent, entry, statement_at}
use Rattle.sigma.specs.Judge.{judging as judging_call}
use Rattle.sigma.specs.Round.{
  response_coordinate,
  response,
  expected_image,
  verdict,
  bad_commitment,
  bad_challenge,
  bad_coordinates,
  bad_witness,
}
use Rattle.sigma.specs.Simulator.{simulated, simulating as simulating_call}
use Rattle.formats.specs.Append.{empty_file, bad_in_use, wide_challenge, appended, append, starting as starting_call, appending as appending_call}
use Rattle.formats.specs.Convert.{other_version, wide_record, converted, convert, converting as converting_call}
use Rattle.formats.specs.Encode.{header_bytes, stored_entries, sheet_of, encode, encoding}
use Rattle.formats.specs.Load.{bad_start, bad_length, shape_rules, load_rules, load_refusal, no_header, load, load_entries}
use Rattle.formats.specs.RoundCalls.{
  no_round,
  counting as counting_call,
  checking,
  fetching,
  count_rounds,
  check_round,
  fetch_round,
}
use Rattle.formats.specs.RoundFile.{
  round_mark,
  file_version,
  count_field,
  unknown_version,
  challenge_width,
  width_of,
  record_length,
  record_start,
  record_bytes,
  round_at,
  bad_file,
  no_rounds,
}
use Rattle.formats.specs.Rounds.{rounds_of, file_in}
use Rattle.formats.specs.Sheet.{
  sheet_mark,
  version_of,
  header_of,
  entry_count,
  sheet_length,
  zeros64,
  entries_of,
  statement_of,
  instance_of,
}
use Rattle.formats.specs.Write.{short}
use Rattle.formats.proofs.Writing.{written_refusal}
use Rattle.patterns.specs.Maker.{asked_kind, asked_pattern, asked, bad_asked, made_rules, make_rules, make_from}
use Rattle.patterns.specs.Pattern.{digit, entry_of, pattern_entries, header_for, made_for, root}
use Rattle.patterns.specs.PatternFile.{
  pattern_mark,
  pattern_version,
  pattern_count,
  pattern_end,
  pattern_start,
  pattern_from,
  pattern_at,
  bad_sizes,
  bad_pattern_file,
  misnamed,
  bad_digits,
  pattern_bytes,
  pattern_file,
}
use Rattle.patterns.specs.Table.{patterns, shipped, write_shipped}
use Rattle.patterns.proofs.Shipped.{shipped_bytes_law, shipped_passes}
use Rattle.patterns.proofs.Tests.{says_asked}
use Rattle.runs.specs.Calls.{judge_round, simulate_commitment, extract_witness}
use Rattle.runs.specs.Level.{bad_level, strong_enough}
use Rattle.runs.specs.Marker.{
  newline,
  word_line,
  row_word,
  verdict_text,
  verdict_line,
  result_line,
  verdict_on,
  round_line,
  fails_at,
  round_lines,
  mark_rules,
  mark_refusal,
  refused_word,
  marker_text,
}
use Rattle.runs.specs.Memory.{is_full, is_listed, listed_at, listing, no_memory}
use Rattle.runs.specs.Ours.{honest_round}
use Rattle.runs.specs.Prover.{
  prover_state,
  prover_in,
  new_prover,
  committing as committing_call,
  unfit_prover,
  responding as responding_call,
  commit,
  respond,
  dropping as dropping_call,
  drop_session,
}
use Rattle.runs.specs.Verifier.{
  verifier_state,
  verifier_in,
  new_verifier,
  unfit_commitment,
  taking_commitment,
  taking_challenge,
  taking_response,
  take_commitment,
  take_challenge,
  take_response,
}
use Rattle.reasons.specs.Reason.{
  first_non_element,
  first_non_coordinate,
  sheet_spot,
  file_spot,
  round_spot,
  spot_of,
  first_verdict,
  spot_text,
  row_text,
  line_text,
  reason_line,
  reason_text,
}
use Rattle.disjunctions.specs.Extractor.{
  is_or_accepted,
  extracted_side,
  extracted_of,
  extracted_or,
  extracting_or,
  extract_or,
}
use Rattle.disjunctions.specs.Judge.{
  pair_rules,
  bad_commitments,
  bad_challenges,
  bad_responses,
  combined,
  verdict_or,
  judging_or as judging_or_call,
  judge_or,
}
use Rattle.disjunctions.specs.OneOfTwo.{side_rows, or_outcome}
use Rattle.disjunctions.specs.Ours.{or_round}
use Rattle.disjunctions.specs.Prover.{
  own,
  other,
  or_prover_in,
  wiped_or,
  new_or_prover,
  first_commitment,
  second_commitment,
  committing_or,
  unfit_or,
  responding_or,
  dropping_or,
  commit_or,
  respond_or,
  drop_or,
}
use Rattle.disjunctions.specs.Round.{other_challenge, first_round, second_round, read_or}
use Rattle.examples.specs.Corners.{
  ones_sheet,
  many_challenges,
  changed,
  root_bytes,
  writing_in,
  shipped_bytes,
  one_pattern,
  many_patterns,
  making_from,
  making,
  asking_root,
  zeros_file,
  no_bytes,
  counting,
  appending,
  storing,
  starting,
  converting,
  marking,
  last_line,
  extracting,
  simulating,
  peggy,
  committing,
  responding,
  dropping,
  vic,
  hearing,
  asking,
  telling,
  EveryCorner,
}
use Rattle.examples.specs.MarkerExample.{example_file, example_text, narrow_file}
use Rattle.examples.specs.OrPage.{
  logarithm_sheet,
  small_or,
  judging_or,
  or_run,
  both_ways_or,
  or_judging,
  or_extracting,
  or_peggy,
  knows_first,
  or_committing,
  or_responding,
  or_numbers,
  fewer_challenges,
  OrPage,
}
use Rattle.examples.specs.SessionPage.{or_holds, peggy_holds, peggy_listed, vic_holds, SessionPage}
use Rattle.examples.specs.TwoRows.{eight}
use Rattle.examples.specs.Pages.{array, small_round, run, both_ways, judging, repeated, reason_on, EveryPage}
use Rattle.examples.specs.Sheets.{
  four_bytes,
  sheet_bytes,
  small_sheet,
  schnorr_sheet,
  made_sheet,
  okamoto_sheet,
  diffie_hellman_sheet,
  product_sheet,
  root_sheet,
}

-- a number above the shipped file's count is refused with 1
above_count : (number values statement : ℕ) → 5 < number → making number values statement ≡ 1
unfolding making making_from shipped_bytes make_from make_rules pattern_count number_at
above_count number values statement high =
    written_refusal _ _ _ _ ∙ pass 23 _ (ap bad_pattern_file (sym shipped_bytes_law) ∙ shipped_passes.0)
    ∙ pass 24 _ (ap bad_digits (sym shipped_bytes_law) ∙ shipped_passes.1)
    ∙ stop 1 _ ((says_asked shipped_bytes number _ _).complete (inl high))

-- the three tables hold
pub worked_examples : EveryPage × EveryCorner × OrPage × SessionPage
unfolding euclid gcd residue quotient power bezout_right bezout_left inverse product find any items_at tabulate
    places pad8 zeros8 eight_by_eight unless_refused answer number_of lowest number_at bytes_of bytes_of_each ascii
    digits decimal first_divisor bad_kind bad_modulus bad_order bad_size bad_count bad_entries bad_statement
    header_rules element_rules outcome is_accepted judged eight_places computed first_difference differ differences
    compare_sides rows_of selected bit mask_below sum is_element some_non_element is_coordinate some_non_coordinate
    slot_formula formula extracted extracting_call row_image image is_exponent entry statement_at judging_call
    response_coordinate response expected_image verdict bad_commitment bad_challenge bad_coordinates bad_witness
    simulated simulating_call header_bytes stored_entries sheet_of bad_start bad_length shape_rules load_rules
    load_refusal asked_kind asked_pattern asked bad_asked made_rules make_rules make_from digit entry_of
    pattern_entries header_for made_for root pattern_mark pattern_version pattern_count pattern_end pattern_start
    pattern_from pattern_at bad_sizes bad_pattern_file misnamed bad_digits pattern_bytes pattern_file patterns shipped
    write_shipped shipped_bytes one_pattern many_patterns making_from asking_root no_round count_rounds fetch_round
    round_mark file_version count_field width_of challenge_width record_length record_start round_at bad_file sheet_mark
    version_of header_of entry_count sheet_length zeros64 entries_of statement_of instance_of short judge_round
    simulate_commitment extract_witness newline word_line row_word verdict_text verdict_line result_line verdict_on
    round_line round_lines marker_text prover_state prover_in new_prover committing_call unfit_prover responding_call
    commit respond no_memory listed_at is_listed is_full listing verifier_state verifier_in new_verifier
    unfit_commitment taking_commitment taking_challenge taking_response take_commitment take_challenge take_response
    honest_round example_file example_text array small_round run both_ways judging four_bytes sheet_bytes small_sheet
    schnorr_sheet made_sheet okamoto_sheet diffie_hellman_sheet product_sheet root_sheet flatten ones_sheet
    many_challenges changed root_bytes making writing_in zeros_file no_bytes counting appending extracting
    simulating peggy committing responding dropping vic hearing asking telling no_rounds bad_in_use record_bytes
    appended append empty_file no_header load load_entries encode dropping_call drop_session check_round
    first_non_element first_non_coordinate sheet_spot file_spot round_spot spot_of first_verdict spot_text row_text
    line_text reason_line reason_text repeated reason_on bad_level strong_enough fails_at mark_rules mark_refusal
    refused_word marking last_line either_rules is_or_accepted extracted_side extracted_of extracted_or extract_or
    pair_rules bad_commitments bad_challenges bad_responses combined verdict_or judge_or or_round side_rows or_outcome
    own other or_prover_in wiped_or new_or_prover first_commitment second_commitment unfit_or commit_or respond_or
    drop_or other_challenge first_round second_round read_or logarithm_sheet small_or judging_or or_run both_ways_or
    or_judging or_extracting or_peggy knows_first or_committing or_responding or_numbers fewer_challenges
    unknown_version wide_challenge other_version wide_record converted convert rounds_of file_in storing starting
    converting narrow_file eight peggy_listed peggy_holds vic_holds or_holds extracting_or judging_or_call
    committing_or responding_or dropping_or counting_call checking fetching appending_call encoding starting_call
    converting_call
worked_examples = (
  record {
    A = refl;
    B = refl;
    C = refl;
    D = refl;
    E = refl;
    F = refl;
    G = refl;
    H = refl;
    I = refl;
    J = refl;
    marker = refl;
    no_rounds_law = refl;
    no_sheet = refl;
    no_file = refl;
    no_level = refl;
    two_rounds = refl;
    three_rounds = refl;
    accepted = refl;
    rejected = refl;
    refused = refl;
    refused_length = refl;
    to_two = refl;
    to_one = refl;
    marked_two = refl;
    refused_two = refl;
  },
  record {
    shipped_bytes_law = refl;
    refusal23 = (refl, refl);
    refusal24 = (refl, refl);
    above = above_count;
    refusal1 = (refl, refl);
    refusal2 = (refl, refl);
    refusal3 = (refl, refl);
    refusal4 = (refl, refl);
    refusal5 = (refl, refl);
    refusal6 = (refl, refl);
    refusal7 = (refl, refl);
    refusal8 = (refl, refl);
    refusal9 = (refl, refl);
    refusal10 = (refl, refl);
    refusal11 = (refl, refl);
    refusal12 = (refl, refl);
    refusal13 = (refl, refl);
    refusal14 = (refl, refl);
    refusal15 = (refl, refl);
    refusal16 = (refl, refl);
    refusal17 = (refl, refl);
    refusal18 = (refl, refl);
    refusal19 = (refl, refl);
    refusal20 = (refl, refl);
    refusal21 = (refl, refl);
    refusal22 = (refl, refl);
    refusal25 = (refl, refl);
    enough = refl;
  },
  record {
    knows_first_law = refl;
    knows_second = refl;
    rejected = refl;
    extracts_first = refl;
    extracts_second = refl;
    extracts_wrapped = refl;
    refusal26 = (refl, refl);
    refusal11 = (refl, refl);
    refusal3 = (refl, refl);
    refusal14 = (refl, refl);
    refusal15 = (refl, refl);
    refusal16 = (refl, refl);
    refusal17 = (refl, refl);
    refusal18 = (refl, refl);
    refusal19 = (refl, refl);
    refusal20 = (refl, refl);
    refusal21 = (refl, refl);
  },
  record {
    committed = refl;
    answered = refl;
    dropped_new = refl;
    dropped = refl;
    holding = refl;
    asked = refl;
    judged = refl;
    rejected = refl;
    or_committed = refl;
    or_answered = refl;
    or_dropped = refl;
    or_committed_second = refl;
    or_answered_second = refl;
    commit_refused = refl;
    respond_refused = refl;
    drop_refused = refl;
    commitment_refused = refl;
    challenge_refused = refl;
    response_refused = refl;
    or_commit_refused = refl;
    or_respond_refused = refl;
    or_drop_refused = refl;
  },
)
