-- The worked teams hold, computed.
-- Assumes nothing.
use mathlib.Core.Path.{refl}
use mathlib.Core.List.{flatten}
use Rattle.encoding.specs.Bytes.{number_at, bytes_of, bytes_of_each}
use Rattle.encoding.specs.Text.{ascii}
use Rattle.examples.specs.Corners.{changed, root_bytes}
use Rattle.examples.specs.Pages.{array}
use Rattle.examples.specs.Sheets.{four_bytes, sheet_bytes, small_sheet, schnorr_sheet}
use Rattle.examples.specs.TeamPage.{
  pair_bytes,
  brought,
  each,
  combining,
  team_run,
  team_numbers,
  multiplying,
  joining,
  two_rows,
  TeamPage,
}
use Rattle.formats.specs.Encode.{header_bytes, stored_entries, sheet_of}
use Rattle.formats.specs.Load.{bad_start, bad_length, shape_rules, load_rules}
use Rattle.formats.specs.Sheet.{
  sheet_mark,
  version_of,
  header_of,
  entry_count,
  sheet_length,
  zeros64,
  entries_of,
  statement_of,
  instance_of,
}
use Rattle.lists.specs.Choices.{selected}
use Rattle.lists.specs.Places.{items_at, tabulate, places, pad8, zeros8, eight_by_eight}
use Rattle.numbers.specs.Bits.{bit, mask_below}
use Rattle.numbers.specs.Gcd.{euclid, gcd}
use Rattle.numbers.specs.Product.{product, sum}
use Rattle.numbers.specs.Search.{find, any}
use Rattle.products.specs.Team.{
  multiply_all,
  join_all,
  bad_team,
  bad_images,
  bad_product,
  team_rules,
  multiplying as multiplying_call,
  joining as joining_call,
  multiply_commitments,
  join_responses,
}
use Rattle.rules.specs.Answer.{unless_refused}
use Rattle.rules.specs.Call.{answer, number_of}
use Rattle.rules.specs.Rule.{lowest}
use Rattle.runs.specs.Calls.{judge_round}
use Rattle.runs.specs.Memory.{is_full, is_listed, listed_at, listing, no_memory}
use Rattle.runs.specs.Ours.{honest_round}
use Rattle.runs.specs.Prover.{
  prover_state,
  prover_in,
  new_prover,
  committing,
  unfit_prover,
  responding,
  commit,
  respond,
}
use Rattle.sigma.specs.Admission.{
  first_divisor,
  bad_kind,
  bad_modulus,
  bad_order,
  bad_size,
  bad_count,
  bad_entries,
  bad_statement,
  header_rules,
  element_rules,
}
use Rattle.sigma.specs.Answer.{rows_of, outcome, judged, eight_places, computed}
use Rattle.sigma.specs.Comparison.{first_difference, differ, differences, compare_sides}
use Rattle.sigma.specs.Element.{is_element, some_non_element, is_coordinate, some_non_coordinate}
use Rattle.sigma.specs.Image.{row_image, image}
use Rattle.sigma.specs.Instance.{is_exponent, entry, statement_at}
use Rattle.sigma.specs.Judge.{judging}
use Rattle.sigma.specs.Round.{
  response_coordinate,
  response,
  expected_image,
  verdict,
  bad_commitment,
  bad_challenge,
  bad_coordinates,
  bad_witness,
}

pub team_page : TeamPage
unfolding euclid gcd product sum find any items_at tabulate places pad8 zeros8 eight_by_eight unless_refused
    answer number_of lowest number_at bytes_of bytes_of_each ascii first_divisor bad_kind bad_modulus bad_order bad_size
    bad_count bad_entries bad_statement header_rules element_rules rows_of selected bit mask_below outcome judged
    eight_places computed first_difference differ differences compare_sides is_element some_non_element is_coordinate
    some_non_coordinate row_image image is_exponent entry judging response_coordinate response expected_image
    verdict bad_commitment bad_challenge bad_coordinates bad_witness header_bytes stored_entries sheet_of bad_start
    bad_length shape_rules load_rules statement_at sheet_mark version_of header_of entry_count sheet_length zeros64
    entries_of statement_of instance_of judge_round prover_state prover_in new_prover committing unfit_prover
    responding commit respond no_memory listed_at is_listed is_full listing honest_round array four_bytes sheet_bytes
    small_sheet schnorr_sheet flatten changed root_bytes multiply_all join_all bad_team bad_images bad_product
    team_rules multiply_commitments join_responses brought each combining pair_bytes team_run team_numbers
    multiplying joining two_rows multiplying_call joining_call
team_page = record {
  A = refl;
  E = refl;
  G = refl;
  eight = refl;
  wrong = refl;
  refusal27 = (refl, refl);
  refusal9 = (refl, refl);
  refusal10 = (refl, refl);
  refusal11 = (refl, refl);
  refusal14 = (refl, refl);
  refusal16 = (refl, refl);
  refusal28 = (refl, refl);
}
