-- The worked demonstrator holds, computed.
-- Assumes nothing.
use mathlib.Core.Path.{refl}
use mathlib.Core.List.{flat_map, flatten}
use Rattle.encoding.specs.Bytes.{number_at}
use Rattle.encoding.specs.Text.{ascii}
use Rattle.examples.specs.Pages.{array}
use Rattle.examples.specs.SavedPage.{SavedPage, both, copy, given, in_a_row, peggy_keeps, refused}
use Rattle.examples.specs.Sheets.{four_bytes, schnorr_sheet, sheet_bytes, small_sheet}
use Rattle.examples.specs.TwoRows.{eight}
use Rattle.formats.specs.Load.{bad_length, bad_start, load_rules, shape_rules}
use Rattle.formats.specs.Sheet.{entries_of, entry_count, header_of, instance_of, sheet_length, sheet_mark, statement_of, version_of, zeros64}
use Rattle.lists.specs.Places.{eight_by_eight, items_at, pad8, places, tabulate, zeros8}
use Rattle.numbers.specs.Gcd.{euclid, gcd}
use Rattle.numbers.specs.Product.{product}
use Rattle.numbers.specs.Search.{any, find}
use Rattle.rules.specs.Answer.{unless_refused}
use Rattle.rules.specs.Call.{answer, number_of}
use Rattle.rules.specs.Rule.{lowest}
use Rattle.runs.specs.Memory.{is_full, is_listed, listed_at, listing, never_saved, no_memory, saved_at}
use Rattle.runs.specs.Ours.{prover_trace}
use Rattle.runs.specs.Prover.{commit, committing, drop_session, dropping, new_prover, prover_in, prover_state, respond, responding, unfit_prover}
use Rattle.runs.specs.ProverCalls.{answered_on}
use Rattle.runs.specs.Run.{trace, answered}
use Rattle.runs.specs.Saving.{brought_back, keeping, prover_phase, return_to, returning, save, saved_state, saving}
use Rattle.sigma.specs.Admission.{bad_count, bad_entries, bad_kind, bad_modulus, bad_order, bad_size, bad_statement, element_rules, first_divisor, header_rules}
use Rattle.sigma.specs.Comparison.{differ, first_difference}
use Rattle.sigma.specs.Element.{is_coordinate, is_element, some_non_coordinate, some_non_element}
use Rattle.sigma.specs.Image.{image, row_image}
use Rattle.sigma.specs.Instance.{entry, is_exponent, statement_at}
use Rattle.sigma.specs.Round.{bad_challenge, bad_coordinates, bad_witness, response, response_coordinate}

pub saved_page : SavedPage
unfolding number_at ascii array answered answered_on prover_trace trace flat_map both copy given in_a_row peggy_keeps refused four_bytes schnorr_sheet sheet_bytes small_sheet eight bad_length bad_start
    load_rules shape_rules entries_of entry_count header_of instance_of sheet_length sheet_mark statement_of version_of zeros64
    eight_by_eight items_at pad8 places tabulate zeros8 euclid gcd product any find unless_refused answer number_of lowest is_full is_listed
    listed_at listing never_saved no_memory saved_at commit committing dropping drop_session new_prover prover_in
    prover_state respond responding unfit_prover brought_back prover_phase returning return_to
    save saving saved_state keeping bad_count bad_entries bad_kind bad_modulus bad_order bad_size bad_statement element_rules
    first_divisor header_rules differ first_difference is_coordinate is_element some_non_coordinate some_non_element
    image row_image entry is_exponent statement_at bad_challenge bad_coordinates bad_witness response response_coordinate flatten
saved_page = record {
  saved_new = refl;
  committed = refl;
  saved = refl;
  responded = refl;
  returned = refl;
  refused_again = refl;
  dropped = refl;
  returned_again = refl;
  started_again = refl;
  same_nonce = refl;
  other_nonce = refl;
  goes_on = refl;
  replaced = refl;
  saved_dropped = refl;
  challenges = refl;
  commitments = refl;
  save_refused = refl;
  return_refused = refl;
}
