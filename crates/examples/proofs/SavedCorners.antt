-- The corners of 32, 33 and 34 hold, computed.
-- Assumes nothing.
use mathlib.Core.Path.{refl}
use mathlib.Core.List.{flatten}
use Rattle.encoding.specs.Bytes.{number_at}
use Rattle.encoding.specs.Text.{ascii}
use Rattle.examples.specs.Corners.{responding}
use Rattle.examples.specs.Pages.{array}
use Rattle.examples.specs.SavedCorners.{
  SavedCorners,
  answering,
  answering_elsewhere,
  as_before,
  at,
  by_hand,
  every_state,
  flag,
  greatest,
  handed,
  memory_of,
  old,
  peggy_beyond,
  peggy_lists,
  peggy_with,
  returning_in,
  saving_in,
}
use Rattle.examples.specs.Sheets.{four_bytes, schnorr_sheet, sheet_bytes, small_sheet}
use Rattle.examples.specs.TwoRows.{eight, spoilt}
use Rattle.formats.specs.Load.{bad_length, bad_start, load_rules, shape_rules}
use Rattle.formats.specs.Sheet.{entries_of, entry_count, header_of, instance_of, sheet_length, sheet_mark, statement_of, version_of, zeros64}
use Rattle.lists.specs.Places.{eight_by_eight, items_at, pad8, places, tabulate, zeros8}
use Rattle.numbers.specs.Gcd.{euclid, gcd}
use Rattle.numbers.specs.Product.{product}
use Rattle.numbers.specs.Search.{any, find}
use Rattle.rules.specs.Answer.{unless_refused}
use Rattle.rules.specs.Call.{answer, number_of}
use Rattle.rules.specs.Rule.{lowest}
use Rattle.runs.specs.Memory.{is_full, is_listed, listed_at, listing, never_saved, saved_at}
use Rattle.runs.specs.Prover.{commit, committing, drop_session, dropping, prover_in, prover_state, respond, responding as responding_call, unfit_prover}
use Rattle.runs.specs.Saving.{brought_back, keeping, prover_phase, return_to, returning, save, saved_state, saving}
use Rattle.sigma.specs.Admission.{bad_count, bad_entries, bad_kind, bad_modulus, bad_order, bad_size, bad_statement, element_rules, first_divisor, header_rules}
use Rattle.sigma.specs.Comparison.{differ, first_difference}
use Rattle.sigma.specs.Element.{is_coordinate, is_element, some_non_coordinate, some_non_element}
use Rattle.sigma.specs.Image.{image, row_image}
use Rattle.sigma.specs.Instance.{entry, is_exponent, statement_at}
use Rattle.sigma.specs.Round.{bad_challenge, bad_coordinates, bad_witness, response, response_coordinate}

pub saved_corners : SavedCorners
unfolding number_at ascii responding array answering answering_elsewhere as_before at by_hand every_state flag greatest handed memory_of old
    peggy_beyond peggy_lists peggy_with returning_in saving_in four_bytes schnorr_sheet sheet_bytes small_sheet eight spoilt bad_length
    bad_start load_rules shape_rules entries_of entry_count header_of instance_of sheet_length sheet_mark statement_of version_of
    zeros64 eight_by_eight items_at pad8 places tabulate zeros8 euclid gcd product any find unless_refused answer number_of lowest is_full
    is_listed listed_at listing never_saved saved_at commit committing dropping drop_session prover_in
    prover_state respond responding_call unfit_prover brought_back prover_phase returning return_to
    save saving saved_state keeping bad_count bad_entries bad_kind bad_modulus bad_order bad_size bad_statement element_rules
    first_divisor header_rules differ first_difference is_coordinate is_element some_non_coordinate some_non_element
    image row_image entry is_exponent statement_at bad_challenge bad_coordinates bad_witness response response_coordinate
    flatten
saved_corners = record {
  refusal32 = (refl, refl);
  refusal33 = (refl, refl);
  beyond33 = (refl, refl);
  save34 = (refl, refl);
  return34 = (refl, refl);
  flag34 = (refl, refl);
  before15 = (refl, refl);
  before16 = (refl, refl);
  before17 = (refl, refl);
  before21 = (refl, refl);
  let_through = refl;
  states = refl;
  numbers = refl;
  listed = refl;
  listed_last = refl;
  kept_by_commit = refl;
  kept_by_drop = refl;
  saved = refl;
  returned = refl;
  unmoved = refl;
  unmoved_full = refl;
  unmoved_listed = refl;
}
