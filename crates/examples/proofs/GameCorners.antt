-- The game's corners hold, computed.
-- Assumes nothing.
use mathlib.Core.List.{flatten}
use mathlib.Core.Path.{refl}
use Rattle.encoding.specs.Bytes.{number_at}
use Rattle.encoding.specs.Text.{ascii}
use Rattle.examples.specs.Corners.{changed}
use Rattle.examples.specs.GameCorners.{GameCorners, choices_game, ones_file, ones_game, roots_game, roots_in, slots_in, wide_bytes}
use Rattle.examples.specs.GamePage.{one_round}
use Rattle.examples.specs.Sheets.{four_bytes, schnorr_sheet, sheet_bytes, small_sheet}
use Rattle.formats.specs.Load.{bad_length, bad_start, load_rules, shape_rules}
use Rattle.formats.specs.RoundCalls.{checking, fetching, fetch_round, no_round}
use Rattle.formats.specs.RoundFile.{bad_file, challenge_width, count_field, file_version, record_length, record_start, round_at, round_mark, unknown_version, width_of}
use Rattle.formats.specs.Sheet.{entries_of, entry_count, header_of, instance_of, sheet_length, sheet_mark, statement_of, version_of}
use Rattle.games.specs.Text.{bad_game, game_refusal, game_rules, named_commitment}
use Rattle.lists.specs.Places.{eight_by_eight, items_at, pad8, places, tabulate, zeros8}
use Rattle.numbers.specs.Gcd.{euclid, gcd}
use Rattle.numbers.specs.Search.{any, find}
use Rattle.rules.specs.Answer.{unless_refused}
use Rattle.rules.specs.Call.{answer, number_of}
use Rattle.rules.specs.Rule.{lowest}
use Rattle.sigma.specs.Admission.{bad_count, bad_entries, bad_kind, bad_modulus, bad_order, bad_size, bad_statement, element_rules, first_divisor, header_rules}
use Rattle.sigma.specs.Comparison.{differ, first_difference}
use Rattle.sigma.specs.Element.{is_element, some_non_element}
use Rattle.sigma.specs.Instance.{entry, is_exponent, statement_at}
use Rattle.sigma.specs.Round.{bad_commitment}

pub game_corners : GameCorners
unfolding flatten number_at ascii changed choices_game ones_file ones_game roots_game roots_in slots_in wide_bytes one_round
    four_bytes schnorr_sheet sheet_bytes small_sheet bad_length bad_start load_rules shape_rules checking fetching
    fetch_round no_round bad_file challenge_width count_field file_version record_length record_start
    round_at round_mark unknown_version width_of entries_of entry_count header_of instance_of sheet_length sheet_mark
    statement_of version_of bad_game game_refusal game_rules named_commitment eight_by_eight items_at pad8 places tabulate
    zeros8 euclid gcd any find unless_refused lowest bad_count bad_entries bad_kind bad_modulus bad_order bad_size
    bad_statement element_rules first_divisor header_rules differ first_difference is_element some_non_element entry
    is_exponent statement_at bad_commitment answer number_of
game_corners = record {
  choices31 = (refl, refl);
  modulus31 = (refl, refl);
  rows31 = (refl, refl);
  other31 = (refl, refl);
  order = refl;
  rows14 = (refl, refl);
  untested = refl;
}
