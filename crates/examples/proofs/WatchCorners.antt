-- The corners of a watch hold, computed.
-- Assumes nothing.
use mathlib.Core.Path.{refl}
use mathlib.Core.List.{flatten}
use Rattle.encoding.specs.Bytes.{number_at}
use Rattle.encoding.specs.Text.{ascii}
use Rattle.examples.specs.Corners.{changed}
use Rattle.examples.specs.Pages.{array, small_round}
use Rattle.examples.specs.Sheets.{four_bytes, schnorr_sheet, sheet_bytes, small_sheet}
use Rattle.examples.specs.TwoRows.{exponents, first, raised, roots, round_with, second, spoilt, table, two_roots}
use Rattle.examples.specs.WatchCorners.{WatchCorners, counting, forged_on, heard_both, heard_on, held, named_beyond, naming, naming_on, saying, ten_challenges, unfit, unforged}
use Rattle.examples.specs.WatchPage.{by_hand, hearing, holding, kept, said}
use Rattle.formats.specs.Load.{bad_length, bad_start, load_rules, shape_rules}
use Rattle.formats.specs.Sheet.{entries_of, entry_count, header_of, instance_of, sheet_length, sheet_mark, statement_of, version_of, zeros64}
use Rattle.lists.specs.Choices.{selected}
use Rattle.lists.specs.Places.{eight_by_eight, items_at, pad8, places, tabulate, zeros8}
use Rattle.numbers.specs.Bits.{bit, mask_below}
use Rattle.numbers.specs.Gcd.{euclid, gcd}
use Rattle.numbers.specs.Integer.{bezout_left, bezout_right, power, quotient, residue}
use Rattle.numbers.specs.Inverse.{inverse}
use Rattle.numbers.specs.Product.{product, sum}
use Rattle.numbers.specs.Search.{any, find}
use Rattle.rules.specs.Answer.{unless_refused}
use Rattle.rules.specs.Call.{answer, number_of}
use Rattle.rules.specs.Rule.{lowest}
use Rattle.sigma.specs.Admission.{bad_count, bad_entries, bad_kind, bad_modulus, bad_order, bad_size, bad_statement, element_rules, first_divisor, header_rules}
use Rattle.sigma.specs.Answer.{computed, eight_places, is_accepted, judged, outcome, rows_of}
use Rattle.sigma.specs.Comparison.{compare_sides, differ, differences, first_difference}
use Rattle.sigma.specs.Element.{is_coordinate, is_element, some_non_coordinate, some_non_element}
use Rattle.sigma.specs.Extractor.{extracting, extract_loaded, extracted, formula, slot_formula}
use Rattle.sigma.specs.Image.{image, row_image}
use Rattle.sigma.specs.Instance.{entry, is_exponent, statement_at}
use Rattle.sigma.specs.Judge.{judging, judge_loaded}
use Rattle.sigma.specs.Reads.{padded_round}
use Rattle.sigma.specs.Round.{bad_challenge, bad_commitment, bad_coordinates, expected_image, verdict}
use Rattle.watches.specs.Watch.{is_named, is_watched, named_round, nearest, noting, remembering, reuses, unfit_watch, watch_after, watch_round, watch_rules, watch_verdict}
use Rattle.watches.specs.Window.{remembered_at}

pub watch_corners : WatchCorners
unfolding number_at ascii changed array small_round four_bytes schnorr_sheet sheet_bytes small_sheet exponents first raised
    roots round_with second spoilt table two_roots counting forged_on heard_both heard_on held named_beyond naming naming_on saying
    ten_challenges unfit
    unforged by_hand hearing holding kept said bad_length bad_start load_rules shape_rules entries_of entry_count header_of
    instance_of sheet_length sheet_mark statement_of version_of zeros64 selected eight_by_eight items_at pad8 places tabulate
    zeros8 bit mask_below euclid gcd bezout_left bezout_right power quotient residue inverse product sum any find
    unless_refused lowest bad_count bad_entries bad_kind bad_modulus bad_order bad_size bad_statement element_rules first_divisor
    header_rules computed eight_places is_accepted judged outcome rows_of compare_sides differ differences first_difference
    is_coordinate is_element some_non_coordinate some_non_element extracting answer number_of extract_loaded extracted formula
    slot_formula image row_image entry is_exponent statement_at judging judge_loaded padded_round bad_challenge
    bad_commitment bad_coordinates expected_image verdict is_named is_watched named_round nearest noting remembering reuses
    unfit_watch watch_after watch_round watch_rules watch_verdict remembered_at flatten
watch_corners = record {
  bytes21 = (refl, refl);
  count21 = (refl, refl);
  named21 = (refl, refl);
  rows21 = (refl, refl);
  before14 = (refl, refl);
  before15 = (refl, refl);
  before16 = (refl, refl);
  passed = refl;
  rejected = refl;
  unread = refl;
  moved = refl;
  full = refl;
  unmoved = refl;
}
