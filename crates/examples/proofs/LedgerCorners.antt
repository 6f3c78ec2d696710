-- The corners of the ledger hold, computed.
-- Assumes nothing.
use mathlib.Core.Path.{refl}
use Rattle.examples.specs.LedgerCorners.{LedgerCorners, asked_for, checking, checking_at, clean, counted, counting, five_challenges, last_sum, late, late_entries, put, refused_with, sharing, sound, telling, worst, worst_entries, writing, writing_at, wrote_nothing}
use Rattle.examples.specs.LedgerPage.{accepted, added, asked, base_of, entry_with, found_of, given, line_with, made_of, multiplied, rejected_at, wrote}
use Rattle.examples.specs.SavedCorners.{greatest}
use Rattle.ledgers.specs.Check.{bad_elements, bad_line_challenge, bad_line_kind, bad_response, base_rules, check_ledger, checking_ledger, first_rejected, not_above, rejects_line}
use Rattle.ledgers.specs.Ledger.{commitments, line_commitment, line_instance, product_of}
use Rattle.ledgers.specs.Write.{bad_numbers, commit_to, ledger_of, line_of, made_commitment, made_line, made_product, made_sum, opening_at, opening_of, openings, product_witness, write_ledger, writing_ledger, zero_line}
use Rattle.lists.specs.Choices.{selected}
use Rattle.lists.specs.Places.{eight_by_eight, items_at, pad8, places, tabulate, zeros8}
use Rattle.numbers.specs.Bits.{bit, mask_below}
use Rattle.numbers.specs.Gcd.{euclid, gcd}
use Rattle.numbers.specs.Product.{product, sum}
use Rattle.numbers.specs.Search.{any, find}
use Rattle.patterns.specs.Pattern.{digit, entry_of, header_for, made_for, pattern_entries, root}
use Rattle.patterns.specs.Table.{kind_of, made, pattern_of, patterns, pedersen}
use Rattle.rules.specs.Call.{answer, number_of}
use Rattle.rules.specs.Answer.{unless_refused}
use Rattle.rules.specs.Rule.{lowest}
use Rattle.sigma.specs.Admission.{bad_count, bad_modulus, bad_order, first_divisor}
use Rattle.sigma.specs.Answer.{is_accepted, judged}
use Rattle.sigma.specs.Comparison.{compare_sides, differ, differences, first_difference}
use Rattle.sigma.specs.Element.{is_coordinate, is_element, some_non_coordinate, some_non_element}
use Rattle.sigma.specs.Image.{image, row_image}
use Rattle.sigma.specs.Instance.{entry, is_exponent, statement_at}
use Rattle.sigma.specs.Judge.{judging, judge_loaded}
use Rattle.sigma.specs.Round.{bad_challenge, bad_commitment, bad_coordinates, expected_image, response, response_coordinate, verdict}

pub ledger_corners : LedgerCorners
unfolding answer number_of asked_for checking checking_at clean counted counting five_challenges last_sum late
    late_entries put refused_with sharing sound telling worst worst_entries writing writing_at wrote_nothing
    accepted added asked base_of entry_with found_of given line_with made_of multiplied rejected_at wrote greatest
    bad_elements bad_line_challenge bad_line_kind bad_response base_rules check_ledger checking_ledger first_rejected
    not_above rejects_line commitments line_commitment line_instance product_of bad_numbers commit_to ledger_of line_of
    made_commitment made_line made_product made_sum opening_at opening_of openings product_witness write_ledger
    writing_ledger zero_line selected eight_by_eight items_at pad8 places tabulate zeros8 bit mask_below euclid gcd
    product sum any find digit entry_of header_for made_for pattern_entries root kind_of made pattern_of patterns
    pedersen unless_refused lowest bad_count bad_modulus bad_order first_divisor is_accepted judged compare_sides
    differ differences first_difference is_coordinate is_element some_non_coordinate some_non_element image row_image
    entry is_exponent statement_at judging judge_loaded bad_challenge bad_commitment bad_coordinates expected_image
    response response_coordinate verdict
ledger_corners = record {
  refusal5 = (refl, refl);
  refusal6 = (refl, refl);
  refusal8 = (refl, refl);
  refusal10 = (refl, refl);
  refusal37 = (refl, refl);
  checking35 = (refl, refl);
  writing35 = (refl, refl);
  checking36 = (refl, refl);
  writing36 = (refl, refl);
  last36 = (refl, refl);
  refusal14 = (refl, refl);
  checking15 = (refl, refl);
  checking16 = (refl, refl);
  unasked = refl;
  writing15 = (refl, refl);
  writing16 = (refl, refl);
  shared_order = refl;
  checking_order = refl;
  writing_order = refl;
  checking_refused = refl;
  writing_refused = refl;
  told_accepted = refl;
  told_second = refl;
  told_last = refl;
  told_named = refl;
  told_first = refl;
  told_within = refl;
  told_after = refl;
  told_refused = refl;
  made = refl;
}
