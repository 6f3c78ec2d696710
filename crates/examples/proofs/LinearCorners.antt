-- The corners of the maker of sheets from linear forms hold, computed.
-- Assumes nothing.
use mathlib.Core.Path.{refl}
use Rattle.formats.specs.Sheet.{entry_count, sheet_length}
use Rattle.formats.specs.Write.{short}
use Rattle.linear_forms.specs.Linear.{bad_coefficient, bad_counts, linear_instance, linear_rules, make_linear}
use Rattle.lists.specs.Places.{items_at, pad8, tabulate}
use Rattle.numbers.specs.Search.{any, find}
use Rattle.rules.specs.Answer.{unless_refused}
use Rattle.rules.specs.Call.{answer, number_of}
use Rattle.rules.specs.Rule.{lowest}
use Rattle.sigma.specs.Admission.{bad_count, bad_modulus, bad_order, bad_size, bad_statement, first_divisor}
use Rattle.sigma.specs.Element.{is_element, some_non_element}
use Rattle.sigma.specs.Instance.{is_exponent}
use Rattle.examples.specs.LinearCorners.{
  LinearCorners,
  forming,
  forming_counts,
  forming_in,
  forming_of,
  forming_with,
  generated,
  stated,
  weighted,
}
use Rattle.examples.specs.LinearPage.{maurer_forms}
use Rattle.examples.specs.TwoRows.{spoilt}

pub linear_corners : LinearCorners
unfolding any bad_coefficient bad_count bad_counts bad_modulus bad_order bad_size bad_statement entry_count find first_divisor
    forming forming_counts forming_in forming_of forming_with generated is_element is_exponent items_at linear_instance
    linear_rules lowest make_linear maurer_forms pad8 sheet_length short some_non_element spoilt stated tabulate weighted
    answer number_of unless_refused
linear_corners = record {
  refusal5 = (refl, refl);
  refusal6 = (refl, refl);
  refusal7 = (refl, refl);
  refusal8 = (refl, refl);
  generators29 = (refl, refl);
  coefficients29 = (refl, refl);
  statement29 = (refl, refl);
  refusal30 = (refl, refl);
  refusal10 = (refl, refl);
  unused10 = (refl, refl);
  refusal11 = (refl, refl);
  refusal22 = (refl, refl);
  neighbours = refl;
  in_order = refl;
}
