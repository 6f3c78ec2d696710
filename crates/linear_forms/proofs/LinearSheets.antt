-- What 02's tenth card asks holds of the definitions.
-- Assumes nothing.
use mathlib.Core.Path.{refl}
use Rattle.rules.specs.Order.{is_sublist, refusal_order}
use Rattle.rules.specs.Refuses.{condition_numbers}
use Rattle.formats.specs.Ours.{file_calls}
use Rattle.formats.proofs.Writing.{writing_refuses}
use Rattle.linear_forms.specs.Linear.{linear_instance, make_linear}
use Rattle.linear_forms.specs.LinearSheets.{LinearRefusals, LinearSheets}
use Rattle.linear_forms.specs.Ours.{linear_calls}
use Rattle.linear_forms.proofs.Image.{plan_image}
use Rattle.linear_forms.proofs.Making.{linear_loads, linear_puts, maker_runs}
use Rattle.linear_forms.proofs.OfPlan.{linear_of_plan}
use Rattle.linear_forms.proofs.Tests.{linear_tests}

-- demand 1 holds of the linear maker
pub linear_refusals : LinearRefusals linear_calls
unfolding condition_numbers is_sublist refusal_order make_linear
linear_refusals = record {
  making = λ p buffer. writing_refuses _ _ refl refl _ _ _ buffer (linear_tests p buffer);
  inserted = refl;
}

pub linear_sheets : LinearSheets file_calls linear_calls
linear_sheets = record {
  written = λ p buffer given. (linear_instance p, linear_of_plan p, linear_puts p buffer given);
  loads = λ p buffer small short given. linear_loads p buffer given small short;
  formula = λ p buffer small short given.
      plan_image (linear_loads p buffer given small short).1 ((maker_runs p buffer).0 given).0.elements;
}
