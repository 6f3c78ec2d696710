-- Exactly when the linear maker is not refused, in other words than the conditions: it holds of the definition.
-- Assumes nothing.
use Prim.Native.Nat.{ℕ, ◌*◌, ◌<◌, ◌≤◌}
use mathlib.Core.Path.{◌≡◌, sym, ap, ◌∙◌}
use mathlib.Core.Logic.{◌↔◌}
use mathlib.Core.List.{List}
use native.Mathlib.Omega.{arith}
use lib.ListN.{length}
use Rattle.lists.specs.Member.{Member}
use Rattle.lists.proofs.Member.{each_member}
use Rattle.sigma.specs.Element.{Element}
use Rattle.sigma.specs.Instance.{Instance}
use Rattle.formats.specs.Encode.{encode}
use Rattle.formats.specs.Ours.{file_calls}
use Rattle.formats.specs.Write.{Writing}
use Rattle.formats.proofs.Unread.{encode_same}
use Rattle.formats.proofs.Writing.{encode_runs}
use Rattle.linear_forms.specs.Linear.{linear_instance, make_linear}
use Rattle.linear_forms.specs.LinearPlan.{LinearPlan}
use Rattle.linear_forms.specs.LinearSheets.{OfPlan}
use Rattle.linear_forms.specs.Ours.{linear_calls}
use Rattle.linear_forms.specs.Refusals.{linear_header}
use Rattle.linear_forms.specs.RunsWhere.{LinearRuns}
use Rattle.linear_forms.proofs.Making.{maker_runs}
use Rattle.linear_forms.proofs.OfPlan.{linear_of_plan, plan_same}

module _ (p : LinearPlan) (buffer : List ℕ) where
  -- a sheet is made exactly if the plan's counts and values are right and the second writer writes its sheet's values
  makes_encoded : ((make_linear p buffer).answer.refusal ≡ 0)
      ↔ ((1 ≤ length p.generators) × (length p.generators ≤ 8)
      × ((g : ℕ) → Member g p.generators → Element (linear_header p) g)
      × (length p.coefficients ≡ p.rows * (length p.generators * p.columns))
      × ((a : ℕ) → Member a p.coefficients → a < p.order) × (length p.statement ≡ p.rows)
      × ((inst : Instance) × OfPlan p inst × ((encode inst buffer).answer.refusal ≡ 0)))
  unfolding linear_instance
  makes_encoded =
      let elements = each_member 0 (Element (linear_header p)) p.generators in
      let below = each_member 0 (λ a. a < p.order) p.coefficients in (
        λ e.
            let (usable, valid, fits) = (maker_runs p buffer).0 e in
            let counted = usable.coefficients in (
              usable.some,
              usable.few,
              elements.0 usable.elements,
              omega arith,
              below.0 usable.below,
              usable.statement,
              (linear_instance p, linear_of_plan p, (encode_runs (linear_instance p) buffer).1 (valid, fits)),
            ),
        λ (some, few, generators, counted, coefficients, rowed, (inst, of_plan, runs)).
            let same = encode_same (plan_same of_plan (linear_of_plan p)) buffer in
            let (valid, fits) = (encode_runs (linear_instance p) buffer).0 (sym (ap (λ (w : Writing). w.answer.refusal) same) ∙ runs) in
            (maker_runs p buffer).1 (
              record {
                some = some;
                few = few;
                coefficients = omega arith;
                statement = rowed;
                below = below.1 coefficients;
                elements = elements.1 generators;
              },
              valid,
              fits,
            ),
      )

pub linear_runs : LinearRuns file_calls linear_calls
linear_runs = record { makes = makes_encoded }
