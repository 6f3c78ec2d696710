-- The demands determine the linear maker: two makers that meet them answer the same to every input.
-- Assumes nothing.
use Prim.Native.Nat.{ℕ}
use mathlib.Core.Path.{◌≡◌, subst}
use mathlib.Core.List.{List}
use Rattle.rules.proofs.Determined.{refused_or_not}
use Rattle.formats.specs.FileCalls.{FileCalls}
use Rattle.formats.specs.Outcome.{Puts}
use Rattle.formats.proofs.OnlyWriting.{keeps_only, puts_only}
use Rattle.formats.proofs.Unread.{sheet_of_same}
use Rattle.linear_forms.specs.LinearCalls.{LinearCalls}
use Rattle.linear_forms.specs.LinearPlan.{LinearPlan}
use Rattle.linear_forms.specs.LinearSheets.{LinearRefusals, LinearSheets}
use Rattle.linear_forms.specs.Same.{SameLinear}
use Rattle.linear_forms.proofs.OfPlan.{plan_same}

module _ {files files' : FileCalls} (linear linear' : LinearCalls) (r : LinearRefusals linear) (r' : LinearRefusals linear')
    (d : LinearSheets files linear) (d' : LinearSheets files' linear') where
  make_same : (p : LinearPlan) (buffer : List ℕ) → linear.make_linear p buffer ≡ linear'.make_linear p buffer
  make_same p buffer =
      refused_or_not (r.making p buffer) (r'.making p buffer) (λ n. keeps_only _ _ n) (λ e e' none.
      let (inst, of_plan, put) = d.written p buffer e in
      let (inst', of_plan', put') = d'.written p buffer e' in
      puts_only _ _ put
      (subst (λ (sheet : List ℕ). Puts sheet buffer (linear'.make_linear p buffer)) (sheet_of_same (plan_same of_plan' of_plan)) put'))

  pub only_linear : SameLinear linear linear'
  only_linear = record { make_linear = make_same }
