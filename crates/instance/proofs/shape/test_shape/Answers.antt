-- `instance::shape::test_shape` meets its contract: the tests stand in the order of the rules.
-- Assumes nothing.
use mathlib.Core.Path.{sym, ap, ◌∙◌}
use native.Mathlib.Omega.{arith}
use Rattle.std.proofs.lemmas.Result.{err_from_is_err_and}
use Rattle.refusals.proofs.Positive.{number_positive}
use Rattle.types.specs.declared.Header.{Header}
use Rattle.encoding.specs.Text.{ascii}
use Rattle.rules.specs.Rule.{lowest}
use Rattle.sigma.specs.Admission.{header_rules}
use Rattle.formats.specs.Sheet.{sheet_mark, version_of, sheet_length}
use Rattle.instance.proofs.FixedFields.{header_passes}
use Rattle.instance.proofs.ShapeNumber.{
  Begun,
  short_refused,
  mark_refused,
  version_refused,
  header_refused,
  length_refused,
  shape_right,
}
use Rattle.instance.proofs.shape.test_shape.Goals as goal

pub returns-then-sheet-lt-FIXED_FIELDS-clause-number : goal.returns-then-sheet-lt-FIXED_FIELDS-clause-number
returns-then-sheet-lt-FIXED_FIELDS-clause-number c = short_refused _ c.if-sheet-lt-FIXED_FIELDS.true

pub returns-then-not-has_mark-clause-number : goal.returns-then-not-has_mark-clause-number
unfolding sheet_mark ascii
returns-then-not-has_mark-clause-number c =
    mark_refused _ c.if-sheet-lt-FIXED_FIELDS.false (sym c.has_mark.ensures.value ∙ c.if-not-has_mark.true)

pub returns-then-read_u16-ne1-clause-number : goal.returns-then-read_u16-ne1-clause-number
unfolding sheet_mark ascii version_of
returns-then-read_u16-ne1-clause-number c =
    version_refused _ c.if-sheet-lt-FIXED_FIELDS.false (sym c.has_mark.ensures.value ∙ c.if-not-has_mark.false)
    (λ e. omega arith)

pub returns-in_err-test_header-clause-number : goal.returns-in_err-test_header-clause-number
unfolding sheet_mark ascii version_of
returns-in_err-test_header-clause-number c =
    let begun : Begun c.args.sheet.now = record {
      long = c.if-sheet-lt-FIXED_FIELDS.false;
      marked = sym c.has_mark.ensures.value ∙ c.if-not-has_mark.false;
      version = omega arith;
    } in
    let number_is = c.in_err-test_header.ensures ∙ ap (λ (h : Header). lowest (header_rules h)) c.header-h.ensures in
    let passed_on = err_from_is_err_and c.from_residual.result c.from_residual.ensures.1 in
    rw (passed_on.1, passed_on.2)
    (number_is ∙ header_refused _ begun (omega (arith, number_is, number_positive c.in_err-test_header.field-0.0)))

pub sheet_length-requires-clause-rows : goal.sheet_length-requires-clause-rows
sheet_length-requires-clause-rows c = (header_passes c.header-h.result (sym c.in_ok-test_header.ensures)).1.0

pub sheet_length-requires-clause-columns : goal.sheet_length-requires-clause-columns
sheet_length-requires-clause-columns c = (header_passes c.header-h.result (sym c.in_ok-test_header.ensures)).1.1

pub returns-then-sheet-sheet_length-clause-number : goal.returns-then-sheet-sheet_length-clause-number
unfolding sheet_mark ascii version_of
returns-then-sheet-sheet_length-clause-number c =
    let begun : Begun c.args.sheet.now = record {
      long = c.if-sheet-lt-FIXED_FIELDS.false;
      marked = sym c.has_mark.ensures.value ∙ c.if-not-has_mark.false;
      version = omega arith;
    } in
    let number_is = c.in_ok-test_header.ensures ∙ ap (λ (h : Header). lowest (header_rules h)) c.header-h.ensures in
    let given = c.sheet_length.ensures.value ∙ ap sheet_length c.header-h.ensures in
    length_refused _ begun (sym number_is) (λ e. omega (arith, given))

pub returns-clause-number : goal.returns-clause-number
unfolding sheet_mark ascii version_of
returns-clause-number c =
    let begun : Begun c.args.sheet.now = record {
      long = c.if-sheet-lt-FIXED_FIELDS.false;
      marked = sym c.has_mark.ensures.value ∙ c.if-not-has_mark.false;
      version = omega arith;
    } in
    let number_is = c.in_ok-test_header.ensures ∙ ap (λ (h : Header). lowest (header_rules h)) c.header-h.ensures in
    let given = c.sheet_length.ensures.value ∙ ap sheet_length c.header-h.ensures in
    shape_right _ begun (sym number_is) (omega (arith, given))
