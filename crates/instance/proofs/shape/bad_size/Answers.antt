-- `instance::shape::bad_size` meets its contract: the tests stand in the order of the definition.
-- Assumes nothing.
use native.Mathlib.Omega.{arith}
use borrow.Author.Tests.{eq-eqb, ne_eqb, lt-ltb, le-ltb}
use Rattle.sigma.specs.Admission.{bad_size}
use Rattle.instance.proofs.shape.bad_size.Goals as goal

pub returns-then-h-lt1 : goal.returns-then-h-lt1
unfolding bad_size
returns-then-h-lt1 c = rw (lt-ltb _ 1 c.if-h-lt1.true)

pub returns-then-h-gt8 : goal.returns-then-h-gt8
unfolding bad_size
returns-then-h-gt8 c =
    let h = c.args.h in
    rw (le-ltb h.rows 1 (omega arith), lt-ltb 8 h.rows (omega arith))

pub returns-then-h-lt1-2 : goal.returns-then-h-lt1-2
unfolding bad_size
returns-then-h-lt1-2 c =
    let h = c.args.h in
    rw (le-ltb h.rows 1 (omega arith), le-ltb 8 h.rows (omega arith), lt-ltb h.columns 1 (omega arith))

pub returns-then-h-gt8-2 : goal.returns-then-h-gt8-2
unfolding bad_size
returns-then-h-gt8-2 c =
    let h = c.args.h in
    rw (
      le-ltb h.rows 1 (omega arith),
      le-ltb 8 h.rows (omega arith),
      le-ltb h.columns 1 (omega arith),
      lt-ltb 8 h.columns (omega arith),
    )

pub returns-then-h-eq2 : goal.returns-then-h-eq2
unfolding bad_size
returns-then-h-eq2 c =
    let h = c.args.h in
    rw (
      le-ltb h.rows 1 (omega arith),
      le-ltb 8 h.rows (omega arith),
      le-ltb h.columns 1 (omega arith),
      le-ltb 8 h.columns (omega arith),
      eq-eqb h.kind 2 (omega arith),
    )

pub returns : goal.returns
unfolding bad_size
returns c =
    let h = c.args.h in
    rw (
      le-ltb h.rows 1 (omega arith),
      le-ltb 8 h.rows (omega arith),
      le-ltb h.columns 1 (omega arith),
      le-ltb 8 h.columns (omega arith),
      ne_eqb h.kind 2 c.if-h-eq2.false,
    )
