-- `pattern_file::layout::wrong_sizes` meets its contract: the tests stand in the order of the definition.
-- Assumes nothing.
use native.Mathlib.Omega.{arith}
use borrow.Author.Tests.{lt-ltb, le-ltb}
use Rattle.patterns.specs.PatternFile.{bad_sizes}
use Rattle.pattern_file.specs.Walk.{wrong_sizes}
use Rattle.pattern_file.proofs.layout.wrong_sizes.Goals as goal

pub returns-then-p-lt1 : goal.returns-then-p-lt1
unfolding wrong_sizes bad_sizes
returns-then-p-lt1 c = rw (lt-ltb _ 1 c.if-p-lt1.true)

pub returns-then-p-gt8 : goal.returns-then-p-gt8
unfolding wrong_sizes bad_sizes
returns-then-p-gt8 c =
    let p = c.args.p in
    rw (le-ltb p.rows 1 (omega arith), lt-ltb 8 p.rows (omega arith))

pub returns-then-p-lt1-2 : goal.returns-then-p-lt1-2
unfolding wrong_sizes bad_sizes
returns-then-p-lt1-2 c =
    let p = c.args.p in
    rw (le-ltb p.rows 1 (omega arith), le-ltb 8 p.rows (omega arith), lt-ltb p.columns 1 (omega arith))

pub returns-then-p-gt8-2 : goal.returns-then-p-gt8-2
unfolding wrong_sizes bad_sizes
returns-then-p-gt8-2 c =
    let p = c.args.p in
    rw (
      le-ltb p.rows 1 (omega arith),
      le-ltb 8 p.rows (omega arith),
      le-ltb p.columns 1 (omega arith),
      lt-ltb 8 p.columns (omega arith),
    )

pub returns-then-p-lt1-3 : goal.returns-then-p-lt1-3
unfolding wrong_sizes bad_sizes
returns-then-p-lt1-3 c =
    let p = c.args.p in
    rw (
      le-ltb p.rows 1 (omega arith),
      le-ltb 8 p.rows (omega arith),
      le-ltb p.columns 1 (omega arith),
      le-ltb 8 p.columns (omega arith),
      lt-ltb p.values 1 (omega arith),
    )

pub returns : goal.returns
unfolding wrong_sizes bad_sizes
returns c =
    let p = c.args.p in
    rw (
      le-ltb p.rows 1 (omega arith),
      le-ltb 8 p.rows (omega arith),
      le-ltb p.columns 1 (omega arith),
      le-ltb 8 p.columns (omega arith),
      le-ltb p.values 1 (omega arith),
    )
