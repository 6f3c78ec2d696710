use mathlib.Core.Path.{◌≡◌, refl}
use native.Mathlib.Omega.{arith}
use Rattle.encoding.specs.Text.{ascii}
use Rattle.patterns.specs.PatternFile.{pattern_mark}
use Rattle.pattern_writer.specs.Stored.{table, table_at}
use Rattle.pattern_writer.proofs.Shipping.{found_digits, found_fitted, none_fitted, shipped_made, shipped_none}
use Rattle.pattern_writer.proofs.try_write_shipped.Goals as goal

pub returns-then-buffer-lt-LENGTH-clause-answer : goal.returns-then-buffer-lt-LENGTH-clause-answer
returns-then-buffer-lt-LENGTH-clause-answer c = (shipped_none _ c.if-buffer-lt-LENGTH.true).0

pub returns-then-buffer-lt-LENGTH-clause-bytes : goal.returns-then-buffer-lt-LENGTH-clause-bytes
returns-then-buffer-lt-LENGTH-clause-bytes c = (shipped_none _ c.if-buffer-lt-LENGTH.true).1

pub loop-p-init : goal.loop-p-init
loop-p-init c = (none_fitted _, omega arith, refl)

pub write_pattern-at-requires : goal.write_pattern-at-requires
unfolding table table_at
write_pattern-at-requires c = record { held = found_digits _ c.loop-p-test.true refl }

pub loop-p-preserved : goal.loop-p-preserved
unfolding table table_at
loop-p-preserved c =
    (found_fitted _ c.loop-p-test.true refl c.loop-p.invariant.0 c.write_pattern-at.ensures, omega arith, omega arith)

pub returns-clause-answer : goal.returns-clause-answer
unfolding pattern_mark ascii
returns-clause-answer c =
    let whole : c.loop-p.p-index ≡ 5 = omega arith in
    (shipped_made _ c.if-buffer-lt-LENGTH.false c.write_mark.ensures.stored c.write_u16.ensures.stored
    c.write_u8.ensures.stored (omega arith) (rw whole at c.loop-p.invariant.0)).0

pub returns-clause-bytes : goal.returns-clause-bytes
unfolding pattern_mark ascii
returns-clause-bytes c =
    let whole : c.loop-p.p-index ≡ 5 = omega arith in
    (shipped_made _ c.if-buffer-lt-LENGTH.false c.write_mark.ensures.stored c.write_u16.ensures.stored
    c.write_u8.ensures.stored (omega arith) (rw whole at c.loop-p.invariant.0)).1
