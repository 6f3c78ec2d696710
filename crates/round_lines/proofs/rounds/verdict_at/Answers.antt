-- `round_lines::rounds::verdict_at` meets its contract: the record lies inside the file, and its values are judged.
-- Assumes nothing.
use native.Mathlib.Omega.{arith}
use Rattle.std.proofs.Common.{rules}
use Rattle.formats.proofs.Part.{record_inside}
use Rattle.instance.specs.Values.{values_of}
use Rattle.protocol.proofs.Judging.{judge_number, judge_verdict}
use Rattle.round_lines.specs.Lines.{verdict_in}
use Rattle.round_lines.proofs.rounds.verdict_at.Goals as goal

pub record_start-start-requires : goal.record_start-start-requires
record_start-start-requires c =
    let valid = c.args.sheet.now.valid in
    record {
      rows = valid.table.few_rows;
      columns = valid.table.few_columns;
      width = search rules;
      number = omega (arith, c.requires.file.few);
    }

pub round_at-round-requires : goal.round_at-round-requires
round_at-round-requires c =
    let valid = c.args.sheet.now.valid in
    record {
      rows = valid.table.few_rows;
      columns = valid.table.few_columns;
      width = c.requires.known;
      within = rw (c.record_start-start.ensures.value, c.requires.width) (record_inside c.requires.file _ c.requires.number);
    }

pub returns-in-Ok : goal.returns-in-Ok
unfolding verdict_in
returns-in-Ok c =
    rw (
      judge_verdict (values_of c.args.sheet.now) c.round_at-round.result (c.in-Ok.ensures _ _) c.verdict.ensures,
      c.round_at-round.ensures,
      c.record_start-start.ensures.value,
      c.requires.width,
    )

pub returns-in-Err : goal.returns-in-Err
unfolding verdict_in
returns-in-Err c =
    rw (
      c.number.ensures,
      judge_number (values_of c.args.sheet.now) c.round_at-round.result c.in-Err.refusal (c.in-Err.ensures _ _),
      c.round_at-round.ensures,
      c.record_start-start.ensures.value,
      c.requires.width,
    )
