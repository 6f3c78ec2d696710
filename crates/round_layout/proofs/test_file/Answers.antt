-- `round_layout::test_file` meets its contract: each return but the last stands where a round file cannot be.
-- Assumes nothing.
use mathlib.Core.Bool.{not}
use mathlib.Core.Path.{sym, ap, ◌∙◌}
use native.Mathlib.Omega.{arith}
use Rattle.encoding.specs.Text.{ascii}
use Rattle.formats.specs.RoundFile.{count_field, file_version, round_mark}
use Rattle.formats.proofs.Growing.{file_long}
use Rattle.round_layout.proofs.FileTest.{
  end_found,
  file_refused,
  file_taken,
  mark_found,
  unmarked_refused,
  version_found,
  version_refused,
}
use Rattle.round_layout.proofs.test_file.Goals as goal

pub returns-then-file-lt-START : goal.returns-then-file-lt-START
returns-then-file-lt-START c = file_refused _ _ (λ r. omega (arith, file_long r))

pub returns-then-not-has_mark : goal.returns-then-not-has_mark
unfolding round_mark ascii
returns-then-not-has_mark c =
    unmarked_refused _ _ c.has_mark.ensures.value (omega arith) (ap not c.if-not-has_mark.true)

pub returns-then-unknown_version : goal.returns-then-unknown_version
unfolding file_version
returns-then-unknown_version c =
    version_refused _ _ c.read_u16.ensures.value c.unknown_version.ensures c.if-unknown_version.true

pub returns-then-count-gt-MOST_ROUNDS : goal.returns-then-count-gt-MOST_ROUNDS
unfolding count_field
returns-then-count-gt-MOST_ROUNDS c = file_refused _ _ (λ r. omega (arith, r.few))

pub returns-then-file-record_start : goal.returns-then-file-record_start
unfolding count_field
returns-then-file-record_start c =
    let end = end_found _ _ c.file_width.ensures.value c.read_u16-count.ensures.value c.record_start.ensures.value in
    file_refused _ _ (λ r. c.if-file-record_start.true (r.exact ∙ sym end))

pub returns : goal.returns
unfolding count_field file_version round_mark ascii
returns c =
    let h = c.args.h in
    let end = end_found _ _ c.file_width.ensures.value c.read_u16-count.ensures.value c.record_start.ensures.value in
    file_taken _ _ (record {
      mark = mark_found h _ c.has_mark.ensures.value (omega arith) (ap not c.if-not-has_mark.false);
      version = version_found h _ c.read_u16.ensures.value c.unknown_version.ensures c.if-unknown_version.false;
      few = omega arith;
      exact = c.if-file-record_start.false ∙ end;
    })
