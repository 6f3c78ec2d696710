-- `pattern_file::layout::bad_file` meets its contract: the tests stand in the order of the definition.
-- Assumes nothing.
use mathlib.Core.Path.{◌≡◌, sym, ◌∙◌}
use Prim.Native.Nat.{ℕ}
use mathlib.Core.Bool.{Bool, true}
use mathlib.Core.List.{List, [], ◌∷◌}
use native.Mathlib.Omega.{arith}
use Rattle.encoding.specs.Text.{ascii}
use Rattle.fields.specs.Mark.{has_mark}
use Rattle.patterns.specs.PatternFile.{pattern_count, pattern_mark, pattern_version}
use Rattle.pattern_file.proofs.FileTest.{file_empty, file_many, file_mark, file_short, file_version_law, file_walked}
use Rattle.pattern_file.proofs.layout.bad_file.Goals as goal

-- the file begins with the mark
marked : (f : List ℕ) {tested : Bool} → tested ≡ has_mark f (80 ∷ 65 ∷ 84 ∷ []) → tested ≡ true → has_mark f pattern_mark ≡ true
unfolding pattern_mark ascii
marked f is holds = sym is ∙ holds

pub returns-then-file-lt-START : goal.returns-then-file-lt-START
returns-then-file-lt-START c = file_short _ c.if-file-lt-START.true

pub returns-then-not-has_mark : goal.returns-then-not-has_mark
unfolding pattern_mark ascii
returns-then-not-has_mark c = file_mark _ c.if-file-lt-START.false (sym c.has_mark.ensures.value ∙ c.if-not-has_mark.true)

pub returns-then-read_u16-ne1 : goal.returns-then-read_u16-ne1
unfolding pattern_version
returns-then-read_u16-ne1 c =
    file_version_law _ c.if-file-lt-START.false (marked _ c.has_mark.ensures.value c.if-not-has_mark.false) (λ e. c.if-read_u16-ne1.true (c.read_u16.ensures.value ∙ e))

pub returns-then-count-lt1 : goal.returns-then-count-lt1
unfolding pattern_version pattern_count
returns-then-count-lt1 c =
    file_empty _ c.if-file-lt-START.false (marked _ c.has_mark.ensures.value c.if-not-has_mark.false) (omega arith) (omega arith)

pub returns-then-count-gt-MOST_PATTERNS : goal.returns-then-count-gt-MOST_PATTERNS
unfolding pattern_version pattern_count
returns-then-count-gt-MOST_PATTERNS c =
    file_many _ c.if-file-lt-START.false (marked _ c.has_mark.ensures.value c.if-not-has_mark.false) (omega arith) (omega arith)

pub returns : goal.returns
unfolding pattern_version pattern_count
returns c =
    file_walked _ c.if-file-lt-START.false (marked _ c.has_mark.ensures.value c.if-not-has_mark.false) (omega arith) c.if-count-lt1.false c.if-count-gt-MOST_PATTERNS.false
    c.read_u8-count.ensures.value c.bad_patterns.ensures
