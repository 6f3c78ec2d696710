-- `maker::make_listed` meets its contract: behind the tests of number and counts it is the second writer on the pattern's values.
-- Assumes nothing.
use Prim.Native.Nat.{ℕ, ◌≤◌}
use mathlib.Core.Path.{◌≡◌}
use mathlib.Core.List.{List}
use mathlib.Core.Logic.{inl, inr}
use native.Mathlib.Omega.{arith}
use Rattle.encoding.specs.Bytes.{number_at}
use Rattle.patterns.specs.PatternFile.{pattern_count}
use Rattle.patterns.proofs.Files.{passes_23}
use Rattle.pattern_file.proofs.Walk.{sizes_within}
use Rattle.maker.proofs.Answers.{asked_refused, listed_refused, listed_stands, listed_written}
use Rattle.maker.proofs.RowDigits.{sizes_read}
use Rattle.maker.proofs.make_listed.Goals as goal

-- the number is at most the file's count
few : (f : List ℕ) {number count : ℕ} → count ≡ number_at 1 f 5 → number ≤ count → number ≤ pattern_count f
unfolding pattern_count
few f counted within = omega arith

pub read_u8-requires : goal.read_u8-requires
read_u8-requires c = omega (arith, ((passes_23 _).0 c.requires.file.0).long)

pub returns-then-number-read_u8-clause-answer : goal.returns-then-number-read_u8-clause-answer
unfolding pattern_count
returns-then-number-read_u8-clause-answer c = (asked_refused _ _ _ _ _ _ _ _ c.requires.file (inl (omega arith))).0

pub returns-then-number-read_u8-clause-left : goal.returns-then-number-read_u8-clause-left
unfolding pattern_count
returns-then-number-read_u8-clause-left c = (asked_refused _ _ _ _ _ _ _ _ c.requires.file (inl (omega arith))).1

pub start_of-at-requires : goal.start_of-at-requires
start_of-at-requires c = record { listed = c.requires.file.0; number = omega (arith, few _ c.read_u8.ensures.value c.if-number-read_u8.false) }

pub sizes_at-p-requires : goal.sizes_at-p-requires
sizes_at-p-requires c =
    let passes = c.requires.file in
    let some = c.requires.some in
    record { within = sizes_within _ _ c.start_of-at.ensures ((passes_23 _).0 passes.0) (omega (arith, few _ c.read_u8.ensures.value c.if-number-read_u8.false)) }

pub returns-then-values-p-clause-answer : goal.returns-then-values-p-clause-answer
returns-then-values-p-clause-answer c =
    let passes = c.requires.file in
    let some = c.requires.some in
    (listed_refused _ _ some c.start_of-at.ensures c.sizes_at-p.ensures _ _ _ _ _ _ passes
    (inl c.if-values-p.true)).0

pub returns-then-values-p-clause-left : goal.returns-then-values-p-clause-left
returns-then-values-p-clause-left c =
    let passes = c.requires.file in
    let some = c.requires.some in
    (listed_refused _ _ some c.start_of-at.ensures c.sizes_at-p.ensures _ _ _ _ _ _ passes
    (inl c.if-values-p.true)).1

pub returns-then-statement-p-clause-answer : goal.returns-then-statement-p-clause-answer
returns-then-statement-p-clause-answer c =
    let passes = c.requires.file in
    let some = c.requires.some in
    (listed_refused _ _ some c.start_of-at.ensures c.sizes_at-p.ensures _ _ _ _ _ _ passes
    (inr c.if-statement-p.true)).0

pub returns-then-statement-p-clause-left : goal.returns-then-statement-p-clause-left
returns-then-statement-p-clause-left c =
    let passes = c.requires.file in
    let some = c.requires.some in
    (listed_refused _ _ some c.start_of-at.ensures c.sizes_at-p.ensures _ _ _ _ _ _ passes
    (inr c.if-statement-p.true)).1

pub entries_of-entries-requires : goal.entries_of-entries-requires
entries_of-entries-requires c = listed_stands _ _ c.requires.some c.start_of-at.ensures c.sizes_at-p.ensures c.requires.file
    (few _ c.read_u8.ensures.value c.if-number-read_u8.false) _ c.if-values-p.false

pub eight_of-requires : goal.eight_of-requires
eight_of-requires c =
    omega (
      arith,
      (listed_stands _ _ c.requires.some c.start_of-at.ensures c.sizes_at-p.ensures c.requires.file
          (few _ c.read_u8.ensures.value c.if-number-read_u8.false) _ c.if-values-p.false).few_rows,
      (sizes_read _ _ c.sizes_at-p.ensures).0,
    )

pub returns-clause-answer : goal.returns-clause-answer
returns-clause-answer c =
    let passes = c.requires.file in
    let some = c.requires.some in
    (listed_written _ _ some c.start_of-at.ensures c.sizes_at-p.ensures _ _ _ _ _ _ passes (few _ c.read_u8.ensures.value c.if-number-read_u8.false)
    c.if-values-p.false c.if-statement-p.false c.entries_of-entries.ensures c.eight_of.ensures (c.try_encode.ensures.answer, c.try_encode.ensures.left)).0

pub returns-clause-left : goal.returns-clause-left
returns-clause-left c =
    let passes = c.requires.file in
    let some = c.requires.some in
    (listed_written _ _ some c.start_of-at.ensures c.sizes_at-p.ensures _ _ _ _ _ _ passes (few _ c.read_u8.ensures.value c.if-number-read_u8.false)
    c.if-values-p.false c.if-statement-p.false c.entries_of-entries.ensures c.eight_of.ensures (c.try_encode.ensures.answer, c.try_encode.ensures.left)).1
