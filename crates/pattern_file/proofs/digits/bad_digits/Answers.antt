use Prim.Native.Nat.{ℕ, ◌<◌}
use mathlib.Core.Path.{◌≡◌, refl, ◌∙◌}
use native.Mathlib.Omega.{arith}
use mathlib.Core.List.{List}
use Rattle.numbers.proofs.Search.{any_end, any_here, any_on, any_start}
use Rattle.encoding.specs.Bytes.{number_at}
use Rattle.patterns.specs.PatternFile.{bad_digits, pattern_count, pattern_start}
use Rattle.patterns.proofs.Files.{passes_23}
use Rattle.pattern_file.proofs.Naming.{above_misnamed, above_part, not_misnamed, unnamed_misnamed, unnamed_part}
use Rattle.pattern_file.proofs.Walk.{digits_within, next_start, sizes_within}
use Rattle.pattern_file.proofs.digits.bad_digits.Goals as goal

-- a pattern that is left is one of the file's
inside : (f : List ℕ) {k count : ℕ} → count ≡ number_at 1 f 5 → k < count → k < pattern_count f
unfolding pattern_count
inside f counted left = omega arith

pub read_u8-count-requires : goal.read_u8-count-requires
read_u8-count-requires c = omega (arith, ((passes_23 _).0 c.requires.listed).long)

pub loop-init : goal.loop-init
unfolding pattern_start
loop-init c = (refl, omega arith, any_start _)

pub sizes_at-p-requires : goal.sizes_at-p-requires
sizes_at-p-requires c = record { within = sizes_within _ _ c.loop.invariant.0 ((passes_23 _).0 c.requires.listed) (inside _ c.read_u8-count.ensures.value c.loop-test.true) }

pub overflow_add-start : goal.overflow_add-start
overflow_add-start c = omega (arith, digits_within _ _ c.loop.invariant.0 ((passes_23 _).0 c.requires.listed) (inside _ c.read_u8-count.ensures.value c.loop-test.true) c.sizes_at-p.ensures)

pub overflow_add-end : goal.overflow_add-end
overflow_add-end c = omega (arith, digits_within _ _ c.loop.invariant.0 ((passes_23 _).0 c.requires.listed) (inside _ c.read_u8-count.ensures.value c.loop-test.true) c.sizes_at-p.ensures)

pub slice_bounds-digits-end : goal.slice_bounds-digits-end
slice_bounds-digits-end c = omega (arith, digits_within _ _ c.loop.invariant.0 ((passes_23 _).0 c.requires.listed) (inside _ c.read_u8-count.ensures.value c.loop-test.true) c.sizes_at-p.ensures)

pub returns-then-digit_above : goal.returns-then-digit_above
unfolding bad_digits
returns-then-digit_above c =
    let within = digits_within _ _ c.loop.invariant.0 ((passes_23 _).0 c.requires.listed) (inside _ c.read_u8-count.ensures.value c.loop-test.true) c.sizes_at-p.ensures in
    any_here _ _ _ (inside _ c.read_u8-count.ensures.value c.loop-test.true)
    (above_misnamed _ _ c.loop.invariant.0 c.sizes_at-p.ensures (c.digit_above.ensures ∙ above_part _ _ _ within _)
    c.if-digit_above.true)

pub returns-then-value_unnamed : goal.returns-then-value_unnamed
unfolding bad_digits
returns-then-value_unnamed c =
    let within = digits_within _ _ c.loop.invariant.0 ((passes_23 _).0 c.requires.listed) (inside _ c.read_u8-count.ensures.value c.loop-test.true) c.sizes_at-p.ensures in
    any_here _ _ _ (inside _ c.read_u8-count.ensures.value c.loop-test.true)
    (unnamed_misnamed _ _ c.loop.invariant.0 c.sizes_at-p.ensures (c.digit_above.ensures ∙ above_part _ _ _ within _)
    (c.value_unnamed.ensures ∙ unnamed_part _ _ _ within _) c.if-digit_above.false c.if-value_unnamed.true)

pub loop-preserved : goal.loop-preserved
loop-preserved c =
    let (here, _, none) = c.loop.invariant in
    let within = digits_within _ _ c.loop.invariant.0 ((passes_23 _).0 c.requires.listed) (inside _ c.read_u8-count.ensures.value c.loop-test.true) c.sizes_at-p.ensures in (
      omega (arith, next_start _ _ here c.sizes_at-p.ensures),
      omega arith,
      any_on _ _ none
          (not_misnamed _ _ here c.sizes_at-p.ensures (c.digit_above.ensures ∙ above_part _ _ _ within _)
          (c.value_unnamed.ensures ∙ unnamed_part _ _ _ within _) c.if-digit_above.false c.if-value_unnamed.false),
    )

pub returns : goal.returns
unfolding bad_digits pattern_count
returns c =
    let (_, few, none) = c.loop.invariant in
    any_end _ _ _ (omega arith) (omega arith) none
