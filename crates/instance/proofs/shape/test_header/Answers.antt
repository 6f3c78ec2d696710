-- `instance::shape::test_header` meets its contract: the tests stand in the order of the rules.
-- Assumes nothing.
use mathlib.Core.Bool.{false}
use mathlib.Core.Path.{◌≡◌, sym, ◌∙◌}
use mathlib.Core.List.{[], ◌∷◌}
use Prim.Native.Nat.{◌≤◌}
use borrow.Author.Tests.{lt-ltb, le-ltb}
use Rattle.types.specs.declared.Header.{Header}
use Rattle.rules.specs.Rule.{◌when◌, lowest}
use Rattle.rules.proofs.Lowest.{pass, stop}
use Rattle.sigma.specs.Admission.{bad_kind, bad_modulus, bad_order, bad_size, bad_count, header_rules}
use Rattle.instance.proofs.shape.test_header.Goals as goal

-- past the first three tests 7 and 8 are left
size_left : (h : Header) → bad_kind h ≡ false → 3 ≤ h.modulus → 2 ≤ h.order
    → lowest (header_rules h) ≡ lowest ((7 when bad_size h) ∷ (8 when bad_count h) ∷ [])
unfolding lowest header_rules bad_modulus bad_order
size_left h kind modulus order = rw (kind, le-ltb _ 3 modulus, le-ltb _ 2 order)

-- past the fourth, 8 is left
count_left : (h : Header) → bad_kind h ≡ false → 3 ≤ h.modulus → 2 ≤ h.order → bad_size h ≡ false
    → lowest (header_rules h) ≡ lowest ((8 when bad_count h) ∷ [])
count_left h kind modulus order size = size_left h kind modulus order ∙ pass 7 _ size

pub returns-then-bad_kind : goal.returns-then-bad_kind
unfolding lowest header_rules
returns-then-bad_kind c = rw (sym c.bad_kind.ensures ∙ c.if-bad_kind.true)

pub returns-then-h-lt3 : goal.returns-then-h-lt3
unfolding lowest header_rules bad_modulus
returns-then-h-lt3 c = rw (sym c.bad_kind.ensures ∙ c.if-bad_kind.false, lt-ltb _ 3 c.if-h-lt3.true)

pub returns-then-h-lt2 : goal.returns-then-h-lt2
unfolding lowest header_rules bad_modulus bad_order
returns-then-h-lt2 c =
    rw (sym c.bad_kind.ensures ∙ c.if-bad_kind.false, le-ltb _ 3 c.if-h-lt3.false, lt-ltb _ 2 c.if-h-lt2.true)

pub returns-then-bad_size : goal.returns-then-bad_size
returns-then-bad_size c =
    sym
    (size_left c.args.h (sym c.bad_kind.ensures ∙ c.if-bad_kind.false) c.if-h-lt3.false c.if-h-lt2.false
    ∙ stop 7 _ (sym c.bad_size.ensures ∙ c.if-bad_size.true))

pub returns-then-bad_count : goal.returns-then-bad_count
returns-then-bad_count c =
    sym
    (count_left c.args.h (sym c.bad_kind.ensures ∙ c.if-bad_kind.false) c.if-h-lt3.false c.if-h-lt2.false
    (sym c.bad_size.ensures ∙ c.if-bad_size.false)
    ∙ stop 8 _ (sym c.bad_count.ensures ∙ c.if-bad_count.true))

pub returns : goal.returns
unfolding lowest
returns c =
    sym
    (count_left c.args.h (sym c.bad_kind.ensures ∙ c.if-bad_kind.false) c.if-h-lt3.false c.if-h-lt2.false
    (sym c.bad_size.ensures ∙ c.if-bad_size.false)
    ∙ pass 8 [] (sym c.bad_count.ensures ∙ c.if-bad_count.false))
