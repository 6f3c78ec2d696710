use Prim.Native.Nat.{ℕ, suc, ◌+◌}
use mathlib.Core.Path.{◌≡◌, sym, ap, ◌∙◌}
use mathlib.Core.Bool.{Bool, not}
use mathlib.Core.List.{List}
use native.Mathlib.Numerals.{add-one}
use native.Mathlib.Omega.{arith}
use Rattle.numbers.proofs.Search.{any_end, any_here, any_on, any_start}
use Rattle.pattern_file.specs.Naming.{names, value_unnamed}
use Rattle.pattern_file.proofs.digits.value_unnamed.Goals as goal

-- the test of a value, which is asked for by its position from 1
test : (f : List ℕ) (start n v : ℕ) {named : Bool} → named ≡ names f start n (v + 1) → not (names f start n (suc v)) ≡ not named
test f start n v asked = ap not (ap (names f start n) (sym (add-one v)) ∙ sym asked)

pub loop-v-init : goal.loop-v-init
loop-v-init c = (omega arith, any_start _)

pub returns-then-not-names : goal.returns-then-not-names
unfolding value_unnamed
returns-then-not-names c =
    any_here _ _ _ c.loop-v-test.true (test _ _ _ _ c.names.ensures ∙ (ap not c.if-not-names.true))

pub loop-v-preserved : goal.loop-v-preserved
loop-v-preserved c =
    (omega arith, any_on _ _ c.loop-v.invariant.1 (test _ _ _ _ c.names.ensures ∙ (ap not c.if-not-names.false)))

pub returns : goal.returns
unfolding value_unnamed
returns c = let (within, none) = c.loop-v.invariant in any_end _ _ _ within c.loop-v-test.false none
