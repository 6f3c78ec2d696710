-- Laws of what Peggy's session keeps beside its state.
-- Assumes nothing.
use Prim.Native.Nat.{ℕ, ◌<◌, ◌≤◌}
use mathlib.Core.Path.{◌≡◌}
use mathlib.Core.Bool.{false}
use mathlib.Core.List.{List}
use mathlib.Core.Logic.{◌↔◌}
use native.Mathlib.Omega.{arith}
use borrow.Author.Tests.{not-true}
use Rattle.types.specs.declared.Memory.{Memory}
use Rattle.numbers.proofs.Search.{any_true, any_of}
use Rattle.rules.specs.Says.{Says}
use Rattle.rules.proofs.Says.{says_at_most, says_false}
use Rattle.sigma.specs.Reads.{Agree}
use Rattle.sigma.proofs.Comparison.{differ_false}
use Rattle.runs.specs.Meaning.{Unlisted}
use Rattle.runs.specs.Memory.{no_memory, listed_at, is_listed, is_full}

-- nothing is listed in a new session, and there is room
pub none_listed : (t : List ℕ) → Unlisted no_memory t
unfolding no_memory
none_listed t i inside same = omega arith

pub some_room : no_memory.count < 64
unfolding no_memory
some_room = omega arith

-- the test for a listed commitment
pub says_listed : (m : Memory) (t : List ℕ)
    → Says (is_listed m t) ((i : ℕ) × (i < 64) × (i < m.count) × Agree 8 (listed_at m i) t)
unfolding is_listed
says_listed m t = record {
  sound = λ e. let (i, inside, same) = any_true _ _ e in (i, omega arith, omega arith, (differ_false 8 _ _).0 (not-true _ same));
  complete = λ (i, few, inside, same). any_of _ _ i (omega arith) (rw ((differ_false 8 (listed_at m i) t).1 same));
}

-- the test for a list without room
pub says_full : (m : Memory) → Says (is_full m) (64 ≤ m.count)
unfolding is_full
says_full m = says_at_most 64 m.count

-- neither holds exactly where there is room and the commitment is none of those that are counted
pub may_list : (m : Memory) (t : List ℕ) → ((is_listed m t ≡ false) × (is_full m ≡ false)) ↔ (Unlisted m t × (m.count < 64))
may_list m t = (
  λ (a, b).
      let room : m.count < 64 = omega (arith, (says_false (says_full m)).0 b) in
      (λ i inside same. (says_false (says_listed m t)).0 a (i, omega arith, inside, same), room),
  λ (unlisted, room). (
    (says_false (says_listed m t)).1 (λ (i, few, inside, same). unlisted i inside same),
    (says_false (says_full m)).1 (λ full. omega arith),
  ),
)
