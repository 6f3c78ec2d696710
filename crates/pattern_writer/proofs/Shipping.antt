-- The shipped file, part by part: the patterns of the table one after another, and the file.
-- Assumes nothing.
use Prim.Native.Nat.{ℕ, zero, suc, ◌+◌, ◌-◌, ◌*◌, ◌≤◌, ◌<◌}
use mathlib.Core.Path.{◌≡◌, refl, sym}
use mathlib.Core.List.{List, [], ◌∷◌, ◌++◌, flatten}
use native.Mathlib.Omega.{arith}
use lib.ListN.{length, take}
use lib.Seq.{sets}
use borrow.Author.Tests.{lt-ltb, le-ltb}
use Rattle.encoding.specs.Bytes.{bytes_of}
use Rattle.encoding.specs.Placed.{Fitted, Placed}
use Rattle.encoding.specs.Text.{ascii}
use Rattle.encoding.proofs.Fitted.{fitted_none, fitted_then, fitted_whole}
use Rattle.encoding.proofs.Placed.{placed_behind, placed_number}
use Rattle.std.specs.Prelude.{Ok, Err}
use Rattle.refusals.specs.declared.Refusal.TheVariants.{Buffer}
use Rattle.refusals.specs.Number.{written}
use Rattle.lists.specs.Places.{items_at, tabulate}
use Rattle.rules.specs.Call.{number_of}
use Rattle.rules.proofs.Call.{tested_refused, tested_value}
use Rattle.rules.proofs.Lowest.{lowest_clear, stop}
use Rattle.formats.specs.Write.{short}
use Rattle.formats.proofs.Writing.{Leaves, leaves}
use Rattle.patterns.specs.PatternFile.{pattern_bytes, pattern_file, pattern_mark}
use Rattle.patterns.specs.Table.{patterns, shipped, write_shipped}
use Rattle.patterns.proofs.Shipped.{length_shipped}
use Rattle.pattern_writer.specs.declared.Pattern.{Pattern}
use Rattle.pattern_writer.specs.Stored.{stored_pattern, stored_patterns, table, table_at}

-- the sizes and the digits of a pattern, one after the other, are the pattern
pub pattern_fitted : {l m n : List ℕ} {at i j : ℕ} (p : Pattern) (count : ℕ) → count ≡ p.rows * p.columns
    → Fitted l at (p.rows ∷ p.columns ∷ p.values ∷ []) m i → Fitted m i (take (count - 0) p.digits) n j
    → Fitted l at (stored_pattern p) n j
unfolding stored_pattern
pattern_fitted p count whole sizes digits =
    let all : count - 0 ≡ p.rows * p.columns = omega arith in
    fitted_then sizes (rw all at digits)

-- ---- the table

-- what holds of 0 to 4 holds of every place of the table
by_place : (P : ℕ → Type 0) → P 0 → P 1 → P 2 → P 3 → P 4 → (k : ℕ) → k < 5 → P k
by_place P a b c d e zero h = a
by_place P a b c d e (suc zero) h = b
by_place P a b c d e (suc (suc zero)) h = c
by_place P a b c d e (suc (suc (suc zero))) h = d
by_place P a b c d e (suc (suc (suc (suc zero)))) h = e
by_place P a b c d e (suc (suc (suc (suc (suc k))))) h = absurd (omega arith)

-- a pattern of the table has at most six digits, in six places
holds_digits : (k : ℕ) → k < 5 → ((table_at k).rows * (table_at k).columns ≤ 6) × (length (table_at k).digits ≡ 6)
unfolding table table_at
holds_digits = by_place _ (omega arith, refl) (omega arith, refl) (omega arith, refl) (omega arith, refl) (omega arith, refl)

-- one pattern more
patterns_next : (k : ℕ) → k < 5 → stored_patterns k ++ stored_pattern (table_at k) ≡ stored_patterns (k + 1)
unfolding stored_patterns stored_pattern table table_at items_at tabulate flatten
patterns_next = by_place _ refl refl refl refl refl

module _ {p : Pattern} (k : ℕ) (inside : k < 5) (found : p ≡ table_at k) where
  -- a pattern that was found in the table holds its digits
  pub found_digits : (p.rows * p.columns ≤ 6) × (length p.digits ≡ 6)
  found_digits = rw found (holds_digits k inside)

  -- stored after those before it, it is one more
  pub found_fitted : {l m n : List ℕ} {at next : ℕ} → Fitted l 6 (stored_patterns k) m at → Fitted m at (stored_pattern p) n next
      → Fitted l 6 (stored_patterns (k + 1)) n next
  found_fitted before stored = rw (← patterns_next k inside, ← found) (fitted_then before stored)

-- none is stored before the first
pub none_fitted : (l : List ℕ) → Fitted l 6 (stored_patterns 0) l 6
unfolding stored_patterns tabulate items_at flatten
none_fitted l = fitted_none l 6

-- ---- the file

-- mark, version, count and all five patterns
file_whole : pattern_mark ++ bytes_of 2 1 ++ bytes_of 1 5 ++ stored_patterns 5 ≡ shipped
unfolding stored_patterns stored_pattern table table_at bytes_of items_at tabulate flatten pattern_mark ascii shipped
    pattern_file pattern_bytes patterns
file_whole = refl

-- the patterns have 28 bytes
length_patterns : length (stored_patterns 5) ≡ 28
unfolding stored_patterns stored_pattern table table_at items_at tabulate flatten
length_patterns = refl

module _ (buffer : List ℕ) where
  -- the buffer is too short
  pub shipped_none : length buffer < 34 → Leaves (written (Err Buffer)) buffer (write_shipped buffer)
  unfolding write_shipped short number_of
  shipped_none less =
      let few = lt-ltb (length buffer) (length shipped) (omega (arith, length_shipped)) in
      leaves (tested_refused _ (sym (stop 22 [] few)) (λ (z : 22 ≡ 0). omega arith))

  -- in any other the file is stored
  pub shipped_made : {marked versioned counted after : List ℕ} {used : ℕ} → 34 ≤ length buffer → marked ≡ sets buffer 0 pattern_mark
      → versioned ≡ sets marked 3 (bytes_of 2 1) → counted ≡ sets versioned 5 (bytes_of 1 5)
      → length counted ≡ length buffer → Fitted counted 6 (stored_patterns 5) after used
      → Leaves (written (Ok used)) after (write_shipped buffer)
  unfolding write_shipped short number_of pattern_mark ascii
  shipped_made {marked} {used = used} room mark version count size fitted =
      let start : Placed buffer 0 pattern_mark marked 3 = record { stored = mark; behind = refl } in
      let stored = fitted_whole fitted (omega (arith, length_patterns)) in
      let placed = rw file_whole at (placed_behind (placed_number (placed_number start 2 1 version) 1 5 count) stored) in
      let enough = le-ltb (length buffer) (length shipped) (omega (arith, length_shipped)) in
      let end : used ≡ length shipped = omega (arith, placed.behind) in
      rw (end, placed.stored) (leaves (tested_value _ (sym (lowest_clear _ (enough, tt))) refl))
