-- The shipped file: its bytes, and that with it the sheet maker is 01's.
-- Assumes nothing.
use Prim.Native.Nat.{ℕ, ◌≤◌}
use mathlib.Core.Path.{◌≡◌, refl, sym, ap, ap₂, ◌∙◌}
use mathlib.Core.Logic.{◌↔◌}
use mathlib.Core.Bool.{Bool, false, cond}
use mathlib.Core.List.{List, [], ◌∷◌, flatten}
use native.Mathlib.Omega.{arith}
use lib.Dec.{eqb}
use lib.ListN.{length}
use borrow.Author.Tests.{ne_eqb}
use Rattle.encoding.specs.Bytes.{bytes_of, number_at}
use Rattle.encoding.specs.Text.{ascii}
use Rattle.lists.specs.Places.{items_at, tabulate}
use Rattle.numbers.specs.Search.{any, find}
use Rattle.rules.specs.Call.{number_of}
use Rattle.rules.specs.Condition.{Tests}
use Rattle.rules.specs.Rule.{◌when◌, lowest}
use Rattle.rules.proofs.Call.{answer_same}
use Rattle.rules.proofs.Lowest.{clear_lowest, lowest_clear, pass}
use Rattle.sigma.specs.Comparison.{differ, first_difference}
use Rattle.sigma.specs.Instance.{Instance}
use Rattle.formats.specs.Encode.{sheet_of}
use Rattle.formats.specs.Write.{short, writing_at_start}
use Rattle.formats.proofs.Tests.{says_short}
use Rattle.formats.proofs.Writing.{short_passes, written_refusal}
use Rattle.patterns.specs.Maker.{asked, asked_kind, asked_pattern, bad_asked, made_rules, make_from, make_rules}
use Rattle.patterns.specs.Pattern.{Pattern, made_for, root}
use Rattle.patterns.specs.PatternFile.{
  bad_digits,
  bad_pattern_file,
  bad_sizes,
  misnamed,
  pattern_at,
  pattern_bytes,
  pattern_count,
  pattern_end,
  pattern_file,
  pattern_from,
  pattern_mark,
  pattern_start,
  pattern_version,
}
use Rattle.patterns.specs.Refusals.{shipped_conditions}
use Rattle.patterns.specs.Table.{bad_pattern, from_pattern, kind_of, made, pattern_of, patterns, shipped, write_shipped}
use Rattle.patterns.proofs.Meaning.{by_number}

-- ---- its bytes

-- the bytes of the old five
abbrev pub thirty_four : List ℕ
thirty_four =
    0x50 ∷ 0x41 ∷ 0x54 ∷ 0 ∷ 1 ∷ 5 ∷ 1 ∷ 1 ∷ 1 ∷ 1 ∷ 1 ∷ 2 ∷ 2 ∷ 1 ∷ 2 ∷ 2 ∷ 1 ∷ 2 ∷ 1 ∷ 2 ∷ 2 ∷ 1 ∷ 2 ∷ 1 ∷ 2 ∷
    2 ∷ 3 ∷ 3 ∷ 1 ∷ 2 ∷ 0 ∷ 3 ∷ 0 ∷ 2 ∷ []

-- they are the file
pub shipped_bytes_law : shipped ≡ thirty_four
unfolding shipped pattern_file pattern_bytes pattern_mark ascii bytes_of patterns flatten
shipped_bytes_law = refl

-- there are 34
pub length_shipped : length shipped ≡ 34
length_shipped = ap length shipped_bytes_law

module _ (buffer : List ℕ) where
  -- the call's rule tests its condition
  pub shipped_tests : Tests ((22 when short buffer (length shipped)) ∷ []) (shipped_conditions buffer)
  shipped_tests = rw length_shipped (refl, says_short buffer 34, tt)

  -- it is written exactly into 34 bytes or more
  pub shipped_runs : ((write_shipped buffer).answer.refusal ≡ 0) ↔ (34 ≤ length buffer)
  unfolding write_shipped
  shipped_runs =
      let rules = (22 when short buffer (length shipped)) ∷ [] in
      let passes = short_passes buffer (length shipped) in
      let size = length_shipped in (
        λ e.
            let (fits, rest) = clear_lowest rules tt (sym (written_refusal _ _ _ buffer) ∙ e) in
            omega (arith, passes.0 fits),
        λ fits. written_refusal _ _ _ buffer ∙ lowest_clear rules (passes.1 (omega arith), tt),
      )

-- ---- its sheets

-- neither 23 nor 24 applies to it
pub shipped_passes : (bad_pattern_file shipped ≡ false) × (bad_digits shipped ≡ false)
unfolding bad_pattern_file bad_digits bad_sizes misnamed pattern_at pattern_count pattern_end pattern_from pattern_mark pattern_start
    pattern_version differ first_difference any find number_at ascii tabulate items_at
shipped_passes = (ap bad_pattern_file shipped_bytes_law, ap bad_digits shipped_bytes_law)

-- the number asks a file for what 01 has under the old one, with the same counts of values
pub record Asks (f : List ℕ) (number old : ℕ) : Type 0 where
  pub kind : asked_kind number ≡ kind_of old
  pub pattern : asked_pattern f number ≡ pattern_of old
  pub counts : (values statement : List ℕ) → bad_asked f number values statement ≡ bad_pattern old values statement

-- of these bytes 0 asks for 01's 6, and 1 to 5 for 01's
asks_read : (old : ℕ) → 1 ≤ old → old ≤ 6 → Asks thirty_four (cond (eqb old 6) 0 old) old
unfolding asked_kind kind_of asked_pattern pattern_of patterns root bad_asked bad_pattern pattern_at pattern_count pattern_end pattern_from
    pattern_start number_at tabulate items_at
asks_read =
    by_number (λ n. Asks thirty_four (cond (eqb n 6) 0 n) n)
    (record { kind = refl; pattern = refl; counts = λ values z. refl })
    (record { kind = refl; pattern = refl; counts = λ values z. refl })
    (record { kind = refl; pattern = refl; counts = λ values z. refl })
    (record { kind = refl; pattern = refl; counts = λ values z. refl })
    (record { kind = refl; pattern = refl; counts = λ values z. refl })
    (record { kind = refl; pattern = refl; counts = λ values z. refl })

-- so 1 to 5 ask the shipped file for what they asked for
pub asks_same : (number : ℕ) → 1 ≤ number → number ≤ 5 → Asks shipped number number
asks_same number low high =
    rw shipped_bytes_law (rw (ne_eqb number 6 (λ (e : number ≡ 6). omega arith)) at (asks_read number low (omega arith)))

-- and 0 asks it for the root
pub asks_root : Asks shipped 0 6
asks_root = rw shipped_bytes_law (asks_read 6 (omega arith) (omega arith))

module _ {number old : ℕ} (asks : Asks shipped number old) (m ℓ K : ℕ) (values z : List ℕ) where
  -- the sheet that is asked for is 01's, value by value
  pub old_values : asked shipped number m ℓ K values z ≡ made old m ℓ K values z
  unfolding asked made
  old_values = ap₂ (λ (kind : ℕ) (p : Pattern). made_for kind p m ℓ K values z) asks.kind asks.pattern

  -- and the maker gives what 01's gave
  pub old_sheet : (buffer : List ℕ) → make_from shipped number m ℓ K values z buffer ≡ from_pattern old m ℓ K values z buffer
  unfolding make_from from_pattern make_rules number_of
  old_sheet buffer =
      let number_same =
      pass 23 _ shipped_passes.0 ∙ pass 24 _ shipped_passes.1
      ∙ ap₂ (λ (b : Bool) (i : Instance). lowest ((1 when b) ∷ made_rules values i buffer)) (asks.counts values z) old_values in
      answer_same _ _ number_same (ap (λ (i : Instance). (writing_at_start [] (sheet_of i) buffer).value) old_values) refl

-- of 1 to 5 too
pub same_values : (number m ℓ K : ℕ) (values z : List ℕ) → 1 ≤ number → number ≤ 5
    → asked shipped number m ℓ K values z ≡ made number m ℓ K values z
same_values number m ℓ K values z low high = old_values (asks_same number low high) m ℓ K values z
