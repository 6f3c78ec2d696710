-- What is known of a refused sheet by its number: how much of it can be read, and that the last of the numbers is 11.
-- Assumes nothing.
use Prim.Native.Nat.{ℕ, suc, ◌+◌, ◌*◌, ◌≤◌, ◌<◌}
use mathlib.Core.Path.{◌≡◌, sym, subst}
use mathlib.Core.List.{List}
use mathlib.Core.Logic.{◌≢◌, inl, inr}
use native.Mathlib.Nat.{mul-le-mul}
use native.Mathlib.Omega.{arith}
use lib.ListN.{length}
use borrow.Author.Tests.{ne_eqb}
use Rattle.types.specs.declared.Header.{Header}
use Rattle.rules.proofs.Condition.{given}
use Rattle.rules.proofs.Explains.{Explains, explain, explains_given, known}
use Rattle.rules.proofs.Says.{says_equal}
use Rattle.sigma.proofs.Calculus.{says_stable}
use Rattle.formats.specs.Load.{load_refusal, load_rules}
use Rattle.formats.specs.Refusals.{load_conditions}
use Rattle.formats.specs.Sheet.{entry_count, header_of, instance_of, sheet_length}
use Rattle.formats.proofs.Entries.{entry_count_exponent}
use Rattle.formats.proofs.Loads.{sheet_long}
use Rattle.formats.proofs.Refusals.{load_tests}
use Rattle.instance.specs.Shaped.{Shaped}
use Rattle.reasons.specs.Reason.{sheet_spot}

-- what is known of a sheet that is refused with n
pub record RefusedWith (s : List ℕ) (n : ℕ) : Type 0 where
  pub low : 2 ≤ n
  pub high : n < 12
  pub long : 7 ≤ n → 20 ≤ length s
  pub modulus : 10 ≤ n → 0 < (header_of s).modulus
  pub shaped : 10 ≤ n → Shaped s (header_of s)
  pub kind : n ≡ 10 → (header_of s).kind ≡ 1

module _ (s : List ℕ) where
  -- a number of the shape
  early : (n : ℕ) → 2 ≤ n → n < 10 → (7 ≤ n → 20 ≤ length s) → RefusedWith s n
  early n low below long = record {
    low = low;
    high = omega arith;
    long = long;
    modulus = λ high. absurd (omega arith);
    shaped = λ high. absurd (omega arith);
    kind = λ same. absurd (omega arith);
  }

  -- 2 to 11
  refused_each : Explains (RefusedWith s) (λ k. ⊥) (load_conditions s)
  unfolding instance_of
  refused_each =
      explain (known (RefusedWith s) 2 (early 2 (omega arith) (omega arith) (λ high. absurd (omega arith)))) λ start.
      let short : ¬ (length s < 20) = λ l. start (inl l) in
      explain (known (RefusedWith s) 3 (early 3 (omega arith) (omega arith) (omega arith))) λ version.
      explain (known (RefusedWith s) 4 (early 4 (omega arith) (omega arith) (omega arith))) λ kind.
      explain (known (RefusedWith s) 5 (early 5 (omega arith) (omega arith) (omega arith))) λ modulus.
      explain (known (RefusedWith s) 6 (early 6 (omega arith) (omega arith) (omega arith))) λ order.
      explain (known (RefusedWith s) 7 (early 7 (omega arith) (omega arith) (omega arith))) λ size.
      explain (known (RefusedWith s) 8 (early 8 (omega arith) (omega arith) (omega arith))) λ count.
      explain (known (RefusedWith s) 9 (early 9 (omega arith) (omega arith) (omega arith))) λ exact.
      let rows : ¬ (8 < (header_of s).rows) = λ l. size (inr (inl l)) in
      let columns : ¬ (8 < (header_of s).columns) = λ l. size (inr (inr (inr (inl l)))) in
      let fits = says_stable (says_equal (length s) (sheet_length (header_of s))) exact in
      let shaped : Shaped s (header_of s) = record { few_rows = omega arith; few_columns = omega arith; exact = fits } in
      let late : (n : ℕ) → 10 ≤ n → n < 12 → (n ≡ 10 → (header_of s).kind ≡ 1) → RefusedWith s n =
      λ n low high one. record {
        low = omega arith;
        high = high;
        long = omega arith;
        modulus = omega arith;
        shaped = λ high. shaped;
        kind = one;
      } in
      explain (λ entries. late 10 (omega arith) (omega arith) (λ same. entries.0), λ none. absurd none) λ entries.
      explain (known (RefusedWith s) 11 (late 11 (omega arith) (omega arith) (λ same. absurd (omega arith)))) λ statement. tt

  -- the number of a refused sheet
  pub refused_with_law : (n : ℕ) → 0 < n → n ≡ load_refusal s → RefusedWith s n
  unfolding load_refusal
  refused_with_law n some same =
      subst (RefusedWith s) (sym same)
      (explains_given (RefusedWith s) (λ k. ⊥) (load_conditions s) (load_refusal s) refused_each
      (given (load_rules s) (load_conditions s) (load_tests s)) (omega arith))

-- ---- the words of a sheet that has the shape of one

module _ (s : List ℕ) (h : Header) (same : h ≡ header_of s) (shaped : Shaped s (header_of s)) where
  -- it holds its fixed fields
  pub fields_inside : 20 ≤ length s
  fields_inside = omega (arith, shaped.exact, sheet_long (header_of s))

  -- it has few rows and columns
  pub fields_few : (h.rows ≤ 8) × (h.columns ≤ 8)
  fields_few = rw same (shaped.few_rows, shaped.few_columns)

  -- the entries of kind 1 lie inside it
  pub entries_inside : (header_of s).kind ≡ 1 → (h.rows * h.columns ≤ 64) × (20 + 4 * (h.rows * h.columns) ≤ length s)
  unfolding sheet_length
  entries_inside one =
      rw same
      (mul-le-mul shaped.few_rows shaped.few_columns, omega (arith, shaped.exact, entry_count_exponent (header_of s) one))

  -- so does the statement
  pub statement_inside : (count : ℕ) → count ≡ entry_count h → 20 + 4 * count + 4 * h.rows ≤ length s
  unfolding sheet_length
  statement_inside count e = rw (e, same) (omega (arith, shaped.exact))

-- ---- a number that is none of 2 to 10

-- it is none of them, in the form in which a match on numbers tells it
abbrev pub Beyond : ℕ → Type 0
Beyond n =
    ((((((((Unit {0} × (n ≢ 2)) × (n ≢ 3)) × (n ≢ 4)) × (n ≢ 5)) × (n ≢ 6)) × (n ≢ 7)) × (n ≢ 8)) × (n ≢ 9)) × (n ≢ 10)

-- the next number
next : (k n : ℕ) → k ≤ n → n ≢ k → suc k ≤ n
next k n low other = omega arith

-- from 2 on, it is above them
pub beyond_ten : (n : ℕ) → 2 ≤ n → Beyond n → 10 < n
beyond_ten n low (((((((((_, a), b), c), d), e), f), g), h), i) =
    next 10 n (next 9 n (next 8 n (next 7 n (next 6 n (next 5 n (next 4 n (next 3 n (next 2 n low a) b) c) d) e) f) g) h) i

-- its spot is that of 11
pub beyond_spot : (s : List ℕ) (found n : ℕ) → Beyond n → sheet_spot s found n ≡ sheet_spot s found 11
unfolding sheet_spot
beyond_spot s found n (((((((((_, a), b), c), d), e), f), g), h), i) =
    rw (
      ne_eqb n 2 a,
      ne_eqb n 3 b,
      ne_eqb n 4 c,
      ne_eqb n 5 d,
      ne_eqb n 6 e,
      ne_eqb n 7 f,
      ne_eqb n 8 g,
      ne_eqb n 9 h,
      ne_eqb n 10 i,
    )
