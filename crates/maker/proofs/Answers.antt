-- What the sheet maker answers and leaves in the buffer, return by return.
-- Assumes nothing.
use Prim.Native.Nat.{ℕ, ◌-◌, ◌≤◌, ◌<◌}
use mathlib.Core.Path.{◌≡◌, sym, ◌∙◌}
use mathlib.Core.Logic.{◌⊎◌, ◌≢◌, inr, ⊎_elim}
use mathlib.Core.List.{List, [], ◌∷◌}
use native.Mathlib.Omega.{arith}
use lib.ListN.{length}
use borrow.Author.Tests.{ne_eqb}
use Rattle.std.specs.Prelude.{Err}
use Rattle.refusals.specs.declared.Refusal.{Refusal}
use Rattle.refusals.specs.declared.Refusal.TheVariants.{Pattern}
use Rattle.refusals.specs.Number.{number as number_of_refusal, written}
use Rattle.refusals.proofs.Positive.{number_positive}
use Rattle.types.specs.declared.Written.{Written}
use Rattle.lists.specs.Places.{pad8}
use Rattle.rules.specs.Rule.{◌when◌, lowest}
use Rattle.rules.proofs.Lowest.{clear_lowest, lowest_earlier, pass, stop}
use Rattle.rules.proofs.Says.{says_false}
use Rattle.sigma.specs.Instance.{Instance, instance_with}
use Rattle.formats.specs.Encode.{encode, sheet_of}
use Rattle.formats.specs.Sheet.{zeros64}
use Rattle.formats.proofs.Writing.{Leaves}
use Rattle.patterns.specs.Maker.{asked, asked_kind, asked_pattern, bad_asked, made_rules, make_from, make_rules}
use Rattle.patterns.specs.Pattern.{header_for, made_for, pattern_entries, root}
use Rattle.patterns.specs.PatternFile.{bad_digits, bad_pattern_file, pattern_at, pattern_count, pattern_from, pattern_start}
use Rattle.patterns.proofs.Maker.{maker_encodes}
use Rattle.patterns.proofs.Tests.{says_asked}
use Rattle.pattern_file.specs.declared.layout.Sizes.{Sizes}
use Rattle.pattern_file.specs.Walk.{sizes_at}
use Rattle.writer.proofs.Answers.{start_refused}
use Rattle.maker.specs.Passes.{Passes}
use Rattle.maker.specs.Rows.{Stands}
use Rattle.maker.proofs.RowDigits.{pattern_stands, sizes_read}

-- a file that gives no number passes
pub file_passes : (f : List ℕ) → 0 ≡ lowest ((23 when bad_pattern_file f) ∷ (24 when bad_digits f) ∷ []) → Passes f
file_passes f e =
    let clear = clear_lowest ((23 when bad_pattern_file f) ∷ (24 when bad_digits f) ∷ []) tt (sym e) in
    (clear.0, clear.1.0)

module _ (f : List ℕ) (number modulus order challenges : ℕ) (values statement : List ℕ) where
  -- the values of the sheet that is asked for
  abbrev inst : Instance
  inst = asked f number modulus order challenges values statement

  module _ (buffer : List ℕ) where
    -- the file is refused
    pub file_refused : (refusal : Refusal) → number_of_refusal refusal ≡ lowest ((23 when bad_pattern_file f) ∷ (24 when bad_digits f) ∷ [])
        → Leaves (written (Err refusal)) buffer (make_from f number modulus order challenges values statement buffer)
    unfolding make_from make_rules
    file_refused refusal e =
        let rest = (1 when bad_asked f number values statement) ∷ made_rules values inst buffer in
        let first = lowest_earlier ((23 when bad_pattern_file f) ∷ (24 when bad_digits f) ∷ []) rest (omega (arith, e, number_positive refusal)) in
        start_refused refusal _ (sheet_of inst) buffer (e ∙ sym first)

    module _ (passes : Passes f) where
      -- the number or a count is wrong
      pub asked_refused : (pattern_count f < number) ⊎ (length values ≢ (asked_pattern f number).values) ⊎ (length statement ≢ (asked_pattern f number).rows)
          → Leaves (written (Err Pattern)) buffer (make_from f number modulus order challenges values statement buffer)
      unfolding make_from make_rules
      asked_refused bad =
          let first = pass 23 _ passes.0 ∙ pass 24 _ passes.1 ∙ stop 1 _ ((says_asked f number values statement).complete bad) in
          start_refused Pattern _ (sheet_of inst) buffer (sym first)

      -- they are right, and what is behind them is the second writer's
      pub asked_written : {given : Instance} {answer : Written} {after : List ℕ} → number ≤ pattern_count f
          → length values ≡ (asked_pattern f number).values → length statement ≡ (asked_pattern f number).rows
          → given ≡ inst → Leaves answer after (encode given buffer)
          → Leaves answer after (make_from f number modulus order challenges values statement buffer)
      asked_written few counted rowed same leaves =
          let fits = (says_false (says_asked f number values statement)).1
          (⊎_elim (λ l. omega arith) (⊎_elim (λ n. n counted) (λ n. n rowed))) in
          rw (maker_encodes f number modulus order challenges values statement passes.0 passes.1 fits buffer)
          (rw same at leaves)

-- ---- the root

module _ (modulus order challenges : ℕ) (values statement buffer : List ℕ) where
  -- what the maker answers and leaves for 0, with any file that passes
  abbrev RootLeaves : Written → List ℕ → Type 0
  RootLeaves answer after =
      ((f : List ℕ) → Passes f → answer ≡ (make_from f 0 modulus order challenges values statement buffer).answer)
      × ((f : List ℕ) → Passes f → after ≡ (make_from f 0 modulus order challenges values statement buffer).buffer)

  -- a count is wrong
  pub root_refused : (length values ≢ 0) ⊎ (length statement ≢ 1) → RootLeaves (written (Err Pattern)) buffer
  unfolding asked_pattern root
  root_refused bad = (
    λ f passes. (asked_refused f 0 modulus order challenges values statement buffer passes (inr bad)).0,
    λ f passes. (asked_refused f 0 modulus order challenges values statement buffer passes (inr bad)).1,
  )

  -- the root's sheet is written
  pub root_written : {answer : Written} {eight after : List ℕ} → length values ≡ 0 → length statement ≡ 1 → eight ≡ pad8 0 statement
      → Leaves answer after (encode (instance_with (record {
        kind = 2;
        modulus = modulus;
        order = order;
        challenges = challenges;
        rows = 1;
        columns = 1;
      }) zeros64 eight) buffer)
      → RootLeaves answer after
  unfolding asked made_for header_for asked_kind asked_pattern root
  root_written none one padded leaves = (
    λ f passes.
        (asked_written f 0 modulus order challenges values statement buffer passes (omega arith) none one (rw padded) leaves).0,
    λ f passes.
        (asked_written f 0 modulus order challenges values statement buffer passes (omega arith) none one (rw padded) leaves).1,
  )

-- ---- a pattern of the file

module _ (f : List ℕ) (number : ℕ) (some : 1 ≤ number) where
  -- the pattern of the number
  asked_listed : asked_pattern f number ≡ pattern_at f (number - 1)
  unfolding asked_pattern
  asked_listed = rw (ne_eqb number 0 (λ e. omega arith))

  module _ {at : ℕ} (here : at ≡ pattern_start f (number - 1)) {p : Sizes} (read : p ≡ sizes_at f at) where
    -- the sizes that were read are its own
    listed_sizes : (p.rows ≡ (asked_pattern f number).rows) × (p.columns ≡ (asked_pattern f number).columns)
        × (p.values ≡ (asked_pattern f number).values)
    unfolding pattern_at
    listed_sizes = rw (asked_listed, ← here) (sizes_read f at read)

    -- over as many values as it has, it stands in the file
    pub listed_stands : Passes f → number ≤ pattern_count f → (values : List ℕ) → length values ≡ p.values → Stands f at values
    listed_stands passes few values counted =
        pattern_stands f (number - 1) values here passes (omega arith) (counted ∙ rw asked_listed at listed_sizes.2)

    module _ (modulus order challenges : ℕ) (values statement buffer : List ℕ) (passes : Passes f) where
      -- a count is wrong
      pub listed_refused : (length values ≢ p.values) ⊎ (length statement ≢ p.rows)
          → Leaves (written (Err Pattern)) buffer (make_from f number modulus order challenges values statement buffer)
      listed_refused bad =
          let (rows, _, count) = listed_sizes in
          asked_refused f number modulus order challenges values statement buffer passes (inr (rw (count, rows) at bad))

      -- its sheet is written
      pub listed_written : {answer : Written} {entries : List (List ℕ)} {eight after : List ℕ} → number ≤ pattern_count f
          → length values ≡ p.values → length statement ≡ p.rows
          → entries ≡ pattern_entries (pattern_from f at) values → eight ≡ pad8 0 statement
          → Leaves answer after (encode (instance_with (record {
            kind = 1;
            modulus = modulus;
            order = order;
            challenges = challenges;
            rows = p.rows;
            columns = p.columns;
          }) entries eight) buffer)
          → Leaves answer after (make_from f number modulus order challenges values statement buffer)
      unfolding asked made_for header_for asked_kind pattern_at
      listed_written few counted rowed entered padded leaves =
          let (rows, columns, count) = listed_sizes in
          asked_written f number modulus order challenges values statement buffer passes few (counted ∙ count) (rowed ∙ rows)
          (rw (rows, columns, entered, padded, asked_listed, here, ne_eqb number 0 (λ e. omega arith))) leaves
