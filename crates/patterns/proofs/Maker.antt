-- The sheet maker behind its first three tests is the second writer: where 23, 24 and 1 do not apply, it answers and leaves what
-- `encode` does on the asked values, since 4 and 7 cannot apply then, and an entry is no group element exactly if a public
-- value is none.
-- Assumes nothing.
use Prim.Native.Nat.{ℕ, zero, suc, ◌+◌, ◌-◌, ◌*◌, ◌/◌, ◌%◌, ◌<◌, ◌≤◌}
use mathlib.Core.Path.{◌≡◌, refl, sym, ap, ◌∙◌, subst}
use mathlib.Core.Logic.{◌↔◌, ◌⊎◌, inl, inr, ⊎_elim}
use mathlib.Core.Bool.{Bool, true, false, cond}
use mathlib.Core.List.{List}
use native.Mathlib.Nat.{div-add-mod, div-lt_iff_lt-mul, mod-lt, mul_comm}
use native.Mathlib.Omega.{arith}
use lib.ListN.{length, get_or}
use borrow.Author.Tests.{ne_eqb}
use Rattle.types.specs.declared.Header.{Header}
use Rattle.lists.proofs.Member.{member_at, member_place}
use Rattle.lists.proofs.Rows.{row_within}
use Rattle.rules.specs.Call.{number_of}
use Rattle.rules.specs.Rule.{lowest}
use Rattle.rules.proofs.Call.{answer_same}
use Rattle.rules.proofs.Lowest.{pass}
use Rattle.rules.proofs.Says.{says_equal, says_false}
use Rattle.sigma.specs.Admission.{bad_entries, bad_kind, bad_modulus, bad_size, element_rules, header_rules}
use Rattle.sigma.specs.Element.{Element, some_non_element}
use Rattle.sigma.specs.Instance.{Instance, table_of, entry}
use Rattle.sigma.proofs.Calculus.{all_pass, says_stable}
use Rattle.sigma.proofs.Passed.{entries_pass, kind_passes, modulus_passes, size_passes}
use Rattle.sigma.proofs.Tests.{says_element}
use Rattle.formats.specs.Encode.{encode, encoding}
use Rattle.patterns.specs.Maker.{asked, asked_kind, asked_pattern, bad_asked, made_rules, make_from, make_rules}
use Rattle.patterns.specs.Pattern.{Pattern, digit, entry_of, header_for, made_for, root}
use Rattle.patterns.specs.PatternCalls.{Named, Sized}
use Rattle.patterns.specs.PatternFile.{bad_digits, bad_pattern_file, pattern_at, pattern_count}
use Rattle.patterns.proofs.Files.{Filed, named, passes_23}
use Rattle.patterns.proofs.Sheets.{entry_of_element, entry_of_value, made_entry}
use Rattle.patterns.proofs.Tests.{says_24, says_asked}

-- ---- what the maker uses of a pattern

-- one to eight rows and columns, digits that are at most the number of values, and a digit for each value
pub record Usable (p : Pattern) : Type 0 where
  pub rows : (1 ≤ p.rows) × (p.rows ≤ 8)
  pub columns : (1 ≤ p.columns) × (p.columns ≤ 8)
  pub digits : (r c : ℕ) → r < p.rows → c < p.columns → digit p r c ≤ p.values
  pub named : (v : ℕ) → v < p.values
      → (r : ℕ) × (r < p.rows) × ((c : ℕ) × (c < p.columns) × (digit p r c ≡ suc v))

-- the kind that a pattern's sheets can have: 1, or 2 where it has as many columns as rows and no values
abbrev pub Suits : ℕ → Pattern → Type 0
Suits kind p = (kind ≡ 1) ⊎ ((kind ≡ 2) × (p.rows ≡ p.columns) × (p.values ≡ 0))

-- the root is used so
root_usable : Usable root
unfolding root digit
root_usable = record {
  rows = (omega arith, omega arith);
  columns = (omega arith, omega arith);
  digits = λ r c a b. omega arith;
  named = λ v below. absurd (omega arith);
}

-- so is a pattern of right size to which 24 does not apply
named_usable : (p : Pattern) → Sized p → Named p → Usable p
unfolding digit
named_usable p s names =
    let size = s.digits in
    let area = mul_comm p.rows p.columns in
    record {
      rows = s.rows;
      columns = s.columns;
      digits = λ r c a b.
          names.digits _ (member_at 0 p.digits (p.columns * r + c) (omega (arith, row_within p.columns r p.rows a)));
      named = λ v below.
          let (d, inside, e) = member_place 0 (suc v) p.digits (names.values (suc v) (omega arith) below) in
          let row : d / p.columns < p.rows = (div-lt_iff_lt-mul s.columns.0).1 (omega arith) in
          let place : p.columns * (d / p.columns) + d % p.columns ≡ d = div-add-mod d p.columns in
          (d / p.columns, row, (d % p.columns, mod-lt d s.columns.0, ap (λ (k : ℕ). get_or p.digits k 0) place ∙ sym e));
    }

-- ---- the tests of a made sheet

-- not 10: every public value is a group element
values_pass : (h : Header) (values : List ℕ)
    → (some_non_element h (length values) values ≡ false) ↔ ((j : ℕ) → j < length values → Element h (get_or values j 0))
unfolding some_non_element
values_pass h values = all_pass _ _ _ (λ j. says_element h (get_or values j 0))

-- tests that fail together are the same
both_ways : (a b : Bool) → (a ≡ false → b ≡ false) → (b ≡ false → a ≡ false) → a ≡ b
both_ways true true f g = refl
both_ways true false f g = g refl
both_ways false b f g = sym (f refl)

-- where a test passes, what is behind it counts
cond_behind : (b : Bool) (n x y : ℕ) → (b ≡ false → x ≡ y) → cond b n x ≡ cond b n y
cond_behind true n x y f = refl
cond_behind false n x y f = f refl

module _ (kind : ℕ) (p : Pattern) (modulus order challenges : ℕ) (values statement : List ℕ) (usable : Usable p)
    (suits : Suits kind p) (counted : length values ≡ p.values) where
  -- the values that the maker writes
  abbrev inst : Instance
  inst = made_for kind p modulus order challenges values statement

  -- 4 does not apply
  kind_right : bad_kind inst.header ≡ false
  unfolding made_for header_for
  kind_right = (kind_passes inst.header).1 (⊎_elim (λ one. inl one) (λ two. inr two.0) suits)

  -- 7 does not apply
  size_right : bad_size inst.header ≡ false
  unfolding made_for header_for
  size_right =
      let (a, b) = usable.rows in
      let (c, d) = usable.columns in
      let square : kind ≡ 2 → p.rows ≡ p.columns = λ two. ⊎_elim (λ one. absurd (omega arith)) (λ other. other.1) suits in
      (size_passes inst.header).1 (a, b, c, d, square)

  -- a value's position stands among the digits of a sheet of kind 1
  value_used : (j : ℕ) → j < length values → (kind ≡ 1)
      × ((r : ℕ) × (r < p.rows) × ((c : ℕ) × (c < p.columns) × (entry (table_of inst) r c ≡ get_or values j 0)))
  value_used j within =
      let one : kind ≡ 1 = ⊎_elim (λ e. e) (λ other. let none = other.2 in absurd (omega arith)) suits in
      let (r, a, (c, b, named)) = usable.named j (omega arith) in
      let same =
      made_entry kind p modulus order challenges values statement one r c a b ∙ ap (entry_of values) named ∙ entry_of_value values j in
      (one, (r, a, (c, b, same)))

  -- 10 of the entries is 10 of the public values
  values_tested : 3 ≤ modulus → bad_entries inst ≡ some_non_element inst.header (length values) values
  unfolding made_for header_for
  values_tested large =
      let entries = entries_pass inst in
      let elements = values_pass inst.header values in
      both_ways (bad_entries inst) (some_non_element inst.header (length values) values)
      (λ e. elements.1
      (λ j within.
      let (one, (r, a, (c, b, same))) = value_used j within in
      rw same at (entries.0 e one r c a b)))
      (λ e. entries.1
      (λ one r c a b.
      rw (made_entry kind p modulus order challenges values statement one r c a b)
      (entry_of_element inst.header values _ large (elements.0 e) (omega (arith, usable.digits r c a b)))))

  -- behind the tests of number and counts, the maker's number is the second writer's
  pub made_rules_law : (buffer : List ℕ) → lowest (made_rules values inst buffer) ≡ lowest (encoding inst buffer).refusals
  unfolding lowest made_rules encoding header_rules element_rules made_for header_for
  made_rules_law buffer =
      rw kind_right
      (cond_behind (bad_modulus inst.header) _ _ _
      (λ e. rw (values_tested ((modulus_passes inst.header).0 e), size_right)))

-- ---- what is asked of a file

module _ (f : List ℕ) where
  -- 0 asks for the root, in kind 2
  pub asked_root : (asked_kind 0 ≡ 2) × (asked_pattern f 0 ≡ root)
  unfolding asked_kind asked_pattern
  asked_root = (refl, refl)

  -- any other number asks for the file's pattern of that number, from 1, in kind 1
  pub asked_pattern_law : (k : ℕ) → (asked_kind (suc k) ≡ 1) × (asked_pattern f (suc k) ≡ pattern_at f k)
  unfolding asked_kind asked_pattern
  asked_pattern_law k =
      let other = ne_eqb (suc k) 0 (λ (z : suc k ≡ 0). omega arith) in
      let e : suc k - 1 ≡ k = omega arith in
      (rw other, rw other (ap (pattern_at f) e))

  -- what is asked of a file to which 23 and 24 do not apply can be used
  asked_usable : Filed f → bad_digits f ≡ false → (number : ℕ) → number ≤ pattern_count f
      → Usable (asked_pattern f number) × Suits (asked_kind number) (asked_pattern f number)
  unfolding root
  asked_usable filed digits zero few = (
    subst Usable (sym asked_root.1) root_usable,
    inr (asked_root.0, rw asked_root.1, rw asked_root.1),
  )
  asked_usable filed digits (suc k) few =
      let sized = filed.sizes k few in
      let names = (named (pattern_at f k) sized).0 (λ bad. (says_false (says_24 f)).0 digits (k, few, bad)) in (
        subst Usable (sym (asked_pattern_law k).1) (named_usable (pattern_at f k) sized names),
        inl (asked_pattern_law k).0,
      )

-- not 1: the number is at most the file's count, and the counts of values are the pattern's
pub asked_passes : (f : List ℕ) (number : ℕ) (values statement : List ℕ) → bad_asked f number values statement ≡ false
    → (number ≤ pattern_count f) × (length values ≡ (asked_pattern f number).values)
    × (length statement ≡ (asked_pattern f number).rows)
asked_passes f number values statement e =
    let none = (says_false (says_asked f number values statement)).0 e in
    let few : ¬ (pattern_count f < number) = λ l. none (inl l) in (
      omega arith,
      says_stable (says_equal _ _) (λ n. none (inr (inl n))),
      says_stable (says_equal _ _) (λ n. none (inr (inr n))),
    )

-- ---- the maker

-- where 23, 24 and 1 do not apply, the maker answers and leaves what the second writer does
pub maker_encodes : (f : List ℕ) (number modulus order challenges : ℕ) (values statement : List ℕ)
    → bad_pattern_file f ≡ false → bad_digits f ≡ false → bad_asked f number values statement ≡ false → (buffer : List ℕ)
    → make_from f number modulus order challenges values statement buffer
    ≡ encode (asked f number modulus order challenges values statement) buffer
unfolding make_from encode encoding make_rules asked number_of
maker_encodes f number modulus order challenges values statement filed digits fits buffer =
    let inst = asked f number modulus order challenges values statement in
    let (few, counted, rowed) = asked_passes f number values statement fits in
    let (usable, suits) = asked_usable f ((passes_23 f).0 filed) digits number few in
    answer_same _ _
    (pass 23 _ filed ∙ pass 24 _ digits ∙ pass 1 _ fits
    ∙ made_rules_law (asked_kind number) (asked_pattern f number) modulus order challenges values statement usable suits counted buffer)
    refl refl
