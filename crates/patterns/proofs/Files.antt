-- Where the patterns of a file stand, what a file gives to which 23 does not apply, and what 24 leaves of a pattern.
-- Assumes nothing.
use Prim.Native.Nat.{ℕ, zero, suc, ◌+◌, ◌*◌, ◌<◌, ◌≤◌}
use mathlib.Core.Path.{◌≡◌, refl, sym, ap, subst}
use mathlib.Core.Logic.{◌↔◌, inl, inr, ⊎_elim}
use mathlib.Core.Bool.{false}
use mathlib.Core.List.{List}
use native.Mathlib.Nat.{eq-or-lt_of_le}
use native.Mathlib.Omega.{arith}
use lib.ListN.{length, get_or}
use Rattle.lists.specs.Member.{Member}
use Rattle.lists.proofs.Member.{member_at, member_place}
use Rattle.lists.proofs.Places.{length_tabulate}
use Rattle.rules.proofs.Says.{says_elim, says_equal, says_false}
use Rattle.sigma.specs.Reads.{Agree}
use Rattle.sigma.proofs.Calculus.{says_any, says_stable}
use Rattle.patterns.specs.Pattern.{Pattern}
use Rattle.patterns.specs.PatternCalls.{Named, Sized}
use Rattle.patterns.specs.PatternFile.{
  bad_pattern_file,
  pattern_at,
  pattern_count,
  pattern_end,
  pattern_from,
  pattern_mark,
  pattern_start,
  pattern_version,
}
use Rattle.patterns.specs.Refusals.{Misnamed, Missized, Refusal23}
use Rattle.patterns.proofs.Tests.{says_23}

-- ---- where patterns begin and end

module _ (f : List ℕ) where
  -- the first begins behind mark, version and count
  pub start_first : pattern_start f 0 ≡ 6
  unfolding pattern_start
  start_first = refl

  -- the next begins behind three bytes and rows × columns digits
  pub start_next : (k : ℕ) → pattern_start f (suc k) ≡ pattern_start f k + 3 + (pattern_at f k).rows * (pattern_at f k).columns
  unfolding pattern_start pattern_end pattern_at pattern_from
  start_next k = refl

  -- that is at least three further
  pub start_step : (k : ℕ) → pattern_start f k + 3 ≤ pattern_start f (suc k)
  start_step k = omega (arith, start_next k)

  -- a later pattern does not begin before an earlier one
  pub start_rises : (k n : ℕ) → k ≤ n → pattern_start f k ≤ pattern_start f n
  start_rises k zero h = omega (arith, ap (pattern_start f) {x = k} {y = 0} (omega arith))
  start_rises k (suc n) h = elim (eq-or-lt_of_le h) [
    | inl same ↦ omega (arith, ap (pattern_start f) same)
    | inr less ↦ omega (arith, start_rises k n (omega arith), start_step n)
  ]

  -- a pattern has as many digits as rows × columns
  pub pattern_digits : (k : ℕ) → length (pattern_at f k).digits ≡ (pattern_at f k).rows * (pattern_at f k).columns
  unfolding pattern_at pattern_from
  pattern_digits k = length_tabulate _ _

-- ---- what 23 leaves

-- a pattern whose sizes lie in 1 to 8
sized : (p : Pattern) → length p.digits ≡ p.rows * p.columns → ¬ Missized p → Sized p
sized p digits right =
    let a : ¬ (p.rows < 1) = λ l. right (inl l) in
    let b : ¬ (8 < p.rows) = λ l. right (inr (inl l)) in
    let c : ¬ (p.columns < 1) = λ l. right (inr (inr (inl l))) in
    let d : ¬ (8 < p.columns) = λ l. right (inr (inr (inr (inl l)))) in
    let e : ¬ (p.values < 1) = λ l. right (inr (inr (inr (inr (inl l))))) in
    let g : ¬ (8 < p.values) = λ l. right (inr (inr (inr (inr (inr l))))) in
    record {
      rows = (omega arith, omega arith);
      columns = (omega arith, omega arith);
      values = (omega arith, omega arith);
      digits = digits;
    }

-- sizes that lie in 1 to 8 are not outside
pub not_missized : (p : Pattern) → Sized p → ¬ Missized p
not_missized p s =
    let (a, b) = s.rows in
    let (c, d) = s.columns in
    let (e, g) = s.values in
    ⊎_elim (λ l. omega arith)
    (⊎_elim (λ l. omega arith)
    (⊎_elim (λ l. omega arith) (⊎_elim (λ l. omega arith) (⊎_elim (λ l. omega arith) (λ l. omega arith)))))

-- what a file gives to which 23 does not apply
pub record Filed (f : List ℕ) : Type 0 where
  pub long : 6 ≤ length f
  pub mark : Agree 3 f pattern_mark
  pub version : pattern_version f ≡ 1
  pub some : 1 ≤ pattern_count f
  pub few : pattern_count f ≤ 32
  pub sizes : (k : ℕ) → k < pattern_count f → Sized (pattern_at f k)
  pub exact : length f ≡ pattern_start f (pattern_count f)

-- 23 does not apply exactly where all of it holds
pub not_23 : (f : List ℕ) → (¬ Refusal23 f) ↔ Filed f
not_23 f = (
  λ none.
      let short : ¬ (length f < 6) = λ l. none (inl l) in
      let empty : ¬ (pattern_count f < 1) = λ l. none (inr (inr (inr (inl l)))) in
      let many : ¬ (32 < pattern_count f) = λ l. none (inr (inr (inr (inr (inl l))))) in
      record {
        long = omega arith;
        mark = λ j b. says_stable (says_equal _ _) (λ n. none (inr (inl (j, b, n))));
        version = says_stable (says_equal _ _) (λ n. none (inr (inr (inl n))));
        some = omega arith;
        few = omega arith;
        sizes = λ k b. sized (pattern_at f k) (pattern_digits f k) (λ bad. none (inr (inr (inr (inr (inr (inl (k, b, bad))))))));
        exact = says_stable (says_equal _ _) (λ n. none (inr (inr (inr (inr (inr (inr n)))))));
      },
  λ filed.
      let long = filed.long in
      let some = filed.some in
      let few = filed.few in
      ⊎_elim (λ l. omega arith)
      (⊎_elim (λ (j, b, n). n (filed.mark j b))
      (⊎_elim (λ n. n filed.version)
      (⊎_elim (λ l. omega arith)
      (⊎_elim (λ l. omega arith)
      (⊎_elim (λ (k, b, bad). not_missized (pattern_at f k) (filed.sizes k b) bad) (λ n. n filed.exact)))))),
)

-- a file whose test of 23 is false
pub passes_23 : (f : List ℕ) → (bad_pattern_file f ≡ false) ↔ Filed f
passes_23 f =
    let test = says_false (says_23 f) in
    (λ e. (not_23 f).0 (test.0 e), λ filed. test.1 ((not_23 f).1 filed))

-- a pattern of such a file ends within it
pub start_within : {f : List ℕ} → Filed f → (k : ℕ) → k ≤ pattern_count f → pattern_start f k ≤ length f
start_within {f} filed k h = omega (arith, filed.exact, start_rises f k (pattern_count f) h)

-- ---- what 24 leaves

-- 24 is not about a pattern exactly where its digits are at most the number of values and name each value
pub named : (p : Pattern) → Sized p → (¬ Misnamed p) ↔ Named p
named p s =
    let size = s.digits in (
      λ right. record {
        digits = λ d m.
            let (j, b, e) = member_place 0 d p.digits m in
            let small : ¬ (p.values < get_or p.digits j 0) = λ above. right (inl (j, omega arith, above)) in
            omega arith;
        values = λ v low high.
            says_elim (says_any (p.rows * p.columns) _ _ (λ d. says_equal (get_or p.digits d 0) v))
            (λ (d, b, e). subst (λ (n : ℕ). Member n p.digits) e (member_at 0 p.digits d (omega arith)))
            (λ none. absurd (right (inr (v, low, high, λ d b e. none (d, b, e)))));
      },
      λ names.
          ⊎_elim
          (λ (d, b, above).
          let small = names.digits (get_or p.digits d 0) (member_at 0 p.digits d (omega arith)) in
          omega arith)
          (λ (v, low, high, none).
          let (j, b, e) = member_place 0 v p.digits (names.values v low high) in
          none j (omega arith) (sym e)),
    )
