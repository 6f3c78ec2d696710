-- The table of the smallest roots, filled from below.
-- Assumes nothing.
use Prim.Native.Nat.{ℕ, ◌+◌, ◌%◌, ◌^◌, ◌≤◌, ◌<◌}
use mathlib.Core.Path.{◌≡◌, refl, sym, ap, ◌∙◌, subst}
use mathlib.Core.Bool.{true, false, and-false}
use mathlib.Core.Logic.{◌≢◌}
use mathlib.Core.List.{List}
use native.Mathlib.Decide.{dec_lt, ℕ_discrete}
use native.Mathlib.Omega.{arith}
use borrow.Author.Tests.{eq-eqb, ne_eqb}
use lib.ListN.{get_or, length-set, set}
use lib.Seq.{get_or-set_other, get_or-set_same}
use Rattle.types.specs.declared.Header.{Header}
use Rattle.sigma.specs.Element.{is_element}
use Rattle.sigma.proofs.Tests.{says_element}
use Rattle.solver.specs.Prepared.{RootAt, Roots, is_root}

module _ (h : Header) where
  -- a number that is no group element is no root
  no_element : (v r : ℕ) → is_element h r ≡ false → is_root h v r ≡ false
  unfolding is_root
  no_element v r fails = rw fails

  -- one with another power is none of v
  other_power : (v r : ℕ) → r ^ h.order % h.modulus ≢ v → is_root h v r ≡ false
  unfolding is_root
  other_power v r other = rw (ne_eqb (r ^ h.order % h.modulus) v other) (and-false (is_element h r))

  -- 0 is no group element
  no_zero : (r : ℕ) → is_element h r ≡ true → r ≢ 0
  no_zero r passes e = omega (arith, ((says_element h r).sound passes).positive)

  -- a group element is a root of its power
  own_power : (r : ℕ) → is_element h r ≡ true → is_root h (r ^ h.order % h.modulus) r ≡ true
  unfolding is_root
  own_power r passes = rw passes (eq-eqb (r ^ h.order % h.modulus) (r ^ h.order % h.modulus) refl)

  -- what is held for v stays if the next number is no root of v, or if a root is held
  stays : (n v held : ℕ) → (held ≡ 0 → is_root h v n ≡ false) → RootAt h n v held → RootAt h (n + 1) v held
  stays n v held fails before = record {
    none = λ e r below. elim (dec_lt r n) [
      | yes earlier ↦ before.none e r earlier
      | no late ↦ ap (is_root h v) {y = n} (omega arith) ∙ fails e
    ];
    root = before.root;
    least = before.least;
  }

  module _ (n : ℕ) (table : List ℕ) (before : Roots h n table) where
    -- a number that is no group element changes nothing
    pub roots_on : is_element h n ≡ false → Roots h (n + 1) table
    roots_on fails = record {
      size = before.size;
      each = λ v b. stays n v (get_or table v 0) (λ e. no_element v n fails) (before.each v b);
    }

    module _ (w : ℕ) (power : w ≡ n ^ h.order % h.modulus) where
      -- nor does one in whose place a root stands
      pub roots_kept : get_or table w 0 ≢ 0 → Roots h (n + 1) table
      roots_kept held = record {
        size = before.size;
        each = λ v b.
            stays n v (get_or table v 0)
            (λ e. other_power v n (λ same. held (ap (λ (k : ℕ). get_or table k 0) (power ∙ same) ∙ e)))
            (before.each v b);
      }

      -- the first root of its power is put there
      pub roots_here : w < h.modulus → h.modulus < 32768 → is_element h n ≡ true → get_or table w 0 ≡ 0 → Roots h (n + 1) (set table w n)
      roots_here inside room passes free = record {
        size = length-set table w n ∙ before.size;
        each = λ v b. elim (ℕ_discrete v w) [
          | yes same ↦
              let held : get_or (set table w n) v 0 ≡ n =
              ap (λ (k : ℕ). get_or (set table w n) k 0) same ∙ get_or-set_same table w n 0 (omega (arith, before.size)) in
              let earlier : (r : ℕ) → r < n → is_root h v r ≡ false =
              (before.each v b).none (ap (λ (k : ℕ). get_or table k 0) same ∙ free) in
              let is_root_law : is_root h v n ≡ true =
              subst (λ (u : ℕ). is_root h u n ≡ true) (sym (same ∙ power)) (own_power n passes) in
              subst (λ (k : ℕ). RootAt h (n + 1) v k) (sym held) (first v earlier is_root_law)
          | no other ↦
              subst (λ (k : ℕ). RootAt h (n + 1) v k) (sym (get_or-set_other table w v n 0 other))
              (stays n v (get_or table v 0) (λ e. other_power v n (λ same. other (sym (power ∙ same)))) (before.each v b))
        ];
      }
        where
          first : (v : ℕ) → ((r : ℕ) → r < n → is_root h v r ≡ false) → is_root h v n ≡ true → RootAt h (n + 1) v n
          first v earlier is_root_law = record {
            none = λ e r below. absurd (no_zero n passes e);
            root = λ some. is_root_law;
            least = λ some. earlier;
          }

  -- if no number is left, all were tried
  pub roots_all : (n : ℕ) (table : List ℕ) → h.modulus ≤ n → Roots h n table → Roots h h.modulus table
  roots_all n table past roots = record {
    size = roots.size;
    each = λ v b. record {
      none = λ e r below. (roots.each v b).none e r (omega arith);
      root = (roots.each v b).root;
      least = (roots.each v b).least;
    };
  }
