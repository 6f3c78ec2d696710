-- A word for each number below n that passes a test, one behind the other: one number more, how long they are at most, and other words
-- that are equal.
-- Assumes nothing.
use Prim.Native.Nat.{ℕ, zero, suc, ◌*◌, ◌≤◌, ◌<◌}
use mathlib.Core.Path.{◌≡◌, refl, ap, ap₂, ◌∙◌}
use mathlib.Core.Bool.{Bool, true, false, cond}
use mathlib.Core.List.{List, [], ◌∷◌, ◌++◌, append-nil, flatten, map, map-append}
use mathlib.Core.Logic.{inl, inr}
use native.Mathlib.Omega.{arith}
use lib.ListN.{length, length-append}
use Rattle.lists.specs.Choices.{selected}
use Rattle.lists.specs.Member.{Member}
use Rattle.lists.proofs.Rows.{flatten_append}

module _ {A : Type 0} (word : ℕ → List A) where
  -- no number
  pub words_zero : (p : ℕ → Bool) → flatten (map word (selected 0 p)) ≡ []
  unfolding selected flatten
  words_zero p = refl

  -- a number that passes or does not
  word_if : (b : Bool) (n : ℕ) → flatten (map word (cond b (n ∷ []) [])) ≡ cond b (word n) []
  unfolding flatten
  word_if true n = append-nil (word n)
  word_if false n = refl

  -- one number more
  pub words_suc : (n : ℕ) (p : ℕ → Bool) → flatten (map word (selected (suc n) p)) ≡ flatten (map word (selected n p)) ++ cond (p n) (word n) []
  unfolding selected
  words_suc n p =
      ap flatten (map-append word (selected n p) (cond (p n) (n ∷ []) []))
      ∙ flatten_append (map word (selected n p)) (map word (cond (p n) (n ∷ []) []))
      ∙ ap (λ (last : List A). flatten (map word (selected n p)) ++ last) (word_if (p n) n)

  module _ (most : ℕ) where
    -- the last word
    last_short : (b : Bool) (n : ℕ) → length (word n) ≤ most → length (cond b (word n) []) ≤ most
    last_short true n short = short
    last_short false n short = omega arith

    -- words of so many items at most
    pub words_short : (n : ℕ) (p : ℕ → Bool) → ((v : ℕ) → v < n → length (word v) ≤ most)
        → length (flatten (map word (selected n p))) ≤ most * n
    words_short zero p short = rw (words_zero p) (omega arith)
    words_short (suc n) p short =
        rw (words_suc n p, length-append (flatten (map word (selected n p))) (cond (p n) (word n) []))
        (omega (arith, words_short n p (λ v h. short v (omega arith)), last_short (p n) n (short n (omega arith))))

  -- other words that are equal for the members of a list
  pub words_agree : (other : ℕ → List A) (xs : List ℕ) → ((v : ℕ) → Member v xs → word v ≡ other v)
      → flatten (map word xs) ≡ flatten (map other xs)
  unfolding flatten
  words_agree other [] same = refl
  words_agree other (x ∷ xs) same =
      ap₂ (λ (a b : List A). a ++ b) (same x (inl refl)) (words_agree other xs (λ v m. same v (inr m)))
