-- An array of 64 places that keeps what is read of the items of a list, and what is read of none beyond them: a loop that adds an item
-- to the list and stores what is read of it.
-- Assumes nothing.
use Prim.Native.Nat.{ℕ, zero, suc, ◌<◌}
use mathlib.Core.Path.{◌≡◌, refl, sym, ap, ◌∙◌}
use mathlib.Core.Logic.{◌≢◌}
use mathlib.Core.List.{List, [], ◌∷◌, ◌++◌}
use native.Mathlib.Decide.{ℕ_discrete}
use native.Mathlib.Omega.{arith}
use lib.ListN.{get_or, length, length-replicate, length-set, replicate, set}
use lib.Seq.{get_or_at, get_or-set_other, get_or-set_same}

-- copies of d and what lies beyond them are read as d
get_d_copies : {A : Type 0} (n : ℕ) (d : A) (k : ℕ) → get_or (replicate n d) k d ≡ d
get_d_copies zero d k = refl
get_d_copies (suc n) d zero = refl
get_d_copies (suc n) d (suc k) = get_d_copies n d k

-- an item more is not read at another place
get_d_others : {A : Type 0} (xs : List A) (x d : A) (k : ℕ) → k ≢ length xs → get_or (xs ++ x ∷ []) k d ≡ get_or xs k d
get_d_others [] x d zero other = absurd (other refl)
get_d_others [] x d (suc k) other = refl
get_d_others (y ∷ ys) x d zero other = refl
get_d_others (y ∷ ys) x d (suc k) other = get_d_others ys x d k (λ e. other (ap suc e))

-- the array keeps what f reads of the items; d stands beyond the list's end, and e beyond the array's
pub record Kept {A B : Type 0} (d : A) (e : B) (f : A → B) (array : List B) (xs : List A) : Type 0 where
  pub room : length array ≡ 64
  pub read : (k : ℕ) → get_or array k e ≡ f (get_or xs k d)

module _ {A B : Type 0} (d : A) (e : B) (f : A → B) where
  -- before the first item
  pub kept_start : f d ≡ e → Kept d e f (replicate 64 e) []
  kept_start none = record { room = length-replicate {A = B} 64 e; read = λ k. get_d_copies 64 e k ∙ sym none }

  -- an item more
  pub kept_turn : (array : List B) (xs : List A) (i : ℕ) → Kept d e f array xs → length xs ≡ i → i < 64
      → (x : A) (value : B) → value ≡ f x → Kept d e f (set array i value) (xs ++ x ∷ [])
  kept_turn array xs i kept long inside x value is = record {
    room = length-set array i value ∙ kept.room;
    read = λ k. elim (ℕ_discrete k i) [
      | yes same ↦
          let within : k < length array = omega (arith, kept.room) in
          ap (λ (j : ℕ). get_or (set array j value) k e) (sym same) ∙ get_or-set_same array k value e within ∙ is
          ∙ sym (ap f (get_or_at xs x [] d k (long ∙ sym same)))
      | no other ↦
          get_or-set_other array i k value e other ∙ kept.read k
          ∙ sym (ap f (get_d_others xs x d k (λ at_end. other (at_end ∙ long))))
    ];
  }
