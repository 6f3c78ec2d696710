-- Bytes of which a slice takes what it has room for: one text after another, the same by another name, and a text that has room.
-- Assumes nothing.
use Prim.Native.Nat.{ℕ, ◌+◌, ◌-◌, ◌≤◌, min}
use mathlib.Core.Path.{◌≡◌, refl, ap, sym, ◌∙◌}
use mathlib.Core.List.{List, [], ◌++◌}
use native.Mathlib.Decide.{dec_lt}
use native.Mathlib.Omega.{arith}
use lib.ListN.{length, length-append, length-take, take}
use lib.Seq.{length-sets, sets, take_all}
use Rattle.encoding.specs.Placed.{Fitted, Placed}
use Rattle.encoding.proofs.Replaced.{sets_fitting, sets_out, sets_sets}

-- the first k bytes stored are the bytes that have room, if these are k
pub fitted_first : {l m : List ℕ} {at j : ℕ} (xs : List ℕ) (k : ℕ) → m ≡ sets l at (take k xs) → k ≡ min (length l - at) (length xs)
    → j ≡ at + k → Fitted l at xs m j
fitted_first {l} {m} {at} {j} xs k stored count end =
    let same : take k xs ≡ take (length l - at) xs =
    elim (dec_lt (length l - at) (length xs)) [
      | yes over ↦ ap (λ (n : ℕ). take n xs) {x = k} {y = length l - at} (omega arith)
      | no fits ↦ take_all k xs (omega arith) ∙ sym (take_all (length l - at) xs (omega arith))
    ] in
    record {
      placed = record { stored = stored ∙ ap (sets l at) same; behind = omega (arith, length-take (length l - at) xs) };
    }

-- no bytes
pub fitted_none : (l : List ℕ) (at : ℕ) → Fitted l at [] l at
fitted_none l at = fitted_first [] 0 refl (omega arith) (omega arith)

module _ {l : List ℕ} {at : ℕ} {xs m : List ℕ} {i : ℕ} (fitted : Fitted l at xs m i) where
  -- what is stored
  fitted_stored : m ≡ sets l at xs
  fitted_stored = fitted.placed.stored ∙ sets_fitting l at xs

  -- the length stays
  fitted_length : length m ≡ length l
  fitted_length = ap length fitted_stored ∙ length-sets l at xs

  -- they end inside
  pub fitted_inside : at ≤ length l → i ≤ length m
  fitted_inside inside = omega (arith, fitted.placed.behind, length-take (length l - at) xs, fitted_length)

  -- if they have room, all are placed
  pub fitted_whole : at + length xs ≤ length l → Placed l at xs m i
  fitted_whole room = rw (take_all (length l - at) xs (omega arith)) at fitted.placed

  -- beyond the end nothing is stored of any bytes
  pub fitted_out : length l ≤ at → (ys : List ℕ) → Fitted l at ys m i
  fitted_out past ys =
      let none : length l - at ≡ 0 = omega arith in
      record { placed = rw none (rw none at fitted.placed) }

  -- bytes by another name
  pub fitted_as : {ys : List ℕ} → ys ≡ xs → Fitted l at ys m i
  fitted_as same = rw same fitted

  -- other bytes straight after these are fitted as one with them
  pub fitted_then : {ys n : List ℕ} {j : ℕ} → Fitted m i ys n j → Fitted l at (xs ++ ys) n j
  fitted_then {ys} {n} {j} second =
      let k = length l - at in
      let first_size = length-take k xs in
      let second_size = length-take (length m - i) ys in
      let both_size = length-take k (xs ++ ys) in
      let whole_size = length-append xs ys in
      let after : n ≡ sets (sets l at xs) i ys =
      second.placed.stored ∙ sets_fitting m i ys ∙ ap (λ (b : List ℕ). sets b i ys) fitted_stored in
      let same : sets (sets l at xs) i ys ≡ sets (sets l at xs) (at + length xs) ys =
      elim (dec_lt k (length xs)) [
        | yes over ↦
            sets_out (sets l at xs) i ys (omega (arith, fitted.placed.behind, length-sets l at xs))
            ∙ sym (sets_out (sets l at xs) (at + length xs) ys (omega (arith, length-sets l at xs)))
        | no fits ↦ ap (λ (e : ℕ). sets (sets l at xs) e ys) (omega (arith, fitted.placed.behind))
      ] in
      record {
        placed = record {
          stored = after ∙ same ∙ sets_sets l at xs ys ∙ sym (sets_fitting l at (xs ++ ys));
          behind = omega (arith, fitted.placed.behind, second.placed.behind, fitted_length);
        };
      }

-- a text at the start that is no longer than the slice is stored whole
pub fitted_start : {l text m : List ℕ} {r : ℕ} → Fitted l 0 text m r → length text ≤ length l
    → (r ≤ length m) × ((r ≡ length text) × (m ≡ sets l 0 text))
fitted_start fitted room =
    let whole = fitted_whole fitted (omega arith) in
    (fitted_inside fitted (omega arith), (omega (arith, whole.behind), whole.stored))
