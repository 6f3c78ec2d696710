-- Text in a slice: a word byte by byte and in one step, and a number digit by digit.
-- Assumes nothing.
use Prim.Native.Nat.{ℕ, ◌+◌, ◌-◌, ◌/◌, ◌%◌, ◌≤◌, ◌<◌}
use mathlib.Core.Path.{◌≡◌, refl, sym, ap, ◌∙◌}
use mathlib.Core.List.{List, [], ◌∷◌, ◌++◌, append_assoc}
use native.Mathlib.Numerals.{add-one}
use native.Mathlib.Omega.{arith}
use lib.ListN.{length, get_or, take, drop, set}
use lib.Seq.{sets, sets-eq, drop-drop, take_all, take-suc, length-take-le}
use borrow.Rule.Slice.PartMut.{put_mid}
use Rattle.encoding.specs.Placed.{Fitted, Placed}
use Rattle.encoding.specs.Text.{decimal}
use Rattle.encoding.proofs.Fitted.{fitted_as, fitted_then}
use Rattle.encoding.proofs.Replaced.{sets_sets}
use Rattle.encoding.proofs.Text.{decimal_small, decimal_large}

-- the first i bytes of a word stored, and then the next straight behind, are the first i + 1 stored
pub byte_stored : (l word : List ℕ) (at i : ℕ) → i < length word
    → set (sets l at (take i word)) (at + i) (get_or word i 0) ≡ sets l at (take (i + 1) word)
byte_stored l word at i h =
    let size : length (take i word) ≡ i = length-take-le i word (omega arith) in
    let next = get_or word i 0 in
    rw (add-one i, take-suc word i 0 h)
    (ap (λ (k : ℕ). sets (sets l at (take i word)) (at + k) (next ∷ [])) {y = length (take i word)} (omega arith)
    ∙ sets_sets l at (take i word) (next ∷ []))

-- all bytes of a word stored are the word placed
pub word_placed : {l word m : List ℕ} {at i : ℕ} → m ≡ sets l at (take i word) → length word ≤ i
    → Placed l at word m (at + length word)
word_placed {word = word} {i = i} stored whole = record { stored = rw (take_all i word whole) at stored; behind = refl }

-- a word copied into its part of a list is the word stored
pub word_stored : (l word m : List ℕ) (at : ℕ) → at + length word ≤ length l → m ≡ word
    → put_mid at (at + length word - at) l m ≡ sets l at word
word_stored l word m at room copied =
    let rest : drop (at + length word - at) (drop at l) ≡ drop (at + length word) l =
    drop-drop _ at l ∙ ap (λ (k : ℕ). drop k l) {x = at + (at + length word - at)} {y = at + length word} (omega arith) in
    rw (copied, sets-eq word l at room)
    (ap (λ (ys : List ℕ). take at l ++ (word ++ ys)) rest ∙ sym (append_assoc (take at l) word (drop (at + length word) l)))

-- a word that has room
pub word_fitted : {l word m : List ℕ} {at r : ℕ} → at + length word ≤ length l → Placed l at word m r → Fitted l at word m r
word_fitted {l} {word} {at = at} room placed = record { placed = rw (take_all (length l - at) word (omega arith)) placed }

-- the digit of a number below 10 is the number
pub digit_fitted : {l m : List ℕ} {at j n : ℕ} → n < 10 → Fitted l at ((48 + n) ∷ []) m j → Fitted l at (decimal n) m j
digit_fitted {n = n} small digit = fitted_as digit (decimal_small n small)

-- the last digit after the tenth of a number is the number
pub tenth_fitted : {l m k : List ℕ} {at i j n : ℕ} → 10 ≤ n → Fitted l at (decimal (n / 10)) m i
    → Fitted m i ((48 + n % 10) ∷ []) k j → Fitted l at (decimal n) k j
tenth_fitted {n = n} large tenth digit = fitted_as (fitted_then tenth digit) (decimal_large n large)
