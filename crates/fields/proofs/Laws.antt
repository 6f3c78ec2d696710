-- What the functions on fields leave to show, over plain values: a number and its bytes, one word more of a run, and the bytes of
-- a mark.
-- Assumes nothing.
use Prim.Native.Nat.{ℕ, ◌+◌, ◌-◌, ◌*◌, ◌/◌, ◌%◌, ◌^◌, ◌≤◌}
use mathlib.Core.Path.{◌≡◌, refl, sym, ap, ap₂, ◌∙◌}
use mathlib.Core.Bool.{Bool, true, false, not, ◌&&◌}
use mathlib.Core.List.{List, [], ◌∷◌, ◌++◌, append_assoc}
use native.Mathlib.Nat.{add-zero}
use native.Mathlib.Numerals.{add-one}
use native.Mathlib.Omega.{arith}
use lib.Dec.{eqb}
use lib.ListN.{length, get_or, take, drop, set}
use lib.Seq.{sets, sets-eq, drop-drop}
use borrow.Rule.Slice.PartMut.{put_mid}
use Rattle.std.specs.Int.{to_be_bytes, w16, w32}
use borrow.Author.Tests.{eq-eqb, ne_eqb, eqb-true, eqb-false}
use Rattle.std.specs.List.{starts_with}
use Rattle.numbers.specs.Search.{find, any}
use Rattle.lists.specs.Places.{places}
use Rattle.lists.proofs.Places.{length_places}
use Rattle.encoding.specs.Bytes.{number_at, bytes_of, bytes_of_each}
use Rattle.encoding.proofs.Bytes.{length_bytes_of, length_bytes_of_each, bytes_of_join, bytes_of_one, bytes_of_each_places}
use Rattle.encoding.proofs.Replaced.{sets_sets}
use Rattle.fields.specs.Mark.{has_mark}

-- the number in two bytes, and in four
pub number_two : (s : List ℕ) (at : ℕ) → number_at 2 s at ≡ get_or s at 0 * 256 + get_or s (at + 1) 0
unfolding number_at
number_two s at = rw (add-zero at) (omega arith)

pub number_four : (s : List ℕ) (at : ℕ) → number_at 4 s at
    ≡ get_or s at 0 * 16777216 + get_or s (at + 1) 0 * 65536 + get_or s (at + 2) 0 * 256 + get_or s (at + 3) 0
unfolding number_at
number_four s at = rw (add-zero at) (omega arith)

-- the byte of a number stored at an index
pub byte_stored : (l : List ℕ) (i at v : ℕ) → i ≡ at → set l i (v % 256) ≡ sets l at (bytes_of 1 v)
byte_stored l i at v e = rw (e, bytes_of_one)

-- the upper bytes of a number stored, and then its lower ones straight behind, are the whole number stored
pub field_stored : (a b v : ℕ) (l : List ℕ) (at : ℕ)
    → sets (sets l at (bytes_of a (v / 256 ^ b))) (at + a) (bytes_of b v) ≡ sets l at (bytes_of (a + b) v)
field_stored a b v l at =
    let high = bytes_of a (v / 256 ^ b) in
    let width : a ≡ length high = sym (length_bytes_of a (v / 256 ^ b)) in
    ap (λ (n : ℕ). sets (sets l at high) (at + n) (bytes_of b v)) width ∙ rw bytes_of_join (sets_sets l at high (bytes_of b v))

-- bytes copied into their part of a list are stored there
part_stored : (l bytes m : List ℕ) (at : ℕ) → at + length bytes ≤ length l → m ≡ bytes
    → put_mid at (at + length bytes - at) l m ≡ sets l at bytes
part_stored l bytes m at room copied =
    let rest : drop (at + length bytes - at) (drop at l) ≡ drop (at + length bytes) l =
    drop-drop _ at l ∙ ap (λ (k : ℕ). drop k l) {x = at + (at + length bytes - at)} {y = at + length bytes} (omega arith) in
    rw (copied, sets-eq bytes l at room)
    (ap (λ (ys : List ℕ). take at l ++ (bytes ++ ys)) rest ∙ sym (append_assoc (take at l) bytes (drop (at + length bytes) l)))

-- the bytes of a number copied into their part are its field
pub field_copied : (w v : ℕ) (l m : List ℕ) (at : ℕ) → at + w ≤ length l → m ≡ bytes_of w v
    → put_mid at (at + w - at) l m ≡ sets l at (bytes_of w v)
field_copied w v l m at room copied =
    rw (length_bytes_of w v) at (part_stored l (bytes_of w v) m at (omega (arith, length_bytes_of w v)) copied)

-- the two bytes of a number, of which the last two count, and the four
pub bytes_two : (v : ℕ) → to_be_bytes w16 (v % 65536) ≡ bytes_of 2 v
unfolding bytes_of
bytes_two v =
    let high : v % 65536 / 256 % 256 ≡ v / 256 % 256 = omega arith in
    let low : v % 65536 % 256 ≡ v % 256 = omega arith in
    ap₂ (λ (a b : ℕ). a ∷ b ∷ []) high low

pub bytes_four : (v : ℕ) → to_be_bytes w32 v ≡ bytes_of 4 v
unfolding bytes_of
bytes_four v =
    let first : v / 16777216 % 256 ≡ v / 256 / 256 / 256 % 256 = omega arith in
    let second : v / 65536 % 256 ≡ v / 256 / 256 % 256 = omega arith in
    ap₂ (λ (a b : ℕ). a ∷ b ∷ (v / 256 % 256) ∷ (v % 256) ∷ []) first second

-- the first i words stored, and then the next straight behind, are the first i + 1 stored
pub word_stored : (w i : ℕ) (vs l : List ℕ) (at : ℕ)
    → sets (sets l at (bytes_of_each w (places i vs))) (at + w * i) (bytes_of w (get_or vs i 0)) ≡ sets l at (bytes_of_each w (places (i + 1) vs))
word_stored w i vs l at =
    let before = bytes_of_each w (places i vs) in
    let width : w * i ≡ length before = sym (rw length_places at (length_bytes_of_each w (places i vs))) in
    rw (width, add-one i, bytes_of_each_places w i vs) (sets_sets l at before (bytes_of w (get_or vs i 0)))

-- three stores, one for each byte of a mark
pub mark_stored : (l mark : List ℕ) → length mark ≡ 3
    → set (set (set l 0 (get_or mark 0 0)) 1 (get_or mark 1 0)) 2 (get_or mark 2 0) ≡ sets l 0 mark
mark_stored l [] e = absurd (omega arith)
mark_stored l (a ∷ []) e = absurd (omega arith)
mark_stored l (a ∷ b ∷ []) e = absurd (omega arith)
mark_stored l (a ∷ b ∷ c ∷ []) e = refl
mark_stored l (a ∷ b ∷ c ∷ d ∷ mark) e = absurd (omega arith)

-- a mark copied to the start
pub mark_copied : (l mark m : List ℕ) → length mark ≡ 3 → 3 ≤ length l → m ≡ mark → m ++ drop 3 l ≡ sets l 0 mark
mark_copied l mark m long room copied =
    rw (copied, sets-eq mark l 0 (omega arith)) (ap (λ (k : ℕ). mark ++ drop k l) {x = 3} {y = 0 + length mark} (omega arith))

-- the search for a place that differs, among three
three_places : (a b c : Bool) → not (any 3 (λ i. not (get_or (a ∷ b ∷ c ∷ []) i true))) ≡ a && (b && c)
unfolding any find
three_places true true true = refl
three_places true true false = refl
three_places true false c = refl
three_places false b c = refl

-- a list begins with a mark where each of the three bytes is the mark's
pub mark_bytes : (s mark : List ℕ)
    → has_mark s mark ≡ eqb (get_or s 0 0) (get_or mark 0 0) && (eqb (get_or s 1 0) (get_or mark 1 0) && eqb (get_or s 2 0) (get_or mark 2 0))
unfolding has_mark any find
mark_bytes s mark = three_places (eqb (get_or s 0 0) (get_or mark 0 0)) (eqb (get_or s 1 0) (get_or mark 1 0)) (eqb (get_or s 2 0) (get_or mark 2 0))

-- which of two equal numbers comes first does not matter
eqb_turned : (a b : ℕ) → eqb a b ≡ eqb b a
eqb_turned a b = go (eqb b a) refl
  where
    go : (t : Bool) → eqb b a ≡ t → eqb a b ≡ eqb b a
    go true e = rw e (eq-eqb a b (sym (eqb-true b a e)))
    go false e = rw e (ne_eqb a b (λ same. eqb-false b a e (sym same)))

-- the comparison of a list's start with a mark
pub mark_starts : (s mark : List ℕ) → length mark ≡ 3 → 3 ≤ length s → starts_with eqb s mark ≡ has_mark s mark
mark_starts (x ∷ y ∷ z ∷ s) (a ∷ b ∷ c ∷ []) e h =
    rw (mark_bytes, eqb_turned a x, eqb_turned b y, eqb_turned c z) (ends (eqb x a) (eqb y b) (eqb z c))
  where
    ends : (p q r : Bool) → p && (q && (r && true)) ≡ p && (q && r)
    ends true true true = refl
    ends true true false = refl
    ends true false r = refl
    ends false q r = refl
mark_starts [] mark e h = absurd (omega arith)
mark_starts (x ∷ []) mark e h = absurd (omega arith)
mark_starts (x ∷ y ∷ []) mark e h = absurd (omega arith)
mark_starts s [] e h = absurd (omega arith)
mark_starts s (a ∷ []) e h = absurd (omega arith)
mark_starts s (a ∷ b ∷ []) e h = absurd (omega arith)
mark_starts s (a ∷ b ∷ c ∷ d ∷ mark) e h = absurd (omega arith)
