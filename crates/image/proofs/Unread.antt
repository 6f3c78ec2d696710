-- The image, the two sides, the verdict and the response read only the places that 01 reads, and zeros behind a side do not
-- count in a comparison.
-- Assumes nothing.
use mathlib.Core.Path.{◌≡◌, refl, sym, ap, ap₂, ◌∙◌}
use mathlib.Core.Bool.{Bool, true, false, cond, not, ◌&&◌, ◌||◌}
use mathlib.Core.List.{List}
use mathlib.Core.Logic.{◌≢◌}
use Prim.Native.Nat.{ℕ, ◌+◌, ◌*◌, ◌%◌, ◌^◌, ◌≤◌, ◌<◌}
use native.Mathlib.Omega.{arith}
use lib.Dec.{eqb, ltb}
use lib.ListN.{get_or}
use borrow.Author.Tests.{eq-eqb, ne_eqb, ltb-false}
use Rattle.types.specs.declared.Header.{Header}
use Rattle.types.specs.declared.Verdict.{Verdict}
use Rattle.types.specs.declared.Verdict.TheVariants.{Accepted, Rejected}
use Rattle.lists.specs.Places.{places, pad8}
use Rattle.lists.proofs.Places.{get_d_pad8, get_d_places, get_d_tabulate, tabulate_agree}
use Rattle.numbers.proofs.Bits.{mask_agree}
use Rattle.numbers.proofs.Search.{find_agree}
use Rattle.sigma.specs.Comparison.{first_difference, differ, differences, compare_sides}
use Rattle.sigma.specs.Image.{row_image, image}
use Rattle.sigma.specs.Instance.{Instance, Table, table_of, statement_at}
use Rattle.sigma.specs.Round.{response_coordinate, response, expected_image, verdict}
use Rattle.sigma.specs.Valid.{Valid, ValidTable}
use Rattle.sigma.proofs.Unread.{row_image_agree}
use Rattle.comparison.proofs.Masks.{Marked, compare_mask, marked_all, marked_none, marked_on}

-- rows that are not side by side are three at most
pub few_beside : (n m : ℕ) {several : Bool} → several ≡ (ltb 3 n || (ltb 1 n && ltb 65535 m)) → several ≡ false → n ≤ 3
few_beside n m is_several none = ltb-false 3 n (first (ltb 3 n) _ (sym is_several ∙ none))
  where
    first : (a b : Bool) → a || b ≡ false → a ≡ false
    first true b fails = fails
    first false b fails = refl

-- zeros behind two lists do not change whether a place differs
differs_pad8 : (xs ys : List ℕ) (i : ℕ)
    → not (eqb (get_or (pad8 0 xs) i 0) (get_or (pad8 0 ys) i 0)) ≡ not (eqb (get_or xs i 0) (get_or ys i 0))
differs_pad8 xs ys i = rw (get_d_pad8 0 xs i, get_d_pad8 0 ys i)

-- nor where they first differ
difference_pad8 : (n : ℕ) (xs ys : List ℕ) → first_difference n (pad8 0 xs) (pad8 0 ys) ≡ first_difference n xs ys
unfolding first_difference
difference_pad8 n xs ys = find_agree _ _ 0 n (λ i h k. differs_pad8 xs ys i)

-- nor in which places they do
differences_pad8 : (n : ℕ) (xs ys : List ℕ) → differences n (pad8 0 xs) (pad8 0 ys) ≡ differences n xs ys
unfolding differences
differences_pad8 n xs ys = mask_agree n _ _ (λ i h. differs_pad8 xs ys i)

-- nor the verdict on them
pub compare_pad8 : (n : ℕ) (xs ys : List ℕ) → compare_sides n (pad8 0 xs) (pad8 0 ys) ≡ compare_sides n xs ys
unfolding compare_sides differ
compare_pad8 n xs ys = rw (difference_pad8 n xs ys, differences_pad8 n xs ys)

-- the image reads n places, of a valid table
pub image_places : (table : Table) → ValidTable table → (x : List ℕ) → image table (places table.header.columns x) ≡ image table x
unfolding image
image_places table v x =
    tabulate_agree table.header.rows _ _
    (λ i h. row_image_agree v _ x (λ j l. get_d_places table.header.columns x j l) i h)

-- the response reads n places
pub response_places : (h : Header) (k : List ℕ) (c : ℕ) (x : List ℕ)
    → response h (places h.columns k) c (places h.columns x) ≡ response h k c x
unfolding response
response_places h k c x =
    tabulate_agree h.columns _ _
    (λ j l. ap₂ (λ (a b : ℕ). response_coordinate h a c b) (get_d_places h.columns k j l) (get_d_places h.columns x j l))

module _ (inst : Instance) where
  -- t · z^c reads s places
  pub expected_places : (t : List ℕ) (c : ℕ) → expected_image inst (places inst.header.rows t) c ≡ expected_image inst t c
  unfolding expected_image
  expected_places t c =
      tabulate_agree inst.header.rows _ _
      (λ i h. ap (λ (k : ℕ). k * statement_at inst i ^ c % inst.header.modulus) (get_d_places inst.header.rows t i h))

  -- the verdict is what comparing the two sides in eight places gives
  pub verdict_compared : Valid inst → (t : List ℕ) (c : ℕ) (r : List ℕ) {left right : List ℕ} {answer : Verdict}
      → left ≡ pad8 0 (image (table_of inst) r) → right ≡ pad8 0 (expected_image inst t c) → answer ≡ compare_sides inst.header.rows left right
      → answer ≡ verdict inst (places inst.header.rows t) c (places inst.header.columns r)
  unfolding verdict
  verdict_compared v t c r is_left is_right is_answer =
      rw (is_answer, is_left, is_right, image_places (table_of inst) v.table r, expected_places t c) (compare_pad8 inst.header.rows _ _)

  -- row i of the first side
  left_row : (r : List ℕ) (i : ℕ) → i < inst.header.rows → get_or (image (table_of inst) r) i 0 ≡ row_image (table_of inst) r i
  unfolding image
  left_row r i inside = get_d_tabulate inst.header.rows (row_image (table_of inst) r) i 0 inside

  -- and of the second
  right_row : (t : List ℕ) (c i : ℕ) → i < inst.header.rows
      → get_or (expected_image inst t c) i 0 ≡ get_or t i 0 * statement_at inst i ^ c % inst.header.modulus
  unfolding expected_image
  right_row t c i inside = get_d_tabulate inst.header.rows _ i 0 inside

  module _ (t : List ℕ) (c : ℕ) (r : List ℕ) where
    -- the comparison of the two sides that has come to row i: the mask of the rows before it, and its bit
    abbrev pub RowsMarked : ℕ → ℕ → ℕ → Type 0
    RowsMarked = Marked inst.header.rows (image (table_of inst) r) (expected_image inst t c)

    -- one row more
    pub rows_on : (i mask bit : ℕ) {left right next : ℕ} → i < inst.header.rows → left ≡ row_image (table_of inst) r i
        → right ≡ get_or t i 0 * statement_at inst i ^ c % inst.header.modulus → next ≡ mask + cond (not (eqb left right)) bit 0
        → RowsMarked i mask bit → RowsMarked (i + 1) next (2 * bit)
    rows_on i mask bit inside is_left is_right is_next =
        marked_on _ _ _ i mask bit inside (is_left ∙ sym (left_row r i inside)) (is_right ∙ sym (right_row t c i inside)) is_next

    -- where no row is left the mask is the verdict
    pub verdict_marked : Valid inst → (i mask bit : ℕ) {answer : Verdict} → inst.header.rows ≤ i → RowsMarked i mask bit
        → answer ≡ cond (eqb mask 0) Accepted (Rejected mask)
        → answer ≡ verdict inst (places inst.header.rows t) c (places inst.header.columns r)
    unfolding verdict
    verdict_marked v i mask bit past marked is_answer =
        rw (is_answer, marked_all _ _ _ i mask bit past marked, image_places (table_of inst) v.table r, expected_places t c)
        (compare_mask _ _ _)

    module _ (v : Valid inst) (one : inst.header.rows ≡ 1) {left right : ℕ} (is_left : left ≡ row_image (table_of inst) r 0)
        (is_right : right ≡ get_or t 0 0 * statement_at inst 0 ^ c % inst.header.modulus) where
      -- a row that is alone and whose two sides differ is rejected as row 0
      pub alone_differs : left ≢ right → Rejected 1 ≡ verdict inst (places inst.header.rows t) c (places inst.header.columns r)
      alone_differs other =
          verdict_marked v 1 1 2 (omega arith)
          (rows_on 0 0 1 (omega arith) is_left is_right (rw (ne_eqb left right other)) (marked_none _ _ _)) refl

      -- and one whose two sides agree is accepted
      pub alone_agrees : left ≡ right → Accepted ≡ verdict inst (places inst.header.rows t) c (places inst.header.columns r)
      alone_agrees same =
          verdict_marked v 1 0 2 (omega arith)
          (rows_on 0 0 1 (omega arith) is_left is_right (rw (eq-eqb left right same)) (marked_none _ _ _)) refl
