-- The two forms of a sheet's entries are each other's: rows from 64 numbers and back, and 64 numbers from rows and back.
-- Assumes nothing.
use Prim.Native.Nat.{ℕ, ◌+◌, ◌*◌, ◌/◌, ◌%◌, ◌<◌}
use mathlib.Core.Path.{◌≡◌, sym, ap, ap₂, ◌∙◌}
use mathlib.Core.List.{List, []}
use native.Mathlib.Nat.{div-add-mod}
use native.Mathlib.Omega.{arith}
use lib.ListN.{length, get_or}
use lib.Seq.{ext_get_or}
use Rattle.lists.specs.Places.{places}
use Rattle.lists.proofs.Places.{length_tabulate, get_d_tabulate, tabulate_agree, places_whole}
use Rattle.tables.specs.Flat.{flat, flat_at, square, square_at, square_row}

-- column j of row i of 64 numbers is number 8 i + j
pub get_d_square : (xs : List ℕ) (i j : ℕ) → i < 8 → j < 8 → get_or (get_or (square xs) i []) j 0 ≡ get_or xs (8 * i + j) 0
unfolding square square_row square_at
get_d_square xs i j a b =
    ap (λ (row : List ℕ). get_or row j 0) (get_d_tabulate 8 (square_row xs) i [] a) ∙ get_d_tabulate 8 (square_at xs i) j 0 b

-- number 8 i + j of eight rows of eight is column j of row i
pub get_d_flat : (rows : List (List ℕ)) (i j : ℕ) → i < 8 → j < 8 → get_or (flat rows) (8 * i + j) 0 ≡ get_or (get_or rows i []) j 0
unfolding flat flat_at
get_d_flat rows i j a b =
    let row : (8 * i + j) / 8 ≡ i = omega arith in
    let column : (8 * i + j) % 8 ≡ j = omega arith in
    get_d_tabulate 64 (flat_at rows) (8 * i + j) 0 (omega arith) ∙ ap₂ (λ (r c : ℕ). get_or (get_or rows r []) c 0) row column

-- 64 numbers as rows, and the rows as 64 numbers again
pub flat_square : (xs : List ℕ) → length xs ≡ 64 → flat (square xs) ≡ xs
unfolding flat flat_at places
flat_square xs e =
    tabulate_agree 64 (flat_at (square xs)) (λ k. get_or xs k 0)
    (λ k b.
    let number : 8 * (k / 8) + k % 8 ≡ k = div-add-mod k 8 in
    get_d_square xs (k / 8) (k % 8) (omega arith) (omega arith) ∙ ap (λ (n : ℕ). get_or xs n 0) number)
    ∙ places_whole 64 xs e

-- eight rows of eight as 64 numbers, and these as rows again
pub square_flat : (rows : List (List ℕ)) → length rows ≡ 8 → ((i : ℕ) → i < 8 → length (get_or rows i []) ≡ 8)
    → square (flat rows) ≡ rows
unfolding square square_row square_at places
square_flat rows e each =
    ext_get_or [] (square (flat rows)) rows (length_tabulate 8 (square_row (flat rows)) ∙ sym e)
    (λ i b.
    let inside : i < 8 = omega (arith, length_tabulate 8 (square_row (flat rows))) in
    get_d_tabulate 8 (square_row (flat rows)) i [] inside
    ∙ tabulate_agree 8 (square_at (flat rows) i) (λ j. get_or (get_or rows i []) j 0) (λ j c. get_d_flat rows i j inside c)
    ∙ places_whole 8 (get_or rows i []) (each i inside))
