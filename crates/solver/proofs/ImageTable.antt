-- The table of the images of all candidates, filled one value a turn.
-- Assumes nothing.
use Prim.Native.Nat.{ℕ, ◌*◌, ◌/◌, ◌%◌, ◌^◌, ◌<◌, ◌≤◌}
use mathlib.Core.Path.{◌≡◌, sym, ap, ◌∙◌}
use mathlib.Core.List.{List}
use native.Mathlib.Omega.{arith}
use lib.ListN.{get_or-append, drop, get_or, length, length-append, length-drop}
use Rattle.types.specs.declared.Header.{Header}
use Rattle.lists.specs.Places.{pad8, tabulate}
use Rattle.lists.proofs.Filling.{Filled}
use Rattle.lists.proofs.Places.{get_d_pad8, get_d_tabulate, length_tabulate}
use Rattle.numbers.proofs.Product.{product_agree}
use Rattle.sigma.specs.Image.{row_image}
use Rattle.sigma.specs.Instance.{Table, entry, table_with}
use Rattle.sigma.proofs.ByKind.{row_image_exponent}
use Rattle.games.specs.Text.{candidate, candidates}
use Rattle.solver.specs.Prepared.{Images}

-- value j of the table: row j % s of the image of candidate j / s
pub image_value : Header → List (List ℕ) → ℕ → ℕ
image_value h entries j = row_image (table_with h entries) (candidate h (j / h.rows)) (j % h.rows)

-- in kind 1 zeros behind the slots do not count
pub row_padded : (table : Table) → table.header.kind ≡ 1 → (x : List ℕ) (i : ℕ) → row_image table (pad8 0 x) i ≡ row_image table x i
row_padded table e x i =
    let powers = product_agree table.header.columns (λ j. entry table i j ^ get_or (pad8 0 x) j 0) (λ j. entry table i j ^ get_or x j 0)
    (λ j b. ap (λ (k : ℕ). entry table i j ^ k) (get_d_pad8 0 x j)) in
    row_image_exponent table e (pad8 0 x) i ∙ ap (λ (k : ℕ). k % table.header.modulus) powers ∙ sym (row_image_exponent table e x i)

-- a value by the padded candidate
pub value_padded : (h : Header) → h.kind ≡ 1 → (entries : List (List ℕ)) (j : ℕ) {x : List ℕ} {value : ℕ}
    → x ≡ pad8 0 (candidate h (j / h.rows)) → value ≡ row_image (table_with h entries) x (j % h.rows) → value ≡ image_value h entries j
unfolding image_value
value_padded h e entries j is_padded is_value =
    is_value ∙ ap (λ (y : List ℕ). row_image (table_with h entries) y (j % h.rows)) is_padded
    ∙ row_padded (table_with h entries) e (candidate h (j / h.rows)) (j % h.rows)

-- a place of a list that is filled that far
pub filled_at : {start : List ℕ} {n : ℕ} {f : ℕ → ℕ} {l : List ℕ} {i : ℕ} → Filled start n f l i → n ≤ i
    → (j : ℕ) → j < n → get_or l j 0 ≡ f j
filled_at {start} {n} {f} {l} {i} filled past j inside =
    ap (λ (xs : List ℕ). get_or xs j 0) filled.held
    ∙ get_or-append (tabulate i f) (drop i start) 0 j (omega (arith, length_tabulate i f))
    ∙ get_d_tabulate i f j 0 (omega arith)

-- and its length
pub filled_length : {start : List ℕ} {n : ℕ} {f : ℕ → ℕ} {l : List ℕ} {i : ℕ} → Filled start n f l i → length l ≡ length start
filled_length {start} {n} {f} {l} {i} filled =
    ap length filled.held ∙ length-append (tabulate i f) (drop i start)
    ∙ omega (arith, length_tabulate i f, length-drop i start, filled.room, filled.within)

-- a table that is filled has the images of all candidates
pub images_all : (h : Header) (entries : List (List ℕ)) {start : List ℕ} {n : ℕ} {l : List ℕ} {j : ℕ}
    → Filled start n (image_value h entries) l j → n ≤ j → length start ≡ 32768 → n ≡ candidates h * h.rows → Images h entries l
unfolding image_value
images_all h entries filled past size whole = record {
  size = filled_length filled ∙ size;
  each = λ j inside. filled_at filled past j (omega (arith, whole));
}
