-- The table that the search looks into: in kind 1 the images of all candidates, in kind 2 the smallest root of each number below m.
-- Assumes nothing.
use Rattle.std.specs.Prelude.{ℕ, ◌*◌, ◌/◌, ◌%◌, ◌^◌, ◌<◌, ◌≡◌, ◌≢◌, Bool, true, false, ◌&&◌, List, eqb, get_or, length}
use Rattle.types.specs.declared.Header.{Header}
use Rattle.sigma.specs.Element.{is_element}
use Rattle.sigma.specs.Image.{row_image}
use Rattle.sigma.specs.Instance.{table_with}
use Rattle.games.specs.Text.{candidate, candidates}

-- value j is row j % s of the image of candidate j / s
pub record Images (h : Header) (entries : List (List ℕ)) (table : List ℕ) : Type 0 where
  pub size : length table ≡ 32768
  pub each : (j : ℕ) → j < candidates h * h.rows
      → get_or table j 0 ≡ row_image (table_with h entries) (candidate h (j / h.rows)) (j % h.rows)

-- r is a group element with r^e mod m = v
unfoldable pub is_root : Header → ℕ → ℕ → Bool
is_root h v r = is_element h r && eqb (r ^ h.order % h.modulus) v

-- what is held for v is its smallest root among the numbers below n, 0 if there is none
pub record RootAt (h : Header) (n v held : ℕ) : Type 0 where
  pub none : held ≡ 0 → (r : ℕ) → r < n → is_root h v r ≡ false
  pub root : held ≢ 0 → is_root h v held ≡ true
  pub least : held ≢ 0 → (r : ℕ) → r < held → is_root h v r ≡ false

-- place v of the table holds it, for each v below m
pub record Roots (h : Header) (n : ℕ) (table : List ℕ) : Type 0 where
  pub size : length table ≡ 32768
  pub each : (v : ℕ) → v < h.modulus → RootAt h n v (get_or table v 0)

-- the table of a sheet
pub record Prepared (h : Header) (entries : List (List ℕ)) (table : List ℕ) : Type 0 where
  pub size : length table ≡ 32768
  pub images : h.kind ≡ 1 → Images h entries table
  pub roots : h.kind ≢ 1 → Roots h h.modulus table
