-- Group elements and domain slots (01, "The sheet"), as tests and as facts, and the domain's operation.
-- Assumes nothing.
use Rattle.std.specs.Prelude.{ℕ, ◌+◌, ◌*◌, ◌%◌, ◌^◌, ◌<◌, ◌≤◌, ◌≡◌, ◌≢◌, Bool, cond, not, ◌&&◌, List, eqb, leb, ltb, get_or}
use Rattle.types.specs.declared.Header.{Header}
use Rattle.numbers.specs.Gcd.{gcd}
use Rattle.numbers.specs.Search.{any}
use Rattle.sigma.specs.Instance.{is_exponent}

-- v is a group element: from 1 to m − 1, with v^q mod m = 1 in kind 1 and gcd(v, m) = 1 in kind 2
unfoldable pub is_element : Header → ℕ → Bool
is_element h v =
    leb 1 v && ltb v h.modulus &&
    cond (is_exponent h) (eqb (v ^ h.order % h.modulus) 1) (eqb (gcd v h.modulus) 1)

-- some value among the first n is no group element
unfoldable pub some_non_element : Header → ℕ → List ℕ → Bool
some_non_element h n vs = any n (λ i. not (is_element h (get_or vs i 0)))

-- x is a coordinate of the domain, 01's domain slot: from 0 to q − 1 in kind 1, a group element in kind 2
unfoldable pub is_coordinate : Header → ℕ → Bool
is_coordinate h x = cond (is_exponent h) (ltb x h.order) (is_element h x)

-- some value among the first n is no coordinate of the domain
unfoldable pub some_non_coordinate : Header → ℕ → List ℕ → Bool
some_non_coordinate h n xs = any n (λ j. not (is_coordinate h (get_or xs j 0)))

-- the fact that v is a group element
pub record Element (h : Header) (v : ℕ) : Type 0 where
  pub positive : 1 ≤ v
  pub below : v < h.modulus
  pub ordered : h.kind ≡ 1 → v ^ h.order % h.modulus ≡ 1
  pub coprime : h.kind ≢ 1 → gcd v h.modulus ≡ 1

-- the fact that x is a coordinate of the domain
pub record Coordinate (h : Header) (x : ℕ) : Type 0 where
  pub reduced : h.kind ≡ 1 → x < h.order
  pub element : h.kind ≢ 1 → Element h x

-- two coordinates combined: added mod q in kind 1, multiplied mod m in kind 2
unfoldable pub combine : Header → ℕ → ℕ → ℕ
combine h x y = cond (is_exponent h) ((x + y) % h.order) (x * y % h.modulus)
