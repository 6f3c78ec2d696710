-- Homomorphisms of commutative groups.
-- Assumes nothing.
use Rattle.std.specs.Prelude.{◌≡◌}
use Rattle.groups.specs.Group.{Group}

-- a map from G to H that carries products to products; Maurer writes [x] for the image of x
pub record Homomorphism {A B : Type 0} (G : Group A) (H : Group B) : Type 0 where
  pub map : A → B
  pub preserves : (x y : A) → map (G.product x y) ≡ H.product (map x) (map y)
