-- The tests of what a call brings (14 and 16 to 18) look at the places that are read.
-- Assumes nothing.
use mathlib.Core.Path.{◌≡◌, ap}
use mathlib.Core.Bool.{Bool, not}
use mathlib.Core.List.{List}
use Prim.Native.Nat.{ℕ}
use lib.ListN.{get_or}
use Rattle.lists.specs.Places.{places, pad8}
use Rattle.lists.proofs.Places.{get_d_places, get_d_pad8}
use Rattle.numbers.specs.Search.{any}
use Rattle.numbers.proofs.Search.{any_agree}
use Rattle.sigma.specs.Comparison.{first_difference, differ}
use Rattle.sigma.specs.Element.{is_element, is_coordinate, some_non_element, some_non_coordinate}
use Rattle.sigma.specs.Image.{image}
use Rattle.sigma.specs.Instance.{Instance, table_of}
use Rattle.sigma.specs.Round.{bad_commitment, bad_coordinates, bad_witness}
use Rattle.sigma.specs.Valid.{Valid}
use Rattle.image.proofs.Unread.{image_places}

-- a test that fails at some place fails at some place of those that are read
failing_places : (test : ℕ → Bool) (n : ℕ) (xs : List ℕ)
    → any n (λ i. not (test (get_or (places n xs) i 0))) ≡ any n (λ i. not (test (get_or xs i 0)))
failing_places test n xs = any_agree n _ _ (λ i h. ap (λ (v : ℕ). not (test v)) (get_d_places n xs i h))

-- 14 asks of what is read of a commitment whether some value is no group element
pub commitment_read : (inst : Instance) (t : List ℕ)
    → bad_commitment inst (places inst.header.rows t) ≡ some_non_element inst.header inst.header.rows t
unfolding bad_commitment some_non_element
commitment_read inst t = failing_places (is_element inst.header) inst.header.rows t

-- 16 asks of what is read of a response whether some slot is no coordinate of the domain
pub coordinates_read : (inst : Instance) (x : List ℕ)
    → bad_coordinates inst (places inst.header.columns x) ≡ some_non_coordinate inst.header inst.header.columns x
unfolding bad_coordinates some_non_coordinate
coordinates_read inst x = failing_places (is_coordinate inst.header) inst.header.columns x

-- 18 asks of what is read of two commitments whether they differ
pub difference_read : (n : ℕ) (xs ys : List ℕ) → differ n (places n xs) (places n ys) ≡ differ n xs ys
unfolding differ first_difference any
difference_read n xs ys = any_agree n _ _ (λ i h. rw (get_d_places n xs i h, get_d_places n ys i h))

-- 17 asks whether the image, with zeros behind it, and the statement differ
pub witness_read : (inst : Instance) → Valid inst → (x : List ℕ) {values : List ℕ} → values ≡ pad8 0 (image (table_of inst) x)
    → bad_witness inst (places inst.header.columns x) ≡ differ inst.header.rows values inst.statement
unfolding bad_witness differ first_difference any
witness_read inst v x is_image =
    rw (is_image, image_places (table_of inst) v.table x)
    (any_agree inst.header.rows _ _ (λ i h. rw (get_d_pad8 0 (image (table_of inst) x) i)))
