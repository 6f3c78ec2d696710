-- What Peggy holds (21): behind good slots the held commitment decides, in eight places.
-- Assumes nothing.
use mathlib.Core.Path.{◌≡◌, sym}
use mathlib.Core.Bool.{false}
use mathlib.Core.List.{List}
use Prim.Native.Nat.{ℕ}
use Rattle.types.specs.declared.Prover.{Prover}
use Rattle.lists.specs.Places.{pad8}
use Rattle.sigma.specs.Comparison.{differ}
use Rattle.sigma.specs.Element.{some_non_coordinate}
use Rattle.sigma.specs.Image.{image}
use Rattle.sigma.specs.Instance.{Instance, table_of}
use Rattle.sigma.specs.Valid.{Valid}
use Rattle.runs.specs.Prover.{unfit_prover}
use Rattle.image.proofs.Tested.{coordinates_read}
use Rattle.image.proofs.Unread.{image_places}

pub unfit_commitment_law : (inst : Instance) → Valid inst → (p : Prover) {values : List ℕ}
    → some_non_coordinate inst.header inst.header.columns p.nonce ≡ false → values ≡ pad8 0 (image (table_of inst) p.nonce)
    → differ 8 values p.commitment ≡ unfit_prover inst p
unfolding unfit_prover
unfit_commitment_law inst v p slots is_image =
    rw (coordinates_read inst p.nonce, slots, image_places (table_of inst) v.table p.nonce, sym is_image)
