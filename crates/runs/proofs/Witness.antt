-- What 16 and 17 ask of the slots that a call brings: they are a witness.
-- Assumes nothing.
use Prim.Native.Nat.{ℕ, ◌<◌}
use mathlib.Core.Path.{◌≡◌, sym, ap, ◌∙◌}
use mathlib.Core.Logic.{◌↔◌}
use mathlib.Core.List.{List}
use lib.ListN.{length, get_or}
use Rattle.lists.specs.Places.{places}
use Rattle.lists.proofs.Each.{each_at, each_from}
use Rattle.lists.proofs.Places.{get_d_places, tabulate_agree}
use Rattle.sigma.specs.Image.{image, row_image}
use Rattle.sigma.specs.Instance.{Instance, table_of, statement_at}
use Rattle.sigma.specs.Knowledge.{Witness}
use Rattle.sigma.specs.Meaning.{Coordinates}
use Rattle.sigma.proofs.Values.{image_at}

module _ (inst : Instance) (x : List ℕ) where
  -- [x] = z exactly where it is so in every row
  pub image_carried : (image (table_of inst) x ≡ places inst.header.rows inst.statement)
      ↔ ((i : ℕ) → i < inst.header.rows → row_image (table_of inst) x i ≡ statement_at inst i)
  unfolding image places statement_at
  image_carried = (
    λ e i h.
        sym (image_at (table_of inst) x i h) ∙ ap (λ (l : List ℕ). get_or l i 0) e ∙ get_d_places inst.header.rows inst.statement i h,
    λ rows. tabulate_agree inst.header.rows (row_image (table_of inst) x) (statement_at inst) rows,
  )

  -- n slots are a witness exactly where each is a coordinate and every row of their image is the statement's value
  pub witness_slots : length x ≡ inst.header.columns
      → (Coordinates inst x × ((i : ℕ) → i < inst.header.rows → row_image (table_of inst) x i ≡ statement_at inst i)) ↔ Witness inst x
  witness_slots l = (
    λ (slots, rows). record { slots = each_from _ _ x l slots; carried = image_carried.1 rows },
    λ w. (each_at _ _ x w.slots, image_carried.0 w.carried),
  )
