-- 16 of an entry, by its kind.
-- Assumes nothing.
use mathlib.Core.Path.{◌≡◌}
use mathlib.Core.Bool.{false, or-false, ◌||◌}
use mathlib.Core.Logic.{◌≢◌}
use lib.Dec.{leb}
use borrow.Author.Tests.{ne_eqb}
use Rattle.sigma.specs.Element.{some_non_coordinate}
use Rattle.ledgers.specs.Refusals.{product_header}
use Rattle.ledgers.specs.Write.{bad_numbers}
use Rattle.ledgers.specs.declared.Base.{Base}
use Rattle.ledgers.specs.declared.Entry.{Entry}

module _ (base : Base) (e : Entry) where
  -- of a commitment
  pub numbers_one : e.kind ≡ 1 → bad_numbers base e ≡ leb base.order e.value || leb base.order e.blinding
  unfolding bad_numbers
  numbers_one one = rw one (or-false _)

  -- of an entry that has none
  pub numbers_none : e.kind ≢ 1 → e.kind ≢ 3 → bad_numbers base e ≡ false
  unfolding bad_numbers
  numbers_none other last = rw (ne_eqb _ _ other, ne_eqb _ _ last)

  -- of a product
  pub numbers_three : e.kind ≡ 3
      → bad_numbers base e ≡ leb base.order e.blinding || some_non_coordinate (product_header base) 3 e.nonce
  unfolding bad_numbers
  numbers_three three = rw three
