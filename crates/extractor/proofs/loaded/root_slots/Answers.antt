-- `extractor::loaded::root_slots` meets its contract: each slot is the formula of kind 2.
-- Assumes nothing.
use Rattle.extractor.proofs.Slots.{slots_root}
use Rattle.extractor.proofs.loaded.root_slots.Goals as goal

pub returns : goal.returns
returns c =
    slots_root _ _ _ _ _ _ _ c.requires.kind c.inverses.ensures c.products-quotients.ensures
    c.powers-raised.ensures c.mul_negative_powers.ensures
