-- `extractor::loaded::witness_slot` meets its contract: each kind has its law.
-- Assumes nothing.
use Rattle.extractor.proofs.Slots.{slot_exponent, slot_root}
use Rattle.extractor.proofs.loaded.witness_slot.Goals as goal

pub returns-then-h-eq1 : goal.returns-then-h-eq1
returns-then-h-eq1 c =
    let kind = c.if-h-eq1.true in
    slot_exponent _ _ c.args.a _ _ _ kind (c.requires.divisor.reduced kind) c.sub_mod.ensures.value c.mul_mod.ensures.value

pub returns : goal.returns
returns c =
    slot_root _ _ c.args.a _ _ _ c.if-h-eq1.false c.inverse.ensures.value
    c.mul_mod-quotient.ensures.value c.negative_power.ensures c.pow_mod.ensures.value c.mul_mod-2.ensures.value
