-- `spots::round_spot` meets its contract: the three fields of the record stand one behind the other.
-- Assumes nothing.
use native.Mathlib.Omega.{arith}
use borrow.Author.Tests.{eq-eqb, ne_eqb}
use Rattle.formats.specs.RoundFile.{record_length}
use Rattle.reasons.specs.Reason.{round_spot}
use Rattle.spots.proofs.RoundFault.{slot_told}
use Rattle.spots.proofs.round_spot.Goals as goal

pub element_spot-requires-clause-within : goal.element_spot-requires-clause-within
unfolding record_length
element_spot-requires-clause-within c = omega arith

pub returns-then-number-eq14 : goal.returns-then-number-eq14
unfolding round_spot
returns-then-number-eq14 c = rw (eq-eqb _ _ c.if-number-eq14.true) c.element_spot.ensures

pub returns-then-number-eq15 : goal.returns-then-number-eq15
unfolding round_spot
returns-then-number-eq15 c = rw (ne_eqb _ _ c.if-number-eq14.false, eq-eqb _ _ c.if-number-eq15.true)

pub read_words-slots-requires-clause-within : goal.read_words-slots-requires-clause-within
unfolding record_length
read_words-slots-requires-clause-within c = omega arith

pub returns : goal.returns
returns c =
    slot_told _ _ _ c.if-number-eq14.false c.if-number-eq15.false c.file_width-width.ensures.value
    c.read_words-slots.ensures.value c.first_non_coordinate-slot.ensures.value
