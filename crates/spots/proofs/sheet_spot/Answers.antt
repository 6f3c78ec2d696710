-- `spots::sheet_spot` meets its contract: a refusal has an arm of its own, and the last of them is 11. By its number a
-- sheet is as long as what is read of it.
-- Assumes nothing.
use mathlib.Core.Path.{◌∙◌, ap, sym}
use native.Mathlib.Omega.{arith}
use Rattle.refusals.proofs.Positive.{number_positive}
use Rattle.refusals.specs.Number.{number}
use Rattle.reasons.specs.Reason.{sheet_spot}
use Rattle.spots.proofs.BeyondEntry.{beyond_entry}
use Rattle.spots.proofs.RefusedSheet.{beyond_spot, beyond_ten, refused_with_law}
use Rattle.spots.proofs.sheet_spot.Goals as goal

pub size_spot-requires : goal.size_spot-requires
size_spot-requires c =
    let known = refused_with_law _ _ (number_positive c.args.refusal) c.requires in
    let seven = ap number c.in-Size.is in
    record { long = known.long (omega (arith, seven)) }

pub entry_spot-requires : goal.entry_spot-requires
entry_spot-requires c =
    let known = refused_with_law _ _ (number_positive c.args.refusal) c.requires in
    let ten = ap number c.in-Entry.is in
    record { modulus = known.modulus (omega (arith, ten)); shaped = known.shaped (omega (arith, ten)); kind = known.kind ten }

pub statement_spot-requires : goal.statement_spot-requires
statement_spot-requires c =
    let known = refused_with_law _ _ (number_positive c.args.refusal) c.requires in
    let none = c.in_default in
    let beyond =
    beyond_entry c.args.refusal none.not-Start none.not-Version none.not-Kind none.not-Modulus none.not-Order none.not-Size
    none.not-Count none.not-Length none.not-Entry in
    let high = beyond_ten _ known.low beyond in
    record { modulus = known.modulus (omega (arith, high)); shaped = known.shaped (omega (arith, high)) }

pub returns-in-Version : goal.returns-in-Version
unfolding sheet_spot
returns-in-Version c = rw c.in-Version.is

pub returns-in-Kind : goal.returns-in-Kind
unfolding sheet_spot
returns-in-Kind c = rw c.in-Kind.is

pub returns-in-Modulus : goal.returns-in-Modulus
unfolding sheet_spot
returns-in-Modulus c = rw c.in-Modulus.is

pub returns-in-Order : goal.returns-in-Order
unfolding sheet_spot
returns-in-Order c = rw c.in-Order.is

pub returns-in-Count : goal.returns-in-Count
unfolding sheet_spot
returns-in-Count c = rw c.in-Count.is

pub returns-in-Length : goal.returns-in-Length
unfolding sheet_spot
returns-in-Length c = rw c.in-Length.is

pub returns-in_default : goal.returns-in_default
returns-in_default c =
    let none = c.in_default in
    let beyond =
    beyond_entry c.args.refusal none.not-Start none.not-Version none.not-Kind none.not-Modulus none.not-Order none.not-Size
    none.not-Count none.not-Length none.not-Entry in
    c.statement_spot.ensures _ ∙ sym (beyond_spot _ _ _ beyond)
