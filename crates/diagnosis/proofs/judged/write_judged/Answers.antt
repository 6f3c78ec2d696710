-- `diagnosis::judged::write_judged` meets its contract: each arm stores the line of its verdict.
-- Assumes nothing.
use mathlib.Core.Path.{refl}
use native.Mathlib.Omega.{arith}
use Rattle.encoding.specs.Text.{ascii}
use Rattle.formats.proofs.Growing.{file_long}
use Rattle.diagnosis.proofs.JudgedLine.{accepted_told, first_inside, refused_told, rejected_told}
use Rattle.diagnosis.proofs.judged.write_judged.Goals as goal

pub file_width-width-requires : goal.file_width-width-requires
file_width-width-requires c = omega (arith, file_long c.requires.file)

pub round_at-requires-clause-within : goal.round_at-requires-clause-within
round_at-requires-clause-within c = rw c.file_width-width.ensures.value (first_inside c.requires.file c.requires.some)

pub round_spot-requires-clause-within : goal.round_spot-requires-clause-within
round_spot-requires-clause-within c = first_inside c.requires.file c.requires.some

pub returns-in-Accepted : goal.returns-in-Accepted
unfolding ascii
returns-in-Accepted c =
    let line = accepted_told _ _ c.in-Accepted.ensures refl in
    rw line (record { fitted = c.write_word.ensures; short = omega arith })

pub returns-in-Rejected : goal.returns-in-Rejected
returns-in-Rejected c =
    let round = rw c.file_width-width.ensures.value at c.round_at.ensures in
    let line = rejected_told _ _ c.in-Rejected.ensures round _ refl in
    rw line c.write_sides.ensures

pub returns-in-Refused : goal.returns-in-Refused
returns-in-Refused c =
    let line = refused_told _ _ c.in-Refused.ensures _ refl in
    rw (line, ← c.round_spot.ensures) c.write_refused.ensures
