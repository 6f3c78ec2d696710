use mathlib.Core.Path.{◌≡◌, refl, ap, ◌∙◌}
use native.Mathlib.Omega.{arith}
use lib.ListN.{length-take, length-drop}
use Rattle.formats.specs.RoundFile.{count_field, width_of}
use Rattle.formats.proofs.Growing.{file_long}
use Rattle.converter.proofs.RecordByRecord.{none_stored, record_room, record_stored, record_there, round_read, same_size}
use Rattle.converter.proofs.records.write_records.Goals as goal

pub file_width-from-requires : goal.file_width-from-requires
file_width-from-requires c = omega (arith, file_long c.requires.file)

pub other_version-requires : goal.other_version-requires
other_version-requires c = record { long = file_long c.requires.file }

pub read_u16-rounds-requires : goal.read_u16-rounds-requires
read_u16-rounds-requires c = record { within = file_long c.requires.file }

pub loop-k-init : goal.loop-k-init
loop-k-init c = (none_stored _ _ _, omega arith, refl)

pub record_start-requires : goal.record_start-requires
unfolding count_field
record_start-requires c =
    omega (arith, c.requires.file.few)

pub round_at-round-requires : goal.round_at-round-requires
unfolding count_field
round_at-round-requires c =
    let width = c.file_width-from.ensures.value in
    let small = c.file_width-from.ensures.small in
    let known = c.file_width-from.ensures.known in
    let fits = record_there _ _ _ width c.record_start.ensures.value c.requires.file (omega (arith, c.read_u16-rounds.ensures.value, c.read_u16-rounds.ensures.small)) in
    record {
      rows = omega arith;
      columns = omega arith;
      width = known;
      within = fits;
    }

pub record_start-at-requires : goal.record_start-at-requires
unfolding count_field
record_start-at-requires c =
    omega (arith, c.requires.file.few)

pub slice_bounds-write_record-count : goal.slice_bounds-write_record-count
unfolding count_field
slice_bounds-write_record-count c =
    let is-to = c.width_of-to.ensures.value ∙ ap width_of c.other_version.ensures in
    omega (arith, record_room _ _ _ is-to c.record_start-at.ensures.value _ c.requires.room (omega (arith, c.read_u16-rounds.ensures.value, c.read_u16-rounds.ensures.small)))

pub slice_bounds-write_record-start : goal.slice_bounds-write_record-start
unfolding count_field
slice_bounds-write_record-start c =
    let is-to = c.width_of-to.ensures.value ∙ ap width_of c.other_version.ensures in
    omega (arith, record_room _ _ _ is-to c.record_start-at.ensures.value _ c.requires.room (omega (arith, c.read_u16-rounds.ensures.value, c.read_u16-rounds.ensures.small)))

pub write_record-requires : goal.write_record-requires
unfolding count_field
write_record-requires c =
    let width = c.width_of-to.ensures.value in
    let known = c.width_of-to.ensures.known in
    let is-to = width ∙ ap width_of c.other_version.ensures in
    let room = record_room _ _ _ is-to c.record_start-at.ensures.value _ c.requires.room (omega (arith, c.read_u16-rounds.ensures.value, c.read_u16-rounds.ensures.small)) in
    record {
      rows = omega arith;
      columns = omega arith;
      width = known;
      room = simp (length-take, length-drop) (omega (arith, room, c.loop-k.invariant.2));
    }

pub loop-k-preserved : goal.loop-k-preserved
unfolding count_field
loop-k-preserved c =
    let is-to = c.width_of-to.ensures.value ∙ ap width_of c.other_version.ensures in
    let is_at = c.record_start-at.ensures.value in
    let room = record_room _ _ _ is-to is_at _ c.requires.room (omega (arith, c.read_u16-rounds.ensures.value, c.read_u16-rounds.ensures.small)) in
    let is-round = round_read _ _ _ c.file_width-from.ensures.value c.record_start.ensures.value c.round_at-round.ensures in
    let (before, few, size) = c.loop-k.invariant in
    let next = record_stored _ _ _ is-to is_at before (omega (arith, room, size)) is-round c.write_record.ensures.stored in
    (next, omega arith, same_size next)

pub returns : goal.returns
unfolding count_field
returns c =
    let whole : c.loop-k.k ≡ c.read_u16-rounds.result = omega arith in
    record { stored = rw (← c.read_u16-rounds.ensures.value, ← whole) c.loop-k.invariant.0.stored }
