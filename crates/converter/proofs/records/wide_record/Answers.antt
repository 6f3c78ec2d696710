-- `converter::records::wide_record` meets its contract: each record's challenge is tested.
-- Assumes nothing.
use Prim.Native.Nat.{◌<◌}
use mathlib.Core.Bool.{true, false}
use mathlib.Core.Path.{◌≡◌, refl}
use native.Mathlib.Omega.{arith}
use Rattle.std.proofs.Common.{rules, tests}
use Rattle.std.proofs.lemmas.Iterator.{YieldsList-from_range, cases_from_any, serves_from_Range}
use Rattle.formats.specs.Convert.{wide_record}
use Rattle.formats.specs.RoundFile.{count_field}
use Rattle.formats.proofs.Growing.{file_long}
use Rattle.converter.proofs.RecordByRecord.{any_told, wide_at}
use Rattle.converter.proofs.records.wide_record.Goals as goal

pub other_version-version-requires : goal.other_version-version-requires
other_version-version-requires c = record { long = file_long c.requires.file }

pub file_width-width-requires : goal.file_width-width-requires
file_width-width-requires c = omega (arith, file_long c.requires.file)

pub read_u16-count-requires : goal.read_u16-count-requires
read_u16-count-requires c = record { within = file_long c.requires.file }

pub any-requires-clause-callable : goal.any-requires-clause-callable
unfolding count_field
any-requires-clause-callable c =
    serves_from_Range (λ x q k. search rules)
    (λ x low less. let inside : x < count_field c.args.file.now = omega (arith, c.read_u16-count.ensures.value) in search rules)

pub returns : goal.returns
unfolding wide_record count_field
returns c =
    let args = c.args in
    let wide = wide_at args.h args.file.now in
    any_told wide c.read_u16-count.ensures.value
    (cases_from_any _ _ _ (λ k. wide k ≡ true) (λ k. wide k ≡ false) c.any.ensures.ran
    (YieldsList-from_range 0 c.read_u16-count.result _ refl (omega arith))
    (λ x q k. search (rules, tests)) (λ x q k. search (rules, tests)))
