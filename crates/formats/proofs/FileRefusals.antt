-- Demand 1 holds of the calls on sheets and round files.
-- Assumes nothing.
use Prim.Native.Nat.{ℕ}
use mathlib.Core.Path.{◌≡◌, refl, ap}
use mathlib.Core.List.{List}
use lib.ListN.{replicate}
use Rattle.types.specs.declared.Loaded.{Loaded}
use Rattle.lists.specs.Places.{zeros8}
use Rattle.rules.specs.Order.{refusal_order, sheet_numbers, is_sublist}
use Rattle.rules.specs.Refuses.{condition_numbers}
use Rattle.rules.proofs.Call.{number_given}
use Rattle.rules.proofs.Determined.{NoneHold, none_zero}
use Rattle.rules.proofs.Refuses.{refuses_call, refuses_given, refuses_tested}
use Rattle.sigma.specs.Reads.{round_of}
use Rattle.formats.specs.Append.{append, appending, empty_file, starting}
use Rattle.formats.specs.Encode.{encode, encoding}
use Rattle.formats.specs.FileCalls.{FileCalls}
use Rattle.formats.specs.FileRefusals.{FileRefusals}
use Rattle.formats.specs.Load.{load, load_refusal, no_header, on_sheet}
use Rattle.formats.specs.Ours.{file_calls}
use Rattle.formats.specs.Refusals.{append_conditions, load_conditions}
use Rattle.formats.specs.RoundCalls.{check_round, checking, count_rounds, counting, fetch_round, fetching, no_round}
use Rattle.formats.specs.Sheet.{header_of, zeros64}
use Rattle.formats.proofs.Files.{check_number}
use Rattle.formats.proofs.Loads.{load_refused, entries_refused}
use Rattle.formats.proofs.Part.{part_refused, part_not_empty, place_refused}
use Rattle.formats.proofs.Refusals.{append_tests, check_tests, count_tests, empty_tests, encode_tests, load_tests, on_sheet_tests}
use Rattle.formats.proofs.Writing.{writing_refuses}

pub file_refusals : FileRefusals file_calls
unfolding condition_numbers is_sublist refusal_order sheet_numbers load load_refusal encode encoding count_rounds counting check_round
    checking fetch_round fetching empty_file starting append appending no_header zeros8 zeros64 no_round
file_refusals = record {
  loading = λ sheet.
      refuses_tested _ _ refl refl _ (load_tests sheet)
      (λ some.
      let refused = load_refused sheet some in
      let header = ap (λ (answer : Loaded). answer.header) refused in
      (header, ap (λ (answer : Loaded). answer.statement) refused, entries_refused sheet some));
  encoding = λ inst buffer. writing_refuses _ _ refl refl _ _ _ buffer (encode_tests inst buffer);
  counting = λ sheet file.
      refuses_call _ _ refl refl (on_sheet sheet (counting (header_of sheet) file)) (λ counted. counted.refusal) refl (λ n. refl)
      (λ counted. counted.count ≡ 0) (count_tests sheet file) (λ n. refl);
  checking = λ sheet file k.
      let call = on_sheet sheet (checking (header_of sheet) file k) in
      refuses_given _ _ refl refl (check_round sheet file k)
      (rw (check_number sheet file k) (number_given call _ (check_tests sheet file k))) (part_refused sheet file k);
  nowhere = place_refused;
  part = part_not_empty;
  reading = λ sheet file k.
      refuses_call _ _ refl refl (on_sheet sheet (fetching (header_of sheet) file k)) (λ fetched. fetched.refusal) refl (λ n. refl)
      (λ fetched. fetched.round ≡ round_of (replicate 8 0) 0 (replicate 8 0)) (check_tests sheet file k) (λ n. refl);
  starting = λ version buffer. writing_refuses _ _ refl refl _ _ _ buffer (empty_tests version buffer);
  appending = λ sheet buffer used round.
      let h = header_of sheet in
      writing_refuses _ _ refl refl _ _ _ buffer
      (on_sheet_tests sheet (appending h buffer used round) (append_conditions h buffer used round) (append_tests h buffer used round));
}

-- whatever calls meet demand 1: a sheet of which no condition holds loads
pub none_loads : {code : FileCalls} → FileRefusals code → (sheet : List ℕ) → NoneHold (load_conditions sheet)
    → (code.load sheet).refusal ≡ 0
none_loads d sheet none = none_zero (load_conditions sheet) _ none (d.loading sheet).given
