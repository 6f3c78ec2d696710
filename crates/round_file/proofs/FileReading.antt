-- The calls that read a round file, return by return. `tested` is what the test before the return answered.
-- Assumes nothing.
use Prim.Native.Nat.{ℕ, ◌+◌, ◌-◌, ◌≤◌, ◌<◌}
use mathlib.Core.Path.{◌≡◌, refl, sym, ap, ◌∙◌}
use mathlib.Core.Bool.{false}
use mathlib.Core.List.{List, []}
use native.Mathlib.Omega.{arith}
use lib.ListN.{length, take, drop}
use borrow.Author.Tests.{le-leb}
use Rattle.types.specs.declared.Counted.{Counted}
use Rattle.types.specs.declared.Header.{Header}
use Rattle.types.specs.declared.Part.{Part}
use Rattle.types.specs.declared.Round.{Round}
use Rattle.rules.specs.Call.{answer, number_of}
use Rattle.rules.proofs.Call.{answer_number, tested_refused, tested_value}
use Rattle.rules.proofs.Lowest.{clear_lowest, lowest_clear, lowest_earlier, pass, stop}
use Rattle.refusals.specs.declared.Refusal.{Refusal}
use Rattle.refusals.specs.Number.{number}
use Rattle.refusals.proofs.Positive.{call_answered, call_refused, number_positive}
use Rattle.formats.specs.Meaning.{IsRoundFile}
use Rattle.formats.specs.RoundCalls.{checking, counting, fetching, locate_round, locating, no_round, part_of_round}
use Rattle.formats.specs.RoundFile.{bad_file, challenge_width, count_field, record_length, record_start, round_at}
use Rattle.formats.proofs.Files.{file_passes, number_passes}
use Rattle.formats.proofs.Growing.{file_long}
use Rattle.formats.proofs.Part.{place_inside, record_inside}

module _ (h : Header) (f : List ℕ) {n : ℕ} (tested : n ≡ number_of (counting h f)) where
  -- the count of a file that passes is its field
  pub count_field_law : {count : ℕ} → n ≡ 0 → count ≡ count_field f → record { refusal = 0; count = count } ≡ answer (counting h f)
  unfolding counting
  count_field_law e is_field = rw is_field (tested_value (counting h f) tested e)

module _ (h : Header) (f : List ℕ) where
  -- the number in what counting answers is the call's
  pub count_number : {found : Counted} → found ≡ answer (counting h f) → found.refusal ≡ number_of (counting h f)
  unfolding counting
  count_number is_answer =
      ap (λ (found : Counted). found.refusal) is_answer
      ∙ answer_number (counting h f) (λ found. found.refusal) refl (λ n. refl)

  -- if that is 0, the count is the file's field
  pub count_found : {count : ℕ} → record { refusal = 0; count = count } ≡ answer (counting h f) → count ≡ count_field f
  unfolding counting
  count_found is_answer =
      ap (λ (found : Counted). found.count) (is_answer ∙ sym (call_answered (counting h f) (count_number is_answer)))

  module _ (k : ℕ) where
    -- a refused file's number is each round's
    pub check_file : (refusal : Refusal) → number refusal ≡ number_of (counting h f) → number refusal ≡ answer (checking h f k)
    unfolding counting checking number_of
    check_file refusal tested =
        let some : 0 < number_of (counting h f) = omega (arith, tested, number_positive refusal) in
        call_refused (checking h f k) refusal (tested ∙ sym (lowest_earlier (counting h f).refusals _ some))

    module _ (tested : 0 ≡ number_of (counting h f)) where
      -- a file that passes is a round file
      file_good : bad_file h f ≡ false
      unfolding counting number_of
      file_good = (clear_lowest (counting h f).refusals tt (sym tested)).0

      -- a round at or beyond the count is refused
      pub check_beyond : count_field f ≤ k → 13 ≡ answer (checking h f k)
      unfolding checking number_of
      check_beyond beyond =
          let number = pass 12 _ file_good ∙ stop 13 [] (le-leb (count_field f) k beyond) in
          tested_refused (checking h f k) (sym number) (λ (z : 13 ≡ 0). omega arith)

      -- a round before it is not
      pub check_passes : k < count_field f → 0 ≡ answer (checking h f k)
      unfolding checking number_of
      check_passes inside =
          tested_value (checking h f k) (sym (lowest_clear _ (file_good, ((number_passes f k).1 inside, tt)))) refl

module _ (h : Header) (f : List ℕ) (k : ℕ) where
  -- what was answered is the check's number
  check_number : {n : ℕ} → n ≡ answer (checking h f k) → n ≡ number_of (checking h f k)
  unfolding checking
  check_number answered = answered ∙ answer_number (checking h f k) (λ m. m) refl (λ m. refl)

  module _ (refusal : Refusal) (answered : number refusal ≡ answer (checking h f k)) where
    -- a refused round has no place
    pub place_none : record { offset = 0; length = 0 } ≡ answer (locating h f k)
    unfolding locating number_of
    place_none = call_refused (locating h f k) refusal (check_number answered)

    -- and is read as zeros
    pub fetch_none : record { round = no_round; refusal = number refusal } ≡ answer (fetching h f k)
    unfolding fetching number_of
    fetch_none = call_refused (fetching h f k) refusal (check_number answered)

  module _ (answered : 0 ≡ answer (checking h f k)) where
    -- a round that passes is one of a round file of at most 512
    round_there : IsRoundFile h f × (k < count_field f)
    unfolding checking number_of
    round_there =
        let (file, (number, none)) = clear_lowest (checking h f k).refusals tt (sym (check_number answered)) in
        ((file_passes h f).0 file, (number_passes f k).0 number)

    -- its number is below 512
    pub number_small : k < 512
    number_small = let (file, inside) = round_there in omega (arith, file.few)

    -- and the file has the seven bytes before the records
    pub seven_there : 7 ≤ length f
    seven_there = file_long round_there.0

    module _ {width start : ℕ} (is_width : width ≡ challenge_width f) (is_start : start ≡ record_start width h k) where
      -- its place is its record's
      pub place_record : {size : ℕ} → size ≡ record_length width h → record { offset = start; length = size } ≡ answer (locating h f k)
      unfolding locating number_of
      place_record is_size =
          rw (is_start, is_size, is_width) (call_answered (locating h f k) (check_number answered))

      -- which lies inside the file
      pub record_fits : start + record_length width h ≤ length f
      record_fits = let (file, inside) = round_there in rw (is_start, is_width) (record_inside file k inside)

      -- and from which it is read
      pub fetch_record : {round : Round} → round ≡ round_at width h f start
          → record { round = round; refusal = 0 } ≡ answer (fetching h f k)
      unfolding fetching number_of
      fetch_record is_round =
          rw (is_round, is_start, is_width) (call_answered (fetching h f k) (check_number answered))

module _ (s f : List ℕ) (k : ℕ) {place : Part} (found : place ≡ locate_round s f k) where
  -- a round's place lies inside the file
  pub place_within : place.offset + place.length ≤ length f
  place_within = rw found (place_inside s f k)

  -- what stands there is the part
  pub part_placed : take (place.offset + place.length - place.offset) (drop place.offset f) ≡ part_of_round s f k
  unfolding part_of_round
  part_placed =
      let same : place.offset + place.length - place.offset ≡ place.length = omega arith in
      rw (same, found)
