-- The records of a round file one by one: the test of their challenges, and one record more in the other version.
-- Assumes nothing.
use Prim.Native.Nat.{ℕ, suc, ◌+◌, ◌-◌, ◌*◌, ◌<◌, ◌≤◌}
use mathlib.Core.Path.{◌≡◌, refl, sym, ap, ◌∙◌}
use mathlib.Core.Bool.{Bool, true, false}
use mathlib.Core.List.{List, [], ◌∷◌, ◌++◌, append-nil, flatten, map, map-append}
use native.Mathlib.Numerals.{add-one}
use native.Mathlib.Omega.{arith}
use Rattle.std.proofs.Common.{zero-add}
use Rattle.std.specs.Bool.{MatchBool}
use Rattle.std.specs.List.{AllWithin, HoldsAt, range_with_len}
use Rattle.std.proofs.lemmas.List.FromFn.{get_or-range_with_len, length-range_with_len}
use lib.ListN.{length, take, drop}
use lib.Seq.{length-sets, sets}
use Rattle.types.specs.declared.Header.{Header}
use Rattle.types.specs.declared.Round.{Round}
use Rattle.encoding.specs.Bytes.{number_at}
use Rattle.encoding.specs.Placed.{Placed}
use Rattle.encoding.proofs.Placed.{placed_behind}
use Rattle.encoding.proofs.Replaced.{part_replaced_front}
use Rattle.numbers.specs.Search.{any}
use Rattle.numbers.proofs.Search.{any_false, any_of}
use Rattle.lists.specs.Places.{items_at, tabulate}
use Rattle.lists.proofs.Places.{tabulate_suc}
use Rattle.lists.proofs.Rows.{flatten_append}
use Rattle.formats.specs.Append.{wide_challenge}
use Rattle.formats.specs.Convert.{other_version}
use Rattle.formats.specs.Meaning.{IsRoundFile}
use Rattle.formats.specs.RoundFile.{challenge_width, count_field, file_version, record_bytes, record_length, record_start, round_at}
use Rattle.formats.proofs.Appending.{length_record_bytes}
use Rattle.formats.proofs.Part.{record_inside}
use Rattle.formats.proofs.Records.{record_start_later, record_start_suc}
use Rattle.converter.specs.Records.{other_records, other_width}

-- a buffer is as long as before bytes were placed in it
pub same_size : {l xs m : List ℕ} {at next : ℕ} → Placed l at xs m next → length m ≡ length l
same_size {l} {xs} {at = at} placed = ap length placed.stored ∙ length-sets l at xs

-- what was answered of the places below n one by one, by `true` where some test passes, is whether one does
pub any_told : (p : ℕ → Bool) {n size : ℕ} → n ≡ size → {told : Bool}
    → MatchBool told ((k : ℕ) × (k < length (range_with_len 0 n)) × HoldsAt (λ k. p k ≡ true) (range_with_len 0 n) k)
    (AllWithin (λ k. p k ≡ false) (range_with_len 0 n) 0 (length (range_with_len 0 n)))
    → told ≡ any size p
any_told p {n} same {told = true} (k, within, holds) =
    let less : k < n = rw length-range_with_len at within in
    sym (any_of _ p k (omega arith) (rw (get_or-range_with_len 0 n k 0 less, zero-add) at (holds 0)))
any_told p {n} same {told = false} all =
    sym ((any_false _ p).1 (λ k below.
    let less : k < n = omega arith in
    rw (get_or-range_with_len 0 n k 0 less, zero-add) at (all k 0 (omega arith) (rw length-range_with_len less))))

module _ (h : Header) (f : List ℕ) where
  -- the values of record k
  abbrev pub round_of : ℕ → Round
  round_of k = round_at (challenge_width f) h f (record_start (challenge_width f) h k)

  -- the other version cannot hold the challenge of record k
  abbrev pub wide_at : ℕ → Bool
  wide_at k = wide_challenge (other_version (file_version f)) (round_of k).challenge

  module _ (k : ℕ) {from start : ℕ} (is_from : from ≡ challenge_width f) (is_start : start ≡ record_start from h k) where
    -- a record lies inside its file
    pub record_there : IsRoundFile h f → k < count_field f → start + record_length from h ≤ length f
    record_there file inside = rw (is_start, is_from) (record_inside file k inside)

    -- the test of its challenge
    pub wide_tested : {version challenge : ℕ} {wide : Bool} → version ≡ other_version (file_version f)
        → challenge ≡ number_at from f (start + 4 * h.rows) → wide ≡ wide_challenge version challenge → wide_at k ≡ wide
    unfolding round_at
    wide_tested is_version is_challenge tested = rw (tested, is_challenge, is_version, is_start, is_from)

    -- the values that are read of it
    pub round_read : {round : Round} → round ≡ round_at from h f start → round ≡ round_of k
    round_read read = rw (read, is_start, is_from)

  -- before the first record nothing is stored
  pub none_stored : (l : List ℕ) → Placed l 7 (other_records h f 0) l (record_start (other_width f) h 0)
  unfolding other_records tabulate items_at flatten record_start
  none_stored l = record { stored = refl; behind = omega arith }

  -- one record more, at the end
  records_suc : (k : ℕ) → other_records h f (suc k) ≡ other_records h f k ++ record_bytes (other_width f) h (round_of k)
  unfolding other_records flatten
  records_suc k =
      let bytes : Round → List ℕ = record_bytes (other_width f) h in
      ap (λ (rounds : List Round). flatten (map bytes rounds)) (tabulate_suc k round_of)
      ∙ ap flatten (map-append bytes (tabulate k round_of) (round_of k ∷ []))
      ∙ flatten_append (map bytes (tabulate k round_of)) (bytes (round_of k) ∷ [])
      ∙ ap (λ (l : List ℕ). flatten (map bytes (tabulate k round_of)) ++ l) (append-nil (bytes (round_of k)))

  module _ (k : ℕ) {to at : ℕ} (is_to : to ≡ other_width f) (is_at : at ≡ record_start to h k) where
    -- a buffer that can hold the records has room for record k
    pub record_room : (size : ℕ) → record_start (other_width f) h (count_field f) ≤ size → k < count_field f
        → at + record_length to h ≤ size
    record_room size room inside =
        rw (is_at, is_to) (omega (arith, record_start_later (other_width f) h k (count_field f) inside))

    -- the record stored behind those before it
    pub record_stored : {l m part : List ℕ} {round : Round}
        → Placed l 7 (other_records h f k) m (record_start (other_width f) h k)
        → at + record_length to h ≤ length m → round ≡ round_of k
        → part ≡ sets (take (length m - at) (drop at m)) 0 (record_bytes to h round)
        → Placed l 7 (other_records h f (k + 1)) (take at m ++ (part ++ drop (length m - at) (drop at m)))
        (record_start (other_width f) h (k + 1))
    record_stored {m = m} {round = round} before room is_round is_part =
        let size = length_record_bytes to h round in
        let back = part_replaced_front at (length m - at) m (record_bytes to h round) (omega arith) in
        rw (add-one k, records_suc k, is_part, back) (placed_behind before (record {
          stored = rw (is_at, is_round, is_to);
          behind = omega (arith, record_start_suc (other_width f) h k, length_record_bytes (other_width f) h (round_of k));
        }))
