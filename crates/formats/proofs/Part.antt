-- The place and the bytes of one round, as a part of the caller's own file (01, "A round"): empty exactly where the check call
-- gives a number, else the record's.
-- Assumes nothing.
use Prim.Native.Nat.{ℕ, zero, suc, ◌+◌, ◌<◌, ◌≤◌}
use mathlib.Core.Path.{◌≡◌, refl, sym, ap, ◌∙◌}
use mathlib.Core.Logic.{◌↔◌, ◌≢◌}
use mathlib.Core.List.{List, []}
use native.Mathlib.Omega.{arith}
use lib.ListN.{length, take, drop, length-drop}
use lib.Seq.{length-take-le}
use Rattle.types.specs.declared.Header.{Header}
use Rattle.encoding.specs.Bytes.{AllBytes}
use Rattle.rules.specs.Call.{number_of}
use Rattle.rules.proofs.Call.{answer_refused, answer_value}
use Rattle.formats.specs.Load.{on_sheet}
use Rattle.formats.specs.Meaning.{IsRoundFile}
use Rattle.formats.specs.RoundCalls.{check_round, fetch_round, locate_round, locating, part_of_round}
use Rattle.formats.specs.RoundFile.{challenge_width, count_field, file_version, record_bytes, record_length, record_start}
use Rattle.formats.specs.Sheet.{header_of}
use Rattle.formats.proofs.Files.{check_number, check_runs, fetch_given, width_some}
use Rattle.formats.proofs.Records.{record_bytes_round_at, record_start_later}

-- a record of a file lies inside it
pub record_inside : {h : Header} {f : List ℕ} → IsRoundFile h f → (k : ℕ) → k < count_field f
    → record_start (challenge_width f) h k + record_length (challenge_width f) h ≤ length f
record_inside {h} {f} r k b = omega (arith, r.exact, record_start_later (challenge_width f) h k (count_field f) b)

module _ (s f : List ℕ) (k : ℕ) where
  -- where the check gives 0, the place is the record's
  pub place_given : check_round s f k ≡ 0
      → locate_round s f k
      ≡ record {
        offset = record_start (challenge_width f) (header_of s) k;
        length = record_length (challenge_width f) (header_of s);
      }
  unfolding locate_round locating number_of
  place_given e = answer_value (on_sheet s (locating (header_of s) f k)) (sym (check_number s f k) ∙ e)

  -- where it gives a number, the place is of no bytes
  pub place_refused : 0 < check_round s f k → locate_round s f k ≡ record { offset = 0; length = 0 }
  unfolding locate_round locating number_of
  place_refused some = answer_refused (on_sheet s (locating (header_of s) f k)) (rw (check_number s f k) at some)

  -- the place lies inside the file
  pub place_inside : (locate_round s f k).offset + (locate_round s f k).length ≤ length f
  place_inside = decide (check_round s f k) refl
    where
      decide : (n : ℕ) → check_round s f k ≡ n → (locate_round s f k).offset + (locate_round s f k).length ≤ length f
      decide zero e =
          let (l, r, b) = (check_runs s f k).0 e in
          rw (place_given e) (record_inside r k b)
      decide (suc n) e = rw (place_refused (omega arith)) (omega arith)

  -- where the check gives 0, the part is the record
  pub part_given : check_round s f k ≡ 0
      → part_of_round s f k
      ≡ take (record_length (challenge_width f) (header_of s)) (drop (record_start (challenge_width f) (header_of s) k) f)
  unfolding part_of_round
  part_given e = rw (place_given e)

  -- where it gives a number, the part is empty
  pub part_refused : 0 < check_round s f k → part_of_round s f k ≡ []
  unfolding part_of_round
  part_refused some = rw (place_refused some)

  -- a part that is given has a record's length
  pub part_length : check_round s f k ≡ 0 → length (part_of_round s f k) ≡ record_length (challenge_width f) (header_of s)
  part_length e =
      let (l, r, b) = (check_runs s f k).0 e in
      let start = record_start (challenge_width f) (header_of s) k in
      ap length (part_given e)
      ∙ length-take-le (record_length (challenge_width f) (header_of s)) (drop start f)
      (omega (arith, length-drop start f, record_inside r k b))

  -- the check gives 0 exactly where the part is not empty
  pub part_not_empty : (check_round s f k ≡ 0) ↔ (part_of_round s f k ≢ [])
  unfolding record_length challenge_width
  part_not_empty = (
    λ e nothing.
        let none : length (part_of_round s f k) ≡ 0 = ap length nothing in
        omega (arith, part_length e, (width_some (file_version f)).0),
    λ some. decide some (check_round s f k) refl,
  )
    where
      decide : part_of_round s f k ≢ [] → (n : ℕ) → check_round s f k ≡ n → check_round s f k ≡ 0
      decide some zero e = e
      decide some (suc n) e = absurd (some (part_refused (omega arith)))

  -- the part is the bytes of the round that is read
  pub part_bytes : AllBytes f → check_round s f k ≡ 0
      → part_of_round s f k ≡ record_bytes (challenge_width f) (header_of s) (fetch_round s f k).round
  part_bytes b e =
      let (l, r, inside) = (check_runs s f k).0 e in
      let start = record_start (challenge_width f) (header_of s) k in
      rw (fetch_given s f k e)
      (part_given e ∙ sym (record_bytes_round_at (challenge_width f) (header_of s) f start (record_inside r k inside) b))
