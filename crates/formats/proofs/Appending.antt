-- The record writer: a refused call changes no byte and answers length 0; a call that is not refused stores the record straight
-- after the bytes in use, raises the count field by one and changes no other byte.
-- Assumes nothing.
use Prim.Native.Nat.{ℕ, ◌+◌, ◌^◌, ◌<◌, ◌≤◌}
use mathlib.Core.Path.{◌≡◌, refl, sym, ap, subst, ◌∙◌}
use mathlib.Core.Logic.{◌↔◌, ◌⊎◌, ⊎_elim}
use mathlib.Core.Bool.{false}
use mathlib.Core.List.{List}
use native.Mathlib.Omega.{arith}
use lib.ListN.{length, get_or, take, drop, length-append}
use lib.Seq.{sets, length-sets, length-take-le}
use Rattle.types.specs.declared.Header.{Header}
use Rattle.types.specs.declared.Round.{Round}
use Rattle.encoding.specs.Bytes.{bytes_of}
use Rattle.encoding.proofs.Bytes.{length_bytes_of, length_bytes_of_each, number_at_sets, number_at_take}
use Rattle.encoding.proofs.Replaced.{get_d_sets_before, get_d_sets_behind, drop_sets_behind, part_sets}
use Rattle.lists.proofs.Places.{length_places}
use Rattle.rules.specs.Call.{number_of}
use Rattle.rules.proofs.Call.{answer_number}
use Rattle.rules.proofs.Says.{says_false}
use Rattle.formats.specs.Append.{append, appended, appending, wide_challenge}
use Rattle.formats.specs.Load.{on_sheet}
use Rattle.formats.specs.Meaning.{Loads, InUse}
use Rattle.formats.specs.Outcome.{Keeps, Adds}
use Rattle.formats.specs.RoundFile.{count_field, file_version, record_bytes, record_length, record_start, width_in_use, width_of}
use Rattle.formats.specs.Sheet.{header_of}
use Rattle.formats.proofs.Files.{in_use_passes, record_behind}
use Rattle.formats.proofs.OnSheet.{on_sheet_runs}
use Rattle.formats.proofs.Tests.{says_wide_challenge}
use Rattle.formats.proofs.Writing.{short_passes, written_refused, written_given}

-- a record is as long as 01 says
pub length_record_bytes : (width : ℕ) (h : Header) (round : Round) → length (record_bytes width h round) ≡ record_length width h
unfolding record_bytes record_length
length_record_bytes width h round =
    simp (length-append, length_bytes_of, length_bytes_of_each, length_places) (omega arith)

-- a record of the version can hold the challenge
abbrev pub Narrow : ℕ → ℕ → Type 0
Narrow version c = version ≡ 2 → c ≤ 65535

-- not 15 for the writer
pub narrow_passes : (version c : ℕ) → (wide_challenge version c ≡ false) ↔ Narrow version c
narrow_passes version c =
    let wide = says_false (says_wide_challenge version c) in (
      λ e two. let low : ¬ (65535 < c) = λ high. wide.0 e (two, high) in omega arith,
      λ narrow. wide.1 (λ (two, high). omega (arith, narrow two)),
    )

-- a challenge that fits the width of a version is one that its records can hold
pub width_narrow : (version c : ℕ) → c < 256 ^ width_of version → Narrow version c
unfolding width_of
width_narrow version c low two = let fits : c < 256 ^ 2 = rw two at low in omega arith

module _ {h : Header} {buffer : List ℕ} {used : ℕ} (u : InUse h buffer used) where
  -- the bytes in use end where the next record begins
  pub in_use_length : used ≡ record_start (width_in_use buffer used) h (count_field (take used buffer))
  in_use_length = sym (length-take-le used buffer u.inside) ∙ u.file.exact

  -- they are at least seven
  pub in_use_long : 7 ≤ used
  in_use_long = omega (arith, in_use_length, record_behind (width_in_use buffer used) h (count_field (take used buffer)))

  -- their count field is the buffer's
  pub in_use_count : count_field (take used buffer) ≡ count_field buffer
  unfolding count_field
  in_use_count = number_at_take 2 used buffer 5 in_use_long

module _ (s buffer : List ℕ) (used : ℕ) (round : Round) where
  -- the number that it answers
  append_number : (append s buffer used round).answer.refusal ≡ number_of (on_sheet s (appending (header_of s) buffer used round))
  unfolding append appending
  append_number =
      answer_number (on_sheet s (appending (header_of s) buffer used round)) (λ w. w.answer.refusal) refl (λ n. refl)

  -- it runs exactly where the sheet loads, the bytes in use are a round file with room, their version can hold the challenge and
  -- the buffer the record
  pub append_runs : ((append s buffer used round).answer.refusal ≡ 0)
      ↔ (Loads s × InUse (header_of s) buffer used × Narrow (file_version (take used buffer)) round.challenge
      × (used + record_length (width_in_use buffer used) (header_of s) ≤ length buffer))
  unfolding appending
  append_runs =
      let h = header_of s in
      let runs = on_sheet_runs s (appending h buffer used round) tt in
      let file = in_use_passes h buffer used in
      let hold = narrow_passes (file_version (take used buffer)) round.challenge in
      let room = short_passes buffer (used + record_length (width_in_use buffer used) h) in (
        λ e.
            let (l, (inside, (narrow, (fits, none)))) = runs.0 (sym append_number ∙ e) in
            (l, file.0 inside, hold.0 narrow, room.0 fits),
        λ (l, u, narrow, fits). append_number ∙ runs.1 (l, (file.1 u, (hold.1 narrow, (room.1 fits, tt)))),
      )

  -- a refused call keeps the buffer
  pub append_refused : 0 < (append s buffer used round).answer.refusal → Keeps buffer (append s buffer used round)
  unfolding append appending
  append_refused some = written_refused _ _ _ _ some

  -- else the answer is the new count of bytes in use, and the buffer has the record and the raised count field
  pub append_given : (append s buffer used round).answer.refusal ≡ 0
      → append s buffer used round
      ≡ record {
        answer = record { refusal = 0; length = used + record_length (width_in_use buffer used) (header_of s) };
        buffer = appended (header_of s) buffer used round;
      }
  unfolding append appending
  append_given e = written_given _ _ _ _ e

-- ---- the buffer of the record writer

module _ {h : Header} {buffer : List ℕ} {used : ℕ} (u : InUse h buffer used) (round : Round)
    (fits : used + record_length (width_in_use buffer used) h ≤ length buffer) where
  -- the count field has the bytes of one more
  appended_raised : take 2 (drop 5 (appended h buffer used round)) ≡ bytes_of 2 (count_field buffer + 1)
  unfolding appended
  appended_raised =
      let raised = bytes_of 2 (count_field buffer + 1) in
      let stored = sets buffer used (record_bytes (width_in_use buffer used) h round) in
      let size = length-sets buffer used (record_bytes (width_in_use buffer used) h round) in
      let width = length_bytes_of 2 (count_field buffer + 1) in
      subst (λ (n : ℕ). take n (drop 5 (sets stored 5 raised)) ≡ raised) width
      (part_sets stored 5 raised (omega (arith, in_use_long u)))

  -- so it is one more, as a number
  pub appended_counted : count_field (appended h buffer used round) ≡ count_field buffer + 1
  unfolding appended count_field
  appended_counted =
      let stored = sets buffer used (record_bytes (width_in_use buffer used) h round) in
      let size = length-sets buffer used (record_bytes (width_in_use buffer used) h round) in
      number_at_sets 2 (count_field buffer + 1) stored 5 (omega (arith, in_use_long u)) (omega (arith, u.room, in_use_count u))

  -- the record stands straight after the bytes in use
  pub appended_stored : take (record_length (width_in_use buffer used) h) (drop used (appended h buffer used round)) ≡ record_bytes (width_in_use buffer used) h round
  unfolding appended
  appended_stored =
      let raised = bytes_of 2 (count_field buffer + 1) in
      let bytes = record_bytes (width_in_use buffer used) h round in
      let size = length_record_bytes (width_in_use buffer used) h round in
      ap (λ (l : List ℕ). take (record_length (width_in_use buffer used) h) l)
      (drop_sets_behind used (sets buffer used bytes) 5 raised (omega (arith, length_bytes_of 2 (count_field buffer + 1), in_use_long u)))
      ∙ ap (λ (k : ℕ). take k (drop used (sets buffer used bytes))) (sym size)
      ∙ part_sets buffer used bytes (omega arith)

  -- no byte outside of the record and the count field is changed
  pub appended_others : (j : ℕ) → (j < 5) ⊎ (7 ≤ j) → (j < used) ⊎ (used + record_length (width_in_use buffer used) h ≤ j)
      → get_or (appended h buffer used round) j 0 ≡ get_or buffer j 0
  unfolding appended
  appended_others j outside apart =
      let bytes = record_bytes (width_in_use buffer used) h round in
      let raised = bytes_of 2 (count_field buffer + 1) in
      let size = length_record_bytes (width_in_use buffer used) h round in
      let width = length_bytes_of 2 (count_field buffer + 1) in
      ⊎_elim (λ (b : j < 5). get_d_sets_before (sets buffer used bytes) 5 raised j 0 b)
      (λ (b : 7 ≤ j). get_d_sets_behind (sets buffer used bytes) 5 raised j 0 (omega arith)) outside
      ∙ ⊎_elim (λ (b : j < used). get_d_sets_before buffer used bytes j 0 b)
      (λ (b : used + record_length (width_in_use buffer used) h ≤ j). get_d_sets_behind buffer used bytes j 0 (omega arith)) apart

-- the buffer keeps its length
pub appended_size : (h : Header) (buffer : List ℕ) (used : ℕ) (round : Round)
    → length (appended h buffer used round) ≡ length buffer
unfolding appended
appended_size h buffer used round = simp length-sets

-- what stands behind the record is as it was
pub appended_behind : (h : Header) (buffer : List ℕ) (used : ℕ) (round : Round) (n : ℕ)
    → 7 ≤ n → used + record_length (width_in_use buffer used) h ≤ n → drop n (appended h buffer used round) ≡ drop n buffer
unfolding appended
appended_behind h buffer used round n long behind =
    let bytes = record_bytes (width_in_use buffer used) h round in
    let raised = length_bytes_of 2 (count_field buffer + 1) in
    drop_sets_behind n (sets buffer used bytes) 5 (bytes_of 2 (count_field buffer + 1)) (omega arith)
    ∙ drop_sets_behind n buffer used bytes (omega (arith, length_record_bytes (width_in_use buffer used) h round))

-- a call that is not refused adds the record and changes nothing else
pub append_adds : (s buffer : List ℕ) (used : ℕ) (round : Round) → (append s buffer used round).answer.refusal ≡ 0
    → Adds (header_of s) round buffer used (append s buffer used round)
append_adds s buffer used round e =
    let (l, u, narrow, fits) = (append_runs s buffer used round).0 e in
    rw (append_given s buffer used round e) (record {
      number = refl;
      answered = refl;
      stored = appended_stored u round fits;
      raised = appended_raised u round fits;
      others = appended_others u round fits;
      size = appended_size (header_of s) buffer used round;
    })
