-- The bytes of a record: they are read as the round that was written, and a round that was read is written as its bytes. The
-- width of a stored challenge is a parameter.
-- Assumes nothing.
use Prim.Native.Nat.{ℕ, suc, ◌+◌, ◌*◌, ◌^◌, ◌<◌, ◌≤◌}
use mathlib.Core.Path.{◌≡◌, refl, ap, ◌∙◌}
use mathlib.Core.List.{List, ◌++◌, append_assoc}
use native.Mathlib.Nat.{mul-le-mul_right, suc-mul}
use native.Mathlib.Omega.{arith}
use lib.ListN.{length, get_or, take, drop, length-append}
use lib.Seq.{take-add, drop-drop}
use Rattle.types.specs.declared.Header.{Header}
use Rattle.types.specs.declared.Round.{Round}
use Rattle.encoding.specs.Bytes.{bytes_of, bytes_of_each, number_at, AllBytes}
use Rattle.encoding.proofs.Bounds.{below_places}
use Rattle.encoding.proofs.Bytes.{
  bytes_of_number_at,
  bytes_of_each_items_at,
  length_bytes_of,
  length_bytes_of_each,
  number_at_agree,
  number_behind,
  numbers_behind,
}
use Rattle.encoding.proofs.Words.{number_fits}
use Rattle.lists.specs.Places.{items_at, pad8, places}
use Rattle.lists.proofs.Places.{get_d_items_at, get_d_pad8, items_at_agree, length_items_at, length_places, places_pad8, places_whole}
use Rattle.sigma.specs.Reads.{padded_round}
use Rattle.formats.specs.RoundFile.{record_bytes, record_length, record_start, round_at}
use Rattle.formats.specs.Rounds.{Words}

-- the next record begins a record's length later
pub record_start_suc : (width : ℕ) (h : Header) (k : ℕ) → record_start width h (suc k) ≡ record_start width h k + record_length width h
unfolding record_start
record_start_suc width h k = omega (arith, suc-mul k (record_length width h))

-- a record ends at or before the beginning of each later one
pub record_start_later : (width : ℕ) (h : Header) (k n : ℕ) → k < n → record_start width h k + record_length width h ≤ record_start width h n
unfolding record_start
record_start_later width h k n b =
    omega (arith, suc-mul k (record_length width h), mul-le-mul_right {m = suc k} {n = n} (record_length width h) b)

-- equal bytes are read as the same round
pub round_at_agree : (width : ℕ) (h : Header) (s t : List ℕ) (at at' : ℕ)
    → ((k : ℕ) → k < record_length width h → get_or s (at + k) 0 ≡ get_or t (at' + k) 0) → round_at width h s at ≡ round_at width h t at'
unfolding round_at record_length
round_at_agree width h s t at at' same =
    let t₁ = run at at' 0 h.rows (omega arith) (omega arith) (omega arith) in
    let c₁ = number width (at + 4 * h.rows) (at' + 4 * h.rows) (4 * h.rows) refl refl (omega arith) in
    let r₁ =
    run (at + 4 * h.rows + width) (at' + 4 * h.rows + width) (4 * h.rows + width) h.columns (omega arith) (omega arith)
    (omega arith) in
    λ j. record { commitment = pad8 0 (t₁ j); challenge = c₁ j; response = pad8 0 (r₁ j) }
  where
    number : (w from from' skip : ℕ) → from ≡ at + skip → from' ≡ at' + skip → skip + w ≤ record_length width h
        → number_at w s from ≡ number_at w t from'
    number w from from' skip e e' fits =
        number_at_agree w s t from from' (λ k b.
        ap (λ (i : ℕ). get_or s i 0) (omega arith) ∙ same (skip + k) (omega arith) ∙ ap (λ (i : ℕ). get_or t i 0) (omega arith))

    run : (from from' skip n : ℕ) → from ≡ at + skip → from' ≡ at' + skip → skip + 4 * n ≤ record_length width h
        → items_at (number_at 4 s) from 4 n ≡ items_at (number_at 4 t) from' 4 n
    run from from' skip n e e' fits =
        items_at_agree (number_at 4 s) (number_at 4 t) from 4 from' 4 n
        (λ j b. number 4 (from + 4 * j) (from' + 4 * j) (skip + 4 * j) (omega arith) (omega arith) (omega arith))

-- the bytes of a record, read behind xs, give the round that they were written from
pub round_at_record_bytes : (width : ℕ) (h : Header) (round : Round) (xs ys : List ℕ)
    → ((j : ℕ) → j < h.rows → get_or round.commitment j 0 < 2 ^ 32) → round.challenge < 256 ^ width
    → ((j : ℕ) → j < h.columns → get_or round.response j 0 < 2 ^ 32)
    → round_at width h (xs ++ record_bytes width h round ++ ys) (length xs) ≡ padded_round h round
unfolding round_at record_bytes padded_round
round_at_record_bytes width h round xs ys small low few =
    let t = bytes_of_each 4 (places h.rows round.commitment) in
    let c = bytes_of width round.challenge in
    let r = bytes_of_each 4 (places h.columns round.response) in
    let s = xs ++ (t ++ c ++ r) ++ ys in
    let commitment =
    numbers_behind 4 (places h.rows round.commitment) xs (c ++ r ++ ys) s (length xs) h.rows (simp append_assoc) refl
    (length_places h.rows round.commitment) (below_places (256 ^ 4) h.rows round.commitment (omega arith) small) in
    let challenge =
    number_behind width round.challenge (xs ++ t) (r ++ ys) s (length xs + 4 * h.rows) (simp append_assoc)
    (simp (length-append, length_bytes_of_each, length_places)) low in
    let response =
    numbers_behind 4 (places h.columns round.response) (xs ++ t ++ c) ys s (length xs + 4 * h.rows + width) h.columns
    (simp append_assoc) (simp (length-append, length_bytes_of, length_bytes_of_each, length_places))
    (length_places h.columns round.response) (below_places (256 ^ 4) h.columns round.response (omega arith) few) in
    λ j. record { commitment = pad8 0 (commitment j); challenge = challenge j; response = pad8 0 (response j) }

-- the places of words that were read are the words
read_places : (s : List ℕ) (from n : ℕ) → places n (pad8 0 (items_at (number_at 4 s) from 4 n)) ≡ items_at (number_at 4 s) from 4 n
read_places s from n = places_pad8 n _ ∙ places_whole n _ (length_items_at (number_at 4 s) from 4 n)

-- the bytes of a round that was read are those that it was read from
pub record_bytes_round_at : (width : ℕ) (h : Header) (s : List ℕ) (at : ℕ) → at + record_length width h ≤ length s → AllBytes s
    → record_bytes width h (round_at width h s at) ≡ take (record_length width h) (drop at s)
unfolding round_at record_bytes record_length
record_bytes_round_at width h s at fits b =
    let f = number_at 4 s in
    let seam : at + (4 * h.rows + width) ≡ at + 4 * h.rows + width = omega arith in
    let t = ap (bytes_of_each 4) (read_places s at h.rows) ∙ bytes_of_each_items_at 4 s at h.rows (omega arith) b in
    let c = bytes_of_number_at width s (at + 4 * h.rows) (omega arith) b in
    let r =
    ap (bytes_of_each 4) (read_places s (at + 4 * h.rows + width) h.columns)
    ∙ bytes_of_each_items_at 4 s (at + 4 * h.rows + width) h.columns (omega arith) b in
    rw (
      t,
      c,
      r,
      take-add (4 * h.rows + width) (4 * h.columns) (drop at s),
      take-add (4 * h.rows) width (drop at s),
      drop-drop (4 * h.rows) at s,
      drop-drop (4 * h.rows + width) at s,
      seam,
    )

-- a round that was read is what is stored of it
pub round_at_padded : (width : ℕ) (h : Header) (s : List ℕ) (at : ℕ) → padded_round h (round_at width h s at) ≡ round_at width h s at
unfolding round_at padded_round
round_at_padded width h s at = rw (read_places s at h.rows, read_places s (at + 4 * h.rows + width) h.columns)

-- a round that was read from bytes has 32-bit values and a challenge of the width
pub round_at_words : (width : ℕ) (h : Header) (s : List ℕ) (at : ℕ) → AllBytes s → Words width h (round_at width h s at)
unfolding round_at
round_at_words width h s at b = record {
  commitment = λ j less. read_fits at h.rows j less;
  challenge = number_fits width s (at + 4 * h.rows) b;
  response = λ j less. read_fits (at + 4 * h.rows + width) h.columns j less;
}
  where
    read_fits : (from n j : ℕ) → j < n → get_or (pad8 0 (items_at (number_at 4 s) from 4 n)) j 0 < 2 ^ 32
    read_fits from n j less =
        rw (get_d_pad8 0 (items_at (number_at 4 s) from 4 n) j, get_d_items_at (number_at 4 s) from 4 n j 0 less)
        (omega (arith, number_fits 4 s (from + 4 * j) b))
