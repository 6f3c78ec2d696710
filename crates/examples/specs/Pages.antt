-- The starred pages, texts of the marker and lines of the reason: what the definitions give is what 01 and 02 print.
-- Assumes nothing.
use Rattle.std.specs.Prelude.{ℕ, ◌≡◌, replicate, take}
use mathlib.Core.List.{List, [], ◌∷◌, ◌++◌, flatten, map}
use Rattle.std.proofs.lemmas.List.Edits.{sets}
use Rattle.types.specs.declared.Round.{Round}
use Rattle.lists.specs.Places.{places}
use Rattle.encoding.specs.Text.{ascii}
use Rattle.examples.specs.MarkerExample.{example_file, example_text, narrow_file}
use Rattle.examples.specs.Sheets.{
  four_bytes,
  small_sheet,
  schnorr_sheet,
  okamoto_sheet,
  diffie_hellman_sheet,
  product_sheet,
  root_sheet,
}
use Rattle.formats.specs.Convert.{convert}
use Rattle.formats.specs.Load.{load_refusal}
use Rattle.formats.specs.Sheet.{header_of}
use Rattle.runs.specs.Calls.{judge_round, simulate_commitment, extract_witness}
use Rattle.runs.specs.Marker.{marker_text}
use Rattle.runs.specs.Ours.{told, honest_round}
use Rattle.runs.specs.Prover.{new_prover, commit}
use Rattle.sigma.specs.Answer.{outcome}
use Rattle.sigma.specs.Reads.{round_of}
use Rattle.reasons.specs.Reason.{reason_text}

-- an array of eight places; those beyond the values hold 99, which no call may read
unfoldable pub array : List ℕ → List ℕ
array values = take 8 (values ++ replicate 8 99)

-- a round of one row and one column
unfoldable pub small_round : ℕ → ℕ → ℕ → Round
small_round t c r = round_of (array (t ∷ [])) c (array (r ∷ []))

-- what a run of both sessions gives: the commitment, the response and the verdict's values, of which the last 1 is accepted
unfoldable pub run : List ℕ → List ℕ → List ℕ → ℕ → List ℕ
run sheet witness nonce c =
    let round : Round = honest_round sheet (array witness) c (array nonce) in
    places (header_of sheet).rows round.commitment ++ places (header_of sheet).columns round.response ++
    (outcome (told sheet round).verdict).values

-- the witness that two rounds give, and that the same rounds give when swapped
unfoldable pub both_ways : List ℕ → Round → Round → List ℕ
both_ways sheet first second =
    places (header_of sheet).columns (extract_witness sheet first second).values ++
    places (header_of sheet).columns (extract_witness sheet second first).values

-- the number that judging the round (t, c, r) is refused with, 0 where it is not
unfoldable pub judging : List ℕ → ℕ → ℕ → ℕ → ℕ
judging sheet t c r = (outcome (judge_round sheet (small_round t c r))).number

-- a file that has the round (t, c, r) so many times, for numbers below 256
unfoldable pub repeated : ℕ → ℕ → ℕ → ℕ → List ℕ
repeated count t c r =
    0x52 ∷ 0x4E ∷ 0x44 ∷ 0 ∷ 1 ∷ 0 ∷ count ∷ [] ++ flatten (replicate count (four_bytes t ++ four_bytes c ++ four_bytes r))

-- the line of the reason on page A's sheet and a file of the one round (t, c, r)
unfoldable pub reason_on : ℕ → ℕ → ℕ → List ℕ
reason_on t c r = reason_text schnorr_sheet (repeated 1 t c r)

-- the starred pages, A to J, texts of the marker and lines of the reason: what the definitions give is what 01 and 02 print
pub record EveryPage : Type 0 where
  pub A : run schnorr_sheet (7 ∷ []) (5 ∷ []) 3 ≡ 9 ∷ 4 ∷ 1 ∷ []
  pub B : both_ways schnorr_sheet (small_round 9 3 4) (small_round 9 1 1) ≡ 7 ∷ 7 ∷ []
  pub C : places 1 (simulate_commitment schnorr_sheet 3 (array (0 ∷ []))).values ≡ 2 ∷ []
  pub D :
      run okamoto_sheet (1 ∷ 2 ∷ []) (0 ∷ 0 ∷ []) 1 ++ run okamoto_sheet (6 ∷ 0 ∷ []) (6 ∷ 2 ∷ []) 1
      ≡ 1 ∷ 1 ∷ 2 ∷ 1 ∷ 1 ∷ 1 ∷ 2 ∷ 1 ∷ []
  pub E : run diffie_hellman_sheet (7 ∷ []) (5 ∷ []) 3 ≡ 9 ∷ 6 ∷ 4 ∷ 1 ∷ []
  pub F : places 2 (commit product_sheet new_prover (array (2 ∷ 1 ∷ 0 ∷ []))).values ≡ 12 ∷ 9 ∷ []
  pub G : run root_sheet (2 ∷ []) (3 ∷ []) 1 ++ run root_sheet (2 ∷ []) (3 ∷ []) 3 ≡ 33 ∷ 6 ∷ 1 ∷ 33 ∷ 24 ∷ 1 ∷ []
  pub H : both_ways root_sheet (small_round 33 1 6) (small_round 33 3 24) ≡ 2 ∷ 2 ∷ []
  pub I :
      map load_refusal (small_sheet 23 11 11 2 13 ∷ small_sheet 23 11 12 2 13 ∷ small_sheet 31 15 3 1 1 ∷ small_sheet 31 15 4 1 1 ∷ [])
      ≡ 0 ∷ 8 ∷ 0 ∷ 8 ∷ []
  pub J : judging schnorr_sheet 5 0 0 ∷ judging schnorr_sheet 9 0 10 ∷ judging schnorr_sheet 9 0 11 ∷ [] ≡ 14 ∷ 0 ∷ 16 ∷ []
  -- the marker's example at the level 7; on a file of no rounds it prints rounds 0 and fail at the least level, on a sheet of no
  -- bytes sheet 2 and on a file of no bytes file 12, though there is no level, and on a level of no bytes level 25
  pub marker : marker_text schnorr_sheet example_file (7 ∷ []) ≡ example_text
  pub no_rounds_law :
      marker_text schnorr_sheet (take 5 example_file ++ 0 ∷ 0 ∷ []) (1 ∷ [])
      ≡ 0x72 ∷ 0x6F ∷ 0x75 ∷ 0x6E ∷ 0x64 ∷ 0x73 ∷ 0x20 ∷ 0x30 ∷ 0x0A ∷ 0x66 ∷ 0x61 ∷ 0x69 ∷ 0x6C ∷ 0x0A ∷ []
  pub no_sheet : marker_text [] example_file [] ≡ 0x73 ∷ 0x68 ∷ 0x65 ∷ 0x65 ∷ 0x74 ∷ 0x20 ∷ 0x32 ∷ 0x0A ∷ []
  pub no_file : marker_text schnorr_sheet [] [] ≡ 0x66 ∷ 0x69 ∷ 0x6C ∷ 0x65 ∷ 0x20 ∷ 0x31 ∷ 0x32 ∷ 0x0A ∷ []
  pub no_level : marker_text schnorr_sheet example_file [] ≡ 0x6C ∷ 0x65 ∷ 0x76 ∷ 0x65 ∷ 0x6C ∷ 0x20 ∷ 0x32 ∷ 0x35 ∷ 0x0A ∷ []
  -- 02, card 3: with K 11 and the level 7 two accepted rounds fail (121), and three do not
  pub two_rounds : marker_text schnorr_sheet (repeated 2 9 3 4) (7 ∷ []) ≡ ascii "rounds 2\n0 accepted\n1 accepted\nfail\n"
  pub three_rounds :
      marker_text schnorr_sheet (repeated 3 9 3 4) (7 ∷ []) ≡ ascii "rounds 3\n0 accepted\n1 accepted\n2 accepted\npass\n"
  -- the reason on the marker's example is `accepted`; on (9,1,2) it is rejected 0 4 2, on a response slot 11 refused 16 15, and on
  -- the example without its last byte refused 12 length 54
  pub accepted : reason_text schnorr_sheet example_file ≡ 0x61 ∷ 0x63 ∷ 0x63 ∷ 0x65 ∷ 0x70 ∷ 0x74 ∷ 0x65 ∷ 0x64 ∷ 0x0A ∷ []
  pub rejected :
      reason_on 9 1 2
      ≡ 0x72 ∷ 0x65 ∷ 0x6A ∷ 0x65 ∷ 0x63 ∷ 0x74 ∷ 0x65 ∷ 0x64 ∷ 0x20 ∷ 0x30 ∷ 0x20 ∷ 0x34 ∷ 0x20 ∷ 0x32 ∷ 0x0A ∷ []
  pub refused :
      reason_on 9 1 11
      ≡ 0x72 ∷ 0x65 ∷ 0x66 ∷ 0x75 ∷ 0x73 ∷ 0x65 ∷ 0x64 ∷ 0x20 ∷ 0x31 ∷ 0x36 ∷ 0x20 ∷ 0x31 ∷ 0x35 ∷ 0x0A ∷ []
  pub refused_length :
      reason_text schnorr_sheet (take 54 example_file)
      ≡ 0x72 ∷ 0x65 ∷ 0x66 ∷ 0x75 ∷ 0x73 ∷ 0x65 ∷ 0x64 ∷ 0x20 ∷ 0x31 ∷ 0x32 ∷ 0x20 ∷ 0x6C ∷ 0x65 ∷ 0x6E ∷ 0x67 ∷ 0x74 ∷ 0x68 ∷
      0x20 ∷ 0x35 ∷ 0x34 ∷ 0x0A ∷ []
  -- 02, card 7: the marker's example and the same rounds in version 2 are converted to each other and marked alike; a response slot
  -- 11 in version 2 is refused 16 13
  pub to_two : (convert schnorr_sheet example_file (replicate 47 0)).buffer ≡ narrow_file
  pub to_one : (convert schnorr_sheet narrow_file (replicate 55 0)).buffer ≡ example_file
  pub marked_two : marker_text schnorr_sheet narrow_file (7 ∷ []) ≡ example_text
  pub refused_two : reason_text schnorr_sheet (sets narrow_file 16 (11 ∷ [])) ≡ ascii "refused 16 13\n"
