-- The refusals of 01 ("Turned back") and of 02's cards at their bounds: for each number inputs just inside its condition's
-- bounds, which are not refused, and inputs outside, which are refused with it.
-- Assumes nothing.
use Rattle.std.specs.Prelude.{ℕ, ◌-◌, ◌<◌, ◌≡◌, drop, length, replicate, take}
use mathlib.Core.List.{List, [], ◌∷◌, ◌++◌, map, flatten}
use Rattle.std.proofs.lemmas.List.Edits.{sets}
use Rattle.types.specs.declared.Prover.{Prover}
use Rattle.types.specs.declared.ProverPhase.{ProverPhase}
use Rattle.types.specs.declared.ProverPhase.TheVariants.{New, Committed, Answered, Dropped}
use Rattle.types.specs.declared.Verifier.{Verifier}
use Rattle.types.specs.declared.VerifierPhase.{VerifierPhase}
use Rattle.types.specs.declared.VerifierPhase.TheVariants.{Waiting, Holding, Asked, Judged}
use Rattle.encoding.specs.Text.{ascii}
use Rattle.examples.specs.MarkerExample.{example_file, narrow_file}
use Rattle.examples.specs.Pages.{array, judging, repeated, small_round}
use Rattle.examples.specs.Sheets.{schnorr_sheet, sheet_bytes, small_sheet}
use Rattle.formats.specs.Append.{append, empty_file}
use Rattle.formats.specs.Convert.{convert}
use Rattle.formats.specs.Encode.{encode}
use Rattle.formats.specs.Load.{load_refusal}
use Rattle.formats.specs.Ours.{loaded}
use Rattle.formats.specs.RoundCalls.{check_round, count_rounds}
use Rattle.patterns.specs.Maker.{make_from}
use Rattle.patterns.specs.Table.{shipped, write_shipped}
use Rattle.runs.specs.Calls.{extract_witness, simulate_commitment}
use Rattle.runs.specs.Marker.{mark_refusal, marker_text}
use Rattle.runs.specs.Prover.{commit, drop_session, new_prover, respond}
use Rattle.runs.specs.Verifier.{take_challenge, take_commitment, take_response}
use Rattle.sigma.specs.Answer.{outcome}

-- inputs at the bounds of a refusal's number: the calls answer 0 to those just inside, and the number to those just outside
abbrev pub Corner : ℕ → List ℕ → List ℕ → Type 0
Corner number inside outside = (inside ≡ replicate (length inside) 0) × (outside ≡ replicate (length outside) number)

-- ---- sheets and what is made of them

-- sheets at the bounds of a number
abbrev pub SheetCorner : ℕ → List (List ℕ) → List (List ℕ) → Type 0
SheetCorner number inside outside = Corner number (map load_refusal inside) (map load_refusal outside)

-- a sheet of the given kind, rows and columns that goes on with so many words, all 1
unfoldable pub ones_sheet : ℕ → ℕ → ℕ → ℕ → List ℕ
ones_sheet kind rows columns words = sheet_bytes kind 23 11 11 rows columns (replicate words 1)

-- the sheet m 3, q 65,537, entry and z 1, with a challenge count of 65,536 + more: 65,537 is a prime
unfoldable pub many_challenges : ℕ → List ℕ
many_challenges more = sets (sets (small_sheet 3 1 0 1 1) 10 (0 ∷ 1 ∷ 0 ∷ 1 ∷ [])) 14 (0 ∷ 1 ∷ 0 ∷ more ∷ [])

-- a sheet or file with one byte changed
unfoldable pub changed : List ℕ → ℕ → ℕ → List ℕ
changed bytes at byte = sets bytes at (byte ∷ [])

-- page G's sheet, byte by byte: m 35, e 5, K 5, z 32
unfoldable pub root_bytes : List ℕ
root_bytes = sheet_bytes 2 35 5 5 1 1 (32 ∷ [])

-- the numbers of both writers for page A's sheet in a buffer of so many bytes
unfoldable pub writing_in : ℕ → List ℕ
writing_in size =
    (make_from shipped 1 23 11 11 (2 ∷ []) (13 ∷ []) (replicate size 0)).answer.refusal ∷
    (encode (loaded schnorr_sheet) (replicate size 0)).answer.refusal ∷ []

-- ---- pattern files

-- the 34 bytes of the shipped file: mark, version and count, and the five patterns
unfoldable pub shipped_bytes : List ℕ
shipped_bytes =
    0x50 ∷ 0x41 ∷ 0x54 ∷ 0x00 ∷ 0x01 ∷ 0x05 ∷ 0x01 ∷ 0x01 ∷ 0x01 ∷ 0x01 ∷ 0x01 ∷ 0x02 ∷ 0x02 ∷ 0x01 ∷ 0x02 ∷ 0x02 ∷ 0x01 ∷
    0x02 ∷ 0x01 ∷ 0x02 ∷ 0x02 ∷ 0x01 ∷ 0x02 ∷ 0x01 ∷ 0x02 ∷ 0x02 ∷ 0x03 ∷ 0x03 ∷ 0x01 ∷ 0x02 ∷ 0x00 ∷ 0x03 ∷ 0x00 ∷ 0x02 ∷ []

-- a file of one pattern
unfoldable pub one_pattern : ℕ → ℕ → ℕ → List ℕ → List ℕ
one_pattern rows columns values digits = 0x50 ∷ 0x41 ∷ 0x54 ∷ 0 ∷ 1 ∷ 1 ∷ rows ∷ columns ∷ values ∷ digits

-- a file of so many patterns, each the first of the shipped
unfoldable pub many_patterns : ℕ → List ℕ
many_patterns n = 0x50 ∷ 0x41 ∷ 0x54 ∷ 0 ∷ 1 ∷ n ∷ flatten (replicate n (1 ∷ 1 ∷ 1 ∷ 1 ∷ []))

-- the sheet maker's number for what is asked of a file, over so many public values 2 and statement values 13, m 23, q 11, K 11
unfoldable pub making_from : List ℕ → ℕ → ℕ → ℕ → ℕ
making_from f number values statement =
    (make_from f number 23 11 11 (replicate values 2) (replicate statement 13) (replicate 64 0)).answer.refusal

-- for the shipped file
unfoldable pub making : ℕ → ℕ → ℕ → ℕ
making = making_from shipped_bytes

-- and for the root, asked of a file
unfoldable pub asking_root : List ℕ → ℕ
asking_root f = making_from f 0 0 1

-- ---- round files of page A's sheet

-- a file of so many bytes of zeros behind a count of two bytes
unfoldable pub zeros_file : ℕ → ℕ → ℕ → List ℕ
zeros_file high low bytes = 0x52 ∷ 0x4E ∷ 0x44 ∷ 0 ∷ 1 ∷ high ∷ low ∷ [] ++ replicate bytes 0

-- the file of no rounds
unfoldable pub no_bytes : List ℕ
no_bytes = zeros_file 0 0 0

-- the number that a file is refused with
unfoldable pub counting : List ℕ → ℕ
counting file = (count_rounds schnorr_sheet file).refusal

-- the number that the record writer is refused with, in a buffer that begins as such a file does
unfoldable pub appending : ℕ → ℕ → ℕ → ℕ → ℕ
appending high low bytes used = (append schnorr_sheet (zeros_file high low bytes) used (small_round 9 3 4)).answer.refusal

-- the number that the record writer is refused with for a challenge, in a buffer of so many bytes behind a file of no rounds in a
-- version (02, card 7)
unfoldable pub storing : ℕ → ℕ → ℕ → ℕ
storing version c bytes = (append schnorr_sheet (changed (zeros_file 0 0 bytes) 4 version) 7 (small_round 9 c 4)).answer.refusal

-- the number that making a file of no rounds in a version is refused with, in a buffer of so many bytes
unfoldable pub starting : ℕ → ℕ → ℕ
starting version bytes = (empty_file version (replicate bytes 0)).answer.refusal

-- the number that the converter is refused with for a file, in a buffer of so many bytes
unfoldable pub converting : List ℕ → ℕ → ℕ
converting file bytes = (convert schnorr_sheet file (replicate bytes 0)).answer.refusal

-- ---- the marker

-- the number of the marker's one line on the marker's example at a level
unfoldable pub marking : List ℕ → ℕ
marking level = mark_refusal schnorr_sheet example_file level

-- the last line on so many rounds (1, 0, 0) of the sheet m 3, q 65,537, K 65,536
unfoldable pub last_line : ℕ → ℕ → List ℕ
last_line count w =
    let text : List ℕ = marker_text (many_challenges 0) (repeated count 1 0 0) (w ∷ []) in
    drop (length text - 5) text

-- ---- rounds and sessions of page A's sheet, and of page G's where a sheet is named

-- the extractor's number for the rounds (9, 3, 4) and (t, c, r)
unfoldable pub extracting : ℕ → ℕ → ℕ → ℕ
extracting t c r = (extract_witness schnorr_sheet (small_round 9 3 4) (small_round t c r)).refusal

-- the simulator's number for c and r
unfoldable pub simulating : List ℕ → ℕ → ℕ → ℕ
simulating sheet c r = (simulate_commitment sheet c (array (r ∷ []))).refusal

-- Peggy in a state, holding a nonce and, for the nonce 5, its commitment 9; the last of eight places is given
unfoldable pub peggy : ProverPhase → ℕ → ℕ → Prover
peggy phase k last =
    record {
      nonce = array (k ∷ []);
      commitment = 9 ∷ replicate 6 0 ++ last ∷ [];
      phase = phase;
      memory = new_prover.memory;
    }

-- the number that committing to a nonce is refused with
unfoldable pub committing : List ℕ → ℕ → ProverPhase → ℕ
committing sheet k phase = (commit sheet (peggy phase 5 0) (array (k ∷ []))).refusal

-- the number that responding to c with the witness x is refused with
unfoldable pub responding : ℕ → ℕ → Prover → ℕ
responding c x p = (respond schnorr_sheet p c (array (x ∷ []))).refusal

-- the number that dropping is refused with
unfoldable pub dropping : ProverPhase → ℕ
dropping phase = (drop_session (peggy phase 5 0)).refusal

-- Vic in a state, holding a commitment and a challenge
unfoldable pub vic : VerifierPhase → ℕ → ℕ → Verifier
vic phase t c = record { commitment = array (t ∷ []); challenge = c; phase = phase }

-- the numbers that Vic's three calls are refused with
unfoldable pub hearing : ℕ → VerifierPhase → ℕ
hearing t phase = (take_commitment schnorr_sheet (vic phase 9 3) (array (t ∷ []))).refusal

unfoldable pub asking : ℕ → Verifier → ℕ
asking c v = (take_challenge schnorr_sheet v c).refusal

unfoldable pub telling : ℕ → Verifier → ℕ
telling r v = (outcome (take_response schnorr_sheet v (array (r ∷ []))).verdict).number

-- every refusal of 01 and of the cards at its bounds
pub record EveryCorner : Type 0 where
  -- pattern files
  pub shipped_bytes_law : (write_shipped (replicate 34 0)).buffer ≡ shipped_bytes
  pub refusal23 :
      Corner 23
      (map asking_root
      (shipped_bytes ∷ many_patterns 1 ∷ many_patterns 32 ∷ one_pattern 8 1 1 (replicate 8 1) ∷ one_pattern 1 8 1 (replicate 8 1) ∷
      one_pattern 1 8 8 (1 ∷ 2 ∷ 3 ∷ 4 ∷ 5 ∷ 6 ∷ 7 ∷ 8 ∷ []) ∷ []))
      (map asking_root
      ([] ∷ take 5 shipped_bytes ∷ changed shipped_bytes 0 0x51 ∷ changed shipped_bytes 1 0x42 ∷ changed shipped_bytes 2 0x55 ∷
      changed shipped_bytes 4 0 ∷ changed shipped_bytes 4 2 ∷ changed shipped_bytes 3 1 ∷ many_patterns 0 ∷ many_patterns 33 ∷
      changed shipped_bytes 5 4 ∷ changed shipped_bytes 5 6 ∷ one_pattern 0 1 1 [] ∷ one_pattern 9 1 1 (replicate 9 1) ∷
      one_pattern 1 0 1 [] ∷ one_pattern 1 9 1 (replicate 9 1) ∷ one_pattern 1 1 0 (0 ∷ []) ∷ one_pattern 1 1 9 (1 ∷ []) ∷
      take 33 shipped_bytes ∷ take 26 shipped_bytes ∷ (shipped_bytes ++ 0 ∷ []) ∷
      changed (changed shipped_bytes 9 2) 25 9 ∷ []) ++
      making_from (changed shipped_bytes 25 9) 1 1 1 ∷ [])
  pub refusal24 :
      Corner 24
      (map asking_root
      (one_pattern 1 1 1 (1 ∷ []) ∷ one_pattern 1 2 1 (0 ∷ 1 ∷ []) ∷ one_pattern 2 1 2 (2 ∷ 1 ∷ []) ∷
      one_pattern 1 8 8 (8 ∷ 7 ∷ 6 ∷ 5 ∷ 4 ∷ 3 ∷ 2 ∷ 1 ∷ []) ∷ []))
      (map asking_root
      (map (changed shipped_bytes 9) (0 ∷ 2 ∷ 255 ∷ []) ++
      changed shipped_bytes 33 4 ∷ changed shipped_bytes 31 2 ∷ one_pattern 1 1 2 (1 ∷ []) ∷ one_pattern 1 2 3 (1 ∷ 3 ∷ []) ∷
      one_pattern 1 8 8 (1 ∷ 2 ∷ 3 ∷ 4 ∷ 5 ∷ 6 ∷ 7 ∷ 7 ∷ []) ∷ []) ++
      making_from (changed shipped_bytes 33 4) 1 1 1 ∷ making_from (changed shipped_bytes 9 2) 5 3 2 ∷
      making_from (changed shipped_bytes 9 2) 6 0 0 ∷ [])
  -- a number above the file's count is 1, however far above
  pub above : (number values statement : ℕ) → 5 < number → making number values statement ≡ 1
  -- sheets
  pub refusal1 :
      Corner 1 (making 0 0 1 ∷ making 1 1 1 ∷ making 2 2 1 ∷ making 3 2 2 ∷ making 4 2 2 ∷ making 5 3 2 ∷ [])
      (making 6 0 1 ∷ making 6 0 0 ∷ making 7 0 0 ∷ making 257 1 1 ∷ making 0 1 1 ∷ making 0 0 0 ∷ making 0 0 2 ∷
      making 1 0 1 ∷ making 1 2 1 ∷ making 1 1 0 ∷ making 1 1 2 ∷ making 2 1 1 ∷ making 3 2 1 ∷ making 4 3 2 ∷
      making 5 2 2 ∷ making 5 3 3 ∷ [])
  pub refusal2 :
      SheetCorner 2 (schnorr_sheet ∷ [])
      ([] ∷ take 19 schnorr_sheet ∷ changed schnorr_sheet 0 0x49 ∷ changed schnorr_sheet 1 0x4E ∷ changed schnorr_sheet 2 0x4C ∷ [])
  pub refusal3 :
      SheetCorner 3 (schnorr_sheet ∷ []) (changed schnorr_sheet 4 0 ∷ changed schnorr_sheet 4 2 ∷ changed schnorr_sheet 3 1 ∷ [])
  pub refusal4 : SheetCorner 4 (schnorr_sheet ∷ root_bytes ∷ []) (map (changed schnorr_sheet 5) (0 ∷ 3 ∷ []))
  pub refusal5 : SheetCorner 5 (small_sheet 3 11 11 1 1 ∷ []) (small_sheet 2 11 11 1 1 ∷ small_sheet 0 11 11 1 1 ∷ [])
  pub refusal6 : SheetCorner 6 (small_sheet 23 2 2 1 1 ∷ []) (small_sheet 23 1 2 1 1 ∷ small_sheet 23 0 2 1 1 ∷ [])
  pub refusal7 :
      SheetCorner 7 (ones_sheet 1 8 1 16 ∷ ones_sheet 1 1 8 9 ∷ ones_sheet 2 1 1 1 ∷ ones_sheet 2 8 8 8 ∷ [])
      (ones_sheet 1 0 1 0 ∷ ones_sheet 1 1 0 1 ∷ ones_sheet 1 9 1 18 ∷
      ones_sheet 1 1 9 10 ∷ ones_sheet 2 1 2 1 ∷ ones_sheet 2 2 1 2 ∷ [])
  pub refusal8 :
      SheetCorner 8 (small_sheet 23 11 2 1 1 ∷ small_sheet 23 11 11 1 1 ∷ small_sheet 31 15 3 1 1 ∷ many_challenges 0 ∷ [])
      (small_sheet 23 11 1 1 1 ∷ small_sheet 23 11 12 1 1 ∷ small_sheet 31 15 4 1 1 ∷ many_challenges 1 ∷ [])
  pub refusal9 :
      SheetCorner 9 (schnorr_sheet ∷ root_bytes ∷ ones_sheet 1 2 3 8 ∷ [])
      (take 27 schnorr_sheet ∷ (schnorr_sheet ++ 0 ∷ []) ∷ take 20 schnorr_sheet ∷
      ones_sheet 2 1 1 2 ∷ ones_sheet 1 2 3 7 ∷ ones_sheet 1 2 3 9 ∷ [])
  pub refusal10 :
      SheetCorner 10 (map (changed schnorr_sheet 23) (1 ∷ 18 ∷ []) ++ small_sheet 31 15 3 2 1 ∷ small_sheet 31 15 3 5 1 ∷ [])
      (map (changed schnorr_sheet 23) (0 ∷ 5 ∷ 23 ∷ 25 ∷ []) ++ small_sheet 31 15 3 3 1 ∷ changed (ones_sheet 1 2 2 6) 35 5 ∷ [])
  pub refusal11 :
      SheetCorner 11 (changed schnorr_sheet 27 1 ∷ changed root_bytes 23 34 ∷ [])
      (map (changed schnorr_sheet 27) (0 ∷ 5 ∷ 23 ∷ 36 ∷ []) ++ map (changed root_bytes 23) (35 ∷ 30 ∷ []) ++
      changed (ones_sheet 1 2 2 6) 43 5 ∷ [])
  -- round files
  pub refusal12 :
      Corner 12
      (map counting
      (no_bytes ∷ example_file ∷ zeros_file 2 0 6144 ∷ changed no_bytes 4 2 ∷ narrow_file ∷ changed (zeros_file 2 0 5120) 4 2 ∷ []) ++
      appending 1 255 6144 6139 ∷ starting 1 7 ∷ starting 2 7 ∷ converting (changed no_bytes 4 2) 7 ∷ [])
      (map counting
      (take 6 no_bytes ∷ changed no_bytes 0 0x53 ∷ changed no_bytes 1 0x4F ∷ changed no_bytes 2 0x45 ∷ changed no_bytes 4 0 ∷
      changed no_bytes 4 3 ∷ changed no_bytes 3 1 ∷ zeros_file 2 1 6156 ∷ take 54 example_file ∷ (example_file ++ 0 ∷ []) ∷
      changed example_file 4 2 ∷ changed narrow_file 4 1 ∷ changed (zeros_file 2 1 5130) 4 2 ∷ []) ++
      appending 0 0 12 6 ∷ appending 0 0 12 8 ∷ appending 0 0 0 8 ∷ appending 2 0 6156 6151 ∷ storing 3 65536 12 ∷
      starting 0 7 ∷ starting 3 7 ∷ starting 65537 7 ∷ starting 65538 7 ∷ starting 3 6 ∷
      converting (changed no_bytes 4 3) 7 ∷ converting (changed (take 54 example_file) 12 1) 6 ∷ [])
  pub refusal13 :
      Corner 13 (map (check_round schnorr_sheet example_file) (0 ∷ 3 ∷ []))
      (map (check_round schnorr_sheet example_file) (4 ∷ 65536 ∷ []) ++ check_round schnorr_sheet no_bytes 0 ∷ [])
  -- rounds
  pub refusal14 :
      Corner 14 (judging schnorr_sheet 1 0 0 ∷ judging root_bytes 34 0 1 ∷ hearing 18 Waiting ∷ [])
      (judging schnorr_sheet 0 0 0 ∷ judging schnorr_sheet 5 0 0 ∷ judging schnorr_sheet 24 0 0 ∷
      judging root_bytes 35 0 1 ∷ judging root_bytes 14 0 1 ∷ extracting 24 1 1 ∷ hearing 5 Waiting ∷ [])
  pub refusal15 :
      Corner 15
      (judging schnorr_sheet 9 10 0 ∷ simulating schnorr_sheet 10 0 ∷ responding 10 7 (peggy Committed 5 0) ∷
      asking 10 (vic Holding 9 0) ∷ storing 2 65535 10 ∷ storing 1 65536 12 ∷ converting (sets example_file 49 (255 ∷ 255 ∷ [])) 47 ∷
      converting (sets narrow_file 41 (255 ∷ 255 ∷ [])) 55 ∷ [])
      (judging schnorr_sheet 9 11 0 ∷ simulating schnorr_sheet 11 0 ∷ responding 11 7 (peggy Committed 5 0) ∷
      asking 11 (vic Holding 9 0) ∷ extracting 9 11 1 ∷ storing 2 65536 10 ∷ storing 2 65536 0 ∷
      converting (changed example_file 48 1) 47 ∷ converting (changed example_file 12 1) 47 ∷ converting (changed example_file 48 1) 0 ∷ [])
  pub refusal16 :
      Corner 16
      (judging schnorr_sheet 9 0 10 ∷ simulating schnorr_sheet 0 10 ∷ simulating root_bytes 0 34 ∷
      committing schnorr_sheet 10 New ∷ committing root_bytes 34 New ∷ committing (small_sheet 31 15 3 2 1) 14 New ∷
      telling 10 (vic Asked 9 3) ∷ [])
      (judging schnorr_sheet 9 0 11 ∷ simulating schnorr_sheet 0 11 ∷ map (simulating root_bytes 0) (35 ∷ 14 ∷ 0 ∷ []) ++
      committing schnorr_sheet 11 New ∷ committing (small_sheet 31 15 3 2 1) 15 New ∷ responding 3 18 (peggy Committed 5 0) ∷
      telling 11 (vic Asked 9 3) ∷ extracting 9 1 11 ∷ [])
  pub refusal17 :
      Corner 17 (responding 3 7 (peggy Committed 5 0) ∷ [])
      (responding 3 6 (peggy Committed 5 0) ∷ responding 3 8 (peggy New 5 0) ∷ [])
  pub refusal18 : Corner 18 (extracting 9 1 1 ∷ []) (extracting 8 1 1 ∷ extracting 1 3 4 ∷ [])
  pub refusal19 : Corner 19 (extracting 9 1 1 ∷ []) (extracting 9 3 4 ∷ extracting 9 3 5 ∷ [])
  pub refusal20 : Corner 20 (extracting 9 1 1 ∷ []) (extracting 9 1 2 ∷ extracting 9 2 1 ∷ [])
  -- sessions: the state, then what is held
  pub refusal21 :
      Corner 21
      (committing schnorr_sheet 5 New ∷ responding 3 7 (peggy Committed 5 0) ∷ dropping New ∷ dropping Committed ∷
      hearing 9 Waiting ∷ asking 3 (vic Holding 9 0) ∷ telling 4 (vic Asked 9 3) ∷ [])
      (map (committing schnorr_sheet 5) (Committed ∷ Answered ∷ Dropped ∷ []) ++
      map (responding 3 7) (peggy New 5 0 ∷ peggy Answered 5 0 ∷ peggy Dropped 5 0 ∷ []) ++
      map (responding 3 7) (peggy Committed 16 0 ∷ peggy Committed 6 0 ∷ peggy Committed 5 1 ∷ []) ++
      map dropping (Answered ∷ Dropped ∷ []) ++ map (hearing 9) (Holding ∷ Asked ∷ Judged ∷ []) ++
      map (asking 3) (vic Waiting 9 0 ∷ vic Asked 9 0 ∷ vic Judged 9 0 ∷ vic Holding 5 0 ∷ []) ++
      map (telling 4) (vic Waiting 9 3 ∷ vic Holding 9 3 ∷ vic Judged 9 3 ∷ vic Asked 5 3 ∷ vic Asked 9 11 ∷ []))
  -- buffers
  pub refusal22 :
      Corner 22
      (writing_in 28 ++
      (write_shipped (replicate 34 0)).answer.refusal ∷ starting 1 7 ∷ starting 2 7 ∷ appending 0 0 12 7 ∷ storing 2 3 10 ∷
      converting example_file 47 ∷ converting narrow_file 55 ∷ [])
      (writing_in 27 ++
      (write_shipped (replicate 33 0)).answer.refusal ∷ starting 1 6 ∷ starting 2 6 ∷ appending 0 0 11 7 ∷ storing 2 3 9 ∷
      converting example_file 46 ∷ converting narrow_file 54 ∷ [])
  -- the marker's level (02, card 3)
  pub refusal25 : Corner 25 (map marking ((1 ∷ []) ∷ (64 ∷ []) ∷ [])) (map marking ([] ∷ (7 ∷ 7 ∷ []) ∷ (0 ∷ []) ∷ (65 ∷ []) ∷ []))
  -- and the rounds that it asks for: four with K 65,536 are exactly 2^64, which is enough
  pub enough : last_line 4 64 ≡ ascii "pass\n"
