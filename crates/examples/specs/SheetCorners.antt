-- Refusals 2 to 11 at the bounds of each part of their conditions: of the loader, of 01's second writer, and of every call that takes a
-- sheet, by which a bad sheet is refused with its own number.
-- Assumes nothing.
use Rattle.std.specs.Prelude.{ℕ, ◌≡◌, List, [], ◌∷◌, ◌++◌, map, length, replicate}
use Rattle.std.proofs.lemmas.List.Edits.{sets}
use Rattle.types.specs.declared.ProverPhase.TheVariants.{Committed}
use Rattle.types.specs.declared.VerifierPhase.TheVariants.{Holding, Asked}
use Rattle.formats.specs.Append.{append}
use Rattle.formats.specs.Convert.{convert}
use Rattle.formats.specs.Encode.{encode}
use Rattle.formats.specs.Load.{load, load_entries, load_refusal}
use Rattle.formats.specs.RoundCalls.{check_round, count_rounds, fetch_round, part_of_round}
use Rattle.formats.specs.SameCommitment.{same_commitment}
use Rattle.formats.specs.Sheet.{header_of, instance_of}
use Rattle.games.specs.Text.{game_refusal}
use Rattle.runs.specs.Calls.{extract_witness, judge_round, simulate_commitment}
use Rattle.runs.specs.Marker.{mark_refusal}
use Rattle.runs.specs.Prover.{commit, new_prover, respond}
use Rattle.runs.specs.Verifier.{new_verifier, take_challenge, take_commitment, take_response}
use Rattle.sigma.specs.Answer.{outcome}
use Rattle.sigma.specs.Instance.{Instance}
use Rattle.watches.specs.Watch.{open_watch, watch_round}
use Rattle.examples.specs.Corners.{
  Corner,
  SheetCorner,
  changed,
  many_challenges,
  ones_sheet,
  peggy,
  root_bytes,
  vic,
  zeros_file,
}
use Rattle.examples.specs.MarkerExample.{example_file}
use Rattle.examples.specs.OrPage.{logarithm_sheet, or_numbers}
use Rattle.examples.specs.Pages.{array, small_round}
use Rattle.examples.specs.Sheets.{schnorr_sheet, small_sheet}
use Rattle.examples.specs.TeamPage.{team_numbers}
use Rattle.examples.specs.TwoRows.{reworded, two_roots}
use Rattle.examples.specs.WatchPage.{new_watch}

-- ---- the second writer

-- the number that it is refused with for values, in a buffer of 100 bytes
unfoldable pub writing : Instance → ℕ
writing values = (encode values (replicate 100 0)).answer.refusal

-- values of sheets, whether or not they load, at the bounds of a number
abbrev pub WriterCorner : ℕ → List (List ℕ) → List (List ℕ) → Type 0
WriterCorner number inside outside =
    Corner number (map (λ sheet. writing (instance_of sheet)) inside) (map (λ sheet. writing (instance_of sheet)) outside)

-- ---- every call

-- the numbers of the calls that take one sheet, with page A's values
unfoldable pub calls_on : List ℕ → List ℕ
calls_on sheet =
    (load sheet).refusal ∷
    (outcome (judge_round sheet (small_round 9 3 4))).number ∷
    (simulate_commitment sheet 3 (array (4 ∷ []))).refusal ∷
    (extract_witness sheet (small_round 9 3 4) (small_round 9 1 1)).refusal ∷
    (commit sheet new_prover (array (5 ∷ []))).refusal ∷
    (respond sheet (peggy Committed 5 0) 3 (array (7 ∷ []))).refusal ∷
    (take_commitment sheet new_verifier (array (9 ∷ []))).refusal ∷
    (take_challenge sheet (vic Holding 9 0) 3).refusal ∷
    (outcome (take_response sheet (vic Asked 9 3) (array (4 ∷ []))).verdict).number ∷
    (count_rounds sheet example_file).refusal ∷
    check_round sheet example_file 0 ∷
    (fetch_round sheet example_file 0).refusal ∷
    (append sheet (zeros_file 0 0 12) 7 (small_round 9 3 4)).answer.refusal ∷
    (convert sheet example_file (replicate 47 0)).answer.refusal ∷
    (same_commitment sheet example_file 0 1).refusal ∷
    mark_refusal sheet example_file (7 ∷ []) ∷
    (open_watch sheet).refusal ∷
    (outcome (watch_round sheet (new_watch schnorr_sheet) (small_round 9 3 4)).verdict).number ∷
    game_refusal sheet example_file ∷
    team_numbers sheet 2 (8 ∷ 16 ∷ []) (9 ∷ 1 ∷ []) (4 ∷ 0 ∷ [])

-- and of those that take two, for a sheet on either side
abbrev pub EveryCall : ℕ → List ℕ → Type 0
EveryCall number bad =
    Corner number (calls_on schnorr_sheet) (calls_on bad ++ or_numbers bad root_bytes ++ or_numbers logarithm_sheet bad)

-- a sheet for each number from 2 to 11
unfoldable pub bad_sheets : List (List ℕ)
bad_sheets =
    changed schnorr_sheet 0 0x49 ∷ changed schnorr_sheet 4 2 ∷ changed schnorr_sheet 5 3 ∷ changed schnorr_sheet 9 2 ∷
    changed schnorr_sheet 13 1 ∷ changed schnorr_sheet 19 9 ∷ changed schnorr_sheet 17 12 ∷ (schnorr_sheet ++ 0 ∷ []) ∷
    changed schnorr_sheet 23 5 ∷ changed schnorr_sheet 27 5 ∷ []

pub record SheetCorners : Type 0 where
  -- the loader takes what no condition names: an even modulus and the largest, an even ℓ and the largest, and a K that is no prime
  pub passing : map load_refusal
      (small_sheet 8 2 2 3 5 ∷ sets (small_sheet 0 2 2 1 1) 6 (255 ∷ 255 ∷ 255 ∷ 255 ∷ []) ∷
      sets (small_sheet 23 0 2 1 1) 10 (255 ∷ 255 ∷ 255 ∷ 255 ∷ []) ∷ small_sheet 23 11 4 2 13 ∷ [])
      ≡ replicate 4 0
  -- the loader: rows and columns that are equal and out of bounds in kind 2; K 0, a divisor 2, and a divisor in kind 2; each entry of two
  -- rows and three columns; each value of two statements
  pub loading7 : SheetCorner 7 (two_roots ∷ []) (ones_sheet 2 0 0 0 ∷ ones_sheet 2 9 9 9 ∷ [])
  pub loading8 :
      SheetCorner 8 (small_sheet 23 22 2 2 13 ∷ root_bytes ∷ [])
      (small_sheet 23 11 0 2 13 ∷ small_sheet 23 22 3 2 13 ∷ changed root_bytes 17 6 ∷ [])
  pub loading10 : SheetCorner 10 (ones_sheet 1 2 3 8 ∷ []) (reworded (ones_sheet 1 2 3 8) 5 (20 ∷ 24 ∷ 28 ∷ 32 ∷ 36 ∷ 40 ∷ []))
  pub loading11 :
      SheetCorner 11 (ones_sheet 1 2 3 8 ∷ two_roots ∷ [])
      (reworded (ones_sheet 1 2 3 8) 5 (44 ∷ 48 ∷ []) ++ reworded two_roots 14 (20 ∷ 24 ∷ []))
  -- the second writer: its numbers but 22, each part of each condition
  pub writing4 : WriterCorner 4 (schnorr_sheet ∷ root_bytes ∷ []) (changed schnorr_sheet 5 0 ∷ changed schnorr_sheet 5 3 ∷ [])
  pub writing5 : WriterCorner 5 (small_sheet 3 11 11 1 1 ∷ []) (small_sheet 2 11 11 1 1 ∷ small_sheet 0 11 11 1 1 ∷ [])
  pub writing6 : WriterCorner 6 (small_sheet 23 2 2 1 1 ∷ []) (small_sheet 23 1 2 1 1 ∷ small_sheet 23 0 2 1 1 ∷ [])
  pub writing7 :
      WriterCorner 7 (ones_sheet 1 8 1 16 ∷ ones_sheet 1 1 8 9 ∷ ones_sheet 2 8 8 8 ∷ [])
      (ones_sheet 1 0 1 0 ∷ ones_sheet 1 9 1 18 ∷ ones_sheet 1 1 0 1 ∷ ones_sheet 1 1 9 10 ∷ ones_sheet 2 1 2 1 ∷ ones_sheet 2 2 1 2 ∷ [])
  pub writing8 :
      WriterCorner 8 (small_sheet 23 11 2 1 1 ∷ small_sheet 23 11 11 1 1 ∷ many_challenges 0 ∷ [])
      (small_sheet 23 11 1 1 1 ∷ small_sheet 23 11 12 1 1 ∷ small_sheet 23 22 3 1 1 ∷ many_challenges 1 ∷ [])
  pub writing10 :
      WriterCorner 10 (ones_sheet 1 2 3 8 ∷ [])
      (map (changed schnorr_sheet 23) (0 ∷ 5 ∷ 25 ∷ []) ++ reworded (ones_sheet 1 2 3 8) 5 (20 ∷ 24 ∷ 28 ∷ 32 ∷ 36 ∷ 40 ∷ []))
  pub writing11 :
      WriterCorner 11 (ones_sheet 1 2 3 8 ∷ two_roots ∷ [])
      (map (changed schnorr_sheet 27) (0 ∷ 5 ∷ 36 ∷ []) ++ reworded (ones_sheet 1 2 3 8) 5 (44 ∷ 48 ∷ []) ++
      reworded two_roots 14 (20 ∷ 24 ∷ []))
  -- it reads no place beyond rows and columns, and in kind 2 no entry
  pub unread :
      map writing
      (record { header = header_of schnorr_sheet; entries = array (2 ∷ []) ∷ replicate 7 (array []); statement = array (13 ∷ []) } ∷
      record { header = header_of root_bytes; entries = replicate 8 (array []); statement = array (32 ∷ []) } ∷ [])
      ≡ 0 ∷ 0 ∷ []
  -- every call that takes a sheet
  pub every2 : EveryCall 2 (changed schnorr_sheet 0 0x49)
  pub every3 : EveryCall 3 (changed schnorr_sheet 4 2)
  pub every4 : EveryCall 4 (changed schnorr_sheet 5 3)
  pub every5 : EveryCall 5 (changed schnorr_sheet 9 2)
  pub every6 : EveryCall 6 (changed schnorr_sheet 13 1)
  pub every7 : EveryCall 7 (changed schnorr_sheet 19 9)
  pub every8 : EveryCall 8 (changed schnorr_sheet 17 12)
  pub every9 : EveryCall 9 (schnorr_sheet ++ 0 ∷ [])
  pub every10 : EveryCall 10 (changed schnorr_sheet 23 5)
  pub every11 : EveryCall 11 (changed schnorr_sheet 27 5)
  -- the part of a round is empty where the sheet is refused, and the entries are zeros
  pub parts : map (λ sheet. length (part_of_round sheet example_file 0)) (schnorr_sheet ∷ bad_sheets) ≡ 12 ∷ replicate 10 0
  pub entries : map load_entries bad_sheets ≡ replicate 10 (replicate 8 (replicate 8 0))
