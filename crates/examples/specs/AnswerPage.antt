-- The whole answer to each call that is on no session, carried out and refused: every field of it, and every byte of a lent buffer, which
-- holds sevens before. Two rows and three columns, and two roots for the other kind and for side 1.
-- Assumes nothing.
use Rattle.std.specs.Prelude.{ℕ, ◌≡◌, List, [], ◌∷◌, ◌++◌, drop, replicate, take}
use Rattle.types.specs.declared.Header.{Header}
use Rattle.types.specs.declared.Round.{Round}
use Rattle.types.specs.declared.Verdict.TheVariants.{Accepted, Rejected, Refused}
use Rattle.disjunctions.specs.declared.OrVerdict.TheVariants.{OrAccepted, OrRejected, OrRefused}
use Rattle.disjunctions.specs.Extractor.{extract_or}
use Rattle.disjunctions.specs.Judge.{judge_or}
use Rattle.formats.specs.Append.{append, empty_file}
use Rattle.formats.specs.Convert.{convert}
use Rattle.formats.specs.Encode.{encode}
use Rattle.formats.specs.Load.{load, load_entries}
use Rattle.formats.specs.RoundCalls.{count_rounds, fetch_round, locate_round, part_of_round}
use Rattle.formats.specs.SameCommitment.{same_commitment}
use Rattle.formats.specs.Write.{Writing}
use Rattle.patterns.specs.Maker.{make_from}
use Rattle.patterns.specs.Table.{write_shipped}
use Rattle.products.specs.Team.{join_responses, multiply_commitments}
use Rattle.runs.specs.Calls.{extract_witness, judge_round, simulate_commitment}
use Rattle.sigma.specs.Instance.{Instance}
use Rattle.examples.specs.Corners.{changed, no_bytes, root_bytes, shipped_bytes}
use Rattle.examples.specs.FileCorners.{twice}
use Rattle.examples.specs.OrCorners.{challenges_or, honest_or, responses_or, second_or}
use Rattle.examples.specs.OrPage.{logarithm_sheet, small_or}
use Rattle.examples.specs.Pages.{array}
use Rattle.examples.specs.Sheets.{sheet_bytes}
use Rattle.examples.specs.TeamPage.{brought}
use Rattle.examples.specs.TwoRows.{eight, narrow, round_with, table, two_roots, wide}

-- the values of the table's sheet
unfoldable pub table_header : Header
table_header = record { kind = 1; modulus = 23; order = 11; challenges = 5; rows = 2; columns = 3 }

unfoldable pub table_values : Instance
table_values =
    record {
      header = table_header;
      entries = eight (2 ∷ 3 ∷ 4 ∷ []) ∷ eight (3 ∷ 2 ∷ 6 ∷ []) ∷ replicate 6 (eight []);
      statement = eight (3 ∷ 6 ∷ []);
    }

-- its accepted rounds with the challenges 3 and 1, in arrays, and the first as a file of 31 bytes and of 29
unfoldable pub three : Round
three = round_with (3 ∷ 4 ∷ []) 3 (4 ∷ 4 ∷ 9 ∷ [])

unfoldable pub one : Round
one = round_with (3 ∷ 4 ∷ []) 1 (1 ∷ 2 ∷ 5 ∷ [])

unfoldable pub wide_three : List ℕ
wide_three = wide (3 ∷ 4 ∷ []) 3 (4 ∷ 4 ∷ 9 ∷ [])

unfoldable pub narrow_three : List ℕ
narrow_three = narrow (3 ∷ 4 ∷ []) 3 (4 ∷ 4 ∷ 9 ∷ [])

-- so many sevens
unfoldable pub sevens : ℕ → List ℕ
sevens n = replicate n 7

-- bytes are put at the start of a buffer that has two more, and a number is refused in one of so many sevens
abbrev pub WrittenAs : List ℕ → ℕ → Writing → Type 0
WrittenAs bytes n w = w ≡ record { answer = record { length = n; refusal = 0 }; buffer = bytes ++ 7 ∷ 7 ∷ [] }

abbrev pub KeptAs : ℕ → List ℕ → Writing → Type 0
KeptAs number buffer w = w ≡ record { answer = record { length = 0; refusal = number }; buffer = buffer }

pub record AnswerPage : Type 0 where
  -- loading
  pub loaded : load table ≡ record { header = table_header; statement = eight (3 ∷ 6 ∷ []); refusal = 0 }
  pub entries : load_entries table ≡ eight (2 ∷ 3 ∷ 4 ∷ []) ∷ eight (3 ∷ 2 ∷ 6 ∷ []) ∷ replicate 6 (eight [])
  pub loaded_roots : load two_roots
      ≡ record {
        header = record { kind = 2; modulus = 35; order = 5; challenges = 5; rows = 2; columns = 2 };
        statement = eight (32 ∷ 33 ∷ []);
        refusal = 0;
      }
  pub load_refused : load (changed table 4 2)
      ≡ record {
        header = record { kind = 0; modulus = 0; order = 0; challenges = 0; rows = 0; columns = 0 };
        statement = eight [];
        refusal = 3;
      }
  -- the second writer, the sheet maker and the shipped file
  pub encoded : WrittenAs table 52 (encode table_values (sevens 54))
  pub encode_refused : KeptAs 22 (sevens 51) (encode table_values (sevens 51))
  pub made : WrittenAs (sheet_bytes 1 23 11 11 2 3 (2 ∷ 3 ∷ 1 ∷ 3 ∷ 1 ∷ 3 ∷ 12 ∷ 9 ∷ [])) 52
      (make_from shipped_bytes 5 23 11 11 (2 ∷ 3 ∷ 3 ∷ []) (12 ∷ 9 ∷ []) (sevens 54))
  pub made_root : WrittenAs root_bytes 24 (make_from shipped_bytes 0 35 5 5 [] (32 ∷ []) (sevens 26))
  pub make_refused : KeptAs 1 (sevens 54) (make_from shipped_bytes 6 23 11 11 (2 ∷ 3 ∷ 3 ∷ []) (12 ∷ 9 ∷ []) (sevens 54))
  pub shipped : WrittenAs shipped_bytes 34 (write_shipped (sevens 36))
  pub ship_refused : KeptAs 22 (sevens 33) (write_shipped (sevens 33))
  -- reading round files
  pub counted : count_rounds table (twice wide_three) ≡ record { count = 2; refusal = 0 }
  pub count_refused : count_rounds table (take 30 wide_three) ≡ record { count = 0; refusal = 12 }
  pub located : locate_round table (twice wide_three) 1 ≡ record { offset = 31; length = 24 }
  pub located_narrow : locate_round table (twice narrow_three) 1 ≡ record { offset = 29; length = 22 }
  pub locate_refused : locate_round table (twice wide_three) 2 ≡ record { offset = 0; length = 0 }
  pub part : part_of_round table (twice wide_three) 1 ≡ drop 7 wide_three
  pub part_refused : part_of_round table (twice wide_three) 2 ≡ []
  pub fetched : fetch_round table wide_three 0
      ≡ record {
        round = record { commitment = eight (3 ∷ 4 ∷ []); challenge = 3; response = eight (4 ∷ 4 ∷ 9 ∷ []) };
        refusal = 0;
      }
  pub fetch_refused : fetch_round table wide_three 1
      ≡ record { round = record { commitment = eight []; challenge = 0; response = eight [] }; refusal = 13 }
  pub same : same_commitment table (twice wide_three) 0 1 ≡ record { same = 1; refusal = 0 }
  pub not_same : same_commitment table (changed (twice wide_three) 38 2) 0 1 ≡ record { same = 0; refusal = 0 }
  pub same_refused : same_commitment table (twice wide_three) 0 2 ≡ record { same = 0; refusal = 13 }
  -- writing them
  pub started : WrittenAs no_bytes 7 (empty_file 1 (sevens 9))
  pub started_narrow : WrittenAs (changed no_bytes 4 2) 7 (empty_file 2 (sevens 9))
  pub start_refused : KeptAs 12 (sevens 9) (empty_file 3 (sevens 9))
  pub appended : WrittenAs wide_three 31 (append table (no_bytes ++ sevens 26) 7 three)
  pub appended_narrow : WrittenAs narrow_three 29 (append table (changed no_bytes 4 2 ++ sevens 24) 7 three)
  pub append_refused : KeptAs 22 (no_bytes ++ sevens 23) (append table (no_bytes ++ sevens 23) 7 three)
  pub converted : WrittenAs narrow_three 29 (convert table wide_three (sevens 31))
  pub converted_back : WrittenAs wide_three 31 (convert table narrow_three (sevens 33))
  pub convert_refused : KeptAs 22 (sevens 28) (convert table wide_three (sevens 28))
  -- rounds
  pub accepted : judge_round table three ≡ Accepted
  pub rejected : judge_round table (round_with (3 ∷ 4 ∷ []) 3 (2 ∷ 4 ∷ 10 ∷ [])) ≡ Rejected 2
  pub judge_refused : judge_round table (round_with (3 ∷ 4 ∷ []) 5 (4 ∷ 4 ∷ 9 ∷ [])) ≡ Refused 15
  pub simulated : simulate_commitment table 3 (array (4 ∷ 4 ∷ 9 ∷ [])) ≡ record { values = eight (3 ∷ 4 ∷ []); refusal = 0 }
  pub simulate_refused : simulate_commitment table 5 (array (4 ∷ 4 ∷ 9 ∷ [])) ≡ record { values = eight []; refusal = 15 }
  pub extracted : extract_witness table three one ≡ record { values = eight (7 ∷ 1 ∷ 2 ∷ []); refusal = 0 }
  pub extract_refused : extract_witness table three three ≡ record { values = eight []; refusal = 19 }
  -- the OR proof
  pub or_accepted : judge_or table two_roots honest_or ≡ OrAccepted
  pub or_rejected : judge_or table two_roots (responses_or (5 ∷ 4 ∷ 2 ∷ []) (24 ∷ 6 ∷ [])) ≡ OrRejected 1 2
  pub or_judge_refused : judge_or table two_roots (challenges_or 6 3) ≡ OrRefused 15
  pub or_extracted : extract_or table two_roots honest_or second_or ≡ record { values = eight (7 ∷ 1 ∷ 2 ∷ []); side = 0; refusal = 0 }
  pub or_extracted_second : extract_or logarithm_sheet root_bytes (small_or 9 33 1 3 4 24) (small_or 9 33 2 3 4 13)
      ≡ record { values = eight (2 ∷ []); side = 1; refusal = 0 }
  pub or_extract_refused : extract_or table two_roots second_or second_or ≡ record { values = eight []; side = 0; refusal = 19 }
  -- the team's combiner
  pub multiplied : multiply_commitments table 2 (brought ((4 ∷ 2 ∷ []) ∷ (18 ∷ 3 ∷ []) ∷ []))
      (brought ((2 ∷ 16 ∷ []) ∷ (13 ∷ 6 ∷ []) ∷ []))
      ≡ record { values = eight (3 ∷ 4 ∷ []); refusal = 0 }
  pub multiply_refused : multiply_commitments table 1 (brought ((3 ∷ 6 ∷ []) ∷ [])) (brought ((3 ∷ 4 ∷ []) ∷ []))
      ≡ record { values = eight []; refusal = 27 }
  pub joined : join_responses table 2 (brought ((4 ∷ 2 ∷ []) ∷ (18 ∷ 3 ∷ []) ∷ []))
      (brought ((0 ∷ 4 ∷ 4 ∷ []) ∷ (4 ∷ 0 ∷ 5 ∷ []) ∷ []))
      ≡ record { values = eight (4 ∷ 4 ∷ 9 ∷ []); refusal = 0 }
  pub join_refused : join_responses table 1 (brought ((3 ∷ 6 ∷ []) ∷ [])) (brought ((4 ∷ 4 ∷ 9 ∷ []) ∷ []))
      ≡ record { values = eight []; refusal = 27 }
