-- The calls that read a round file (01, "A round"; refusals 2 to 13).
-- Assumes nothing.
use Rattle.std.specs.Prelude.{ℕ, List, [], ◌∷◌, leb, take, drop}
use Rattle.types.specs.declared.Counted.{Counted}
use Rattle.types.specs.declared.Fetched.{Fetched}
use Rattle.types.specs.declared.Header.{Header}
use Rattle.types.specs.declared.Part.{Part}
use Rattle.types.specs.declared.Round.{Round}
use Rattle.lists.specs.Places.{zeros8}
use Rattle.rules.specs.Call.{Call, answer}
use Rattle.rules.specs.Rule.{◌when◌}
use Rattle.formats.specs.Load.{on_sheet}
use Rattle.formats.specs.RoundFile.{
  bad_file,
  challenge_width,
  count_field,
  record_length,
  record_start,
  round_at,
}
use Rattle.formats.specs.Sheet.{header_of}

-- a round of zeros
unfoldable pub no_round : Round
no_round = record { commitment = zeros8; challenge = 0; response = zeros8 }

-- counting a file's rounds: 12, else their number
unfoldable pub counting : Header → List ℕ → Call Counted
counting h f =
    record {
      refusals = (12 when bad_file h f) ∷ [];
      value = record { refusal = 0; count = count_field f };
      refused = λ n. record { refusal = n; count = 0 };
    }

-- checking round k: 12 and 13, else 0
unfoldable pub checking : Header → List ℕ → ℕ → Call ℕ
checking h f k =
    record {
      refusals = (12 when bad_file h f) ∷ (13 when leb (count_field f) k) ∷ [];
      value = 0;
      refused = λ n. n;
    }

-- where round k stands in the file, of no bytes if checking refuses it
unfoldable pub locating : Header → List ℕ → ℕ → Call Part
locating h f k =
    record {
      refusals = (checking h f k).refusals;
      value = record { offset = record_start (challenge_width f) h k; length = record_length (challenge_width f) h };
      refused = λ n. record { offset = 0; length = 0 };
    }

-- round k's values, which are not tested, and zeros if checking refuses it
unfoldable pub fetching : Header → List ℕ → ℕ → Call Fetched
fetching h f k =
    record {
      refusals = (checking h f k).refusals;
      value = record { refusal = 0; round = round_at (challenge_width f) h f (record_start (challenge_width f) h k) };
      refused = λ n. record { refusal = n; round = no_round };
    }

-- the call that counts a file's rounds
unfoldable pub count_rounds : List ℕ → List ℕ → Counted
count_rounds sheet f = answer (on_sheet sheet (counting (header_of sheet) f))

-- the check call
unfoldable pub check_round : List ℕ → List ℕ → ℕ → ℕ
check_round sheet f k = answer (on_sheet sheet (checking (header_of sheet) f k))

-- where a round stands in the caller's own file, of no bytes if it is refused
unfoldable pub locate_round : List ℕ → List ℕ → ℕ → Part
locate_round sheet f k = answer (on_sheet sheet (locating (header_of sheet) f k))

-- the call that gives a round as a part of the caller's own file, empty if it is refused
unfoldable pub part_of_round : List ℕ → List ℕ → ℕ → List ℕ
part_of_round sheet f k = take (locate_round sheet f k).length (drop (locate_round sheet f k).offset f)

-- the call that reads a round's values
unfoldable pub fetch_round : List ℕ → List ℕ → ℕ → Fetched
fetch_round sheet f k = answer (on_sheet sheet (fetching (header_of sheet) f k))
