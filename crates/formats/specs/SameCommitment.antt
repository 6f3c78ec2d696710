-- The call that compares the commitments of two records of one file, by their bytes (02, card 5; refusals 2 to 13). A record
-- begins where the file's own version has it.
-- Assumes nothing.
use Rattle.std.specs.Prelude.{ℕ, ◌+◌, ◌*◌, cond, ◌||◌, List, [], ◌∷◌, leb, get_or}
use Rattle.types.specs.declared.Header.{Header}
use Rattle.formats.specs.declared.Compared.{Compared}
use Rattle.lists.specs.Places.{tabulate}
use Rattle.rules.specs.Call.{Call, answer}
use Rattle.rules.specs.Rule.{◌when◌}
use Rattle.sigma.specs.Comparison.{differ}
use Rattle.formats.specs.Load.{on_sheet}
use Rattle.formats.specs.RoundFile.{bad_file, challenge_width, count_field, record_start}
use Rattle.formats.specs.Sheet.{header_of}

-- the 4s bytes of the commitment of record k
unfoldable pub commitment_bytes : Header → List ℕ → ℕ → List ℕ
commitment_bytes h f k = tabulate (4 * h.rows) (λ b. get_or f (record_start (challenge_width f) h k + b) 0)

-- comparing two commitments: 12 and 13, else 1 if all bytes of the two agree and 0 if not
unfoldable pub comparing : Header → List ℕ → ℕ → ℕ → Call Compared
comparing h f i j =
    record {
      refusals = (12 when bad_file h f) ∷ (13 when (leb (count_field f) i || leb (count_field f) j)) ∷ [];
      value = record {
        same = cond (differ (4 * h.rows) (commitment_bytes h f i) (commitment_bytes h f j)) 0 1;
        refusal = 0;
      };
      refused = λ n. record { same = 0; refusal = n };
    }

-- the call
unfoldable pub same_commitment : List ℕ → List ℕ → ℕ → ℕ → Compared
same_commitment sheet f i j = answer (on_sheet sheet (comparing (header_of sheet) f i j))
