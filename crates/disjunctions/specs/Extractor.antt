-- Extracting from two rounds of the OR proof (02, card 4; refusals 2 to 11 of either sheet, 26, then 14 to 16 and 18 to 20).
-- Assumes nothing.
use Rattle.std.specs.Prelude.{ℕ, Bool, true, false, cond, not, ◌||◌, List, [], ◌∷◌, eqb}
use Rattle.types.specs.declared.Round.{Round}
use Rattle.disjunctions.specs.declared.OrExtracted.{OrExtracted}
use Rattle.disjunctions.specs.declared.OrRound.{OrRound}
use Rattle.disjunctions.specs.declared.OrVerdict.{OrVerdict}
use Rattle.disjunctions.specs.declared.OrVerdict.TheVariants.{OrAccepted, OrRejected, OrRefused}
use Rattle.lists.specs.Places.{pad8, zeros8}
use Rattle.rules.specs.Call.{Call, answer}
use Rattle.rules.specs.Rule.{◌when◌}
use Rattle.formats.specs.Sheet.{instance_of}
use Rattle.sigma.specs.Comparison.{differ}
use Rattle.sigma.specs.Extractor.{extracted}
use Rattle.sigma.specs.Instance.{Instance}
use Rattle.disjunctions.specs.Judge.{bad_challenges, bad_commitments, bad_responses, on_pair, verdict_or}
use Rattle.disjunctions.specs.Round.{first_round, read_or, second_round}

-- whether a verdict is accepted
unfoldable pub is_or_accepted : OrVerdict → Bool
is_or_accepted OrAccepted = true
is_or_accepted (OrRejected mask0 mask1) = false
is_or_accepted (OrRefused number) = false

-- the side whose witness the rounds give: 0 where their c0 differ, else 1
unfoldable pub extracted_side : OrRound → OrRound → ℕ
extracted_side a b = cond (eqb a.challenge0 b.challenge0) 1 0

-- 01's formula of two rounds of one sheet
unfoldable pub extracted_of : Instance → Round → Round → List ℕ
extracted_of inst a b = extracted inst a.challenge a.response b.challenge b.response

-- the witness of that side, by its own sheet
unfoldable pub extracted_or : Instance → Instance → OrRound → OrRound → List ℕ
extracted_or i j a b =
    cond (eqb a.challenge0 b.challenge0)
    (extracted_of j (second_round i.header.challenges a) (second_round i.header.challenges b))
    (extracted_of i (first_round a) (first_round b))

-- extracting from two rounds: 14 to 16 and 18 to 20 of what is read of them, each asked of both sides of both rounds before the next,
-- else the witness and its side; a refused call gives zeros
unfoldable pub extracting_or : Instance → Instance → OrRound → OrRound → Call OrExtracted
extracting_or i j first second =
    let a : OrRound = read_or i j first in
    let b : OrRound = read_or i j second in
    record {
      refusals =
          (14 when (bad_commitments i j a || bad_commitments i j b)) ∷
          (15 when (bad_challenges i a || bad_challenges i b)) ∷
          (16 when (bad_responses i j a || bad_responses i j b)) ∷
          (18 when (differ i.header.rows a.commitment0 b.commitment0 ||
          differ j.header.rows a.commitment1 b.commitment1)) ∷
          (19 when eqb a.challenge b.challenge) ∷
          (20 when (not (is_or_accepted (verdict_or i j a)) || not (is_or_accepted (verdict_or i j b)))) ∷ [];
      value = record { values = pad8 0 (extracted_or i j a b); side = extracted_side a b; refusal = 0 };
      refused = λ n. record { values = zeros8; side = 0; refusal = n };
    }

-- the call that extracts a witness of one of two sheets
unfoldable pub extract_or : List ℕ → List ℕ → OrRound → OrRound → OrExtracted
extract_or s s' first second = answer (on_pair s s' (extracting_or (instance_of s) (instance_of s') first second))
