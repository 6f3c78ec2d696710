-- Checking a ledger (02, card 14; refusals 5, 6, 8 and 10 of what its lines share, then 37, 35, 36, 14, 15 and 16, each asked of all
-- lines before the next).
-- Assumes nothing.
use Rattle.std.specs.Prelude.{ℕ, Bool, not, cond, ◌&&◌, ◌||◌, List, [], ◌∷◌, ◌++◌, eqb, leb, ltb}
use Rattle.numbers.specs.Search.{any, find}
use Rattle.rules.specs.Call.{Call, answer}
use Rattle.rules.specs.Rule.{Rule, ◌when◌}
use Rattle.sigma.specs.Admission.{bad_count, bad_modulus, bad_order}
use Rattle.sigma.specs.Answer.{is_accepted}
use Rattle.sigma.specs.Element.{is_element, some_non_coordinate, some_non_element}
use Rattle.sigma.specs.Judge.{judge_loaded}
use Rattle.ledgers.specs.Ledger.{commitments, line_instance, line_round}
use Rattle.ledgers.specs.Lines.{line_at}
use Rattle.ledgers.specs.Refusals.{product_header}
use Rattle.ledgers.specs.declared.Base.{Base}
use Rattle.ledgers.specs.declared.Checked.{Checked}
use Rattle.ledgers.specs.declared.Ledger.{Ledger}
use Rattle.ledgers.specs.declared.Line.{Line}

-- what the lines share: 5, 6, 8 and 10
unfoldable pub base_rules : Base → List Rule
base_rules base =
    (5 when bad_modulus (product_header base)) ∷
    (6 when bad_order (product_header base)) ∷
    (8 when bad_count (product_header base)) ∷
    (10 when some_non_element (product_header base) 2 (base.g ∷ base.h ∷ [])) ∷ []

-- the kind is none of 1, 2 and 3 (35)
unfoldable pub bad_line_kind : ℕ → Bool
bad_line_kind kind = not (eqb kind 1 || (eqb kind 2 || eqb kind 3))

-- a sum or a product as line i names a line that is not above it (36)
unfoldable pub not_above : ℕ → ℕ → ℕ → ℕ → Bool
not_above i kind first second = (eqb kind 2 || eqb kind 3) && (leb i first || leb i second)

-- a commitment that is stored, or a value of t, is no group element (14)
unfoldable pub bad_elements : Base → Line → Bool
bad_elements base line =
    ((eqb line.kind 1 || eqb line.kind 3) && not (is_element (product_header base) line.commitment)) ||
    (eqb line.kind 3 && some_non_element (product_header base) 2 line.t)

-- the challenge of a product is K or more (15)
unfoldable pub bad_line_challenge : Base → ℕ → ℕ → Bool
bad_line_challenge base kind challenge = eqb kind 3 && leb base.challenges challenge

-- a slot of a product's response is q or more (16)
unfoldable pub bad_response : Base → Line → Bool
bad_response base line = eqb line.kind 3 && some_non_coordinate (product_header base) 3 line.response

-- a line is a product whose round is rejected, of the commitments of the lines above it
unfoldable pub rejects_line : Base → List ℕ → Line → Bool
rejects_line base above line =
    eqb line.kind 3 && not (is_accepted (judge_loaded (line_instance base above line) (line_round line)))

-- the first such line, and the count where there is none
unfoldable pub first_rejected : Base → Ledger → ℕ
first_rejected base ledger =
    find (λ i. rejects_line base (commitments base.modulus ledger i) (line_at ledger i)) 0 ledger.count

-- checking: 37 for more than 64 lines, then 35, 36 and 14 to 16; accepted, or the first line that is rejected
unfoldable pub checking_ledger : Base → Ledger → Call Checked
checking_ledger base ledger =
    let line : ℕ = first_rejected base ledger in
    record {
      refusals =
          base_rules base ++
          (37 when ltb 64 ledger.count) ∷
          (35 when any ledger.count (λ i. bad_line_kind (line_at ledger i).kind)) ∷
          (36 when any ledger.count (λ i. not_above i (line_at ledger i).kind (line_at ledger i).first (line_at ledger i).second)) ∷
          (14 when any ledger.count (λ i. bad_elements base (line_at ledger i))) ∷
          (15 when any ledger.count (λ i. bad_line_challenge base (line_at ledger i).kind (line_at ledger i).challenge)) ∷
          (16 when any ledger.count (λ i. bad_response base (line_at ledger i))) ∷ [];
      value =
          record {
            accepted = cond (ltb line ledger.count) 0 1;
            line = cond (ltb line ledger.count) line 0;
            refusal = 0;
          };
      refused = λ n. record { accepted = 0; line = 0; refusal = n };
    }

-- the checker
unfoldable pub check_ledger : Base → Ledger → Checked
check_ledger base ledger = answer (checking_ledger base ledger)
