-- The extractor (01, "A round"; refusals 14 to 16 of both rounds, then 18 to 20): u^a · (r/r')^b with ℓa + (c − c')b = 1.
-- Assumes nothing.
use Rattle.std.specs.Prelude.{ℕ, ◌*◌, ◌%◌, not, cond, ◌||◌, List, [], ◌∷◌, eqb, ℤ, pos, ◌-ℤ◌, ◌*ℤ◌, get_or}
use Rattle.types.specs.declared.Computed.{Computed}
use Rattle.types.specs.declared.Header.{Header}
use Rattle.types.specs.declared.Round.{Round}
use Rattle.lists.specs.Places.{tabulate, places, pad8, zeros8}
use Rattle.numbers.specs.Integer.{residue, power, bezout_left, bezout_right}
use Rattle.numbers.specs.Inverse.{inverse}
use Rattle.rules.specs.Call.{Call, answer}
use Rattle.rules.specs.Rule.{◌when◌}
use Rattle.sigma.specs.Answer.{is_accepted}
use Rattle.sigma.specs.Comparison.{differ}
use Rattle.sigma.specs.Instance.{Instance, is_exponent, statement_at}
use Rattle.sigma.specs.Round.{verdict, bad_commitment, bad_challenge, bad_coordinates}

-- a slot of u^a · (r/r')^b: in kind 1, where u is zeros, b(r − r') mod q; in kind 2, where u is z, z^a · (r/r')^b mod m
unfoldable pub slot_formula : Header → ℕ → ℤ → ℤ → ℕ → ℕ → ℕ
slot_formula h z a b r r' =
    cond (is_exponent h) (residue h.order (b *ℤ (pos r -ℤ pos r')))
    (power h.modulus z a * power h.modulus (r * inverse h.modulus r' % h.modulus) b % h.modulus)

-- 01's formula, slot by slot
unfoldable pub formula : Instance → ℤ → ℤ → List ℕ → List ℕ → List ℕ
formula inst a b r r' =
    tabulate inst.header.columns
    (λ j. slot_formula inst.header (statement_at inst j) a b (get_or r j 0) (get_or r' j 0))

-- the formula at the coefficients a and b that belong to the challenges c and c'
unfoldable pub extracted : Instance → ℕ → List ℕ → ℕ → List ℕ → List ℕ
extracted inst c r c' r' =
    let delta : ℤ = pos c -ℤ pos c' in
    formula inst (bezout_left inst.header.order delta) (bezout_right inst.header.order delta) r r'

-- extracting from the rounds (t, c, r) and (t', c', r'): each of 14 to 16 asked of both before the next, then 18 to 20, else the
-- witness in eight places; s places of each commitment and n of each response are read
unfoldable pub extracting : Instance → Round → Round → Call Computed
extracting inst first second =
    let t : List ℕ = places inst.header.rows first.commitment in
    let c : ℕ = first.challenge in
    let r : List ℕ = places inst.header.columns first.response in
    let t' : List ℕ = places inst.header.rows second.commitment in
    let c' : ℕ = second.challenge in
    let r' : List ℕ = places inst.header.columns second.response in
    record {
      refusals =
          (14 when (bad_commitment inst t || bad_commitment inst t')) ∷
          (15 when (bad_challenge inst c || bad_challenge inst c')) ∷
          (16 when (bad_coordinates inst r || bad_coordinates inst r')) ∷
          (18 when differ inst.header.rows t t') ∷
          (19 when eqb c c') ∷
          (20 when (not (is_accepted (verdict inst t c r)) || not (is_accepted (verdict inst t' c' r')))) ∷ [];
      value = record { refusal = 0; values = pad8 0 (extracted inst c r c' r') };
      refused = λ n. record { refusal = n; values = zeros8 };
    }

-- the witness from two rounds of a Valid instance, for callers that have loaded the sheet
unfoldable pub extract_loaded : Instance → Round → Round → Computed
extract_loaded inst first second = answer (extracting inst first second)
