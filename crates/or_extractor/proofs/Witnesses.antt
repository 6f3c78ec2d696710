-- Extracting, return by return: the rules before any round is judged, 20 where a round is not accepted, else the formula's value of
-- the side that the rounds name.
-- Assumes nothing.
use Prim.Native.Nat.{ℕ, ◌<◌}
use mathlib.Core.Path.{◌≡◌, refl, sym, ap, ◌∙◌}
use mathlib.Core.Bool.{Bool, false, not, true, ◌&&◌, ◌||◌, or-true, true≢false}
use mathlib.Core.List.{List, [], ◌∷◌, ◌++◌}
use mathlib.Core.Logic.{◌≢◌}
use native.Mathlib.Omega.{arith}
use denote.Enum.Declared.{tag_of}
use types.Run.{OneOf, miss}
use borrow.Author.Tests.{eq-eqb, ne_eqb}
use Rattle.types.specs.declared.Computed.{Computed}
use Rattle.types.specs.declared.Verdict.{Verdict}
use Rattle.lists.specs.Places.{pad8, zeros8}
use Rattle.rules.specs.Call.{answer, number_of}
use Rattle.rules.specs.Rule.{Clear, Rule, ◌when◌, lowest}
use Rattle.rules.proofs.Call.{number_clear, answer_clear, answer_refused}
use Rattle.rules.proofs.Lowest.{clear_append, clear_lowest, lowest_earlier, lowest_later, stop}
use Rattle.sigma.specs.Answer.{is_accepted}
use Rattle.sigma.specs.Comparison.{differ}
use Rattle.sigma.specs.Extractor.{extracting, extract_loaded}
use Rattle.sigma.specs.Instance.{Instance}
use Rattle.sigma.specs.Round.{bad_challenge, bad_commitment, bad_coordinates}
use Rattle.sigma.proofs.Calculus.{both_fail}
use Rattle.sigma.proofs.Calls.{extract_given, extract_refusal}
use Rattle.sigma.proofs.Passed.{challenge_passes}
use Rattle.disjunctions.specs.declared.OrRound.{OrRound}
use Rattle.disjunctions.specs.declared.OrVerdict.{OrVerdict}
use Rattle.disjunctions.specs.declared.OrVerdict.TheVariants.{OrAccepted, OrRefused, OrRejected}
use Rattle.disjunctions.specs.contracts.OrVerdict.{the_type}
use Rattle.disjunctions.specs.Extractor.{extracted_of, extracted_or, extracted_side, extracting_or, is_or_accepted}
use Rattle.disjunctions.specs.Judge.{bad_challenges, bad_commitments, bad_responses, combined, verdict_or}
use Rattle.disjunctions.specs.Round.{first_round, other_challenge, read_or, second_round}
use Rattle.disjunctions.proofs.Challenges.{other_apart, other_less}
use Rattle.disjunctions.proofs.Tests.{combined_accepted}
use Rattle.or_judge.specs.Values.{FitTogether}
use Rattle.or_extractor.specs.Rounds.{NotRefused, rounds_rules}
use Rattle.or_extractor.proofs.RoundsTests.{both_below}

-- ---- refused

-- a verdict with the tag of one of the other two cases is not accepted
pub not_or_accepted : (v : OrVerdict) → OneOf (1 ∷ 2 ∷ []) (tag_of the_type v) → v ≢ OrAccepted
not_or_accepted v told same = miss (1 ∷ 2 ∷ []) 0 tt (rw same at told)

-- a verdict that is not accepted says so
is_not_accepted : (v : OrVerdict) → v ≢ OrAccepted → is_or_accepted v ≡ false
unfolding is_or_accepted
is_not_accepted OrAccepted other = absurd (other refl)
is_not_accepted (OrRejected side row) other = refl
is_not_accepted (OrRefused number) other = refl

module _ (i j : Instance) (a b : OrRound) where
  -- the rule of the two verdicts
  abbrev verdict_rules : List Rule
  verdict_rules = (20 when (not (is_or_accepted (verdict_or i j (read_or i j a))) || not (is_or_accepted (verdict_or i j (read_or i j b))))) ∷ []

  -- the number is that of the rules before judging, or 20
  split : number_of (extracting_or i j a b) ≡ lowest (rounds_rules i j a b ++ verdict_rules)
  unfolding extracting_or number_of
  split = refl

  -- a number above 0 is the whole answer
  refused_with_law : {n : ℕ} → n ≢ 0 → number_of (extracting_or i j a b) ≡ n
      → record { values = zeros8; side = 0; refusal = n } ≡ answer (extracting_or i j a b)
  unfolding extracting_or
  refused_with_law other given =
      ap (extracting_or i j a b).refused (sym given) ∙ sym (answer_refused (extracting_or i j a b) (omega (arith, given)))

  -- a rule before judging gives the answer
  pub rounds_refused : {n : ℕ} → n ≡ lowest (rounds_rules i j a b) → n ≢ 0
      → record { values = zeros8; side = 0; refusal = n } ≡ answer (extracting_or i j a b)
  rounds_refused {n} is_lowest other =
      let some : 0 < n = omega arith in
      refused_with_law other (split ∙ lowest_earlier (rounds_rules i j a b) _ (rw (sym is_lowest) some) ∙ sym is_lowest)

  module _ (none : 0 ≡ lowest (rounds_rules i j a b)) where
    -- no rule before judging applies
    rounds_clear : Clear (rounds_rules i j a b)
    unfolding extracting_or
    rounds_clear = clear_lowest (rounds_rules i j a b) tt (sym none)

    -- so both c0 are below K
    pub tested_below : (a.challenge0 < i.header.challenges) × (b.challenge0 < i.header.challenges)
    unfolding extracting_or
    tested_below = let below = both_below i j a b rounds_clear.1.0 in (below.0.1, below.1.1)

    -- behind them 20 is left
    verdicts_left : number_of (extracting_or i j a b) ≡ lowest verdict_rules
    verdicts_left = split ∙ lowest_later (rounds_rules i j a b) _ rounds_clear

    -- a first round that is not accepted is 20
    pub first_rejected_law : {v : OrVerdict} → v ≡ verdict_or i j (read_or i j a) → v ≢ OrAccepted
        → record { values = zeros8; side = 0; refusal = 20 } ≡ answer (extracting_or i j a b)
    first_rejected_law {v} is_verdict other =
        refused_with_law (λ (e : 20 ≡ 0). omega arith) (verdicts_left ∙ stop 20 [] (rw (sym is_verdict, is_not_accepted v other)))

    -- so is a second one
    pub second_rejected : {v : OrVerdict} → v ≡ verdict_or i j (read_or i j b) → v ≢ OrAccepted
        → record { values = zeros8; side = 0; refusal = 20 } ≡ answer (extracting_or i j a b)
    second_rejected {v} is_verdict other =
        refused_with_law (λ (e : 20 ≡ 0). omega arith) (verdicts_left ∙ stop 20 [] (rw (sym is_verdict, is_not_accepted v other, or-true)))

    -- two accepted rounds are not refused
    pub both_accepted : {v w : OrVerdict} → v ≡ verdict_or i j (read_or i j a) → v ≡ OrAccepted
        → w ≡ verdict_or i j (read_or i j b) → w ≡ OrAccepted → NotRefused i j a b
    unfolding extracting_or is_or_accepted
    both_accepted is_first accepted is_second accepted' =
        (clear_append (rounds_rules i j a b) verdict_rules).1 (rounds_clear, (rw (sym is_first ∙ accepted, sym is_second ∙ accepted'), tt))

-- ---- not refused

-- both sides of a round that is accepted are
sides_accepted : (v w : Verdict) → not (is_or_accepted (combined v w)) ≡ false → (not (is_accepted v) ≡ false) × (not (is_accepted w) ≡ false)
sides_accepted v w e = both (is_accepted v) (is_accepted w) (rw (combined_accepted v w) at e)
  where
    both : (x y : Bool) → not (x && y) ≡ false → (not x ≡ false) × (not y ≡ false)
    both true y e = (refl, e)
    both false y e = absurd (true≢false e)

-- of two pairs none of which applies, the first halves and the second do not
halves : (x y u v : Bool) → ((x || y) || (u || v)) ≡ false → ((x || u) ≡ false) × ((y || v) ≡ false)
halves true y u v e = absurd (true≢false e)
halves false true u v e = absurd (true≢false e)
halves false false u v e = (both_fail u v).0 e

module _ {i j : Instance} (fit : FitTogether i j) (a b : OrRound) (none : NotRefused i j a b) where
  -- K is above 0
  pub some_challenge : 0 < i.header.challenges
  some_challenge = omega (arith, fit.first.table.some_challenges)

  -- and both c0 are below it
  pub named_below : (a.challenge0 < i.header.challenges) × (b.challenge0 < i.header.challenges)
  unfolding extracting_or
  named_below = let below = both_below i j a b none.1.0 in (below.0.1, below.1.1)

  -- what is left of a challenge is one of the second sheet
  left_passes : (round : OrRound) → bad_challenge j (other_challenge i.header.challenges round.challenge round.challenge0) ≡ false
  left_passes round = (challenge_passes j _).1 (rw (sym fit.one_count) (other_less i.header.challenges _ _ some_challenge))

  -- the rounds give the witness of the side that they name
  given : answer (extracting_or i j a b)
      ≡ record {
        values = pad8 0 (extracted_or i j (read_or i j a) (read_or i j b));
        side = extracted_side (read_or i j a) (read_or i j b);
        refusal = 0;
      }
  unfolding extracting_or
  given = answer_clear (extracting_or i j a b) none

  -- no rule of 01's extractor applies to the rounds of side 0 where the c0 differ
  first_clear : a.challenge0 ≢ b.challenge0
      → Clear (extracting i (first_round a) (first_round b)).refusals
  unfolding extracting_or extracting first_round bad_commitments bad_challenges bad_responses verdict_or read_or
  first_clear apart =
      let (elements, (challenges, (slots, (same, (other, (accepted, end)))))) = none in
      let both = (both_fail (not (is_or_accepted (verdict_or i j (read_or i j a)))) _).0 accepted in (
        (halves (bad_commitment i _) _ (bad_commitment i _) _ elements).0,
        (
          (halves (bad_challenge i a.challenge) _ (bad_challenge i b.challenge) _ challenges).1,
          (
            (halves (bad_coordinates i _) _ (bad_coordinates i _) _ slots).0,
            (
              ((both_fail (differ _ _ _) _).0 same).0,
              (ne_eqb _ _ apart, ((both_fail (not (is_accepted _)) _).1 ((sides_accepted _ _ both.0).0, (sides_accepted _ _ both.1).0), tt)),
            ),
          ),
        ),
      )

  -- nor to those of side 1 where they are the same: then what is left of different c is different
  second_clear : a.challenge0 ≡ b.challenge0
      → Clear (extracting j (second_round i.header.challenges a) (second_round i.header.challenges b)).refusals
  unfolding extracting_or extracting second_round bad_commitments bad_responses verdict_or read_or
  second_clear one =
      let K = i.header.challenges in
      let (elements, (challenges, (slots, (same, (other, (accepted, end)))))) = none in
      let both = (both_fail (not (is_or_accepted (verdict_or i j (read_or i j a)))) _).0 accepted in
      let (first, second) = both_below i j a b challenges in (
        (halves (bad_commitment i _) _ (bad_commitment i _) _ elements).1,
        (
          (both_fail (bad_challenge j _) _).1 (left_passes a, left_passes b),
          (
            (halves (bad_coordinates i _) _ (bad_coordinates i _) _ slots).1,
            (
              ((both_fail (differ _ _ _) _).0 same).1,
              (
                ne_eqb _ _ (λ (e : other_challenge K a.challenge a.challenge0 ≡ other_challenge K b.challenge b.challenge0).
                    true≢false
                    (sym (eq-eqb _ _ (other_apart K a.challenge b.challenge a.challenge0 first.0 second.0 first.1
                    (e ∙ ap (other_challenge K b.challenge) (sym one)))) ∙ other)),
                ((both_fail (not (is_accepted _)) _).1 ((sides_accepted _ _ both.0).1, (sides_accepted _ _ both.1).1), tt),
              ),
            ),
          ),
        ),
      )

  module _ {witness : Computed} where
    -- so where the c0 differ, the witness of side 0 is not refused
    pub first_runs : a.challenge0 ≢ b.challenge0 → witness ≡ extract_loaded i (first_round a) (first_round b) → witness.refusal ≡ 0
    first_runs apart is_witness =
        ap (λ (given : Computed). given.refusal) is_witness ∙ extract_refusal i (first_round a) (first_round b)
        ∙ number_clear _ (first_clear apart)

    -- and is the answer
    pub first_side : a.challenge0 ≢ b.challenge0 → witness ≡ extract_loaded i (first_round a) (first_round b)
        → record { values = witness.values; side = 0; refusal = 0 } ≡ answer (extracting_or i j a b)
    unfolding first_round extracted_or extracted_side extracted_of read_or
    first_side apart is_witness =
        let runs = extract_refusal i (first_round a) (first_round b) ∙ number_clear _ (first_clear apart) in
        let whole = is_witness ∙ extract_given i (first_round a) (first_round b) runs in
        let values = ap (λ (given : Computed). given.values) whole in
        sym (given ∙ rw (ne_eqb a.challenge0 b.challenge0 apart, values))

    -- else that of side 1 is not refused
    pub second_runs : a.challenge0 ≡ b.challenge0
        → witness ≡ extract_loaded j (second_round i.header.challenges a) (second_round i.header.challenges b) → witness.refusal ≡ 0
    second_runs same is_witness =
        let K = i.header.challenges in
        ap (λ (given : Computed). given.refusal) is_witness ∙ extract_refusal j (second_round K a) (second_round K b)
        ∙ number_clear _ (second_clear same)

    -- and is the answer
    pub second_side : a.challenge0 ≡ b.challenge0
        → witness ≡ extract_loaded j (second_round i.header.challenges a) (second_round i.header.challenges b)
        → record { values = witness.values; side = 1; refusal = 0 } ≡ answer (extracting_or i j a b)
    unfolding second_round extracted_or extracted_side extracted_of read_or
    second_side same is_witness =
        let K = i.header.challenges in
        let runs = extract_refusal j (second_round K a) (second_round K b) ∙ number_clear _ (second_clear same) in
        let whole = is_witness ∙ extract_given j (second_round K a) (second_round K b) runs in
        let values = ap (λ (given : Computed). given.values) whole in
        sym (given ∙ rw (eq-eqb a.challenge0 b.challenge0 same, values))
