-- Extracting, return by return: the rules before any round is judged, 20 where a round is not accepted, else the formula's value.
-- Assumes nothing.
use mathlib.Core.Path.{◌≡◌, sym, ap, ◌∙◌}
use mathlib.Core.Bool.{not, ◌||◌, or-true}
use mathlib.Core.Logic.{◌≢◌}
use mathlib.Core.List.{List, [], ◌∷◌, ◌++◌}
use Prim.Native.Nat.{ℕ, ◌-◌, ◌<◌}
use native.Mathlib.Omega.{arith}
use lib.Dec.{T}
use lib.IntN.{pos, neg_ℤ}
use denote.Enum.Declared.{tag_of}
use types.Run.{OneOf, miss}
use Rattle.types.specs.declared.Round.{Round}
use Rattle.types.specs.declared.Verdict.{Verdict}
use Rattle.types.specs.declared.Verdict.TheVariants.{Accepted}
use Rattle.types.specs.contracts.Verdict.{the_type}
use Rattle.lists.specs.Places.{places, pad8, zeros8}
use Rattle.lists.proofs.Each.{each_length}
use Rattle.numbers.specs.Inverse.{inverse}
use Rattle.numbers.proofs.Coprime.{coprime_below}
use Rattle.rules.specs.Call.{number_of}
use Rattle.rules.specs.Rule.{Rule, ◌when◌, lowest, all_positive}
use Rattle.rules.proofs.Call.{answer_refused}
use Rattle.rules.proofs.Lowest.{stop, lowest_clear, lowest_earlier, lowest_later_zero}
use Rattle.rules.proofs.Says.{says_false}
use Rattle.sigma.specs.Answer.{is_accepted}
use Rattle.sigma.specs.Extractor.{formula, extracting, extract_loaded}
use Rattle.sigma.specs.Instance.{Instance, statement_at}
use Rattle.sigma.specs.Knowledge.{AcceptedRound, AcceptedPair}
use Rattle.sigma.specs.Meaning.{Extracts}
use Rattle.sigma.specs.Round.{verdict}
use Rattle.sigma.specs.Valid.{Valid}
use Rattle.sigma.proofs.Formula.{formula_by_kind}
use Rattle.sigma.proofs.Calls.{valid_judge_accepted, extract_refusal, valid_extract_runs}
use Rattle.sigma.proofs.Extractor.{extraction}
use Rattle.sigma.proofs.Tests.{says_accepted}
use Rattle.sigma.proofs.Valid.{valid_modulus, valid_kind, valid_challenge}
use Rattle.refusals.specs.Number.{number}
use Rattle.refusals.specs.declared.Refusal.{Refusal}
use Rattle.refusals.proofs.Positive.{number_positive}
use Rattle.extractor.specs.Coefficients.{left_coefficient, WitnessFits}
use Rattle.extractor.specs.Rules.{rules_of_pair}
use Rattle.extractor.proofs.Coefficients.{coefficients_fit}

-- a round's verdict on what is read of it
abbrev pub judged_round : Instance → Round → Verdict
judged_round inst round =
    verdict inst (places inst.header.rows round.commitment) round.challenge (places inst.header.columns round.response)

-- ---- refused

-- a verdict with the tag of one of the other two cases is not accepted
pub not_accepted : (v : Verdict) → OneOf (1 ∷ 2 ∷ []) (tag_of the_type v) → v ≢ Accepted
not_accepted v told same = miss (1 ∷ 2 ∷ []) 0 tt (rw same at told)

module _ (inst : Instance) (first second : Round) where
  -- the rule of the two verdicts
  abbrev verdict_rules : List Rule
  verdict_rules = (20 when (not (is_accepted (judged_round inst first)) || not (is_accepted (judged_round inst second)))) ∷ []

  -- the number is that of the rules before judging, or 20
  refusal_split : (extract_loaded inst first second).refusal ≡ lowest (rules_of_pair inst first second ++ verdict_rules)
  unfolding extracting number_of
  refusal_split = extract_refusal inst first second

  -- where the number is above 0 it is the whole answer
  refused_with_law : (n : ℕ) → 0 < n → (extract_loaded inst first second).refusal ≡ n
      → record { refusal = n; values = zeros8 } ≡ extract_loaded inst first second
  unfolding extract_loaded extracting
  refused_with_law n some e =
      let is : number_of (extracting inst first second) ≡ n = sym (extract_refusal inst first second) ∙ e in
      rw (← is) (sym (answer_refused (extracting inst first second) (rw is some)))

  -- a rule before judging gives the answer
  pub pair_refused : (refusal : Refusal) → number refusal ≡ lowest (rules_of_pair inst first second)
      → record { refusal = number refusal; values = zeros8 } ≡ extract_loaded inst first second
  pair_refused refusal is_lowest =
      let some : 0 < number refusal = number_positive refusal in
      refused_with_law (number refusal) some (refusal_split ∙ lowest_earlier _ _ (rw (sym is_lowest) some) ∙ sym is_lowest)

  -- the numbers of these rules are above 0
  pair_positive : T (all_positive (rules_of_pair inst first second))
  unfolding extracting
  pair_positive = tt

  module _ (none : 0 ≡ lowest (rules_of_pair inst first second)) where
    -- behind them 20 is left
    verdicts_left : (extract_loaded inst first second).refusal ≡ lowest verdict_rules
    verdicts_left = refusal_split ∙ lowest_later_zero _ _ pair_positive (sym none)

    -- a first round that is not accepted is 20
    pub first_rejected_law : {answer : Verdict} → answer ≡ judged_round inst first → answer ≢ Accepted
        → record { refusal = 20; values = zeros8 } ≡ extract_loaded inst first second
    first_rejected_law {answer} is_answer other =
        refused_with_law 20 (omega arith) (verdicts_left ∙ stop 20 [] (rw (sym is_answer, (says_false (says_accepted answer)).1 other)))

    -- so is a second one
    pub second_rejected : {answer : Verdict} → answer ≡ judged_round inst second → answer ≢ Accepted
        → record { refusal = 20; values = zeros8 } ≡ extract_loaded inst first second
    second_rejected {answer} is_answer other =
        refused_with_law 20 (omega arith) (verdicts_left ∙ stop 20 [] (rw (sym is_answer, (says_false (says_accepted answer)).1 other, or-true)))

    -- two accepted rounds are what the extractor asks for
    pub both_accepted : Valid inst → {answer answer' : Verdict} → answer ≡ judged_round inst first → answer ≡ Accepted
        → answer' ≡ judged_round inst second → answer' ≡ Accepted → Extracts inst first second
    unfolding is_accepted
    both_accepted v is_answer accepted is_answer' accepted' =
        (valid_extract_runs inst first second v).0
        (verdicts_left ∙ lowest_clear verdict_rules (rw (sym is_answer ∙ accepted, sym is_answer' ∙ accepted'), tt))

-- ---- accepted

-- what the extractor asks for holds with the rounds swapped
pub swapped_rounds : {inst : Instance} {first second : Round} → Extracts inst first second → Extracts inst second first
swapped_rounds x = record {
  first_fits = x.second_fits;
  second_fits = x.first_fits;
  commitments = λ i h. sym (x.commitments i h);
  challenges = λ e. x.challenges (sym e);
  first_holds = x.second_holds;
  second_holds = x.first_holds;
}

module _ {inst : Instance} (v : Valid inst) (first second : Round) (x : Extracts inst first second)
    (larger : second.challenge < first.challenge) where
  -- what the formula asks for, where the first challenge is the larger
  pub witness_fits
      : WitnessFits inst.header inst.statement (first.challenge - second.challenge) first.response second.response
  unfolding statement_at
  witness_fits =
      let below = x.first_fits.challenge in
      record {
        modulus = valid_modulus v.table;
        order = v.table.order;
        columns = v.table.few_columns;
        below = omega (arith, valid_challenge v.table _ below);
        coprime = coprime_below inst.header.challenges _ v.table.no_divisor _ (omega arith) (omega arith);
        base = λ other j inside. v.statement j (omega (arith, v.table.square (valid_kind v.table other)));
        dividends = x.first_fits.response;
        divisors = x.second_fits.response;
      }

  -- both rounds are accepted
  pair : AcceptedPair inst.header (AcceptedRound inst) first second
  pair = record {
    first_accepted = (valid_judge_accepted inst first v).1 (x.first_fits, x.first_holds);
    second_accepted = (valid_judge_accepted inst second v).1 (x.second_fits, x.second_holds);
    commitments = x.commitments;
    challenges = x.challenges;
  }

  module _ {values : List ℕ}
      (is_values : values ≡ pad8 0 (formula inst (neg_ℤ (pos (left_coefficient inst.header.order (first.challenge - second.challenge))))
      (pos (inverse inst.header.order (first.challenge - second.challenge))) first.response second.response)) where
    -- the formula's value is the answer
    pub witness_given : record { refusal = 0; values = values } ≡ extract_loaded inst first second
    witness_given =
        let e = extraction v first second pair in
        let delta = first.challenge - second.challenge in
        let coprime = witness_fits.coprime in
        let fit = coefficients_fit inst.header.order delta v.table.order coprime first.challenge second.challenge (omega arith) in
        let a = neg_ℤ (pos (left_coefficient inst.header.order delta)) in
        let b = pos (inverse inst.header.order delta) in
        let given = formula_by_kind inst a b first.response second.response e.value
        (each_length _ _ e.value e.witness.slots) (λ k. e.exponent k a b fit) (λ k. e.root k a b fit) in
        rw is_values (ap (λ (y : List ℕ). record { refusal = 0; values = pad8 0 y }) given ∙ sym e.answer)

    -- and the answer with the rounds swapped
    pub witness_swapped : record { refusal = 0; values = values } ≡ extract_loaded inst second first
    witness_swapped = witness_given ∙ sym (extraction v first second pair).swapped
