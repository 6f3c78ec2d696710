-- Extracting from two accepted rounds of two sheets that load with one K is extracting from their rounds of one side.
-- Assumes nothing.
use Prim.Native.Nat.{ℕ}
use mathlib.Core.Path.{◌≡◌, sym, ap, ◌∙◌}
use mathlib.Core.Logic.{◌≢◌}
use mathlib.Core.Bool.{false, not, ◌||◌}
use mathlib.Core.List.{List, []}
use lib.Dec.{eqb}
use borrow.Author.Tests.{eq-eqb, ne_eqb}
use Rattle.types.specs.declared.Computed.{Computed}
use Rattle.disjunctions.specs.declared.OrExtracted.{OrExtracted}
use Rattle.disjunctions.specs.declared.OrRound.{OrRound}
use Rattle.lists.specs.Places.{pad8, places}
use Rattle.lists.proofs.Places.{get_d_places}
use Rattle.rules.specs.Rule.{Clear}
use Rattle.rules.proofs.Call.{answer_clear}
use Rattle.formats.specs.Sheet.{instance_of}
use Rattle.runs.specs.Calls.{extract_witness}
use Rattle.runs.proofs.Demand3.{sheet_extraction}
use Rattle.runs.proofs.Loaded.{extract_loaded_law}
use Rattle.sigma.specs.Comparison.{differ}
use Rattle.sigma.specs.Instance.{Instance}
use Rattle.sigma.specs.Knowledge.{Extraction}
use Rattle.sigma.specs.Reads.{Agree}
use Rattle.sigma.proofs.Calculus.{both_fail}
use Rattle.sigma.proofs.Calls.{extract_given}
use Rattle.sigma.proofs.Comparison.{differ_false}
use Rattle.disjunctions.specs.Extractor.{
  extract_or,
  extracted_of,
  extracted_or,
  extracted_side,
  extracting_or,
  is_or_accepted,
}
use Rattle.disjunctions.specs.Judge.{bad_challenges, bad_commitments, bad_responses, judging_or, verdict_or}
use Rattle.disjunctions.specs.Ours.{AcceptedOrPair, AcceptsOr, ExtractsSide, Pair}
use Rattle.disjunctions.specs.Round.{first_round, other_challenge, read_or, second_round}
use Rattle.disjunctions.proofs.Challenges.{other_apart}
use Rattle.disjunctions.proofs.Judged.{accepted_below, accepted_clear, accepted_verdict, or_accepted}
use Rattle.disjunctions.proofs.OnPair.{on_pair_loads}
use Rattle.disjunctions.proofs.Pairs.{first_loads, second_loads}

-- two accepted rounds, the other way round
swapped_pair : (s s' : List ℕ) (a b : OrRound) → AcceptedOrPair s s' a b → AcceptedOrPair s s' b a
swapped_pair s s' a b p = record {
  first_accepted = p.second_accepted;
  second_accepted = p.first_accepted;
  first_commitments = λ k h. sym (p.first_commitments k h);
  second_commitments = λ k h. sym (p.second_commitments k h);
  challenges = λ e. p.challenges (sym e);
}

-- arrays that agree in n places do not differ there, read
read_same : (n : ℕ) (xs ys : List ℕ) → Agree n xs ys → differ n (places n xs) (places n ys) ≡ false
read_same n xs ys agree =
    (differ_false n (places n xs) (places n ys)).1 (λ k h. get_d_places n xs k h ∙ agree k h ∙ sym (get_d_places n ys k h))

module _ (s s' : List ℕ) (a b : OrRound) (p : AcceptedOrPair s s' a b) where
  -- 18 does not apply
  first_18 : (differ (instance_of s).header.rows (read_or (instance_of s) (instance_of s') a).commitment0
      (read_or (instance_of s) (instance_of s') b).commitment0 ||
      differ (instance_of s').header.rows (read_or (instance_of s) (instance_of s') a).commitment1
      (read_or (instance_of s) (instance_of s') b).commitment1) ≡ false
  unfolding read_or
  first_18 =
      (both_fail (differ (instance_of s).header.rows _ _) _).1 (
        read_same _ a.commitment0 b.commitment0 p.first_commitments,
        read_same _ a.commitment1 b.commitment1 p.second_commitments,
      )

  -- 19 does not apply
  first_19 : eqb (read_or (instance_of s) (instance_of s') a).challenge (read_or (instance_of s) (instance_of s') b).challenge ≡ false
  unfolding read_or
  first_19 = ne_eqb a.challenge b.challenge p.challenges

-- 20 does not apply to an accepted round
accepted_20 : (s s' : List ℕ) (pair : Pair s s') (round : OrRound) → AcceptsOr s s' round
    → not (is_or_accepted (verdict_or (instance_of s) (instance_of s') (read_or (instance_of s) (instance_of s') round))) ≡ false
unfolding is_or_accepted
accepted_20 s s' pair round e = rw (accepted_verdict s s' pair round e)

module _ (s s' : List ℕ) (pair : Pair s s') (a b : OrRound) (p : AcceptedOrPair s s' a b) where
  abbrev i : Instance
  i = instance_of s

  abbrev j : Instance
  j = instance_of s'

  abbrev K : ℕ
  K = (instance_of s).header.challenges

  -- no rule of the extractor applies
  extract_or_clear : Clear (extracting_or i j a b).refusals
  unfolding extracting_or judging_or
  extract_or_clear =
      let x = accepted_clear s s' pair a p.first_accepted in
      let y = accepted_clear s s' pair b p.second_accepted in (
        (both_fail (bad_commitments i j (read_or i j a)) _).1 (x.0, y.0),
        (
          (both_fail (bad_challenges i (read_or i j a)) _).1 (x.1.0, y.1.0),
          (
            (both_fail (bad_responses i j (read_or i j a)) _).1 (x.1.1.0, y.1.1.0),
            (commitments_same, (challenges_apart, (verdicts_accepted, tt))),
          ),
        ),
      )
    where
      commitments_same : (differ i.header.rows (read_or i j a).commitment0 (read_or i j b).commitment0 ||
          differ j.header.rows (read_or i j a).commitment1 (read_or i j b).commitment1) ≡ false
      commitments_same = first_18 s s' a b p

      challenges_apart : eqb (read_or i j a).challenge (read_or i j b).challenge ≡ false
      challenges_apart = first_19 s s' a b p

      verdicts_accepted : (not (is_or_accepted (verdict_or i j (read_or i j a))) || not (is_or_accepted (verdict_or i j (read_or i j b)))) ≡ false
      verdicts_accepted =
          (both_fail (not (is_or_accepted (verdict_or i j (read_or i j a)))) _).1
          (accepted_20 s s' pair a p.first_accepted, accepted_20 s s' pair b p.second_accepted)

  -- the extractor's answer: the witness by the formula of the side, and the side
  extract_or_given : extract_or s s' a b
      ≡ record {
        values = pad8 0 (extracted_or i j (read_or i j a) (read_or i j b));
        side = extracted_side (read_or i j a) (read_or i j b);
        refusal = 0;
      }
  unfolding extract_or extracting_or
  extract_or_given = on_pair_loads s s' (extracting_or i j a b) pair ∙ answer_clear (extracting_or i j a b) extract_or_clear

  -- where the c0 differ, the answer is that of 01's extractor on the rounds of side 0
  first_answer_law : a.challenge0 ≢ b.challenge0 → Extraction i (extract_witness s) (first_round a) (first_round b)
      → extract_or s s' a b ≡ record { values = (extract_witness s (first_round a) (first_round b)).values; side = 0; refusal = 0 }
  unfolding extracted_or extracted_side extracted_of read_or first_round
  first_answer_law apart extraction =
      let loaded = extract_loaded_law s (first_loads pair) (first_round a) (first_round b) in
      let runs = ap (λ (answer : Computed). answer.refusal) (sym loaded ∙ extraction.answer) in
      let given = loaded ∙ extract_given i (first_round a) (first_round b) runs in
      let values = ap (λ (answer : Computed). answer.values) given in
      extract_or_given ∙ rw (ne_eqb a.challenge0 b.challenge0 apart, values)

  -- where they are the same, that on the rounds of side 1
  second_answer : a.challenge0 ≡ b.challenge0 → Extraction j (extract_witness s') (second_round K a) (second_round K b)
      → extract_or s s' a b ≡ record { values = (extract_witness s' (second_round K a) (second_round K b)).values; side = 1; refusal = 0 }
  unfolding extracted_or extracted_side extracted_of read_or second_round
  second_answer same extraction =
      let loaded = extract_loaded_law s' (second_loads pair) (second_round K a) (second_round K b) in
      let runs = ap (λ (answer : Computed). answer.refusal) (sym loaded ∙ extraction.answer) in
      let given = loaded ∙ extract_given j (second_round K a) (second_round K b) runs in
      let values = ap (λ (answer : Computed). answer.values) given in
      extract_or_given ∙ rw (eq-eqb a.challenge0 b.challenge0 same, values)

  -- the rounds of side 0 are two that 01's extractor takes
  first_extraction : a.challenge0 ≢ b.challenge0 → Extraction i (extract_witness s) (first_round a) (first_round b)
  unfolding first_round
  first_extraction apart =
      sheet_extraction s (first_loads pair) (first_round a) (first_round b)
      (record {
        first_accepted = ((or_accepted s s' pair a).0 p.first_accepted).1;
        second_accepted = ((or_accepted s s' pair b).0 p.second_accepted).1;
        commitments = p.first_commitments;
        challenges = apart;
      })

  -- and so are those of side 1 where the c0 are the same: then what is left of different c is different
  second_extraction : a.challenge0 ≡ b.challenge0 → Extraction j (extract_witness s') (second_round K a) (second_round K b)
  unfolding second_round
  second_extraction same =
      let first = (or_accepted s s' pair a).0 p.first_accepted in
      let second = (or_accepted s s' pair b).0 p.second_accepted in
      sheet_extraction s' (second_loads pair) (second_round K a) (second_round K b)
      (record {
        first_accepted = first.2;
        second_accepted = second.2;
        commitments = p.second_commitments;
        challenges = λ e.
            p.challenges
            (other_apart K a.challenge b.challenge a.challenge0 first.0 second.0 (accepted_below s s' pair a p.first_accepted)
            (e ∙ ap (other_challenge K b.challenge) (sym same)));
      })

-- answers of one side that have equal witnesses are equal
same_answer : (side : ℕ) (x y : Computed) (left right : OrExtracted)
    → left ≡ record { values = x.values; side = side; refusal = 0 } → right ≡ record { values = y.values; side = side; refusal = 0 }
    → x ≡ y → left ≡ right
same_answer side x y left right e f same =
    e ∙ ap (λ (answer : Computed). record { values = answer.values; side = side; refusal = 0 }) same ∙ sym f

module _ (s s' : List ℕ) (pair : Pair s s') (a b : OrRound) (p : AcceptedOrPair s s' a b) where
  -- side 0's witness where the c0 differ
  pub extracts_first : a.challenge0 ≢ b.challenge0 → ExtractsSide s s' s 0 first_round a b
  extracts_first apart =
      let q = swapped_pair s s' a b p in
      let extraction = first_extraction s s' pair a b p apart in
      let answer = first_answer_law s s' pair a b p apart extraction in
      let back = first_answer_law s s' pair b a q (λ e. apart (sym e)) (first_extraction s s' pair b a q (λ e. apart (sym e))) in
      record {
        extraction = extraction;
        answer = answer;
        swapped = same_answer _ _ _ _ _ back answer extraction.swapped;
      }

  -- else side 1's
  pub extracts_second : a.challenge0 ≡ b.challenge0
      → ExtractsSide s s' s' 1 (second_round (instance_of s).header.challenges) a b
  extracts_second same =
      let q = swapped_pair s s' a b p in
      let extraction = second_extraction s s' pair a b p same in
      let answer = second_answer s s' pair a b p same extraction in
      let back = second_answer s s' pair b a q (sym same) (second_extraction s s' pair b a q (sym same)) in
      record {
        extraction = extraction;
        answer = answer;
        swapped = same_answer _ _ _ _ _ back answer extraction.swapped;
      }
