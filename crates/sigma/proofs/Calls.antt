-- What each call answers, in 01's terms: when it is refused, and what it gives otherwise.
-- Assumes nothing.
use Prim.Native.Nat.{ℕ, ◌^◌, ◌<◌}
use mathlib.Core.Path.{◌≡◌, refl, sym, ◌∙◌}
use mathlib.Core.Logic.Iff
use mathlib.Core.Logic.{◌↔◌, ◌≢◌}
use mathlib.Core.List.{List}
use Rattle.types.specs.declared.Round.{Round}
use Rattle.types.specs.declared.Verdict.{Verdict}
use Rattle.types.specs.declared.Verdict.TheVariants.{Accepted, Rejected, Refused}
use Rattle.lists.specs.Places.{places, pad8}
use Rattle.lists.proofs.Places.{get_d_places}
use Rattle.rules.specs.Call.{answer, number_of}
use Rattle.rules.specs.Rule.{Clear}
use Rattle.rules.proofs.Call.{answer_number, answer_value}
use Rattle.rules.proofs.Lowest.{lowest_zero}
use Rattle.rules.proofs.Says.{says_equal, says_false}
use Rattle.sigma.specs.Answer.{judged, rows_of}
use Rattle.sigma.specs.Extractor.{extracted, extracting, extract_loaded}
use Rattle.sigma.specs.Instance.{Instance}
use Rattle.sigma.specs.Judge.{judging, judge_loaded}
use Rattle.sigma.specs.Meaning.{Holds, FailsExactly, Coordinates, Fits, Extracts}
use Rattle.sigma.specs.Simulator.{simulated, simulating, simulate_loaded}
use Rattle.sigma.specs.Valid.{Valid}
use Rattle.sigma.proofs.Answer.{accepted_not_refused, rejected_not_refused, judged_given, judged_refused}
use Rattle.sigma.proofs.Calculus.{says_passes, both_fail}
use Rattle.sigma.proofs.Comparison.{differ_false}
use Rattle.sigma.proofs.Passed.{commitment_passes, challenge_passes, coordinates_pass}
use Rattle.sigma.proofs.Positive.{judge_positive, simulate_positive, extract_positive}
use Rattle.sigma.proofs.Refusals.{holds_read}
use Rattle.sigma.proofs.Unread.{same_round_sym, same_round_of_read, coordinates_agree}
use Rattle.sigma.proofs.Unread.{fits_same, holds_same, fails_same}
use Rattle.sigma.proofs.Verdict.{verdict_accepted, verdict_rejected, verdict_not_refused}

-- ---- when no refusal of a call applies

module _ (i : Instance) where
  -- judging: the round fits
  pub judge_clear : (round : Round) → Clear (judging i round).refusals ↔ Fits i round
  unfolding judging
  judge_clear round =
      let read = same_round_of_read i.header round in (
        λ (p, (q, (s, none))). fits_same i read (record {
          commitment = (commitment_passes i _).0 p;
          challenge = (challenge_passes i _).0 q;
          response = (coordinates_pass i _).0 s;
        }),
        λ fits.
            let f = fits_same i (same_round_sym read) fits in
            ((commitment_passes i _).1 f.commitment, ((challenge_passes i _).1 f.challenge, ((coordinates_pass i _).1 f.response, tt))),
      )

  -- simulating: the challenge is below K and the response has coordinates
  pub simulate_clear : (c : ℕ) (r : List ℕ) → Clear (simulating i c r).refusals ↔ ((c < i.header.challenges) × Coordinates i r)
  unfolding simulating
  simulate_clear c r =
      let read = places i.header.columns r in
      let same = get_d_places i.header.columns r in (
        λ (p, (q, none)). ((challenge_passes i c).0 p, coordinates_agree i read r same ((coordinates_pass i _).0 q)),
        λ (below, slots).
            ((challenge_passes i c).1 below, ((coordinates_pass i _).1 (coordinates_agree i r read (λ j h. sym (same j h)) slots), tt)),
      )

  -- extracting: both rounds fit and are accepted, with the same commitment and different challenges
  pub extract_clear : Valid i → (first second : Round) → Clear (extracting i first second).refusals ↔ Extracts i first second
  unfolding extracting judging
  extract_clear v first second =
      let rows = i.header.rows in
      let read = get_d_places rows first.commitment in
      let read' = get_d_places rows second.commitment in
      let agree = differ_false rows (places rows first.commitment) (places rows second.commitment) in
      let apart = says_false (says_equal first.challenge second.challenge) in
      let holds = says_passes (holds_read v first) in
      let holds' = says_passes (holds_read v second) in (
        λ (p, (q, (s, (same, (other, (both, none)))))).
            let (elements, elements') = (both_fail _ _).0 p in
            let (below, below') = (both_fail _ _).0 q in
            let (slots, slots') = (both_fail _ _).0 s in
            let (accepted, accepted') = (both_fail _ _).0 both in
            record {
              first_fits = (judge_clear first).0 (elements, (below, (slots, tt)));
              second_fits = (judge_clear second).0 (elements', (below', (slots', tt)));
              commitments = λ j h. sym (read j h) ∙ agree.0 same j h ∙ read' j h;
              challenges = apart.0 other;
              first_holds = holds.0 accepted;
              second_holds = holds'.0 accepted';
            },
        λ x.
            let (p, (q, (s, none))) = (judge_clear first).1 x.first_fits in
            let (p', (q', (s', none'))) = (judge_clear second).1 x.second_fits in
            let same = agree.1 (λ j h. read j h ∙ x.commitments j h ∙ sym (read' j h)) in
            let both = (both_fail _ _).1 (holds.1 x.first_holds, holds'.1 x.second_holds) in
            ((both_fail _ _).1 (p, p'), ((both_fail _ _).1 (q, q'), ((both_fail _ _).1 (s, s'), (same, (apart.1 x.challenges, (both, tt)))))),
      )

-- ---- judging

module _ (i : Instance) (round : Round) where
  -- judging gives a verdict that is no refusal exactly if the round fits and that is the verdict on what is read of it
  pub judge_given : (w : Verdict) → ((k : ℕ) → w ≢ Refused k) → (judge_loaded i round ≡ w) ↔ (Fits i round × ((judging i round).value ≡ w))
  unfolding judge_loaded judging answer number_of judged
  judge_given w u =
      Iff.trans (judged_given (number_of (judging i round)) (judging i round).value w u)
      (Iff.and (Iff.trans (lowest_zero (judging i round).refusals (judge_positive i round)) (judge_clear i round)) Iff.rfl)

  -- of a Valid instance judging accepts exactly a round that fits and whose two sides agree in every row
  pub valid_judge_accepted : Valid i → (judge_loaded i round ≡ Accepted) ↔ (Fits i round × Holds i round)
  unfolding judging
  valid_judge_accepted v =
      let read = same_round_of_read i.header round in
      Iff.trans (judge_given Accepted accepted_not_refused)
      (Iff.and Iff.rfl
      (Iff.trans (verdict_accepted i _ round.challenge _) (holds_same i read v, holds_same i (same_round_sym read) v)))

  -- and rejects exactly one that fits and whose two sides differ, with the rows in which they do
  pub valid_judge_rejected : Valid i → (mask : ℕ) → (judge_loaded i round ≡ Rejected mask)
      ↔ (Fits i round × (FailsExactly i round (rows_of mask) × (mask < 2 ^ i.header.rows)))
  unfolding judging
  valid_judge_rejected v mask =
      let read = same_round_of_read i.header round in
      Iff.trans (judge_given (Rejected mask) (rejected_not_refused mask))
      (Iff.and Iff.rfl
      (Iff.trans (verdict_rejected i _ round.challenge _ v.table.few_rows mask)
      (Iff.and (fails_same i read v (rows_of mask), fails_same i (same_round_sym read) v (rows_of mask)) Iff.rfl)))

  -- a verdict that judging gives is no refusal
  pub judge_not_refused : (n : ℕ) → (judging i round).value ≢ Refused n
  unfolding judging
  judge_not_refused = verdict_not_refused i _ _ _

  -- judging refuses with exactly the number above 0 that its refusals give
  pub judge_refused : (n : ℕ) → (judge_loaded i round ≡ Refused n) ↔ ((0 < n) × (number_of (judging i round) ≡ n))
  unfolding judge_loaded judging answer judged
  judge_refused n = judged_refused (number_of (judging i round)) (judging i round).value n judge_not_refused

-- ---- simulating

module _ (i : Instance) (c : ℕ) (response : List ℕ) where
  -- the simulator's number
  pub simulate_refusal : (simulate_loaded i c response).refusal ≡ number_of (simulating i c response)
  unfolding simulate_loaded simulating
  simulate_refusal = answer_number (simulating i c response) (λ a. a.refusal) refl (λ n. refl)

  -- the simulator runs exactly for a challenge below K and a response of coordinates
  pub simulate_runs : ((simulate_loaded i c response).refusal ≡ 0) ↔ ((c < i.header.challenges) × Coordinates i response)
  unfolding number_of
  simulate_runs =
      rw simulate_refusal
      (Iff.trans (lowest_zero (simulating i c response).refusals (simulate_positive i c response)) (simulate_clear i c response))

  -- what the simulator gives if it runs
  pub simulate_given : (simulate_loaded i c response).refusal ≡ 0
      → simulate_loaded i c response ≡ record { refusal = 0; values = pad8 0 (simulated i c (places i.header.columns response)) }
  unfolding simulate_loaded simulating
  simulate_given none = answer_value (simulating i c response) (sym simulate_refusal ∙ none)

-- ---- extracting

module _ (i : Instance) (first second : Round) where
  -- the extractor's number
  pub extract_refusal : (extract_loaded i first second).refusal ≡ number_of (extracting i first second)
  unfolding extract_loaded extracting
  extract_refusal = answer_number (extracting i first second) (λ a. a.refusal) refl (λ n. refl)

  -- of a Valid instance the extractor runs exactly for two rounds that fit and are accepted, with the same commitment and
  -- different challenges
  pub valid_extract_runs : Valid i → ((extract_loaded i first second).refusal ≡ 0) ↔ Extracts i first second
  unfolding number_of
  valid_extract_runs v =
      rw extract_refusal
      (Iff.trans (lowest_zero (extracting i first second).refusals (extract_positive i first second)) (extract_clear i v first second))

  -- what the extractor gives if it runs
  pub extract_given : (extract_loaded i first second).refusal ≡ 0
      → extract_loaded i first second
      ≡ record {
        refusal = 0;
        values =
            pad8 0
            (extracted i first.challenge (places i.header.columns first.response) second.challenge
            (places i.header.columns second.response));
      }
  unfolding extract_loaded extracting
  extract_given none = answer_value (extracting i first second) (sym extract_refusal ∙ none)
