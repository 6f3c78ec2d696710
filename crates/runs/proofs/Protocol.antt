-- Demand 2's protocol: for every sheet that loads, Peggy's commitments and responses and Vic's verdicts are those of the main
-- protocol in section 5 of Maurer's paper, as 01 writes it down.
-- Assumes nothing.
use Prim.Native.Nat.{ℕ, zero, suc, ◌-◌, ◌^◌, ◌<◌, ◌≤◌}
use mathlib.Core.Path.{◌≡◌, sym, ap, ◌∙◌}
use mathlib.Core.Logic.{◌↔◌, ◌≢◌, ◌⊎◌, ⊎_elim}
use mathlib.Core.List.{List, ◌∷◌, head-eq_of_cons-eq, tail-eq_of_cons-eq}
use native.Mathlib.Omega.{arith}
use lib.ListN.{length, length-append, length-replicate, get_or, replicate, get_or-eq_default}
use Rattle.types.specs.declared.Prover.{Prover}
use Rattle.types.specs.declared.ProverStep.{ProverStep}
use Rattle.types.specs.declared.Round.{Round}
use Rattle.types.specs.declared.Verdict.{Verdict}
use Rattle.types.specs.declared.Verdict.TheVariants.{Accepted, Rejected}
use Rattle.lists.specs.Places.{pad8, places, zeros8}
use Rattle.lists.proofs.Places.{get_d_places, get_d_pad8, get_d_zeros8}
use Rattle.rules.specs.Call.{number_of, answer}
use Rattle.rules.proofs.Call.{answer_read}
use Rattle.formats.specs.Load.{load_refusal, on_sheet, load_rules}
use Rattle.formats.specs.Sheet.{instance_of}
use Rattle.formats.proofs.Loads.{loads_valid}
use Rattle.sigma.specs.Answer.{eight_places, outcome, rows_of, judged}
use Rattle.sigma.specs.Image.{image, row_image}
use Rattle.rules.proofs.Lowest.{clear_append, lowest_clear}
use Rattle.sigma.specs.Instance.{Instance, table_of}
use Rattle.sigma.specs.Judge.{judging}
use Rattle.sigma.specs.Meaning.{Holds, FailsExactly, FailsFirst, Fits}
use Rattle.sigma.specs.Round.{response, response_coordinate}
use Rattle.rules.proofs.Answer.{unless_refused_zero, unless_refused_positive}
use Rattle.sigma.proofs.ByKind.{response_coordinate_exponent, response_coordinate_root}
use Rattle.sigma.proofs.Calls.{judge_clear, judge_not_refused, valid_judge_accepted, valid_judge_rejected}
use Rattle.sigma.proofs.Fails.{fails_begin}
use Rattle.sigma.proofs.Unread.{row_image_agree}
use Rattle.sigma.proofs.Values.{length_image, length_response, image_at, response_at}
use Rattle.runs.specs.Calls.{judge_round}
use Rattle.runs.specs.Ours.{call_prover, run_calls}
use Rattle.runs.specs.Protocol.{JudgesByRows, Protocol}
use Rattle.runs.specs.Prover.{commit, committing, respond, responding}
use Rattle.runs.specs.ProverCalls.{Commit, Respond}
use Rattle.runs.proofs.JointRun.{sheet_joint_run}
use Rattle.runs.proofs.Loaded.{judge_loaded_law, sheet_clear}
use Rattle.runs.proofs.Outcome.{judged_decided, judged_number}
use Rattle.runs.proofs.ProverCalls.{prover_value}
use Rattle.runs.proofs.Numbers.{judge_lowest}
use Rattle.runs.proofs.Verdicts.{take_response_given}

-- eight places hold 0 beyond their values, refused or not
pub eight_beyond : (n : ℕ) (xs : List ℕ) (i : ℕ) → length xs ≤ i → get_or (eight_places n xs) i 0 ≡ 0
unfolding eight_places
eight_beyond zero xs i h = rw unless_refused_zero (get_d_pad8 0 xs i ∙ get_or-eq_default xs 0 h)
eight_beyond (suc n) xs i h = rw (unless_refused_positive (pad8 0 xs) _ (suc n) (omega arith)) (get_d_zeros8 i)

-- they are eight
eight_long : (n : ℕ) (xs : List ℕ) → length xs ≤ 8 → length (eight_places n xs) ≡ 8
unfolding eight_places pad8 zeros8
eight_long zero xs few =
    rw unless_refused_zero
    (omega (arith, length-append xs (replicate (8 - length xs) 0), length-replicate {A = ℕ} (8 - length xs) 0))
eight_long (suc n) xs few = rw (unless_refused_positive (pad8 0 xs) _ (suc n) (omega arith))

-- the values of a verdict's outcome, which are not those of a rejected one where it is accepted
abbrev values_of : Verdict → List ℕ
values_of v = (outcome v).values

accepted_values : (others : List ℕ) → values_of Accepted ≢ 0 ∷ others
unfolding outcome
accepted_values others e = let z : ◌≡◌ {A = ℕ} 1 0 = head-eq_of_cons-eq e in omega arith

module _ (sheet : List ℕ) (loaded : load_refusal sheet ≡ 0) where
  -- the sheet's values
  abbrev values : Instance
  values = instance_of sheet

  -- ---- Peggy

  -- a row of the commitment
  commitment_row : (p : Prover) (k : List ℕ) → (commit sheet p k).refusal ≡ 0 → (i : ℕ) → i < (instance_of sheet).header.rows
      → get_or (commit sheet p k).values i 0 ≡ row_image (table_of (instance_of sheet)) k i
  unfolding call_prover committing
  commitment_row p k e i h =
      let n = values.header.columns in
      ap (λ (step : ProverStep). get_or step.values i 0) (prover_value (Commit sheet k) p e)
      ∙ get_d_pad8 0 _ i
      ∙ image_at (table_of values) (places n k) i h
      ∙ row_image_agree (loads_valid sheet loaded).table (places n k) k (get_d_places n k) i h

  -- a slot of the response, in either kind
  response_slot : (p : Prover) (c : ℕ) (x : List ℕ) → (respond sheet p c x).refusal ≡ 0
      → (j : ℕ) → j < (instance_of sheet).header.columns
      → get_or (respond sheet p c x).values j 0 ≡ response_coordinate (instance_of sheet).header (get_or p.nonce j 0) c (get_or x j 0)
  unfolding call_prover responding
  response_slot p c x e j h =
      let n = values.header.columns in
      ap (λ (step : ProverStep). get_or step.values j 0) (prover_value (Respond sheet c x) p e)
      ∙ get_d_pad8 0 _ j
      ∙ response_at values.header (places n p.nonce) c (places n x) j h
      ∙ rw (get_d_places n p.nonce j h, get_d_places n x j h)

  -- the values beside a number: the commitment or zeros
  commitment_or_zeros : (p : Prover) (k : List ℕ)
      → (commit sheet p k).values
      ≡ eight_places (number_of (on_sheet sheet (committing values p k))) (image (table_of values) (places values.header.columns k))
  unfolding commit committing eight_places
  commitment_or_zeros p k = answer_read (on_sheet sheet (committing values p k)) (λ step. step.values)

  -- the response or zeros
  response_or_zeros : (p : Prover) (c : ℕ) (x : List ℕ)
      → (respond sheet p c x).values
      ≡ eight_places (number_of (on_sheet sheet (responding values p c x)))
      (response values.header (places values.header.columns p.nonce) c (places values.header.columns x))
  unfolding respond responding eight_places
  response_or_zeros p c x = answer_read (on_sheet sheet (responding values p c x)) (λ step. step.values)

  -- ---- Vic

  -- a round is accepted exactly when it fits and 01's equation holds in every row
  pub sheet_accepted : (round : Round)
      → (judge_round sheet round ≡ Accepted) ↔ (Fits (instance_of sheet) round × Holds (instance_of sheet) round)
  sheet_accepted round = rw (judge_loaded_law sheet loaded round) (valid_judge_accepted values round (loads_valid sheet loaded))

  -- else, if it fits, it is rejected with the rows where the equation does not hold
  pub sheet_rejected : (round : Round) (mask : ℕ)
      → (judge_round sheet round ≡ Rejected mask)
      ↔ (Fits (instance_of sheet) round
      × (FailsExactly (instance_of sheet) round (rows_of mask) × (mask < 2 ^ (instance_of sheet).header.rows)))
  sheet_rejected round mask =
      rw (judge_loaded_law sheet loaded round) (valid_judge_rejected values round (loads_valid sheet loaded) mask)

  -- a round that fits is not refused
  pub fits_judged : (round : Round) → Fits (instance_of sheet) round → (outcome (judge_round sheet round)).number ≡ 0
  fits_judged round fits =
      judge_lowest sheet round
      ∙ lowest_clear _ ((clear_append (load_rules sheet) _).1 (sheet_clear sheet loaded, (judge_clear values round).1 fits))

  -- a round that is not refused is accepted or rejected
  not_refused : (round : Round) → (outcome (judge_round sheet round)).number ≡ 0
      → (judge_round sheet round ≡ Accepted) ⊎ ((mask : ℕ) × (judge_round sheet round ≡ Rejected mask))
  unfolding judge_round judging answer judged
  not_refused round = judged_decided _ _ (judge_not_refused (instance_of sheet) round)

  -- it fits
  not_refused_fits : (round : Round) → (outcome (judge_round sheet round)).number ≡ 0 → Fits (instance_of sheet) round
  not_refused_fits round passed =
      ⊎_elim (λ (e : judge_round sheet round ≡ Accepted). ((sheet_accepted round).0 e).0)
      (λ (found : (mask : ℕ) × (judge_round sheet round ≡ Rejected mask)). ((sheet_rejected round found.0).0 found.1).0)
      (not_refused round passed)

  -- what is named first is the first row that fails
  pub first_named : (round : Round) → (outcome (judge_round sheet round)).number ≡ 0 → (row : ℕ) → FailsFirst (instance_of sheet) round row
      ↔ ((others : List ℕ) × ((outcome (judge_round sheet round)).values ≡ 0 ∷ row ∷ others))
  unfolding outcome
  first_named round passed row =
      ⊎_elim (λ (e : judge_round sheet round ≡ Accepted). (
        λ first. absurd (first.fails (((sheet_accepted round).0 e).1 row first.inside)),
        λ (others, same). absurd (accepted_values _ (sym (ap values_of e) ∙ same)),
      ))
      (λ (found : (mask : ℕ) × (judge_round sheet round ≡ Rejected mask)).
      let (mask, e) = found in
      let begin = fails_begin (instance_of sheet) round (rows_of mask) ((sheet_rejected round mask).0 e).1.0 row in (
        λ first. let (others, same) = begin.0 first in (others, ap values_of e ∙ ap (λ (rows : List ℕ). 0 ∷ rows) same),
        λ (others, same). begin.1 (others, tail-eq_of_cons-eq (sym (ap values_of e) ∙ same)),
      ))
      (not_refused round passed)

  -- and its rows say which
  pub verdicts : (round : Round) → (outcome (judge_round sheet round)).number ≡ 0 → JudgesByRows run_calls sheet round
  verdicts round passed =
      let fits = not_refused_fits round passed in
      record {
        accepted = (λ e. ((sheet_accepted round).0 e).1, λ holds. (sheet_accepted round).1 (fits, holds));
        rejected = λ mask. (λ e. ((sheet_rejected round mask).0 e).1, λ fails. (sheet_rejected round mask).1 (fits, fails));
        decided = not_refused round passed;
      }

  -- ---- the whole

  -- the protocol holds of every sheet that loads
  pub protocol : Protocol run_calls sheet
  protocol = record {
    commitment = commitment_row;
    exponent_response = λ kind p c x e j h. response_slot p c x e j h ∙ response_coordinate_exponent values.header kind _ c _;
    root_response = λ kind p c x e j h.
        let other : values.header.kind ≢ 1 = λ one. omega arith in
        response_slot p c x e j h ∙ response_coordinate_root values.header other _ c _;
    commitment_eight = λ p k.
        rw (commitment_or_zeros p k) (eight_long _ _ (rw length_image (loads_valid sheet loaded).table.few_rows));
    response_eight = λ p c x.
        rw (response_or_zeros p c x) (eight_long _ _ (rw length_response (loads_valid sheet loaded).table.few_columns));
    beyond_rows = λ p k i h. rw (commitment_or_zeros p k) (eight_beyond _ _ i (rw length_image h));
    beyond_columns = λ p c x j h. rw (response_or_zeros p c x) (eight_beyond _ _ j (rw length_response h));
    verdicts = verdicts;
    verifier = take_response_given sheet;
    joint_run = sheet_joint_run sheet loaded;
  }
