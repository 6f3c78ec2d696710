-- Each call on rounds and sessions is not refused exactly when RoundsRun says so.
-- Assumes nothing.
use Prim.Native.Nat.{ℕ, ◌<◌}
use mathlib.Core.Path.{◌≡◌, refl, sym, ap, ◌∙◌}
use mathlib.Core.Logic.Iff
use mathlib.Core.Logic.{◌↔◌}
use mathlib.Core.Bool.{not, or_comm}
use mathlib.Core.List.{List, ◌++◌, map}
use native.Mathlib.Omega.{arith}
use lib.Dec.{T, eqb}
use lib.ListN.{get_or, get_or-map}
use Rattle.types.specs.declared.Memory.{Memory}
use Rattle.types.specs.declared.Prover.{Prover}
use Rattle.types.specs.declared.ProverPhase.TheVariants.{New, Committed}
use Rattle.types.specs.declared.ProverStep.{ProverStep}
use Rattle.types.specs.declared.Round.{Round}
use Rattle.types.specs.declared.Saved.{Saved}
use Rattle.types.specs.declared.Verdict.{Verdict}
use Rattle.types.specs.declared.Verifier.{Verifier}
use Rattle.types.specs.declared.VerifierPhase.TheVariants.{Waiting, Holding, Asked}
use Rattle.lists.specs.Places.{pad8, places}
use Rattle.lists.proofs.Each.{each_at, each_from, each_places}
use Rattle.lists.proofs.Places.{get_d_pad8, get_d_places, length_places}
use Rattle.rules.specs.Rule.{Rule, all_positive, lowest}
use Rattle.rules.proofs.Lowest.{lowest_append_zero}
use Rattle.rules.proofs.Says.{says_equal, says_iff, says_same}
use Rattle.formats.specs.Load.{load, load_refusal, load_rules}
use Rattle.formats.specs.Ours.{file_calls}
use Rattle.formats.specs.Sheet.{instance_of}
use Rattle.formats.proofs.Loads.{loads_valid}
use Rattle.formats.proofs.Positive.{load_positive}
use Rattle.sigma.specs.Answer.{is_accepted, outcome}
use Rattle.sigma.specs.Comparison.{differ}
use Rattle.sigma.specs.Extractor.{extracting}
use Rattle.sigma.specs.Image.{image}
use Rattle.sigma.specs.Instance.{table_of}
use Rattle.sigma.specs.Knowledge.{AcceptedPair, Choice, Witness}
use Rattle.sigma.specs.Meaning.{Coordinates, Elements, Extracts, Fits}
use Rattle.sigma.specs.Reads.{Agree, round_of}
use Rattle.sigma.specs.Round.{bad_challenge, bad_commitment, bad_coordinates, verdict}
use Rattle.sigma.proofs.Calls.{judge_clear, simulate_runs, valid_extract_runs}
use Rattle.sigma.proofs.Comparison.{says_differ}
use Rattle.sigma.proofs.Positive.{extract_positive, judge_positive, simulate_positive}
use Rattle.sigma.proofs.Unread.{coordinates_agree, elements_agree}
use Rattle.runs.specs.Calls.{extract_witness, judge_round, simulate_commitment}
use Rattle.runs.specs.Memory.{listed_at, saved_at}
use Rattle.runs.specs.OnSheet.{Below, read_slots, read_values}
use Rattle.runs.specs.Ours.{Accepts, call_prover, run_calls, simulated_round}
use Rattle.runs.specs.Prover.{commit, committing, new_prover, respond}
use Rattle.runs.specs.ProverCalls.{Commit}
use Rattle.runs.specs.RunsWhere.{RoundsRun}
use Rattle.runs.specs.Saving.{return_to}
use Rattle.runs.specs.Verifier.{new_verifier, take_challenge, take_commitment, take_response}
use Rattle.runs.proofs.Demand3.{sheet_simulated_rounds}
use Rattle.runs.proofs.Loaded.{extract_loaded_law, simulate_loaded_law}
use Rattle.runs.proofs.Numbers.{extract_lowest, judge_lowest, simulate_lowest}
use Rattle.runs.proofs.Protocol.{sheet_accepted}
use Rattle.runs.proofs.ProverCalls.{prover_value}
use Rattle.runs.proofs.ProverSteps.{commit_runs, drop_runs, respond_runs, return_runs, save_runs}
use Rattle.runs.proofs.VerifierSteps.{take_challenge_runs, take_commitment_runs, take_response_runs}
use Rattle.runs.proofs.ReadAlone.{judge_round_same}

-- 18's test of two lists is the same with the lists exchanged
differ_swapped : (n : ℕ) (xs ys : List ℕ) → differ n xs ys ≡ differ n ys xs
differ_swapped n xs ys =
    says_same (says_differ n xs ys)
    (says_iff (says_differ n ys xs) (λ (j, b, other). (j, b, λ e. other (sym e)), λ (j, b, other). (j, b, λ e. other (sym e))))

-- so is 19's of two challenges
equal_swapped : (a b : ℕ) → eqb a b ≡ eqb b a
equal_swapped a b = says_same (says_equal a b) (says_iff (says_equal b a) (sym, sym))

module _ (sheet : List ℕ) where
  -- a call whose own rules come after the sheet's gives 0 only if the sheet loads
  first_loads : (rules : List Rule) → T (all_positive rules) → lowest (load_rules sheet ++ rules) ≡ 0 → load_refusal sheet ≡ 0
  unfolding load_refusal
  first_loads rules positive none = ((lowest_append_zero (load_rules sheet) rules (load_positive sheet) positive).0 none).0

  -- ---- rounds

  -- judging
  judge_where : (round : Round)
      → ((outcome (judge_round sheet round)).number ≡ 0) ↔ ((load_refusal sheet ≡ 0) × Fits (instance_of sheet) round)
  unfolding load_refusal
  judge_where round =
      let inst = instance_of sheet in
      rw (judge_lowest sheet round)
      (Iff.trans (lowest_append_zero (load_rules sheet) _ (load_positive sheet) (judge_positive inst round))
      (Iff.and Iff.rfl (judge_clear inst round)))

  -- so a sheet with an accepted round loads, and the round fits
  accepted_fits : (round : Round) → Accepts sheet round → (load_refusal sheet ≡ 0) × Fits (instance_of sheet) round
  unfolding outcome
  accepted_fits round e = (judge_where round).0 (ap (λ (v : Verdict). (outcome v).number) e)

  -- a simulated commitment makes the round accepted
  simulated_accepted : load_refusal sheet ≡ 0 → (c : ℕ) → Below sheet c → (r : List ℕ) → Coordinates (instance_of sheet) r
      → Accepts sheet (round_of (simulate_commitment sheet c (read_slots sheet r)).values c r)
  unfolding simulated_round
  simulated_accepted loaded c below r slots =
      let n = (instance_of sheet).header.columns in
      judge_round_same sheet (record {
        commitment = λ i b. refl;
        challenge = refl;
        response = λ j b. sym (get_d_pad8 0 (places n r) j ∙ get_d_places n r j b);
      })
      ∙ (sheet_simulated_rounds sheet loaded c below).accepted (read_slots sheet r) (each_places _ n r slots)

  -- simulating, on a sheet that loads
  loaded_simulates : load_refusal sheet ≡ 0 → (c : ℕ) (r : List ℕ)
      → ((simulate_commitment sheet c r).refusal ≡ 0) ↔ (Below sheet c × Coordinates (instance_of sheet) r)
  loaded_simulates loaded c r = rw (simulate_loaded_law sheet loaded c r) (simulate_runs (instance_of sheet) c r)

  -- and for any bytes
  simulate_where : (c : ℕ) (r : List ℕ)
      → ((simulate_commitment sheet c r).refusal ≡ 0) ↔ ((t : List ℕ) × Accepts sheet (round_of t c r))
  simulate_where c r = (
    λ e.
        let loaded = first_loads _ (simulate_positive (instance_of sheet) c r) (sym (simulate_lowest sheet c r) ∙ e) in
        let (below, slots) = (loaded_simulates loaded c r).0 e in
        ((simulate_commitment sheet c (read_slots sheet r)).values, simulated_accepted loaded c below r slots),
    λ (t, e).
        let (loaded, fits) = accepted_fits (round_of t c r) e in
        (loaded_simulates loaded c r).1 (fits.challenge, fits.response),
  )

  -- extracting, on a sheet that loads
  loaded_extracts : load_refusal sheet ≡ 0 → (first second : Round)
      → ((extract_witness sheet first second).refusal ≡ 0) ↔ Extracts (instance_of sheet) first second
  loaded_extracts loaded first second =
      rw (extract_loaded_law sheet loaded first second) (valid_extract_runs (instance_of sheet) first second (loads_valid sheet loaded))

  -- and for any bytes
  extract_where : (first second : Round)
      → ((extract_witness sheet first second).refusal ≡ 0) ↔ AcceptedPair (instance_of sheet).header (Accepts sheet) first second
  extract_where first second = (
    λ e.
        let loaded = first_loads _ (extract_positive (instance_of sheet) first second) (sym (extract_lowest sheet first second) ∙ e) in
        let x = (loaded_extracts loaded first second).0 e in
        record {
          first_accepted = (sheet_accepted sheet loaded first).1 (x.first_fits, x.first_holds);
          second_accepted = (sheet_accepted sheet loaded second).1 (x.second_fits, x.second_holds);
          commitments = x.commitments;
          challenges = x.challenges;
        },
    λ x.
        let loaded = (accepted_fits first x.first_accepted).0 in
        let (fits, holds) = (sheet_accepted sheet loaded first).0 x.first_accepted in
        let (fits', holds') = (sheet_accepted sheet loaded second).0 x.second_accepted in
        (loaded_extracts loaded first second).1 (record {
          first_fits = fits;
          second_fits = fits';
          commitments = x.commitments;
          challenges = x.challenges;
          first_holds = holds;
          second_holds = holds';
        }),
  )

  -- with the rounds exchanged each rule tests the same
  extract_swapped : (first second : Round) → (extract_witness sheet second first).refusal ≡ (extract_witness sheet first second).refusal
  unfolding extracting
  extract_swapped first second =
      let inst = instance_of sheet in
      let t = places inst.header.rows first.commitment in
      let t' = places inst.header.rows second.commitment in
      let r = places inst.header.columns first.response in
      let r' = places inst.header.columns second.response in
      let holds = is_accepted (verdict inst t first.challenge r) in
      let holds' = is_accepted (verdict inst t' second.challenge r') in
      rw (
        extract_lowest sheet second first,
        extract_lowest sheet first second,
        or_comm (bad_commitment inst t') (bad_commitment inst t),
        or_comm (bad_challenge inst second.challenge) (bad_challenge inst first.challenge),
        or_comm (bad_coordinates inst r') (bad_coordinates inst r),
        differ_swapped inst.header.rows t' t,
        equal_swapped second.challenge first.challenge,
        or_comm (not holds') (not holds),
      )

  -- ---- Peggy

  -- committing
  commit_where : (p : Prover) (k : List ℕ) → ((commit sheet p k).refusal ≡ 0)
      ↔ ((load_refusal sheet ≡ 0) × (p.phase ≡ New) × Choice (instance_of sheet) (read_slots sheet k))
  commit_where p k =
      let n = (instance_of sheet).header.columns in
      Iff.trans (commit_runs sheet p k) (
        λ (loaded, x). (loaded, x.phase, each_from _ n _ (length_places n k) x.nonce),
        λ (loaded, phase, slots). (loaded, record { nonce = each_at _ n _ slots; phase = phase }),
      )

  -- committing to a nonce in a new session answers its image
  commit_answers : (k : List ℕ) → (commit sheet new_prover k).refusal ≡ 0
      → (commit sheet new_prover k).values ≡ pad8 0 (image (table_of (instance_of sheet)) (read_slots sheet k))
  unfolding call_prover committing
  commit_answers k e = ap (λ (step : ProverStep). step.values) (prover_value (Commit sheet k) new_prover e)

  -- responding
  respond_where : (p : Prover) (c : ℕ) (x : List ℕ) → ((respond sheet p c x).refusal ≡ 0)
      ↔ ((p.phase ≡ Committed) × ((commit sheet new_prover p.nonce).refusal ≡ 0)
      × Agree 8 (commit sheet new_prover p.nonce).values p.commitment
      × Below sheet c × Witness (instance_of sheet) (read_slots sheet x)
      × (p.memory.count < 64) × ((i : ℕ) → i < p.memory.count → ¬ Agree 8 (listed_at p.memory i) p.commitment))
  unfolding new_prover
  respond_where p c x =
      let n = (instance_of sheet).header.columns in
      Iff.trans (respond_runs sheet p c x) (
        λ (loaded, r).
            let e = (commit_where new_prover p.nonce).1 (loaded, refl, each_from _ n _ (length_places n p.nonce) r.nonce) in
            (r.phase, e, rw (commit_answers p.nonce e) r.commitment, r.challenge, r.witness, r.room, r.unlisted),
        λ (phase, e, agree, below, witness, room, unlisted).
            let (loaded, new, slots) = (commit_where new_prover p.nonce).0 e in (
              loaded,
              record {
                challenge = below;
                witness = witness;
                phase = phase;
                nonce = each_at _ n _ slots;
                commitment = rw (commit_answers p.nonce e) at agree;
                unlisted = unlisted;
                room = room;
              },
            ),
      )

  -- ---- Vic

  -- what is read of a commitment has group elements exactly if the commitment has
  elements_read : (t : List ℕ) → Elements (instance_of sheet) (read_values sheet t) ↔ Elements (instance_of sheet) t
  elements_read t =
      let inst = instance_of sheet in
      let s = inst.header.rows in
      let same = get_d_places s t in
      (elements_agree inst (places s t) t same, elements_agree inst t (places s t) (λ i b. sym (same i b)))

  -- and what is read of a response domain slots
  slots_read : (r : List ℕ) → Coordinates (instance_of sheet) (read_slots sheet r) ↔ Coordinates (instance_of sheet) r
  slots_read r =
      let inst = instance_of sheet in
      let n = inst.header.columns in
      let same = get_d_places n r in
      (coordinates_agree inst (places n r) r same, coordinates_agree inst r (places n r) (λ j b. sym (same j b)))

  -- the commitment
  take_commitment_where : (v : Verifier) (t : List ℕ) → ((take_commitment sheet v t).refusal ≡ 0)
      ↔ ((load_refusal sheet ≡ 0) × (v.phase ≡ Waiting) × Elements (instance_of sheet) t)
  take_commitment_where v t =
      Iff.trans (take_commitment_runs sheet v t) (
        λ (loaded, x). (loaded, x.phase, (elements_read t).0 x.commitment),
        λ (loaded, phase, elements). (loaded, record { commitment = (elements_read t).1 elements; phase = phase }),
      )

  -- the challenge
  take_challenge_where : (v : Verifier) (c : ℕ) → ((take_challenge sheet v c).refusal ≡ 0)
      ↔ ((v.phase ≡ Holding) × ((take_commitment sheet new_verifier v.commitment).refusal ≡ 0) × Below sheet c)
  unfolding new_verifier
  take_challenge_where v c =
      let held = take_commitment_where new_verifier v.commitment in
      Iff.trans (take_challenge_runs sheet v c) (
        λ (loaded, x). (x.phase, held.1 (loaded, refl, (elements_read v.commitment).0 x.held), x.challenge),
        λ (phase, e, below).
            let (loaded, waiting, elements) = held.0 e in
            (loaded, record { challenge = below; phase = phase; held = (elements_read v.commitment).1 elements }),
      )

  -- the response
  take_response_where : (v : Verifier) (r : List ℕ) → ((outcome (take_response sheet v r).verdict).number ≡ 0)
      ↔ ((v.phase ≡ Asked) × ((outcome (judge_round sheet (round_of v.commitment v.challenge r))).number ≡ 0))
  take_response_where v r =
      let judged = judge_where (round_of v.commitment v.challenge r) in
      Iff.trans (take_response_runs sheet v r) (
        λ (loaded, x). (
          x.ready.phase,
          judged.1 (
            loaded,
            record {
              commitment = (elements_read v.commitment).0 x.ready.held;
              challenge = x.ready.challenge;
              response = (slots_read r).0 x.response;
            },
          ),
        ),
        λ (phase, e).
            let (loaded, fits) = judged.0 e in
            let held = (elements_read v.commitment).1 fits.commitment in (
              loaded,
              record {
                response = (slots_read r).1 fits.response;
                ready = record { phase = phase; held = held; challenge = fits.challenge };
              },
            ),
      )

-- ---- saved states

-- the flag of a name
flag_saved : (m : Memory) (name : ℕ) → get_or (map (λ (s : Saved). s.kept) m.saved) name 0 ≡ (saved_at m name).kept
unfolding saved_at
flag_saved m name = get_or-map (λ (s : Saved). s.kept) m.saved name _

-- returning
return_where : (p : Prover) (name : ℕ) → ((return_to p name).refusal ≡ 0)
    ↔ ((name < 8) × (0 < get_or (map (λ (s : Saved). s.kept) p.memory.saved) name 0))
return_where p name =
    rw (flag_saved p.memory name)
    (Iff.trans (return_runs p name) (Iff.and Iff.rfl (λ some. omega arith, λ some none. omega arith)))

-- ---- the whole

pub rounds_run : RoundsRun file_calls run_calls
unfolding load
rounds_run = record {
  judges = judge_where;
  simulates = simulate_where;
  extracts = extract_where;
  swapped = extract_swapped;
  commits = commit_where;
  responds = respond_where;
  drops = drop_runs;
  saves = save_runs;
  returns = return_where;
  takes_commitment = take_commitment_where;
  takes_challenge = take_challenge_where;
  takes_response = take_response_where;
}
