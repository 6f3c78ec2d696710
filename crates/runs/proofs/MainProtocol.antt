-- A sheet that loads is a homomorphism with a statement, over which the calls run Maurer's main protocol.
-- Assumes nothing.
use Prim.Native.Nat.{ℕ, ◌<◌}
use mathlib.Core.Path.{◌≡◌, refl, sym, ap, ◌∙◌}
use mathlib.Core.Logic.Iff
use mathlib.Core.Logic.{◌↔◌, ◌≢◌}
use mathlib.Core.List.{List}
use native.Mathlib.Omega.{arith}
use lib.IntN.{ℤ}
use lib.ListN.{replicate, length-replicate, get_or-replicate}
use lib.Seq.{ext_get_or}
use Rattle.types.specs.declared.ProverStep.{ProverStep}
use Rattle.types.specs.declared.Verdict.TheVariants.{Accepted}
use Rattle.types.specs.declared.Verifier.{Verifier}
use Rattle.types.specs.declared.VerifierPhase.TheVariants.{Holding, Asked}
use Rattle.types.specs.declared.VerifierStep.{VerifierStep}
use Rattle.groups.specs.Transcript.{Accepting, Bezout, honest_response, simulated_commitment, witness_formula}
use Rattle.groups.specs.Vector.{vector_group, value_of_product}
use Rattle.lists.specs.Places.{pad8, places}
use Rattle.lists.proofs.Each.{each_at, each_length, each_places}
use Rattle.lists.proofs.Places.{get_d_pad8, places_pad8, places_whole}
use Rattle.formats.specs.Load.{load_refusal}
use Rattle.formats.specs.Sheet.{instance_of}
use Rattle.formats.proofs.Loads.{loads_valid}
use Rattle.formats.proofs.OnSheet.{on_sheet_loads}
use Rattle.sigma.specs.Domain.{Domain, Codomain}
use Rattle.sigma.specs.Instance.{Instance, table_of}
use Rattle.sigma.specs.Knowledge.{Witness}
use Rattle.sigma.specs.Reads.{round_of}
use Rattle.sigma.specs.Round.{response}
use Rattle.sigma.specs.Simulator.{simulated}
use Rattle.sigma.specs.Valid.{Valid}
use Rattle.sigma.proofs.Calls.{valid_judge_accepted}
use Rattle.sigma.proofs.ElementGroup.{element_group}
use Rattle.sigma.proofs.Formula.{base_slot_exponent, base_slot_root, formula_by_kind}
use Rattle.sigma.proofs.FormulaValue.{base_of, base_of_at, base_image, formula_value}
use Rattle.sigma.proofs.Homomorphism.{elements_of, domain_group, codomain_group, image_of, image_of_at, homomorphism}
use Rattle.sigma.proofs.Maurer.{product_slot, response_value, simulated_value, statement_vector, statement_vector_at}
use Rattle.sigma.proofs.Transfer.{judge_accepts}
use Rattle.sigma.proofs.Unread.{judge_same}
use Rattle.sigma.proofs.Valid.{valid_kind}
use Rattle.sigma.proofs.Values.{length_response, length_simulated}
use Rattle.runs.specs.Calls.{judge_round, extract_witness}
use Rattle.runs.specs.MainProtocol.{MainProtocol}
use Rattle.runs.specs.OnSheet.{Below, read_slots}
use Rattle.runs.specs.Ours.{run_calls}
use Rattle.runs.specs.Prover.{new_prover, commit, committing, respond}
use Rattle.runs.specs.Verifier.{new_verifier, take_commitment, take_challenge, take_response, taking_challenge, taking_commitment}
use Rattle.runs.proofs.Demand3.{honest_run, sheet_extraction, simulated_given}
use Rattle.runs.proofs.JointRun.{joint_steps, joint_commit}
use Rattle.runs.proofs.Loaded.{accepts_loaded, judge_loaded_law}
use Rattle.runs.proofs.ReadAlone.{read_alone}
use Rattle.runs.proofs.Verdicts.{take_response_judged}
use Rattle.runs.proofs.VerifierSteps.{take_commitment_runs, take_commitment_value, take_challenge_runs, take_challenge_value}

module _ (sheet : List ℕ) (loaded : load_refusal sheet ≡ 0) where
  -- the sheet's values, which are Valid
  abbrev values : Instance
  values = instance_of sheet

  valid : Valid (instance_of sheet)
  valid = loads_valid sheet loaded

  -- ---- Peggy

  -- committing in a new session answers the image
  committed : (k : Domain (table_of (instance_of sheet)))
      → ((commit sheet new_prover k.0).refusal ≡ 0)
      × ((commit sheet new_prover k.0).values ≡ pad8 0 ((homomorphism valid.table).map k).0)
  unfolding commit homomorphism image_of
  committed k =
      let read = places_whole values.header.columns k.0 (each_length _ _ k.0 k.1) in
      let given = rw read at (joint_commit values k.0 k.0 0 (rw read k.1)) in
      let same = on_sheet_loads sheet (committing values new_prover k.0) loaded ∙ given in
      (ap (λ (step : ProverStep). step.refusal) same, ap (λ (step : ProverStep). step.values) same)

  -- what the table carries to the statement is a witness
  carried_witness : (x : Domain (table_of (instance_of sheet))) → (homomorphism valid.table).map x ≡ statement_vector valid
      → Witness (instance_of sheet) x.0
  unfolding homomorphism image_of statement_vector
  carried_witness x e = record { slots = x.1; carried = λ i. (e i).0 }

  -- the response on values is the paper's
  response_same : (x k : Domain (table_of (instance_of sheet))) (c : ℕ)
      → response (instance_of sheet).header k.0 c x.0 ≡ (honest_response (domain_group valid.table) x c k).0
  response_same x k c =
      let paper = honest_response (domain_group valid.table) x c k in
      let here = length_response values.header k.0 c x.0 in
      ext_get_or 0 _ _ (here ∙ sym (each_length _ _ paper.0 paper.1))
      (λ j h. sym (response_value valid.table c x k j (rw here at h)))

  -- responding in the session that committing handed back answers the paper's response
  responded : (x k : Domain (table_of (instance_of sheet))) (c : ℕ) → (homomorphism valid.table).map x ≡ statement_vector valid
      → Below sheet c
      → ((respond sheet (commit sheet new_prover k.0).session c x.0).refusal ≡ 0)
      × ((respond sheet (commit sheet new_prover k.0).session c x.0).values
      ≡ pad8 0 (honest_response (domain_group valid.table) x c k).0)
  unfolding joint_steps
  responded x k c e below =
      let (a, b, t, r) = honest_run sheet loaded c below x.0 (carried_witness x e) k.0 k.1 in
      (b, r ∙ ap (pad8 0) (response_same x k c))

  -- ---- Vic

  -- the places that are read of s values are these values
  values_read : (t : Codomain (table_of (instance_of sheet))) → places (instance_of sheet).header.rows t.0 ≡ t.0
  values_read t = places_whole values.header.rows t.0 (each_length _ _ t.0 t.1)

  -- what is read of s held values are these values
  held_read : (t : Codomain (table_of (instance_of sheet))) → places (instance_of sheet).header.rows (pad8 0 t.0) ≡ t.0
  held_read t = places_pad8 values.header.rows t.0 ∙ values_read t

  -- he holds a commitment that he is brought
  held : (t : Codomain (table_of (instance_of sheet)))
      → (take_commitment sheet new_verifier t.0).session ≡ record { phase = Holding; commitment = pad8 0 t.0; challenge = 0 }
  unfolding taking_commitment new_verifier
  held t =
      let elements = each_at _ _ t.0 t.1 in
      let runs = (take_commitment_runs sheet new_verifier t.0).1
      (loaded, record { commitment = rw (values_read t) elements; phase = refl }) in
      ap (λ (step : VerifierStep). step.session) (rw (values_read t) at (take_commitment_value sheet new_verifier t.0 runs))

  -- and then a challenge
  asked : (t : Codomain (table_of (instance_of sheet))) (c : ℕ) → Below sheet c
      → (take_challenge sheet (take_commitment sheet new_verifier t.0).session c).session
      ≡ record { phase = Asked; commitment = pad8 0 t.0; challenge = c }
  unfolding taking_challenge
  asked t c below =
      let v : Verifier = record { phase = Holding; commitment = pad8 0 t.0; challenge = 0 } in
      let elements = each_at _ _ t.0 t.1 in
      let runs = (take_challenge_runs sheet v c).1
      (loaded, record { challenge = below; phase = refl; held = rw (held_read t) elements }) in
      rw (held t) (ap (λ (step : VerifierStep). step.session) (take_challenge_value sheet v c runs))

  -- and his verdict on a response is the judging call's
  verified : (t : Codomain (table_of (instance_of sheet))) (c : ℕ) (r : Domain (table_of (instance_of sheet))) → Below sheet c
      → (take_response sheet (take_challenge sheet (take_commitment sheet new_verifier t.0).session c).session r.0).verdict
      ≡ judge_round sheet (round_of t.0 c r.0)
  verified t c r below =
      let v : Verifier = record { phase = Asked; commitment = pad8 0 t.0; challenge = c } in
      let elements = each_at _ _ t.0 t.1 in
      rw (asked t c below)
      (take_response_judged sheet v (record { phase = refl; held = rw (held_read t) elements; challenge = below }) r.0
      ∙ judge_loaded_law sheet loaded (round_of (pad8 0 t.0) c r.0)
      ∙ judge_same values (record { commitment = λ i h. get_d_pad8 0 t.0 i; challenge = refl; response = λ j h. refl })
      ∙ sym (judge_loaded_law sheet loaded (round_of t.0 c r.0)))

  -- a round is accepted exactly where the paper's verifier accepts it
  accepted : (t : Codomain (table_of (instance_of sheet))) (c : ℕ) (r : Domain (table_of (instance_of sheet))) → Below sheet c
      → (judge_round sheet (round_of t.0 c r.0) ≡ Accepted) ↔ Accepting (homomorphism valid.table) (statement_vector valid) t c r
  accepted t c r below =
      Iff.trans (accepts_loaded sheet loaded (round_of t.0 c r.0))
      (judge_accepts valid (record { commitment = t; challenge = c; response = r }) below)

  -- ---- simulator and extractor

  -- the simulated commitment is the paper's
  simulated_same : (c : ℕ) (r : Domain (table_of (instance_of sheet)))
      → simulated (instance_of sheet) c r.0 ≡ (simulated_commitment (homomorphism valid.table) (statement_vector valid) c r).0
  simulated_same c r =
      let paper = simulated_commitment (homomorphism valid.table) (statement_vector valid) c r in
      let here = length_simulated values c r.0 in
      ext_get_or 0 _ _ (here ∙ sym (each_length _ _ paper.0 paper.1))
      (λ i h. sym (simulated_value valid c r i (rw here at h)))

  -- u is zeros in kind 1
  base_zeros : (instance_of sheet).header.kind ≡ 1 → (base_of valid).0 ≡ replicate (instance_of sheet).header.columns 0
  base_zeros e =
      let n = values.header.columns in
      let base = base_of valid in
      let long = each_length _ _ base.0 base.1 in
      ext_get_or 0 _ _ (long ∙ sym (length-replicate n 0)) (λ j h.
      let b : j < n = omega arith in
      base_of_at valid j b ∙ base_slot_exponent values.header e _ ∙ sym (get_or-replicate n j 0 0 b))

  -- and z in kind 2
  base_statement : (instance_of sheet).header.kind ≢ 1 → (base_of valid).0 ≡ (statement_vector valid).0
  base_statement other =
      let base = base_of valid in
      let z = statement_vector valid in
      let long = each_length _ _ base.0 base.1 in
      let square = valid.table.square (valid_kind valid.table other) in
      ext_get_or 0 _ _ (long ∙ sym square ∙ sym (each_length _ _ z.0 z.1)) (λ j h.
      base_of_at valid j (omega arith) ∙ base_slot_root values.header other _ ∙ sym (statement_vector_at valid j (omega arith)))

  -- the extracted witness is the paper's
  extracted_same : (t : Codomain (table_of (instance_of sheet))) (c c' : ℕ) (r r' : Domain (table_of (instance_of sheet)))
      → judge_round sheet (round_of t.0 c r.0) ≡ Accepted → judge_round sheet (round_of t.0 c' r'.0) ≡ Accepted → c ≢ c'
      → (a b : ℤ) → Bezout (instance_of sheet).header.order c c' a b
      → extract_witness sheet (round_of t.0 c r.0) (round_of t.0 c' r'.0)
      ≡ record { refusal = 0; values = pad8 0 (witness_formula (domain_group valid.table) (base_of valid) a b r r').0 }
  extracted_same t c c' r r' first second other a b fit =
      let x = sheet_extraction sheet loaded (round_of t.0 c r.0) (round_of t.0 c' r'.0)
      (record { first_accepted = first; second_accepted = second; commitments = λ i h. refl; challenges = other }) in
      x.answer
      ∙ ap (λ (y : List ℕ). record { refusal = 0; values = pad8 0 y }) (sym (formula_by_kind values a b r.0 r'.0 x.value (each_length _ _ x.value x.witness.slots)
      (λ k. x.exponent k a b fit) (λ k. x.root k a b fit)) ∙ sym (formula_value valid a b r r'))

  -- ---- the whole

  -- a sheet that loads runs the main protocol
  pub main_protocol : MainProtocol run_calls sheet
  unfolding vector_group elements_of element_group homomorphism statement_vector
  main_protocol =
      let table = valid.table in
      record {
        domain = domain_group table;
        joined = product_slot table;
        codomain = codomain_group table;
        multiplied = value_of_product (elements_of table) values.header.rows;
        table = homomorphism table;
        carried = image_of_at table;
        statement = statement_vector valid;
        stated = refl;
        commits = committed;
        responds = responded;
        accepts = accepted;
        verifies = verified;
        no_other = λ round e.
            let (fits, holds) = (valid_judge_accepted values round valid).0 ((accepts_loaded sheet loaded round).0 e) in
            (each_places _ _ round.commitment fits.commitment, fits.challenge, each_places _ _ round.response fits.response);
        simulates = λ c r slots below.
            (read_alone sheet).simulated c r
            ∙ simulated_given sheet loaded c below (read_slots sheet r) slots
            ∙ ap (λ (y : List ℕ). record { refusal = 0; values = pad8 0 y }) (simulated_same c (read_slots sheet r, slots));
        base = base_of valid;
        based = base_image valid;
        base_exponent = base_zeros;
        base_root = base_statement;
        extracts = λ t c c' r r' below below' other first second.
            extracted_same t c c' r r' ((accepted t c r below).1 first) ((accepted t c' r' below').1 second) other;
      }
