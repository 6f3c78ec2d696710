-- Demand 3 on bytes: for every sheet that loads, the extractor gives a witness, and the simulated rounds, and the honest
-- rounds of every witness, are exactly the accepted rounds with one challenge, each met once.
-- Assumes nothing.
use Prim.Native.Nat.{ℕ, ◌<◌}
use mathlib.Core.Path.{◌≡◌, refl, sym, ap, ◌∙◌}
use mathlib.Core.Logic.Iff
use mathlib.Core.List.{List, map}
use native.Mathlib.Omega.{arith}
use lib.ListN.{get_or, length}
use lib.Seq.{ext_get_or}
use Rattle.types.specs.declared.Computed.{Computed}
use Rattle.types.specs.declared.Header.{Header}
use Rattle.types.specs.declared.Round.{Round}
use Rattle.lists.specs.Places.{pad8}
use Rattle.lists.proofs.Each.{each_length}
use Rattle.lists.proofs.Places.{get_d_pad8, places_pad8, places_whole}
use Rattle.formats.specs.Load.{load_refusal}
use Rattle.formats.specs.Sheet.{instance_of}
use Rattle.formats.proofs.Loads.{loads_valid}
use Rattle.sigma.specs.Image.{image}
use Rattle.sigma.specs.Instance.{Instance, table_of}
use Rattle.sigma.specs.Knowledge.{AcceptedRound, Choice, Witness, honest_on, simulated_on}
use Rattle.sigma.specs.Knowledge.{MeetsEachOnce, AcceptedPair, Extraction}
use Rattle.sigma.specs.Listed.{all_choices, ListsAccepted}
use Rattle.sigma.specs.Reads.{Agree, round_of, SameRound, padded_round}
use Rattle.sigma.specs.Round.{response}
use Rattle.sigma.specs.Simulator.{simulated}
use Rattle.sigma.specs.Valid.{Valid}
use Rattle.sigma.proofs.Extractor.{extraction}
use Rattle.sigma.proofs.Lists.{all_choices_member, all_choices_once, lists_accepted}
use Rattle.sigma.proofs.Prover.{honest_rounds}
use Rattle.sigma.proofs.Restated.{meets_alike, pair_alike, extraction_alike}
use Rattle.sigma.proofs.Simulator.{simulated_rounds, simulate_answer}
use Rattle.sigma.proofs.Unread.{same_commitment_law, same_response}
use Rattle.sigma.proofs.Values.{length_image, length_response, length_simulated}
use Rattle.runs.specs.Calls.{simulate_commitment, extract_witness}
use Rattle.runs.specs.Corollaries.{RoundsListed}
use Rattle.runs.specs.Demand3.{Demand3}
use Rattle.runs.specs.OnSheet.{Below}
use Rattle.runs.specs.Ours.{Accepts, honest_round, run_calls, simulated_round}
use Rattle.runs.specs.Prover.{new_prover, commit, respond}
use Rattle.runs.proofs.JointRun.{JointSteps, joint_steps, joint_steps_law}
use Rattle.runs.proofs.Loaded.{accepts_loaded, simulate_loaded_law, extract_loaded_law}
use Rattle.runs.proofs.Protocol.{sheet_accepted}

-- ---- rounds in eight places

-- s values and n slots, put in eight places
abbrev pub padded : List ℕ → ℕ → List ℕ → Round
padded t c r = round_of (pad8 0 t) c (pad8 0 r)

-- rounds that are the same are equal in eight places
pub padded_same : (h : Header) (round round' : Round) → SameRound h round round' → padded_round h round ≡ padded_round h round'
unfolding padded_round
padded_same h round round' s = cc (same_commitment_law s, s.challenge, same_response s)

module _ (h : Header) (t : List ℕ) (c : ℕ) (r : List ℕ) where
  -- s values and n slots in eight places are a round in eight places
  padded_whole : length t ≡ h.rows → length r ≡ h.columns → padded_round h (padded t c r) ≡ padded t c r
  unfolding padded_round
  padded_whole l m =
      rw (places_pad8 h.rows t, places_whole h.rows t l, places_pad8 h.columns r, places_whole h.columns r m)

  -- they are the same round
  same_padded : SameRound h (padded t c r) (round_of t c r)
  same_padded = record { commitment = λ j b. get_d_pad8 0 t j; challenge = refl; response = λ j b. get_d_pad8 0 r j }

module _ (sheet : List ℕ) (loaded : load_refusal sheet ≡ 0) where
  -- the sheet's values
  abbrev values : Instance
  values = instance_of sheet

  -- the sheet's values are Valid
  valid : Valid (instance_of sheet)
  valid = loads_valid sheet loaded

  -- ---- the extractor

  -- from two accepted rounds with equal commitments and different challenges the extractor gives a witness
  pub sheet_extraction : (first second : Round) → AcceptedPair (instance_of sheet).header (Accepts sheet) first second
      → Extraction (instance_of sheet) (extract_witness sheet) first second
  sheet_extraction first second p =
      extraction_alike values _ (extract_witness sheet) (extract_loaded_law sheet loaded)
      (extraction valid first second (pair_alike values (Accepts sheet) (accepts_loaded sheet loaded) p))

  -- ---- rounds on values put in eight places

  module _ (c : ℕ) (make : List ℕ → Round) (t r : List ℕ → List ℕ)
      (is : (x : List ℕ) → Choice (instance_of sheet) x → make x ≡ padded (t x) c (r x))
      (meets : MeetsEachOnce (instance_of sheet).header (Choice (instance_of sheet)) (AcceptedRound (instance_of sheet)) c
      (λ x. round_of (t x) c (r x))) where
    -- what holds of the rounds on values holds of them in eight places
    meets_padded : MeetsEachOnce (instance_of sheet).header (Choice (instance_of sheet)) (Accepts sheet) c make
    meets_padded =
        meets_alike values (Accepts sheet) (accepts_loaded sheet loaded) c (λ x. round_of (t x) c (r x)) make
        (λ x slots. rw (is x slots) (same_padded values.header (t x) c (r x))) meets

    -- and of their list
    lists_padded : ((x : List ℕ) → Choice (instance_of sheet) x
        → (length (t x) ≡ (instance_of sheet).header.rows) × (length (r x) ≡ (instance_of sheet).header.columns))
        → ListsAccepted (padded_round (instance_of sheet).header) (Accepts sheet) c (map make (all_choices (instance_of sheet)))
    lists_padded lengths =
        lists_accepted values (padded_round values.header) (padded_same values.header) (Accepts sheet) c make
        (λ x slots. rw (is x slots) (padded_whole values.header (t x) c (r x) (lengths x slots).0 (lengths x slots).1)) meets_padded

  module _ (c : ℕ) (below : Below sheet c) where
    -- ---- the simulator

    -- the simulator's answer
    pub simulated_given : (r : List ℕ) → Choice (instance_of sheet) r
        → simulate_commitment sheet c r ≡ record { refusal = 0; values = pad8 0 (simulated (instance_of sheet) c r) }
    unfolding simulated_on
    simulated_given r slots = simulate_loaded_law sheet loaded c r ∙ simulate_answer valid c below r slots

    -- the simulated round, in eight places
    pub simulated_is : (r : List ℕ) → Choice (instance_of sheet) r
        → simulated_round sheet c r ≡ padded (simulated (instance_of sheet) c r) c r
    unfolding simulated_round
    simulated_is r slots = ap (λ (answer : Computed). round_of answer.values c (pad8 0 r)) (simulated_given r slots)

    -- the simulated rounds are exactly the accepted rounds with challenge c, each met once
    pub sheet_simulated_rounds :
        MeetsEachOnce (instance_of sheet).header (Choice (instance_of sheet)) (Accepts sheet) c (simulated_round sheet c)
    unfolding simulated_on
    sheet_simulated_rounds =
        meets_padded c (simulated_round sheet c) (simulated values c) (λ r. r) simulated_is (simulated_rounds valid c below)

    -- listed over all responses, they are the accepted rounds with challenge c, each once
    pub sheet_simulated_list :
        ListsAccepted (padded_round (instance_of sheet).header) (Accepts sheet) c
        (map (simulated_round sheet c) (all_choices (instance_of sheet)))
    unfolding simulated_on
    sheet_simulated_list =
        lists_padded c (simulated_round sheet c) (simulated values c) (λ r. r) simulated_is (simulated_rounds valid c below)
        (λ r slots. (length_simulated values c r, each_length _ _ r slots))

    module _ (x : List ℕ) (w : Witness (instance_of sheet) x) where
      -- ---- the prover

      -- what Peggy gives for x, c and a nonce, in a run with Vic
      pub honest_run : (k : List ℕ) → Choice (instance_of sheet) k
          → ((joint_steps sheet x c k).committed.refusal ≡ 0) × ((joint_steps sheet x c k).answered.refusal ≡ 0)
          × ((joint_steps sheet x c k).committed.values ≡ pad8 0 (image (table_of (instance_of sheet)) k))
          × ((joint_steps sheet x c k).answered.values ≡ pad8 0 (response (instance_of sheet).header k c x))
      honest_run k slots =
          let n = values.header.columns in
          let read = places_whole n x (each_length _ _ x w.slots) in
          let read' = places_whole n k (each_length _ _ k slots) in
          let same = rw (read, read') at (joint_steps_law sheet loaded x k c (rw read w) (rw read' slots) below) in (
            ap (λ (r : JointSteps). r.committed.refusal) same,
            ap (λ (r : JointSteps). r.answered.refusal) same,
            ap (λ (r : JointSteps). r.committed.values) same,
            ap (λ (r : JointSteps). r.answered.values) same,
          )

      -- neither committing nor responding is refused
      pub sheet_honest_runs : (k : List ℕ) → Choice (instance_of sheet) k
          → ((commit sheet new_prover k).refusal ≡ 0) × ((respond sheet (commit sheet new_prover k).session c x).refusal ≡ 0)
      unfolding joint_steps
      sheet_honest_runs k slots = let (a, b, t, r) = honest_run k slots in (a, b)

      -- the honest round, in eight places
      pub honest_is : (k : List ℕ) → Choice (instance_of sheet) k
          → honest_round sheet x c k ≡ padded (image (table_of (instance_of sheet)) k) c (response (instance_of sheet).header k c x)
      unfolding honest_round joint_steps
      honest_is k slots = let (a, b, t, r) = honest_run k slots in λ i. round_of (t i) c (r i)

      -- the honest rounds are exactly the accepted rounds with challenge c, each met once
      pub sheet_honest_rounds :
          MeetsEachOnce (instance_of sheet).header (Choice (instance_of sheet)) (Accepts sheet) c (honest_round sheet x c)
      unfolding honest_on
      sheet_honest_rounds =
          meets_padded c (honest_round sheet x c) (image (table_of values)) (λ k. response values.header k c x) honest_is (honest_rounds valid x w c below)

      -- listed over all nonces, they are the accepted rounds with challenge c, each once
      pub sheet_honest_list :
          ListsAccepted (padded_round (instance_of sheet).header) (Accepts sheet) c
          (map (honest_round sheet x c) (all_choices (instance_of sheet)))
      unfolding honest_on
      sheet_honest_list =
          lists_padded c (honest_round sheet x c) (image (table_of values)) (λ k. response values.header k c x) honest_is (honest_rounds valid x w c below)
          (λ k slots. (length_image (table_of values) k, length_response values.header k c x))

  -- ---- the whole

  -- demand 3 holds of every sheet that loads
  pub demand3 : Demand3 run_calls sheet
  unfolding simulated_round honest_round
  demand3 = record {
    extractor = sheet_extraction;
    simulator_runs = λ c below r slots. ap (λ (answer : Computed). answer.refusal) (simulated_given c below r slots);
    simulator = sheet_simulated_rounds;
    prover_runs = sheet_honest_runs;
    prover = sheet_honest_rounds;
  }

  -- so do its lists
  pub rounds_listed : RoundsListed run_calls sheet
  unfolding simulated_round honest_round
  rounds_listed = record {
    choices = (all_choices_member values, all_choices_once values);
    simulator_list = sheet_simulated_list;
    prover_list = sheet_honest_list;
    same_list = λ c below x w round.
        Iff.trans ((sheet_honest_list c below x w).members round) (Iff.symm ((sheet_simulated_list c below).members round));
  }

  -- of an accepted round c and r determine t: it is the simulated one
  pub one_commitment : (t t' : List ℕ) (c : ℕ) (r : List ℕ) → Accepts sheet (round_of t c r) → Accepts sheet (round_of t' c r)
      → Agree (instance_of sheet).header.rows t t'
  unfolding simulated_round
  one_commitment t t' c r e e' =
      let n = (instance_of sheet).header.columns in
      let below : Below sheet c = ((sheet_accepted sheet loaded (round_of t c r)).0 e).0.challenge in
      let (x, slots, same) = (sheet_simulated_rounds c below).met (round_of t c r) refl e in
      let (y, slots', same') = (sheet_simulated_rounds c below).met (round_of t' c r) refl e' in
      let long : length x ≡ n = each_length _ _ x slots in
      let long' : length y ≡ n = each_length _ _ y slots' in
      let one : x ≡ y = ext_get_or 0 x y (long ∙ sym long') (λ j inside.
      let here : j < n = omega (arith, inside, long) in
      sym (get_d_pad8 0 x j) ∙ same.response j here ∙ sym (same'.response j here) ∙ get_d_pad8 0 y j) in
      λ i inside.
      sym (same.commitment i inside)
      ∙ ap (λ (z : List ℕ). get_or (simulated_round sheet c z).commitment i 0) one ∙ same'.commitment i inside
