-- What the calls of the OR session answer, in the answers of 01's calls: the side that Peggy knows is answered as her session of 01
-- answers it, and the other as the simulator does.
-- Assumes nothing.
use Prim.Native.Nat.{ℕ, suc}
use mathlib.Core.Path.{◌≡◌, refl, sym, ap, ◌∙◌}
use mathlib.Core.Bool.{false, not, ◌||◌}
use mathlib.Core.List.{List}
use lib.Dec.{ltb}
use Rattle.types.specs.declared.Computed.{Computed}
use Rattle.types.specs.declared.Prover.{Prover}
use Rattle.types.specs.declared.ProverPhase.TheVariants.{Committed}
use Rattle.types.specs.declared.ProverStep.{ProverStep}
use Rattle.disjunctions.specs.declared.OrProver.{OrProver}
use Rattle.disjunctions.specs.declared.OrStep.{OrStep}
use Rattle.lists.specs.Places.{pad8, places}
use Rattle.lists.proofs.Places.{get_d_places, length_places}
use Rattle.formats.specs.Load.{load_refusal}
use Rattle.formats.specs.Sheet.{instance_of}
use Rattle.runs.specs.Calls.{simulate_commitment}
use Rattle.runs.specs.OnSheet.{Below, read_slots}
use Rattle.runs.specs.Ours.{call_prover}
use Rattle.runs.specs.Prover.{commit, committing, new_prover, respond, responding}
use Rattle.runs.specs.ProverCalls.{Commit, Respond}
use Rattle.runs.proofs.Loaded.{simulate_loaded_law}
use Rattle.runs.proofs.Memory.{none_listed, some_room}
use Rattle.runs.proofs.ProverCalls.{prover_value}
use Rattle.runs.proofs.ProverSteps.{commit_runs, respond_runs}
use Rattle.runs.proofs.Witness.{witness_slots}
use Rattle.sigma.specs.Comparison.{differ}
use Rattle.sigma.specs.Image.{image}
use Rattle.sigma.specs.Instance.{Instance, table_of}
use Rattle.sigma.specs.Meaning.{Coordinates}
use Rattle.sigma.specs.Reads.{Agree}
use Rattle.sigma.specs.Round.{bad_challenge, bad_coordinates, bad_witness, response}
use Rattle.sigma.specs.Simulator.{simulated}
use Rattle.sigma.proofs.Calculus.{both_fail}
use Rattle.sigma.proofs.Calls.{simulate_given, simulate_runs}
use Rattle.sigma.proofs.Comparison.{differ_false}
use Rattle.sigma.proofs.Passed.{challenge_passes, coordinates_pass, witness_passes}
use Rattle.sigma.proofs.Unread.{coordinates_agree}
use Rattle.disjunctions.specs.Ours.{Pair}
use Rattle.disjunctions.specs.Prover.{
  commit_or,
  committing_or,
  first_commitment,
  or_prover_in,
  other,
  own,
  respond_or,
  responding_or,
  second_commitment,
  unfit_or,
}
use Rattle.disjunctions.specs.Round.{other_challenge}
use Rattle.disjunctions.proofs.Challenges.{other_less}
use Rattle.disjunctions.proofs.Judged.{some_challenge}
use Rattle.disjunctions.proofs.OrSessions.{
  commit_or_clear,
  commit_or_given,
  later_other,
  later_own,
  other_instance,
  own_instance,
  respond_or_clear,
  respond_or_given,
}
use Rattle.disjunctions.proofs.Pairs.{first_loads, second_loads}

-- ---- 01's calls on a sheet that loads

module _ (sheet : List ℕ) (loads : load_refusal sheet ≡ 0) where
  -- a nonce of domain slots is committed to in a new session
  commit_values : (k : List ℕ) → Coordinates (instance_of sheet) (read_slots sheet k)
      → (commit sheet new_prover k).values ≡ pad8 0 (image (table_of (instance_of sheet)) (read_slots sheet k))
  unfolding call_prover committing new_prover
  commit_values k slots =
      let runs = (commit_runs sheet new_prover k).1 (loads, record { nonce = slots; phase = refl }) in
      ap (λ (step : ProverStep). step.values) (prover_value (Commit sheet k) new_prover runs)

  -- a challenge below K and a response of domain slots are simulated
  simulate_values : (d : ℕ) (r : List ℕ) → Below sheet d → Coordinates (instance_of sheet) (read_slots sheet r)
      → (simulate_commitment sheet d r).values ≡ pad8 0 (simulated (instance_of sheet) d (read_slots sheet r))
  simulate_values d r below slots =
      let inst = instance_of sheet in
      let n = inst.header.columns in
      let whole = coordinates_agree inst (places n r) r (get_d_places n r) slots in
      let given = simulate_loaded_law sheet loads d r ∙ simulate_given inst d r ((simulate_runs inst d r).1 (below, whole)) in
      ap (λ (answer : Computed). answer.values) given

-- ---- what a call that is not refused was given

module _ (s s' : List ℕ) (p : OrProver) where
  abbrev i : Instance
  i = instance_of s

  abbrev j : Instance
  j = instance_of s'

  -- committing: a simulated challenge below K, a nonce of the own side and a simulated response of the other
  commit_or_facts : (side : ℕ) (k : List ℕ) (d : ℕ) (r : List ℕ) → (commit_or s s' p side k d r).refusal ≡ 0
      → Below s d × Coordinates (instance_of (own side s s')) (read_slots (own side s s') k)
      × Coordinates (instance_of (other side s s')) (read_slots (other side s s') r)
  unfolding committing_or
  commit_or_facts side k d r e =
      let mine = own side i j in
      let yours = other side i j in
      let rules = commit_or_clear s s' p side k d r e in
      let slots = (both_fail (bad_coordinates mine (places mine.header.columns k))
      (bad_coordinates yours (places yours.header.columns r))).0 rules.1.0 in (
        (challenge_passes i d).0 rules.0,
        rw (own_instance side s s') at ((coordinates_pass mine _).0 slots.0),
        rw (other_instance side s s') at ((coordinates_pass yours _).0 slots.1),
      )

  -- responding: a witness of the held side's sheet, and held values that make both commitments
  respond_or_facts : (c : ℕ) (x : List ℕ) → (respond_or s s' p c x).refusal ≡ 0
      → Coordinates (own p.side (instance_of s) (instance_of s')) (places (own p.side (instance_of s) (instance_of s')).header.columns x)
      × (bad_witness (own p.side (instance_of s) (instance_of s')) (places (own p.side (instance_of s) (instance_of s')).header.columns x) ≡ false)
      × (unfit_or (instance_of s) (instance_of s') p ≡ false)
  unfolding responding_or
  respond_or_facts c x e =
      let mine = own p.side i j in
      let rules = respond_or_clear s s' p c x e in (
        (coordinates_pass mine _).0 rules.1.0,
        rules.1.1.0,
        ((both_fail (not (or_prover_in Committed p)) (unfit_or i j p)).0 rules.1.1.1.0).1,
      )

  -- held values that fit: the nonce of the own side, and both commitments made of them
  unfit_facts : unfit_or (instance_of s) (instance_of s') p ≡ false
      → (k r : List ℕ) → k ≡ places (own p.side (instance_of s) (instance_of s')).header.columns p.nonce
      → r ≡ places (other p.side (instance_of s) (instance_of s')).header.columns p.response
      → Coordinates (own p.side (instance_of s) (instance_of s')) k
      × Agree 8 (pad8 0 (first_commitment (instance_of s) p.side k p.challenge r)) p.commitment0
      × Agree 8 (pad8 0 (second_commitment (instance_of s') p.side k p.challenge r)) p.commitment1
  unfolding unfit_or
  unfit_facts fits k r a b =
      let mine = own p.side i j in
      let yours = other p.side i j in
      let k' = places mine.header.columns p.nonce in
      let r' = places yours.header.columns p.response in
      let known = ltb 1 p.side in
      let nonce = bad_coordinates mine k' in
      let answer = bad_coordinates yours r' in
      let challenge = bad_challenge i p.challenge in
      let first = differ 8 (pad8 0 (first_commitment i p.side k' p.challenge r')) p.commitment0 in
      let second = differ 8 (pad8 0 (second_commitment j p.side k' p.challenge r')) p.commitment1 in
      let (five, last) = (both_fail (known || nonce || answer || challenge || first) second).0 fits in
      let (four, before) = (both_fail (known || nonce || answer || challenge) first).0 five in
      let (three, _) = (both_fail (known || nonce || answer) challenge).0 four in
      let (two, _) = (both_fail (known || nonce) answer).0 three in
      let (_, slots) = (both_fail known nonce).0 two in
      rw (a, b) (
        (coordinates_pass mine k').0 slots,
        (differ_false 8 _ p.commitment0).0 before,
        (differ_false 8 _ p.commitment1).0 last,
      )

-- ---- every side but 0 is 1

module _ (n : ℕ) (inst : Instance) (k : List ℕ) (d : ℕ) (r : List ℕ) where
  later_first : first_commitment inst (suc n) k d r ≡ simulated inst d r
  unfolding first_commitment
  later_first = later_own n _ _

  later_second : second_commitment inst (suc n) k d r ≡ image (table_of inst) k
  unfolding second_commitment
  later_second = later_own n _ _

-- ---- the calls in 01's answers

module _ (s s' : List ℕ) (pair : Pair s s') (p : OrProver) where
  abbrev K : ℕ
  K = (instance_of s).header.challenges

  -- committing with side 0, and with any other
  pub commits_first : (k : List ℕ) (d : ℕ) (r : List ℕ) → (commit_or s s' p 0 k d r).refusal ≡ 0
      → ((commit_or s s' p 0 k d r).values0 ≡ (commit s new_prover k).values)
      × ((commit_or s s' p 0 k d r).values1 ≡ (simulate_commitment s' d r).values)
  unfolding first_commitment second_commitment own other
  commits_first k d r e =
      let (below, slots, slots') = commit_or_facts s s' p 0 k d r e in
      let given = commit_or_given s s' p 0 k d r e _ _ refl refl in (
        ap (λ (step : OrStep). step.values0) given ∙ sym (commit_values s (first_loads pair) k slots),
        ap (λ (step : OrStep). step.values1) given
            ∙ sym (simulate_values s' (second_loads pair) d r (rw (sym pair.one_count) below) slots'),
      )

  pub commits_second : (n : ℕ) (k : List ℕ) (d : ℕ) (r : List ℕ) → (commit_or s s' p (suc n) k d r).refusal ≡ 0
      → ((commit_or s s' p (suc n) k d r).values0 ≡ (simulate_commitment s d r).values)
      × ((commit_or s s' p (suc n) k d r).values1 ≡ (commit s' new_prover k).values)
  commits_second n k d r e =
      let (below, slots, slots') = rw (later_own n s s', later_other n s s') at (commit_or_facts s s' p (suc n) k d r e) in
      let given = commit_or_given s s' p (suc n) k d r e (read_slots s' k) (read_slots s r)
      (ap (λ (sheet : List ℕ). read_slots sheet k) (sym (later_own n s s'))) (ap (λ (sheet : List ℕ). read_slots sheet r) (sym (later_other n s s'))) in (
        ap (λ (step : OrStep). step.values0) given ∙ ap (pad8 0) (later_first n (instance_of s) _ d _)
            ∙ sym (simulate_values s (first_loads pair) d r below slots'),
        ap (λ (step : OrStep). step.values1) given ∙ ap (pad8 0) (later_second n (instance_of s') _ d _)
            ∙ sym (commit_values s' (second_loads pair) k slots),
      )

  -- a session of 01 that lists nothing and holds a nonce and its commitment answers a challenge below K with the response
  answer_values : (sheet : List ℕ) → load_refusal sheet ≡ 0 → (q : Prover) (e : ℕ) (x : List ℕ) → q.memory ≡ new_prover.memory
      → q.phase ≡ Committed → Below sheet e
      → Coordinates (instance_of sheet) (read_slots sheet x) → (bad_witness (instance_of sheet) (read_slots sheet x) ≡ false)
      → Coordinates (instance_of sheet) (read_slots sheet q.nonce)
      → Agree 8 (pad8 0 (image (table_of (instance_of sheet)) (read_slots sheet q.nonce))) q.commitment
      → (respond sheet q e x).values ≡ pad8 0 (response (instance_of sheet).header (read_slots sheet q.nonce) e (read_slots sheet x))
  unfolding call_prover responding new_prover
  answer_values sheet loads q e x empty phase below slots carried nonce agree =
      let inst = instance_of sheet in
      let n = inst.header.columns in
      let witness = (witness_slots inst (places n x) (length_places n x)).0 (slots, (witness_passes inst (places n x)).0 carried) in
      let runs = (respond_runs sheet q e x).1 (
        loads,
        record {
          challenge = below;
          witness = witness;
          phase = phase;
          nonce = nonce;
          commitment = agree;
          unlisted = rw empty (none_listed q.commitment);
          room = rw empty some_room;
        },
      ) in
      ap (λ (step : ProverStep). step.values) (prover_value (Respond sheet e x) q runs)

  -- the responses of a side that is known and of the other one
  abbrev known : ℕ → ℕ → List ℕ → List ℕ
  known side c x =
      response (instance_of (own side s s')).header (read_slots (own side s s') p.nonce)
      (other_challenge (instance_of s).header.challenges c p.challenge) (read_slots (own side s s') x)

  abbrev simulated_slots : ℕ → List ℕ
  simulated_slots side = read_slots (other side s s') p.response

  -- responding in a session that holds side 0
  pub responds_first : (c : ℕ) (x : List ℕ) → p.side ≡ 0 → (respond_or s s' p c x).refusal ≡ 0
      → ((respond_or s s' p c x).challenge0 ≡ other_challenge (instance_of s).header.challenges c p.challenge)
      × ((respond_or s s' p c x).values0
      ≡ (respond s (record { phase = Committed; nonce = p.nonce; commitment = p.commitment0; memory = new_prover.memory })
      (other_challenge (instance_of s).header.challenges c p.challenge) x).values)
      × ((respond_or s s' p c x).values1 ≡ pad8 0 (read_slots s' p.response))
  unfolding own other first_commitment
  responds_first c x side e =
      let facts = respond_or_facts s s' p c x e in
      let slots = rw side at facts.0 in
      let carried = rw side at facts.1 in
      let (nonce, first, second) = rw side at (unfit_facts s s' p facts.2 _ _ refl refl) in
      let left = other_challenge K c p.challenge in
      let given = respond_or_given s s' p c x e _ _ _ _ _ refl refl refl refl refl in
      let mine = answer_values s (first_loads pair) (record { phase = Committed; nonce = p.nonce; commitment = p.commitment0; memory = new_prover.memory }) left x refl refl
      (other_less K c p.challenge (some_challenge s s' pair)) slots carried nonce first in (
        ap (λ (step : OrStep). step.challenge0) given ∙ ap (λ (n : ℕ). own n left p.challenge) side,
        ap (λ (step : OrStep). step.values0) given ∙ ap (λ (n : ℕ). pad8 0 (own n (known n c x) (simulated_slots n))) side ∙ sym mine,
        ap (λ (step : OrStep). step.values1) given ∙ ap (λ (n : ℕ). pad8 0 (own n (simulated_slots n) (known n c x))) side,
      )

  -- and in one that holds side 1
  pub responds_second : (c : ℕ) (x : List ℕ) → p.side ≡ 1 → (respond_or s s' p c x).refusal ≡ 0
      → ((respond_or s s' p c x).challenge0 ≡ p.challenge)
      × ((respond_or s s' p c x).values0 ≡ pad8 0 (read_slots s p.response))
      × ((respond_or s s' p c x).values1
      ≡ (respond s' (record { phase = Committed; nonce = p.nonce; commitment = p.commitment1; memory = new_prover.memory })
      (other_challenge (instance_of s).header.challenges c p.challenge) x).values)
  unfolding own other second_commitment
  responds_second c x side e =
      let facts = respond_or_facts s s' p c x e in
      let slots = rw side at facts.0 in
      let carried = rw side at facts.1 in
      let (nonce, first, second) = rw side at (unfit_facts s s' p facts.2 _ _ refl refl) in
      let left = other_challenge K c p.challenge in
      let given = respond_or_given s s' p c x e _ _ _ _ _ refl refl refl refl refl in
      let mine = answer_values s' (second_loads pair) (record { phase = Committed; nonce = p.nonce; commitment = p.commitment1; memory = new_prover.memory }) left x refl refl
      (rw (sym pair.one_count) (other_less K c p.challenge (some_challenge s s' pair))) slots carried nonce second in (
        ap (λ (step : OrStep). step.challenge0) given ∙ ap (λ (n : ℕ). own n left p.challenge) side,
        ap (λ (step : OrStep). step.values0) given ∙ ap (λ (n : ℕ). pad8 0 (own n (known n c x) (simulated_slots n))) side,
        ap (λ (step : OrStep). step.values1) given ∙ ap (λ (n : ℕ). pad8 0 (own n (simulated_slots n) (known n c x))) side ∙ sym mine,
      )
