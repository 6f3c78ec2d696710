-- The demands determine the calls on rounds: judging by the rows, simulating by the paper's groups, extracting by 01's formula.
-- Assumes nothing.
use Prim.Native.Nat.{ℕ, ◌<◌}
use mathlib.Core.Path.{◌≡◌, sym, ap, ◌∙◌}
use mathlib.Core.List.{List, ◌++◌}
use mathlib.Core.Logic.{◌⊎◌, inl, inr, ⊎_elim}
use native.Mathlib.Omega.{arith}
use lib.IntN.{pos, neg_ℤ}
use lib.ListN.{get_or}
use Rattle.types.specs.declared.Computed.{Computed}
use Rattle.types.specs.declared.Round.{Round}
use Rattle.types.specs.declared.Verdict.TheVariants.{Accepted, Refused}
use Rattle.groups.specs.Group.{group_power}
use Rattle.groups.specs.Transcript.{simulated_commitment}
use Rattle.groups.proofs.Determined.{power_same}
use Rattle.lists.specs.Places.{pad8}
use Rattle.lists.proofs.Each.{each_places, same_slots, same_values}
use Rattle.rules.proofs.Determined.{NoneHold, none_append, none_join, none_zero, refused_or_not}
use Rattle.rules.proofs.Says.{says_decides, says_equal}
use Rattle.formats.specs.FileCalls.{FileCalls}
use Rattle.formats.specs.Refusals.{load_conditions}
use Rattle.formats.specs.Sheet.{instance_of}
use Rattle.sigma.specs.Domain.{Domain, Codomain}
use Rattle.sigma.specs.Element.{Coordinate, Element}
use Rattle.sigma.specs.Instance.{Instance}
use Rattle.sigma.specs.Knowledge.{AcceptedPair, Extraction}
use Rattle.sigma.specs.Meaning.{Coordinates, Elements, Holds}
use Rattle.sigma.specs.Reads.{Agree, Differ}
use Rattle.sigma.specs.Refusals.{Refusal14, Refusal15, Refusal16, extract_conditions, judge_conditions, simulate_conditions}
use Rattle.sigma.proofs.Calculus.{says_stable}
use Rattle.sigma.proofs.ElementGroup.{element_proposition}
use Rattle.sigma.proofs.Tests.{says_coordinate, says_element}
use Rattle.runs.specs.Knowledge.{Accepts}
use Rattle.runs.specs.MainProtocol.{MainProtocol, table_in}
use Rattle.runs.specs.OnSheet.{Below, read_slots}
use Rattle.runs.specs.RunCalls.{RunCalls}
use Rattle.formats.proofs.FileRefusals.{none_loads}
use Rattle.runs.proofs.RunDemands.{RunDemands}

-- ---- where 14, 15, 16, 18 and 20 do not hold

pub are_elements : (inst : Instance) (t : List ℕ) → ¬ Refusal14 inst t → Elements inst t
are_elements inst t none i l = says_stable (says_element inst.header (get_or t i 0)) (λ n. none (i, l, n))

pub are_slots : (inst : Instance) (x : List ℕ) → ¬ Refusal16 inst x → Coordinates inst x
are_slots inst x none j l = says_stable (says_coordinate inst.header (get_or x j 0)) (λ n. none (j, l, n))

pub is_below : (sheet : List ℕ) (c : ℕ) → ¬ Refusal15 (instance_of sheet) c → Below sheet c
is_below sheet c none = omega (arith, none)

pub agree_from : (n : ℕ) (xs ys : List ℕ) → ¬ Differ n xs ys → Agree n xs ys
agree_from n xs ys none j l = says_stable (says_equal (get_or xs j 0) (get_or ys j 0)) (λ d. none (j, l, d))

pub all_hold : (inst : Instance) (round : Round) → ¬ (¬ Holds inst round) → Holds inst round
all_hold inst round stable row l = says_stable (says_equal _ _) (λ n. stable (λ h. n (h row l)))

-- the list of n slots that is read of an array
abbrev pub choice : (sheet x : List ℕ) → ¬ Refusal16 (instance_of sheet) x → Domain (table_in sheet)
choice sheet x none = (
  read_slots sheet x,
  each_places (Coordinate (instance_of sheet).header) (instance_of sheet).header.columns x (are_slots (instance_of sheet) x none),
)

-- ---- one code

module _ {files : FileCalls} {code : RunCalls} (d : RunDemands files code) (sheet : List ℕ) (none : NoneHold (load_conditions sheet)) where
  -- a round to which no condition applies is accepted if every row holds
  pub accepts : (round : Round) → NoneHold (judge_conditions (instance_of sheet) round) → Holds (instance_of sheet) round
      → code.judge_round sheet round ≡ Accepted
  accepts round own holds =
      let e = none_zero (load_conditions sheet ++ judge_conditions (instance_of sheet) round) _
      (none_join (load_conditions sheet) (judge_conditions (instance_of sheet) round) none own) (d.refusals.judging sheet round).given in
      ((d.protocol sheet (none_loads d.loading sheet none)).verdicts round e).accepted.1 holds

  -- two rounds to which no condition of the extractor applies are accepted, with one commitment and different challenges
  pub accepted_pair : (first second : Round) → NoneHold (extract_conditions (instance_of sheet) first second)
      → AcceptedPair (instance_of sheet).header (Accepts code sheet) first second
  accepted_pair first second own = record {
    first_accepted =
        accepts first ((λ x. own.0 (inl x)), ((λ x. own.1.0 (inl x)), ((λ x. own.1.1.0 (inl x)), tt)))
        (all_hold (instance_of sheet) first (λ n. own.1.1.1.1.1.0 (inl n)));
    second_accepted =
        accepts second ((λ x. own.0 (inr x)), ((λ x. own.1.0 (inr x)), ((λ x. own.1.1.0 (inr x)), tt)))
        (all_hold (instance_of sheet) second (λ n. own.1.1.1.1.1.0 (inr n)));
    commitments = agree_from (instance_of sheet).header.rows first.commitment second.commitment own.1.1.1.0;
    challenges = own.1.1.1.1.0;
  }

-- ---- the groups of two codes are the same

module _ {code code' : RunCalls} {sheet : List ℕ} (m : MainProtocol code sheet) (m' : MainProtocol code' sheet) where
  -- lists of s group elements with the same values are the same
  same_images : (x y : Codomain (table_in sheet))
      → ((i : ℕ) → i < (table_in sheet).header.rows → get_or x.0 i 0 ≡ get_or y.0 i 0) → x ≡ y
  same_images x y =
      same_slots (Element (table_in sheet).header) (element_proposition (table_in sheet).header) (table_in sheet).header.rows x y

  product_same : (t u : Codomain (table_in sheet)) → m.codomain.product t u ≡ m'.codomain.product t u
  product_same t u = same_images _ _ (λ i l. m.multiplied t u i l ∙ sym (m'.multiplied t u i l))

  pub map_same : (x : Domain (table_in sheet)) → m.table.map x ≡ m'.table.map x
  map_same x = same_images _ _ (λ i l. m.carried x i l ∙ sym (m'.carried x i l))

  statement_same : m.statement ≡ m'.statement
  statement_same = same_images _ _ (λ i l. ap (λ (xs : List ℕ). get_or xs i 0) (m.stated ∙ sym m'.stated))

  -- so are the simulated commitments
  simulated_same : (c : ℕ) (r : Domain (table_in sheet))
      → simulated_commitment m.table m.statement c r ≡ simulated_commitment m'.table m'.statement c r
  unfolding simulated_commitment
  simulated_same c r =
      product_same _ _
      ∙ ap (λ (t : Codomain (table_in sheet)). m'.codomain.product t (group_power m.codomain m.statement (neg_ℤ (pos c))))
      (map_same r)
      ∙ ap (λ (t : Codomain (table_in sheet)). m'.codomain.product (m'.table.map r) t)
      (power_same m.codomain m'.codomain product_same m.statement (neg_ℤ (pos c))
      ∙ ap (λ (z : Codomain (table_in sheet)). group_power m'.codomain z (neg_ℤ (pos c))) statement_same)

-- ---- two codes

-- an answer of eight values, field by field
computed_same : (a b : Computed) → a.refusal ≡ b.refusal → a.values ≡ b.values → a ≡ b
computed_same a b n v = λ i. record { values = v i; refusal = n i }

module _ {files files' : FileCalls} {code code' : RunCalls} (d : RunDemands files code) (d' : RunDemands files' code')
    (sheet : List ℕ) where
  pub judge_only : (round : Round) → code.judge_round sheet round ≡ code'.judge_round sheet round
  judge_only round =
      refused_or_not (d.refusals.judging sheet round) (d'.refusals.judging sheet round) (λ n l l'. l ∙ ap Refused n ∙ sym l')
      (λ e e' none.
      let loads = (none_append (load_conditions sheet) (judge_conditions (instance_of sheet) round) none).0 in
      let v = (d.protocol sheet (none_loads d.loading sheet loads)).verdicts round e in
      let v' = (d'.protocol sheet (none_loads d'.loading sheet loads)).verdicts round e' in
      ⊎_elim (λ a. a ∙ sym (v'.accepted.1 (v.accepted.0 a)))
      (λ (mask, a). a ∙ sym ((v'.rejected mask).1 ((v.rejected mask).0 a))) v.decided)

  pub simulate_only : (c : ℕ) (r : List ℕ) → code.simulate_commitment sheet c r ≡ code'.simulate_commitment sheet c r
  simulate_only c r =
      refused_or_not (d.refusals.simulating sheet c r) (d'.refusals.simulating sheet c r)
      (λ n l l'. computed_same _ _ n (l ∙ sym l'))
      (λ e e' none.
      let (loads, own) = none_append (load_conditions sheet) (simulate_conditions (instance_of sheet) c r) none in
      let m = d.main_protocol sheet (none_loads d.loading sheet loads) in
      let m' = d'.main_protocol sheet (none_loads d'.loading sheet loads) in
      let below = is_below sheet c own.0 in
      let x = choice sheet r own.1.0 in
      m.simulates c r x.1 below
      ∙ ap (λ (t : Codomain (table_in sheet)). record { refusal = 0; values = pad8 0 t.0 }) (simulated_same m m' c x)
      ∙ sym (m'.simulates c r x.1 below))

  -- 01's formula leaves one value
  value_same : (first second : Round)
      → Extraction (instance_of sheet) (code.extract_witness sheet) first second
      → Extraction (instance_of sheet) (code'.extract_witness sheet) first second
      → code.extract_witness sheet first second ≡ code'.extract_witness sheet first second
  value_same first second x x' =
      let (a, b, bezout) = x.some_integers in
      let same = same_values (Coordinate (instance_of sheet).header) (instance_of sheet).header.columns x.value x'.value
      x.witness.slots x'.witness.slots
      (λ j l. ⊎_elim
      (λ one. x.exponent one a b bezout j l ∙ sym (x'.exponent one a b bezout j l))
      (λ two. x.root two a b bezout j l ∙ sym (x'.root two a b bezout j l))
      (says_decides (says_equal (instance_of sheet).header.kind 1))) in
      x.answer ∙ ap (λ (v : List ℕ). record { refusal = 0; values = pad8 0 v }) same ∙ sym x'.answer

  pub extract_only : (first second : Round) → code.extract_witness sheet first second ≡ code'.extract_witness sheet first second
  extract_only first second =
      refused_or_not (d.refusals.extracting sheet first second) (d'.refusals.extracting sheet first second)
      (λ n l l'. computed_same _ _ n (l ∙ sym l'))
      (λ e e' none.
      let (loads, own) = none_append (load_conditions sheet) (extract_conditions (instance_of sheet) first second) none in
      value_same first second
      ((d.knowledge sheet (none_loads d.loading sheet loads)).extractor first second (accepted_pair d sheet loads first second own))
      ((d'.knowledge sheet (none_loads d'.loading sheet loads)).extractor first second (accepted_pair d' sheet loads first second own)))
