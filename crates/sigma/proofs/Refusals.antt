-- Each list of rules tests 01's conditions, so that the number it gives is that of the first condition that holds.
-- Assumes nothing.
use Prim.Native.Nat.{ℕ, ◌<◌}
use mathlib.Core.Path.{◌≡◌, refl, sym, subst, ◌∙◌}
use mathlib.Core.Logic.{◌↔◌, ◌≢◌}
use mathlib.Core.List.{List}
use lib.ListN.{get_or}
use Rattle.types.specs.declared.Header.{Header}
use Rattle.types.specs.declared.Round.{Round}
use Rattle.lists.specs.Places.{places}
use Rattle.lists.proofs.Places.{get_d_places, tabulate_agree}
use Rattle.rules.specs.Condition.{Tests}
use Rattle.rules.specs.Says.{Says}
use Rattle.rules.proofs.Says.{says_equal, says_or, says_not, says_iff}
use Rattle.sigma.specs.Admission.{header_rules, element_rules}
use Rattle.sigma.specs.Answer.{is_accepted}
use Rattle.sigma.specs.Comparison.{differ}
use Rattle.sigma.specs.Element.{Element, Coordinate}
use Rattle.sigma.specs.Extractor.{extracting}
use Rattle.sigma.specs.Image.{row_image, image}
use Rattle.sigma.specs.Instance.{Instance, Table, table_of, statement_at}
use Rattle.sigma.specs.Judge.{judging}
use Rattle.sigma.specs.Meaning.{Holds}
use Rattle.sigma.specs.Reads.{Differ}
use Rattle.sigma.specs.Refusals.{Refusal14, Refusal16}
use Rattle.sigma.specs.Refusals.{header_conditions, element_conditions, judge_conditions, simulate_conditions, extract_conditions}
use Rattle.sigma.specs.Round.{bad_commitment, bad_coordinates, bad_witness, verdict}
use Rattle.sigma.specs.Simulator.{simulating}
use Rattle.sigma.specs.Valid.{Valid, ValidTable}
use Rattle.sigma.proofs.Comparison.{says_differ}
use Rattle.sigma.proofs.Tests.{says_bad_kind, says_bad_modulus, says_bad_order, says_bad_size, says_bad_count}
use Rattle.sigma.proofs.Tests.{says_bad_entries, says_bad_statement}
use Rattle.sigma.proofs.Tests.{says_bad_commitment, says_bad_challenge, says_bad_coordinates, says_bad_witness, says_accepted}
use Rattle.sigma.proofs.Unread.{row_image_agree, same_round_of_read, same_round_sym, holds_same}
use Rattle.sigma.proofs.Verdict.{verdict_accepted}

-- 4 to 8
pub header_tests : (h : Header) → Tests (header_rules h) (header_conditions h)
unfolding header_rules
header_tests h =
    (refl, says_bad_kind h, (refl, says_bad_modulus h, (refl, says_bad_order h, (refl, says_bad_size h, (refl, says_bad_count h, tt)))))

-- 10 and 11
pub element_tests : (i : Instance) → Tests (element_rules i) (element_conditions i)
unfolding element_rules
element_tests i = (refl, says_bad_entries i, (refl, says_bad_statement i, tt))

-- ---- what a call brings: the tests read its first places, and so do the conditions

-- some value among the first n places is not such exactly where some value of the array's first n is not
some_read : (P : ℕ → Type 0) (n : ℕ) (xs : List ℕ)
    → ((j : ℕ) × (j < n) × (¬ P (get_or (places n xs) j 0))) ↔ ((j : ℕ) × (j < n) × (¬ P (get_or xs j 0)))
some_read P n xs = (
  λ (j, h, fails). (j, h, subst (λ (v : ℕ). ¬ P v) (get_d_places n xs j h) fails),
  λ (j, h, fails). (j, h, subst (λ (v : ℕ). ¬ P v) (sym (get_d_places n xs j h)) fails),
)

module _ (i : Instance) where
  -- 14
  pub commitment_read : (t : List ℕ) → Says (bad_commitment i (places i.header.rows t)) (Refusal14 i t)
  commitment_read t = says_iff (says_bad_commitment i _) (some_read (Element i.header) i.header.rows t)

  -- 16
  pub coordinates_read : (x : List ℕ) → Says (bad_coordinates i (places i.header.columns x)) (Refusal16 i x)
  coordinates_read x = says_iff (says_bad_coordinates i _) (some_read (Coordinate i.header) i.header.columns x)

  -- 18
  pub commitments_read : (t t' : List ℕ)
      → Says (differ i.header.rows (places i.header.rows t) (places i.header.rows t')) (Differ i.header.rows t t')
  commitments_read t t' =
      let s = i.header.rows in
      says_iff (says_differ s _ _) (
        λ (j, h, fails). (j, h, λ e. fails (get_d_places s t j h ∙ e ∙ sym (get_d_places s t' j h))),
        λ (j, h, fails). (j, h, λ e. fails (sym (get_d_places s t j h) ∙ e ∙ get_d_places s t' j h)),
      )

-- the image of what is read of x is the image of x
pub image_read : {table : Table} → ValidTable table → (x : List ℕ)
    → image table (places table.header.columns x) ≡ image table x
unfolding image
image_read {table} v x =
    let n = table.header.columns in
    tabulate_agree table.header.rows _ _ (row_image_agree v (places n x) x (get_d_places n x))

-- 17
pub witness_read : {i : Instance} → Valid i → (x : List ℕ)
    → Says (bad_witness i (places i.header.columns x))
    ((r : ℕ) × (r < i.header.rows) × (row_image (table_of i) x r ≢ statement_at i r))
unfolding bad_witness
witness_read {i} v x = rw (image_read v.table x) (says_bad_witness i x)

-- a round is accepted exactly when the two sides of every row agree
pub holds_read : {i : Instance} → Valid i → (round : Round)
    → Says (is_accepted (verdict i (places i.header.rows round.commitment) round.challenge
    (places i.header.columns round.response))) (Holds i round)
holds_read {i} v round =
    let same = same_round_of_read i.header round in
    says_iff (says_iff (says_accepted _) (verdict_accepted i _ round.challenge _))
    (holds_same i same v, holds_same i (same_round_sym same) v)

-- ---- the calls

-- 14 to 16 of a round
pub judge_tests : (i : Instance) (round : Round)
    → Tests (judging i round).refusals (judge_conditions i round)
unfolding judging
judge_tests i round =
    (refl, commitment_read i _, (refl, says_bad_challenge i _, (refl, coordinates_read i _, tt)))

-- 15 and 16
pub simulate_tests : (i : Instance) (c : ℕ) (r : List ℕ)
    → Tests (simulating i c r).refusals (simulate_conditions i c r)
unfolding simulating
simulate_tests i c r = (refl, says_bad_challenge i c, (refl, coordinates_read i r, tt))

-- 14 to 16 of both rounds, then 18 to 20
pub extract_tests : {i : Instance} → Valid i → (first second : Round)
    → Tests (extracting i first second).refusals (extract_conditions i first second)
unfolding extracting
extract_tests {i} v first second = (
  refl,
  says_or (commitment_read i first.commitment) (commitment_read i second.commitment),
  (
    refl,
    says_or (says_bad_challenge i first.challenge) (says_bad_challenge i second.challenge),
    (
      refl,
      says_or (coordinates_read i first.response) (coordinates_read i second.response),
      (
        refl,
        commitments_read i first.commitment second.commitment,
        (
          refl,
          says_equal first.challenge second.challenge,
          (refl, says_or (says_not (holds_read v first)) (says_not (holds_read v second)), tt),
        ),
      ),
    ),
  ),
)
