-- What each test says: it is true exactly when 01's condition, written with order, equality and divisibility, holds.
-- Assumes nothing.
use Prim.Native.Nat.{ℕ, ◌-◌, ◌%◌, ◌<◌, ◌≤◌, ◌∣◌}
use mathlib.Core.Path.{◌≡◌, refl, sym, ◌∙◌}
use mathlib.Core.Logic.{◌≢◌, ◌⊎◌}
use mathlib.Core.Bool.{Bool, true, false, cond, or_assoc, false≢true}
use mathlib.Core.List.{List}
use native.Mathlib.Decide.{dec_lt}
use native.Mathlib.Omega.{arith}
use lib.Dec.{eqb, ltb}
use lib.ListN.{get_or}
use borrow.Author.Tests.{ltb-true, lt-ltb}
use Rattle.types.specs.declared.Header.{Header}
use Rattle.types.specs.declared.Verdict.{Verdict}
use Rattle.types.specs.declared.Verdict.TheVariants.{Accepted, Rejected, Refused}
use Rattle.numbers.specs.Search.{find}
use Rattle.numbers.proofs.Search.{find_within, find_holds, find_first}
use Rattle.rules.specs.Says.{Says}
use Rattle.rules.proofs.Says.{says_less, says_at_most, says_equal, says_or, says_and, says_not, says_iff, says_false}
use Rattle.sigma.specs.Instance.{Instance, table_of, is_exponent, entry, statement_at}
use Rattle.sigma.specs.Element.{is_element, some_non_element, is_coordinate, some_non_coordinate, Element, Coordinate}
use Rattle.sigma.specs.Admission.{first_divisor, bad_kind, bad_modulus, bad_order, bad_size, bad_count, bad_entries, bad_statement}
use Rattle.sigma.specs.Image.{row_image, image}
use Rattle.sigma.specs.Round.{bad_commitment, bad_challenge, bad_coordinates, bad_witness}
use Rattle.sigma.specs.Answer.{is_accepted}
use Rattle.sigma.specs.Refusals.{Refusal5, Refusal6, Refusal8, Refusal10, Refusal11}
use Rattle.sigma.specs.Refusals.{SomeNonElement, Refusal14, Refusal15, Refusal16}
use Rattle.sigma.proofs.Calculus.{says_any, says_divides}
use Rattle.sigma.proofs.Comparison.{says_differ}
use Rattle.sigma.proofs.Values.{image_at}

-- ---- group elements and coordinates

-- the test of the kind
pub says_exponent : (h : Header) → Says (is_exponent h) (h.kind ≡ 1)
unfolding is_exponent
says_exponent h = says_equal h.kind 1

-- a test that the kind chooses
pub says_kind : (h : Header) {p q : Bool} {P Q : Type 0} → Says p P → Says q Q
    → Says (cond (is_exponent h) p q) ((h.kind ≡ 1 → P) × (h.kind ≢ 1 → Q))
says_kind h {p} {q} {P} {Q} s t = choose (is_exponent h) (says_exponent h)
  where
    choose : (b : Bool) → Says b (h.kind ≡ 1) → Says (cond b p q) ((h.kind ≡ 1 → P) × (h.kind ≢ 1 → Q))
    choose true k = says_iff s (λ x. (λ e. x, λ n. absurd (n (k.sound refl))), λ f. f.0 (k.sound refl))
    choose false k =
        let other : h.kind ≢ 1 = (says_false k).0 refl in
        says_iff t (λ y. (λ e. absurd (other e), λ n. y), λ f. f.1 other)

-- the test of a group element
pub says_element : (h : Header) (v : ℕ) → Says (is_element h v) (Element h v)
unfolding is_element
says_element h v =
    says_iff
    (says_and (says_and (says_at_most 1 v) (says_less v h.modulus)) (says_kind h (says_equal _ 1) (says_equal _ 1))) (
      λ x. record { positive = x.0.0; below = x.0.1; ordered = x.1.0; coprime = x.1.1 },
      λ e. ((e.positive, e.below), (e.ordered, e.coprime)),
    )

-- the test of a coordinate
pub says_coordinate : (h : Header) (x : ℕ) → Says (is_coordinate h x) (Coordinate h x)
unfolding is_coordinate
says_coordinate h x =
    says_iff (says_kind h (says_less x h.order) (says_element h x))
    (λ f. record { reduced = f.0; element = f.1 }, λ c. (c.reduced, c.element))

-- ---- the fixed fields (4 to 8)

-- 4: the kind is neither 1 nor 2
pub says_bad_kind : (h : Header) → Says (bad_kind h) (¬ ((h.kind ≡ 1) ⊎ (h.kind ≡ 2)))
unfolding bad_kind
says_bad_kind h = says_not (says_or (says_equal h.kind 1) (says_equal h.kind 2))

-- 5: the modulus is below 3
pub says_bad_modulus : (h : Header) → Says (bad_modulus h) (Refusal5 h)
unfolding bad_modulus
says_bad_modulus h = says_less h.modulus 3

-- 6: ℓ is below 2
pub says_bad_order : (h : Header) → Says (bad_order h) (Refusal6 h)
unfolding bad_order
says_bad_order h = says_less h.order 2

-- 7: rows or columns lie outside 1 to 8, or differ in kind 2
pub says_bad_size : (h : Header)
    → Says (bad_size h)
    ((h.rows < 1) ⊎ (8 < h.rows) ⊎ (h.columns < 1) ⊎ (8 < h.columns) ⊎ ((h.kind ≡ 2) × (h.rows ≢ h.columns)))
unfolding bad_size
says_bad_size h =
    simp or_assoc
    (says_or (says_less h.rows 1)
    (says_or (says_less 8 h.rows)
    (says_or (says_less h.columns 1)
    (says_or (says_less 8 h.columns) (says_and (says_equal h.kind 2) (says_not (says_equal h.rows h.columns)))))))

-- the search for a divisor ends below K exactly when some d with 2 ≤ d < K divides ℓ
pub says_divisor : (order challenges : ℕ)
    → Says (ltb (first_divisor order challenges) challenges) ((d : ℕ) × (2 ≤ d) × (d < challenges) × (d ∣ order))
unfolding first_divisor
says_divisor order challenges = record { sound = found; complete = met }
  where
    divides : ℕ → Bool
    divides d = eqb (order % d) 0

    found : ltb (find divides 2 (challenges - 2)) challenges ≡ true → (d : ℕ) × (2 ≤ d) × (d < challenges) × (d ∣ order)
    found e =
        let low = (find_within divides 2 (challenges - 2)).0 in
        let below = ltb-true _ _ e in
        (find divides 2 (challenges - 2), low, below, (says_divides _ order).sound (find_holds divides 2 (challenges - 2) (omega arith)))

    met : (d : ℕ) × (2 ≤ d) × (d < challenges) × (d ∣ order) → ltb (find divides 2 (challenges - 2)) challenges ≡ true
    met (d, low, below, whole) = elim (dec_lt (find divides 2 (challenges - 2)) challenges) [
      | yes within ↦ lt-ltb _ _ within
      | no beyond ↦
          let passed = find_first divides 2 (challenges - 2) d low (omega arith) in
          absurd (false≢true (sym passed ∙ (says_divides d order).complete whole))
    ]

-- 8: K is below 2 or above 65,536, or some d with 2 ≤ d < K divides ℓ
pub says_bad_count : (h : Header) → Says (bad_count h) (Refusal8 h)
unfolding bad_count
says_bad_count h =
    simp or_assoc
    (says_or (says_less h.challenges 2) (says_or (says_less 65536 h.challenges) (says_divisor h.order h.challenges)))

-- ---- the entries and the statement (10 and 11)

-- 10: in kind 1 some entry is no group element
pub says_bad_entries : (i : Instance) → Says (bad_entries i) (Refusal10 i)
unfolding bad_entries
says_bad_entries i =
    says_and (says_exponent i.header)
    (says_iff (says_any _ _ _ (λ r. says_any _ _ _ (λ c. says_not (says_element i.header (entry (table_of i) r c))))) (
      λ (r, low, (c, low', fails)). (r, c, low, low', fails),
      λ (r, c, low, low', fails). (r, low, (c, low', fails)),
    ))

-- some value among the first n is no group element
pub says_some_non_element : (h : Header) (n : ℕ) (vs : List ℕ)
    → Says (some_non_element h n vs) (SomeNonElement h n vs)
unfolding some_non_element
says_some_non_element h n vs = says_any _ _ _ (λ i. says_not (says_element h (get_or vs i 0)))

-- 11: some statement value is no group element
pub says_bad_statement : (i : Instance) → Says (bad_statement i) (Refusal11 i)
unfolding bad_statement
says_bad_statement i = says_some_non_element i.header i.header.rows i.statement

-- ---- what a call brings (14 to 17) and the extractor's verdicts (20)

-- 14: some value of a commitment is no group element
pub says_bad_commitment : (i : Instance) (t : List ℕ) → Says (bad_commitment i t) (Refusal14 i t)
unfolding bad_commitment
says_bad_commitment i t = says_some_non_element i.header i.header.rows t

-- 15: the challenge is K or more
pub says_bad_challenge : (i : Instance) (c : ℕ) → Says (bad_challenge i c) (Refusal15 i c)
unfolding bad_challenge
says_bad_challenge i c = says_at_most i.header.challenges c

-- 16: some slot is no coordinate of the domain
pub says_bad_coordinates : (i : Instance) (x : List ℕ) → Says (bad_coordinates i x) (Refusal16 i x)
unfolding bad_coordinates some_non_coordinate
says_bad_coordinates i x = says_any _ _ _ (λ j. says_not (says_coordinate i.header (get_or x j 0)))

-- 17: some row of the witness's image is not the statement's value
pub says_bad_witness : (i : Instance) (x : List ℕ)
    → Says (bad_witness i x) ((r : ℕ) × (r < i.header.rows) × (row_image (table_of i) x r ≢ statement_at i r))
unfolding bad_witness statement_at
says_bad_witness i x =
    says_iff (says_differ i.header.rows (image (table_of i) x) i.statement)
    (λ (r, h, n). (r, h, λ e. n (image_at (table_of i) x r h ∙ e)), λ (r, h, n). (r, h, λ e. n (sym (image_at (table_of i) x r h) ∙ e)))

-- the test of a verdict
pub says_accepted : (v : Verdict) → Says (is_accepted v) (v ≡ Accepted)
unfolding is_accepted
says_accepted Accepted = record { sound = λ e. refl; complete = λ e. refl }
says_accepted (Rejected row) = record { sound = λ e. absurd (false≢true e); complete = λ e. cc }
says_accepted (Refused number) = record { sound = λ e. absurd (false≢true e); complete = λ e. cc }
