-- The first candidate that answers, by the table: in kind 1 the first image that is t · z^c, in kind 2 the smallest root of it.
-- Assumes nothing.
use Prim.Native.Nat.{ℕ, suc, ◌+◌, ◌*◌, ◌/◌, ◌%◌, ◌^◌, ◌<◌, ◌≤◌}
use mathlib.Core.Path.{◌≡◌, sym, ap, ap₂, ◌∙◌}
use mathlib.Core.Bool.{false, not}
use mathlib.Core.Logic.{◌≢◌}
use mathlib.Core.List.{List, []}
use native.Mathlib.Nat.{div-eq_of_lt, mod-eq_of_lt, mod-lt, mul-add-div_right, mul-add-mod_self_right, mul-le-mul, mul-le-mul_right}
use native.Mathlib.Omega.{arith}
use lib.Dec.{eqb}
use lib.ListN.{get_or}
use Rattle.types.specs.declared.Header.{Header}
use Rattle.lists.specs.Places.{pad8}
use Rattle.lists.proofs.Places.{get_d_pad8}
use Rattle.numbers.specs.Search.{any, find}
use Rattle.numbers.proofs.Search.{any_agree, find_agree, find_is, find_none}
use Rattle.rules.proofs.Says.{says_and, says_equal}
use Rattle.sigma.specs.Comparison.{differ, first_difference}
use Rattle.sigma.specs.Image.{image, row_image}
use Rattle.sigma.specs.Instance.{Instance, instance_with, statement_at, table_of}
use Rattle.sigma.specs.Round.{bad_commitment, expected_image}
use Rattle.sigma.specs.Valid.{Valid}
use Rattle.sigma.proofs.Passed.{commitment_passes}
use Rattle.sigma.proofs.Tests.{says_element}
use Rattle.sigma.proofs.Values.{expected_image_at, image_at}
use Rattle.games.specs.Slots.{slots_of}
use Rattle.games.specs.Text.{candidate, candidates, first_answer}
use Rattle.games.proofs.Search.{first_image, first_root}
use Rattle.solver.specs.Match.{first_match, rows_agree}
use Rattle.solver.specs.Prepared.{Images, RootAt, is_root}
use Rattle.solver.specs.Small.{Small}
use Rattle.solver.proofs.Counting.{candidate_exponent, count_exponent, count_few}

-- the place of row i of candidate k
module _ (s : ℕ) (k i : ℕ) (inside : i < s) where
  place_quotient : (k * s + i) / s ≡ k
  place_quotient = mul-add-div_right (omega arith) k i ∙ ap (λ (r : ℕ). k + r) (div-eq_of_lt inside) ∙ omega arith

  place_rest : (k * s + i) % s ≡ i
  place_rest = mul-add-mod_self_right k s i ∙ mod-eq_of_lt inside

  place_below : (count : ℕ) → k < count → k * s + i < count * s
  place_below count below = omega (arith, mul-le-mul_right {m = suc k} {n = count} s below)

-- the images of all candidates have room in the table
pub images_room : (h : Header) → Small h → (count : ℕ) → count ≡ candidates h → count * h.rows ≤ 32768
images_room h small count is_count =
    mul-le-mul {n₁ = count} {m₁ = h.rows} {n₂ = 4096} {m₂ = 8} (omega (arith, is_count, count_few h small)) small.few_rows

-- what is expected in row 0 is below m
pub expected_below : (h : Header) (statement t : List ℕ) (c : ℕ) → Small h → (expected : List ℕ)
    → ((entries : List (List ℕ)) → expected ≡ pad8 0 (expected_image (instance_with h entries statement) t c))
    → get_or expected 0 0 < h.modulus
expected_below h statement t c small expected is_expected =
    let inst = instance_with h [] statement in
    let value : get_or expected 0 0 ≡ get_or t 0 0 * statement_at inst 0 ^ c % h.modulus =
    ap (λ (xs : List ℕ). get_or xs 0 0) (is_expected []) ∙ get_d_pad8 0 (expected_image inst t c) 0
    ∙ expected_image_at inst t c 0 small.some_row in
    omega (arith, value, mod-lt (get_or t 0 0 * statement_at inst 0 ^ c) small.modulus)

module _ (inst : Instance) (small : Small inst.header) (valid : Valid inst) (t : List ℕ) (fine : bad_commitment inst t ≡ false) (c : ℕ)
    (asked : c < inst.header.challenges) (expected : List ℕ) (is_expected : expected ≡ pad8 0 (expected_image inst t c)) where
  -- a row of what is expected
  expected_at : (i : ℕ) → get_or expected i 0 ≡ get_or (expected_image inst t c) i 0
  expected_at i = ap (λ (xs : List ℕ). get_or xs i 0) is_expected ∙ get_d_pad8 0 (expected_image inst t c) i

  -- ---- kind 1

  module _ (kind : inst.header.kind ≡ 1) (table : List ℕ) (images : Images inst.header inst.entries table) where
    -- a value of the table is a row of a candidate's image
    image_row : (k i : ℕ) → k < candidates inst.header → i < inst.header.rows
        → get_or table (k * inst.header.rows + i) 0
        ≡ get_or (image (table_of inst) (slots_of inst.header.order inst.header.columns k)) i 0
    image_row k i below inside =
        let h = inst.header in
        images.each (k * h.rows + i) (place_below h.rows k i inside (candidates h) below)
        ∙ ap₂ (λ (a b : ℕ). row_image (table_of inst) (candidate h a) b) (place_quotient h.rows k i inside)
        (place_rest h.rows k i inside)
        ∙ ap (λ (x : List ℕ). row_image (table_of inst) x i) (candidate_exponent h kind k)
        ∙ sym (image_at (table_of inst) (slots_of h.order h.columns k) i inside)

    -- the first whose image is the expected one is the first that answers
    pub match_answers : first_match table (candidates inst.header) inst.header.rows expected ≡ first_answer inst t c
    unfolding first_match rows_agree differ first_difference any
    match_answers =
        let h = inst.header in
        find_agree _ _ 0 (candidates h) (λ k from inside.
        ap not (any_agree h.rows _ _ (λ i b.
        ap₂ (λ (x y : ℕ). not (eqb x y)) (image_row k i (omega arith) b) (expected_at i))))
        ∙ ap (find _ 0) (count_exponent h kind) ∙ sym (first_image inst valid t ((commitment_passes inst t).0 fine) c asked kind)

  -- ---- kind 2

  module _ (kind : inst.header.kind ≢ 1) (held : ℕ) (at : RootAt inst.header inst.header.modulus (get_or expected 0 0) held) where
    -- the search for a root is the search for an answer
    roots_answer : find (is_root inst.header (get_or expected 0 0)) 0 inst.header.modulus ≡ first_answer inst t c
    unfolding is_root
    roots_answer =
        find_agree _ _ 0 inst.header.modulus (λ r from inside.
        ap (λ (x : ℕ). is_root inst.header x r) (expected_at 0 ∙ expected_image_at inst t c 0 small.some_row))
        ∙ sym (first_root inst valid t ((commitment_passes inst t).0 fine) c asked kind (small.one_row kind) (small.one_column kind))

    -- a root is below m
    pub root_below : held ≢ 0 → held < inst.header.modulus
    unfolding is_root
    root_below some = ((says_and (says_element inst.header held) (says_equal _ (get_or expected 0 0))).sound (at.root some)).0.below

    -- if 0 is held none answers
    pub none_answers : held ≡ 0 → inst.header.modulus ≡ first_answer inst t c
    none_answers e =
        sym ((find_none (is_root inst.header (get_or expected 0 0)) 0 inst.header.modulus).0
        (λ r from inside. at.none e r (omega arith)) ∙ omega arith) ∙ roots_answer

    -- else what is held is the first that does
    pub held_answers : held ≢ 0 → held ≡ first_answer inst t c
    held_answers some =
        sym (find_is _ 0 inst.header.modulus held (omega arith) (omega (arith, root_below some)) (at.root some)
        (λ r from before. at.least some r before)) ∙ roots_answer
