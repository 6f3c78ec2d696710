-- How long the text is at most: 65,536 lines of 11 bytes in kind 2, and 4,096 lines of 46 in kind 1, since K is at most q.
-- Assumes nothing.
use Prim.Native.Nat.{ℕ, zero, suc, ◌+◌, ◌*◌, ◌/◌, ◌%◌, ◌^◌, ◌<◌, ◌≤◌}
use mathlib.Core.Path.{◌≡◌, refl, sym, subst}
use mathlib.Core.Logic.{◌≢◌, inl, inr, ⊎_elim}
use mathlib.Core.List.{List, [], ◌∷◌, ◌++◌, flatten, map}
use native.Mathlib.Nat.{div-lt_iff_lt-mul, mod-lt, mul-le-mul, mul-le-mul_left, pow-succ'}
use native.Mathlib.Omega.{arith}
use lib.ListN.{length, length-append}
use Rattle.lists.specs.Member.{Member}
use Rattle.lists.proofs.Words.{words_short}
use Rattle.encoding.specs.Text.{ascii, decimal}
use Rattle.encoding.proofs.Text.{decimal_length}
use Rattle.numbers.proofs.Search.{find_within}
use Rattle.rules.specs.Order.{sheet_numbers}
use Rattle.rules.proofs.Determined.{either}
use Rattle.formats.specs.Sheet.{instance_of}
use Rattle.formats.proofs.Loads.{loads_valid}
use Rattle.runs.proofs.MarkerRefusal.{member_below}
use Rattle.sigma.specs.Instance.{Instance}
use Rattle.sigma.specs.Valid.{Valid}
use Rattle.sigma.proofs.ByKind.{by_kind, exponent_kind, root_kind}
use Rattle.sigma.proofs.Valid.{valid_challenges, valid_kind}
use Rattle.games.specs.Prints.{shown, shown_line}
use Rattle.games.specs.Refusals.{Refusal31}
use Rattle.games.specs.Slots.{slots_of}
use Rattle.games.specs.Text.{answered, candidate, candidates, first_answer, game_refusal, game_text, is_answered, named_commitment}
use Rattle.games.proofs.Lines.{first_response}
use Rattle.games.proofs.Playing.{game_loads, game_small, one_column, refused_line_law, refuses, text_shown}
use Rattle.games.proofs.Slots.{power_some}
use Rattle.games.proofs.Smallest.{length_candidate}

-- every number of a list is below 10,000
abbrev Short : List ℕ → Type 0
Short [] = Unit {0}
Short (x ∷ xs) = (x < 10000) × Short xs

-- numbers of four digits at most, each with a space before it
numbers_short : (xs : List ℕ) → Short xs → length (flatten (map (λ v. ascii " " ++ decimal v) xs)) ≤ 5 * length xs
unfolding flatten ascii
numbers_short [] short = omega arith
numbers_short (x ∷ xs) (small, short) =
    simp length-append (omega (arith, decimal_length 3 x (omega arith), numbers_short xs short))

-- a line
line_short : (c : ℕ) (xs : List ℕ) → c < 65536 → Short xs → length (shown_line c xs) ≤ 6 + 5 * length xs
unfolding ascii
line_short c xs few short = simp length-append (omega (arith, decimal_length 4 c (omega arith), numbers_short xs short))

-- a text is no longer than its lines, or than `none`
shown_short : (response : ℕ → List ℕ) (cs : List ℕ) (most : ℕ) → 5 ≤ most
    → length (flatten (map (λ c. shown_line c (response c)) cs)) ≤ most → length (shown response cs) ≤ most
unfolding shown ascii
shown_short response [] most enough short = omega arith
shown_short response (c ∷ cs) most enough short = short

-- the slots of a choice up to q^n are at most q
slots_short : (q : ℕ) → 0 < q → q ≤ 4096 → (n k : ℕ) → k ≤ q ^ n → Short (slots_of q n k)
unfolding slots_of
slots_short q some few zero k b = tt
slots_short q some few (suc n) k b =
    let below = mod-lt k (power_some q some n) in
    let more : k < suc q * q ^ n = omega (arith, pow-succ' q n, power_some q some n) in
    let first : k / q ^ n ≤ q = omega (arith, (div-lt_iff_lt-mul (power_some q some n)).1 more) in
    (omega arith, slots_short q some few n (k % q ^ n) (omega arith))

-- q is at most q^n
order_most : (q : ℕ) → 0 < q → (n : ℕ) → 1 ≤ n → q ≤ q ^ n
order_most q some zero one = absurd (omega arith)
order_most q some (suc n) one =
    let more : q * 1 ≤ q * q ^ n = mul-le-mul_left q (power_some q some n) in
    omega (arith, pow-succ' q n)

module _ (inst : Instance) (valid : Valid inst) (small : ¬ Refusal31 inst.header) where
  -- q^n is small in kind 1
  choices_few : inst.header.kind ≡ 1 → inst.header.order ^ inst.header.columns ≤ 4096
  choices_few one =
      let few : ¬ (4096 < inst.header.order ^ inst.header.columns) = λ large. small (inl (one, large)) in omega (arith, few)

  -- and with it q
  order_few : inst.header.kind ≡ 1 → inst.header.order ≤ 4096
  order_few one =
      let some : 0 < inst.header.order = omega (arith, valid.table.order) in
      omega (arith, choices_few one, order_most inst.header.order some inst.header.columns valid.table.some_column)

  -- m is small in kind 2
  modulus_few : inst.header.kind ≢ 1 → inst.header.modulus ≤ 4096
  modulus_few other =
      let few : ¬ (4096 < inst.header.modulus) = λ large. small (inr (valid_kind valid.table other, inl large)) in omega (arith, few)

  -- the numbers of a candidate, and of what stands for none, have four digits at most
  candidate_short : (k : ℕ) → k ≤ candidates inst.header → Short (candidate inst.header k)
  unfolding candidate candidates
  candidate_short k =
      by_kind inst.header
      (λ one. rw (exponent_kind inst.header one) (λ within.
      slots_short inst.header.order (omega (arith, valid.table.order)) (order_few one) inst.header.columns k within))
      (λ other. rw (root_kind inst.header other) (λ within. (omega (arith, modulus_few other), tt)))

  module _ (one : inst.header.kind ≢ 1 → inst.header.columns ≡ 1) (t : List ℕ) where
    -- a line
    answer_short : (c : ℕ) → c < inst.header.challenges → length (shown_line c (first_response inst t c)) ≤ 6 + 5 * inst.header.columns
    unfolding first_answer
    answer_short c below =
        let found : first_answer inst t c ≤ 0 + candidates inst.header = (find_within _ 0 (candidates inst.header)).1 in
        let within : first_answer inst t c ≤ candidates inst.header = omega (arith, found) in
        let line = line_short c (first_response inst t c) (omega (arith, valid.table.few_challenges))
        (candidate_short (first_answer inst t c) within) in
        omega (arith, line, length_candidate inst valid one (first_answer inst t c))

    -- so many lines of that length
    most_short : (6 + 5 * inst.header.columns) * inst.header.challenges ≤ 720896
    most_short =
        by_kind inst.header
        (λ kind.
        let few : inst.header.challenges ≤ 4096 = omega (arith, valid_challenges valid.table, order_few kind) in
        let line : 6 + 5 * inst.header.columns ≤ 46 = omega (arith, valid.table.few_columns) in
        omega (arith, mul-le-mul line few))
        (λ other.
        let line : 6 + 5 * inst.header.columns ≤ 11 = omega (arith, one other) in
        omega (arith, mul-le-mul line valid.table.few_challenges))

    -- all lines
    pub lines_short : length (shown (first_response inst t) (answered inst t)) ≤ 720896
    unfolding answered
    lines_short =
        let words = words_short (λ c. shown_line c (first_response inst t c)) (6 + 5 * inst.header.columns) inst.header.challenges
        (is_answered inst t) answer_short in
        shown_short (first_response inst t) (answered inst t) 720896 (omega arith) (omega (arith, words, most_short))

-- a refusal's line
refused_short : (n : ℕ) → n < 100 → length (ascii "refused " ++ decimal n ++ ascii "\n") ≤ 720896
unfolding ascii
refused_short n small = simp length-append (omega (arith, decimal_length 1 n small))

-- the whole text
pub text_short : (sheet f : List ℕ) → length (game_text sheet f) ≤ 720896
unfolding instance_of sheet_numbers
text_short sheet f =
    either (game_refusal sheet f)
    (λ none.
    subst (λ (text : List ℕ). length text ≤ 720896) (sym (text_shown sheet f none))
    (lines_short (instance_of sheet) (loads_valid sheet (game_loads sheet f none)) (game_small sheet f none) (one_column sheet f none)
    (named_commitment sheet f)))
    (λ some.
    let small : game_refusal sheet f < 100 =
    ⊎_elim (λ (none : game_refusal sheet f ≡ 0). omega arith)
    (λ (member : Member (game_refusal sheet f) (sheet_numbers ++ 12 ∷ 13 ∷ 14 ∷ 31 ∷ [])).
    member_below 100 _ (sheet_numbers ++ 12 ∷ 13 ∷ 14 ∷ 31 ∷ []) tt member)
    (refuses sheet f).among in
    subst (λ (text : List ℕ). length text ≤ 720896) (sym (refused_line_law sheet f _ refl some)) (refused_short (game_refusal sheet f) small))
