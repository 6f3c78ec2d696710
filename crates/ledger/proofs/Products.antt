-- The product statement of a line, of its parts, and of an array that keeps the commitments of the lines above.
-- Assumes nothing.
use Prim.Native.Nat.{ℕ, ◌+◌, ◌*◌, ◌%◌, ◌<◌, ◌≤◌}
use mathlib.Core.Path.{◌≡◌, refl, sym, ap, ap₂, subst, ◌∙◌}
use mathlib.Core.Bool.{cond, not}
use mathlib.Core.Logic.{◌⊎◌, inr}
use mathlib.Core.List.{List, [], ◌∷◌}
use native.Mathlib.Numerals.{add-one}
use native.Mathlib.Omega.{arith}
use borrow.Author.Tests.{eq-eqb}
use lib.Dec.{eqb}
use lib.ListN.{get_or, replicate, set}
use Rattle.lists.specs.Places.{items_at, pad8, places, tabulate}
use Rattle.patterns.specs.Pattern.{header_for, made_for}
use Rattle.patterns.specs.Table.{kind_of, made, pattern_of, patterns}
use Rattle.sigma.specs.Instance.{instance_with}
use Rattle.sigma.specs.Judge.{judging, judge_loaded}
use Rattle.sigma.specs.Reads.{round_of}
use Rattle.sigma.specs.Valid.{Valid}
use Rattle.sigma.specs.Answer.{is_accepted}
use Rattle.types.specs.declared.Header.{Header}
use Rattle.types.specs.declared.Verdict.{Verdict}
use Rattle.ledger_lines.proofs.Kept.{Kept, kept_start, kept_turn}
use Rattle.ledgers.specs.Check.{check_ledger, rejects_line}
use Rattle.ledgers.specs.Ledger.{commitments, line_commitment, line_instance, line_round, product_of}
use Rattle.ledgers.specs.Lines.{line_at}
use Rattle.ledgers.specs.Refusals.{product_header}
use Rattle.ledgers.specs.declared.Base.{Base}
use Rattle.ledgers.specs.declared.Ledger.{Ledger}
use Rattle.ledgers.specs.declared.Line.{Line}
use Rattle.ledgers.proofs.Checking.{commits, line_valid, lines}
use Rattle.ledgers.proofs.Commitments.{commitment_of, found_at, length_commitments, names_above}
use Rattle.ledgers.proofs.RunsWhere.{checks_where}

-- it is its fixed fields, its entries and the two commitments in eight places
pub statement_is : (base : Base) (A B E : ℕ) (h : Header) (entries : List (List ℕ))
    → h ≡ product_header base → entries ≡ (product_of base A B E).entries
    → instance_with h entries (A ∷ E ∷ 0 ∷ 0 ∷ 0 ∷ 0 ∷ 0 ∷ 0 ∷ []) ≡ product_of base A B E
unfolding product_of made made_for header_for kind_of pattern_of patterns pad8
statement_is base A B E h entries fields table = rw (fields, table)

-- judging a round reads two places of t and three of r
pub judged_alike : (base : Base) (A B E : ℕ) (t : List ℕ) (c : ℕ) (r xs ys : List ℕ)
    → judge_loaded (product_of base A B E) (round_of (get_or t 0 0 ∷ get_or t 1 0 ∷ xs) c (get_or r 0 0 ∷ get_or r 1 0 ∷ get_or r 2 0 ∷ ys))
    ≡ judge_loaded (product_of base A B E) (round_of t c r)
unfolding judge_loaded judging places tabulate items_at product_of made made_for header_for kind_of pattern_of patterns
judged_alike base A B E t c r xs ys = refl

-- a product line is rejected if the verdict on its round is not accepted
pub rejected_by : (base : Base) (above : List ℕ) (line : Line) (v : Verdict) → line.kind ≡ 3
    → v ≡ judge_loaded (product_of base (get_or above line.first 0) (get_or above line.second 0) line.commitment) (line_round line)
    → not (is_accepted v) ≡ rejects_line base above line
unfolding rejects_line line_instance
rejected_by base above line v three judged = rw (eq-eqb line.kind 3 three) (ap (λ (w : Verdict). not (is_accepted w)) judged)

-- ---- an array that keeps the commitments

-- the array keeps a list of commitments
abbrev pub Keeps : List ℕ → List ℕ → Type 0
Keeps array xs = Kept 0 0 (λ (x : ℕ). x) array xs

module _ (array xs : List ℕ) (kept : Keeps array xs) where
  -- a line has the same commitment
  pub commitment_kept : (m : ℕ) (line : Line) → line_commitment m array line ≡ line_commitment m xs line
  unfolding line_commitment
  commitment_kept m line =
      ap₂ (λ (a b : ℕ). cond (eqb line.kind 2) (a * b % m) line.commitment) (kept.read line.first) (kept.read line.second)

  -- the same statement
  pub instance_kept : (base : Base) (line : Line) → line_instance base array line ≡ line_instance base xs line
  unfolding line_instance
  instance_kept base line =
      ap₂ (λ (a b : ℕ). product_of base a b line.commitment) (kept.read line.first) (kept.read line.second)

  -- and is rejected alike
  pub rejects_kept : (base : Base) (line : Line) → rejects_line base array line ≡ rejects_line base xs line
  unfolding rejects_line
  rejects_kept base line = rw (instance_kept base line)

-- before the first line
pub keeps_start : (m : ℕ) (ledger : Ledger) → Keeps (replicate 64 0) (commitments m ledger 0)
unfolding commitments
keeps_start m ledger = kept_start 0 0 (λ (x : ℕ). x) refl

-- a line more
pub keeps_turn : (m : ℕ) (ledger : Ledger) (i : ℕ) (array : List ℕ) (value : ℕ) → Keeps array (commitments m ledger i) → i < 64
    → value ≡ line_commitment m array (line_at ledger i) → Keeps (set array i value) (commitments m ledger (i + 1))
unfolding commitments
keeps_turn m ledger i array value kept inside is =
    rw (add-one i)
    (kept_turn 0 0 (λ (x : ℕ). x) array (commitments m ledger i) i kept (length_commitments m ledger i) inside _ value
    (is ∙ commitment_kept array (commitments m ledger i) kept m (line_at ledger i)))

-- ---- lines of a ledger that is not refused

module _ (base : Base) (ledger : Ledger) (none : (check_ledger base ledger).refusal ≡ 0) where
  -- there are at most 64
  pub few_lines : ledger.count ≤ 64
  few_lines = ((checks_where base ledger).0 none).1

  module _ (i : ℕ) (inside : i < ledger.count) where
    -- the lines that one names are inside the array
    pub named_inside : ((line_at ledger i).kind ≡ 2) ⊎ ((line_at ledger i).kind ≡ 3)
        → ((line_at ledger i).first < 64) × ((line_at ledger i).second < 64)
    named_inside joins =
        let (first, second) = names_above base i (line_at ledger i) (lines base ledger none i inside) joins in
        let few = few_lines in
        (omega (arith, first, few, inside), omega (arith, second, few, inside))

    -- the statement of a product line is Valid
    statement_valid : (line_at ledger i).kind ≡ 3 → Valid (line_instance base (commitments base.modulus ledger i) (line_at ledger i))
    unfolding line_instance
    statement_valid three =
        let m = base.modulus in
        let (first, second) = names_above base i (line_at ledger i) (lines base ledger none i inside) (inr three) in
        line_valid base ledger none (commitment_of m ledger) (commits base ledger none) i _ _ _ (record {
          inside = inside;
          kind = three;
          first = sym (found_at m ledger i _ first);
          second = sym (found_at m ledger i _ second);
          own = refl;
        })

    -- so it can be judged over the array
    pub judging_ready : (array : List ℕ) → Keeps array (commitments base.modulus ledger i) → (line_at ledger i).kind ≡ 3
        → ((line_at ledger i).first < 64) × ((line_at ledger i).second < 64) × Valid (line_instance base array (line_at ledger i))
    judging_ready array kept three =
        let (first, second) = named_inside (inr three) in
        (first, second, subst Valid (sym (instance_kept array _ kept base (line_at ledger i))) (statement_valid three))
