-- Numbers that a kind does not use and lines beyond the count are not read, in checking and in writing.
-- Assumes nothing.
use Prim.Native.Nat.{ℕ, ◌+◌, ◌*◌, ◌%◌, ◌^◌, ◌<◌, ◌≤◌}
use mathlib.Core.Path.{◌≡◌, sym, ap, ap₂, subst, ◌∙◌}
use mathlib.Core.Bool.{Bool}
use mathlib.Core.Logic.{◌⊎◌, ◌≢◌, inl, inr, ⊎_elim}
use mathlib.Core.List.{List, [], ◌∷◌, ◌++◌}
use native.Mathlib.Omega.{arith}
use lib.Dec.{ltb}
use lib.ListN.{get_or}
use Rattle.numbers.specs.Search.{any}
use Rattle.numbers.proofs.Search.{any_agree}
use Rattle.rules.specs.Call.{number_of}
use Rattle.rules.specs.Rule.{◌when◌, lowest}
use Rattle.rules.proofs.Determined.{either}
use Rattle.rules.proofs.Says.{says_iff, says_same}
use Rattle.sigma.specs.Element.{Element}
use Rattle.ledgers.specs.Check.{bad_elements, bad_line_challenge, bad_line_kind, bad_response, base_rules, check_ledger, checking_ledger, not_above}
use Rattle.ledgers.specs.Lines.{line_at}
use Rattle.ledgers.specs.LedgerHolds.{Tells}
use Rattle.ledgers.specs.Meaning.{Commits, ProductLine, RowsHold}
use Rattle.ledgers.specs.Refusals.{BadElements, HighChallenge, HighResponse, HighSlot, NotAbove, product_header}
use Rattle.ledgers.specs.RunsWhere.{RightLine}
use Rattle.ledgers.specs.Used.{SameLedger, SameLine}
use Rattle.ledgers.specs.declared.Base.{Base}
use Rattle.ledgers.specs.declared.Checked.{Checked}
use Rattle.ledgers.specs.declared.Ledger.{Ledger}
use Rattle.ledgers.specs.declared.Line.{Line}
use Rattle.ledgers.proofs.Answers.{check_number}
use Rattle.ledgers.proofs.Checking.{commits, lines, tells}
use Rattle.ledgers.proofs.LedgerRefusals.{ledger_refusals}
use Rattle.ledgers.proofs.Only.{tells_only}
use Rattle.ledgers.proofs.Tests.{says_above, says_challenge, says_elements, says_response}

-- ---- two kinds that are the same

-- one of two kinds over to the other
pub kinds_over : (a b : ℕ) {kind kind' : ℕ} → kind ≡ kind' → (kind ≡ a) ⊎ (kind ≡ b) → (kind' ≡ a) ⊎ (kind' ≡ b)
kinds_over a b same = ⊎_elim (λ k. inl (sym same ∙ k)) (λ k. inr (sym same ∙ k))

-- a number at or above another over to one that is the same
pub high_over : {n x y : ℕ} → x ≡ y → n ≤ x → n ≤ y
high_over {n} same l = subst (λ (k : ℕ). n ≤ k) same l

pub slots_over : (base : Base) (xs ys : List ℕ) → ((j : ℕ) → j < 3 → get_or xs j 0 ≡ get_or ys j 0) → HighSlot base xs → HighSlot base ys
slots_over base xs ys same =
    ⊎_elim (λ l. inl (high_over (same 0 (omega arith)) l))
    (⊎_elim (λ l. inr (inl (high_over (same 1 (omega arith)) l))) (λ l. inr (inr (high_over (same 2 (omega arith)) l))))

-- 36 over to a line or entry that names the same lines
pub above_over : (i : ℕ) {kind kind' first first' second second' : ℕ} → kind ≡ kind'
    → ((kind ≡ 2) ⊎ (kind ≡ 3) → (first ≡ first') × (second ≡ second')) → NotAbove i kind first second → NotAbove i kind' first' second'
above_over i same named (joins, late) =
    let (f, g) = named joins in
    (kinds_over 2 3 same joins, ⊎_elim (λ l. inl (high_over f l)) (λ l. inr (high_over g l)) late)

-- 15 over to a line or entry with the same challenge
pub challenge_over : (base : Base) {kind kind' challenge challenge' : ℕ} → kind ≡ kind' → (kind ≡ 3 → challenge ≡ challenge')
    → HighChallenge base kind challenge → HighChallenge base kind' challenge'
challenge_over base same asked (three, l) = (sym same ∙ three, high_over (asked three) l)

-- ---- lines

same_line_sym : {line line' : Line} → SameLine line line' → SameLine line' line
same_line_sym s = record {
  kind = sym s.kind;
  lines = λ k. let (f, g) = s.lines (kinds_over 2 3 (sym s.kind) k) in (sym f, sym g);
  commitment = λ k. sym (s.commitment (kinds_over 1 3 (sym s.kind) k));
  round = λ k.
      let (t, c, r) = s.round (s.kind ∙ k) in
      (λ j b. sym (t j b), sym c, λ j b. sym (r j b));
}

module _ (base : Base) {line line' : Line} (s : SameLine line line') where
  elements_over : BadElements base line → BadElements base line'
  elements_over (inl (k, n)) =
      inl (kinds_over 1 3 s.kind k, subst (λ (x : ℕ). ¬ Element (product_header base) x) (s.commitment k) n)
  elements_over (inr (three, n)) =
      let (t, c, r) = s.round three in
      inr (
        sym s.kind ∙ three,
        ⊎_elim (λ m. inl (subst (λ (x : ℕ). ¬ Element (product_header base) x) (t 0 (omega arith)) m))
            (λ m. inr (subst (λ (x : ℕ). ¬ Element (product_header base) x) (t 1 (omega arith)) m)) n,
      )

  response_over : HighResponse base line → HighResponse base line'
  response_over (three, high) = (sym s.kind ∙ three, slots_over base line.response line'.response (s.round three).2 high)

  -- the rows of the same product line
  rows_same : line.kind ≡ 3 → (A B E : ℕ) → RowsHold base A B E line → RowsHold base A B E line'
  rows_same three A B E (x, y) =
      let (t, c, r) = s.round three in
      let r0 = r 0 (omega arith) in
      let r1 = r 1 (omega arith) in
      let r2 = r 2 (omega arith) in
      let t0 = t 0 (omega arith) in
      let t1 = t 1 (omega arith) in (
        sym (ap₂ (λ (k l : ℕ). base.g ^ k * base.h ^ l % base.modulus) r0 r1) ∙ x
            ∙ ap₂ (λ (k l : ℕ). k * A ^ l % base.modulus) t0 c,
        sym (ap₂ (λ (k l : ℕ). B ^ k * base.h ^ l % base.modulus) r0 r2) ∙ y
            ∙ ap₂ (λ (k l : ℕ). k * E ^ l % base.modulus) t1 c,
      )

-- a test of the lines of two ledgers
pub any_same : (n n' : ℕ) (p p' : ℕ → Bool) → n ≡ n' → ((i : ℕ) → i < n → p i ≡ p' i) → any n p ≡ any n' p'
any_same n n' p p' count same = any_agree n p p' same ∙ ap (λ (k : ℕ). any k p') count

module _ (base : Base) {ledger ledger' : Ledger} (s : SameLedger ledger ledger') where
  -- the refusals are the same
  pub rules_same : number_of (checking_ledger base ledger) ≡ number_of (checking_ledger base ledger')
  unfolding number_of checking_ledger
  rules_same =
      let same = any_same ledger.count ledger'.count in
      let kinds = same _ _ s.count (λ i b. ap bad_line_kind (s.lines i b).kind) in
      let names = same (λ i. not_above i (line_at ledger i).kind (line_at ledger i).first (line_at ledger i).second)
      (λ i. not_above i (line_at ledger' i).kind (line_at ledger' i).first (line_at ledger' i).second) s.count (λ i b.
      let l = s.lines i b in
      let l' = same_line_sym l in
      says_same (says_above i _ _ _) (says_iff (says_above i _ _ _) (above_over i l'.kind l'.lines, above_over i l.kind l.lines))) in
      let elements = same (λ i. bad_elements base (line_at ledger i)) (λ i. bad_elements base (line_at ledger' i)) s.count (λ i b.
      let l = s.lines i b in
      says_same (says_elements base _) (says_iff (says_elements base _) (elements_over base (same_line_sym l), elements_over base l))) in
      let challenges = same (λ i. bad_line_challenge base (line_at ledger i).kind (line_at ledger i).challenge)
      (λ i. bad_line_challenge base (line_at ledger' i).kind (line_at ledger' i).challenge) s.count (λ i b.
      let l = s.lines i b in
      let l' = same_line_sym l in
      says_same (says_challenge base _ _)
      (says_iff (says_challenge base _ _)
      (challenge_over base l'.kind (λ k. (l'.round k).1), challenge_over base l.kind (λ k. (l.round k).1)))) in
      let responses = same (λ i. bad_response base (line_at ledger i)) (λ i. bad_response base (line_at ledger' i)) s.count (λ i b.
      let l = s.lines i b in
      says_same (says_response base _) (says_iff (says_response base _) (response_over base (same_line_sym l), response_over base l))) in
      λ j. lowest
      (base_rules base ++
      (37 when ltb 64 (s.count j)) ∷ (35 when kinds j) ∷ (36 when names j) ∷ (14 when elements j) ∷ (15 when challenges j) ∷
      (16 when responses j) ∷ [])

-- ---- ledgers

same_ledger_sym : {ledger ledger' : Ledger} → SameLedger ledger ledger' → SameLedger ledger' ledger
same_ledger_sym s = record {
  count = sym s.count;
  lines = λ i inside. same_line_sym (s.lines i (subst (λ (n : ℕ). i < n) (sym s.count) inside));
}

-- a product line of one is one of the other
product_same : {ledger ledger' : Ledger} → SameLedger ledger ledger' → (C : ℕ → ℕ) (i A B E : ℕ) → ProductLine ledger C i A B E
    → ProductLine ledger' C i A B E
product_same s C i A B E p =
    let l = same_line_sym (s.lines i p.inside) in
    let three = l.kind ∙ p.kind in
    let (f, g) = l.lines (inr three) in
    record {
      inside = subst (λ (n : ℕ). i < n) s.count p.inside;
      kind = three;
      first = ap C f ∙ p.first;
      second = ap C g ∙ p.second;
      own = l.commitment (inr three) ∙ p.own;
    }

module _ (base : Base) {ledger ledger' : Ledger} (s : SameLedger ledger ledger') where
  -- commitments of the lines of one are those of the other
  pub commits_over : ((i : ℕ) → i < ledger.count → RightLine base i (line_at ledger i)) → (C : ℕ → ℕ) → Commits base ledger C
      → Commits base ledger' C
  commits_over right C c = record {
    stored = λ i inside other.
        let here = subst (λ (n : ℕ). i < n) (sym s.count) inside in
        let l = s.lines i here in
        let single : (line_at ledger i).kind ≢ 2 = λ two. other (sym l.kind ∙ two) in
        c.stored i here single ∙ l.commitment (stores i (right i here) single);
    multiplied = λ i inside two.
        let here = subst (λ (n : ℕ). i < n) (sym s.count) inside in
        let l = s.lines i here in
        let (f, g) = l.lines (inl (l.kind ∙ two)) in
        c.multiplied i here (l.kind ∙ two) ∙ ap₂ (λ (x y : ℕ). C x * C y % base.modulus) f g;
  }
    where
      stores : (i : ℕ) → RightLine base i (line_at ledger i) → (line_at ledger i).kind ≢ 2
          → ((line_at ledger i).kind ≡ 1) ⊎ ((line_at ledger i).kind ≡ 3)
      stores i (inl (one, c)) single = inl one
      stores i (inr (inl (two, first, second))) single = absurd (single two)
      stores i (inr (inr p)) single = inr p.0

  -- what is told of one is told of the other
  pub tells_over : (C : ℕ → ℕ) (told : Checked) → Tells base ledger C told → Tells base ledger' C told
  tells_over C told =
      let over = product_same s C in
      let back = product_same (same_ledger_sym s) C in
      let hold : (i A B E : ℕ) → ProductLine ledger' C i A B E → RowsHold base A B E (line_at ledger i)
      → RowsHold base A B E (line_at ledger' i) =
      λ i A B E p holds. let q = back i A B E p in rows_same base (s.lines i q.inside) q.kind A B E holds in
      ⊎_elim (λ (is, all). inl (is, λ i A B E p. hold i A B E p (all i A B E (back i A B E p))))
      (λ (k, is, (A, B, E, p, fails), before). inr (
        k,
        is,
        (
          A,
          B,
          E,
          over k A B E p,
          λ holds. fails (rows_same base (same_line_sym (s.lines k p.inside)) (over k A B E p).kind A B E holds),
        ),
        λ i A' B' E' early p'. hold i A' B' E' p' (before i A' B' E' early (back i A' B' E' p')),
      ))
