-- Comparing two commitments by bytes (02, card 5): the refusals, and that equal bytes are equal parts and equal values.
-- Assumes nothing.
use Prim.Native.Nat.{ℕ, zero, suc, ◌+◌, ◌*◌, ◌<◌}
use mathlib.Core.Path.{◌≡◌, refl, sym, ap, ◌∙◌}
use mathlib.Core.Bool.{Bool, true, false, cond, false≢true}
use mathlib.Core.Logic.Iff
use mathlib.Core.Logic.{◌↔◌, ◌⊎◌, inl, inr}
use mathlib.Core.List.{List}
use native.Mathlib.Omega.{arith}
use lib.Dec.{leb}
use lib.ListN.{get_or, drop}
use lib.Seq.{get_or-drop, get_or-take}
use Rattle.types.specs.declared.Fetched.{Fetched}
use Rattle.types.specs.declared.Header.{Header}
use Rattle.formats.specs.declared.Compared.{Compared}
use Rattle.encoding.specs.Bytes.{AllBytes, number_at}
use Rattle.encoding.proofs.Words.{words_bytes}
use Rattle.lists.proofs.Places.{get_d_tabulate}
use Rattle.rules.specs.Answer.{unless_refused}
use Rattle.rules.specs.Call.{number_of}
use Rattle.rules.specs.Condition.{Tests}
use Rattle.rules.specs.Order.{is_sublist, refusal_order, sheet_numbers}
use Rattle.rules.specs.Refuses.{condition_numbers}
use Rattle.rules.proofs.Call.{answer_number, answer_read, answer_value}
use Rattle.rules.proofs.Refuses.{refuses_call}
use Rattle.rules.proofs.Says.{says_at_most, says_or}
use Rattle.sigma.specs.Comparison.{differ}
use Rattle.sigma.specs.Reads.{Agree}
use Rattle.rules.proofs.Answer.{unless_refused_positive, unless_refused_zero}
use Rattle.sigma.proofs.Calculus.{both_fail}
use Rattle.sigma.proofs.Comparison.{differ_false}
use Rattle.formats.specs.Load.{on_sheet}
use Rattle.formats.specs.Ours.{file_calls}
use Rattle.formats.specs.Refusals.{same_conditions}
use Rattle.formats.specs.RoundCalls.{check_round, checking, fetch_round, part_of_round}
use Rattle.formats.specs.RoundFile.{challenge_width, count_field, record_length, record_start, round_at}
use Rattle.formats.specs.SameCommitment.{commitment_bytes, comparing, same_commitment}
use Rattle.formats.specs.Sheet.{header_of}
use Rattle.formats.specs.WordsCompare.{WordsCompare, WordsRefusals}
use Rattle.formats.proofs.ByteLayout.{word_at}
use Rattle.formats.proofs.Files.{check_number, fetch_given}
use Rattle.formats.proofs.OnSheet.{on_sheet_runs}
use Rattle.formats.proofs.Part.{part_given}
use Rattle.formats.proofs.Refusals.{on_sheet_tests}
use Rattle.formats.proofs.Tests.{says_bad_file}

-- 12 and 13
same_tests : (h : Header) (f : List ℕ) (i j : ℕ) → Tests (comparing h f i j).refusals (same_conditions h f i j)
unfolding comparing
same_tests h f i j =
    (refl, says_bad_file h f, (refl, says_or (says_at_most (count_field f) i) (says_at_most (count_field f) j), tt))

module _ (sheet f : List ℕ) (i j : ℕ) where
  -- the number that it answers
  same_number : (same_commitment sheet f i j).refusal ≡ number_of (on_sheet sheet (comparing (header_of sheet) f i j))
  unfolding same_commitment comparing
  same_number =
      answer_number (on_sheet sheet (comparing (header_of sheet) f i j)) (λ compared. compared.refusal) refl (λ n. refl)

  -- it runs exactly where the check gives 0 for both rounds
  pub same_runs : ((same_commitment sheet f i j).refusal ≡ 0) ↔ ((check_round sheet f i ≡ 0) × (check_round sheet f j ≡ 0))
  unfolding comparing checking
  same_runs =
      let h = header_of sheet in
      let whole = on_sheet_runs sheet (comparing h f i j) tt in
      let first = on_sheet_runs sheet (checking h f i) tt in
      let second = on_sheet_runs sheet (checking h f j) tt in
      let numbers = both_fail (leb (count_field f) i) (leb (count_field f) j) in (
        λ e.
            let (loads, (file, (below, none))) = whole.0 (sym same_number ∙ e) in
            let (one, two) = numbers.0 below in (
              check_number sheet f i ∙ first.1 (loads, (file, (one, tt))),
              check_number sheet f j ∙ second.1 (loads, (file, (two, tt))),
            ),
        λ (x, y).
            let (loads, (file, (one, none))) = first.0 (sym (check_number sheet f i) ∙ x) in
            let two = (second.0 (sym (check_number sheet f j) ∙ y)).1.1.0 in
            same_number ∙ whole.1 (loads, (file, (numbers.1 (one, two), tt))),
      )

-- 1 is answered exactly where a test fails
one_where : (b : Bool) → (◌≡◌ {A = ℕ} (cond b 0 1) 1) ↔ (b ≡ false)
one_where true = (λ e. absurd (omega arith), λ e. absurd (false≢true (sym e)))
one_where false = (λ e. refl, λ e. refl)

-- an answer is 0 or 1, whether or not the call is refused
zero_or_one : (number : ℕ) (b : Bool)
    → (◌≡◌ {A = ℕ} (unless_refused number (cond b 0 1) 0) 0) ⊎ (◌≡◌ {A = ℕ} (unless_refused number (cond b 0 1) 0) 1)
zero_or_one zero true = inl (unless_refused_zero _ _)
zero_or_one zero false = inr (unless_refused_zero _ _)
zero_or_one (suc n) b = inl (unless_refused_positive _ _ (suc n) (omega arith))

module _ (sheet f : List ℕ) (i j : ℕ) (e : (same_commitment sheet f i j).refusal ≡ 0) where
  -- the fixed fields, and where the two records begin
  abbrev h : Header
  h = header_of sheet

  abbrev a : ℕ
  a = record_start (challenge_width f) (header_of sheet) i

  abbrev b : ℕ
  b = record_start (challenge_width f) (header_of sheet) j

  -- where nothing is refused, the answer is whether the bytes differ
  same_given : (same_commitment sheet f i j).same
      ≡ cond (differ (4 * (header_of sheet).rows) (commitment_bytes (header_of sheet) f i) (commitment_bytes (header_of sheet) f j)) 0 1
  unfolding same_commitment comparing
  same_given =
      ap (λ (compared : Compared). compared.same)
      (answer_value (on_sheet sheet (comparing h f i j)) (sym (same_number sheet f i j) ∙ e))

  -- the answer is 1 exactly where the bytes of both records' commitments agree
  same_bytes : ((same_commitment sheet f i j).same ≡ 1)
      ↔ ((k : ℕ) → k < 4 * (header_of sheet).rows → get_or f (a + k) 0 ≡ get_or f (b + k) 0)
  unfolding commitment_bytes
  same_bytes =
      let at : (k : ℕ) → k < 4 * h.rows → get_or (commitment_bytes h f i) k 0 ≡ get_or f (a + k) 0 =
      λ k. get_d_tabulate (4 * h.rows) (λ k. get_or f (a + k) 0) k 0 in
      let at' : (k : ℕ) → k < 4 * h.rows → get_or (commitment_bytes h f j) k 0 ≡ get_or f (b + k) 0 =
      λ k. get_d_tabulate (4 * h.rows) (λ k. get_or f (b + k) 0) k 0 in
      rw same_given
      (Iff.trans (one_where _)
      (Iff.trans (differ_false (4 * h.rows) (commitment_bytes h f i) (commitment_bytes h f j)) (
        λ same k less. sym (at k less) ∙ same k less ∙ at' k less,
        λ same k less. at k less ∙ same k less ∙ sym (at' k less),
      )))

  -- the bytes of a round's part are the record's
  part_at : (r : ℕ) → check_round sheet f r ≡ 0 → (k : ℕ) → k < 4 * (header_of sheet).rows
      → get_or (part_of_round sheet f r) k 0 ≡ get_or f (record_start (challenge_width f) (header_of sheet) r + k) 0
  unfolding record_length
  part_at r checked k less =
      let size = record_length (challenge_width f) h in
      let start = record_start (challenge_width f) h r in
      ap (λ (bytes : List ℕ). get_or bytes k 0) (part_given sheet f r checked)
      ∙ get_or-take size (drop start f) k 0 (omega arith) ∙ get_or-drop start f k 0

  -- the commitment that is read has the record's words
  value_at : (r : ℕ) → check_round sheet f r ≡ 0 → (k : ℕ) → k < (header_of sheet).rows
      → get_or (fetch_round sheet f r).round.commitment k 0
      ≡ number_at 4 f (record_start (challenge_width f) (header_of sheet) r + 4 * k)
  unfolding round_at
  value_at r checked k less =
      ap (λ (fetched : Fetched). get_or fetched.round.commitment k 0) (fetch_given sheet f r checked)
      ∙ word_at f (record_start (challenge_width f) h r) h.rows k less

  -- so it is 1 exactly where the commitments that are read agree
  pub same_values : AllBytes f
      → ((same_commitment sheet f i j).same ≡ 1)
      ↔ Agree (header_of sheet).rows (fetch_round sheet f i).round.commitment (fetch_round sheet f j).round.commitment
  same_values all =
      let (x, y) = (same_runs sheet f i j).0 e in
      let words = words_bytes 4 f a b all h.rows in
      Iff.trans same_bytes (
        λ same k less. value_at i x k less ∙ words.1 same k less ∙ sym (value_at j y k less),
        λ same. words.0 (λ k less. sym (value_at i x k less) ∙ same k less ∙ value_at j y k less),
      )

-- the refusals
pub words_refusals : WordsRefusals file_calls
unfolding condition_numbers is_sublist refusal_order sheet_numbers same_commitment comparing
words_refusals = record {
  comparing = λ sheet f i j.
      let h = header_of sheet in
      refuses_call _ _ refl refl (on_sheet sheet (comparing h f i j)) (λ compared. compared.refusal) refl (λ n. refl)
      (λ compared. compared.same ≡ 0)
      (on_sheet_tests sheet (comparing h f i j) (same_conditions h f i j) (same_tests h f i j)) (λ n. refl);
}

-- what the card asks
pub words_compare : WordsCompare file_calls
unfolding same_commitment comparing
words_compare = record {
  answers = λ sheet f i j.
      let h = header_of sheet in
      let call = on_sheet sheet (comparing h f i j) in
      rw (answer_read call (λ compared. compared.same))
      (zero_or_one (number_of call) (differ (4 * h.rows) (commitment_bytes h f i) (commitment_bytes h f j)));
  bytes = λ sheet f i j e.
      let (x, y) = (same_runs sheet f i j).0 e in
      Iff.trans (same_bytes sheet f i j e) (
        λ same k less. part_at sheet f i j e i x k less ∙ same k less ∙ sym (part_at sheet f i j e j y k less),
        λ same k less. sym (part_at sheet f i j e i x k less) ∙ same k less ∙ part_at sheet f i j e j y k less,
      );
}
