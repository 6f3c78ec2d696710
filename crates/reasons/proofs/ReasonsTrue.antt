-- The reason is true (02, card 1).
-- Assumes nothing.
use Prim.Native.Nat.{ℕ, ◌<◌, ◌≤◌}
use mathlib.Core.Path.{◌≡◌, refl, subst}
use mathlib.Core.List.{List, ◌++◌, append_assoc}
use mathlib.Core.Logic.{◌↔◌, ◌⊎◌, inl, inr, ⊎_elim}
use native.Mathlib.Omega.{arith}
use lib.ListN.{length}
use Rattle.lists.specs.Member.{Member}
use Rattle.rules.proofs.Condition.{given_unique}
use Rattle.rules.specs.Condition.{Condition, Given}
use Rattle.rules.specs.Order.{is_sublist, refusal_order, sheet_numbers}
use Rattle.rules.specs.Refuses.{Refuses, condition_numbers}
use Rattle.rules.proofs.Refuses.{refuses_given}
use Rattle.formats.specs.Ours.{file_calls}
use Rattle.formats.specs.Refusals.{load_conditions, round_conditions}
use Rattle.formats.specs.Sheet.{header_of, instance_of}
use Rattle.sigma.specs.Refusals.{judge_conditions}
use Rattle.reasons.specs.Corollaries.{ReasonCorollaries}
use Rattle.reasons.specs.Ours.{LengthLine, OffsetLine, first_round, reason_conditions, reason_calls}
use Rattle.reasons.specs.Reason.{reason_number, reason_text}
use Rattle.reasons.specs.ReasonsTrue.{ReasonsTrue, reason_numbers}
use Rattle.reasons.proofs.Apart.{apart}
use Rattle.reasons.proofs.Cut.{line_cut}
use Rattle.rules.proofs.Explains.{Explains, explains_append, explains_caused, explains_given, rising_first}
use Rattle.reasons.proofs.FileSpots.{file_explained}
use Rattle.reasons.proofs.Judged.{line_accepted, line_judged}
use Rattle.reasons.proofs.Length.{reason_short}
use Rattle.reasons.proofs.Line.{number_given, text_length, text_offset}
use Rattle.reasons.proofs.Named.{Broken, Named}
use Rattle.reasons.proofs.RoundSpots.{check_none, round_explained}
use Rattle.reasons.proofs.SheetSpots.{sheet_explained}
use Rattle.runs.specs.Ours.{run_calls}

module _ (s f : List ℕ) where
  -- 2 to 16
  all_explained : Explains (Named s f) (Broken s f) (reason_conditions s f)
  all_explained =
      let sheet = load_conditions s in
      let file = round_conditions (header_of s) f 0 in
      let round = judge_conditions (instance_of s) (first_round s f) in
      let before = explains_append (Named s f) (Broken s f) sheet file (sheet_explained s f) (λ none. file_explained s f) in
      subst (Explains (Named s f) (Broken s f)) (append_assoc sheet file round)
      (explains_append (Named s f) (Broken s f) (sheet ++ file) round before (λ none. round_explained s f (check_none s f none)))

  -- where a number is given, it is that of the definition
  number_is : (n : ℕ) → Given (reason_conditions s f) n → reason_number s f ≡ n
  number_is n given = given_unique (reason_conditions s f) _ n (number_given s f) given

  -- the number is 01's
  number : Refuses reason_numbers (reason_conditions s f) (reason_number s f) (Unit {0})
  unfolding condition_numbers sheet_numbers is_sublist refusal_order
  number = refuses_given reason_numbers (reason_conditions s f) refl refl (reason_number s f) (number_given s f) (λ some. tt)

  module _ (m : ℕ) (given : Given (reason_conditions s f) m) where
    -- the spot of the number that is given
    named : 0 < m → Named s f m
    named = explains_given (Named s f) (Broken s f) (reason_conditions s f) m all_explained given

    -- a rule is broken exactly where its number is given, if no lower rule is
    broken : (n : ℕ) → Member n reason_numbers → (m ≡ 0) ⊎ (n ≤ m) → (m ≡ n) ↔ Broken s f n
    unfolding condition_numbers sheet_numbers
    broken n member lowest = (
      λ same.
          let some : 0 < n = rising_first 0 reason_numbers (omega arith) n member in
          subst (Broken s f) same
          (⊎_elim (λ (o, first, told). inl (o, first.breaks)) (λ (l, breaks, told). inr (l, breaks)) (named (omega arith))),
      explains_caused (Named s f) (Broken s f) 0 (reason_conditions s f) m n (omega arith) all_explained given member lowest,
    )

  -- the line of a refusal
  refused : (n : ℕ) → Given (reason_conditions s f) n → 0 < n → OffsetLine s f n ⊎ LengthLine s f n
  refused n given =
      subst (λ (k : ℕ). 0 < k → OffsetLine s f k ⊎ LengthLine s f k) (number_is n given) (λ some.
      ⊎_elim (λ (o, first, told). inl (o, first, text_offset s f o some told))
      (λ (l, breaks, told). inr (l, breaks, text_length s f l some told)) (named (reason_number s f) (number_given s f) some))

-- all of it
pub reasons_true : ReasonsTrue file_calls run_calls reason_calls
reasons_true = record {
  number = λ s f. (reason_number s f, number s f);
  broken = broken;
  refused = refused;
  apart = λ s f n o l. apart s f o l n;
  judged = λ s f none. line_judged s f (number_is s f 0 none);
  accepted = line_accepted;
}

-- and what is true beside it
pub reason_corollaries : ReasonCorollaries
unfolding reason_text
reason_corollaries = record {
  short = reason_short;
  kept = λ a b enough enough' s f. line_cut a b enough enough' s f (length s) (length f);
}
