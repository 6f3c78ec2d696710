-- `extractor::loaded::test_pair` meets its contract: each return is a law of the rules, and each test that fails leaves the
-- rules behind it.
-- Assumes nothing.
use mathlib.Core.Path.{◌≡◌, sym, ◌∙◌}
use mathlib.Core.Bool.{false, or-eq-true_iff}
use mathlib.Core.List.{List}
use mathlib.Core.Logic.Or
use Prim.Native.Nat.{ℕ, ◌<◌}
use lib.ListN.{drop}
use borrow.Author.Tests.{eq-eqb, ne_eqb}
use Rattle.rules.specs.Rule.{lowest}
use Rattle.rules.proofs.Lowest.{pass, stop, lowest_clear}
use Rattle.sigma.specs.Round.{bad_commitment, bad_challenge, bad_coordinates}
use Rattle.sigma.proofs.Calculus.{both_fail}
use Rattle.sigma.proofs.Passed.{challenge_passes}
use Rattle.sigma.proofs.Tests.{says_bad_challenge}
use Rattle.types.specs.declared.Header.{Header}
use Rattle.types.specs.declared.Round.{Round}
use Rattle.sigma.specs.Comparison.{differ}
use Rattle.sigma.specs.Element.{some_non_element, some_non_coordinate}
use Rattle.sigma.specs.Extractor.{extracting}
use Rattle.sigma.specs.Instance.{instance_with}
use Rattle.image.proofs.Tested.{commitment_read, coordinates_read, difference_read}
use Rattle.extractor.specs.Rules.{rules_of_pair}
use Rattle.extractor.proofs.loaded.test_pair.Goals as goal

module _ (h : Header) (first second : Round) where
  -- whatever the entries and the statement are, the rules behind the first k are left: none of those applies
  abbrev Rest : ℕ → Type 0
  Rest k =
      (entries : List (List ℕ)) (statement : List ℕ)
      → let rules = rules_of_pair (instance_with h entries statement) first second in lowest rules ≡ lowest (drop k rules)

  -- behind both searches of the commitments
  elements
      : some_non_element h h.rows first.commitment ≡ false → some_non_element h h.rows second.commitment ≡ false → Rest 1
  unfolding extracting
  elements good good' = λ entries statement.
      pass 14 _ ((both_fail _ _).1 (commitment_read _ _ ∙ good, commitment_read _ _ ∙ good'))

  -- behind both challenges
  challenges : Rest 1 → first.challenge < h.challenges → second.challenge < h.challenges → Rest 2
  unfolding extracting
  challenges left below below' = λ entries statement.
      left entries statement
      ∙ pass 15 _ ((both_fail _ _).1 ((challenge_passes _ _).1 below, (challenge_passes _ _).1 below'))

  -- behind both searches of the responses
  slots
      : Rest 2 → some_non_coordinate h h.columns first.response ≡ false → some_non_coordinate h h.columns second.response ≡ false
      → Rest 3
  unfolding extracting
  slots left good good' = λ entries statement.
      left entries statement
      ∙ pass 16 _ ((both_fail _ _).1 (coordinates_read _ _ ∙ good, coordinates_read _ _ ∙ good'))

  -- behind the comparison of the commitments
  same : Rest 3 → differ h.rows first.commitment second.commitment ≡ false → Rest 4
  unfolding extracting
  same left equal = λ entries statement. left entries statement ∙ pass 18 _ (difference_read _ _ _ ∙ equal)

pub returns-then-some_non_element : goal.returns-then-some_non_element
unfolding extracting
returns-then-some_non_element c = λ entries statement.
    let bad = commitment_read _ _ ∙ sym c.some_non_element.ensures ∙ c.if-some_non_element.true in
    sym (stop 14 _ ((or-eq-true_iff _ _).1 (Or.inl bad)))

pub returns-then-some_non_element-2 : goal.returns-then-some_non_element-2
unfolding extracting
returns-then-some_non_element-2 c = λ entries statement.
    let bad = commitment_read _ _ ∙ sym c.some_non_element-2.ensures ∙ c.if-some_non_element-2.true in
    sym (stop 14 _ ((or-eq-true_iff (bad_commitment _ _) _).1 (Or.inr bad)))

pub returns-then-first-h : goal.returns-then-first-h
unfolding extracting
returns-then-first-h c = λ entries statement.
    let left = elements c.args.h c.args.first c.args.second (sym c.some_non_element.ensures ∙ c.if-some_non_element.false)
    (sym c.some_non_element-2.ensures ∙ c.if-some_non_element-2.false) in
    sym (left entries statement ∙ stop 15 _ ((or-eq-true_iff _ _).1 (Or.inl ((says_bad_challenge _ _).complete c.if-first-h.true))))

pub returns-then-second-h : goal.returns-then-second-h
unfolding extracting
returns-then-second-h c = λ entries statement.
    let left = elements c.args.h c.args.first c.args.second (sym c.some_non_element.ensures ∙ c.if-some_non_element.false)
    (sym c.some_non_element-2.ensures ∙ c.if-some_non_element-2.false) in
    sym (left entries statement
    ∙ stop 15 _ ((or-eq-true_iff (bad_challenge _ _) _).1 (Or.inr ((says_bad_challenge _ _).complete c.if-second-h.true))))

pub returns-then-some_non_coordinate : goal.returns-then-some_non_coordinate
unfolding extracting
returns-then-some_non_coordinate c = λ entries statement.
    let left = challenges c.args.h c.args.first c.args.second (elements c.args.h c.args.first c.args.second (sym c.some_non_element.ensures ∙ c.if-some_non_element.false)
    (sym c.some_non_element-2.ensures ∙ c.if-some_non_element-2.false)) c.if-first-h.false c.if-second-h.false in
    let bad = coordinates_read _ _ ∙ sym c.some_non_coordinate.ensures ∙ c.if-some_non_coordinate.true in
    sym (left entries statement ∙ stop 16 _ ((or-eq-true_iff _ _).1 (Or.inl bad)))

pub returns-then-some_non_coordinate-2 : goal.returns-then-some_non_coordinate-2
unfolding extracting
returns-then-some_non_coordinate-2 c = λ entries statement.
    let left = challenges c.args.h c.args.first c.args.second (elements c.args.h c.args.first c.args.second (sym c.some_non_element.ensures ∙ c.if-some_non_element.false)
    (sym c.some_non_element-2.ensures ∙ c.if-some_non_element-2.false)) c.if-first-h.false c.if-second-h.false in
    let bad = coordinates_read _ _ ∙ sym c.some_non_coordinate-2.ensures ∙ c.if-some_non_coordinate-2.true in
    sym (left entries statement ∙ stop 16 _ ((or-eq-true_iff (bad_coordinates _ _) _).1 (Or.inr bad)))

pub returns-then-differ : goal.returns-then-differ
unfolding extracting
returns-then-differ c = λ entries statement.
    let left = slots c.args.h c.args.first c.args.second (challenges c.args.h c.args.first c.args.second (elements c.args.h c.args.first c.args.second (sym c.some_non_element.ensures ∙ c.if-some_non_element.false)
    (sym c.some_non_element-2.ensures ∙ c.if-some_non_element-2.false)) c.if-first-h.false c.if-second-h.false) (sym c.some_non_coordinate.ensures ∙ c.if-some_non_coordinate.false)
    (sym c.some_non_coordinate-2.ensures ∙ c.if-some_non_coordinate-2.false) in
    sym (left entries statement ∙ stop 18 _ (difference_read _ _ _ ∙ sym c.differ.ensures ∙ c.if-differ.true))

pub returns-then-first-second : goal.returns-then-first-second
unfolding extracting
returns-then-first-second c = λ entries statement.
    let left = same c.args.h c.args.first c.args.second (slots c.args.h c.args.first c.args.second (challenges c.args.h c.args.first c.args.second (elements c.args.h c.args.first c.args.second (sym c.some_non_element.ensures ∙ c.if-some_non_element.false)
    (sym c.some_non_element-2.ensures ∙ c.if-some_non_element-2.false)) c.if-first-h.false c.if-second-h.false) (sym c.some_non_coordinate.ensures ∙ c.if-some_non_coordinate.false)
    (sym c.some_non_coordinate-2.ensures ∙ c.if-some_non_coordinate-2.false)) (sym c.differ.ensures ∙ c.if-differ.false) in
    sym (left entries statement ∙ stop 19 _ (eq-eqb _ _ c.if-first-second.true))

pub returns : goal.returns
unfolding extracting
returns c = λ entries statement.
    let left = same c.args.h c.args.first c.args.second (slots c.args.h c.args.first c.args.second (challenges c.args.h c.args.first c.args.second (elements c.args.h c.args.first c.args.second (sym c.some_non_element.ensures ∙ c.if-some_non_element.false)
    (sym c.some_non_element-2.ensures ∙ c.if-some_non_element-2.false)) c.if-first-h.false c.if-second-h.false) (sym c.some_non_coordinate.ensures ∙ c.if-some_non_coordinate.false)
    (sym c.some_non_coordinate-2.ensures ∙ c.if-some_non_coordinate-2.false)) (sym c.differ.ensures ∙ c.if-differ.false) in
    sym (left entries statement ∙ lowest_clear _ (ne_eqb _ _ c.if-first-second.false, tt))
