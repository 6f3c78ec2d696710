-- 01's sheet maker over its own numbers: the definition is one, and there is no other.
-- Assumes nothing.
use Prim.Native.Nat.{ℕ, ◌<◌}
use mathlib.Core.Path.{◌≡◌, refl, sym, ◌∙◌}
use mathlib.Core.Logic.{◌⊎◌, ◌≢◌, inl, inr, ⊎_elim}
use mathlib.Core.Bool.{or_assoc}
use mathlib.Core.List.{List, ◌∷◌}
use native.Mathlib.Omega.{arith}
use lib.ListN.{length}
use Rattle.rules.specs.Order.{is_sublist, refusal_order}
use Rattle.rules.specs.Refuses.{condition_numbers}
use Rattle.rules.specs.Rule.{◌when◌}
use Rattle.rules.specs.Says.{Says}
use Rattle.rules.proofs.Condition.{given_unique}
use Rattle.rules.proofs.Determined.{refused_or_not}
use Rattle.rules.proofs.Lowest.{clear_lowest}
use Rattle.rules.proofs.Refuses.{refuses_call}
use Rattle.rules.proofs.Says.{says_equal, says_less, says_not, says_or}
use Rattle.formats.specs.Encode.{sheet_of}
use Rattle.formats.specs.Outcome.{Keeps, Puts}
use Rattle.formats.specs.Sheet.{sheet_length}
use Rattle.formats.proofs.OnlyWriting.{keeps_only, puts_only}
use Rattle.formats.specs.Write.{Writing}
use Rattle.formats.proofs.Writing.{length_sheet_of, short_passes, start_written, written_refusal}
use Rattle.patterns.specs.Maker.{made_rules}
use Rattle.patterns.specs.PatternCalls.{Maker, OldMaker}
use Rattle.patterns.specs.Refusals.{old_conditions}
use Rattle.patterns.specs.Table.{bad_pattern, from_pattern, made, pattern_of}
use Rattle.patterns.proofs.Making.{made_tests}

-- 1 as 01 had it: the number is outside 1 to 6, or a count of values is wrong
says_old : (number : ℕ) (values statement : List ℕ)
    → Says (bad_pattern number values statement)
    ((number < 1) ⊎ (6 < number) ⊎ (length values ≢ (pattern_of number).values) ⊎ (length statement ≢ (pattern_of number).rows))
unfolding bad_pattern
says_old number values statement =
    simp or_assoc
    (says_or (says_less number 1)
    (says_or (says_less 6 number)
    (says_or (says_not (says_equal (length values) (pattern_of number).values))
    (says_not (says_equal (length statement) (pattern_of number).rows)))))

-- if nothing is refused, the sheet of the pattern's values stands at the buffer's start
old_puts : (number m ℓ K : ℕ) (values z buffer : List ℕ) → (from_pattern number m ℓ K values z buffer).answer.refusal ≡ 0
    → Puts (sheet_of (made number m ℓ K values z)) buffer (from_pattern number m ℓ K values z buffer)
unfolding from_pattern made_rules
old_puts number m ℓ K values z buffer e =
    let inst = made number m ℓ K values z in
    let rules = (1 when bad_pattern number values z) ∷ made_rules values inst buffer in
    let none = sym (written_refusal _ _ _ buffer) ∙ e in
    let (counts, (modulus, (order, (count, (elements, (statement, (fits, rest))))))) = clear_lowest rules tt none in
    let room = (short_passes buffer (sheet_length inst.header)).0 fits in
    start_written _ (sheet_of inst) buffer e (omega (arith, length_sheet_of inst))

-- 01's sheet maker as it is defined
pub some_maker : OldMaker from_pattern
unfolding condition_numbers is_sublist refusal_order from_pattern
some_maker = record {
  refused = λ number m ℓ K values z buffer.
      refuses_call _ _ refl refl _ (λ (w : Writing). w.answer.refusal) refl (λ n. refl) (Keeps buffer)
      (refl, says_old number values z, made_tests values _ buffer) (λ n. record { answered = refl; same = refl });
  written = old_puts;
}

-- two such makers answer and leave the same
pub one_maker : {make make' : Maker} → OldMaker make → OldMaker make' → (number m ℓ K : ℕ) (values z buffer : List ℕ)
    → make number m ℓ K values z buffer ≡ make' number m ℓ K values z buffer
one_maker old old' number m ℓ K values z buffer =
    refused_or_not (old.refused number m ℓ K values z buffer) (old'.refused number m ℓ K values z buffer) (λ n. keeps_only _ _ n)
    (λ e e' none. puts_only _ _ (old.written number m ℓ K values z buffer e) (old'.written number m ℓ K values z buffer e'))

-- and refuse every number outside 1 to 6 with 1
pub others : {make : Maker} → OldMaker make → (number m ℓ K : ℕ) (values z buffer : List ℕ) → (number < 1) ⊎ (6 < number)
    → (make number m ℓ K values z buffer).answer.refusal ≡ 1
others old number m ℓ K values z buffer outside =
    given_unique (old_conditions number values z (made number m ℓ K values z) buffer) _ 1 (old.refused number m ℓ K values z buffer).given
    (inl (⊎_elim (λ low. inl low) (λ high. inr (inl high)) outside, refl))
