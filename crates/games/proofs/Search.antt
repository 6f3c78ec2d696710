-- The search for the first answer in other words, for code that makes the images or the roots once: in kind 1 the first choice whose
-- image is t · z^c, in kind 2 the first group element whose power is.
-- Assumes nothing.
use Prim.Native.Nat.{ℕ, zero, suc, ◌*◌, ◌%◌, ◌^◌, ◌<◌}
use mathlib.Core.Path.{◌≡◌, sym, ◌∙◌}
use mathlib.Core.Logic.{◌↔◌, ◌≢◌}
use mathlib.Core.Bool.{not, ◌&&◌}
use mathlib.Core.List.{List, [], ◌∷◌}
use native.Mathlib.Omega.{arith}
use lib.Dec.{eqb}
use lib.ListN.{get_or}
use Rattle.lists.proofs.Each.{each_at}
use Rattle.lists.proofs.Places.{get_d_tabulate}
use Rattle.numbers.specs.Search.{find}
use Rattle.numbers.proofs.Search.{find_agree}
use Rattle.rules.specs.Says.{Says}
use Rattle.rules.proofs.Says.{says_and, says_equal, says_iff, says_same}
use Rattle.sigma.specs.Answer.{is_accepted}
use Rattle.sigma.specs.Comparison.{differ}
use Rattle.sigma.specs.Element.{Coordinate, Element, is_element}
use Rattle.sigma.specs.Image.{image, row_image}
use Rattle.sigma.specs.Instance.{Instance, statement_at, table_of}
use Rattle.sigma.specs.Judge.{judge_loaded}
use Rattle.sigma.specs.Meaning.{Coordinates, Elements, Holds}
use Rattle.sigma.specs.Reads.{Agree, round_of}
use Rattle.sigma.specs.Round.{expected_image}
use Rattle.sigma.specs.Valid.{Valid}
use Rattle.sigma.proofs.ByKind.{exponent_kind, root_kind, row_image_root}
use Rattle.sigma.proofs.Calls.{valid_judge_accepted}
use Rattle.sigma.proofs.Comparison.{says_agree}
use Rattle.sigma.proofs.Tests.{says_accepted, says_element}
use Rattle.games.specs.Slots.{slots_of}
use Rattle.games.specs.Text.{candidate, candidates, first_answer}
use Rattle.games.proofs.Slots.{slots_below}

module _ (inst : Instance) (valid : Valid inst) (t : List ℕ) (elements : Elements inst t) (c : ℕ)
    (below : c < inst.header.challenges) where
  -- a round of t, c and r is accepted exactly if r fits and the two sides agree
  says_fits : (r : List ℕ) → Says (is_accepted (judge_loaded inst (round_of t c r))) (Coordinates inst r × Holds inst (round_of t c r))
  says_fits r =
      let accepted = valid_judge_accepted inst (round_of t c r) valid in
      says_iff (says_accepted (judge_loaded inst (round_of t c r))) (
        λ e. let (fits, holds) = accepted.0 e in (fits.response, holds),
        λ (slots, holds). accepted.1 (record { commitment = elements; challenge = below; response = slots }, holds),
      )

  -- the two sides as lists
  holds_images : (r : List ℕ)
      → Holds inst (round_of t c r) ↔ Agree inst.header.rows (image (table_of inst) r) (expected_image inst t c)
  unfolding image expected_image
  holds_images r = (
    λ holds i b. get_d_tabulate _ _ i 0 b ∙ holds i b ∙ sym (get_d_tabulate _ _ i 0 b),
    λ agree i b. sym (get_d_tabulate _ _ i 0 b) ∙ agree i b ∙ get_d_tabulate _ _ i 0 b,
  )

  -- kind 1: every choice of n numbers below q fits
  pub first_image : inst.header.kind ≡ 1 → first_answer inst t c
      ≡ find (λ k.
      not (differ inst.header.rows (image (table_of inst) (slots_of inst.header.order inst.header.columns k)) (expected_image inst t c)))
      0 (inst.header.order ^ inst.header.columns)
  unfolding first_answer candidates candidate
  first_image kind =
      let h = inst.header in
      rw (exponent_kind h kind) (find_agree _ _ 0 _ (λ k low inside.
      let r = slots_of h.order h.columns k in
      let each = slots_below h.order (omega (arith, valid.table.order)) h.columns k (omega arith) in
      let slots : Coordinates inst r = λ j b.
      record { reduced = λ one. each_at _ h.columns r each j b; element = λ other. absurd (other kind) } in
      says_same
      (says_iff (says_fits r) (λ (fits, holds). (holds_images r).0 holds, λ agree. (slots, (holds_images r).1 agree)))
      (says_agree h.rows (image (table_of inst) r) (expected_image inst t c))))

  -- kind 2 with one row: the group elements fit
  pub first_root : inst.header.kind ≢ 1 → inst.header.rows ≡ 1 → inst.header.columns ≡ 1 → first_answer inst t c
      ≡ find (λ r. is_element inst.header r && eqb (r ^ inst.header.order % inst.header.modulus)
      (get_or t 0 0 * statement_at inst 0 ^ c % inst.header.modulus)) 0 inst.header.modulus
  unfolding first_answer candidates candidate
  first_root other row column =
      let h = inst.header in
      rw (root_kind h other) (find_agree _ _ 0 _ (λ k low inside.
      says_same
      (says_iff (says_fits (k ∷ [])) (
        λ (fits, holds). ((fits 0 (omega arith)).element other, sym (row_image_root (table_of inst) other (k ∷ []) 0) ∙ holds 0 (omega arith)),
        λ (element, root). (
          λ j b. alone k j (omega arith) element,
          λ i b. sides k i (omega arith) root,
        ),
      ))
      (says_and (says_element h k) (says_equal _ _))))
    where
      alone : (k j : ℕ) → j < 1 → Element inst.header k → Coordinate inst.header (get_or (k ∷ []) j 0)
      alone k zero b e = record { reduced = λ one. absurd (other one); element = λ n. e }
      alone k (suc j) b e = absurd (omega arith)

      sides : (k i : ℕ) → i < 1
          → k ^ inst.header.order % inst.header.modulus ≡ get_or t 0 0 * statement_at inst 0 ^ c % inst.header.modulus
          → row_image (table_of inst) (k ∷ []) i ≡ get_or t i 0 * statement_at inst i ^ c % inst.header.modulus
      sides k zero b same = row_image_root (table_of inst) other (k ∷ []) 0 ∙ same
      sides k (suc i) b same = absurd (omega arith)
