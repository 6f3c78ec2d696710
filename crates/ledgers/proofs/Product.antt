-- The product statement in numbers: its image, when a round on it is accepted, and its sheet byte by byte.
-- Assumes nothing.
use Prim.Native.Nat.{ℕ, zero, suc, ◌*◌, ◌%◌, ◌^◌, ◌<◌}
use mathlib.Core.Path.{◌≡◌, refl, sym, ◌∙◌}
use mathlib.Core.Logic.{◌↔◌}
use mathlib.Core.List.{List, [], ◌∷◌, flatten, head-eq_of_cons-eq, tail-eq_of_cons-eq}
use native.Mathlib.Omega.{arith}
use lib.ListN.{get_or}
use Rattle.types.specs.declared.Verdict.TheVariants.{Accepted}
use Rattle.encoding.specs.Bytes.{bytes_of, bytes_of_each}
use Rattle.encoding.specs.Text.{ascii}
use Rattle.lists.specs.Places.{eight_by_eight, items_at, pad8, places, tabulate, zeros8}
use Rattle.lists.proofs.Places.{get_d_places, tabulate_agree}
use Rattle.rules.specs.Says.{Says}
use Rattle.rules.proofs.Says.{says_iff}
use Rattle.formats.specs.Encode.{header_bytes, sheet_of, stored_entries}
use Rattle.formats.specs.Sheet.{sheet_mark}
use Rattle.patterns.specs.Pattern.{digit, entry_of, header_for, made_for, pattern_entries}
use Rattle.patterns.specs.Table.{kind_of, made, pattern_of, patterns}
use Rattle.patterns.proofs.Meaning.{patterns_mean}
use Rattle.sigma.specs.Answer.{is_accepted}
use Rattle.sigma.specs.Image.{image}
use Rattle.sigma.specs.Instance.{entry, is_exponent, statement_at, table_of}
use Rattle.sigma.specs.Judge.{judge_loaded}
use Rattle.sigma.specs.Meaning.{Fits, Holds, RowHolds}
use Rattle.sigma.specs.Valid.{Valid}
use Rattle.sigma.proofs.Calls.{valid_judge_accepted}
use Rattle.sigma.proofs.Tests.{says_accepted}
use Rattle.sigma.proofs.Unread.{row_image_agree}
use Rattle.ledgers.specs.Ledger.{line_round, product_of}
use Rattle.ledgers.specs.Meaning.{RowsHold, product_sheet}
use Rattle.ledgers.specs.declared.Base.{Base}
use Rattle.ledgers.specs.declared.Line.{Line}

module _ (base : Base) (A B E : ℕ) where
  -- its sheet
  pub sheet_is : product_sheet base A B E ≡ sheet_of (product_of base A B E)
  unfolding product_sheet sheet_of header_bytes sheet_mark ascii bytes_of bytes_of_each stored_entries flatten tabulate items_at entry is_exponent places
      product_of made made_for header_for kind_of pattern_of patterns pattern_entries eight_by_eight pad8 zeros8 digit entry_of
  sheet_is = refl

  module _ (valid : Valid (product_of base A B E)) where
    -- the image of three slots
    pub image_is : (x : List ℕ)
        → image (table_of (product_of base A B E)) x
        ≡ base.g ^ get_or x 0 0 * base.h ^ get_or x 1 0 % base.modulus ∷ B ^ get_or x 0 0 * base.h ^ get_or x 2 0 % base.modulus ∷ []
    unfolding image product_of made made_for header_for kind_of pattern_of patterns places tabulate items_at
    image_is x =
        tabulate_agree 2 _ _ (λ i b. row_image_agree valid.table x (places 3 x) (λ j l. sym (get_d_places 3 x j l)) i b)
        ∙ (patterns_mean.images base.modulus base.order base.challenges).product base.g base.h B (get_or x 0 0)
        (get_or x 1 0) (get_or x 2 0)

    -- the two sides of both rows agree exactly if they do in numbers
    pub rows_hold : (line : Line) → Holds (product_of base A B E) (line_round line) ↔ RowsHold base A B E line
    unfolding image product_of made made_for header_for kind_of pattern_of patterns tabulate items_at statement_at pad8
    rows_hold line =
        let both = image_is line.response in
        let first = head-eq_of_cons-eq both in
        let second = head-eq_of_cons-eq (tail-eq_of_cons-eq both) in (
          λ holds. (sym first ∙ holds 0 (omega arith), sym second ∙ holds 1 (omega arith)),
          λ (a, b). each (first ∙ a) (second ∙ b),
        )
      where
        each : RowHolds (product_of base A B E) (line_round line) 0 → RowHolds (product_of base A B E) (line_round line) 1
            → (row : ℕ) → row < 2 → RowHolds (product_of base A B E) (line_round line) row
        each a b zero inside = a
        each a b (suc zero) inside = b
        each a b (suc (suc row)) inside = absurd (omega arith)

    -- so a round that fits is accepted exactly if they do
    pub accepts_rows : (line : Line) → Fits (product_of base A B E) (line_round line)
        → (judge_loaded (product_of base A B E) (line_round line) ≡ Accepted) ↔ RowsHold base A B E line
    accepts_rows line fits =
        let judged = valid_judge_accepted (product_of base A B E) (line_round line) valid in
        (λ e. (rows_hold line).0 (judged.0 e).1, λ holds. judged.1 (fits, (rows_hold line).1 holds))

    pub says_rows : (line : Line) → Fits (product_of base A B E) (line_round line)
        → Says (is_accepted (judge_loaded (product_of base A B E) (line_round line))) (RowsHold base A B E line)
    says_rows line fits = says_iff (says_accepted (judge_loaded (product_of base A B E) (line_round line))) (accepts_rows line fits)
