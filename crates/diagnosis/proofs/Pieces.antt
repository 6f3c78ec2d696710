-- A line that is stored: the two sides of a rejected round, and its bytes by another name.
-- Assumes nothing.
use Prim.Native.Nat.{ℕ, ◌≤◌}
use mathlib.Core.Path.{◌≡◌, ap, ap₂, subst, ◌∙◌}
use mathlib.Core.List.{List, ◌++◌}
use native.Mathlib.Omega.{arith}
use lib.ListN.{get_or, length}
use Rattle.encoding.specs.Placed.{Placed}
use Rattle.encoding.proofs.Fitted.{fitted_inside, fitted_whole}
use Rattle.encoding.specs.Text.{ascii, decimal}
use Rattle.lists.specs.Places.{pad8}
use Rattle.lists.proofs.Places.{get_d_pad8}
use Rattle.lists.proofs.Words.{words_agree}
use Rattle.sigma.specs.Answer.{rows_of}
use Rattle.reasons.specs.Lines.{rejected_line}
use Rattle.reasons.specs.Reason.{row_text}
use Rattle.reason_lines.specs.Short.{ShortLine}

-- values out of padded arrays are those of the lists
pub sides_told : (mask : ℕ) (xs ys : List ℕ) {left right l m : List ℕ} {r : ℕ} → left ≡ pad8 0 xs → right ≡ pad8 0 ys
    → ShortLine l (rejected_line mask left right) m r → ShortLine l (rejected_line mask xs ys) m r
unfolding row_text
sides_told mask xs ys {left} {right} {l} {m} {r} a b told =
    let same : (row : ℕ) → row_text left right row ≡ row_text xs ys row =
    λ row.
    let at_row : List ℕ → ℕ = λ v. get_or v row 0 in
    ap₂ (λ (v w : ℕ). ascii " " ++ decimal row ++ ascii " " ++ decimal v ++ ascii " " ++ decimal w)
    (ap at_row a ∙ get_d_pad8 0 xs row) (ap at_row b ∙ get_d_pad8 0 ys row) in
    subst (λ (rows : List ℕ). ShortLine l (ascii "rejected" ++ rows ++ ascii "\n") m r)
    (words_agree (row_text left right) (row_text xs ys) (rows_of mask) (λ row m. same row)) told

module _ {l line m : List ℕ} {r : ℕ} (room : 201 ≤ length l) (told : ShortLine l line m r) where
  -- in 201 bytes a line ends inside
  pub line_inside : r ≤ length m
  line_inside = fitted_inside told.fitted (omega arith)

  -- and is placed whole, by any name
  pub line_placed : {whole : List ℕ} → whole ≡ line → Placed l 0 whole m r
  line_placed same = rw same (fitted_whole told.fitted (omega (arith, told.short)))
