-- The words of a mask's rows, row by row: a word for each row whose bit is set, and one row more.
-- Assumes nothing.
use Prim.Native.Nat.{ℕ, suc, ◌+◌, ◌/◌, ◌%◌, ◌^◌, ◌<◌, ◌≤◌}
use mathlib.Core.Path.{◌≡◌, sym, ap, subst, ◌∙◌}
use mathlib.Core.Bool.{Bool, cond}
use mathlib.Core.List.{List, [], ◌++◌, flatten, map}
use native.Mathlib.Nat.{div-div-eq-div-mul, div-one, pow-suc}
use native.Mathlib.Numerals.{add-one}
use native.Mathlib.Omega.{arith}
use lib.Dec.{eqb}
use Rattle.numbers.specs.Bits.{bit}
use Rattle.lists.specs.Choices.{selected}
use Rattle.lists.proofs.Words.{words_suc, words_zero}
use Rattle.encoding.specs.Placed.{Fitted}
use Rattle.encoding.proofs.Fitted.{fitted_none, fitted_then}
use Rattle.sigma.specs.Answer.{rows_of}

module _ (word : ℕ → List ℕ) (mask : ℕ) where
  -- the words of the rows before row n
  abbrev pub words_before : ℕ → List ℕ
  words_before n = flatten (map word (selected n (bit mask)))

  -- the words of the rows before a row are stored, and the rest of the mask has that row's bit lowest
  abbrev pub Told : List ℕ → ℕ → List ℕ → ℕ → ℕ → ℕ → Type 0
  Told l at m next rest row = Fitted l at (words_before row) m next × (rest ≡ mask / 2 ^ row) × (row ≤ 8)

  -- before row 0
  pub told_none : (l : List ℕ) (at : ℕ) → Told l at l at mask 0
  told_none l at = (rw (words_zero word (bit mask)) (fitted_none l at), sym (div-one mask), omega arith)

  -- the lowest bit of the rest is the row's
  lowest_bit : (row rest : ℕ) → rest ≡ mask / 2 ^ row → bit mask row ≡ eqb (rest % 2) 1
  unfolding bit
  lowest_bit row rest e = ap (λ (v : ℕ). eqb (v % 2) 1) (sym e)

  -- one row more
  words_next : (row rest : ℕ) → rest ≡ mask / 2 ^ row → words_before (suc row) ≡ words_before row ++ cond (eqb (rest % 2) 1) (word row) []
  words_next row rest e =
      words_suc word row (bit mask) ∙ ap (λ (b : Bool). words_before row ++ cond b (word row) []) (lowest_bit row rest e)

  module _ {l m : List ℕ} {at next rest row : ℕ} (told : Told l at m next rest row) where
    -- the word of a row after those before it
    pub told_on : {p : List ℕ} {y : ℕ} → row < 8 → Fitted m next (cond (eqb (rest % 2) 1) (word row) []) p y
        → Told l at p y (rest / 2) (row + 1)
    told_on few last =
        let (fitted, is_rest, within) = told in (
          rw (add-one row, words_next row rest is_rest) (fitted_then fitted last),
          rw (is_rest, add-one row, pow-suc 2 row) (div-div-eq-div-mul mask (2 ^ row) 2),
          omega arith,
        )

    -- after the last row
    pub told_all : 8 ≤ row → Fitted l at (flatten (map word (rows_of mask))) m next
    unfolding rows_of
    told_all past = subst (λ (k : ℕ). Fitted l at (words_before k) m next) {x = row} {y = 8} (omega (arith, told.2)) told.0
