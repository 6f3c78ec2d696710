-- What is chosen by the side: what holds of both sheets holds of the one of the side, and its fixed fields are chosen with it.
-- Assumes nothing.
use Prim.Native.Nat.{ℕ}
use mathlib.Core.Path.{◌≡◌, refl, ap, ◌∙◌}
use mathlib.Core.Bool.{Bool, cond, true, false}
use mathlib.Core.Logic.{◌≢◌}
use lib.Dec.{eqb}
use borrow.Author.Tests.{eq-eqb, ne_eqb}
use denote.Ref.{Bor}
use Rattle.sigma.specs.Instance.{Instance}
use Rattle.instance.specs.declared.sheet.Sheet.{Sheet}
use Rattle.instance.specs.Values.{values_of}
use Rattle.disjunctions.specs.Prover.{own}

module _ {A : Type 0} (side : ℕ) (first second : A) where
  -- side 0 is the first
  pub own_first : side ≡ 0 → first ≡ own side first second
  unfolding own
  own_first e = rw (eq-eqb side 0 e)

  -- every other is the second
  pub own_second : side ≢ 0 → second ≡ own side first second
  unfolding own
  own_second e = rw (ne_eqb side 0 e)

  -- what holds of both holds of the one of the side
  pub own_both : (P : A → Type 0) → P first → P second → P (own side first second)
  unfolding own
  own_both P p q = on (eqb side 0)
    where
      on : (b : Bool) → P (cond b first second)
      on true = p
      on false = q

  -- what is computed of the one of the side
  pub own_map : {B : Type 0} (f : A → B) → f (own side first second) ≡ own side (f first) (f second)
  unfolding own
  own_map f = on (eqb side 0)
    where
      on : (b : Bool) → f (cond b first second) ≡ cond b (f first) (f second)
      on true = refl
      on false = refl

-- the values of the side's sheet
pub own_sheet : (side : ℕ) (first second : Bor Sheet) {mine : Bor Sheet} → mine ≡ own side first second
    → values_of mine.now ≡ own side (values_of first.now) (values_of second.now)
own_sheet side first second is_mine =
    let read : Bor Sheet → Instance = λ sheet. values_of sheet.now in
    ap read is_mine ∙ own_map side first second read
