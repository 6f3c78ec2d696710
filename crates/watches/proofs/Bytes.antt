-- The bytes that a watch holds: a sheet's, exactly if their number is the sheet's length and each of them is the sheet's.
-- Assumes nothing.
use Prim.Native.Nat.{ℕ}
use mathlib.Core.Path.{◌≡◌, refl}
use mathlib.Core.Logic.Iff
use mathlib.Core.Logic.{◌↔◌, inl, inr, ⊎_elim}
use mathlib.Core.Bool.{not, ◌&&◌}
use mathlib.Core.List.{List, ◌++◌}
use lib.Dec.{eqb}
use lib.ListN.{length, replicate, get_or-append}
use Rattle.lists.specs.Places.{places}
use Rattle.lists.proofs.Places.{places_is, places_whole}
use Rattle.rules.specs.Says.{Says}
use Rattle.rules.proofs.Says.{says_and, says_decides, says_equal, says_iff, says_not, says_or}
use Rattle.runs.proofs.OnlyRounds.{agree_from}
use Rattle.sigma.specs.Comparison.{differ}
use Rattle.sigma.proofs.Calculus.{says_stable}
use Rattle.sigma.proofs.Comparison.{says_agree, says_differ}
use Rattle.watches.specs.Heard.{is_same}
use Rattle.watches.specs.Refusals.{OtherBytes}
use Rattle.watches.specs.Watch.{is_watched}
use Rattle.watches.specs.declared.Watch.{Watch}

-- the test of n held bytes
says_held : (n : ℕ) (held bytes : List ℕ)
    → Says (eqb n (length bytes) && not (differ (length bytes) held bytes)) (places n held ≡ bytes)
says_held n held bytes =
    says_iff (says_and (says_equal n (length bytes)) (says_agree (length bytes) held bytes)) (Iff.symm (places_is n held bytes))

-- the test for the same bytes
pub says_same_bytes : (xs ys : List ℕ) → Says (is_same xs ys) (xs ≡ ys)
unfolding is_same
says_same_bytes xs ys = rw (places_whole (length xs) xs refl) at (says_held (length xs) xs ys)

-- zeros put behind a sheet leave its bytes
pub held_behind : (sheet : List ℕ) (k : ℕ) → places (length sheet) (sheet ++ replicate k 0) ≡ sheet
held_behind sheet k = (places_is (length sheet) _ sheet).1 (refl, λ j b. get_or-append sheet _ 0 j b)

module _ (w : Watch) (sheet : List ℕ) where
  -- the test of a watch
  pub says_watched : Says (is_watched w sheet) (places w.length w.sheet ≡ sheet)
  unfolding is_watched
  says_watched = says_held w.length w.sheet sheet

  -- it holds other bytes exactly if those that it holds are not the sheet's
  pub other_bytes : (¬ (places w.length w.sheet ≡ sheet)) ↔ OtherBytes sheet w
  other_bytes =
      let is = places_is w.length w.sheet sheet in (
        λ apart.
            ⊎_elim (λ other. other)
            (λ neither. absurd (apart (is.1 (
              says_stable (says_equal _ _) (λ long. neither (inl long)),
              agree_from (length sheet) w.sheet sheet (λ differs. neither (inr differs)),
            ))))
            (says_decides (says_or (says_not (says_equal w.length (length sheet))) (says_differ (length sheet) w.sheet sheet))),
        λ other same.
            let (long, agree) = is.0 same in
            ⊎_elim (λ apart. apart long) (λ (j, b, differs). differs (agree j b)) other,
      )
