-- What each test of a pattern file, and of what is asked of it, says (02, card 2; refusals 23, 24 and 1).
-- Assumes nothing.
use Prim.Native.Nat.{ℕ, suc, ◌-◌, ◌*◌, ◌<◌}
use mathlib.Core.Path.{◌≡◌, ◌∙◌}
use mathlib.Core.Logic.{◌⊎◌, ◌≢◌}
use mathlib.Core.Bool.{or_assoc}
use mathlib.Core.List.{List}
use native.Mathlib.Omega.{arith}
use lib.ListN.{length, get_or}
use Rattle.rules.specs.Says.{Says}
use Rattle.rules.proofs.Says.{says_less, says_equal, says_or, says_not, says_iff}
use Rattle.sigma.proofs.Calculus.{says_any}
use Rattle.sigma.proofs.Comparison.{says_differ}
use Rattle.patterns.specs.Maker.{asked_pattern, bad_asked}
use Rattle.patterns.specs.Pattern.{Pattern}
use Rattle.patterns.specs.PatternFile.{bad_digits, bad_pattern_file, bad_sizes, misnamed, pattern_at, pattern_count}
use Rattle.patterns.specs.Refusals.{Misnamed, Missized, Refusal23, Refusal24}

-- rows, columns or number of public values lie outside 1 to 8
pub says_missized : (p : Pattern) → Says (bad_sizes p) (Missized p)
unfolding bad_sizes
says_missized p =
    simp or_assoc
    (says_or (says_less _ _)
    (says_or (says_less _ _)
    (says_or (says_less _ _)
    (says_or (says_less _ _) (says_or (says_less _ _) (says_less _ _))))))

-- 23: the file is not the bytes of 1 to 32 patterns of right size
pub says_23 : (f : List ℕ) → Says (bad_pattern_file f) (Refusal23 f)
unfolding bad_pattern_file
says_23 f =
    simp or_assoc
    (says_or (says_less _ _)
    (says_or (says_differ _ _ _)
    (says_or (says_not (says_equal _ _))
    (says_or (says_less _ _)
    (says_or (says_less _ _)
    (says_or (says_any _ _ _ (λ k. says_missized (pattern_at f k)))
    (says_not (says_equal _ _))))))))

-- a digit is above the number of public values, or a value is named by no digit
pub says_misnamed : (p : Pattern) → Says (misnamed p) (Misnamed p)
unfolding misnamed
says_misnamed p =
    let size = p.rows * p.columns in
    says_or (says_any size _ _ (λ d. says_less p.values (get_or p.digits d 0)))
    (says_iff
    (says_any p.values _ _ (λ v. says_not (says_any size _ _ (λ d. says_equal (get_or p.digits d 0) (suc v))))) (
      λ (v, below, none). (suc v, omega arith, omega arith, λ d inside e. none (d, inside, e)),
      λ (v, low, high, none).
          let back : suc (v - 1) ≡ v = omega arith in
          (v - 1, omega arith, λ (d, inside, e). none d inside (e ∙ back)),
    ))

-- 24: some pattern of the file has such a digit or value
pub says_24 : (f : List ℕ) → Says (bad_digits f) (Refusal24 f)
unfolding bad_digits
says_24 f = says_any _ _ _ (λ k. says_misnamed (pattern_at f k))

-- 1: the number is above the file's count, or a count of values is wrong
pub says_asked : (f : List ℕ) (number : ℕ) (values statement : List ℕ)
    → Says (bad_asked f number values statement)
    ((pattern_count f < number) ⊎ (length values ≢ (asked_pattern f number).values) ⊎ (length statement ≢ (asked_pattern f number).rows))
unfolding bad_asked
says_asked f number values statement =
    simp or_assoc
    (says_or (says_less (pattern_count f) number)
    (says_or (says_not (says_equal (length values) (asked_pattern f number).values))
    (says_not (says_equal (length statement) (asked_pattern f number).rows))))
