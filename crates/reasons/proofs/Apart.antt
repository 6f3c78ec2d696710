-- No rule is broken by a value and by a length.
-- Assumes nothing.
use Prim.Native.Nat.{ℕ}
use mathlib.Core.Path.{subst}
use mathlib.Core.List.{List}
use mathlib.Core.Logic.{inl, inr}
use native.Mathlib.Omega.{arith}
use Rattle.rules.proofs.Explains.{fact_of}
use Rattle.reasons.specs.Breaks.{Breaks, LengthBreaks, broken_by_length, broken_in_file}
use Rattle.reasons.proofs.Named.{in_file, in_sheet}

module _ (s f : List ℕ) (o l : ℕ) where
  -- 12: a value breaks it in a whole header, and a length that does not fit only where no value does
  start_apart : fact_of (broken_in_file s f o) 12 → ¬ fact_of (broken_by_length s f l) 12
  start_apart (long, value) (same, inl short) = omega arith
  start_apart (long, inl (at, (j, below, other))) (same, inr (right, misfit)) = other (right.mark j below)
  start_apart (long, inr (inl (at, other))) (same, inr (right, misfit)) = other right.version
  start_apart (long, inr (inr (at, many))) (same, inr (right, misfit)) = omega (arith, right.count)

  -- 2 asks for a whole header too, and 9 is broken by a length alone
  pub apart : (n : ℕ) → Breaks s f n o → ¬ LengthBreaks s f n l
  apart n value (inl (short, two)) =
      let (at, long, other) = (in_sheet s f 2 (λ p none. none) o).0 (subst (λ (k : ℕ). Breaks s f k o) two value) in
      omega arith
  apart n value (inr (inl (misfit, nine))) =
      (in_sheet s f 9 (λ p none. none) o).0 (subst (λ (k : ℕ). Breaks s f k o) nine value)
  apart n value (inr (inr (inl (misfit, twelve)))) =
      start_apart ((in_file s f 12 (λ p none. none) o).0 (subst (λ (k : ℕ). Breaks s f k o) twelve value)) misfit
  apart n value (inr (inr (inr none))) = none
