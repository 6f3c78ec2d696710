-- The 64 numbers of a sheet's entries, by what loading the sheet gives.
-- Assumes nothing.
use Prim.Native.Nat.{ℕ}
use mathlib.Core.Path.{◌≡◌, sym, ap, ◌∙◌}
use mathlib.Core.List.{List}
use native.Mathlib.Omega.{arith}
use Rattle.rules.proofs.Answer.{unless_refused_zero, unless_refused_positive}
use Rattle.refusals.specs.declared.Refusal.{Refusal}
use Rattle.refusals.specs.Number.{number}
use Rattle.refusals.proofs.Positive.{number_positive}
use Rattle.sigma.specs.Instance.{Instance}
use Rattle.formats.specs.Load.{load, load_entries, load_refusal}
use Rattle.formats.specs.Sheet.{instance_of}
use Rattle.formats.proofs.Loads.{entries_given}
use Rattle.tables.specs.Flat.{flat, flat_unless_refused}

module _ (s : List ℕ) where
  -- the number is that of loading
  pub entries_number : {n : ℕ} → n ≡ load_refusal s → n ≡ (load s).refusal
  unfolding load
  entries_number is_number = is_number

  module _ (before : List ℕ) where
    -- a refused sheet leaves the numbers
    pub entries_kept : (refusal : Refusal) → number refusal ≡ load_refusal s → before ≡ flat_unless_refused s before
    unfolding flat_unless_refused load
    entries_kept refusal is_number =
        sym (unless_refused_positive (flat (load_entries s)) before (load_refusal s)
        (omega (arith, is_number, number_positive refusal)))

    -- one that loads puts its entries there
    pub entries_put : {inst : Instance} {numbers : List ℕ} → 0 ≡ load_refusal s → inst ≡ instance_of s → numbers ≡ flat inst.entries
        → numbers ≡ flat_unless_refused s before
    unfolding flat_unless_refused load
    entries_put is_number values is_flat =
        is_flat ∙ ap flat (ap (λ (i : Instance). i.entries) values ∙ sym (entries_given s (sym is_number)))
        ∙ sym (rw (sym is_number, unless_refused_zero (flat (load_entries s)) before))
