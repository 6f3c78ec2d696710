-- Exactly when the calls on pattern files are not refused, in other words than the conditions: it holds of the definitions.
-- Assumes nothing.
use Prim.Native.Nat.{ℕ, zero, suc, ◌≤◌}
use mathlib.Core.Path.{◌≡◌, sym, ap, ◌∙◌}
use mathlib.Core.Logic.{◌↔◌, ⊎_elim}
use mathlib.Core.Bool.{false}
use mathlib.Core.List.{List, ◌∷◌}
use native.Mathlib.Omega.{arith}
use lib.ListN.{length, get_or}
use Rattle.lists.specs.Member.{Member}
use Rattle.lists.specs.Places.{tabulate}
use Rattle.rules.proofs.Says.{says_false}
use Rattle.formats.specs.Encode.{encode}
use Rattle.formats.specs.Ours.{file_calls}
use Rattle.formats.specs.Write.{Writing}
use Rattle.patterns.specs.Maker.{asked, asked_pattern, bad_asked, make_from}
use Rattle.patterns.specs.Ours.{maker_calls}
use Rattle.patterns.specs.Pattern.{Pattern, root}
use Rattle.patterns.specs.PatternCalls.{Named, Spells}
use Rattle.patterns.specs.PatternFile.{bad_digits, bad_pattern_file, pattern_at, pattern_count}
use Rattle.patterns.specs.RunsWhere.{MakersRun}
use Rattle.patterns.proofs.Files.{passes_23}
use Rattle.patterns.proofs.Maker.{asked_passes, asked_root, maker_encodes}
use Rattle.patterns.proofs.Making.{make_encodes, make_passes}
use Rattle.patterns.proofs.Shipped.{shipped_runs}
use Rattle.patterns.proofs.Spelled.{filed_spells, spells_count, spells_digits, spells_filed, spells_number}
use Rattle.patterns.proofs.Tests.{says_24, says_asked}

-- the pattern that a number asks for is the root or that of the number
asked_among : {ps : List Pattern} {f : List ℕ} → Spells ps f → (number : ℕ) → number ≤ length ps
    → asked_pattern f number ≡ get_or (root ∷ ps) number root
asked_among {ps} {f} s zero few = (asked_root f).1
asked_among {ps} {f} s (suc k) few = spells_number s k few

module _ (f : List ℕ) (number m ℓ K : ℕ) (values z buffer : List ℕ) where
  -- a sheet is made exactly if the file, the number and the counts are right and the second writer writes the asked values
  makes_encoded : ((make_from f number m ℓ K values z buffer).answer.refusal ≡ 0)
      ↔ (((ps : List Pattern) × Spells ps f × ((p : Pattern) → Member p ps → Named p) × (number ≤ length ps)
      × (length values ≡ (get_or (root ∷ ps) number root).values) × (length z ≡ (get_or (root ∷ ps) number root).rows))
      × ((encode (asked f number m ℓ K values z) buffer).answer.refusal ≡ 0))
  makes_encoded = (
    λ e.
        let (filed, digits, fits) = make_passes f number m ℓ K values z buffer e in
        let ps = tabulate (pattern_count f) (pattern_at f) in
        let s = filed_spells ((passes_23 f).0 filed) in
        let (few, counted, rowed) = asked_passes f number values z fits in
        let inside : number ≤ length ps = omega (arith, spells_count s) in
        let same = asked_among s number inside in (
          (
            ps,
            s,
            (spells_digits ps f s).0 ((says_false (says_24 f)).0 digits),
            inside,
            counted ∙ ap (λ (p : Pattern). p.values) same,
            rowed ∙ ap (λ (p : Pattern). p.rows) same,
          ),
          sym (ap (λ (w : Writing). w.answer.refusal) (make_encodes f number m ℓ K values z buffer e)) ∙ e,
        ),
    λ ((ps, s, names, few, counted, rowed), e).
        let same = asked_among s number few in
        let count = spells_count s in
        let fits : bad_asked f number values z ≡ false =
        (says_false (says_asked f number values z)).1
        (⊎_elim (λ high. omega arith)
        (⊎_elim (λ other. other (counted ∙ sym (ap (λ (p : Pattern). p.values) same)))
        (λ other. other (rowed ∙ sym (ap (λ (p : Pattern). p.rows) same))))) in
        let digits : bad_digits f ≡ false = (says_false (says_24 f)).1 ((spells_digits ps f s).1 names) in
        let filed : bad_pattern_file f ≡ false = (passes_23 f).1 (spells_filed s) in
        ap (λ (w : Writing). w.answer.refusal) (maker_encodes f number m ℓ K values z filed digits fits buffer) ∙ e,
  )

pub makers_run : MakersRun file_calls maker_calls
makers_run = record { makes = makes_encoded; ships = shipped_runs }
