-- The demands determine the calls on pattern files: two codes that meet them answer the same to every input.
-- Assumes nothing.
use Prim.Native.Nat.{ℕ}
use mathlib.Core.Path.{◌≡◌}
use mathlib.Core.List.{List}
use Rattle.rules.proofs.Determined.{refused_or_not}
use Rattle.formats.proofs.OnlyWriting.{keeps_only, puts_only}
use Rattle.patterns.specs.MakerCalls.{MakerCalls}
use Rattle.patterns.specs.PatternCalls.{PatternCalls, PatternRefusals}
use Rattle.patterns.specs.Same.{SameMakers}

-- what the demands ask of the calls on pattern files
pub record MakerDemands (code : MakerCalls) : Type 0 where
  pub refusals : PatternRefusals code
  pub patterns : PatternCalls code

module _ (code code' : MakerCalls) (d : MakerDemands code) (d' : MakerDemands code') where
  -- the sheet maker
  make_same : (f : List ℕ) (number m ℓ K : ℕ) (values z buffer : List ℕ)
      → code.make_from f number m ℓ K values z buffer ≡ code'.make_from f number m ℓ K values z buffer
  make_same f number m ℓ K values z buffer =
      refused_or_not (d.refusals.making f number m ℓ K values z buffer) (d'.refusals.making f number m ℓ K values z buffer)
      (λ n. keeps_only _ _ n)
      (λ e e' none.
      puts_only _ _ (d.patterns.written f number m ℓ K values z buffer e) (d'.patterns.written f number m ℓ K values z buffer e'))

  -- the shipped file
  shipped_same : (buffer : List ℕ) → code.write_shipped buffer ≡ code'.write_shipped buffer
  shipped_same buffer =
      refused_or_not (d.refusals.shipping buffer) (d'.refusals.shipping buffer) (λ n. keeps_only _ _ n)
      (λ e e' none. puts_only _ _ (d.patterns.ships buffer e) (d'.patterns.ships buffer e'))

  -- both of them
  pub only_makers : SameMakers code code'
  only_makers = record { make_from = make_same; write_shipped = shipped_same }
