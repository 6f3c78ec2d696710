-- The marker's verdicts by 01's equation.
-- Assumes nothing.
use Prim.Native.Nat.{ℕ}
use mathlib.Core.Path.{◌≡◌}
use mathlib.Core.Logic.{◌↔◌}
use mathlib.Core.List.{List}
use Rattle.types.specs.declared.Verdict.TheVariants.{Accepted}
use Rattle.formats.specs.Load.{load_refusal}
use Rattle.formats.specs.RoundCalls.{fetch_round}
use Rattle.formats.specs.Sheet.{instance_of}
use Rattle.sigma.specs.Meaning.{Fits, Holds}
use Rattle.runs.specs.Marker.{verdict_on}
use Rattle.runs.proofs.Protocol.{sheet_accepted}

-- the marker's verdict on round k is accepted exactly by 01's equation on what the read call gives
pub marker_accepts : (sheet f : List ℕ) → load_refusal sheet ≡ 0 → (k : ℕ)
    → (verdict_on sheet f k ≡ Accepted)
    ↔ (Fits (instance_of sheet) (fetch_round sheet f k).round × Holds (instance_of sheet) (fetch_round sheet f k).round)
unfolding verdict_on
marker_accepts sheet f e k = sheet_accepted sheet e (fetch_round sheet f k).round
