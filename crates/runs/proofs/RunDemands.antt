-- What the demands ask of the calls on rounds and sessions, whose sheets are loaded by the calls `files`.
-- Assumes nothing.
use Prim.Native.Nat.{ℕ}
use mathlib.Core.Path.{◌≡◌}
use mathlib.Core.List.{List}
use Rattle.formats.specs.FileCalls.{FileCalls}
use Rattle.runs.specs.Demand3.{Demand3}
use Rattle.formats.specs.FileRefusals.{FileRefusals}
use Rattle.runs.specs.MainProtocol.{MainProtocol}
use Rattle.runs.specs.Protocol.{Protocol}
use Rattle.runs.specs.RunCalls.{RunCalls}
use Rattle.runs.specs.RunRefusals.{RunRefusals}
use Rattle.runs.specs.Sessions.{Sessions}

pub record RunDemands (files : FileCalls) (code : RunCalls) : Type 0 where
  pub loading : FileRefusals files
  pub refusals : RunRefusals code
  pub sessions : Sessions code
  pub main_protocol : (sheet : List ℕ) → (files.load sheet).refusal ≡ 0 → MainProtocol code sheet
  pub protocol : (sheet : List ℕ) → (files.load sheet).refusal ≡ 0 → Protocol code sheet
  pub knowledge : (sheet : List ℕ) → (files.load sheet).refusal ≡ 0 → Demand3 code sheet
