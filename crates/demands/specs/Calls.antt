-- The public calls of 01 and of 02's cards 1 to 14, those of each topic together: what any code has to give. No call's definition is
-- named.
-- Assumes nothing.
use Rattle.disjunctions.specs.OrCalls.{OrCalls}
use Rattle.formats.specs.FileCalls.{FileCalls}
use Rattle.games.specs.GameCalls.{GameCalls}
use Rattle.ledgers.specs.LedgerCalls.{LedgerCalls}
use Rattle.linear_forms.specs.LinearCalls.{LinearCalls}
use Rattle.patterns.specs.MakerCalls.{MakerCalls}
use Rattle.products.specs.TeamCalls.{TeamCalls}
use Rattle.reasons.specs.ReasonCalls.{ReasonCalls}
use Rattle.runs.specs.MarkerCalls.{MarkerCalls}
use Rattle.runs.specs.RunCalls.{RunCalls}
use Rattle.watches.specs.WatchCalls.{WatchCalls}

pub record Calls : Type 0 where
  -- sheets and round files
  pub files : FileCalls
  -- rounds, Peggy's session, with card 13's saved states, and Vic's
  pub runs : RunCalls
  -- the marker's text
  pub marker : MarkerCalls
  -- card 1: the reason
  pub reasons : ReasonCalls
  -- card 2: sheets from patterns
  pub makers : MakerCalls
  -- card 4: the OR proof
  pub either : OrCalls
  -- card 6: the team's combiner
  pub team : TeamCalls
  -- card 9: a watch for used nonces
  pub watches : WatchCalls
  -- card 10: sheets from linear forms
  pub linear : LinearCalls
  -- card 12: Peggy against Vic
  pub games : GameCalls
  -- card 14: a ledger of committed values
  pub ledgers : LedgerCalls
