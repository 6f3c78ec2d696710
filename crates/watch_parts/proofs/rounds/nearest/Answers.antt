-- `watch_parts::rounds::nearest` meets its contract: `position` gives the place at which the search ends. Assumes nothing.
use mathlib.Core.Path.{◌≡◌}
use mathlib.Core.Bool.{true, false}
use native.Mathlib.Omega.{arith}
use lib.ListN.{take}
use Rattle.std.proofs.Common.{rules, tests}
use Rattle.std.proofs.lemmas.Iterator.{IsFirst-from_position, YieldsList-from_slice}
use Rattle.watches.specs.Watch.{nearest, reuses}
use Rattle.watches.specs.Window.{no_round, remembered_at}
use Rattle.watch_parts.proofs.Found.{found}
use Rattle.watch_parts.proofs.rounds.nearest.Goals as goal

pub returns-clause-value : goal.returns-clause-value
unfolding nearest remembered_at
returns-clause-value c = λ held size.
    let args = c.args in
    let rounds = args.rounds.now in
    found (reuses args.h args.round) no_round rounds args.count (omega arith) _
    (IsFirst-from_position _ _ _ (λ x. reuses args.h args.round x ≡ true) (λ x. reuses args.h args.round x ≡ false) c.position.ensures.ran
    (YieldsList-from_slice (take args.count rounds) cc) (λ x q k. search (rules, tests)) (λ x q k. search (rules, tests)))
