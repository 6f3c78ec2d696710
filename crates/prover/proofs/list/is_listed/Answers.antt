-- `prover::list::is_listed` meets its contract: the entries that are looked at are searched in order.
-- Assumes nothing.
use Prim.Native.Nat.{◌≤◌}
use lib.ListN.{length}
use Rattle.std.proofs.Common.{rules}
use Rattle.std.proofs.Math.Nat.{min_comm}
use mathlib.Core.Path.{ap, ◌∙◌}
use Prim.Native.Nat.{ℕ}
use Rattle.numbers.specs.Search.{any}
use Rattle.prover.specs.Entries.{is_entry}
use Rattle.prover.proofs.Listing.{listed_among}
use Rattle.prover.proofs.list.is_listed.Goals as goal

pub returns : goal.returns
returns c =
    let answered = c.args.answered.now in
    let t = c.args.commitment in
    let few : c.min-looked_at.result ≤ length answered = search rules in
    c.some_entry.ensures ∙ listed_among answered t _ few
    ∙ ap (λ (k : ℕ). any k (is_entry answered t)) (c.min-looked_at.ensures ∙ min_comm _ _)
