use Rattle.std.proofs.lemmas.List.{get_or-take, length-take-le}
use Prim.Native.Nat.{◌-◌, ◌<◌}
use mathlib.Core.Path.{ap, ◌∙◌}
use mathlib.Core.List.{◌++◌}
use native.Mathlib.Omega.{arith}
use lib.ListN.{replicate}
use Rattle.lists.specs.Places.{tabulate}
use Rattle.lists.proofs.Filling.{filled_copies, filled_start, filled_turn}
use Rattle.ledgers.specs.Lines.{no_entry}
use Rattle.ledgers.specs.Write.{ledger_of, made_line, openings, zero_line}
use Rattle.ledgers.specs.declared.Line.{Line}
use Rattle.ledger_writer.proofs.Opening.{openings_read, openings_start, openings_turn}
use Rattle.ledger_writer.proofs.Ready.{few_entries, modulus_above, named_inside, order_above, product_ready}
use Rattle.ledger_writer.proofs.made.made_lines.Goals as goal

pub shared_ref_as_front-entry-items : goal.shared_ref_as_front-entry-items
shared_ref_as_front-entry-items c =
    let few = few_entries c.args.base c.args.entries c.requires in
    omega (arith, few)

pub loop-i-init : goal.loop-i-init
loop-i-init c =
    let few = few_entries c.args.base c.args.entries c.requires in
    (filled_start few, openings_start _ c.args.entries)

pub line_opening-own-requires-clause-order : goal.line_opening-own-requires-clause-order
line_opening-own-requires-clause-order c = order_above c.args.base c.args.entries c.requires

pub line_opening-own-requires-clause-names : goal.line_opening-own-requires-clause-names
line_opening-own-requires-clause-names c =
    let entries = c.args.entries in
    let few = few_entries c.args.base entries c.requires in
    let inside : c.loop-i.i < entries.count = omega (arith, few, length-take-le entries.count entries.entries (omega (arith, few))) in
    rw (get_or-take entries.count entries.entries c.loop-i.i no_entry inside)
    (named_inside c.args.base entries c.requires c.loop-i.i inside)

pub made_line-requires-clause-modulus : goal.made_line-requires-clause-modulus
made_line-requires-clause-modulus c = modulus_above c.args.base c.args.entries c.requires

pub made_line-requires-clause-product : goal.made_line-requires-clause-product
made_line-requires-clause-product c =
    let entries = c.args.entries in
    let few = few_entries c.args.base entries c.requires in
    let inside : c.loop-i.i < entries.count = omega (arith, few, length-take-le entries.count entries.entries (omega (arith, few))) in
    rw (get_or-take entries.count entries.entries c.loop-i.i no_entry inside)
    (product_ready c.args.base entries c.requires c.loop-i.i inside)

pub loop-i-preserved : goal.loop-i-preserved
unfolding made_line
loop-i-preserved c =
    let q = c.args.base.order in
    let entries = c.args.entries in
    let i = c.loop-i.i in
    let few = few_entries c.args.base entries c.requires in
    let inside : i < entries.count = omega (arith, few, length-take-le entries.count entries.entries (omega (arith, few))) in
    let taken = get_or-take entries.count entries.entries i no_entry inside in
    let (filled, kept) = c.loop-i.invariant in
    let read = openings_read c.loop-i.above (openings q entries i) kept in
    let own = c.line_opening-own.ensures (openings q entries i) read in (
      filled_turn filled inside (rw taken at (c.made_line.ensures (openings q entries i) read own)),
      openings_turn q entries i c.loop-i.above _ kept (omega (arith, few, inside)) (rw taken at own),
    )

pub returns : goal.returns
unfolding ledger_of zero_line
returns c =
    let entries = c.args.entries in
    let count = entries.count in
    let few = few_entries c.args.base entries c.requires in
    let long = length-take-le count entries.entries (omega (arith, few)) in
    let made = made_line c.args.base entries in
    filled_copies c.plain_line-lines.result 64 count c.loop-i.invariant.0 (omega (arith, long))
    ∙ ap (λ (d : Line). tabulate count made ++ replicate (64 - count) d) c.plain_line-lines.ensures
