use Rattle.std.proofs.lemmas.List.{get_or-take, length-take-le}
use Prim.Native.Nat.{◌<◌}
use mathlib.Core.Path.{◌≡◌, sym, ◌∙◌}
use mathlib.Core.Logic.{inl}
use native.Mathlib.Omega.{arith}
use Rattle.numbers.proofs.Search.{find_to_start, find_to_end, find_to_here, find_to_on}
use Rattle.ledgers.specs.Check.{first_rejected}
use Rattle.ledgers.specs.Lines.{line_at, no_line}
use Rattle.ledgers.proofs.Checking.{right}
use Rattle.ledger.proofs.Products.{few_lines, judging_ready, keeps_start, keeps_turn, named_inside, rejects_kept}
use Rattle.ledger.proofs.judging.first_rejected.Goals as goal

pub shared_ref_as_front-line-items : goal.shared_ref_as_front-line-items
shared_ref_as_front-line-items c =
    let few = few_lines c.args.base c.args.ledger c.requires in
    omega (arith, few)

pub loop-i-init : goal.loop-i-init
loop-i-init c = (find_to_start _ _, keeps_start c.args.base.modulus c.args.ledger)

pub rejects_line-requires : goal.rejects_line-requires
rejects_line-requires c =
    let ledger = c.args.ledger in
    let few = few_lines c.args.base ledger c.requires in
    let inside : c.loop-i.i < ledger.count = omega (arith, few, length-take-le ledger.count ledger.lines (omega (arith, few))) in
    rw (get_or-take ledger.count ledger.lines c.loop-i.i no_line inside)
    (judging_ready c.args.base ledger c.requires c.loop-i.i inside c.loop-i.above c.loop-i.invariant.1)

pub returns-then-rejects_line : goal.returns-then-rejects_line
unfolding first_rejected
returns-then-rejects_line c =
    let ledger = c.args.ledger in
    let few = few_lines c.args.base ledger c.requires in
    let inside : c.loop-i.i < ledger.count = omega (arith, few, length-take-le ledger.count ledger.lines (omega (arith, few))) in
    let same = rejects_kept c.loop-i.above _ c.loop-i.invariant.1 c.args.base (line_at ledger c.loop-i.i) in
    let taken = get_or-take ledger.count ledger.lines c.loop-i.i no_line inside in (
      sym (find_to_here _ _ _ inside
          (sym same ∙ sym (rw taken at c.rejects_line.ensures) ∙ c.if-rejects_line.true)) ∙ c.loop-i.invariant.0,
      inside,
    )

pub line_commitment-requires-clause-modulus : goal.line_commitment-requires-clause-modulus
line_commitment-requires-clause-modulus c =
    let large = (right c.args.base c.args.ledger c.requires).modulus in omega (arith, large)

pub line_commitment-requires-clause-names : goal.line_commitment-requires-clause-names
line_commitment-requires-clause-names c =
    let ledger = c.args.ledger in
    let few = few_lines c.args.base ledger c.requires in
    let inside : c.loop-i.i < ledger.count = omega (arith, few, length-take-le ledger.count ledger.lines (omega (arith, few))) in
    rw (get_or-take ledger.count ledger.lines c.loop-i.i no_line inside)
    (λ two. named_inside c.args.base ledger c.requires c.loop-i.i inside (inl two))

pub loop-i-preserved : goal.loop-i-preserved
loop-i-preserved c =
    let ledger = c.args.ledger in
    let few = few_lines c.args.base ledger c.requires in
    let inside : c.loop-i.i < ledger.count = omega (arith, few, length-take-le ledger.count ledger.lines (omega (arith, few))) in
    let same = rejects_kept c.loop-i.above _ c.loop-i.invariant.1 c.args.base (line_at ledger c.loop-i.i) in
    let taken = get_or-take ledger.count ledger.lines c.loop-i.i no_line inside in (
      find_to_on _ _ _ inside
          (sym same ∙ sym (rw taken at c.rejects_line.ensures) ∙ c.if-rejects_line.false) ∙ c.loop-i.invariant.0,
      keeps_turn c.args.base.modulus ledger c.loop-i.i c.loop-i.above _ c.loop-i.invariant.1 (omega (arith, few, inside))
          (rw taken at c.line_commitment.ensures),
    )

pub returns : goal.returns
unfolding first_rejected
returns c =
    let ledger = c.args.ledger in
    let few = few_lines c.args.base ledger c.requires in
    let long = length-take-le ledger.count ledger.lines (omega (arith, few)) in
    let all : c.loop-i.i ≡ ledger.count = omega (arith, long) in
    sym c.loop-i.invariant.0 ∙ find_to_end _ _ _ (omega (arith, all)) ∙ all
