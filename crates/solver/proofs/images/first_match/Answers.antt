use Prim.Native.Nat.{◌*◌}
use mathlib.Core.Path.{◌≡◌, refl, sym, ◌∙◌}
use native.Mathlib.Omega.{arith}
use Rattle.std.proofs.Common.{rules, tests}
use Rattle.std.proofs.lemmas.Iterator.{YieldsList-from_range, cases_from_all}
use Rattle.numbers.proofs.Search.{find_to_end, find_to_here, find_to_on, find_to_start}
use Rattle.solver.specs.Match.{first_match, rows_agree}
use Rattle.solver.proofs.Found.{found_here, found_none}
use Rattle.solver.proofs.ImageRows.{SameRow, rows_told}
use Rattle.solver.proofs.images.first_match.Goals.{After-all}
use Rattle.solver.proofs.images.first_match.Goals as goal

pub loop-k-init : goal.loop-k-init
unfolding first_match
loop-k-init c = (find_to_start _ _, omega arith)

-- the answer on the rows of candidate k
told : (c : After-all)
    → c.all.result ≡ rows_agree c.args.table.now (c.loop-k.k * c.args.rows) c.args.rows c.args.expected
told c =
    let a = c.args in
    let start = c.loop-k.k * a.rows in
    rows_told a.table.now a.expected start a.rows _
    (cases_from_all _ _ _ (SameRow a.table.now a.expected start a.rows) (λ i. ¬ SameRow a.table.now a.expected start a.rows i)
    c.all.ensures.ran (YieldsList-from_range 0 a.rows a.rows refl (omega arith))
    (λ x q k. search (rules, tests)) (λ x q k. search (rules, tests)))

pub returns-then-all : goal.returns-then-all
returns-then-all c =
    let at = c.loop-k in
    found_here c.loop-k-test.true
    (sym (find_to_here _ at.k _ c.loop-k-test.true (sym (told (goal.at.returns-then-all c).After-all) ∙ c.if-all.true)) ∙ at.invariant.0)

pub loop-k-preserved : goal.loop-k-preserved
loop-k-preserved c =
    let at = c.loop-k in
    (find_to_on _ at.k _ c.loop-k-test.true (sym (told (goal.at.loop-k-preserved c).After-all) ∙ c.if-all.false) ∙ at.invariant.0, omega arith)

pub returns : goal.returns
returns c =
    let at = c.loop-k in
    let end : at.k ≡ c.args.count = omega (arith, c.loop-k-test.false) in
    found_none (sym end ∙ sym (find_to_end _ at.k _ c.loop-k-test.false) ∙ at.invariant.0)
