-- `combiner::joining::product_at` meets its contract. Assumes nothing.
use Rattle.std.proofs.Common.{rules}
use Rattle.std.proofs.lemmas.Iterator.{YieldsList-from_slice}
use Rattle.std.proofs.iter.Yields.{fronts}
use Rattle.std.proofs.lemmas.Fn.{fold_over}
use Rattle.combiner.proofs.Rows.{Multiplied, multiplied_none, multiplied_more}
use Rattle.combiner.proofs.joining.product_at.Goals as goal

pub returns : goal.returns
returns c =
    let i = c.args.i in
    let m = c.args.m in
    fold_over fronts _ _ (Multiplied i m) _
    (λ rows value x next f' before called. (multiplied_more i m rows x.now before (search rules), search rules)) c.iter.result c.args.parts.now _ _
    (YieldsList-from_slice {s = c.iter.result} c.args.parts.now cc).runs (multiplied_none i m) c.fold.ensures.ran
