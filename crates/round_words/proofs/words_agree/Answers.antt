-- `round_words::words_agree` meets its contract: the words agree exactly where their bytes do.
-- Assumes nothing.
use Rattle.std.proofs.Common.{rules, tests}
use Rattle.std.proofs.lemmas.Iterator.{YieldsList-from_range, cases_from_all}
use mathlib.Core.Path.{refl}
use native.Mathlib.Omega.{arith}
use Rattle.round_words.proofs.Agreeing.{SameAt, agree_told}
use Rattle.round_words.proofs.words_agree.Goals as goal

pub returns : goal.returns
returns c =
    let args = c.args in
    agree_told args.file.now args.a args.b args.n (λ i. (c.type_inv.file i).fits) _
    (cases_from_all _ _ _ (SameAt args.file.now args.a args.b) (λ k. ¬ SameAt args.file.now args.a args.b k) c.all.ensures.ran
    (YieldsList-from_range 0 args.n args.n refl (omega arith))
    (λ x q k. search (rules, tests)) (λ x q k. search (rules, tests)))
