-- `prime_search::in_word` meets its contract.
-- Assumes nothing.
use Rattle.prime_words.specs.Words.{inverse}
use Rattle.prime_search.proofs.Shares.{shares_pass}
use Rattle.prime_search.proofs.in_word.Goals as goal

pub returns-then-shares_above : goal.returns-then-shares_above
unfolding inverse
returns-then-shares_above c =
    let (good, large, _, word, bound, none) = c.requires in
    let above = c.shares_above.ensures c.if-shares_above.true in
    shares_pass _ _ _ _ _ good large word c.ranges.order.fits bound none above
