-- `text::write_numbered` meets its contract: the three parts stand one after the other.
-- Assumes nothing.
use borrow.Author.Rules.{rules}
use Rattle.encoding.specs.Text.{ascii}
use Rattle.encoding.proofs.Fitted.{fitted_then}
use Rattle.text.proofs.write_numbered.Goals as goal

pub returns : goal.returns
unfolding ascii
returns c = search (rules, fitted_then)
