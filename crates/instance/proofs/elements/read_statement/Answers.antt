-- `instance::elements::read_statement` meets its contract: the statement stands behind the entries, at the end of the sheet.
-- Assumes nothing.
use native.Mathlib.Omega.{arith}
use Rattle.formats.specs.Sheet.{sheet_length, statement_of}
use Rattle.instance.proofs.elements.read_statement.Goals as goal

pub read_words-requires-clause-within : goal.read_words-requires-clause-within
unfolding sheet_length
read_words-requires-clause-within c = omega arith

pub returns : goal.returns
unfolding statement_of
returns c = rw (← c.entry_count.ensures.value) c.read_words.ensures.value
