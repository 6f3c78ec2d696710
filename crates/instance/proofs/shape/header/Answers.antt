-- `instance::shape::header` meets its contract: each field is read where the sheet has it.
-- Assumes nothing.
use Rattle.formats.specs.Sheet.{header_of}
use Rattle.instance.proofs.shape.header.Goals as goal

pub returns : goal.returns
unfolding header_of
returns c = cc
