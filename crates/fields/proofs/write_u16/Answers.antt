-- `fields::write_u16` meets its contract.
-- Assumes nothing.
use mathlib.Core.Path.{◌∙◌}
use Rattle.fields.proofs.Laws.{bytes_two, field_copied}
use Rattle.fields.proofs.write_u16.Goals as goal

pub returns : goal.returns
returns c =
    record { stored = field_copied 2 c.args.v _ _ c.args.at c.requires.room (c.copy_from_slice.ensures.after ∙ c.to_be_bytes.ensures ∙ bytes_two c.args.v) }
