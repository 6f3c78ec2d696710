-- `watch_parts::bytes::held_bytes` meets its contract. Assumes nothing.
use Rattle.watch_parts.proofs.HeldBytes.{held_front}
use Rattle.watch_parts.proofs.bytes.held_bytes.Goals as goal

pub returns : goal.returns
returns c = held_front 308 c.args.sheet.now c.copy_from_slice.ensures.after
