-- `text::write_decimal` meets its contract. The measure: the number, which is larger than its tenth.
-- Assumes nothing.
use Rattle.text.proofs.+write_decimal.Given as goal

abbrev pub decreases-write_decimal : goal.decreases-write_decimal
decreases-write_decimal l = l.number
