-- `pattern_file::test_file` meets its contract: 23 is asked first, and then 24.
-- Assumes nothing.
use mathlib.Core.Path.{sym, ◌∙◌}
use Rattle.rules.proofs.Lowest.{lowest_clear, pass, stop}
use Rattle.pattern_file.proofs.test_file.Goals as goal

pub returns-then-bad_file : goal.returns-then-bad_file
returns-then-bad_file c = sym (stop 23 _ (sym c.bad_file.ensures ∙ c.if-bad_file.true))

pub bad_digits-requires : goal.bad_digits-requires
bad_digits-requires c = record { listed = sym c.bad_file.ensures ∙ c.if-bad_file.false }

pub returns-then-bad_digits : goal.returns-then-bad_digits
returns-then-bad_digits c = sym (pass 23 _ (sym c.bad_file.ensures ∙ c.if-bad_file.false) ∙ stop 24 _ (sym c.bad_digits.ensures ∙ c.if-bad_digits.true))

pub returns : goal.returns
returns c = sym (lowest_clear _ (sym c.bad_file.ensures ∙ c.if-bad_file.false, (sym c.bad_digits.ensures ∙ c.if-bad_digits.false, tt)))
