use Rattle.text.proofs.Laws.{digit_fitted, tenth_fitted}
use Rattle.text.proofs.+write_decimal.Goals as goal

pub returns-then-number-lt10 : goal.returns-then-number-lt10
returns-then-number-lt10 t c = digit_fitted c.if-number-lt10.true c.write_digit.ensures

pub returns : goal.returns
returns t c = tenth_fitted c.if-number-lt10.false c.write_decimal-last.ensures c.write_digit-2.ensures
