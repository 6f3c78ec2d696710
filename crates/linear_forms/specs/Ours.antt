-- The maker of sheets from linear forms as it is defined, by the definition that its contract cites.
-- Assumes nothing.
use Rattle.linear_forms.specs.Linear.{make_linear}
use Rattle.linear_forms.specs.LinearCalls.{LinearCalls}

abbrev pub linear_calls : LinearCalls
linear_calls = record { make_linear = make_linear }
