-- The reason's calls as they are defined, by the definitions that the contracts cite, and the words on calls of these.
-- Assumes nothing.
use Rattle.std.specs.Prelude.{ℕ, List}
use Rattle.types.specs.declared.Round.{Round}
use Rattle.rules.specs.Condition.{Condition}
use Rattle.formats.specs.Ours.{file_calls}
use Rattle.reasons.specs.Reason.{reason_text}
use Rattle.reasons.specs.ReasonCalls.{ReasonCalls}
use Rattle.reasons.specs.ReasonsTrue.{
  LengthLine as LengthLineBy,
  OffsetLine as OffsetLineBy,
  RejectedLine as RejectedLineBy,
  first_round as first_round_by,
  reason_conditions as reason_conditions_by,
}

abbrev pub reason_calls : ReasonCalls
reason_calls = record {
  reason_text = reason_text;
}

-- ---- round 0

abbrev pub first_round : List ℕ → List ℕ → Round
first_round s f = first_round_by file_calls s f

abbrev pub reason_conditions : List ℕ → List ℕ → List Condition
reason_conditions s f = reason_conditions_by file_calls s f

-- ---- lines

abbrev pub OffsetLine : List ℕ → List ℕ → ℕ → Type 0
OffsetLine s f n = OffsetLineBy reason_calls s f n

abbrev pub LengthLine : List ℕ → List ℕ → ℕ → Type 0
LengthLine s f n = LengthLineBy reason_calls s f n

abbrev pub RejectedLine : List ℕ → List ℕ → Type 0
RejectedLine s f = RejectedLineBy file_calls reason_calls s f
