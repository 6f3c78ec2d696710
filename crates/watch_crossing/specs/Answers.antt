-- What a watch answers to a round, with the verdict as three numbers.
-- Assumes nothing.
use Rattle.watches.specs.declared.Watched.{Watched}
use Rattle.crossing.specs.Verdicts.{judgement}
use Rattle.watch_crossing.specs.declared.WatchAnswer.{WatchAnswer}

-- the answer as it is handed out
unfoldable pub watch_answer : Watched → WatchAnswer
watch_answer told = record { watch = told.watch; witness = told.witness; back = told.back; verdict = judgement told.verdict }
