-- A watch's answer crosses field by field.
-- Assumes nothing.
use mathlib.Core.Path.{refl}
use Rattle.crossing.specs.Verdicts.{judgement}
use Rattle.watch_crossing.specs.Answers.{watch_answer}
use Rattle.watch_crossing.specs.WatchCrosses.{WatchCrosses}

pub watch_crosses : WatchCrosses
unfolding judgement watch_answer
watch_crosses = record { accepted = λ w x b. refl; rejected = λ w x b mask. refl; refused = λ w x b n. refl }
