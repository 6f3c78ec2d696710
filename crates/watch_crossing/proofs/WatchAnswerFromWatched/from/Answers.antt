-- `watch_crossing::WatchAnswer::from` meets its contract: the verdict is handed out as three numbers, and the rest is copied.
-- Assumes nothing.
use Rattle.watch_crossing.specs.Answers.{watch_answer}
use Rattle.watch_crossing.proofs.WatchAnswerFromWatched.from.Goals as goal

pub returns : goal.returns
unfolding watch_answer
returns c = rw c.from.ensures
