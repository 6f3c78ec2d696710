-- What is told of a round, without the watch that is handed back.
-- Assumes nothing.
use Rattle.watches.specs.declared.Watched.{Watched}
use Rattle.watch.specs.declared.loaded.Told.{Told}

abbrev pub told_of : Watched → Told
told_of told = record { witness = told.witness; back = told.back; verdict = told.verdict }
