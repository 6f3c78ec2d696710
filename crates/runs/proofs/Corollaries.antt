-- What follows from the demands on rounds and sessions holds of the calls.
-- Assumes nothing.
use Rattle.formats.specs.Load.{load}
use Rattle.formats.specs.Ours.{file_calls}
use Rattle.runs.specs.Corollaries.{RunCorollaries}
use Rattle.runs.specs.Ours.{run_calls}
use Rattle.runs.proofs.Demand3.{rounds_listed}
use Rattle.runs.proofs.Protocol.{first_named}
use Rattle.runs.proofs.ReadAlone.{read_alone, sessions_read_alone}

pub run_corollaries : RunCorollaries file_calls run_calls
unfolding load
run_corollaries = record {
  read_alone = read_alone;
  sessions_read_alone = sessions_read_alone;
  first_row = first_named;
  listed = rounds_listed;
}
