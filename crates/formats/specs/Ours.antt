-- The calls on sheets and round files as they are defined: the definitions that the contracts cite. And the words made of calls,
-- of these calls.
-- Assumes nothing.
use Rattle.std.specs.Prelude.{ℕ, List}
use Rattle.types.specs.declared.Round.{Round}
use Rattle.sigma.specs.Instance.{Instance}
use Rattle.formats.specs.Append.{append, empty_file}
use Rattle.formats.specs.Convert.{convert}
use Rattle.formats.specs.Encode.{encode}
use Rattle.formats.specs.Load.{load, load_entries}
use Rattle.formats.specs.RoundCalls.{check_round, count_rounds, fetch_round, locate_round, part_of_round}
use Rattle.formats.specs.SameCommitment.{same_commitment}
use Rattle.formats.specs.FileCalls.{FileCalls, loaded as loaded_by}
use Rattle.formats.specs.Rounds.{append_each as append_each_by, rounds_read as rounds_read_by}
use Rattle.formats.specs.Write.{Writing}

abbrev pub file_calls : FileCalls
file_calls = record {
  load = load;
  load_entries = load_entries;
  encode = encode;
  count_rounds = count_rounds;
  check_round = check_round;
  part_of_round = part_of_round;
  locate_round = locate_round;
  fetch_round = fetch_round;
  empty_file = empty_file;
  append = append;
  same_commitment = same_commitment;
  convert = convert;
}

-- the values of a sheet as the loader gives them
abbrev pub loaded : List ℕ → Instance
loaded s = loaded_by file_calls s

-- the record writer called for each round in turn
abbrev pub append_each : List ℕ → Writing → List Round → Writing
append_each sheet w rounds = append_each_by file_calls sheet w rounds

-- the rounds of a file as the calls read them
abbrev pub rounds_read : List ℕ → List ℕ → List Round
rounds_read sheet f = rounds_read_by file_calls sheet f
