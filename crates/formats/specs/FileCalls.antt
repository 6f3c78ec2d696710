-- The calls on sheets and round files (01; 02, cards 5 and 7): a field for each call, and no call's definition is named. And the
-- values of a sheet, which two of them give together.
-- Assumes nothing.
use Rattle.std.specs.Prelude.{ℕ, List}
use Rattle.types.specs.declared.Counted.{Counted}
use Rattle.types.specs.declared.Fetched.{Fetched}
use Rattle.types.specs.declared.Loaded.{Loaded}
use Rattle.types.specs.declared.Part.{Part}
use Rattle.types.specs.declared.Round.{Round}
use Rattle.sigma.specs.Instance.{Instance}
use Rattle.formats.specs.Write.{Writing}
use Rattle.formats.specs.declared.Compared.{Compared}

pub record FileCalls : Type 0 where
  -- sheets: loading, its entries, and the second writer, which takes a sheet's values and a buffer
  pub load : List ℕ → Loaded
  pub load_entries : List ℕ → List (List ℕ)
  pub encode : Instance → List ℕ → Writing
  -- round files, which take sheet and file: counting, and what a round number gives
  pub count_rounds : List ℕ → List ℕ → Counted
  pub check_round : List ℕ → List ℕ → ℕ → ℕ
  pub part_of_round : List ℕ → List ℕ → ℕ → List ℕ
  pub locate_round : List ℕ → List ℕ → ℕ → Part
  pub fetch_round : List ℕ → List ℕ → ℕ → Fetched
  -- a file of no rounds: version and buffer; the record writer: sheet, buffer, bytes in use and round
  pub empty_file : ℕ → List ℕ → Writing
  pub append : List ℕ → List ℕ → ℕ → Round → Writing
  -- card 5: sheet, file and two round numbers
  pub same_commitment : List ℕ → List ℕ → ℕ → ℕ → Compared
  -- card 7: sheet, file and buffer
  pub convert : List ℕ → List ℕ → List ℕ → Writing

module _ (code : FileCalls) where
  open code use {load, load_entries}

  -- the values of a sheet as the loader gives them
  abbrev pub loaded : List ℕ → Instance
  loaded s = record { header = (load s).header; entries = load_entries s; statement = (load s).statement }
