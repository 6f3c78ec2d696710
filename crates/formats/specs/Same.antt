-- Two codes answer the same to every call on sheets and round files: every value and every byte, refused calls too.
-- Assumes nothing.
use Rattle.std.specs.Prelude.{ℕ, ◌≡◌, List}
use Rattle.types.specs.declared.Round.{Round}
use Rattle.sigma.specs.Instance.{Instance}
use Rattle.formats.specs.FileCalls.{FileCalls}

pub record SameFiles (code code' : FileCalls) : Type 0 where
  pub load : (sheet : List ℕ) → code.load sheet ≡ code'.load sheet
  pub load_entries : (sheet : List ℕ) → code.load_entries sheet ≡ code'.load_entries sheet
  pub encode : (inst : Instance) (buffer : List ℕ) → code.encode inst buffer ≡ code'.encode inst buffer
  pub count_rounds : (sheet file : List ℕ) → code.count_rounds sheet file ≡ code'.count_rounds sheet file
  pub check_round : (sheet file : List ℕ) (k : ℕ) → code.check_round sheet file k ≡ code'.check_round sheet file k
  pub part_of_round : (sheet file : List ℕ) (k : ℕ) → code.part_of_round sheet file k ≡ code'.part_of_round sheet file k
  pub locate_round : (sheet file : List ℕ) (k : ℕ) → code.locate_round sheet file k ≡ code'.locate_round sheet file k
  pub fetch_round : (sheet file : List ℕ) (k : ℕ) → code.fetch_round sheet file k ≡ code'.fetch_round sheet file k
  pub empty_file : (version : ℕ) (buffer : List ℕ) → code.empty_file version buffer ≡ code'.empty_file version buffer
  pub append : (sheet buffer : List ℕ) (used : ℕ) (round : Round)
      → code.append sheet buffer used round ≡ code'.append sheet buffer used round
  pub same_commitment : (sheet file : List ℕ) (i j : ℕ) → code.same_commitment sheet file i j ≡ code'.same_commitment sheet file i j
  pub convert : (sheet file buffer : List ℕ) → code.convert sheet file buffer ≡ code'.convert sheet file buffer
