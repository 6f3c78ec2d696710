-- The text of the game in each case (02, card 12), without the conditions of its refusals: by what 01's calls answer and by the bytes of
-- the two files. So a condition that is changed together with its test is seen, and so is a number.
-- Assumes nothing.
use Rattle.std.specs.Prelude.{ℕ, ◌^◌, ◌<◌, ◌≤◌, ◌≡◌, ◌⊎◌, ◌≢◌, List, ◌++◌}
use Rattle.encoding.specs.Bytes.{number_at}
use Rattle.encoding.specs.Text.{ascii, decimal}
use Rattle.formats.specs.FileCalls.{FileCalls}
use Rattle.runs.specs.RunCalls.{RunCalls}
use Rattle.games.specs.GameCalls.{GameCalls}
use Rattle.games.specs.Prints.{commitment_words}

-- a sheet of kind 1 with at most 4,096 choices of n numbers below q, or of kind 2 with a modulus of at most 4,096 and one row
abbrev pub SmallBytes : List ℕ → Type 0
SmallBytes sheet =
    ((number_at 1 sheet 5 ≡ 1) × (number_at 4 sheet 10 ^ number_at 1 sheet 19 ≤ 4096)) ⊎
    ((number_at 1 sheet 5 ≡ 2) × (number_at 4 sheet 6 ≤ 4096) × (number_at 1 sheet 18 ≡ 1))

-- the number with which a new session of Vic's refuses the commitment of round 0
abbrev pub vics_refusal : RunCalls → List ℕ → List ℕ → ℕ
vics_refusal runs sheet f = (runs.take_commitment sheet runs.new_verifier (commitment_words sheet f)).refusal

module _ (files : FileCalls) (runs : RunCalls) (games : GameCalls) where
  open files use {check_round}
  open games use {game_text}

  pub record GameRuns : Type 0 where
    -- what 01's check of round 0 refuses has the check's number
    pub unchecked : (sheet f : List ℕ) → 0 < check_round sheet f 0
        → game_text sheet f ≡ ascii "refused " ++ decimal (check_round sheet f 0) ++ ascii "\n"
    -- after it, a commitment that Vic does not take has 14
    pub bad_commitment_law : (sheet f : List ℕ) → check_round sheet f 0 ≡ 0 → 0 < vics_refusal runs sheet f
        → game_text sheet f ≡ ascii "refused 14\n"
    -- after that, a sheet that is not small has 31
    pub too_large : (sheet f : List ℕ) → check_round sheet f 0 ≡ 0 → vics_refusal runs sheet f ≡ 0 → ¬ SmallBytes sheet
        → game_text sheet f ≡ ascii "refused 31\n"
    -- and nothing else is refused
    pub plays : (sheet f : List ℕ) → check_round sheet f 0 ≡ 0 → vics_refusal runs sheet f ≡ 0 → SmallBytes sheet
        → (n : ℕ) → game_text sheet f ≢ ascii "refused " ++ decimal n ++ ascii "\n"
    -- c and r of round 0, the other rounds and the version play no part
    pub commitment_alone : (sheet f f' : List ℕ) → check_round sheet f 0 ≡ 0 → check_round sheet f' 0 ≡ 0
        → commitment_words sheet f ≡ commitment_words sheet f' → game_text sheet f ≡ game_text sheet f'
