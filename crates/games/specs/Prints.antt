-- What 02's twelfth card asks of the text: a line for each challenge that has an accepting response, rising, with the smallest such
-- response in slot order; `none` if there is none; `refused` and the number if the sheet, the file, the commitment or the game is.
-- Assumes nothing.
use Rattle.std.specs.Prelude.{ℕ, ◌<◌, ◌≤◌, ◌≡◌, ◌↔◌, ◌⊎◌, get_or, length}
use mathlib.Core.List.{List, [], ◌∷◌, ◌++◌, flatten, map}
use Rattle.encoding.specs.Bytes.{number_at, words_at}
use Rattle.encoding.specs.Text.{ascii, decimal}
use Rattle.lists.specs.Member.{Member, Rising}
use Rattle.rules.specs.Condition.{Given}
use Rattle.formats.specs.FileCalls.{FileCalls}
use Rattle.formats.specs.Refusals.{RefusesOn, load_conditions}
use Rattle.formats.specs.Sheet.{header_of}
use Rattle.runs.specs.Knowledge.{Accepts}
use Rattle.runs.specs.RunCalls.{RunCalls}
use Rattle.sigma.specs.Reads.{Agree, round_of}
use Rattle.games.specs.Game.{Answers}
use Rattle.games.specs.GameCalls.{GameCalls}
use Rattle.games.specs.Refusals.{game_conditions}
use Rattle.games.specs.Slots.{Before}

module _ (files : FileCalls) (games : GameCalls) where
  open games use {game_text}

  -- demand 1: a number is given, and the text of what is refused is the one line with it
  pub record GameRefusals : Type 0 where
    pub playing : (sheet f : List ℕ)
        → (n : ℕ) × RefusesOn sheet (12 ∷ 13 ∷ 14 ∷ 31 ∷ []) (game_conditions files sheet f) n
        (game_text sheet f ≡ ascii "refused " ++ decimal n ++ ascii "\n")

-- the line of a challenge and its response: each number of it with a space before it
abbrev pub shown_line : ℕ → List ℕ → List ℕ
shown_line c r = decimal c ++ flatten (map (λ v. ascii " " ++ decimal v) r) ++ ascii "\n"

-- the lines of some challenges, each with its response, or `none`
unfoldable pub shown : (ℕ → List ℕ) → List ℕ → List ℕ
shown response [] = ascii "none\n"
shown response (c ∷ cs) = flatten (map (λ d. shown_line d (response d)) (c ∷ cs))

module _ (runs : RunCalls) where
  -- r is the smallest accepting response to c on t in slot order, in n slots
  pub record Smallest (sheet t : List ℕ) (c : ℕ) (r : List ℕ) : Type 0 where
    pub slots : length r ≡ (header_of sheet).columns
    pub accepted : Accepts runs sheet (round_of t c r)
    -- every accepted one agrees with it in n slots, or comes after it
    pub least : (r' : List ℕ) → Accepts runs sheet (round_of t c r')
        → Agree (header_of sheet).columns r r' ⊎ Before (header_of sheet).columns r r'
    -- in other words: in each slot it has the lowest number of the accepted ones that agree with it in all earlier slots
    pub leading : (r' : List ℕ) → Accepts runs sheet (round_of t c r') → (j : ℕ) → j < (header_of sheet).columns → Agree j r r'
        → get_or r j 0 ≤ get_or r' j 0

  -- the challenges are exactly those that t answers, rising, each with its smallest response
  pub record AnswersOf (sheet t : List ℕ) (challenges : List ℕ) (response : ℕ → List ℕ) : Type 0 where
    pub exactly : (c : ℕ) → Member c challenges ↔ Answers runs sheet t c
    pub rising : Rising challenges
    pub smallest : (c : ℕ) → Member c challenges → Smallest sheet t c (response c)

-- the commitment of round 0 by the file's bytes, in both versions: s numbers of four bytes each from byte 7 on
abbrev pub commitment_words : List ℕ → List ℕ → List ℕ
commitment_words sheet f = words_at f 7 (number_at 1 sheet 18)

module _ (files : FileCalls) (runs : RunCalls) (games : GameCalls) where
  open games use {game_text}

  pub record GamePrints : Type 0 where
    -- the text of what is not refused has the lines of exactly the answered challenges
    pub lines : (sheet f : List ℕ) → Given (load_conditions sheet ++ game_conditions files sheet f) 0
        → (challenges : List ℕ) × (response : ℕ → List ℕ) × AnswersOf runs sheet (commitment_words sheet f) challenges response
        × (game_text sheet f ≡ shown response challenges)
    -- it is `none` exactly if no challenge is answered
    pub none : (sheet f : List ℕ) → Given (load_conditions sheet ++ game_conditions files sheet f) 0
        → (game_text sheet f ≡ ascii "none\n") ↔ ((c : ℕ) → ¬ Answers runs sheet (commitment_words sheet f) c)
