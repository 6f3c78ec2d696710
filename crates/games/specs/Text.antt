-- The text of the game (02, card 12; refusals 2 to 11 of the sheet, 12, 13, 14 and 31): for the commitment of a file's round 0, each
-- challenge that has an accepting response, with the first such response in slot order.
-- Assumes nothing.
use Rattle.std.specs.Prelude.{ℕ, zero, suc, ◌^◌, Bool, cond, ◌&&◌, ◌||◌, eqb, ltb}
use mathlib.Core.List.{List, [], ◌∷◌, ◌++◌, flatten, map}
use Rattle.types.specs.declared.Header.{Header}
use Rattle.encoding.specs.Text.{ascii, decimal}
use Rattle.lists.specs.Choices.{selected}
use Rattle.numbers.specs.Search.{find}
use Rattle.rules.specs.Rule.{Rule, ◌when◌, lowest}
use Rattle.formats.specs.Load.{load_rules}
use Rattle.formats.specs.RoundCalls.{checking, fetch_round}
use Rattle.formats.specs.Sheet.{header_of, instance_of}
use Rattle.runs.specs.Marker.{newline, row_word, word_line}
use Rattle.sigma.specs.Answer.{is_accepted}
use Rattle.sigma.specs.Instance.{Instance, is_exponent}
use Rattle.sigma.specs.Judge.{judge_loaded}
use Rattle.sigma.specs.Reads.{round_of}
use Rattle.sigma.specs.Round.{bad_commitment}
use Rattle.games.specs.Slots.{slots_of}

-- ---- the search

-- how many candidates for a response there are: q^n in kind 1, m in kind 2, whose sheets have one slot here
unfoldable pub candidates : Header → ℕ
candidates h = cond (is_exponent h) (h.order ^ h.columns) h.modulus

-- the k-th of them in slot order, first slot leading
unfoldable pub candidate : Header → ℕ → List ℕ
candidate h k = cond (is_exponent h) (slots_of h.order h.columns k) (k ∷ [])

-- the first candidate that answers the challenge c on the commitment t, and their count if none does
unfoldable pub first_answer : Instance → List ℕ → ℕ → ℕ
first_answer inst t c =
    find (λ k. is_accepted (judge_loaded inst (round_of t c (candidate inst.header k)))) 0 (candidates inst.header)

-- whether one does
unfoldable pub is_answered : Instance → List ℕ → ℕ → Bool
is_answered inst t c = ltb (first_answer inst t c) (candidates inst.header)

-- the challenges that t answers, rising
unfoldable pub answered : Instance → List ℕ → List ℕ
answered inst t = selected inst.header.challenges (is_answered inst t)

-- ---- the lines

-- the line of a challenge that is answered: the challenge and the response, slot by slot
unfoldable pub answer_line : Instance → List ℕ → ℕ → List ℕ
answer_line inst t c = decimal c ++ flatten (map row_word (candidate inst.header (first_answer inst t c))) ++ newline

-- the lines of some challenges, or `none`
unfoldable pub lines_of : Instance → List ℕ → List ℕ → List ℕ
lines_of inst t [] = ascii "none" ++ newline
lines_of inst t (c ∷ cs) = flatten (map (answer_line inst t) (c ∷ cs))

-- the lines of all challenges that t answers, or `none`
unfoldable pub answer_lines : Instance → List ℕ → List ℕ
answer_lines inst t = lines_of inst t (answered inst t)

-- ---- the refusals

-- q^n exceeds 4,096 in kind 1, or m exceeds 4,096 or s is above 1 in kind 2 (31)
unfoldable pub bad_game : Header → Bool
bad_game h =
    (eqb h.kind 1 && ltb 4096 (h.order ^ h.columns)) || (eqb h.kind 2 && (ltb 4096 h.modulus || ltb 1 h.rows))

-- the commitment of a file's round 0
unfoldable pub named_commitment : List ℕ → List ℕ → List ℕ
named_commitment sheet f = (fetch_round sheet f 0).round.commitment

-- what is asked: the sheet, the file and its round 0, the commitment, and that the game is small; neither c nor r
unfoldable pub game_rules : List ℕ → List ℕ → List Rule
game_rules sheet f =
    load_rules sheet ++ ((checking (header_of sheet) f 0).refusals ++
    (14 when bad_commitment (instance_of sheet) (named_commitment sheet f)) ∷ (31 when bad_game (header_of sheet)) ∷ [])

-- the number that the game is refused with, 0 if it is not
unfoldable pub game_refusal : List ℕ → List ℕ → ℕ
game_refusal sheet f = lowest (game_rules sheet f)

-- ---- the whole text

-- the lines of what is not refused, or the one line of a refusal
unfoldable pub text_of : ℕ → Instance → List ℕ → List ℕ
text_of zero inst t = answer_lines inst t
text_of (suc n) inst t = word_line (ascii "refused") (suc n)

-- the text on a sheet and a round file
unfoldable pub game_text : List ℕ → List ℕ → List ℕ
game_text sheet f = text_of (game_refusal sheet f) (instance_of sheet) (named_commitment sheet f)
