-- The game on a sheet and a round file: what is refused, and the text of what is not.
-- Assumes nothing.
use Prim.Native.Nat.{ℕ, zero, suc, ◌<◌}
use mathlib.Core.Path.{◌≡◌, refl, sym, subst, ◌∙◌}
use mathlib.Core.Logic.{◌↔◌, ◌≢◌, inl, inr}
use mathlib.Core.List.{List, [], ◌∷◌, ◌++◌}
use native.Mathlib.Omega.{arith}
use Rattle.encoding.specs.Text.{ascii, decimal}
use Rattle.lists.specs.Member.{Member}
use Rattle.rules.specs.Condition.{Given}
use Rattle.rules.specs.Order.{is_sublist, refusal_order, sheet_numbers}
use Rattle.rules.specs.Refuses.{condition_numbers}
use Rattle.rules.proofs.Condition.{given, given_unique}
use Rattle.rules.proofs.Determined.{NoneHold, none_append, none_hold}
use Rattle.rules.proofs.Refuses.{refuses_tested}
use Rattle.formats.specs.Load.{load_refusal}
use Rattle.formats.specs.Ours.{file_calls}
use Rattle.formats.specs.Refusals.{RefusesOn, load_conditions}
use Rattle.formats.specs.Sheet.{header_of, instance_of}
use Rattle.formats.proofs.Loads.{loads_valid}
use Rattle.formats.proofs.Refusals.{sheet_loads}
use Rattle.runs.specs.Marker.{newline, word_line}
use Rattle.runs.specs.Ours.{run_calls}
use Rattle.sigma.proofs.Valid.{valid_kind}
use Rattle.games.specs.Game.{Answers}
use Rattle.games.specs.Ours.{game_calls, game_conditions}
use Rattle.games.specs.Prints.{AnswersOf, GamePrints, GameRefusals, commitment_words, shown}
use Rattle.games.specs.Refusals.{Refusal31}
use Rattle.games.specs.Text.{answer_lines, answered, game_refusal, game_text, named_commitment, text_of}
use Rattle.games.proofs.FirstByte.{shown_none}
use Rattle.games.proofs.Lines.{answers_of, first_response, lines_shown}
use Rattle.games.proofs.Number.{number_none}
use Rattle.games.proofs.Tests.{game_tests}
use Rattle.games.proofs.Words.{answers_agree}
use Rattle.games.proofs.WordsAgree.{named_agree}

module _ (sheet f : List ℕ) where
  -- the text of what is refused is the one line with its number
  pub refused_line_law : (n : ℕ) → game_refusal sheet f ≡ n → 0 < n → game_text sheet f ≡ ascii "refused " ++ decimal n ++ ascii "\n"
  unfolding game_text text_of word_line newline ascii
  refused_line_law zero is some = absurd (omega arith)
  refused_line_law (suc n) is some = rw is

  -- demand 1 of the text
  pub refuses : RefusesOn sheet (12 ∷ 13 ∷ 14 ∷ 31 ∷ []) (game_conditions sheet f) (game_refusal sheet f)
      (game_text sheet f ≡ ascii "refused " ++ decimal (game_refusal sheet f) ++ ascii "\n")
  unfolding game_refusal condition_numbers sheet_numbers is_sublist refusal_order
  refuses = refuses_tested _ _ refl refl _ (game_tests sheet f) (refused_line_law (game_refusal sheet f) refl)

  -- the number that the conditions give is the definition's
  pub number_is : (n : ℕ) → Given (load_conditions sheet ++ game_conditions sheet f) n → game_refusal sheet f ≡ n
  number_is n gives = given_unique (load_conditions sheet ++ game_conditions sheet f) _ n refuses.given gives

  -- ---- what is not refused

  module _ (none : game_refusal sheet f ≡ 0) where
    -- no condition holds
    pub none_holds : NoneHold (load_conditions sheet) × NoneHold (game_conditions sheet f)
    none_holds = none_append (load_conditions sheet) (game_conditions sheet f) (none_hold refuses refuses none)

    -- the sheet loads
    pub game_loads : load_refusal sheet ≡ 0
    game_loads = sheet_loads sheet none_holds.0

    -- and is small
    pub game_small : ¬ Refusal31 (header_of sheet)
    game_small = none_holds.1.1.1.1.0

    -- so in kind 2 it has one column
    pub one_column : (instance_of sheet).header.kind ≢ 1 → (instance_of sheet).header.columns ≡ 1
    unfolding instance_of
    one_column other =
        let valid = (loads_valid sheet game_loads).table in
        let two = valid_kind valid other in
        let few : ¬ (1 < (header_of sheet).rows) = λ many. game_small (inr (two, inr many)) in
        omega (arith, few, valid.some_row, valid.square two)

    -- the text is that of the answered challenges, each with its smallest response, or `none`
    pub text_shown : game_text sheet f
        ≡ shown (first_response (instance_of sheet) (named_commitment sheet f)) (answered (instance_of sheet) (named_commitment sheet f))
    unfolding game_text text_of answer_lines
    text_shown = rw none (lines_shown (instance_of sheet) (named_commitment sheet f) (answered (instance_of sheet) (named_commitment sheet f)))

    abbrev Lines : Type 0
    Lines = (challenges : List ℕ) × (response : ℕ → List ℕ) × AnswersOf run_calls sheet (commitment_words sheet f) challenges response
        × (game_text sheet f ≡ shown response challenges)

    -- all of it
    pub game_lines : Lines
    game_lines =
        let t = named_commitment sheet f in
        let challenges = answered (instance_of sheet) t in
        let response = first_response (instance_of sheet) t in (
          challenges,
          response,
          answers_agree sheet t (commitment_words sheet f) (named_agree sheet f (number_none sheet f none)) challenges response
              (answers_of sheet game_loads one_column t),
          text_shown,
        )

    -- it is `none` exactly if no challenge is answered
    pub game_none : (game_text sheet f ≡ ascii "none\n") ↔ ((c : ℕ) → ¬ Answers run_calls sheet (commitment_words sheet f) c)
    game_none =
        let (challenges, response, of, text) = game_lines in
        let empty = shown_none response challenges in (
          λ same c a.
              subst (λ (cs : List ℕ). Member c cs) (empty.0 (sym text ∙ same)) ((of.exactly c).1 a),
          λ fails. text ∙ empty.1 (nobody challenges (λ c m. fails c ((of.exactly c).0 m))),
        )
      where
        nobody : (cs : List ℕ) → ((c : ℕ) → ¬ Member c cs) → cs ≡ []
        nobody [] fails = refl
        nobody (c ∷ cs) fails = absurd (fails c (inl refl))

-- demand 1 holds of the game
pub game_refusals : GameRefusals file_calls game_calls
game_refusals = record { playing = λ sheet f. (game_refusal sheet f, refuses sheet f) }

-- and what 02 asks of its text
pub game_prints : GamePrints file_calls run_calls game_calls
game_prints = record {
  lines = λ sheet f gives. game_lines sheet f (number_is sheet f 0 gives);
  none = λ sheet f gives. game_none sheet f (number_is sheet f 0 gives);
}
