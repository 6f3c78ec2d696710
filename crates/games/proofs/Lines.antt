-- The lines of the game are those of exactly the challenges that are answered, rising, each with its smallest response.
-- Assumes nothing.
use Prim.Native.Nat.{ℕ, ◌<◌}
use mathlib.Core.Path.{◌≡◌, refl, ap}
use mathlib.Core.Logic.{◌↔◌, ◌≢◌, ⊎_elim}
use mathlib.Core.List.{List, [], ◌∷◌, map, flatten}
use native.Mathlib.Omega.{arith}
use Rattle.encoding.specs.Text.{ascii}
use Rattle.lists.specs.Member.{Member, Rising}
use Rattle.lists.proofs.Choices.{selected_member}
use Rattle.lists.proofs.Rising.{selected_rising}
use Rattle.rules.specs.Says.{Says}
use Rattle.rules.proofs.Says.{says_decides, says_less}
use Rattle.formats.specs.Load.{load_refusal}
use Rattle.formats.specs.Sheet.{instance_of}
use Rattle.formats.proofs.Loads.{loads_valid}
use Rattle.runs.specs.Marker.{newline, row_word}
use Rattle.runs.proofs.Loaded.{accepts_loaded}
use Rattle.sigma.specs.Instance.{Instance}
use Rattle.games.specs.Ours.{Answers, AnswersOf, Smallest}
use Rattle.games.specs.Prints.{shown, shown_line}
use Rattle.games.specs.Text.{answer_line, answered, candidate, candidates, first_answer, is_answered, lines_of}
use Rattle.games.proofs.Game.{answered_below}
use Rattle.games.proofs.Smallest.{first_accepted, first_leading, first_least, length_candidate, none_accepted}

module _ (inst : Instance) (t : List ℕ) where
  -- the response that is shown for a challenge
  abbrev pub first_response : ℕ → List ℕ
  first_response c = candidate inst.header (first_answer inst t c)

  -- the lines are those of the challenges and these, or `none`
  pub lines_shown : (cs : List ℕ) → lines_of inst t cs ≡ shown first_response cs
  unfolding lines_of shown answer_line row_word newline flatten ascii
  lines_shown [] = refl
  lines_shown (c ∷ cs) = ap flatten (each (c ∷ cs))
    where
      each : (ds : List ℕ) → map (answer_line inst t) ds ≡ map (λ d. shown_line d (first_response d)) ds
      each [] = refl
      each (d ∷ ds) = ap (λ (rest : List (List ℕ)). answer_line inst t d ∷ rest) (each ds)

  -- the test of a challenge
  pub says_answered : (c : ℕ) → Says (is_answered inst t c) (first_answer inst t c < candidates inst.header)
  unfolding is_answered
  says_answered c = says_less (first_answer inst t c) (candidates inst.header)

module _ (sheet : List ℕ) (loaded : load_refusal sheet ≡ 0)
    (one : (instance_of sheet).header.kind ≢ 1 → (instance_of sheet).header.columns ≡ 1) (t : List ℕ) where
  -- a challenge is listed exactly if it is answered
  pub listed : (c : ℕ) → Member c (answered (instance_of sheet) t) ↔ Answers sheet t c
  unfolding answered
  listed c =
      let inst = instance_of sheet in
      let valid = loads_valid sheet loaded in
      let test = says_answered inst t c in
      let members = selected_member inst.header.challenges (is_answered inst t) c in (
        λ m. (
          first_response inst t c,
          (accepts_loaded sheet loaded _).1 (first_accepted inst valid one t c (test.sound (members.0 m).1)),
        ),
        λ (r, e). members.1 (
          answered_below sheet loaded t c (r, e),
          ⊎_elim (λ (found : first_answer inst t c < candidates inst.header). test.complete found)
              (λ (none : ¬ (first_answer inst t c < candidates inst.header)).
              absurd (none_accepted inst valid one t c (omega arith) r ((accepts_loaded sheet loaded _).0 e))) (says_decides test),
        ),
      )

  -- they rise
  listed_rising : Rising (answered (instance_of sheet) t)
  unfolding answered
  listed_rising = selected_rising _ _

  -- the response of each is the smallest
  listed_smallest : (c : ℕ) → Member c (answered (instance_of sheet) t) → Smallest sheet t c (first_response (instance_of sheet) t c)
  unfolding answered instance_of
  listed_smallest c m =
      let inst = instance_of sheet in
      let valid = loads_valid sheet loaded in
      let found = (says_answered inst t c).sound ((selected_member inst.header.challenges (is_answered inst t) c).0 m).1 in
      record {
        slots = length_candidate inst valid one (first_answer inst t c);
        accepted = (accepts_loaded sheet loaded _).1 (first_accepted inst valid one t c found);
        least = λ r e. first_least inst valid one t c found r ((accepts_loaded sheet loaded _).0 e);
        leading = λ r e. first_leading inst valid one t c found r ((accepts_loaded sheet loaded _).0 e);
      }

  -- all of it
  pub answers_of : AnswersOf sheet t (answered (instance_of sheet) t) (first_response (instance_of sheet) t)
  answers_of = record { exactly = listed; rising = listed_rising; smallest = listed_smallest }
