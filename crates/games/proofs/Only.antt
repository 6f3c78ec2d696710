-- The demands determine the game's text: two games that meet them over the same calls print the same on every sheet and file.
-- Assumes nothing.
use Prim.Native.Nat.{ℕ, ◌<◌}
use mathlib.Core.Path.{◌≡◌, refl, sym, ap, subst, ◌∙◌}
use mathlib.Core.Logic.{⊎_elim}
use mathlib.Core.List.{List, [], ◌∷◌, ◌++◌}
use native.Mathlib.Omega.{arith}
use lib.ListN.{get_or, length}
use lib.Seq.{ext_get_or}
use Rattle.types.specs.declared.Fetched.{Fetched}
use Rattle.types.specs.declared.Round.{Round}
use Rattle.encoding.specs.Text.{ascii, decimal}
use Rattle.lists.specs.Member.{Member}
use Rattle.lists.proofs.Rising.{rising_only}
use Rattle.lists.proofs.Words.{words_agree}
use Rattle.rules.specs.Condition.{Condition, Given, ◌if◌}
use Rattle.rules.proofs.Determined.{below_or_not, refused_or_not}
use Rattle.formats.specs.FileCalls.{FileCalls}
use Rattle.formats.specs.Refusals.{RefusesOn, load_conditions, round_conditions}
use Rattle.formats.specs.Sheet.{header_of, instance_of}
use Rattle.runs.specs.Knowledge.{Accepts}
use Rattle.runs.specs.RunCalls.{RunCalls}
use Rattle.runs.specs.Same.{SameRuns}
use Rattle.sigma.specs.Reads.{Agree}
use Rattle.sigma.specs.Refusals.{Refusal14}
use Rattle.games.specs.GameCalls.{GameCalls}
use Rattle.games.specs.Prints.{AnswersOf, GamePrints, GameRefusals, Smallest, commitment_words, shown, shown_line}
use Rattle.games.specs.Refusals.{Refusal31, game_conditions}
use Rattle.games.specs.Same.{SameGames}
use Rattle.games.specs.Slots.{Before}

-- of two responses not both come before the other
before_once : (n : ℕ) (r r' : List ℕ) → Before n r r' → ¬ Before n r' r
before_once n r r' a b =
    below_or_not a.slot b.slot (λ first. absurd (omega (arith, a.lower, b.earlier a.slot first)))
    (λ late. below_or_not b.slot a.slot (λ first. absurd (omega (arith, b.lower, a.earlier b.slot first)))
    (λ early.
    let same : a.slot ≡ b.slot = omega (arith, late, early) in
    let here = subst (λ (j : ℕ). get_or r' j 0 < get_or r j 0) (sym same) b.lower in
    absurd (omega (arith, a.lower, here))))

module _ {runs runs' : RunCalls} (same : SameRuns runs runs') where
  -- the same rounds are accepted
  accepts_over : (sheet : List ℕ) (round : Round) → Accepts runs' sheet round → Accepts runs sheet round
  accepts_over sheet round e = same.judge_round sheet round ∙ e

  accepts_back : (sheet : List ℕ) (round : Round) → Accepts runs sheet round → Accepts runs' sheet round
  accepts_back sheet round e = sym (same.judge_round sheet round) ∙ e

  -- so the smallest response is one
  smallest_same : (sheet t : List ℕ) (c : ℕ) (r r' : List ℕ) → Smallest runs sheet t c r → Smallest runs' sheet t c r' → r ≡ r'
  smallest_same sheet t c r r' s s' =
      let n = (header_of sheet).columns in
      let long : length r ≡ length r' = s.slots ∙ sym s'.slots in
      let whole : Agree n r r' → r ≡ r' = λ agree. ext_get_or 0 r r' long (λ j b. agree j (omega (arith, s.slots))) in
      ⊎_elim whole
      (λ first. ⊎_elim (λ (agree : Agree n r' r). whole (λ j b. sym (agree j b)))
      (λ (later : Before n r' r). absurd (before_once n r r' first later))
      (s'.least r (accepts_back sheet _ s.accepted))) (s.least r' (accepts_over sheet _ s'.accepted))

  -- and the lines
  shown_same : (sheet t : List ℕ) (cs cs' : List ℕ) (response response' : ℕ → List ℕ) → AnswersOf runs sheet t cs response
      → AnswersOf runs' sheet t cs' response' → shown response cs ≡ shown response' cs'
  unfolding shown
  shown_same sheet t cs cs' response response' a a' =
      let one : cs ≡ cs' = rising_only cs cs' a.rising a'.rising (λ c. (
        λ m. let (r, e) = (a.exactly c).0 m in (a'.exactly c).1 (r, accepts_back sheet _ e),
        λ m. let (r, e) = (a'.exactly c).0 m in (a.exactly c).1 (r, accepts_over sheet _ e),
      )) in
      ap (shown response) one
      ∙ alike cs' (λ c m.
      smallest_same sheet t c (response c) (response' c)
      (a.smallest c (subst (λ (ds : List ℕ). Member c ds) (sym one) m)) (a'.smallest c m))
    where
      alike : (ds : List ℕ) → ((c : ℕ) → Member c ds → response c ≡ response' c) → shown response ds ≡ shown response' ds
      alike [] each = refl
      alike (d ∷ ds) each = words_agree _ _ (d ∷ ds) (λ c m. ap (shown_line c) (each c m))

module _ {files files' : FileCalls} {runs runs' : RunCalls} {games games' : GameCalls} (r : GameRefusals files games)
    (r' : GameRefusals files' games') (d : GamePrints files runs games) (d' : GamePrints files' runs' games')
    (fetched : (s f : List ℕ) (k : ℕ) → files.fetch_round s f k ≡ files'.fetch_round s f k) (same : SameRuns runs runs') where
  text_same : (sheet f : List ℕ) → games.game_text sheet f ≡ games'.game_text sheet f
  text_same sheet f =
      let asked : Fetched → List Condition = λ x.
      round_conditions (header_of sheet) f 0 ++
      (14 if Refusal14 (instance_of sheet) x.round.commitment) ∷ (31 if Refusal31 (header_of sheet)) ∷ [] in
      let (n, number) = r.playing sheet f in
      let (n', number') = r'.playing sheet f in
      let given' = number'.given in
      refused_or_not number
      (subst (λ (x : Fetched). RefusesOn sheet (12 ∷ 13 ∷ 14 ∷ 31 ∷ []) (asked x) n'
      (games'.game_text sheet f ≡ ascii "refused " ++ decimal n' ++ ascii "\n")) (sym (fetched sheet f 0)) number')
      (λ alike left left'. left ∙ ap (λ (k : ℕ). ascii "refused " ++ decimal k ++ ascii "\n") alike ∙ sym left')
      (λ e e' none.
      let (cs, response, of, text) =
      d.lines sheet f (subst (Given (load_conditions sheet ++ game_conditions files sheet f)) e number.given) in
      let (cs', response', of', text') =
      d'.lines sheet f (subst (Given (load_conditions sheet ++ game_conditions files' sheet f)) e' given') in
      text
      ∙ shown_same same sheet (commitment_words sheet f) cs cs' response response' of of'
      ∙ sym text')

  pub only_games : SameGames games games'
  only_games = record { game_text = text_same }
