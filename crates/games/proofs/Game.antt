-- Peggy against Vic: two answers on one commitment give a witness, and with a witness an answer to one challenge gives one to each.
-- Assumes nothing.
use Prim.Native.Nat.{ℕ, ◌<◌}
use mathlib.Core.Path.{◌≡◌, refl, sym, ap, ◌∙◌}
use mathlib.Core.Bool.{Bool, true, false, false≢true}
use mathlib.Core.Logic.{◌⊎◌, ◌≢◌, inl, inr, ⊎_elim}
use mathlib.Core.List.{List, [], ◌∷◌}
use native.Mathlib.Decide.{ℕ_discrete}
use native.Mathlib.Omega.{arith}
use Rattle.types.specs.declared.Round.{Round}
use Rattle.lists.specs.Member.{Member}
use Rattle.lists.specs.Places.{places}
use Rattle.lists.proofs.Each.{each_places}
use Rattle.lists.proofs.Places.{get_d_places}
use Rattle.formats.specs.Load.{load_refusal}
use Rattle.formats.specs.Sheet.{instance_of}
use Rattle.formats.proofs.Loads.{loads_valid}
use Rattle.runs.specs.Calls.{judge_round}
use Rattle.runs.specs.Ours.{Accepts, honest_round}
use Rattle.runs.specs.OnSheet.{Below}
use Rattle.runs.specs.Prover.{commit, new_prover, respond}
use Rattle.runs.proofs.Demand3.{sheet_extraction, sheet_honest_rounds}
use Rattle.runs.proofs.Protocol.{sheet_accepted}
use Rattle.runs.proofs.ReadAlone.{judge_round_same}
use Rattle.sigma.specs.Answer.{is_accepted}
use Rattle.sigma.specs.Listed.{all_choices}
use Rattle.sigma.specs.Knowledge.{Choice, Witness}
use Rattle.sigma.specs.Reads.{SameRound, round_of}
use Rattle.sigma.proofs.Lists.{all_choices_member}
use Rattle.sigma.proofs.Tests.{says_accepted}
use Rattle.games.specs.Game.{HasWitness}
use Rattle.games.specs.Ours.{Answers, AnswersAll, Game}

-- a test passes at some member of a list, or at none
some_or_none : {A : Type 0} (p : A → Bool) (xs : List A) → ((x : A) × Member x xs × (p x ≡ true)) ⊎ ((x : A) → Member x xs → p x ≡ false)
some_or_none p [] = inr (λ x none. absurd none)
some_or_none {A} p (y ∷ ys) = here (p y) refl (some_or_none p ys)
  where
    here : (b : Bool) → p y ≡ b → ((x : A) × Member x ys × (p x ≡ true)) ⊎ ((x : A) → Member x ys → p x ≡ false)
        → ((x : A) × Member x (y ∷ ys) × (p x ≡ true)) ⊎ ((x : A) → Member x (y ∷ ys) → p x ≡ false)
    here true e later = inl (y, inl refl, e)
    here false e (inl (x, m, t)) = inl (x, inr m, t)
    here false e (inr none) = inr (λ x m. ⊎_elim (λ (same : x ≡ y). ap p same ∙ e) (λ (k : Member x ys). none x k) m)

-- rounds that are the same are accepted together
accepts_same : (sheet : List ℕ) (round round' : Round) → SameRound (instance_of sheet).header round round' → Accepts sheet round'
    → Accepts sheet round
accepts_same sheet round round' same e = judge_round_same sheet same ∙ e

module _ (sheet : List ℕ) (loaded : load_refusal sheet ≡ 0) where
  -- a challenge that is answered is below K
  pub answered_below : (t : List ℕ) (c : ℕ) → Answers sheet t c → Below sheet c
  answered_below t c (r, e) = ((sheet_accepted sheet loaded (round_of t c r)).0 e).0.challenge

  -- answers to two challenges give a witness
  pub two_answers : (t : List ℕ) (c c' : ℕ) → c ≢ c' → Answers sheet t c → Answers sheet t c' → HasWitness sheet
  two_answers t c c' apart (r, e) (r', e') =
      let found = sheet_extraction sheet loaded (round_of t c r) (round_of t c' r')
      (record { first_accepted = e; second_accepted = e'; commitments = λ i b. refl; challenges = apart }) in
      (found.value, found.witness)

  -- 0 and 1 are challenges
  two_challenges : (0 < (instance_of sheet).header.challenges) × (1 < (instance_of sheet).header.challenges)
  two_challenges = let some = (loads_valid sheet loaded).table.some_challenges in (omega (arith, some), omega (arith, some))

  module _ (x : List ℕ) (w : Witness (instance_of sheet) x) where
    -- the commitment to any nonce answers every challenge
    pub honest_answers : (k : List ℕ) → Choice (instance_of sheet) k → AnswersAll sheet (commit sheet new_prover k).values
    unfolding honest_round
    honest_answers k slots c below =
        ((respond sheet (commit sheet new_prover k).session c x).values, (sheet_honest_rounds sheet loaded c below x w).accepted k slots)

    -- a commitment that answers one challenge answers each
    pub one_answers_all : (t : List ℕ) (c : ℕ) → Answers sheet t c → AnswersAll sheet t
    unfolding honest_round
    one_answers_all t c (r, e) c' below' =
        let (k, slots, same) = (sheet_honest_rounds sheet loaded c (answered_below t c (r, e)) x w).met (round_of t c r) refl e in
        let r' : List ℕ = (respond sheet (commit sheet new_prover k).session c' x).values in (
          r',
          accepts_same sheet (round_of t c' r') (honest_round sheet x c' k)
              (record { commitment = λ i b. sym (same.commitment i b); challenge = refl; response = λ j b. refl })
              ((sheet_honest_rounds sheet loaded c' below' x w).accepted k slots),
        )

  -- whether a challenge is answered is decided: all choices of n slots can be tried
  pub answers_or_not : (t : List ℕ) (c : ℕ) → Answers sheet t c ⊎ (¬ Answers sheet t c)
  answers_or_not t c =
      let inst = instance_of sheet in
      let n = inst.header.columns in
      let accepted : List ℕ → Bool = λ r. is_accepted (judge_round sheet (round_of t c r)) in
      ⊎_elim
      (λ (found : (r : List ℕ) × Member r (all_choices inst) × (accepted r ≡ true)).
      inl (found.0, (says_accepted (judge_round sheet (round_of t c found.0))).sound found.2))
      (λ (none : (r : List ℕ) → Member r (all_choices inst) → accepted r ≡ false).
      inr (λ (r, e).
      let fits = ((sheet_accepted sheet loaded (round_of t c r)).0 e).0 in
      let slots : Choice inst (places n r) = each_places _ n r fits.response in
      let read = accepts_same sheet (round_of t c (places n r)) (round_of t c r)
      (record { commitment = λ i b. refl; challenge = refl; response = get_d_places n r }) e in
      false≢true (sym (none (places n r) ((all_choices_member inst (places n r)).1 slots))
      ∙ (says_accepted (judge_round sheet (round_of t c (places n r)))).complete read)))
      (some_or_none accepted (all_choices inst))

  -- the game, whole
  pub game : Game sheet
  game = record {
    winning = (
      λ (t, all). two_answers t 0 1 (λ same. omega (arith, same)) (all 0 two_challenges.0) (all 1 two_challenges.1),
      λ (x, w). ((commit sheet new_prover x).values, honest_answers x w x w.slots),
    );
    at_most_one = λ none t c c' a a'. elim (ℕ_discrete c c') [
      | yes same ↦ same
      | no apart ↦ absurd (none (two_answers t c c' apart a a'))
    ];
    all_or_none = λ (x, w) t. ⊎_elim (λ (a : Answers sheet t 0). inl (one_answers_all x w t 0 a))
        (λ (not : ¬ Answers sheet t 0). inr (λ c a. not (one_answers_all x w t c a 0 two_challenges.0))) (answers_or_not t 0);
  }
