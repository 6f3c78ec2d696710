-- Rounds whose sides run, over all choices, through all accepted rounds of their sheets run through all accepted rounds of both.
-- Assumes nothing.
use Prim.Native.Nat.{ℕ, ◌<◌}
use mathlib.Core.Path.{◌≡◌, refl, sym, ap, subst, ◌∙◌}
use mathlib.Core.Logic.{◌↔◌}
use mathlib.Core.List.{List}
use lib.ListN.{get_or}
use Rattle.types.specs.declared.Round.{Round}
use Rattle.disjunctions.specs.declared.OrRound.{OrRound}
use Rattle.lists.specs.Places.{places}
use Rattle.lists.proofs.Places.{get_d_places, places_agree}
use Rattle.formats.specs.Sheet.{instance_of}
use Rattle.runs.specs.OnSheet.{Below}
use Rattle.runs.specs.Ours.{Accepts}
use Rattle.sigma.specs.Instance.{Instance}
use Rattle.sigma.specs.Knowledge.{Choice, MeetsEachOnce}
use Rattle.sigma.specs.Reads.{Agree, SameRound}
use Rattle.disjunctions.specs.Knowledge.{IsOrChoice, OrChoice, SameOr}
use Rattle.disjunctions.specs.Ours.{AcceptsOr, MakesEachOnce, Pair}
use Rattle.disjunctions.specs.Round.{first_round, other_challenge, read_or, second_round}
use Rattle.disjunctions.proofs.Challenges.{other_less}
use Rattle.disjunctions.proofs.Judged.{accepted_below, or_accepted, some_challenge}

-- ---- the same rounds

-- arrays whose first n places are equal agree in them
agree_places : (n : ℕ) (xs ys : List ℕ) → places n xs ≡ places n ys → Agree n xs ys
agree_places n xs ys e k h =
    sym (get_d_places n xs k h) ∙ ap (λ (zs : List ℕ). get_or zs k 0) e ∙ get_d_places n ys k h

module _ (i j : Instance) (a b : OrRound) where
  -- what is read of two rounds is equal exactly where both sides are the same and c is
  pub same_sides : read_or i j a ≡ read_or i j b
      → SameRound i.header (first_round a) (first_round b) × (a.challenge ≡ b.challenge)
      × ((K : ℕ) → SameRound j.header (second_round K a) (second_round K b))
  unfolding read_or first_round second_round
  same_sides e =
      let c : a.challenge ≡ b.challenge = ap (λ (round : OrRound). round.challenge) e in
      let c0 : a.challenge0 ≡ b.challenge0 = ap (λ (round : OrRound). round.challenge0) e in (
        record {
          commitment = agree_places _ _ _ (ap (λ (round : OrRound). round.commitment0) e);
          challenge = c0;
          response = agree_places _ _ _ (ap (λ (round : OrRound). round.response0) e);
        },
        c,
        λ K. record {
          commitment = agree_places _ _ _ (ap (λ (round : OrRound). round.commitment1) e);
          challenge = rw (c, c0);
          response = agree_places _ _ _ (ap (λ (round : OrRound). round.response1) e);
        },
      )

  -- and the other way round
  pub sides_same : (K : ℕ) → SameRound i.header (first_round a) (first_round b) → a.challenge ≡ b.challenge
      → SameRound j.header (second_round K a) (second_round K b) → read_or i j a ≡ read_or i j b
  unfolding read_or first_round second_round
  sides_same K first c second =
      let t = places_agree _ _ _ first.commitment in
      let t' = places_agree _ _ _ second.commitment in
      let r = places_agree _ _ _ first.response in
      let r' = places_agree _ _ _ second.response in
      λ k. record {
        commitment0 = t k;
        commitment1 = t' k;
        response0 = r k;
        response1 = r' k;
        challenge = c k;
        challenge0 = first.challenge k;
      }

-- ---- rounds made of a round of each side

module _ (s s' : List ℕ) (pair : Pair s s') (side c : ℕ) (below : Below s c)
    -- rounds of each side that run through its accepted rounds, for each challenge
    (first : ℕ → List ℕ → Round) (second : ℕ → List ℕ → Round)
    (meets : (d : ℕ) → Below s d → MeetsEachOnce (instance_of s).header (Choice (instance_of s)) (Accepts s) d (first d))
    (meets' : (d : ℕ) → Below s d → MeetsEachOnce (instance_of s').header (Choice (instance_of s')) (Accepts s') d (second d))
    -- a choice as what is chosen for side 0, its challenge, and what is chosen for side 1
    (left right : OrChoice → List ℕ) (at : OrChoice → ℕ) (choose : List ℕ → ℕ → List ℕ → OrChoice)
    (split : (choice : OrChoice) → IsOrChoice s s' side choice
    → Choice (instance_of s) (left choice) × Below s (at choice) × Choice (instance_of s') (right choice))
    (chosen : (u : List ℕ) (d : ℕ) (v : List ℕ) → Choice (instance_of s) u → Below s d → Choice (instance_of s') v
    → IsOrChoice s s' side (choose u d v) × (left (choose u d v) ≡ u) × (at (choose u d v) ≡ d) × (right (choose u d v) ≡ v))
    (apart : (a b : OrChoice) → IsOrChoice s s' side a → IsOrChoice s s' side b
    → left a ≡ left b → at a ≡ at b → right a ≡ right b → a ≡ b)
    -- the round of a choice has these sides
    (make : OrChoice → OrRound)
    (challenged : (choice : OrChoice) → IsOrChoice s s' side choice → (make choice).challenge ≡ c)
    (first_is : (choice : OrChoice) → IsOrChoice s s' side choice → first_round (make choice) ≡ first (at choice) (left choice))
    (second_is : (choice : OrChoice) → IsOrChoice s s' side choice
    → second_round (instance_of s).header.challenges (make choice)
    ≡ second (other_challenge (instance_of s).header.challenges c (at choice)) (right choice)) where
  abbrev K : ℕ
  K = (instance_of s).header.challenges

  -- what is left of c is below K
  left_below : (d : ℕ) → Below s (other_challenge K c d)
  left_below d = other_less K c d (some_challenge s s' pair)

  -- each round is accepted
  made_accepted : (choice : OrChoice) → IsOrChoice s s' side choice → AcceptsOr s s' (make choice)
  made_accepted choice is =
      let (u, d, v) = split choice is in
      (or_accepted s s' pair (make choice)).1 (
        rw (challenged choice is) below,
        rw (first_is choice is) ((meets (at choice) d).accepted (left choice) u),
        rw (second_is choice is) ((meets' _ (left_below (at choice))).accepted (right choice) v),
      )

  -- each accepted round is made
  made_met : (round : OrRound) → round.challenge ≡ c → AcceptsOr s s' round
      → (choice : OrChoice) × IsOrChoice s s' side choice × SameOr s s' (make choice) round
  unfolding first_round second_round
  made_met round same accepted =
      let (small, a, b) = (or_accepted s s' pair round).0 accepted in
      let d = round.challenge0 in
      let d_below : Below s d = accepted_below s s' pair round accepted in
      let (u, u_choice, u_same) = (meets d d_below).met (first_round round) refl a in
      let rest : other_challenge K round.challenge d ≡ other_challenge K c d = ap (λ (n : ℕ). other_challenge K n d) same in
      let (v, v_choice, v_same) = (meets' (other_challenge K c d) (left_below d)).met (second_round K round) rest b in
      let choice = choose u d v in
      let (is, l, e, r) = chosen u d v u_choice d_below v_choice in (
        choice,
        is,
        sides_same (instance_of s) (instance_of s') (make choice) round K
            (rw (first_is choice is, l, e) u_same) (challenged choice is ∙ sym same)
            (rw (second_is choice is, r, e) v_same),
      )

  -- no two choices make the same round
  made_once : (a b : OrChoice) → IsOrChoice s s' side a → IsOrChoice s s' side b → SameOr s s' (make a) (make b) → a ≡ b
  made_once a b is is' same =
      let (x, e, y) = same_sides (instance_of s) (instance_of s') (make a) (make b) same in
      let (u, d, v) = split a is in
      let (u', d', v') = split b is' in
      let first_same : SameRound (instance_of s).header (first (at a) (left a)) (first (at b) (left b)) =
      rw (first_is a is, first_is b is') at x in
      let second_same : SameRound (instance_of s').header (second (other_challenge K c (at a)) (right a)) (second (other_challenge K c (at b)) (right b)) =
      rw (second_is a is, second_is b is') at (y K) in
      let at_same : at a ≡ at b =
      sym ((meets (at a) d).challenged (left a) u) ∙ first_same.challenge ∙ (meets (at b) d').challenged (left b) u' in
      apart a b is is'
      ((meets (at a) d).once (left a) (left b) u u' (rw (sym at_same) at first_same))
      at_same
      ((meets' (other_challenge K c (at a)) (left_below (at a))).once (right a) (right b) v v' (rw (sym at_same) at second_same))

  -- so these are exactly the accepted rounds with challenge c, each from a single choice
  pub makes_each_once : MakesEachOnce s s' side c make
  makes_each_once = record { challenged = challenged; accepted = made_accepted; met = made_met; once = made_once }
