-- The OR proof's choices and rounds as lists: all choices are listed, each once, and so are the rounds made of them.
-- Assumes nothing.
use Prim.Native.Nat.{ℕ, zero, suc, ◌<◌}
use mathlib.Core.Path.{◌≡◌, refl, sym, ap, subst, ◌∙◌}
use mathlib.Core.Logic.{◌↔◌}
use mathlib.Core.Bool.{true}
use mathlib.Core.List.{List, flat_map, map}
use native.Mathlib.Omega.{arith}
use Rattle.types.specs.declared.Round.{Round}
use Rattle.disjunctions.specs.declared.OrRound.{OrRound}
use Rattle.lists.specs.Choices.{selected}
use Rattle.lists.specs.Member.{EachOnce, Member}
use Rattle.lists.specs.Places.{pad8, places}
use Rattle.lists.proofs.Choices.{selected_member, selected_once}
use Rattle.lists.proofs.Places.{length_places, places_pad8, places_whole}
use Rattle.lists.proofs.Member.{
  each_once_flat_map,
  each_once_map,
  member_flat_map,
  member_map,
  member_of_flat_map,
  member_of_map,
}
use Rattle.formats.specs.Sheet.{instance_of}
use Rattle.runs.specs.OnSheet.{Below}
use Rattle.sigma.specs.Instance.{Instance}
use Rattle.sigma.specs.Knowledge.{Choice, Witness}
use Rattle.sigma.specs.Listed.{all_choices}
use Rattle.sigma.specs.Reads.{padded_round}
use Rattle.sigma.proofs.Lists.{all_choices_member, all_choices_once}
use Rattle.disjunctions.specs.Corollaries.{all_or_choices, padded_or}
use Rattle.disjunctions.specs.Knowledge.{IsOrChoice, OrChoice, SameOr}
use Rattle.disjunctions.specs.Ours.{AcceptsOr, MakesEachOnce, Pair}
use Rattle.disjunctions.specs.Prover.{other, own}
use Rattle.disjunctions.specs.Round.{first_round, read_or, second_round}

module _ (s s' : List ℕ) (side : ℕ) where
  abbrev mine : Instance
  mine = instance_of (own side s s')

  abbrev yours : Instance
  yours = instance_of (other side s s')

  abbrev K : ℕ
  K = (instance_of s).header.challenges

  -- the choices with a nonce and a challenge, and those with a nonce
  abbrev with_both : List ℕ → ℕ → List OrChoice
  with_both k d = map (λ r. record { nonce = k; challenge = d; response = r }) (all_choices yours)

  abbrev with_nonce : List ℕ → List OrChoice
  with_nonce k = flat_map (with_both k) (selected K (λ d. true))

  -- the challenge and the nonce of one of them
  both_is : (k : List ℕ) (d : ℕ) (choice : OrChoice) → Member choice (with_both k d) → (choice.nonce ≡ k) × (choice.challenge ≡ d)
  both_is k d choice m =
      let (r, _, e) = member_of_map _ choice (all_choices yours) m in
      (ap (λ (a : OrChoice). a.nonce) e, ap (λ (a : OrChoice). a.challenge) e)

  nonce_is_law : (k : List ℕ) (choice : OrChoice) → Member choice (with_nonce k) → choice.nonce ≡ k
  nonce_is_law k choice m =
      let (d, _, n) = member_of_flat_map (with_both k) choice (selected K (λ d. true)) m in
      (both_is k d choice n).0

  -- exactly the choices of the side are listed
  pub or_choices_member : (choice : OrChoice) → Member choice (all_or_choices s s' side) ↔ IsOrChoice s s' side choice
  unfolding all_or_choices
  or_choices_member choice = (
    λ m.
        let (k, k_in, m₁) = member_of_flat_map with_nonce choice (all_choices mine) m in
        let (d, d_in, m₂) = member_of_flat_map (with_both k) choice (selected K (λ d. true)) m₁ in
        let (r, r_in, e) = member_of_map _ choice (all_choices yours) m₂ in
        subst (IsOrChoice s s' side) (sym e)
        (record {
          nonce = (all_choices_member mine k).0 k_in;
          challenge = ((selected_member K (λ d. true) d).0 d_in).0;
          response = (all_choices_member yours r).0 r_in;
        }),
    λ is.
        member_flat_map with_nonce choice choice.nonce (all_choices mine) ((all_choices_member mine choice.nonce).1 is.nonce)
        (member_flat_map (with_both choice.nonce) choice choice.challenge (selected K (λ d. true))
        ((selected_member K (λ d. true) choice.challenge).1 (is.challenge, refl))
        (member_map _ choice.response (all_choices yours) ((all_choices_member yours choice.response).1 is.response))),
  )

  -- and each once
  pub or_choices_once : EachOnce (all_or_choices s s' side)
  unfolding all_or_choices
  or_choices_once =
      each_once_flat_map with_nonce (all_choices mine) (all_choices_once mine)
      (λ k. each_once_flat_map (with_both k) (selected K (λ d. true)) (selected_once K (λ d. true))
      (λ d. each_once_map _ (all_choices yours) (λ r r' _ _ e. ap (λ (a : OrChoice). a.response) e) (all_choices_once yours))
      (λ d d' choice m m'. sym (both_is k d choice m).1 ∙ (both_is k d' choice m').1))
      (λ k k' choice m m'. sym (nonce_is_law k choice m) ∙ nonce_is_law k' choice m')

-- ---- rounds in eight places

-- what is read of an array in eight places is what is read of it
read_padded : (n : ℕ) (xs : List ℕ) → places n (pad8 0 (places n xs)) ≡ places n xs
read_padded n xs = places_pad8 n (places n xs) ∙ places_whole n (places n xs) (length_places n xs)

module _ (s s' : List ℕ) (round : OrRound) where
  -- what is read of a round in eight places is what is read of it
  pub read_or_padded : read_or (instance_of s) (instance_of s') (padded_or s s' round) ≡ read_or (instance_of s) (instance_of s') round
  unfolding padded_or read_or
  read_or_padded = λ t. record {
    commitment0 = read_padded (instance_of s).header.rows round.commitment0 t;
    commitment1 = read_padded (instance_of s').header.rows round.commitment1 t;
    response0 = read_padded (instance_of s).header.columns round.response0 t;
    response1 = read_padded (instance_of s').header.columns round.response1 t;
    challenge = round.challenge;
    challenge0 = round.challenge0;
  }

  -- a round both of whose sides stand in eight places does
  pub padded_sides : (K : ℕ) → padded_round (instance_of s).header (first_round round) ≡ first_round round
      → padded_round (instance_of s').header (second_round K round) ≡ second_round K round → padded_or s s' round ≡ round
  unfolding padded_or read_or padded_round first_round second_round
  padded_sides K first second = λ t. record {
    commitment0 = (first t).commitment;
    commitment1 = (second t).commitment;
    response0 = (first t).response;
    response1 = (second t).response;
    challenge = round.challenge;
    challenge0 = round.challenge0;
  }

-- rounds that are the same are equal in eight places
same_padded : (s s' : List ℕ) (a b : OrRound) → SameOr s s' a b → padded_or s s' a ≡ padded_or s s' b
unfolding padded_or
same_padded s s' a b e =
    ap (λ (read : OrRound). record {
      commitment0 = pad8 0 read.commitment0;
      commitment1 = pad8 0 read.commitment1;
      response0 = pad8 0 read.response0;
      response1 = pad8 0 read.response1;
      challenge = read.challenge;
      challenge0 = read.challenge0;
    }) e

-- ---- the rounds made over the list

module _ (s s' : List ℕ) (side c : ℕ) (make : OrChoice → OrRound) (meets : MakesEachOnce s s' side c make)
    (whole : (choice : OrChoice) → IsOrChoice s s' side choice → padded_or s s' (make choice) ≡ make choice) where
  -- each stands in it once
  pub made_list_once : EachOnce (map make (all_or_choices s s' side))
  made_list_once =
      each_once_map make (all_or_choices s s' side)
      (λ a b m m' e. meets.once a b ((or_choices_member s s' side a).0 m) ((or_choices_member s s' side b).0 m')
      (ap (read_or (instance_of s) (instance_of s')) e)) (or_choices_once s s' side)

  -- and they are the accepted rounds with challenge c
  pub made_list_members : (round : OrRound) → Member round (map make (all_or_choices s s' side))
      ↔ (AcceptsOr s s' round × (round.challenge ≡ c) × (padded_or s s' round ≡ round))
  made_list_members round = (
    λ m.
        let (choice, m₁, e) = member_of_map make round (all_or_choices s s' side) m in
        let is = (or_choices_member s s' side choice).0 m₁ in
        subst (λ (made : OrRound). AcceptsOr s s' made × (made.challenge ≡ c) × (padded_or s s' made ≡ made)) (sym e)
        (meets.accepted choice is, meets.challenged choice is, whole choice is),
    λ (accepted, challenged, padded).
        let (choice, is, same) = meets.met round challenged accepted in
        let e : make choice ≡ round = sym (whole choice is) ∙ same_padded s s' (make choice) round same ∙ padded in
        subst (λ (made : OrRound). Member made (map make (all_or_choices s s' side))) e
        (member_map make choice (all_or_choices s s' side) ((or_choices_member s s' side choice).1 is)),
  )
