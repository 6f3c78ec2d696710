-- Demand 3's lists word for word: all choices of domain slots are listed, each once, and rounds made of them that meet each
-- accepted round once are the list of the accepted rounds with one challenge, each once.
-- Assumes nothing.
use Prim.Native.Nat.{ℕ}
use mathlib.Core.Path.{◌≡◌, sym, ap, ◌∙◌, subst}
use mathlib.Core.Logic.{◌↔◌}
use mathlib.Core.Bool.{cond}
use mathlib.Core.List.{List, map}
use Rattle.types.specs.declared.Header.{Header}
use Rattle.types.specs.declared.Round.{Round}
use Rattle.lists.specs.Member.{Member, EachOnce}
use Rattle.lists.proofs.Choices.{selected_member, selected_once, choices_complete, choices_sound, choices_once}
use Rattle.lists.proofs.Member.{member_map, member_of_map, each_once_map}
use Rattle.sigma.specs.Instance.{Instance, is_exponent}
use Rattle.sigma.specs.Element.{Coordinate, is_coordinate}
use Rattle.sigma.specs.Knowledge.{Choice, MeetsEachOnce}
use Rattle.sigma.specs.Listed.{all_coordinates, all_choices, ListsAccepted}
use Rattle.sigma.specs.Reads.{SameRound}
use Rattle.sigma.proofs.ByKind.{by_kind, exponent_kind, root_kind}
use Rattle.sigma.proofs.Tests.{says_coordinate}
use Rattle.sigma.proofs.Unread.{same_round_refl}

module _ (h : Header) where
  -- a number is listed exactly if it is a coordinate
  pub coordinates_member : (x : ℕ) → Member x (all_coordinates h) ↔ Coordinate h x
  unfolding all_coordinates
  coordinates_member x =
      let listed = selected_member (cond (is_exponent h) h.order h.modulus) (is_coordinate h) x in
      let test = says_coordinate h x in (
        λ m. test.sound (listed.0 m).1,
        λ c. listed.1 (
          by_kind h (λ e. rw (exponent_kind h e) (c.reduced e)) (λ n. rw (root_kind h n) (c.element n).below),
          test.complete c,
        ),
      )

  -- no coordinate is listed twice
  pub coordinates_once : EachOnce (all_coordinates h)
  unfolding all_coordinates
  coordinates_once = selected_once _ _

module _ (inst : Instance) where
  -- exactly the choices of n domain slots are listed
  pub all_choices_member : (x : List ℕ) → Member x (all_choices inst) ↔ Choice inst x
  unfolding all_choices
  all_choices_member x =
      let values = all_coordinates inst.header in
      let listed = coordinates_member inst.header in (
        choices_sound (Coordinate inst.header) values (λ v. (listed v).0) inst.header.columns x,
        choices_complete (Coordinate inst.header) values (λ v. (listed v).1) inst.header.columns x,
      )

  -- no choice is listed twice
  pub all_choices_once : EachOnce (all_choices inst)
  unfolding all_choices
  all_choices_once = choices_once (all_coordinates inst.header) (coordinates_once inst.header) inst.header.columns

  module _ (form : Round → Round) (formed : (round round' : Round) → SameRound inst.header round round' → form round ≡ form round')
      (Accepts : Round → Type 0) (c : ℕ) (make : List ℕ → Round) (whole : (x : List ℕ) → Choice inst x → form (make x) ≡ make x)
      (meets : MeetsEachOnce inst.header (Choice inst) Accepts c make) where
    -- rounds that meet each accepted round once are, over the list of all choices, the list of the accepted rounds, each once
    pub lists_accepted : ListsAccepted form Accepts c (map make (all_choices inst))
    lists_accepted = record {
      once = each_once_map make (all_choices inst) (λ x y m k e.
          meets.once x y ((all_choices_member x).0 m) ((all_choices_member y).0 k)
          (subst (SameRound inst.header (make x)) e (same_round_refl inst.header (make x)))) all_choices_once;
      members = λ round. (
        λ m.
            let (x, listed, e) = member_of_map make round (all_choices inst) m in
            let slots = (all_choices_member x).0 listed in (
              subst Accepts (sym e) (meets.accepted x slots),
              ap (λ (made : Round). made.challenge) e ∙ meets.challenged x slots,
              ap form e ∙ whole x slots ∙ sym e,
            ),
        λ (accepted, challenged, meant).
            let (x, slots, same) = meets.met round challenged accepted in
            subst (λ (made : Round). Member made (map make (all_choices inst))) (sym (whole x slots) ∙ formed (make x) round same ∙ meant)
            (member_map make x (all_choices inst) ((all_choices_member x).1 slots)),
      );
    }
