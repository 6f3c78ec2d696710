-- Demand 3's lists word for word (00, demand 3; 01, "A round"): all choices of domain slots, each taken once, and what it means
-- that a list of rounds is the list of the accepted rounds with one challenge.
-- Assumes nothing.
use Rattle.std.specs.Prelude.{ℕ, ◌≡◌, ◌↔◌, cond, List}
use Rattle.types.specs.declared.Header.{Header}
use Rattle.types.specs.declared.Round.{Round}
use Rattle.lists.specs.Choices.{selected, choices}
use Rattle.lists.specs.Member.{Member, EachOnce}
use Rattle.sigma.specs.Instance.{Instance, is_exponent}
use Rattle.sigma.specs.Element.{is_coordinate}

-- all coordinates of the domain, rising: below q in kind 1, below m in kind 2
unfoldable pub all_coordinates : Header → List ℕ
all_coordinates h = selected (cond (is_exponent h) h.order h.modulus) (is_coordinate h)

-- all choices of n domain slots
unfoldable pub all_choices : Instance → List (List ℕ)
all_choices inst = choices inst.header.columns (all_coordinates inst.header)

-- the list holds exactly the accepted rounds with challenge c, each once; of the rounds that are the same, differing only in
-- unread places, `form` gives the one that is meant
pub record ListsAccepted (form : Round → Round) (Accepts : Round → Type 0) (c : ℕ) (rounds : List Round) : Type 0 where
  pub once : EachOnce rounds
  pub members : (round : Round) → Member round rounds ↔ (Accepts round × (round.challenge ≡ c) × (form round ≡ round))
