-- The coordinates of the domain form a commutative group under `combine`, whose powers are `raise`, in both kinds.
-- Assumes nothing.
use Prim.Native.Nat.{ℕ, ◌+◌, ◌-◌, ◌*◌, ◌%◌, ◌^◌, ◌<◌}
use mathlib.Core.Path.{◌≡◌, sym, ◌∙◌}
use mathlib.Core.Logic.{◌≢◌}
use mathlib.Core.Bool.{cond}
use native.Mathlib.Bridge.{le_prop}
use native.Mathlib.Nat.{mod-lt, add-mod-mod}
use lib.IntN.{ℤ, pos, ◌*ℤ◌}
use Rattle.types.specs.declared.Header.{Header}
use Rattle.groups.specs.Group.{power_with}
use Rattle.groups.specs.Vector.{NumberGroup, number_power}
use Rattle.numbers.specs.Integer.{residue, power}
use Rattle.numbers.specs.Inverse.{inverse}
use Rattle.numbers.proofs.Exponent.{power_pos}
use Rattle.numbers.proofs.Integer.{residue_pos}
use Rattle.numbers.proofs.Congruence.{mod_mul_right}
use Rattle.sigma.specs.Element.{Element, Coordinate, combine}
use Rattle.sigma.specs.Instance.{is_exponent}
use Rattle.sigma.specs.Round.{response_coordinate}
use Rattle.sigma.proofs.ByKind.{by_kind, exponent_kind, root_kind, combine_exponent, combine_root}
use Rattle.sigma.proofs.ElementGroup.{element_proposition, element_product, element_one, element_inverse}
use Rattle.sigma.proofs.ElementGroup.{element_group, element_power}
use Rattle.sigma.proofs.ResidueGroup.{residue_group, residue_power}

module _ (h : Header) where
  -- two proofs that x is a coordinate are equal
  pub coordinate_proposition : (x : ℕ) → IsProp (Coordinate h x)
  coordinate_proposition x a b = λ i. record {
    reduced = λ e. le_prop (a.reduced e) (b.reduced e) i;
    element = λ n. element_proposition h x (a.element n) (b.element n) i;
  }

  -- the neutral coordinate: 0 in kind 1, 1 in kind 2
  unfoldable pub neutral : ℕ
  neutral = cond (is_exponent h) 0 1

  -- the opposite of a coordinate: q − x in kind 1, the inverse modulo m in kind 2
  unfoldable pub opposite : ℕ → ℕ
  opposite x = cond (is_exponent h) ((h.order - x) % h.order) (inverse h.modulus x)

  -- the power of a coordinate, for an integer k: k·x mod q in kind 1, x^k mod m in kind 2
  unfoldable pub raise : ℕ → ℤ → ℕ
  raise x k = cond (is_exponent h) (residue h.order (k *ℤ pos x)) (power h.modulus x k)

  -- in kind 1 the neutral coordinate is 0
  neutral_exponent : h.kind ≡ 1 → neutral ≡ 0
  unfolding neutral
  neutral_exponent e = rw (exponent_kind h e)

  -- in kind 2 it is 1
  neutral_root : h.kind ≢ 1 → neutral ≡ 1
  unfolding neutral
  neutral_root n = rw (root_kind h n)

  -- in kind 1 the opposite is q − x
  pub opposite_exponent : h.kind ≡ 1 → (x : ℕ) → opposite x ≡ (h.order - x) % h.order
  unfolding opposite
  opposite_exponent e x = rw (exponent_kind h e)

  -- in kind 2 it is the inverse modulo m
  pub opposite_root : h.kind ≢ 1 → (x : ℕ) → opposite x ≡ inverse h.modulus x
  unfolding opposite
  opposite_root n x = rw (root_kind h n)

  -- in kind 1 the power is the multiple mod q
  pub raise_exponent : h.kind ≡ 1 → (x : ℕ) (k : ℤ) → raise x k ≡ residue h.order (k *ℤ pos x)
  unfolding raise
  raise_exponent e x k = rw (exponent_kind h e)

  -- in kind 2 it is the power mod m
  pub raise_root : h.kind ≢ 1 → (x : ℕ) (k : ℤ) → raise x k ≡ power h.modulus x k
  unfolding raise
  raise_root n x k = rw (root_kind h n)

  -- a number below q is a coordinate in kind 1
  pub coordinate_exponent : h.kind ≡ 1 → (x : ℕ) → x < h.order → Coordinate h x
  coordinate_exponent e x l = record { reduced = λ e'. l; element = λ n. absurd (n e) }

  -- a group element is a coordinate in kind 2
  pub coordinate_root : h.kind ≢ 1 → (x : ℕ) → Element h x → Coordinate h x
  coordinate_root n x y = record { reduced = λ e. absurd (n e); element = λ n'. y }

module _ (h : Header) where
  -- a coordinate of the response combines the nonce with the witness's power
  pub response_combine : (k c x : ℕ) → response_coordinate h k c x ≡ combine h k (raise h x (pos c))
  unfolding response_coordinate combine raise
  response_combine k c x =
      by_kind h (λ e. rw (exponent_kind h e, residue_pos) (sym (add-mod-mod k (c * x) h.order)))
      (λ n. rw (root_kind h n, power_pos) (sym (mod_mul_right h.modulus k (x ^ c))))

module _ (h : Header) (big : 1 < h.modulus) (some : 0 < h.order) where
  -- two coordinates combine to one
  pub combine_in : (x y : ℕ) → Coordinate h x → Coordinate h y → Coordinate h (combine h x y)
  unfolding combine
  combine_in x y a b =
      by_kind h (λ e. rw (exponent_kind h e) (coordinate_exponent h e _ (mod-lt (x + y) some)))
      (λ n. rw (root_kind h n) (coordinate_root h n _ (element_product h big some x y (a.element n) (b.element n))))

  -- the neutral coordinate is one
  pub neutral_in : Coordinate h (neutral h)
  unfolding neutral
  neutral_in =
      by_kind h (λ e. rw (exponent_kind h e) (coordinate_exponent h e 0 some))
      (λ n. rw (root_kind h n) (coordinate_root h n 1 (element_one h big)))

  -- the opposite of a coordinate is one
  pub opposite_in : (x : ℕ) → Coordinate h x → Coordinate h (opposite h x)
  unfolding opposite
  opposite_in x a =
      by_kind h (λ e. rw (exponent_kind h e) (coordinate_exponent h e _ (mod-lt (h.order - x) some)))
      (λ n. rw (root_kind h n) (coordinate_root h n _ (element_inverse h big some x (a.element n))))

  -- the kinds' two groups
  residues : NumberGroup (λ x. x < h.order)
  residues = residue_group h.order some

  elements : NumberGroup (Element h)
  elements = element_group h big some

  -- combining is associative
  pub combine_associative : (x y z : ℕ) → Coordinate h x → Coordinate h y → Coordinate h z
      → combine h (combine h x y) z ≡ combine h x (combine h y z)
  unfolding combine residue_group element_group residues elements
  combine_associative x y z a b c =
      by_kind h (λ e. rw (exponent_kind h e) (residues.associative x y z (a.reduced e) (b.reduced e) (c.reduced e)))
      (λ n. rw (root_kind h n) (elements.associative x y z (a.element n) (b.element n) (c.element n)))

  -- combining is commutative
  pub combine_commutative : (x y : ℕ) → Coordinate h x → Coordinate h y → combine h x y ≡ combine h y x
  unfolding combine residue_group element_group residues elements
  combine_commutative x y a b =
      by_kind h (λ e. rw (exponent_kind h e) (residues.commutative x y (a.reduced e) (b.reduced e)))
      (λ n. rw (root_kind h n) (elements.commutative x y (a.element n) (b.element n)))

  -- the neutral coordinate changes nothing
  pub combine_neutral : (x : ℕ) → Coordinate h x → combine h (neutral h) x ≡ x
  unfolding combine neutral residue_group element_group residues elements
  combine_neutral x a =
      by_kind h (λ e. rw (exponent_kind h e) (residues.unit_left x (a.reduced e)))
      (λ n. rw (root_kind h n) (elements.unit_left x (a.element n)))

  -- a coordinate and its opposite combine to the neutral one
  pub combine_opposite : (x : ℕ) → Coordinate h x → combine h (opposite h x) x ≡ neutral h
  unfolding combine opposite neutral residue_group element_group residues elements
  combine_opposite x a =
      by_kind h (λ e. rw (exponent_kind h e) (residues.inverse_left x (a.reduced e)))
      (λ n. rw (root_kind h n) (elements.inverse_left x (a.element n)))

  -- the coordinates of the domain under `combine`
  unfoldable pub coordinate_group : NumberGroup (Coordinate h)
  coordinate_group = record {
    proposition = coordinate_proposition h;
    product = combine h;
    unit = neutral h;
    inverse = opposite h;
    product_in = combine_in;
    unit_in = neutral_in;
    inverse_in = opposite_in;
    associative = combine_associative;
    commutative = combine_commutative;
    unit_left = combine_neutral;
    inverse_left = combine_opposite;
  }

  -- a power in the group is `raise`
  pub coordinate_power : (x : ℕ) → Coordinate h x → (k : ℤ) → number_power coordinate_group x k ≡ raise h x k
  unfolding number_power coordinate_group residue_group element_group
  coordinate_power x a k =
      by_kind h (λ e.
      (λ i. power_with (λ y z. combine_exponent h e y z i) (neutral_exponent h e i) (λ y. opposite_exponent h e y i) x k)
      ∙ residue_power h.order some x (a.reduced e) k ∙ sym (raise_exponent h e x k))
      (λ n. (λ i. power_with (λ y z. combine_root h n y z i) (neutral_root h n i) (λ y. opposite_root h n y i) x k)
      ∙ element_power h big some x k ∙ sym (raise_root h n x k))
