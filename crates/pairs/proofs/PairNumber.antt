-- The number that two sheets are refused with: the lower one of the two, and where both load 26 for different challenge counts.
-- Assumes nothing.
use Prim.Native.Nat.{ℕ}
use mathlib.Core.Path.{◌≡◌, sym, ap, ap₂, ◌∙◌}
use mathlib.Core.Bool.{not}
use mathlib.Core.List.{List, []}
use mathlib.Core.Logic.{◌≢◌}
use native.Mathlib.Decide.{dec_lt, ℕ_discrete}
use native.Mathlib.Omega.{arith}
use borrow.Author.Tests.{eq-eqb, ne_eqb, lt-ltb, le-ltb}
use Rattle.rules.specs.Either.{either_rules}
use Rattle.rules.specs.Rule.{Clear, lowest}
use Rattle.rules.proofs.Either.{Rising, clear_either, lower_of, lowest_either}
use Rattle.rules.proofs.Lowest.{lowest_clear, lowest_earlier, lowest_later, stop}
use Rattle.sigma.specs.Admission.{element_rules, header_rules}
use Rattle.sigma.specs.Instance.{Instance}
use Rattle.formats.specs.Load.{load_refusal, load_rules, shape_rules}
use Rattle.formats.specs.Sheet.{instance_of}
use Rattle.formats.proofs.Loads.{load_clear, loads}
use Rattle.disjunctions.specs.Judge.{pair_rules}
use Rattle.disjunctions.proofs.OnPair.{load_numbers}

-- the numbers of a sheet's rules rise
load_rising : (s : List ℕ) → Rising 1 (load_rules s)
unfolding load_rules shape_rules header_rules element_rules
load_rising s = (
  omega arith,
  (
    omega arith,
    (
      omega arith,
      (
        omega arith,
        (
          omega arith,
          (omega arith, (omega arith, (omega arith, (omega arith, (omega arith, tt))))),
        ),
      ),
    ),
  ),
)

-- of two numbers the lower that is not 0 is 0 only where both are
lower_zero : (a b : ℕ) → lower_of a b ≡ 0 → (a ≡ 0) × (b ≡ 0)
unfolding lower_of
lower_zero a b e = elim (ℕ_discrete a 0) [
  | yes none ↦ (none, rw (eq-eqb a 0 none) at e)
  | no some ↦ elim (ℕ_discrete b 0) [
    | yes none ↦ absurd (some (rw (ne_eqb a 0 some, eq-eqb b 0 none) at e))
    | no some' ↦ elim (dec_lt b a) [
      | yes less ↦ absurd (some' (rw (ne_eqb a 0 some, ne_eqb b 0 some', lt-ltb b a less) at e))
      | no more ↦ absurd (some (rw (ne_eqb a 0 some, ne_eqb b 0 some', le-ltb b a (omega arith)) at e))
    ]
  ]
]

module _ (s s' : List ℕ) where
  -- the rules 2 to 11 of both sheets give the lower of their numbers
  sheets_number : lowest (either_rules (load_rules s) (load_rules s')) ≡ lower_of (load_refusal s) (load_refusal s')
  unfolding load_refusal
  sheets_number = lowest_either 1 (load_rules s) (load_rules s') (load_numbers s s') (load_rising s) (load_rising s')

  module _ {a b : ℕ} (is_first : a ≡ load_refusal s) (is_second : b ≡ load_refusal s') {n : ℕ} (is_lower : n ≡ lower_of a b) where
    -- the lower number of what loading each gives is that of the sheets
    is_sheets : n ≡ lower_of (load_refusal s) (load_refusal s')
    is_sheets = is_lower ∙ ap₂ lower_of is_first is_second

    -- above 0 it is that of both sheets together
    pub pair_lower : n ≢ 0 → n ≡ lowest (pair_rules s s')
    unfolding pair_rules
    pair_lower some =
        let number = is_sheets ∙ sym sheets_number in
        number ∙ sym (lowest_earlier (either_rules (load_rules s) (load_rules s')) _ (omega (arith, number)))

    module _ (none : n ≡ 0) where
      -- where it is 0 both sheets load
      both_load : (load_refusal s ≡ 0) × (load_refusal s' ≡ 0)
      both_load = lower_zero _ _ (sym is_sheets ∙ none)

      -- no rule of 2 to 11 applies
      sheets_clear : Clear (either_rules (load_rules s) (load_rules s'))
      sheets_clear =
          (clear_either (load_rules s) (load_rules s') (load_numbers s s')).1
          ((load_clear s).1 ((loads s).0 both_load.0), (load_clear s').1 ((loads s').0 both_load.1))

      module _ {i j : Instance} (values : i ≡ instance_of s) (values' : j ≡ instance_of s') where
        -- what loads has the sheets' challenge counts
        counts : (i.header.challenges ≡ (instance_of s).header.challenges) × (j.header.challenges ≡ (instance_of s').header.challenges)
        counts = (ap (λ (k : Instance). k.header.challenges) values, ap (λ (k : Instance). k.header.challenges) values')

        -- different counts are 26
        pub pair_counts : i.header.challenges ≢ j.header.challenges → 26 ≡ lowest (pair_rules s s')
        unfolding pair_rules
        pair_counts other =
            let differ = ne_eqb _ _ (λ (e : (instance_of s).header.challenges ≡ (instance_of s').header.challenges).
            other (counts.0 ∙ e ∙ sym counts.1)) in
            sym (lowest_later (either_rules (load_rules s) (load_rules s')) _ sheets_clear ∙ stop 26 [] (ap not differ))

        -- one count is none
        pub pair_passed : i.header.challenges ≡ j.header.challenges → 0 ≡ lowest (pair_rules s s')
        unfolding pair_rules
        pair_passed one =
            let equal = eq-eqb _ _ (sym counts.0 ∙ one ∙ counts.1) in
            sym (lowest_later (either_rules (load_rules s) (load_rules s')) _ sheets_clear ∙ lowest_clear _ (ap not equal, tt))
