-- The rows in which a round fails: as bits of a mask and as its rows, of which the first is 01's row; and rounds whose rows hold alike
-- fail alike.
-- Assumes nothing.
use Prim.Native.Nat.{ℕ, ◌^◌, ◌<◌, ◌≤◌}
use mathlib.Core.Path.{◌≡◌, refl, sym, ap, subst, ◌∙◌}
use mathlib.Core.Bool.{true, false≢true}
use mathlib.Core.Logic.{◌↔◌}
use mathlib.Core.List.{List, [], ◌∷◌}
use native.Mathlib.Decide.{dec_lt}
use native.Mathlib.Omega.{arith}
use lib.ListN.{length, get_or}
use Rattle.types.specs.declared.Round.{Round}
use Rattle.numbers.specs.Bits.{bit}
use Rattle.numbers.proofs.Bits.{bit_beyond}
use Rattle.lists.proofs.Member.{member_at, member_place}
use Rattle.lists.proofs.Rising.{rising_first}
use Rattle.rules.proofs.Says.{says_equal}
use Rattle.sigma.specs.Answer.{rows_of}
use Rattle.sigma.specs.Instance.{Instance}
use Rattle.sigma.specs.Meaning.{FailsExactly, FailsFirst, RowHolds}
use Rattle.sigma.proofs.Calculus.{says_stable}
use Rattle.sigma.proofs.Rows.{rows_bit, rows_rising}

module _ (inst : Instance) (round : Round) where
  -- the bits of a mask are exactly the rows that fail
  abbrev pub FailsInBits : ℕ → Type 0
  FailsInBits mask = (k : ℕ) → (bit mask k ≡ true) ↔ ((k < inst.header.rows) × (¬ RowHolds inst round k))

  module _ (few : inst.header.rows ≤ 8) (mask : ℕ) where
    -- so are its rows, where there is one
    pub bits_fail : FailsInBits mask → (row : ℕ) → row < inst.header.rows → ¬ RowHolds inst round row
        → FailsExactly inst round (rows_of mask)
    bits_fail bits row inside fails =
        let (j, some, same) = member_place 0 row (rows_of mask) ((rows_bit mask row).1 (omega arith, (bits row).1 (inside, fails))) in
        record {
          exactly = λ k. (λ m. (bits k).0 ((rows_bit mask k).0 m).1, λ fact. (rows_bit mask k).1 (omega (arith, fact.0), (bits k).1 fact));
          rising = rows_rising mask;
          some = omega arith;
        }

    -- and the other way round, where no bit at s or beyond is set
    pub fails_bits : FailsExactly inst round (rows_of mask) → mask < 2 ^ inst.header.rows → FailsInBits mask
    fails_bits all small k = (
      λ set. elim (dec_lt k inst.header.rows) [
        | yes inside ↦ (all.exactly k).0 ((rows_bit mask k).1 (omega arith, set))
        | no outside ↦ absurd (false≢true (sym (bit_beyond mask inst.header.rows k small (omega arith)) ∙ set))
      ],
      λ fact. ((rows_bit mask k).0 ((all.exactly k).1 fact)).1,
    )

  -- of exactly the rows that fail the first is the first that fails
  pub fails_first : (rows : List ℕ) → FailsExactly inst round rows → FailsFirst inst round (get_or rows 0 0)
  fails_first rows all =
      let (inside, fails) = (all.exactly (get_or rows 0 0)).0 (member_at 0 rows 0 all.some) in
      record {
        inside = inside;
        fails = fails;
        before = λ k early. says_stable (says_equal _ _) (λ (other : ¬ RowHolds inst round k).
            omega (arith, rising_first rows all.rising k ((all.exactly k).1 (omega arith, other))));
      }

  -- there is one first row
  first_unique : (row row' : ℕ) → FailsFirst inst round row → FailsFirst inst round row' → row ≡ row'
  first_unique row row' a b = elim (dec_lt row row') [
    | yes earlier ↦ absurd (a.fails (b.before row earlier))
    | no not_earlier ↦ elim (dec_lt row' row) [
      | yes later ↦ absurd (b.fails (a.before row' later))
      | no not_later ↦ omega arith
    ]
  ]

  -- a list that is not empty begins with its first number
  begins : (rows : List ℕ) → 0 < length rows → (others : List ℕ) × (rows ≡ get_or rows 0 0 ∷ others)
  begins [] some = absurd (omega arith)
  begins (row ∷ others) some = (others, refl)

  -- so the rows that fail begin with a row exactly where that is the first that fails
  pub fails_begin : (rows : List ℕ) → FailsExactly inst round rows → (row : ℕ)
      → FailsFirst inst round row ↔ ((others : List ℕ) × (rows ≡ row ∷ others))
  fails_begin rows all row =
      let (others, whole) = begins rows all.some in (
        λ first. (others, whole ∙ ap (λ (k : ℕ). k ∷ others) (first_unique _ row (fails_first rows all) first)),
        λ (more, same). fails_first (row ∷ more) (subst (FailsExactly inst round) same all),
      )

  -- they are their first row and others
  pub fails_split : (rows : List ℕ) → FailsExactly inst round rows
      → (row : ℕ) × (others : List ℕ) × (rows ≡ row ∷ others) × FailsFirst inst round row × FailsExactly inst round (row ∷ others)
  fails_split rows all =
      let first = fails_first rows all in
      let (others, same) = (fails_begin rows all _).0 first in
      (_, others, same, first, subst (FailsExactly inst round) same all)

-- rounds of as many rows, which hold alike, fail in the same rows
pub fails_alike : (inst inst' : Instance) (round round' : Round) → inst.header.rows ≡ inst'.header.rows
    → ((i : ℕ) → i < inst.header.rows → RowHolds inst round i ↔ RowHolds inst' round' i)
    → (rows : List ℕ) → FailsExactly inst round rows → FailsExactly inst' round' rows
fails_alike inst inst' round round' same alike rows all = record {
  exactly = λ i. (
    λ m. let (inside, fails) = (all.exactly i).0 m in (rw same at inside, λ holds. fails ((alike i inside).1 holds)),
    λ (inside, fails). (all.exactly i).1 (rw (sym same) at inside, λ holds. fails ((alike i (rw (sym same) at inside)).0 holds)),
  );
  rising = all.rising;
  some = all.some;
}
