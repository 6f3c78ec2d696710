-- No condition of a ledger's refusals holds exactly if what the lines share, their count and each line are right, in numbers.
-- Assumes nothing.
use Prim.Native.Nat.{ℕ, ◌<◌, ◌≤◌}
use mathlib.Core.Path.{◌≡◌, refl}
use mathlib.Core.Logic.{◌↔◌, ◌⊎◌, inl, inr, ⊎_elim}
use native.Mathlib.Nat.{dvd_of_mod-eq-zero, mod-eq-zero_of_dvd}
use native.Mathlib.Omega.{arith}
use lib.ListN.{drop, get_or}
use Rattle.rules.proofs.Determined.{NoneHold}
use Rattle.rules.proofs.Says.{says_equal, says_or}
use Rattle.sigma.specs.Element.{Element}
use Rattle.sigma.proofs.Calculus.{says_stable}
use Rattle.sigma.proofs.Tests.{says_element}
use Rattle.ledgers.specs.Lines.{entry_at, line_at}
use Rattle.ledgers.specs.Refusals.{
  BadElements,
  HighChallenge,
  HighNumber,
  HighResponse,
  NotAbove,
  UnknownKind,
  base_conditions,
  check_conditions,
  product_header,
  write_conditions,
}
use Rattle.ledgers.specs.RunsWhere.{InGroup, RightBase, RightEntry, RightLine}
use Rattle.ledgers.specs.declared.Base.{Base}
use Rattle.ledgers.specs.declared.Entries.{Entries}
use Rattle.ledgers.specs.declared.Entry.{Entry}
use Rattle.ledgers.specs.declared.Ledger.{Ledger}
use Rattle.ledgers.specs.declared.Line.{Line}

-- ---- kinds and lines above

-- a kind that is not unknown is one of three
pub known : (kind : ℕ) → ¬ UnknownKind kind → (kind ≡ 1) ⊎ (kind ≡ 2) ⊎ (kind ≡ 3)
known kind = says_stable (says_or (says_equal kind 1) (says_or (says_equal kind 2) (says_equal kind 3)))

-- a sum or a product of which 36 does not hold names lines above it
pub above : (i kind first second : ℕ) → ¬ NotAbove i kind first second → (kind ≡ 2) ⊎ (kind ≡ 3) → (first < i) × (second < i)
above i kind first second none joins =
    let one : ¬ (i ≤ first) = λ l. none (joins, inl l) in
    let two : ¬ (i ≤ second) = λ l. none (joins, inr l) in
    (omega (arith, one), omega (arith, two))

-- 36 holds of no line that names lines above it
not_above_law : (i kind first second : ℕ) → (first < i) × (second < i) → ¬ NotAbove i kind first second
not_above_law i kind first second (one, two) (joins, late) =
    ⊎_elim (λ (l : i ≤ first). omega (arith, l, one)) (λ (l : i ≤ second). omega (arith, l, two)) late

module _ (base : Base) where
  -- ---- what the lines share

  -- a group element in numbers
  pub in_group : (x : ℕ) → Element (product_header base) x ↔ InGroup base x
  in_group x = (
    λ e. (e.positive, e.below, e.ordered refl),
    λ (positive, below, ordered). record {
      positive = positive;
      below = below;
      ordered = λ one. ordered;
      coprime = λ other. absurd (other refl);
    },
  )

  -- it cannot fail to be one
  pub element : (x : ℕ) → ¬ (¬ Element (product_header base) x) → InGroup base x
  element x n = (in_group x).0 (says_stable (says_element (product_header base) x) n)

  -- no condition holds exactly if what the lines share is right
  pub base_right : NoneHold (base_conditions base) ↔ RightBase base
  base_right = (
    λ (small, (low, (count, (outside, none)))).
        let few : ¬ (base.challenges < 2) = λ l. count (inl l) in
        let many : ¬ (65536 < base.challenges) = λ l. count (inr (inl l)) in (
          omega (arith, small),
          omega (arith, low),
          omega (arith, few),
          omega (arith, many),
          λ d from below e. count (inr (inr (d, from, below, dvd_of_mod-eq-zero d e))),
          element base.g (λ n. outside (inl n)),
          element base.h (λ n. outside (inr n)),
        ),
    λ (large, ordered, some, few, divisor, g, h). (
      λ l. omega (arith, large, l),
      (
        λ l. omega (arith, ordered, l),
        (
          ⊎_elim (λ l. omega (arith, some, l))
              (⊎_elim (λ l. omega (arith, few, l)) (λ (d, from, below, divides). divisor d from below (mod-eq-zero_of_dvd d divides))),
          (⊎_elim (λ n. n ((in_group base.g).1 g)) (λ n. n ((in_group base.h).1 h)), tt),
        ),
      ),
    ),
  )

  -- ---- one line

  module _ (i : ℕ) (line : Line) where
    -- no condition holds of a line
    abbrev pub LineClear : Type 0
    LineClear = (¬ UnknownKind line.kind) × (¬ NotAbove i line.kind line.first line.second) × (¬ BadElements base line)
        × (¬ HighChallenge base line.kind line.challenge) × (¬ HighResponse base line)

    pub line_clear : RightLine base i line → LineClear
    line_clear (inl (one, c)) = (
      λ n. n (inl one),
      λ (joins, late). ⊎_elim (λ (e : line.kind ≡ 2). omega (arith, one, e)) (λ (e : line.kind ≡ 3). omega (arith, one, e)) joins,
      ⊎_elim (λ (k, n). n ((in_group line.commitment).1 c)) (λ (e, n). omega (arith, one, e)),
      λ (e, high). omega (arith, one, e),
      λ (e, high). omega (arith, one, e),
    )
    line_clear (inr (inl (two, first, second))) = (
      λ n. n (inr (inl two)),
      not_above_law i line.kind line.first line.second (first, second),
      ⊎_elim (λ (k, n). ⊎_elim (λ (e : line.kind ≡ 1). omega (arith, two, e)) (λ (e : line.kind ≡ 3). omega (arith, two, e)) k)
          (λ (e, n). omega (arith, two, e)),
      λ (e, high). omega (arith, two, e),
      λ (e, high). omega (arith, two, e),
    )
    line_clear (inr (inr (three, first, second, c, t0, t1, below, r0, r1, r2))) = (
      λ n. n (inr (inr three)),
      not_above_law i line.kind line.first line.second (first, second),
      ⊎_elim (λ (k, n). n ((in_group line.commitment).1 c))
          (λ (e, n). ⊎_elim (λ m. m ((in_group (get_or line.t 0 0)).1 t0)) (λ m. m ((in_group (get_or line.t 1 0)).1 t1)) n),
      λ (e, high). omega (arith, below, high),
      λ (e, high).
          ⊎_elim (λ (l : base.order ≤ get_or line.response 0 0). omega (arith, r0, l))
          (⊎_elim (λ (l : base.order ≤ get_or line.response 1 0). omega (arith, r1, l))
          (λ (l : base.order ≤ get_or line.response 2 0). omega (arith, r2, l))) high,
    )

  -- ---- one entry

  module _ (i : ℕ) (e : Entry) where
    -- no condition holds of an entry
    abbrev pub EntryClear : Type 0
    EntryClear = (¬ UnknownKind e.kind) × (¬ NotAbove i e.kind e.first e.second)
        × (¬ HighChallenge base e.kind e.challenge) × (¬ HighNumber base e)

    pub entry_clear : RightEntry base i e → EntryClear
    entry_clear (inl (one, v, ρ)) = (
      λ n. n (inl one),
      λ (joins, late). ⊎_elim (λ (k : e.kind ≡ 2). omega (arith, one, k)) (λ (k : e.kind ≡ 3). omega (arith, one, k)) joins,
      λ (k, high). omega (arith, one, k),
      ⊎_elim
          (λ (k, high).
          ⊎_elim (λ (l : base.order ≤ e.value). omega (arith, v, l)) (λ (l : base.order ≤ e.blinding). omega (arith, ρ, l)) high)
          (λ (k, high). omega (arith, one, k)),
    )
    entry_clear (inr (inl (two, first, second))) = (
      λ n. n (inr (inl two)),
      not_above_law i e.kind e.first e.second (first, second),
      λ (k, high). omega (arith, two, k),
      ⊎_elim (λ (k, high). omega (arith, two, k)) (λ (k, high). omega (arith, two, k)),
    )
    entry_clear (inr (inr (three, first, second, ρ, c, k0, k1, k2))) = (
      λ n. n (inr (inr three)),
      not_above_law i e.kind e.first e.second (first, second),
      λ (k, high). omega (arith, c, high),
      ⊎_elim (λ (k, high). omega (arith, three, k))
          (λ (k, high).
          ⊎_elim (λ (l : base.order ≤ e.blinding). omega (arith, ρ, l))
          (⊎_elim (λ (l : base.order ≤ get_or e.nonce 0 0). omega (arith, k0, l))
          (⊎_elim (λ (l : base.order ≤ get_or e.nonce 1 0). omega (arith, k1, l))
          (λ (l : base.order ≤ get_or e.nonce 2 0). omega (arith, k2, l)))) high),
    )
