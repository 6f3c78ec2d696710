-- Exactly when the calls on a ledger are not refused (02, card 14), in numbers and without the conditions of their refusals: what is
-- right of the values that all lines share, of the count, and of each line by its kind. So a condition that is changed together with its
-- test is seen.
-- Assumes nothing.
use Rattle.std.specs.Prelude.{ℕ, ◌%◌, ◌^◌, ◌<◌, ◌≤◌, ◌≡◌, ◌↔◌, ◌⊎◌, ◌≢◌, get_or}
use Rattle.ledgers.specs.LedgerCalls.{LedgerCalls}
use Rattle.ledgers.specs.Lines.{no_entry, no_line}
use Rattle.ledgers.specs.declared.Base.{Base}
use Rattle.ledgers.specs.declared.Entries.{Entries}
use Rattle.ledgers.specs.declared.Entry.{Entry}
use Rattle.ledgers.specs.declared.Ledger.{Ledger}
use Rattle.ledgers.specs.declared.Line.{Line}

-- a number from 1 to m − 1 whose q-th power is 1 mod m
abbrev pub InGroup : Base → ℕ → Type 0
InGroup base x = (1 ≤ x) × (x < base.modulus) × (x ^ base.order % base.modulus ≡ 1)

-- m is at least 3, q at least 2, K from 2 to 65,536, no d from 2 to K − 1 divides q, and g and h are group elements
abbrev pub RightBase : Base → Type 0
RightBase base =
    (3 ≤ base.modulus) × (2 ≤ base.order) × (2 ≤ base.challenges) × (base.challenges ≤ 65536)
    × ((d : ℕ) → 2 ≤ d → d < base.challenges → base.order % d ≢ 0) × InGroup base base.g × InGroup base base.h

-- line i is a commitment that is a group element, a sum of two lines above, or a product of two lines above whose commitment and t are
-- group elements and whose challenge is below K and response below q
abbrev pub RightLine : Base → ℕ → Line → Type 0
RightLine base i line =
    ((line.kind ≡ 1) × InGroup base line.commitment)
    ⊎ ((line.kind ≡ 2) × (line.first < i) × (line.second < i))
    ⊎ ((line.kind ≡ 3) × (line.first < i) × (line.second < i) × InGroup base line.commitment
    × InGroup base (get_or line.t 0 0) × InGroup base (get_or line.t 1 0) × (line.challenge < base.challenges)
    × (get_or line.response 0 0 < base.order) × (get_or line.response 1 0 < base.order)
    × (get_or line.response 2 0 < base.order))

-- entry i is a commitment to a value below q with a blinding number below q, a sum of two lines above, or a product of two lines above
-- with a blinding number and a nonce below q and a challenge below K
abbrev pub RightEntry : Base → ℕ → Entry → Type 0
RightEntry base i e =
    ((e.kind ≡ 1) × (e.value < base.order) × (e.blinding < base.order))
    ⊎ ((e.kind ≡ 2) × (e.first < i) × (e.second < i))
    ⊎ ((e.kind ≡ 3) × (e.first < i) × (e.second < i) × (e.blinding < base.order) × (e.challenge < base.challenges)
    × (get_or e.nonce 0 0 < base.order) × (get_or e.nonce 1 0 < base.order) × (get_or e.nonce 2 0 < base.order))

pub record LedgerRuns (ledgers : LedgerCalls) : Type 0 where
  -- checking: all lines share right values, there are at most 64, and each is right
  pub checks : (base : Base) (ledger : Ledger) → ((ledgers.check_ledger base ledger).refusal ≡ 0)
      ↔ (RightBase base × (ledger.count ≤ 64)
      × ((i : ℕ) → i < ledger.count → RightLine base i (get_or ledger.lines i no_line)))
  -- writing: likewise of the entries
  pub writes : (base : Base) (entries : Entries) → ((ledgers.write_ledger base entries).refusal ≡ 0)
      ↔ (RightBase base × (entries.count ≤ 64)
      × ((i : ℕ) → i < entries.count → RightEntry base i (get_or entries.entries i no_entry)))
