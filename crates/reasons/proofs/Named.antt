-- What is shown of each number: where its condition holds, the spot named for it is the first value that breaks the rule, or a
-- length that does; and each value or length that breaks the rule makes its condition hold.
-- Assumes nothing.
use Prim.Native.Nat.{ℕ, ◌<◌}
use mathlib.Core.Path.{◌≡◌, refl}
use mathlib.Core.List.{List}
use mathlib.Core.Logic.{◌↔◌, ◌⊎◌, inl, inr, ⊎_elim}
use native.Mathlib.Omega.{arith}
use lib.ListN.{length}
use Rattle.reasons.specs.declared.Spot.{Spot}
use Rattle.reasons.specs.declared.Spot.TheVariants.{At, Length}
use Rattle.rules.specs.Refuses.{condition_numbers}
use Rattle.reasons.specs.Breaks.{Breaks, FirstBreak, LengthBreaks, broken_by_length, broken_in_file, broken_in_sheet}
use Rattle.reasons.specs.Reason.{spot_of}
use Rattle.rules.proofs.Explains.{Explained, applies_fact, fact_applies, fact_of}

-- the spot that is named for rule n
abbrev pub spot : List ℕ → List ℕ → ℕ → Spot
spot s f n = spot_of s (length s) f (length f) n

-- it is the first value that breaks the rule, or a length that does
abbrev pub Named : List ℕ → List ℕ → ℕ → Type 0
Named s f n =
    ((o : ℕ) × FirstBreak s f n o × (spot s f n ≡ At o)) ⊎ ((l : ℕ) × LengthBreaks s f n l × (spot s f n ≡ Length l))

-- some value breaks the rule, or a length does
abbrev pub Broken : List ℕ → List ℕ → ℕ → Type 0
Broken s f n = ((o : ℕ) × Breaks s f n o) ⊎ ((l : ℕ) × LengthBreaks s f n l)

module _ (s f : List ℕ) (n : ℕ) where
  -- a value breaks the rule by a fact on the sheet or by one on the file
  breaks_fact : (o : ℕ) → Breaks s f n o → fact_of (broken_in_sheet s o) n ⊎ fact_of (broken_in_file s f o) n
  unfolding condition_numbers
  breaks_fact o =
      ⊎_elim (λ applies. inl (applies_fact (broken_in_sheet s o) n (omega arith) applies))
      (λ applies. inr (applies_fact (broken_in_file s f o) n (omega arith) applies))

  -- a length breaks it by its fact
  length_fact : (l : ℕ) → LengthBreaks s f n l → fact_of (broken_by_length s f l) n
  unfolding condition_numbers
  length_fact l = applies_fact (broken_by_length s f l) n (omega arith)

  -- the length is named
  pub length_named : (l : ℕ) → fact_of (broken_by_length s f l) n → spot s f n ≡ Length l → Named s f n
  length_named l fact told = inr (l, fact_applies (broken_by_length s f l) n fact, told)

  -- a number of the sheet
  pub in_sheet : ((o : ℕ) → ¬ fact_of (broken_in_file s f o) n) → (o : ℕ) → Breaks s f n o ↔ fact_of (broken_in_sheet s o) n
  in_sheet no_file o = (
    λ b. ⊎_elim (λ fact. fact) (λ fact. absurd (no_file o fact)) (breaks_fact o b),
    λ fact. inl (fact_applies (broken_in_sheet s o) n fact),
  )

  -- a number of the file
  pub in_file : ((o : ℕ) → ¬ fact_of (broken_in_sheet s o) n) → (o : ℕ) → Breaks s f n o ↔ fact_of (broken_in_file s f o) n
  in_file no_sheet o = (
    λ b. ⊎_elim (λ fact. absurd (no_sheet o fact)) (λ fact. fact) (breaks_fact o b),
    λ fact. inr (fact_applies (broken_in_file s f o) n fact),
  )

  module _ {Fact : ℕ → Type 0} (breaks : (o : ℕ) → Breaks s f n o ↔ Fact o) where
    -- the first value is named
    pub value_named : (o : ℕ) → Fact o → ((p : ℕ) → p < o → ¬ Fact p) → spot s f n ≡ At o → Named s f n
    value_named o fact first told =
        inl (o, record { breaks = (breaks o).1 fact; before = λ p h b. first p h ((breaks p).0 b) }, told)

    -- what breaks the rule is such a value, or a length
    pub caused : {P : Type 0} → ((o : ℕ) → Fact o → P) → ((l : ℕ) → fact_of (broken_by_length s f l) n → P) → Broken s f n → P
    caused value size = ⊎_elim (λ (o, b). value o ((breaks o).0 b)) (λ (l, b). size l (length_fact l b))

  -- a rule on one value, at a fixed offset
  pub field_explained : {P : Type 0} (at : ℕ) → ((o : ℕ) → Breaks s f n o ↔ ((o ≡ at) × P))
      → ((l : ℕ) → ¬ fact_of (broken_by_length s f l) n) → spot s f n ≡ At at → Explained (Named s f) (Broken s f) n P
  field_explained at breaks no_length told = (
    λ fact. value_named breaks at (refl, fact) (λ p before x. omega arith) told,
    caused breaks (λ o x. x.1) (λ l x. absurd (no_length l x)),
  )
