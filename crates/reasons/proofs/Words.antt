-- A run of words in a file: the search for the first bad one names the first offset at which a bad one stands.
-- Assumes nothing.
use Prim.Native.Nat.{ℕ, ◌+◌, ◌*◌, ◌<◌}
use mathlib.Core.Path.{◌≡◌, refl, sym, ap, subst, ◌∙◌}
use mathlib.Core.Bool.{Bool, not}
use mathlib.Core.List.{List}
use mathlib.Core.Logic.{◌↔◌}
use native.Mathlib.Omega.{arith}
use lib.ListN.{get_or}
use borrow.Author.Tests.{ltb-true}
use Rattle.numbers.specs.Search.{any, find}
use Rattle.numbers.proofs.Search.{any_of, find_first, find_holds}
use Rattle.encoding.specs.Bytes.{number_at}
use Rattle.rules.specs.Says.{Says}
use Rattle.rules.proofs.Explains.{Explained, fact_of}
use Rattle.rules.proofs.Says.{says_not}
use Rattle.sigma.proofs.Calculus.{says_passes}
use Rattle.reasons.specs.declared.Spot.TheVariants.{At}
use Rattle.reasons.specs.Breaks.{Breaks, broken_by_length}
use Rattle.reasons.proofs.Named.{Broken, Named, caused, spot, value_named}

-- the value at offset o is one of the n words from `start` on, and a bad one
abbrev pub BadWord : (ℕ → Type 0) → List ℕ → ℕ → ℕ → ℕ → Type 0
BadWord Good bytes start n o = (i : ℕ) × (i < n) × (o ≡ start + 4 * i) × (¬ Good (number_at 4 bytes o))

module _ (Good : ℕ → Type 0) (test : ℕ → Bool) (says : (v : ℕ) → Says (test v) (Good v)) (bytes : List ℕ) (start count : ℕ) where
  -- the place of the first bad word among them
  abbrev first_bad : ℕ
  first_bad = find (λ i. not (test (number_at 4 bytes (start + 4 * i)))) 0 count

  module _ (s f : List ℕ) (n : ℕ) (breaks : (o : ℕ) → Breaks s f n o ↔ BadWord Good bytes start count o)
      (told : spot s f n ≡ At (start + 4 * first_bad)) where
    -- where one of them is bad, the first is named
    pub word_named : (o : ℕ) → BadWord Good bytes start count o → Named s f n
    unfolding any
    word_named o (i, inside, same, bad) =
        let p : ℕ → Bool = λ j. not (test (number_at 4 bytes (start + 4 * j))) in
        let met = (says_not (says _)).complete (subst (λ (k : ℕ). ¬ Good (number_at 4 bytes k)) same bad) in
        let below : first_bad < count = ltb-true _ _ (any_of count p i inside met) in
        let first = (says_not (says _)).sound (find_holds p 0 count (omega arith)) in
        value_named s f n breaks (start + 4 * first_bad) (first_bad, below, refl, first) (λ k before (j, _, same', bad').
        let passed = (says_passes (says _)).0 (find_first p 0 count j (omega arith) (omega arith)) in
        bad' (subst (λ (k : ℕ). Good (number_at 4 bytes k)) (sym same') passed)) told

    -- a rule that asks all of them, read as a list
    pub words_explained : ((l : ℕ) → ¬ fact_of (broken_by_length s f l) n) → (xs : List ℕ)
        → ((i : ℕ) → i < count → get_or xs i 0 ≡ number_at 4 bytes (start + 4 * i))
        → Explained (Named s f) (Broken s f) n ((i : ℕ) × (i < count) × (¬ Good (get_or xs i 0)))
    words_explained no_length xs read = (
      λ (i, inside, bad). word_named (start + 4 * i) (i, inside, refl, subst (λ (v : ℕ). ¬ Good v) (read i inside) bad),
      caused s f n breaks
          (λ o (i, inside, same, bad).
          (i, inside, subst (λ (v : ℕ). ¬ Good v) (ap (number_at 4 bytes) same ∙ sym (read i inside)) bad))
          (λ l fact. absurd (no_length l fact)),
    )
