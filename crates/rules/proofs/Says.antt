-- A calculus of tests: what a comparison says, and what a test made of other tests says.
-- Assumes nothing.
use Prim.Native.Nat.{ℕ, ◌<◌, ◌≤◌}
use mathlib.Core.Path.{◌≡◌, refl, sym, ap, ◌∙◌}
use mathlib.Core.Bool.{Bool, true, false, cond, not, ◌&&◌, ◌||◌, false≢true}
use mathlib.Core.Logic.{◌↔◌, ◌⊎◌, inl, inr, ⊎_elim}
use lib.Dec.{ltb, leb, eqb}
use borrow.Author.Tests.{ltb-true, lt-ltb, leb-true, le-leb, eqb-true, eq-eqb, not-true}
use Rattle.rules.specs.Says.{Says}

-- the comparison `<`
pub says_less : (a b : ℕ) → Says (ltb a b) (a < b)
says_less a b = record { sound = ltb-true a b; complete = lt-ltb a b }

-- the comparison `≤`
pub says_at_most : (a b : ℕ) → Says (leb a b) (a ≤ b)
says_at_most a b = record { sound = leb-true a b; complete = le-leb a b }

-- the comparison `≡`
pub says_equal : (a b : ℕ) → Says (eqb a b) (a ≡ b)
says_equal a b = record { sound = eqb-true a b; complete = eq-eqb a b }

-- a test says that it is true
pub says_true : (t : Bool) → Says t (t ≡ true)
says_true t = record { sound = λ e. e; complete = λ e. e }

module _ {p q : Bool} {P Q : Type 0} where
  -- one of two tests
  pub says_or : Says p P → Says q Q → Says (p || q) (P ⊎ Q)
  says_or s t = record { sound = split p s.sound; complete = ⊎_elim (λ x. rw (s.complete x)) (λ y. right p (t.complete y)) }
    where
      split : (b : Bool) → (b ≡ true → P) → (b || q) ≡ true → P ⊎ Q
      split true f e = inl (f refl)
      split false f e = inr (t.sound e)

      right : (b : Bool) → q ≡ true → (b || q) ≡ true
      right true e = refl
      right false e = e

  -- both of two tests
  pub says_and : Says p P → Says q Q → Says (p && q) (P × Q)
  says_and s t = record { sound = split p s.sound; complete = λ x. rw (s.complete x.0) (t.complete x.1) }
    where
      split : (b : Bool) → (b ≡ true → P) → (b && q) ≡ true → P × Q
      split true f e = (f refl, t.sound e)
      split false f e = absurd (false≢true e)

module _ {t : Bool} {P : Type 0} (s : Says t P) where
  -- the test is false exactly when the fact fails
  pub says_false : (t ≡ false) ↔ (¬ P)
  says_false = (λ e x. false≢true (sym e ∙ s.complete x), fails t s.sound)
    where
      fails : (b : Bool) → (b ≡ true → P) → ¬ P → b ≡ false
      fails true f n = absurd (n (f refl))
      fails false f n = refl

  -- a fact that a test says holds or fails
  pub says_decides : P ⊎ (¬ P)
  says_decides = decide t s.sound says_false.0
    where
      decide : (b : Bool) → (b ≡ true → P) → (b ≡ false → ¬ P) → P ⊎ (¬ P)
      decide true f g = inl (f refl)
      decide false f g = inr (g refl)

  -- what is had where the fact holds and where it fails is had
  pub says_elim : {A : Type 0} → (P → A) → ((¬ P) → A) → A
  says_elim holding failing = ⊎_elim holding failing says_decides

  -- the opposite of a test
  pub says_not : Says (not t) (¬ P)
  says_not = record { sound = λ e. says_false.0 (not-true t e); complete = λ n. ap not (says_false.1 n) }

  -- a test says every fact that holds exactly when its own does
  pub says_iff : {Q : Type 0} → P ↔ Q → Says t Q
  says_iff e = record { sound = λ h. e.0 (s.sound h); complete = λ y. s.complete (e.1 y) }

  -- two tests that say the same fact are equal
  pub says_same : {u : Bool} → Says u P → t ≡ u
  says_same {u} r = same t u (λ e. r.complete (s.sound e)) (λ e. s.complete (r.sound e))
    where
      same : (a b : Bool) → (a ≡ true → b ≡ true) → (b ≡ true → a ≡ true) → a ≡ b
      same true b f g = sym (f refl)
      same false true f g = g refl
      same false false f g = refl

-- a test that another test chooses
pub says_cond : {t p q : Bool} {P Q : Type 0} → Says p P → Says q Q → Says (cond t p q) (((t ≡ true) × P) ⊎ ((t ≡ false) × Q))
says_cond {t} {p} {q} {P} {Q} r s =
    record { sound = split t; complete = ⊎_elim (λ x. rw x.0 (r.complete x.1)) (λ y. rw y.0 (s.complete y.1)) }
  where
    split : (b : Bool) → cond b p q ≡ true → ((b ≡ true) × P) ⊎ ((b ≡ false) × Q)
    split true e = inl (refl, r.sound e)
    split false e = inr (refl, s.sound e)
