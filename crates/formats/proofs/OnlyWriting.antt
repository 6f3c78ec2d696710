-- What a writing call puts into a lent buffer determines what it answers and leaves there.
-- Assumes nothing.
use Prim.Native.Nat.{ℕ, ◌+◌, ◌-◌, ◌<◌, ◌≤◌}
use mathlib.Core.Path.{◌≡◌, sym, ap, subst, ◌∙◌}
use mathlib.Core.Logic.{◌⊎◌, inl, inr}
use mathlib.Core.List.{List, ◌++◌}
use native.Mathlib.Omega.{arith}
use lib.ListN.{length, get_or, take, drop, take-append-drop}
use lib.Seq.{ext_get_or, get_or-take, get_or-drop}
use Rattle.types.specs.declared.Header.{Header}
use Rattle.types.specs.declared.Round.{Round}
use Rattle.rules.proofs.Determined.{below_or_not}
use Rattle.formats.specs.Outcome.{Adds, Keeps, Puts}
use Rattle.formats.specs.RoundFile.{record_length, width_in_use}
use Rattle.formats.specs.Write.{Writing}

-- number, length and buffer are all of an outcome
writing_only : (w w' : Writing) → w.answer.refusal ≡ w'.answer.refusal → w.answer.length ≡ w'.answer.length
    → w.buffer ≡ w'.buffer → w ≡ w'
writing_only w w' n l b i = record { answer = record { refusal = n i; length = l i }; buffer = b i }

-- a refused call
pub keeps_only : {buffer : List ℕ} (w w' : Writing) → w.answer.refusal ≡ w'.answer.refusal → Keeps buffer w → Keeps buffer w'
    → w ≡ w'
keeps_only w w' n k k' = writing_only w w' n (k.answered ∙ sym k'.answered) (k.same ∙ sym k'.same)

-- bytes at the buffer's start
pub puts_only : {bytes buffer : List ℕ} (w w' : Writing) → Puts bytes buffer w → Puts bytes buffer w' → w ≡ w'
puts_only {bytes} w w' p p' =
    writing_only w w' (p.number ∙ sym p'.number) (p.answered ∙ sym p'.answered)
    (sym (take-append-drop (length bytes) w.buffer)
    ∙ ap (λ (xs : List ℕ). xs ++ drop (length bytes) w.buffer) (p.start ∙ sym p'.start)
    ∙ ap (λ (xs : List ℕ). take (length bytes) w'.buffer ++ xs) (p.behind ∙ sym p'.behind)
    ∙ take-append-drop (length bytes) w'.buffer)

-- ---- a record after the bytes in use

-- two buffers with the same part of n bytes from `at` on have the same bytes there
part_only : (at n : ℕ) (b b' : List ℕ) → take n (drop at b) ≡ take n (drop at b') → (j : ℕ) → at ≤ j → j < at + n
    → get_or b j 0 ≡ get_or b' j 0
part_only at n b b' e j from to =
    let place : at + (j - at) ≡ j = omega arith in
    let inside : j - at < n = omega arith in
    subst (λ (k : ℕ). get_or b k 0 ≡ get_or b' k 0) place
    (sym (get_or-drop at b (j - at) 0) ∙ sym (get_or-take n (drop at b) (j - at) 0 inside) ∙ ap (λ (xs : List ℕ). get_or xs (j - at) 0) e
    ∙ get_or-take n (drop at b') (j - at) 0 inside ∙ get_or-drop at b' (j - at) 0)

-- the record, the two bytes of the count and all other bytes are the whole buffer
pub adds_only : {h : Header} {round : Round} {buffer : List ℕ} {used : ℕ} (w w' : Writing)
    → Adds h round buffer used w → Adds h round buffer used w' → w ≡ w'
adds_only {h} {round} {buffer} {used} w w' a a' =
    writing_only w w' (a.number ∙ sym a'.number) (a.answered ∙ sym a'.answered)
    (ext_get_or 0 w.buffer w'.buffer (a.size ∙ sym a'.size) (λ j inside. byte j))
  where
    stored : (j : ℕ) → used ≤ j → j < used + record_length (width_in_use buffer used) h → get_or w.buffer j 0 ≡ get_or w'.buffer j 0
    stored j = part_only used (record_length (width_in_use buffer used) h) w.buffer w'.buffer (a.stored ∙ sym a'.stored) j

    raised : (j : ℕ) → 5 ≤ j → j < 7 → get_or w.buffer j 0 ≡ get_or w'.buffer j 0
    raised j = part_only 5 2 w.buffer w'.buffer (a.raised ∙ sym a'.raised) j

    apart : (j : ℕ) → (j < used) ⊎ (used + record_length (width_in_use buffer used) h ≤ j) → get_or w.buffer j 0 ≡ get_or w'.buffer j 0
    apart j outside =
        below_or_not j 5 (λ low. a.others j (inl low) outside ∙ sym (a'.others j (inl low) outside))
        (λ from. below_or_not j 7 (raised j from)
        (λ high. a.others j (inr high) outside ∙ sym (a'.others j (inr high) outside)))

    byte : (j : ℕ) → get_or w.buffer j 0 ≡ get_or w'.buffer j 0
    byte j =
        below_or_not j used (λ low. apart j (inl low))
        (λ from. below_or_not j (used + record_length (width_in_use buffer used) h) (stored j from) (λ high. apart j (inr high)))
