-- The reason on whole files: those that are at hand, and those of which the first bytes were kept.
-- Assumes nothing.
use Prim.Native.Nat.{ℕ, ◌≤◌, ◌<◌}
use mathlib.Core.Path.{◌≡◌, refl, sym, ap, ap₂, ◌∙◌}
use mathlib.Core.List.{List}
use mathlib.Core.Logic.{◌↔◌}
use native.Mathlib.Omega.{arith}
use lib.ListN.{length, length-take, take}
use lib.Seq.{sets}
use Rattle.encoding.specs.Placed.{Placed}
use Rattle.reasons.specs.Reason.{reason_line, reason_text}
use Rattle.reasons.proofs.ReasonsTrue.{reason_corollaries}

-- a line that is placed at the start is what the contracts ask for
line_stored : {l bytes m : List ℕ} {r : ℕ} → Placed l 0 bytes m r → {whole : List ℕ} → bytes ≡ whole
    → (r ≡ length whole) × (m ≡ sets l 0 whole)
line_stored {l} placed same =
    let answered = ap length same in
    (omega (arith, placed.behind), placed.stored ∙ ap (sets l 0) same)

-- the line on whole files is the reason
pub reason_stored : (s f : List ℕ) {l m : List ℕ} {r : ℕ} → Placed l 0 (reason_line s (length s) f (length f)) m r
    → (r ≡ length (reason_text s f)) × (m ≡ sets l 0 (reason_text s f))
unfolding reason_text
reason_stored s f placed = line_stored placed refl

-- the line on the first n bytes of a sheet and the first k of a round file, with the lengths of the whole files, is the line on
-- the whole files, if these are at least 309 and 34,824
pub whole_line : (n k : ℕ) → 309 ≤ n → 34824 ≤ k → {sheet rounds l m : List ℕ} (x y : ℕ) {r : ℕ}
    → ((y < 7) ↔ (length rounds < 7) → Placed l 0 (reason_line sheet x rounds y) m r)
    → (s f : List ℕ) → sheet ≡ take n s → length s ≡ x → rounds ≡ take k f → length f ≡ y
    → (r ≡ length (reason_text s f)) × (m ≡ sets l 0 (reason_text s f))
whole_line n k enough enough' {sheet} {rounds} x y placed s f is_sheet size is_rounds size' =
    let short : (y < 7) ↔ (length rounds < 7) = rw is_rounds (omega (arith, length-take k f)) in
    line_stored (placed short)
    (ap₂ (λ (t g : List ℕ). reason_line t x g y) is_sheet is_rounds
    ∙ ap₂ (λ (a b : ℕ). reason_line (take n s) a (take k f) b) (sym size) (sym size')
    ∙ reason_corollaries.kept n k enough enough' s f)
