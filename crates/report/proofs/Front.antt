-- The marker's text on files of which the first bytes were kept.
-- Assumes nothing.
use Prim.Native.Nat.{ℕ, ◌≤◌}
use mathlib.Core.Path.{◌≡◌, ap, ◌∙◌}
use mathlib.Core.List.{List}
use lib.ListN.{length, take}
use lib.Seq.{sets}
use Rattle.runs.specs.Marker.{marker_text}
use Rattle.runs.proofs.MarkerCut.{text_cut}

-- the text on the first n, k and j bytes of a sheet, of a round file and of a level is the text on the whole files, if these are
-- at least 309, 34,824 and two
pub whole_text : (n k j : ℕ) → 309 ≤ n → 34824 ≤ k → 2 ≤ j → (before : List ℕ) {after sheet rounds level : List ℕ} {r : ℕ}
    → r ≡ length (marker_text sheet rounds level) → after ≡ sets before 0 (marker_text sheet rounds level)
    → (s f w : List ℕ) → sheet ≡ take n s → rounds ≡ take k f → level ≡ take j w
    → (r ≡ length (marker_text s f w)) × (after ≡ sets before 0 (marker_text s f w))
whole_text n k j enough enough' enough'' before {after} {sheet} {rounds} {level} answered stored s f w is_sheet is_file is_level =
    let same : marker_text sheet rounds level ≡ marker_text s f w =
    rw (is_sheet, is_file, is_level) (text_cut n k j enough enough' enough'' s f w) in
    (answered ∙ ap length same, stored ∙ ap (sets before 0) same)
