-- The game's text on files of which the first bytes were kept.
-- Assumes nothing.
use Prim.Native.Nat.{ℕ, ◌≤◌}
use mathlib.Core.Path.{◌≡◌, ap, ◌∙◌}
use mathlib.Core.List.{List}
use lib.ListN.{length, take}
use lib.Seq.{sets}
use Rattle.games.specs.Text.{game_text}
use Rattle.games.proofs.Cut.{text_cut}

-- the text on the first n and k bytes of a sheet and of a round file is the text on the whole files, if these are at least 309 and
-- 34,824
pub whole_text : (n k : ℕ) → 309 ≤ n → 34824 ≤ k → (before : List ℕ) {after sheet rounds : List ℕ} {r : ℕ}
    → r ≡ length (game_text sheet rounds) → after ≡ sets before 0 (game_text sheet rounds)
    → (s f : List ℕ) → sheet ≡ take n s → rounds ≡ take k f
    → (r ≡ length (game_text s f)) × (after ≡ sets before 0 (game_text s f))
whole_text n k enough enough' before {after} {sheet} {rounds} answered stored s f is_sheet is_file =
    let same : game_text sheet rounds ≡ game_text s f = rw (is_sheet, is_file) (text_cut n k enough enough' s f) in
    (answered ∙ ap length same, stored ∙ ap (sets before 0) same)
