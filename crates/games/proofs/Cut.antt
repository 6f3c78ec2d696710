-- The game on long files: the first 309 bytes of a sheet and the first 34,824 of a round file give the text of the whole, so a program
-- that reads no more prints what it must.
-- Assumes nothing.
use Prim.Native.Nat.{ℕ, ◌<◌, ◌≤◌}
use mathlib.Core.Path.{◌≡◌, sym, ap, ap₂, subst, ◌∙◌}
use mathlib.Core.List.{List, ◌++◌}
use native.Mathlib.Omega.{arith}
use lib.ListN.{take}
use lib.Seq.{take_all}
use Rattle.encoding.specs.Text.{ascii, decimal}
use Rattle.rules.proofs.Determined.{either}
use Rattle.formats.specs.RoundCalls.{check_round}
use Rattle.formats.proofs.Files.{check_runs}
use Rattle.formats.proofs.Loads.{loads, loads_few}
use Rattle.formats.proofs.LongFiles.{both_cut, file_short, loads_cut}
use Rattle.games.specs.Text.{game_text}
use Rattle.games.proofs.Number.{number_checked}
use Rattle.games.proofs.Playing.{refused_line_law}

-- what the check refuses has the one line with its number
pub checked_line : (sheet f : List ℕ) → 0 < check_round sheet f 0
    → game_text sheet f ≡ ascii "refused " ++ decimal (check_round sheet f 0) ++ ascii "\n"
checked_line sheet f some = refused_line_law sheet f (check_round sheet f 0) (number_checked sheet f some) some

pub text_cut : (a b : ℕ) → 309 ≤ a → 34824 ≤ b → (sheet f : List ℕ) → game_text (take a sheet) (take b f) ≡ game_text sheet f
text_cut a b enough enough' sheet f =
    let same = both_cut a b enough enough' sheet f 0 in
    either (check_round sheet f 0)
    (λ passed.
    let (loaded, file, some) = (check_runs sheet f 0).0 passed in
    let (rows, columns) = loads_few sheet loaded in
    ap₂ game_text (loads_cut a enough sheet ((loads sheet).1 loaded)) (take_all b f (omega (arith, file_short rows columns file))))
    (λ refused.
    checked_line (take a sheet) (take b f) (subst (λ (n : ℕ). 0 < n) (sym same) refused)
    ∙ ap (λ (n : ℕ). ascii "refused " ++ decimal n ++ ascii "\n") same ∙ sym (checked_line sheet f refused))
