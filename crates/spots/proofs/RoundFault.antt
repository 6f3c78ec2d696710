-- The spot of a refused round: the last of the numbers is 16, and its search is that for the first slot that is none.
-- Assumes nothing.
use Prim.Native.Nat.{ℕ, ◌+◌, ◌*◌}
use mathlib.Core.Path.{◌≡◌, ap}
use mathlib.Core.Bool.{not}
use mathlib.Core.List.{List}
use mathlib.Core.Logic.{◌≢◌}
use native.Mathlib.Omega.{arith}
use borrow.Author.Tests.{ne_eqb}
use Rattle.types.specs.declared.Header.{Header}
use Rattle.numbers.proofs.Search.{find_agree}
use Rattle.encoding.specs.Bytes.{words_at}
use Rattle.lists.specs.Places.{pad8}
use Rattle.sigma.specs.Element.{is_coordinate}
use Rattle.formats.specs.RoundFile.{challenge_width}
use Rattle.formats.proofs.ByteLayout.{word_at}
use Rattle.modular.specs.FirstFailing.{first_failing}
use Rattle.reasons.specs.declared.Spot.TheVariants.{At}
use Rattle.reasons.specs.Reason.{first_non_coordinate, round_spot}

-- the search among the slots that were read is the search in the file
slots_first : (h : Header) (f : List ℕ) (start n : ℕ)
    → first_failing (is_coordinate h) n (pad8 0 (words_at f start n)) ≡ first_non_coordinate h f start n
unfolding first_failing first_non_coordinate
slots_first h f start n =
    find_agree _ _ 0 n (λ i low below. ap (λ (v : ℕ). not (is_coordinate h v)) (word_at f start n i (omega arith)))

-- neither 14 nor 15
pub slot_told : (h : Header) (f : List ℕ) (n : ℕ) → n ≢ 14 → n ≢ 15 → {width : ℕ} → width ≡ challenge_width f
    → {slots : List ℕ} {j : ℕ} → slots ≡ pad8 0 (words_at f (7 + 4 * h.rows + width) h.columns)
    → j ≡ first_failing (is_coordinate h) h.columns slots → At (7 + 4 * h.rows + width + 4 * j) ≡ round_spot h f n
unfolding round_spot
slot_told h f n a b {width} is_width read found =
    rw (ne_eqb n 14 a, ne_eqb n 15 b, ← is_width, found, read, slots_first h f (7 + 4 * h.rows + width) h.columns)
