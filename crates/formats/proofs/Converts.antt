-- The converter of round files (02, card 7): it turns each version into the other and loses nothing.
-- Assumes nothing.
use Prim.Native.Nat.{ℕ}
use mathlib.Core.Path.{◌≡◌, refl, sym, subst, ◌∙◌}
use mathlib.Core.Logic.{⊎_elim}
use mathlib.Core.List.{List}
use native.Mathlib.Omega.{arith}
use Rattle.types.specs.declared.Round.{Round}
use Rattle.rules.specs.Order.{is_sublist, refusal_order, sheet_numbers}
use Rattle.rules.specs.Refuses.{condition_numbers}
use Rattle.formats.specs.Convert.{convert, converted, converting, other_version}
use Rattle.formats.specs.Converts.{ConvertRefusals, Converts, OneAndOther}
use Rattle.formats.specs.Ours.{file_calls, rounds_read}
use Rattle.formats.specs.Outcome.{Puts}
use Rattle.formats.specs.Refusals.{convert_conditions}
use Rattle.formats.specs.RoundFile.{file_version}
use Rattle.formats.specs.Rounds.{file_in, rounds_of}
use Rattle.formats.specs.Sheet.{header_of}
use Rattle.formats.proofs.ConvertCalls.{convert_again, convert_puts, convert_runs}
use Rattle.formats.proofs.Converting.{convert_tests, other_version_law}
use Rattle.formats.proofs.Files.{rounds_read_law}
use Rattle.formats.proofs.Refusals.{on_sheet_tests}
use Rattle.formats.proofs.Writing.{puts_front, writing_refuses}

-- the refusals
pub convert_refusals : ConvertRefusals file_calls
unfolding condition_numbers is_sublist refusal_order sheet_numbers convert converting
convert_refusals = record {
  converting = λ sheet f buffer.
      let h = header_of sheet in
      writing_refuses _ _ refl refl _ _ _ buffer
      (on_sheet_tests sheet (converting h f buffer) (convert_conditions h f buffer) (convert_tests h f buffer));
}

-- the other of the two versions
pub other_only : (version other : ℕ) → OneAndOther version other → other_version version ≡ other
other_only version other known =
    ⊎_elim
    (λ (one, two). ⊎_elim (λ o. two ∙ sym o.1) (λ o. absurd (omega (arith, one, o.0))) known)
    (λ (not_one, one). ⊎_elim (λ o. absurd (not_one o.0)) (λ o. one ∙ sym o.1) known) (other_version_law version)

-- the rounds that are read stand in the buffer, in the other version
convert_writes : (sheet f buffer : List ℕ) (other : ℕ) → (convert sheet f buffer).answer.refusal ≡ 0
    → OneAndOther (file_version f) other
    → Puts (file_in other (header_of sheet) (rounds_read sheet f)) buffer (convert sheet f buffer)
unfolding converted
convert_writes sheet f buffer other e known =
    let (l, r, narrow, fits) = (convert_runs sheet f buffer).0 e in
    let h = header_of sheet in
    subst (λ (rounds : List Round). Puts (file_in other h rounds) buffer (convert sheet f buffer)) (sym (rounds_read_law sheet f l r))
    (subst (λ (version : ℕ). Puts (file_in version h (rounds_of h f)) buffer (convert sheet f buffer))
    (other_only (file_version f) other known) (convert_puts sheet f buffer e))

-- what the card asks
pub converts : Converts file_calls
unfolding file_version
converts = record {
  converted = convert_writes;
  again = λ sheet f buffer other b e fits.
      let (l, r, narrow, room) = (convert_runs sheet f buffer).0 e in
      rw (puts_front (convert_puts sheet f buffer e)) (convert_again sheet f l r b narrow other fits);
}
