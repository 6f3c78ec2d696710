-- What follows from the demands on sheets and round files holds of the calls as they are defined.
-- Assumes nothing.
use Prim.Native.Nat.{ℕ, ◌+◌, ◌*◌, ◌<◌}
use mathlib.Core.Path.{◌≡◌, refl, sym, ap, subst, ◌∙◌}
use mathlib.Core.Bool.{false≢true}
use mathlib.Core.Logic.{◌⊎◌, ◌≢◌, inl, inr, ⊎_elim}
use mathlib.Core.List.{List, [], ◌∷◌, ◌++◌}
use native.Mathlib.Omega.{arith}
use Rattle.types.specs.declared.Round.{Round}
use Rattle.encoding.specs.Bytes.{number_at}
use Rattle.lists.specs.Member.{Member}
use Rattle.rules.specs.Condition.{Condition, ◌if◌, Given}
use Rattle.rules.specs.Refuses.{condition_numbers}
use Rattle.rules.proofs.Determined.{NoneHold, none_zero, none_join}
use Rattle.rules.proofs.Order.{is_member, says_member}
use Rattle.sigma.proofs.Unread.{same_round_of_padded}
use Rattle.formats.specs.Append.{append}
use Rattle.formats.specs.Convert.{convert, other_version}
use Rattle.formats.specs.Converts.{OneAndOther}
use Rattle.formats.specs.Corollaries.{FileCorollaries}
use Rattle.formats.specs.Meaning.{record_size}
use Rattle.formats.specs.Ours.{file_calls}
use Rattle.formats.specs.Outcome.{front}
use Rattle.formats.specs.Refusals.{Refusal12, convert_conditions, file_conditions, load_conditions}
use Rattle.formats.specs.RoundCalls.{count_rounds, fetch_round}
use Rattle.formats.specs.RoundFile.{count_field, file_version}
use Rattle.formats.specs.Sheet.{header_of, instance_of}
use Rattle.formats.proofs.Appending.{append_given, append_runs, appended_counted}
use Rattle.formats.proofs.ByteLayout.{layout}
use Rattle.formats.proofs.ConvertCalls.{convert_puts, convert_runs}
use Rattle.formats.proofs.Converting.{converted_version}
use Rattle.formats.proofs.Converts.{convert_refusals}
use Rattle.formats.proofs.FileRefusals.{file_refusals}
use Rattle.formats.proofs.Refusals.{sheet_valid}
use Rattle.formats.proofs.SameCommitment.{same_values}
use Rattle.formats.proofs.Unread.{append_same, encode_same, read_same}
use Rattle.formats.proofs.Writing.{puts_front}

-- ---- the record writer

-- the count field is one more, as a number
append_counted : (sheet buffer : List ℕ) (used : ℕ) (round : Round) → (append sheet buffer used round).answer.refusal ≡ 0
    → count_field (append sheet buffer used round).buffer ≡ count_field buffer + 1
append_counted sheet buffer used round e =
    let (l, u, narrow, fits) = (append_runs sheet buffer used round).0 e in
    rw (append_given sheet buffer used round e) (appended_counted u round fits)

-- ---- the converter

-- its version is the other one
convert_version : (sheet f buffer : List ℕ) → (convert sheet f buffer).answer.refusal ≡ 0
    → OneAndOther (file_version f) (file_version (front (convert sheet f buffer)))
unfolding other_version
convert_version sheet f buffer e =
    let h = header_of sheet in
    let (l, r, narrow, fits) = (convert_runs sheet f buffer).0 e in
    rw (puts_front (convert_puts sheet f buffer e))
    (⊎_elim (λ (one : file_version f ≡ 1). inl (one, converted_version h f ∙ ap other_version one))
    (λ (two : file_version f ≡ 2). inr (two, converted_version h f ∙ ap other_version two)) r.version)

-- a number that conditions give is one of the first of them, or those do not hold and the others give it
given_later : (first later : List Condition) (n : ℕ) → Given (first ++ later) n
    → Member n (condition_numbers first) ⊎ (NoneHold first × Given later n)
unfolding condition_numbers
given_later [] later n gives = inr (tt, gives)
given_later ((m if holds) ∷ first) later n (inl here) = inl (inl here.1)
given_later ((m if holds) ∷ first) later n (inr rest) =
    ⊎_elim (λ found. inl (inr found)) (λ (none, gives). inr ((rest.0, none), gives)) (given_later first later n rest.1)

module _ (sheet f buffer : List ℕ) (wide : (convert sheet f buffer).answer.refusal ≡ 15) where
  -- 15 is given where the sheet loads, the file reads and a record of version 1 has a challenge above 65,535
  fifteen : NoneHold (load_conditions sheet) × (¬ Refusal12 (header_of sheet) f) × (file_version f ≡ 1)
      × ((k : ℕ) × (k < count_field f) × (65535 < number_at 4 f (7 + k * record_size 4 (header_of sheet) + 4 * (header_of sheet).rows)))
  unfolding condition_numbers is_member
  fifteen =
      let gives = subst (Given (load_conditions sheet ++ convert_conditions (header_of sheet) f buffer)) wide (convert_refusals.converting sheet f buffer).given in
      ⊎_elim (λ found. absurd (false≢true ((says_member 15 (condition_numbers (load_conditions sheet))).complete found)))
      (λ (none, later).
      ⊎_elim (λ (bad, e). absurd (omega arith))
      (λ (file, later).
      ⊎_elim (λ (wide, e). (none, file, wide.0, wide.1))
      (λ (narrow, later). ⊎_elim (λ (short, e). absurd (omega arith)) (λ (fits, e). absurd (omega arith)) later) later) later)
      (given_later (load_conditions sheet) (convert_conditions (header_of sheet) f buffer) 15 gives)

  -- so no file of version 2 gets it
  not_two : number_at 2 f 3 ≢ 2
  unfolding file_version
  not_two two = let (none, file, one, high) = fifteen in omega (arith, one)

  -- nor one whose challenges are all below K, which is at most 65,536
  not_below : ¬ ((k : ℕ) → k < number_at 2 f 5 → (fetch_round sheet f k).round.challenge < number_at 4 sheet 14)
  unfolding file_version count_field header_of instance_of
  not_below low =
      let (none, file, one, (k, below, high)) = fifteen in
      let counted : (count_rounds sheet f).refusal ≡ 0 =
      none_zero (load_conditions sheet ++ file_conditions (header_of sheet) f) _
      (none_join (load_conditions sheet) (file_conditions (header_of sheet) f) none (file, tt)) (file_refusals.counting sheet f).given in
      let read : (fetch_round sheet f k).round.challenge ≡ number_at 4 f (7 + k * record_size 4 (header_of sheet) + 4 * (header_of sheet).rows) =
      subst (λ (w : ℕ). (fetch_round sheet f k).round.challenge ≡ number_at w f (7 + k * record_size w (header_of sheet) + 4 * (header_of sheet).rows))
      (layout.widths f 4 (inl (one, refl))) ((layout.files sheet f counted).rounds k below).1.challenge in
      omega (arith, high, low k below, read, (sheet_valid sheet none).table.few_challenges)

pub file_corollaries : FileCorollaries file_calls
unfolding file_version count_field
file_corollaries = record {
  values_read = λ inst buffer. sym (encode_same (read_same inst) buffer);
  round_read = λ sheet buffer used round. sym (append_same sheet buffer used (same_round_of_padded (header_of sheet) round));
  counted = append_counted;
  compared = λ sheet f i j bytes e. same_values sheet f i j e bytes;
  put = λ sheet f buffer e. let put = convert_puts sheet f buffer e in rw (puts_front put) put;
  version = convert_version;
  from_two = λ sheet f buffer two e. not_two sheet f buffer e two;
  below_K = λ sheet f buffer low e. not_below sheet f buffer e low;
}
