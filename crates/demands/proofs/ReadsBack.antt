-- Sheets and round files read back, by the calls' own answers.
-- Assumes nothing.
use Prim.Native.Nat.{ℕ}
use mathlib.Core.Path.{sym, subst}
use mathlib.Core.List.{List}
use mathlib.Core.Logic.{inl, inr, ⊎_elim}
use Rattle.sigma.specs.Instance.{Instance}
use Rattle.formats.specs.Load.{load}
use Rattle.formats.specs.Ours.{file_calls}
use Rattle.formats.specs.Outcome.{Puts, front}
use Rattle.formats.specs.Write.{Writing}
use Rattle.formats.proofs.Files.{width_only}
use Rattle.formats.proofs.FilesByCalls.{rewritten, appended_read}
use Rattle.formats.proofs.Growing.{append_grows}
use Rattle.formats.proofs.Loads.{loaded_given, loads}
use Rattle.formats.proofs.SheetRoundTrip.{encode_loads, load_encodes}
use Rattle.formats.proofs.Writing.{puts_front}
use Rattle.linear_forms.specs.Ours.{linear_calls}
use Rattle.linear_forms.proofs.LinearSheets.{linear_sheets}
use Rattle.patterns.specs.Ours.{maker_calls}
use Rattle.patterns.proofs.Making.{make_loads}
use Rattle.demands.specs.ReadsBack.{LoadsAs, ReadsBack}

-- a sheet that was put at the front loads there
front_loads : {sheet buffer : List ℕ} {w : Writing} {inst : Instance} → Puts sheet buffer w → LoadsAs file_calls sheet inst
    → LoadsAs file_calls (front w) inst
front_loads {inst = inst} put = subst (λ (s : List ℕ). LoadsAs file_calls s inst) (sym (puts_front put))

pub reads_back : ReadsBack file_calls maker_calls linear_calls
unfolding load
reads_back = record {
  encoded = λ inst buffer small short e.
      let (put, none, same) = encode_loads inst buffer small short e in
      front_loads put (none, same);
  from_pattern_law = λ f number m ℓ K values z buffer small short e.
      let (put, none, same) = make_loads f number m ℓ K values z buffer e small short in
      front_loads put (none, same);
  from_forms = λ p buffer small short e.
      let (none, of_plan) = linear_sheets.loads p buffer small short e in
      (_, of_plan, (none, loaded_given _ none));
  sheet_again = λ sheet buffer bytes e fits. load_encodes sheet bytes e buffer fits;
  appended = λ version width has sheet buffer e.
      rw (← width_only has) (appended_read (⊎_elim (λ x. inl x.0) (λ x. inr x.0) has) sheet buffer ((loads sheet).0 e));
  grown = append_grows;
  file_again = rewritten;
}
