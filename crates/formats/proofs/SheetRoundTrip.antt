-- Sheets, there and back: what the second writer writes loads as the values that it was given, and what the loader gives is
-- written as the bytes that it was loaded from.
-- Assumes nothing.
use Prim.Native.Nat.{ℕ, ◌^◌, ◌<◌, ◌≤◌}
use mathlib.Core.Path.{◌≡◌, sym, ap, ◌∙◌, subst}
use mathlib.Core.List.{List}
use native.Mathlib.Omega.{arith}
use lib.ListN.{length}
use Rattle.encoding.specs.Bytes.{AllBytes}
use Rattle.sigma.specs.Instance.{Instance}
use Rattle.sigma.specs.Valid.{Valid}
use Rattle.formats.specs.Encode.{sheet_of, encode}
use Rattle.formats.specs.Load.{load_refusal}
use Rattle.formats.specs.Meaning.{Loads, read_instance}
use Rattle.formats.specs.Ours.{loaded}
use Rattle.formats.specs.Outcome.{Puts}
use Rattle.formats.specs.Sheet.{instance_of, sheet_length}
use Rattle.formats.proofs.Loads.{loads, loaded_given}
use Rattle.formats.proofs.SheetRead.{sheet_of_instance_of}
use Rattle.formats.proofs.SheetWritten.{sheet_mark_law, sheet_version, sheet_header, instance_of_sheet_of}
use Rattle.formats.proofs.Unread.{read_same, same_instance_sym, valid_same}
use Rattle.formats.proofs.Writing.{length_sheet_of, encode_runs, encode_puts}

-- ---- written and loaded

module _ (i : Instance) (v : Valid i) (small : i.header.modulus < 2 ^ 32) (short : i.header.order < 2 ^ 32) where
  -- the sheet of Valid values of 32 bits loads
  pub sheet_loads : Loads (sheet_of i)
  sheet_loads =
      let back = instance_of_sheet_of i v small short in
      record {
        mark = sheet_mark_law i;
        version = sheet_version i;
        valid = subst Valid (sym back) (valid_same (same_instance_sym (read_same i)) v);
        exact = length_sheet_of i ∙ sym (ap sheet_length (sheet_header i v small short));
      }

-- what the second writer writes loads as what is read of the values that it was given, with 0 in the places beyond
pub encode_loads : (i : Instance) (buffer : List ℕ) → i.header.modulus < 2 ^ 32 → i.header.order < 2 ^ 32
    → (encode i buffer).answer.refusal ≡ 0
    → Puts (sheet_of i) buffer (encode i buffer) × (load_refusal (sheet_of i) ≡ 0) × (loaded (sheet_of i) ≡ read_instance i)
encode_loads i buffer small short e =
    let v = ((encode_runs i buffer).0 e).0 in
    let none = (loads (sheet_of i)).1 (sheet_loads i v small short) in
    (encode_puts i buffer e, none, loaded_given (sheet_of i) none ∙ instance_of_sheet_of i v small short)

-- ---- loaded and written

module _ (s : List ℕ) (b : AllBytes s) where
  -- what the loader gives of a sheet that loads, the second writer writes as the same bytes
  pub load_encodes : load_refusal s ≡ 0 → (buffer : List ℕ) → length s ≤ length buffer
      → Puts s buffer (encode (loaded s) buffer)
  unfolding instance_of
  load_encodes e buffer fits =
      let l = (loads s).0 e in
      let same = sheet_of_instance_of s l b in
      let runs = (encode_runs (instance_of s) buffer).1 (l.valid, omega (arith, l.exact)) in
      rw (loaded_given s e)
      (subst (λ (bytes : List ℕ). Puts bytes buffer (encode (instance_of s) buffer)) same (encode_puts (instance_of s) buffer runs))
