-- A call on a sheet's bytes, by the answer to `load`: it is refused with the answer's number, or is the call on the answer's values.
-- Assumes nothing.
use Prim.Native.Nat.{ℕ}
use mathlib.Core.Path.{◌≡◌, sym, ap, ◌∙◌}
use mathlib.Core.Logic.{◌≢◌}
use mathlib.Core.List.{List}
use native.Mathlib.Omega.{arith}
use Rattle.types.specs.declared.Header.{Header}
use Rattle.types.specs.declared.Loaded.{Loaded}
use Rattle.rules.specs.Call.{Call, answer}
use Rattle.sigma.specs.Instance.{Instance, instance_with}
use Rattle.formats.specs.Load.{load, on_sheet}
use Rattle.formats.specs.Sheet.{entries_of, header_of, instance_of}
use Rattle.formats.proofs.OnSheet.{on_sheet_loads, on_sheet_refused}
use Rattle.instance.proofs.Answers.{answer_header, answer_instance, answer_number}

module _ (s : List ℕ) (loaded : Loaded) (same : loaded ≡ load s) where
  -- on a sheet that is refused
  pub loaded_refused : loaded.refusal ≢ 0 → {A : Type 0} (call : Call A) → call.refused loaded.refusal ≡ answer (on_sheet s call)
  loaded_refused other call =
      let number = answer_number s loaded same in
      ap call.refused number ∙ sym (on_sheet_refused s call (omega (arith, number)))

  module _ (passed : loaded.refusal ≡ 0) {A : Type 0} where
    -- on a sheet that loads, of values that are the sheet's
    on_values : {X : Type 0} (call : X → Call A) {x y : X} → x ≡ y → {result : A} → result ≡ answer (call x)
        → result ≡ answer (on_sheet s (call y))
    on_values call {y = y} is_sheet is_result =
        is_result ∙ ap (λ (z : _). answer (call z)) is_sheet ∙ sym (on_sheet_loads s (call y) (answer_header s loaded same passed).0)

    -- of the fixed fields that the answer has
    pub on_header : (call : Header → Call A) {result : A} → result ≡ answer (call loaded.header)
        → result ≡ answer (on_sheet s (call (header_of s)))
    on_header call = on_values call (answer_header s loaded same passed).1

    -- of the instance that the answer and the entries make up
    pub on_instance : (call : Instance → Call A) {entries : List (List ℕ)} → entries ≡ entries_of s loaded.header
        → {result : A} → result ≡ answer (call (instance_with loaded.header entries loaded.statement))
        → result ≡ answer (on_sheet s (call (instance_of s)))
    on_instance call read = on_values call (answer_instance s loaded same passed read)
