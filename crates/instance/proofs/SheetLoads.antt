-- A call on a sheet's bytes, by what `Sheet::load` gives: it is refused with the refusal's number, or is the call on the values.
-- Assumes nothing.
use Prim.Native.Nat.{ℕ, ◌<◌}
use mathlib.Core.Path.{◌≡◌, sym, ap, ◌∙◌}
use mathlib.Core.List.{List}
use native.Mathlib.Omega.{arith}
use Rattle.types.specs.declared.Header.{Header}
use Rattle.rules.specs.Call.{Call, answer}
use Rattle.rules.specs.Rule.{Rule, Clear, lowest}
use Rattle.sigma.specs.Instance.{Instance}
use Rattle.formats.specs.Load.{load_rules, load_refusal, on_sheet}
use Rattle.formats.specs.Sheet.{header_of, instance_of}
use Rattle.formats.proofs.Loads.{load_clear, loads}
use Rattle.formats.proofs.OnSheet.{on_sheet_loads, on_sheet_refused}
use Rattle.refusals.specs.declared.Refusal.{Refusal}
use Rattle.refusals.specs.Number.{number}
use Rattle.refusals.proofs.Positive.{number_positive}

module _ (s : List ℕ) where
  module _ (refusal : Refusal) (is_number : number refusal ≡ load_refusal s) where
    -- the number of a refused sheet is the one above 0 that the sheet's rules give
    pub refused_number : (number refusal ≡ lowest (load_rules s)) × (0 < lowest (load_rules s))
    unfolding load_refusal
    refused_number = (is_number, omega (arith, is_number, number_positive refusal))

    -- and a call on it is refused with that number
    pub on_refused : {A : Type 0} (call : Call A) → call.refused (number refusal) ≡ answer (on_sheet s call)
    on_refused call =
        ap call.refused is_number ∙ sym (on_sheet_refused s call (omega (arith, is_number, number_positive refusal)))

  module _ (is_number : 0 ≡ load_refusal s) where
    -- a call on a sheet that loads is the call on values that are the sheet's
    on_values : {A X : Type 0} (call : X → Call A) {x y : X} → x ≡ y → {result : A} → result ≡ answer (call x)
        → result ≡ answer (on_sheet s (call y))
    on_values call {y = y} is_sheet is_result =
        is_result ∙ ap (λ (z : _). answer (call z)) is_sheet ∙ sym (on_sheet_loads s (call y) (sym is_number))

    -- a call that the sheet's rules come before likewise
    called : {A X : Type 0} {call : List Rule → X → A} {on_values : X → A}
        → ((before : List Rule) (x : X) → Clear before → call before x ≡ on_values x)
        → {x y : X} → x ≡ y → {result : A} → result ≡ on_values x → result ≡ call (load_rules s) y
    called {on_values = on_values} is_clear {y = y} is_sheet is_result =
        let clear = (load_clear s).1 ((loads s).0 (sym is_number)) in
        is_result ∙ ap on_values is_sheet ∙ sym (is_clear (load_rules s) y clear)

    module _ {inst : Instance} (values : inst ≡ instance_of s) where
      -- the fixed fields of what loads are the sheet's
      pub loaded_header : inst.header ≡ header_of s
      unfolding instance_of
      loaded_header = ap (λ (i : Instance). i.header) values

      module _ {A : Type 0} where
        -- a call on the instance
        pub on_loaded : (call : Instance → Call A) {result : A} → result ≡ answer (call inst)
            → result ≡ answer (on_sheet s (call (instance_of s)))
        on_loaded call = on_values call values

        -- a call on the fixed fields
        pub on_fields : (call : Header → Call A) {result : A} → result ≡ answer (call inst.header)
            → result ≡ answer (on_sheet s (call (header_of s)))
        on_fields call = on_values call loaded_header

        -- a call on the instance that is given as rules and values
        pub loaded_call : {call : List Rule → Instance → A} {on_values : Instance → A}
            → ((before : List Rule) (inst : Instance) → Clear before → call before inst ≡ on_values inst)
            → {result : A} → result ≡ on_values inst → result ≡ call (load_rules s) (instance_of s)
        loaded_call is_clear = called is_clear values
