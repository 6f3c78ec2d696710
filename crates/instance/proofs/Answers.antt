-- What callers know of a sheet by the answer to `load`: its number, and where that is 0 its values. A call on the sheet's bytes
-- is refused with that number, or is the call on those values.
-- Assumes nothing.
use Prim.Native.Nat.{ℕ, ◌≤◌, ◌<◌}
use mathlib.Core.Path.{◌≡◌, sym, ap, ◌∙◌}
use mathlib.Core.Logic.{◌≢◌}
use mathlib.Core.List.{List}
use native.Mathlib.Omega.{arith}
use Rattle.types.specs.declared.Loaded.{Loaded}
use Rattle.rules.specs.Rule.{Rule, Clear, lowest}
use Rattle.sigma.specs.Instance.{Instance, instance_with}
use Rattle.sigma.specs.Valid.{Valid}
use Rattle.formats.specs.Sheet.{header_of, entries_of, instance_of}
use Rattle.formats.specs.Load.{load_rules, load_refusal, load}
use Rattle.formats.proofs.Loads.{load_clear, load_given, loads, loads_few, loads_valid}

module _ (s : List ℕ) (answer : Loaded) (same : answer ≡ load s) where
  -- the answer has the sheet's number
  pub answer_number : answer.refusal ≡ load_refusal s
  unfolding load
  answer_number = ap (λ (a : Loaded). a.refusal) same

  -- where that is not 0, it is the number above 0 that the sheet's rules give
  pub answer_refused : answer.refusal ≢ 0 → (answer.refusal ≡ lowest (load_rules s)) × (0 < lowest (load_rules s))
  unfolding load_refusal
  answer_refused other = (answer_number, omega (arith, answer_number))

  module _ (passed : answer.refusal ≡ 0) where
    -- where that is 0 the sheet loads, and the answer has its fixed fields
    pub answer_header : (load_refusal s ≡ 0) × (answer.header ≡ header_of s)
    unfolding instance_of
    answer_header =
        let loads = sym answer_number ∙ passed in
        (loads, ap (λ (a : Loaded). a.header) (same ∙ load_given s loads))

    -- which have at most eight rows and columns
    pub answer_few : (answer.header.rows ≤ 8) × (answer.header.columns ≤ 8)
    answer_few = rw answer_header.1 (loads_few s ((loads s).0 answer_header.0))

    -- and with the entries of such a sheet it makes up the sheet's instance
    pub answer_instance : {entries : List (List ℕ)} → entries ≡ entries_of s answer.header
        → instance_with answer.header entries answer.statement ≡ instance_of s
    unfolding instance_of
    answer_instance read =
        let (loads, header) = answer_header in
        let whole = same ∙ load_given s loads in
        let entered = read ∙ ap (entries_of s) header in
        λ j. record { header = (whole j).header; entries = entered j; statement = (whole j).statement }

    -- which is Valid
    pub answer_valid : {entries : List (List ℕ)} → entries ≡ entries_of s answer.header
        → Valid (instance_with answer.header entries answer.statement)
    answer_valid read = rw (answer_instance read) (loads_valid s answer_header.0)

    -- a call that the sheet's rules come before is the call on values that are the sheet's
    called : {A X : Type 0} {call : List Rule → X → A} {on_values : X → A}
        → ((before : List Rule) (x : X) → Clear before → call before x ≡ on_values x)
        → {x y : X} → x ≡ y → {result : A} → result ≡ on_values x → result ≡ call (load_rules s) y
    called {on_values = on_values} is_clear {y = y} is_sheet is_result =
        let clear = (load_clear s).1 ((loads s).0 answer_header.0) in
        is_result ∙ ap on_values is_sheet ∙ sym (is_clear (load_rules s) y clear)

    -- so a call on the instance is the call on what the answer and the entries make up
    pub answer_call : {A : Type 0} {call : List Rule → Instance → A} {on_values : Instance → A}
        → ((before : List Rule) (inst : Instance) → Clear before → call before inst ≡ on_values inst)
        → {entries : List (List ℕ)} → entries ≡ entries_of s answer.header → {result : A}
        → result ≡ on_values (instance_with answer.header entries answer.statement)
        → result ≡ call (load_rules s) (instance_of s)
    answer_call is_clear read = called is_clear (answer_instance read)
