-- A call on a sheet: it is the call itself if the sheet loads, else it is refused with the sheet's number. So it runs exactly if the
-- sheet loads and none of the call's own refusals applies.
-- Assumes nothing.
use Prim.Native.Nat.{ℕ, ◌<◌}
use mathlib.Core.Path.{◌≡◌}
use mathlib.Core.Logic.{◌↔◌}
use mathlib.Core.List.{List}
use lib.Dec.{T}
use Rattle.rules.specs.Call.{Call, answer, number_of}
use Rattle.rules.specs.Rule.{Clear, all_positive}
use Rattle.rules.proofs.Call.{after_clear, after_refused}
use Rattle.rules.proofs.Lowest.{lowest_append_zero}
use Rattle.formats.specs.Load.{load_refusal, load_rules, on_sheet}
use Rattle.formats.specs.Meaning.{Loads}
use Rattle.formats.proofs.Loads.{load_clear, loads}
use Rattle.formats.proofs.Positive.{load_positive}

module _ (s : List ℕ) {A : Type 0} (call : Call A) where
  -- on a sheet that loads
  pub on_sheet_loads : load_refusal s ≡ 0 → answer (on_sheet s call) ≡ answer call
  on_sheet_loads none = after_clear call (load_rules s) ((load_clear s).1 ((loads s).0 none))

  -- on a sheet that is refused
  pub on_sheet_refused : 0 < load_refusal s → answer (on_sheet s call) ≡ call.refused (load_refusal s)
  unfolding load_refusal
  on_sheet_refused some = after_refused call (load_rules s) some

  -- it is not refused exactly if the sheet loads and no refusal of its own applies
  pub on_sheet_runs : T (all_positive call.refusals) → (number_of (on_sheet s call) ≡ 0) ↔ (Loads s × Clear call.refusals)
  unfolding number_of load_refusal
  on_sheet_runs positive =
      let parts = lowest_append_zero (load_rules s) call.refusals (load_positive s) positive in (
        λ e. ((loads s).0 (parts.0 e).0, (parts.0 e).1),
        λ (l, own). parts.1 ((loads s).1 l, own),
      )
