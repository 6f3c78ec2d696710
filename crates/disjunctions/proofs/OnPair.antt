-- A call on two sheets: it is the call itself if both load with one K, else it is refused with the number of both. If its answer has
-- the number 0, none of its own refusals applies, and it answers its value.
-- Assumes nothing.
use Prim.Native.Nat.{ℕ, ◌<◌}
use mathlib.Core.Path.{◌≡◌, refl, sym, ap, ◌∙◌}
use mathlib.Core.Bool.{not}
use mathlib.Core.List.{List, [], ◌∷◌}
use lib.Dec.{T, eqb}
use borrow.Author.Tests.{eq-eqb}
use Rattle.rules.specs.Call.{Call, answer, number_of}
use Rattle.rules.specs.Either.{either_rules}
use Rattle.rules.specs.Rule.{Clear, ◌when◌, all_positive, lowest}
use Rattle.rules.proofs.Call.{after_clear, after_refused, answer_number, answer_value}
use Rattle.rules.proofs.Either.{SameNumbers, clear_either}
use Rattle.rules.proofs.Lowest.{clear_append, lowest_append_zero, lowest_clear}
use Rattle.formats.specs.Load.{load_refusal, load_rules, shape_rules}
use Rattle.formats.specs.Sheet.{instance_of}
use Rattle.runs.proofs.Loaded.{sheet_clear}
use Rattle.sigma.specs.Admission.{element_rules, header_rules}
use Rattle.disjunctions.specs.Judge.{on_pair, pair_rules}
use Rattle.disjunctions.specs.Ours.{Pair}
use Rattle.disjunctions.proofs.Pairs.{first_loads, second_loads}

module _ (s s' : List ℕ) where
  -- the rules of two sheets have the same numbers
  pub load_numbers : SameNumbers (load_rules s) (load_rules s')
  unfolding load_rules shape_rules header_rules element_rules
  load_numbers = (refl, (refl, (refl, (refl, (refl, (refl, (refl, (refl, (refl, (refl, tt))))))))))

  -- and none the number 0
  pub pair_positive : T (all_positive (pair_rules s s'))
  unfolding pair_rules either_rules load_rules shape_rules header_rules element_rules
  pair_positive = tt

  -- if none of them applies, both load
  pub pair_loads : Clear (pair_rules s s') → (load_refusal s ≡ 0) × (load_refusal s' ≡ 0)
  unfolding pair_rules load_refusal
  pair_loads none =
      let sheets = ((clear_append (either_rules (load_rules s) (load_rules s')) _).0 none).0 in
      let both = (clear_either (load_rules s) (load_rules s') load_numbers).0 sheets in
      (lowest_clear (load_rules s) both.0, lowest_clear (load_rules s') both.1)

  -- none applies to two sheets that load with one K
  pub pair_clear : Pair s s' → Clear (pair_rules s s')
  unfolding pair_rules
  pair_clear pair =
      let K = (instance_of s).header.challenges in
      let K' = (instance_of s').header.challenges in
      (clear_append (either_rules (load_rules s) (load_rules s')) ((26 when not (eqb K K')) ∷ [])).1 (
        (clear_either (load_rules s) (load_rules s') load_numbers).1
            (sheet_clear s (first_loads pair), sheet_clear s' (second_loads pair)),
        (ap not (eq-eqb K K' pair.one_count), tt),
      )

  module _ {A : Type 0} (call : Call A) where
    -- a call on two sheets that load with one K
    pub on_pair_loads : Pair s s' → answer (on_pair s s' call) ≡ answer call
    on_pair_loads pair = after_clear call (pair_rules s s') (pair_clear pair)

    -- on two that are refused
    pub on_pair_refused : 0 < lowest (pair_rules s s') → answer (on_pair s s' call) ≡ call.refused (lowest (pair_rules s s'))
    on_pair_refused some = after_refused call (pair_rules s s') some

    module _ (number : A → ℕ) (none : number call.value ≡ 0) (some : (n : ℕ) → number (call.refused n) ≡ n)
        (runs : number (answer (on_pair s s' call)) ≡ 0) where
      -- of one that is not refused no own refusal applies
      pub on_pair_clear : T (all_positive call.refusals) → Clear call.refusals
      unfolding number_of
      on_pair_clear positive =
          ((lowest_append_zero (pair_rules s s') call.refusals pair_positive positive).0
          (sym (answer_number (on_pair s s' call) number none some) ∙ runs)).1

      -- and it answers its value
      pub on_pair_value : answer (on_pair s s' call) ≡ call.value
      on_pair_value = answer_value (on_pair s s' call) (sym (answer_number (on_pair s s' call) number none some) ∙ runs)
