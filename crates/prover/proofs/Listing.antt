-- The number by the list of answered commitments: 32, 33 or 0. Of the memory a response reads nothing else.
-- Assumes nothing.
use Prim.Native.Nat.{ℕ, zero, suc, ◌<◌, ◌≤◌, min}
use mathlib.Core.Path.{◌≡◌, refl, sym, ap, ◌∙◌}
use mathlib.Core.Bool.{Bool, true, false, not, ◌||◌}
use mathlib.Core.List.{List, []}
use lib.ListN.{length, take, get_or}
use Rattle.std.proofs.Common.{add-one}
use Rattle.std.specs.List.{list_any}
use Rattle.std.proofs.lemmas.List.Folds.{list_any_more}
use Rattle.types.specs.declared.Listed.{Listed}
use Rattle.sigma.specs.Comparison.{differ}
use native.Mathlib.Omega.{arith}
use borrow.Author.Tests.{le-leb, lt-leb}
use Rattle.types.specs.declared.Memory.{Memory}
use Rattle.numbers.specs.Search.{any}
use Rattle.numbers.proofs.Search.{any_start, any_suc}
use Rattle.rules.specs.Call.{number_of}
use Rattle.rules.specs.Rule.{lowest}
use Rattle.rules.proofs.Lowest.{pass, stop, lowest_behind, lowest_clear}
use Rattle.sigma.specs.Instance.{Instance}
use Rattle.runs.specs.Memory.{is_full, is_listed, listed_at}
use Rattle.runs.specs.Prover.{prover_in, responding, unfit_prover}
use Rattle.prover.specs.declared.Held.{Held}
use Rattle.prover.specs.Parts.{list_rules, prover_with}
use Rattle.prover.specs.Entries.{is_entry}

-- a search of the first entries is a search of their places
pub listed_among : (xs : List Listed) (t : List ℕ) (n : ℕ) → n ≤ length xs
    → list_any (λ (e : Listed). not (differ 8 e.commitment t)) (take n xs) ≡ any n (is_entry xs t)
unfolding is_entry
listed_among xs t zero few = sym (any_start (is_entry xs t))
listed_among xs t (suc n) few =
    let test : Listed → Bool = λ (e : Listed). not (differ 8 e.commitment t) in
    rw (sym (add-one n)) (list_any_more test xs n (record { commitment = [] }) (omega (arith, few)))
    ∙ ap (λ (found : Bool). found || test (get_or xs n (record { commitment = [] }))) (listed_among xs t n (omega arith))
    ∙ sym (any_suc n (is_entry xs t))

module _ (m : Memory) (t : List ℕ) where
  -- a search of the entries that are looked at
  pub listed_test : {found : Bool} → found ≡ any (min 64 m.count) (is_entry m.answered t) → found ≡ is_listed m t
  unfolding is_listed listed_at is_entry
  listed_test same = same

  module _ {found : Bool} (same : found ≡ is_listed m t) where
    -- a commitment that is listed
    pub barred_listed : found ≡ true → 32 ≡ lowest (list_rules m t)
    unfolding list_rules
    barred_listed is_listed = sym (stop 32 _ (sym same ∙ is_listed))

    -- a list that is full
    pub barred_full : found ≡ false → 64 ≤ m.count → 33 ≡ lowest (list_rules m t)
    unfolding list_rules is_full
    barred_full other full = sym (pass 32 _ (sym same ∙ other) ∙ stop 33 _ (le-leb 64 m.count full))

    -- neither
    pub barred_none : found ≡ false → m.count < 64 → 0 ≡ lowest (list_rules m t)
    unfolding list_rules is_full
    barred_none other room = sym (lowest_clear _ (sym same ∙ other, (lt-leb 64 m.count room, tt)))

  -- an empty list bars nothing
  pub barred_empty : m.count ≡ 0 → 0 ≡ lowest (list_rules m t)
  barred_empty none =
      let before = sym (any_start (is_entry m.answered t)) ∙ ap (λ (k : ℕ). any (min 64 k) (is_entry m.answered t)) (sym none) in
      barred_none (listed_test before) refl (omega (arith, none))

-- memories whose lists give one number refuse a response with one number
pub responding_alike : (inst : Instance) (held : Held) (c : ℕ) (witness : List ℕ) (m other : Memory)
    → lowest (list_rules m held.commitment) ≡ lowest (list_rules other held.commitment)
    → number_of (responding inst (prover_with held m) c witness) ≡ number_of (responding inst (prover_with held other) c witness)
unfolding number_of responding prover_in unfit_prover list_rules
responding_alike inst held c witness m other same =
    lowest_behind (take 4 (responding inst (prover_with held m) c witness).refusals) (list_rules m held.commitment) (list_rules other held.commitment) same
