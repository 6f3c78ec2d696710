-- Committing and responding where tests have passed: what is left of the rules, and challenges below K.
-- Assumes nothing.
use Prim.Native.Nat.{ℕ, ◌<◌}
use mathlib.Core.Path.{◌≡◌, sym, ◌∙◌}
use mathlib.Core.Bool.{not, ◌||◌}
use mathlib.Core.List.{List, [], ◌∷◌}
use mathlib.Core.Logic.{◌≢◌}
use native.Mathlib.Omega.{arith}
use Rattle.types.specs.declared.ProverPhase.TheVariants.{Committed}
use Rattle.rules.specs.Call.{number_of}
use Rattle.rules.specs.Rule.{◌when◌, lowest}
use Rattle.rules.proofs.Lowest.{clear_lowest, lowest_earlier, lowest_later_zero, pass}
use Rattle.sigma.specs.Instance.{Instance}
use Rattle.sigma.proofs.Calculus.{both_fail}
use Rattle.sigma.proofs.Passed.{challenge_passes}
use Rattle.disjunctions.specs.declared.OrProver.{OrProver}
use Rattle.disjunctions.specs.Prover.{committing_or, or_prover_in, own, responding_or, unfit_or}
use Rattle.or_judge.specs.Values.{FitTogether}
use Rattle.or_session.specs.Sides.{witness_rules}
use Rattle.or_session.proofs.SideTests.{fit_below}

-- a simulated challenge that committing does not refuse is below the count of both sheets
pub commit_below : {i j : Instance} → FitTogether i j → (p : OrProver) (side : ℕ) (k : List ℕ) (d : ℕ) (r : List ℕ) {n : ℕ}
    → n ≡ number_of (committing_or i j p side k d r) → n ≡ 0 → (d < i.header.challenges) × (d < j.header.challenges)
unfolding committing_or number_of
commit_below {i} {j} fit p side k d r is_number none =
    let below = (challenge_passes i d).0 (clear_lowest (committing_or i j p side k d r).refusals tt (sym is_number ∙ none)).0 in
    (below, rw (sym fit.one_count) below)

module _ (i j : Instance) (p : OrProver) (c : ℕ) (x : List ℕ) (below : c < i.header.challenges) {n : ℕ}
    (is_number : n ≡ lowest (witness_rules (own p.side i j) x)) where
  -- a witness that the held side's sheet refuses
  pub witness_stops : n ≢ 0 → n ≡ number_of (responding_or i j p c x)
  unfolding responding_or number_of witness_rules
  witness_stops some =
      is_number
      ∙ sym (pass 15 _ ((challenge_passes i c).1 below)
      ∙ lowest_earlier (witness_rules (own p.side i j) x) _ (omega (arith, is_number, some)))

  -- behind one that it does not refuse, the session's rule is left
  pub session_left : n ≡ 0
      → number_of (responding_or i j p c x) ≡ lowest ((21 when (not (or_prover_in Committed p) || unfit_or i j p)) ∷ [])
  unfolding responding_or number_of witness_rules
  session_left none =
      pass 15 _ ((challenge_passes i c).1 below)
      ∙ lowest_later_zero (witness_rules (own p.side i j) x) _ tt (sym is_number ∙ none)

-- a held challenge that responding does not refuse is below K
pub respond_below : {i j : Instance} → FitTogether i j → (p : OrProver) (c : ℕ) (x : List ℕ) {n : ℕ}
    → n ≡ number_of (responding_or i j p c x) → n ≡ 0 → p.challenge < i.header.challenges
unfolding responding_or number_of
respond_below {i} {j} fit p c x is_number none =
    let held = (clear_lowest (responding_or i j p c x).refusals tt (sym is_number ∙ none)).1.1.1.0 in
    fit_below fit.first fit.second p ((both_fail (not (or_prover_in Committed p)) (unfit_or i j p)).0 held).1
