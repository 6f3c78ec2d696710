-- The calls of two OR proofs answer the same to every input, refused calls too.
-- Assumes nothing.
use Rattle.std.specs.Prelude.{ℕ, ◌≡◌, List}
use Rattle.disjunctions.specs.declared.OrProver.{OrProver}
use Rattle.disjunctions.specs.declared.OrRound.{OrRound}
use Rattle.disjunctions.specs.OrCalls.{OrCalls}

pub record SameEither (either either' : OrCalls) : Type 0 where
  pub judge_or : (s s' : List ℕ) (round : OrRound) → either.judge_or s s' round ≡ either'.judge_or s s' round
  pub extract_or : (s s' : List ℕ) (a b : OrRound) → either.extract_or s s' a b ≡ either'.extract_or s s' a b
  pub new_or_prover : either.new_or_prover ≡ either'.new_or_prover
  pub commit_or : (s s' : List ℕ) (p : OrProver) (side : ℕ) (k : List ℕ) (d : ℕ) (r : List ℕ)
      → either.commit_or s s' p side k d r ≡ either'.commit_or s s' p side k d r
  pub respond_or : (s s' : List ℕ) (p : OrProver) (c : ℕ) (x : List ℕ) → either.respond_or s s' p c x ≡ either'.respond_or s s' p c x
  pub drop_or : (p : OrProver) → either.drop_or p ≡ either'.drop_or p
