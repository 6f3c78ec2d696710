-- Judging and extracting are determined: by their refusals, by 01's calls on the sides, and by what the proof says of both.
-- Assumes nothing.
use Prim.Native.Nat.{ℕ, ◌<◌}
use mathlib.Core.Path.{◌≡◌, sym, ap, subst, ◌∙◌}
use mathlib.Core.List.{List, [], ◌∷◌}
use mathlib.Core.Logic.{◌⊎◌, ◌≢◌, inl, inr, ⊎_elim}
use native.Mathlib.Omega.{arith}
use Rattle.types.specs.declared.Computed.{Computed}
use Rattle.types.specs.declared.Round.{Round}
use Rattle.disjunctions.specs.declared.OrRound.{OrRound}
use Rattle.disjunctions.specs.declared.OrVerdict.TheVariants.{OrRefused}
use Rattle.rules.specs.Condition.{◌if◌}
use Rattle.rules.specs.Either.{either_conditions}
use Rattle.rules.proofs.Determined.{NoneHold, none_append, none_either, refused_or_not}
use Rattle.rules.proofs.Says.{says_decides, says_equal}
use Rattle.formats.specs.FileCalls.{FileCalls}
use Rattle.formats.specs.Refusals.{load_conditions}
use Rattle.formats.specs.Sheet.{instance_of}
use Rattle.formats.proofs.FileRefusals.{none_loads}
use Rattle.runs.proofs.OnlyRounds.{accepts, agree_from, all_hold, is_below}
use Rattle.runs.proofs.RunDemands.{RunDemands}
use Rattle.runs.specs.OnSheet.{Below}
use Rattle.runs.specs.RunCalls.{RunCalls}
use Rattle.runs.specs.Same.{SameRuns}
use Rattle.sigma.proofs.Calculus.{says_stable}
use Rattle.disjunctions.specs.Knowledge.{AcceptedOrPair, AcceptsOr, ExtractsSide}
use Rattle.disjunctions.specs.OneOfTwo.{OneOfTwo, OrProof, OrRefusals, SideMask}
use Rattle.disjunctions.specs.OrCalls.{OrCalls}
use Rattle.disjunctions.specs.Refusals.{
  Or14,
  Or15,
  Or16,
  OrHolds,
  extract_or_conditions,
  judge_or_conditions,
  pair_conditions,
}
use Rattle.disjunctions.specs.Round.{first_round, other_challenge, second_round}

-- ---- what is left where no condition holds

-- of two sheets
pub record NonePair (s s' : List ℕ) : Type 0 where
  pub first : NoneHold (load_conditions s)
  pub second : NoneHold (load_conditions s')
  pub count : (instance_of s).header.challenges ≡ (instance_of s').header.challenges

pub none_pair : (s s' : List ℕ) → NoneHold (pair_conditions s s') → NonePair s s'
none_pair s s' none =
    let parts = none_append (either_conditions (load_conditions s) (load_conditions s'))
    ((26 if ((instance_of s).header.challenges ≢ (instance_of s').header.challenges)) ∷ []) none in
    let sheets = none_either (load_conditions s) (load_conditions s') parts.0 in
    record { first = sheets.0; second = sheets.1; count = says_stable (says_equal _ _) parts.1.0 }

-- ---- one code

-- what the demands ask of the OR proof's calls, and of the calls that it rests on
pub record EitherDemands (files : FileCalls) (code : RunCalls) (either : OrCalls) : Type 0 where
  pub runs : RunDemands files code
  pub refusals : OrRefusals either
  pub proof : OrProof files code either

module _ {files : FileCalls} {code : RunCalls} {either : OrCalls} (d : EitherDemands files code either) (s s' : List ℕ)
    (none : NonePair s s') where
  -- the proof, of two sheets of whose conditions none holds
  pub proof_of : OneOfTwo code either s s'
  proof_of =
      let loads = none_loads d.runs.loading in
      d.proof.proof s s'
      (record { first_loads = loads s none.first; second_loads = loads s' none.second; one_count = none.count })

  -- a round of whose conditions none holds and whose sides hold is accepted
  or_accepts : (a : OrRound) → ¬ Or14 (instance_of s) (instance_of s') a → ¬ Or15 (instance_of s) a
      → ¬ Or16 (instance_of s) (instance_of s') a → ¬ (¬ OrHolds (instance_of s) (instance_of s') a) → AcceptsOr either s s' a
  unfolding first_round second_round
  or_accepts a none14 none15 none16 holds =
      let K = (instance_of s).header.challenges in
      let c : Below s a.challenge = is_below s a.challenge (λ x. none15 (inl x)) in
      let c0 : Below s a.challenge0 = is_below s a.challenge0 (λ x. none15 (inr x)) in
      let c1 : Below s' (other_challenge K a.challenge a.challenge0) =
      subst (λ (L : ℕ). other_challenge K a.challenge a.challenge0 < L) none.count (proof_of.challenges _ _ c c0).0 in
      (proof_of.accepted a).1 (
        c,
        accepts d.runs s none.first (first_round a)
            ((λ x. none14 (inl x)), ((λ x. none15 (inr x)), ((λ x. none16 (inl x)), tt)))
            (all_hold (instance_of s) (first_round a) (λ h. holds (λ both. h both.0))),
        accepts d.runs s' none.second (second_round K a)
            ((λ x. none14 (inr x)), ((λ x. omega (arith, c1, x)), ((λ x. none16 (inr x)), tt)))
            (all_hold (instance_of s') (second_round K a) (λ h. holds (λ both. h both.1))),
      )

  -- two rounds of which no condition of the extractor holds are two that it takes
  pub accepted_pair : (a b : OrRound) → NoneHold (extract_or_conditions (instance_of s) (instance_of s') a b)
      → AcceptedOrPair either s s' a b
  accepted_pair a b own = record {
    first_accepted =
        or_accepts a (λ x. own.0 (inl x)) (λ x. own.1.0 (inl x)) (λ x. own.1.1.0 (inl x)) (λ h. own.1.1.1.1.1.0 (inl h));
    second_accepted =
        or_accepts b (λ x. own.0 (inr x)) (λ x. own.1.0 (inr x)) (λ x. own.1.1.0 (inr x)) (λ h. own.1.1.1.1.1.0 (inr h));
    first_commitments = agree_from (instance_of s).header.rows a.commitment0 b.commitment0 (λ x. own.1.1.1.0 (inl x));
    second_commitments = agree_from (instance_of s').header.rows a.commitment1 b.commitment1 (λ x. own.1.1.1.0 (inr x));
    challenges = own.1.1.1.1.0;
  }

-- ---- two codes that judge rounds alike

module _ {files files' : FileCalls} {code code' : RunCalls} {either either' : OrCalls} (d : EitherDemands files code either)
    (d' : EitherDemands files' code' either')
    (alike : (sheet : List ℕ) (round : Round) → code.judge_round sheet round ≡ code'.judge_round sheet round) where
  -- a side's mask by one is its mask by the other
  mask_over : (s : List ℕ) (round : Round) (mask : ℕ) → SideMask code s round mask → SideMask code' s round mask
  mask_over s round mask (inl (accepted, none)) = inl (sym (alike s round) ∙ accepted, none)
  mask_over s round mask (inr rejected) = inr (sym (alike s round) ∙ rejected)

  -- a round that one accepts is accepted by the other
  or_over : (s s' : List ℕ) → NonePair s s' → (round : OrRound) → AcceptsOr either s s' round → AcceptsOr either' s s' round
  or_over s s' none round accepted =
      let (below, first, second) = ((proof_of d s s' none).accepted round).0 accepted in
      ((proof_of d' s s' none).accepted round).1 (below, sym (alike s _) ∙ first, sym (alike s' _) ∙ second)

-- ---- two codes whose calls on rounds are the same

module _ {files files' : FileCalls} {code code' : RunCalls} {either either' : OrCalls} (d : EitherDemands files code either)
    (d' : EitherDemands files' code' either') (runs : SameRuns code code') where
  -- judging
  pub judge_same : (s s' : List ℕ) (round : OrRound) → either.judge_or s s' round ≡ either'.judge_or s s' round
  judge_same s s' round =
      refused_or_not (d.refusals.judging s s' round) (d'.refusals.judging s s' round) (λ n l l'. l ∙ ap OrRefused n ∙ sym l')
      (λ e e' none.
      let own = judge_or_conditions (instance_of s) (instance_of s') round in
      let both = none_pair s s' (none_append (pair_conditions s s') own none).0 in
      let proof = proof_of d s s' both in
      let proof' = proof_of d' s s' both in
      ⊎_elim (λ accepted. accepted ∙ sym (or_over d d' runs.judge_round s s' both round accepted))
      (λ (mask0, mask1, rejected).
      let (first, second, not) = (proof.rejected round mask0 mask1 e).0 rejected in
      rejected ∙ sym ((proof'.rejected round mask0 mask1 e').1 (
        mask_over d d' runs.judge_round s (first_round round) mask0 first,
        mask_over d d' runs.judge_round s' (second_round (instance_of s).header.challenges round) mask1 second,
        λ accepted. not (or_over d' d (λ sheet a. sym (runs.judge_round sheet a)) s s' both round accepted),
      )))
      (proof.decided round e))

  -- two extractors that answer for one side as 01's does answer the same
  side_same : (s s' sheet : List ℕ) (side : ℕ) (part : OrRound → Round) (a b : OrRound)
      → ExtractsSide code either s s' sheet side part a b → ExtractsSide code' either' s s' sheet side part a b
      → either.extract_or s s' a b ≡ either'.extract_or s s' a b
  side_same s s' sheet side part a b x x' =
      x.answer
      ∙ ap (λ (y : Computed). record { values = y.values; side = side; refusal = 0 }) (runs.extract_witness sheet (part a) (part b))
      ∙ sym x'.answer

  -- extracting
  pub extract_same : (s s' : List ℕ) (a b : OrRound) → either.extract_or s s' a b ≡ either'.extract_or s s' a b
  extract_same s s' a b =
      refused_or_not (d.refusals.extracting s s' a b) (d'.refusals.extracting s s' a b)
      (λ n l l' i. record { values = (l.0 ∙ sym l'.0) i; side = (l.1 ∙ sym l'.1) i; refusal = n i })
      (λ e e' none.
      let (sheets, own) = none_append (pair_conditions s s') (extract_or_conditions (instance_of s) (instance_of s') a b) none in
      let both = none_pair s s' sheets in
      let proof = proof_of d s s' both in
      let proof' = proof_of d' s s' both in
      let taken = accepted_pair d s s' both a b own in
      let taken' = accepted_pair d' s s' both a b own in
      ⊎_elim
      (λ same. side_same s s' s' 1 _ a b (proof.extracts_second a b taken same) (proof'.extracts_second a b taken' same))
      (λ apart. side_same s s' s 0 first_round a b (proof.extracts_first a b taken apart) (proof'.extracts_first a b taken' apart))
      (says_decides (says_equal a.challenge0 b.challenge0)))
