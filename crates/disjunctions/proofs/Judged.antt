-- Judging a round of two sheets that load with one K is judging both of its sides.
-- Assumes nothing.
use Prim.Native.Nat.{ℕ, ◌<◌}
use mathlib.Core.Path.{◌≡◌, refl, sym, ap, ap₂, ◌∙◌}
use mathlib.Core.Logic.{◌↔◌, ◌≢◌, ◌⊎◌, inl, inr}
use mathlib.Core.Bool.{not}
use mathlib.Core.List.{List, []}
use native.Mathlib.Omega.{arith}
use Rattle.types.specs.declared.Verdict.{Verdict}
use Rattle.types.specs.declared.Verdict.TheVariants.{Accepted, Rejected, Refused}
use Rattle.disjunctions.specs.declared.OrRound.{OrRound}
use Rattle.disjunctions.specs.declared.OrVerdict.{OrVerdict}
use Rattle.disjunctions.specs.declared.OrVerdict.TheVariants.{OrAccepted, OrRejected, OrRefused}
use Rattle.lists.specs.Places.{places}
use Rattle.rules.specs.Rule.{Clear}
use Rattle.rules.proofs.Call.{answer_clear}
use Rattle.formats.specs.Sheet.{instance_of}
use Rattle.formats.proofs.Loads.{loads_valid}
use Rattle.runs.specs.Calls.{judge_round}
use Rattle.runs.specs.OnSheet.{Below}
use Rattle.runs.specs.Ours.{Accepts}
use Rattle.runs.proofs.Loaded.{judge_loaded_law}
use Rattle.runs.proofs.Protocol.{sheet_accepted}
use Rattle.sigma.specs.Instance.{Instance}
use Rattle.sigma.specs.Judge.{judging}
use Rattle.sigma.specs.Meaning.{Fits}
use Rattle.sigma.specs.Round.{verdict}
use Rattle.sigma.specs.Valid.{Valid}
use Rattle.sigma.proofs.Calculus.{both_fail}
use Rattle.sigma.proofs.Calls.{judge_clear, judge_given}
use Rattle.sigma.proofs.Passed.{challenge_passes}
use Rattle.sigma.proofs.Verdict.{verdict_not_refused}
use Rattle.disjunctions.specs.Judge.{
  bad_challenges,
  bad_commitments,
  bad_responses,
  combined,
  judge_or,
  judging_or,
  verdict_or,
}
use Rattle.disjunctions.specs.OneOfTwo.{or_number, or_outcome}
use Rattle.disjunctions.specs.Ours.{AcceptsOr, Pair, SideMask}
use Rattle.disjunctions.specs.Round.{first_round, other_challenge, read_or, second_round}
use Rattle.disjunctions.proofs.Challenges.{other_less}
use Rattle.disjunctions.proofs.OnPair.{on_pair_clear, on_pair_loads}
use Rattle.disjunctions.proofs.OrRefusals.{verdict_or_number}
use Rattle.disjunctions.proofs.Pairs.{first_loads, second_loads}

-- ---- verdicts combined

-- which of the three a verdict is, and its masks, 0 where there are none
tag : OrVerdict → ℕ
tag OrAccepted = 0
tag (OrRejected mask0 mask1) = 1
tag (OrRefused number) = 2

mask_first : OrVerdict → ℕ
mask_first OrAccepted = 0
mask_first (OrRejected mask0 mask1) = mask0
mask_first (OrRefused number) = 0

mask_second : OrVerdict → ℕ
mask_second OrAccepted = 0
mask_second (OrRejected mask0 mask1) = mask1
mask_second (OrRefused number) = 0

-- two of the three are never equal
apart : (v w : OrVerdict) → tag v ≢ tag w → v ≢ w
apart v w different same = different (ap tag same)

-- both are accepted exactly where each is
combined_both : (v w : Verdict) → (combined v w ≡ OrAccepted) ↔ ((v ≡ Accepted) × (w ≡ Accepted))
unfolding combined tag
combined_both v w = (from v w, λ (a, b). rw (a, b))
  where
    from : (v w : Verdict) → combined v w ≡ OrAccepted → (v ≡ Accepted) × (w ≡ Accepted)
    from Accepted Accepted e = (refl, refl)
    from Accepted (Rejected mask) e = absurd (apart _ _ (λ z. omega arith) e)
    from Accepted (Refused number) e = absurd (apart _ _ (λ z. omega arith) e)
    from (Rejected mask) Accepted e = absurd (apart _ _ (λ z. omega arith) e)
    from (Rejected mask) (Rejected mask') e = absurd (apart _ _ (λ z. omega arith) e)
    from (Rejected mask) (Refused number) e = absurd (apart _ _ (λ z. omega arith) e)
    from (Refused number) w e = absurd (apart _ _ (λ z. omega arith) e)

-- the mask of a verdict on one side
abbrev MaskOf : Verdict → ℕ → Type 0
MaskOf v mask = ((v ≡ Accepted) × (mask ≡ 0)) ⊎ (v ≡ Rejected mask)

-- both are rejected with the masks of both exactly where not both are accepted
combined_rejected : (v w : Verdict) (mask0 mask1 : ℕ)
    → (combined v w ≡ OrRejected mask0 mask1) ↔ (MaskOf v mask0 × MaskOf w mask1 × (combined v w ≢ OrAccepted))
unfolding combined tag mask_first mask_second
combined_rejected v w mask0 mask1 = (from v w, to)
  where
    from : (v w : Verdict) → combined v w ≡ OrRejected mask0 mask1 → MaskOf v mask0 × MaskOf w mask1 × (combined v w ≢ OrAccepted)
    from Accepted Accepted e = absurd (apart _ _ (λ z. omega arith) e)
    from Accepted (Rejected mask) e =
        (inl (refl, sym (ap mask_first e)), inr (ap Rejected (ap mask_second e)), apart _ _ (λ z. omega arith))
    from Accepted (Refused number) e = absurd (apart _ _ (λ z. omega arith) e)
    from (Rejected mask) Accepted e =
        (inr (ap Rejected (ap mask_first e)), inl (refl, sym (ap mask_second e)), apart _ _ (λ z. omega arith))
    from (Rejected mask) (Rejected mask') e =
        (inr (ap Rejected (ap mask_first e)), inr (ap Rejected (ap mask_second e)), apart _ _ (λ z. omega arith))
    from (Rejected mask) (Refused number) e = absurd (apart _ _ (λ z. omega arith) e)
    from (Refused number) w e = absurd (apart _ _ (λ z. omega arith) e)

    to : MaskOf v mask0 × MaskOf w mask1 × (combined v w ≢ OrAccepted) → combined v w ≡ OrRejected mask0 mask1
    to (inl (a, none), inl (b, none'), other) = absurd (other (ap₂ combined a b))
    to (inl (a, none), inr b, other) = ap₂ combined a b ∙ ap (λ (x : ℕ). OrRejected x mask1) (sym none)
    to (inr a, inl (b, none), other) = ap₂ combined a b ∙ ap (OrRejected mask0) (sym none)
    to (inr a, inr b, other) = ap₂ combined a b

-- an accepted verdict is no refusal
accepted_number : or_number OrAccepted ≡ 0
unfolding or_number or_outcome
accepted_number = refl

-- ---- two sheets that load with one K

-- a round that is not refused is accepted, or rejected with rows of side 1 alone, or with rows of side 0
pub data Ways (s s' : List ℕ) (round : OrRound) : Type 0 where
  both : Accepts s (first_round round) → AcceptsOr s s' round → Ways s s' round
  later : (mask : ℕ) → Accepts s (first_round round)
      → judge_round s' (second_round (instance_of s).header.challenges round) ≡ Rejected mask → judge_or s s' round ≡ OrRejected 0 mask
      → Ways s s' round
  earlier : (mask mask' : ℕ) → judge_round s (first_round round) ≡ Rejected mask → judge_or s s' round ≡ OrRejected mask mask'
      → Ways s s' round

module _ (s s' : List ℕ) (pair : Pair s s') where
  -- the values of both sheets, and K
  abbrev i : Instance
  i = instance_of s

  abbrev j : Instance
  j = instance_of s'

  abbrev K : ℕ
  K = (instance_of s).header.challenges

  -- both are valid
  pub first_valid : Valid (instance_of s)
  first_valid = loads_valid s (first_loads pair)

  pub second_valid : Valid (instance_of s')
  second_valid = loads_valid s' (second_loads pair)

  -- there is a challenge
  pub some_challenge : 0 < (instance_of s).header.challenges
  some_challenge = omega (arith, first_valid.table.some_challenges)

  module _ (round : OrRound) where
    -- the rules of a round pass exactly where c is below K and both sides fit
    pub round_clear : Clear (judging_or i j round).refusals
        ↔ (Below s round.challenge × Fits i (first_round round) × Fits j (second_round K round))
    unfolding judging_or bad_commitments bad_challenges bad_responses read_or judging first_round second_round
    round_clear = (
      λ (a, (b, (c, none))).
          let (t, t') = (both_fail _ _).0 a in
          let (below, below0) = (both_fail _ _).0 b in
          let (r, r') = (both_fail _ _).0 c in
          let below1 = (challenge_passes j (second_round K round).challenge).1 (rw (sym pair.one_count) (other_less K _ _ some_challenge)) in (
            (challenge_passes i round.challenge).0 below,
            (judge_clear i (first_round round)).0 (t, (below0, (r, tt))),
            (judge_clear j (second_round K round)).0 (t', (below1, (r', tt))),
          ),
      λ (small, first, second).
          let (t, (below0, (r, none))) = (judge_clear i (first_round round)).1 first in
          let (t', (below1, (r', none'))) = (judge_clear j (second_round K round)).1 second in
          let below = (both_fail _ _).1 ((challenge_passes i round.challenge).1 small, below0) in
          ((both_fail _ _).1 (t, t'), (below, ((both_fail _ _).1 (r, r'), tt))),
    )

    -- a round without the number of a refusal passes the rules
    number_clear : or_number (judge_or s s' round) ≡ 0 → Clear (judging_or i j round).refusals
    unfolding judge_or judging_or or_number or_outcome
    number_clear e =
        on_pair_clear s s' (judging_or i j round) or_number (verdict_or_number i j (read_or i j round)) (λ n. refl) e tt

    -- if no rule applies, the verdict is that on both sides
    judge_or_clear : Clear (judging_or i j round).refusals → judge_or s s' round ≡ verdict_or i j (read_or i j round)
    unfolding judge_or judging_or
    judge_or_clear none = on_pair_loads s s' (judging_or i j round) pair ∙ answer_clear (judging_or i j round) none

    -- a side that fits has the verdict of 01's judging call
    first_judged : Fits i (first_round round)
        → judge_round s (first_round round)
        ≡ verdict i (places i.header.rows round.commitment0) round.challenge0 (places i.header.columns round.response0)
    unfolding judging first_round
    first_judged fits =
        judge_loaded_law s (first_loads pair) (first_round round)
        ∙ (judge_given i (first_round round) _ (verdict_not_refused i _ _ _)).1 (fits, refl)

    second_judged : Fits j (second_round K round)
        → judge_round s' (second_round K round)
        ≡ verdict j (places j.header.rows round.commitment1) (other_challenge K round.challenge round.challenge0)
        (places j.header.columns round.response1)
    unfolding judging second_round
    second_judged fits =
        judge_loaded_law s' (second_loads pair) (second_round K round)
        ∙ (judge_given j (second_round K round) _ (verdict_not_refused j _ _ _)).1 (fits, refl)

    -- so the verdicts of 01's judging call are combined
    both_judged : Clear (judging_or i j round).refusals
        → judge_or s s' round ≡ combined (judge_round s (first_round round)) (judge_round s' (second_round K round))
    unfolding verdict_or read_or
    both_judged none =
        let (small, first, second) = round_clear.0 none in
        judge_or_clear none ∙ sym (ap₂ combined (first_judged first) (second_judged second))

    -- a round that is not refused has both verdicts combined
    pub not_refused : or_number (judge_or s s' round) ≡ 0
        → judge_or s s' round ≡ combined (judge_round s (first_round round)) (judge_round s' (second_round K round))
    not_refused e = both_judged (number_clear e)

    -- no rule applies to an accepted round
    pub accepted_clear : AcceptsOr s s' round → Clear (judging_or i j round).refusals
    accepted_clear e = number_clear (ap or_number e ∙ accepted_number)

    -- its c0 is below K
    pub accepted_below : AcceptsOr s s' round → round.challenge0 < K
    unfolding first_round
    accepted_below e = (round_clear.0 (accepted_clear e)).1.challenge

    -- and its values are accepted
    pub accepted_verdict : AcceptsOr s s' round → verdict_or i j (read_or i j round) ≡ OrAccepted
    accepted_verdict e = sym (judge_or_clear (accepted_clear e)) ∙ e

    -- a round is accepted exactly where c is below K and both sides' rounds are accepted
    pub or_accepted : AcceptsOr s s' round ↔ (Below s round.challenge × Accepts s (first_round round) × Accepts s' (second_round K round))
    or_accepted = (
      λ e.
          let none = accepted_clear e in
          let both = (combined_both _ _).0 (sym (both_judged none) ∙ e) in
          ((round_clear.0 none).0, both.0, both.1),
      λ (small, first, second).
          let fits = ((sheet_accepted s (first_loads pair) (first_round round)).0 first).0 in
          let fits' = ((sheet_accepted s' (second_loads pair) (second_round K round)).0 second).0 in
          both_judged (round_clear.1 (small, fits, fits')) ∙ (combined_both _ _).1 (first, second),
    )

    -- a round that is not refused is rejected with the rows of both sides exactly where it is not accepted
    pub or_rejected : (mask0 mask1 : ℕ) → or_number (judge_or s s' round) ≡ 0
        → (judge_or s s' round ≡ OrRejected mask0 mask1)
        ↔ (SideMask s (first_round round) mask0 × SideMask s' (second_round K round) mask1 × (¬ AcceptsOr s s' round))
    or_rejected mask0 mask1 e = rw (not_refused e) (combined_rejected _ _ mask0 mask1)

    -- which of the three ways a round goes that is not refused
    pub or_ways : or_number (judge_or s s' round) ≡ 0 → Ways s s' round
    unfolding combined
    or_ways e = go (judge_round s (first_round round)) (judge_round s' (second_round K round)) refl refl
      where
        fits : Fits i (first_round round) × Fits j (second_round K round)
        fits = let (small, first, second) = round_clear.0 (number_clear e) in (first, second)

        first_given : (n : ℕ) → judge_round s (first_round round) ≢ Refused n
        first_given n a = verdict_not_refused i _ _ _ n (sym (first_judged fits.0) ∙ a)

        second_given : (n : ℕ) → judge_round s' (second_round K round) ≢ Refused n
        second_given n b = verdict_not_refused j _ _ _ n (sym (second_judged fits.1) ∙ b)

        go : (v w : Verdict) → judge_round s (first_round round) ≡ v → judge_round s' (second_round K round) ≡ w → Ways s s' round
        go Accepted Accepted a b = both a (not_refused e ∙ ap₂ combined a b)
        go Accepted (Rejected mask) a b = later mask a b (not_refused e ∙ ap₂ combined a b)
        go Accepted (Refused n) a b = absurd (second_given n b)
        go (Rejected mask) Accepted a b = earlier mask 0 a (not_refused e ∙ ap₂ combined a b)
        go (Rejected mask) (Rejected mask') a b = earlier mask mask' a (not_refused e ∙ ap₂ combined a b)
        go (Rejected mask) (Refused n) a b = absurd (second_given n b)
        go (Refused n) w a b = absurd (first_given n a)

    -- so it is accepted, or rejected with two masks
    pub or_decided : or_number (judge_or s s' round) ≡ 0
        → AcceptsOr s s' round ⊎ ((mask0 : ℕ) × (mask1 : ℕ) × (judge_or s s' round ≡ OrRejected mask0 mask1))
    or_decided e = elim (or_ways e) [
      | both first accepted ↦ inl accepted
      | later mask first second rejected ↦ inr (0, mask, rejected)
      | earlier mask mask' first rejected ↦ inr (mask, mask', rejected)
    ]
