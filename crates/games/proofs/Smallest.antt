-- The first candidate that answers is the smallest accepting response in slot order.
-- Assumes nothing.
use Prim.Native.Nat.{ℕ, zero, suc, ◌<◌, ◌≤◌}
use mathlib.Core.Path.{◌≡◌, refl, sym, ap, ◌∙◌, subst}
use mathlib.Core.Bool.{Bool, true, false≢true}
use mathlib.Core.Logic.{◌⊎◌, ◌≢◌, inl, inr, ⊎_elim}
use mathlib.Core.List.{List, [], ◌∷◌}
use native.Mathlib.Decide.{dec_lt}
use native.Mathlib.Omega.{arith}
use lib.ListN.{get_or, length}
use Rattle.lists.specs.Each.{Each}
use Rattle.lists.specs.Places.{places}
use Rattle.lists.proofs.Each.{each_places}
use Rattle.lists.proofs.Places.{get_d_places}
use Rattle.numbers.proofs.Search.{find_first, find_holds}
use Rattle.sigma.specs.Answer.{is_accepted}
use Rattle.sigma.specs.Instance.{Instance}
use Rattle.sigma.specs.Judge.{judge_loaded}
use Rattle.sigma.specs.Knowledge.{AcceptedRound}
use Rattle.sigma.specs.Meaning.{Coordinates}
use Rattle.sigma.specs.Reads.{Agree, round_of}
use Rattle.sigma.specs.Valid.{Valid}
use Rattle.sigma.proofs.ByKind.{by_kind, exponent_kind, root_kind}
use Rattle.sigma.proofs.Calls.{valid_judge_accepted}
use Rattle.sigma.proofs.Tests.{says_accepted}
use Rattle.sigma.proofs.Unread.{judge_same}
use Rattle.games.specs.Slots.{Before}
use Rattle.games.specs.Text.{candidate, candidates, first_answer}
use Rattle.games.proofs.Slots.{before_leads, index_of, index_below, length_slots, slots_of_index, slots_rise}

module _ (inst : Instance) (v : Valid inst) (one : inst.header.kind ≢ 1 → inst.header.columns ≡ 1) where
  -- there are candidates
  some : 0 < inst.header.order
  some = omega (arith, v.table.order)

  -- a candidate has n slots
  pub length_candidate : (k : ℕ) → length (candidate inst.header k) ≡ inst.header.columns
  unfolding candidate
  length_candidate k =
      by_kind inst.header (λ e. rw (exponent_kind inst.header e) (length_slots inst.header.order some _ k))
      (λ n. rw (root_kind inst.header n) (sym (one n)))

  -- a later candidate comes later in slot order
  pub candidates_rise : (k k' : ℕ) → k < k' → k' < candidates inst.header
      → Before inst.header.columns (candidate inst.header k) (candidate inst.header k')
  unfolding candidate candidates
  candidates_rise k k' less =
      by_kind inst.header
      (λ e. rw (exponent_kind inst.header e) (λ below. slots_rise inst.header.order some _ k k' less below))
      (λ n. rw (root_kind inst.header n) (λ below.
      record { slot = 0; inside = omega (arith, one n); earlier = λ j b. absurd (omega arith); lower = less }))

  -- every choice of slots is a candidate
  pub candidate_of : (r : List ℕ) → Coordinates inst r
      → (k : ℕ) × (k < candidates inst.header) × Agree inst.header.columns (candidate inst.header k) r
  unfolding candidate candidates
  candidate_of r slots =
      let h = inst.header in
      let n = h.columns in
      by_kind h
      (λ e.
      let each : Each (λ x. x < h.order) n (places n r) = each_places _ n r (λ j b. (slots j b).reduced e) in
      rw (exponent_kind h e) (
        index_of h.order (places n r),
        index_below h.order some n (places n r) each,
        λ j b. ap (λ (x : List ℕ). get_or x j 0) (slots_of_index h.order some n (places n r) each) ∙ get_d_places n r j b,
      ))
      (λ e.
      rw (root_kind h e)
      (get_or r 0 0, ((slots 0 (omega (arith, one e))).element e).below, λ j b. alone r j (omega (arith, one e))))
    where
      alone : (r : List ℕ) (j : ℕ) → j < 1 → get_or (get_or r 0 0 ∷ []) j 0 ≡ get_or r j 0
      alone r zero b = refl
      alone r (suc j) b = absurd (omega arith)

  module _ (t : List ℕ) (c : ℕ) where
    -- the test of a candidate
    abbrev answers : ℕ → Bool
    answers k = is_accepted (judge_loaded inst (round_of t c (candidate inst.header k)))

    -- an accepting response is a candidate at or behind the first that answers
    pub response_behind : (r : List ℕ) → AcceptedRound inst (round_of t c r)
        → (k : ℕ) × (first_answer inst t c ≤ k) × (k < candidates inst.header)
        × Agree inst.header.columns (candidate inst.header k) r
    unfolding first_answer
    response_behind r e =
        let fits = ((valid_judge_accepted inst (round_of t c r) v).0 e).0 in
        let (k, below, same) = candidate_of r fits.response in
        let accepted : AcceptedRound inst (round_of t c (candidate inst.header k)) =
        judge_same inst {round = round_of t c (candidate inst.header k)} {round' = round_of t c r}
        (record { commitment = λ i b. refl; challenge = refl; response = same }) ∙ e in
        let passes : answers k ≡ true = (says_accepted _).complete accepted in
        elim (dec_lt k (first_answer inst t c)) [
          | yes early ↦ absurd (false≢true (sym (find_first answers 0 _ k (omega arith) early) ∙ passes))
          | no late ↦ (k, omega arith, below, same)
        ]

    -- where one answers, the first is accepted
    pub first_accepted : first_answer inst t c < candidates inst.header
        → AcceptedRound inst (round_of t c (candidate inst.header (first_answer inst t c)))
    unfolding first_answer
    first_accepted found = (says_accepted _).sound (find_holds answers 0 _ (omega arith))

    -- and every other accepting response comes behind it in slot order
    pub first_least : first_answer inst t c < candidates inst.header → (r : List ℕ) → AcceptedRound inst (round_of t c r)
        → Agree inst.header.columns (candidate inst.header (first_answer inst t c)) r
        ⊎ Before inst.header.columns (candidate inst.header (first_answer inst t c)) r
    first_least found r e =
        let (k, behind, below, same) = response_behind r e in
        let f = first_answer inst t c in
        elim (dec_lt f k) [
          | yes less ↦ inr (before_agree _ _ r (candidates_rise f k less below) same)
          | no equal ↦ inl (subst (λ (i : ℕ). Agree inst.header.columns (candidate inst.header i) r) (omega arith) same)
        ]
      where
        before_agree : {n : ℕ} (x y r : List ℕ) → Before n x y → Agree n y r → Before n x r
        before_agree x y r b same = record {
          slot = b.slot;
          inside = b.inside;
          earlier = λ j d. b.earlier j d ∙ same j (omega (arith, b.inside));
          lower = subst (λ (u : ℕ). get_or x b.slot 0 < u) (same b.slot b.inside) b.lower;
        }

    -- so in each slot it has the lowest number of those that agree with it in all earlier slots
    pub first_leading : first_answer inst t c < candidates inst.header → (r : List ℕ) → AcceptedRound inst (round_of t c r)
        → (j : ℕ) → j < inst.header.columns → Agree j (candidate inst.header (first_answer inst t c)) r
        → get_or (candidate inst.header (first_answer inst t c)) j 0 ≤ get_or r j 0
    first_leading found r e j b same =
        let x = candidate inst.header (first_answer inst t c) in
        ⊎_elim (λ (agree : Agree inst.header.columns x r). omega (arith, agree j b))
        (λ (first : Before inst.header.columns x r). before_leads inst.header.columns x r first j same) (first_least found r e)

    -- where none answers, no response is accepted
    pub none_accepted : candidates inst.header ≤ first_answer inst t c → (r : List ℕ) → ¬ AcceptedRound inst (round_of t c r)
    none_accepted none r e = let (k, behind, below, same) = response_behind r e in omega arith
