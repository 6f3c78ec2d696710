-- When judging and extracting in the OR proof are not refused: then no condition holds, and that is what 01's judging call says of
-- the two sides, and accepted rounds.
-- Assumes nothing.
use Prim.Native.Nat.{ℕ, ◌<◌}
use mathlib.Core.Path.{◌≡◌, refl, sym, ap, ◌∙◌}
use mathlib.Core.Logic.{◌↔◌, ◌≢◌, inl, inr, ⊎_elim}
use mathlib.Core.Bool.{not, or_comm}
use mathlib.Core.List.{List, [], ◌∷◌, ◌++◌}
use native.Mathlib.Omega.{arith}
use lib.Dec.{eqb}
use Rattle.disjunctions.specs.declared.OrExtracted.{OrExtracted}
use Rattle.disjunctions.specs.declared.OrRound.{OrRound}
use Rattle.rules.specs.Call.{number_of}
use Rattle.rules.specs.Condition.{Condition, ◌if◌}
use Rattle.rules.specs.Either.{either_conditions}
use Rattle.rules.specs.Refuses.{Refuses}
use Rattle.rules.specs.Rule.{Rule, lowest}
use Rattle.rules.proofs.Call.{answer_number}
use Rattle.rules.proofs.Determined.{NoneHold, none_append, none_hold, none_join, none_zero}
use Rattle.rules.proofs.Says.{says_decides, says_equal, says_iff, says_same}
use Rattle.formats.specs.Load.{load}
use Rattle.formats.specs.Ours.{file_calls}
use Rattle.formats.specs.Refusals.{load_conditions}
use Rattle.formats.specs.Sheet.{instance_of}
use Rattle.formats.proofs.FileRefusals.{file_refusals, none_loads}
use Rattle.runs.specs.Calls.{judge_round}
use Rattle.runs.specs.OnSheet.{Below}
use Rattle.runs.specs.Ours.{run_calls}
use Rattle.runs.proofs.Demand3.{demand3}
use Rattle.runs.proofs.MainProtocol.{main_protocol}
use Rattle.runs.proofs.OnlyRounds.{is_below}
use Rattle.runs.proofs.Protocol.{protocol}
use Rattle.runs.proofs.RunRefusals.{run_refusals}
use Rattle.runs.proofs.Sessions.{sessions}
use Rattle.sigma.specs.Answer.{outcome}
use Rattle.sigma.specs.Comparison.{differ}
use Rattle.sigma.specs.Instance.{Instance}
use Rattle.sigma.specs.Refusals.{judge_conditions}
use Rattle.sigma.proofs.Comparison.{says_differ}
use Rattle.disjunctions.specs.Extractor.{extract_or, extracting_or, is_or_accepted}
use Rattle.disjunctions.specs.Judge.{bad_challenges, bad_commitments, bad_responses, judge_or, on_pair, pair_rules, verdict_or}
use Rattle.disjunctions.specs.OneOfTwo.{or_number}
use Rattle.disjunctions.specs.Ours.{AcceptedOrPair, Pair, or_calls}
use Rattle.disjunctions.specs.Refusals.{extract_or_conditions, judge_or_conditions, pair_conditions}
use Rattle.disjunctions.specs.Round.{first_round, other_challenge, read_or, second_round}
use Rattle.disjunctions.proofs.Challenges.{other_less}
use Rattle.disjunctions.proofs.Extracted.{extracts_first, extracts_second}
use Rattle.disjunctions.proofs.Judged.{some_challenge}
use Rattle.disjunctions.proofs.OneOfTwo.{or_proof}
use Rattle.disjunctions.proofs.OnlyRounds.{EitherDemands, accepted_pair, none_pair}
use Rattle.disjunctions.proofs.OrRefusals.{or_refusals}

-- our calls meet what the demands ask of them
demands : EitherDemands file_calls run_calls or_calls
unfolding load
demands = record {
  runs =
      record {
        loading = file_refusals;
        refusals = run_refusals;
        sessions = sessions;
        main_protocol = main_protocol;
        protocol = protocol;
        knowledge = demand3;
      };
  refusals = or_refusals;
  proof = or_proof;
}

-- ---- if no condition of the sheets holds

-- of two inputs that are tested alike none holds if none of either does
none_both : (xs ys : List Condition) → NoneHold xs → NoneHold ys → NoneHold (either_conditions xs ys)
none_both [] ys p q = q
none_both ((n if P) ∷ xs) [] p q = p
none_both ((n if P) ∷ xs) ((m if Q) ∷ ys) p q = (⊎_elim p.0 q.0, none_both xs ys p.1 q.1)

-- a call on a sheet is not refused exactly if the sheet loads and none of the call's own conditions holds
pub on_sheet_law : (sheet : List ℕ) (own : List Condition) {numbers : List ℕ} {n : ℕ} {Left : Type 0}
    → Refuses numbers (load_conditions sheet ++ own) n Left → (n ≡ 0) ↔ (((file_calls.load sheet).refusal ≡ 0) × NoneHold own)
on_sheet_law sheet own {n = n} r =
    let loading = file_refusals.loading sheet in (
      λ e.
          let parts = none_append (load_conditions sheet) own (none_hold r r e) in
          (none_loads file_refusals sheet parts.0, parts.1),
      λ (loads, none).
          let whole = none_join (load_conditions sheet) own (none_hold loading loading loads) none in
          none_zero (load_conditions sheet ++ own) n whole r.given,
    )

-- and a call on two sheets if both load with one K
pub on_pair_law : (s s' : List ℕ) (own : List Condition) {numbers : List ℕ} {n : ℕ} {Left : Type 0}
    → Refuses numbers (pair_conditions s s' ++ own) n Left → (n ≡ 0) ↔ (Pair s s' × NoneHold own)
on_pair_law s s' own {n = n} r =
    let different = (instance_of s).header.challenges ≢ (instance_of s').header.challenges in
    let first = file_refusals.loading s in
    let second = file_refusals.loading s' in (
      λ e.
          let parts = none_append (pair_conditions s s') own (none_hold r r e) in
          let sheets = none_pair s s' parts.0 in (
            record {
              first_loads = none_loads file_refusals s sheets.first;
              second_loads = none_loads file_refusals s' sheets.second;
              one_count = sheets.count;
            },
            parts.1,
          ),
      λ (pair, none).
          let loads =
          none_both (load_conditions s) (load_conditions s') (none_hold first first pair.first_loads)
          (none_hold second second pair.second_loads) in
          let sheets : NoneHold (pair_conditions s s') =
          none_join (either_conditions (load_conditions s) (load_conditions s')) ((26 if different) ∷ []) loads
          ((λ f. f pair.one_count), tt) in
          none_zero (pair_conditions s s' ++ own) n (none_join (pair_conditions s s') own sheets none) r.given,
    )

-- ---- rounds

-- judging
pub judges : (s s' : List ℕ) (round : OrRound) → (or_number (judge_or s s' round) ≡ 0)
    ↔ (Pair s s' × Below s round.challenge × ((outcome (judge_round s (first_round round))).number ≡ 0)
    × ((outcome (judge_round s' (second_round (instance_of s).header.challenges round))).number ≡ 0))
unfolding first_round second_round
judges s s' round =
    let K = (instance_of s).header.challenges in
    let here = on_pair_law s s' (judge_or_conditions (instance_of s) (instance_of s') round) (or_refusals.judging s s' round) in
    let first = on_sheet_law s (judge_conditions (instance_of s) (first_round round)) (run_refusals.judging s (first_round round)) in
    let second =
    on_sheet_law s' (judge_conditions (instance_of s') (second_round K round)) (run_refusals.judging s' (second_round K round)) in (
      λ e.
          let (pair, none) = here.0 e in
          let left : other_challenge K round.challenge round.challenge0 < (instance_of s').header.challenges =
          rw (sym pair.one_count) (other_less K round.challenge round.challenge0 (some_challenge s s' pair)) in (
            pair,
            is_below s round.challenge (λ x. none.1.0 (inl x)),
            first.1 (
              pair.first_loads,
              ((λ x. none.0 (inl x)), ((λ x. none.1.0 (inr x)), ((λ x. none.1.1.0 (inl x)), tt))),
            ),
            second.1 (
              pair.second_loads,
              ((λ x. none.0 (inr x)), ((λ x. omega (arith, left, x)), ((λ x. none.1.1.0 (inr x)), tt))),
            ),
          ),
      λ (pair, below, e, f).
          let a = (first.0 e).1 in
          let b = (second.0 f).1 in
          here.1 (
            pair,
            (
              ⊎_elim a.0 b.0,
              (⊎_elim (λ x. omega (arith, below, x)) a.1.0, (⊎_elim a.1.1.0 b.1.1.0, tt)),
            ),
          ),
    )

-- extracting
pub extracts : (s s' : List ℕ) (a b : OrRound) → ((extract_or s s' a b).refusal ≡ 0) ↔ (Pair s s' × AcceptedOrPair s s' a b)
extracts s s' a b =
    let own = extract_or_conditions (instance_of s) (instance_of s') a b in
    let here = on_pair_law s s' own (or_refusals.extracting s s' a b) in (
      λ e.
          let r = or_refusals.extracting s s' a b in
          let sheets = none_pair s s' (none_append (pair_conditions s s') own (none_hold r r e)).0 in
          let (pair, none) = here.0 e in
          (pair, accepted_pair demands s s' sheets a b none),
      λ (pair, taken).
          ⊎_elim
          (λ same. ap (λ (answer : OrExtracted). answer.refusal) (extracts_second s s' pair a b taken same).answer)
          (λ apart. ap (λ (answer : OrExtracted). answer.refusal) (extracts_first s s' pair a b taken apart).answer)
          (says_decides (says_equal a.challenge0 b.challenge0)),
    )

-- arrays differ in whichever order they are compared
differ_swapped : (n : ℕ) (xs ys : List ℕ) → differ n ys xs ≡ differ n xs ys
differ_swapped n xs ys =
    says_same
    (says_iff (says_differ n ys xs) ((λ (j, h, apart). (j, h, λ e. apart (sym e))), (λ (j, h, apart). (j, h, λ e. apart (sym e)))))
    (says_differ n xs ys)

equal_swapped : (m n : ℕ) → eqb n m ≡ eqb m n
equal_swapped m n = says_same (says_iff (says_equal n m) (sym, sym)) (says_equal m n)

-- the rules of two rounds are those of the rounds exchanged
rules_swapped : (i j : Instance) (a b : OrRound) → (extracting_or i j b a).refusals ≡ (extracting_or i j a b).refusals
unfolding extracting_or
rules_swapped i j a b =
    let x = read_or i j a in
    let y = read_or i j b in
    rw (
      or_comm (bad_commitments i j y) (bad_commitments i j x),
      or_comm (bad_challenges i y) (bad_challenges i x),
      or_comm (bad_responses i j y) (bad_responses i j x),
      differ_swapped i.header.rows x.commitment0 y.commitment0,
      differ_swapped j.header.rows x.commitment1 y.commitment1,
      equal_swapped x.challenge y.challenge,
      or_comm (not (is_or_accepted (verdict_or i j y))) (not (is_or_accepted (verdict_or i j x))),
    )

-- the number of extracting
extract_or_number : (s s' : List ℕ) (a b : OrRound)
    → (extract_or s s' a b).refusal ≡ number_of (on_pair s s' (extracting_or (instance_of s) (instance_of s') a b))
unfolding extract_or extracting_or
extract_or_number s s' a b = answer_number _ (λ (answer : OrExtracted). answer.refusal) refl (λ n. refl)

pub swapped : (s s' : List ℕ) (a b : OrRound) → (extract_or s s' b a).refusal ≡ (extract_or s s' a b).refusal
unfolding number_of
swapped s s' a b =
    extract_or_number s s' b a
    ∙ ap (λ (rules : List Rule). lowest (pair_rules s s' ++ rules)) (rules_swapped (instance_of s) (instance_of s') a b)
    ∙ sym (extract_or_number s s' a b)
