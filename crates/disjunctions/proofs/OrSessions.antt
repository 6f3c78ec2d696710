-- Peggy's steps in the OR proof over any list of calls, from any session, with any sheets and arguments: one session answers one
-- challenge at most, and holds zeros but for the commitments once it has answered or dropped.
-- Assumes nothing.
use Prim.Native.Nat.{ℕ, suc, ◌+◌, ◌<◌, ◌≤◌}
use mathlib.Core.Path.{◌≡◌, refl, sym, ap, ap₂, subst, ◌∙◌}
use mathlib.Core.Logic.{◌⊎◌, inl, inr}
use mathlib.Core.Bool.{Bool, true, false, cond, not}
use mathlib.Core.List.{List, []}
use native.Mathlib.Omega.{arith}
use lib.Dec.{eqb}
use borrow.Author.Tests.{ne_eqb}
use lib.ListN.{length}
use Rattle.types.specs.declared.ProverPhase.{ProverPhase}
use Rattle.types.specs.declared.ProverPhase.TheVariants.{New, Committed, Answered, Dropped}
use Rattle.disjunctions.specs.declared.OrProver.{OrProver}
use Rattle.disjunctions.specs.declared.OrStep.{OrStep}
use Rattle.lists.specs.Places.{pad8, zeros8}
use Rattle.rules.specs.Call.{number_of}
use Rattle.rules.specs.Rule.{Clear}
use Rattle.rules.proofs.Call.{answer_number, answer_value}
use Rattle.rules.proofs.Lowest.{clear_lowest}
use Rattle.rules.proofs.Says.{says_or}
use Rattle.formats.specs.Sheet.{instance_of}
use Rattle.runs.specs.OnSheet.{read_slots}
use Rattle.runs.specs.Run.{answered}
use Rattle.runs.proofs.ProverCalls.{ended_apart, left}
use Rattle.runs.proofs.Run.{Machine, leads, paid, stays, unmoved}
use Rattle.sigma.specs.Round.{response}
use Rattle.sigma.proofs.Calculus.{both_fail, says_passes}
use Rattle.disjunctions.specs.Calls.{KeepsBoth, OrCall, OrCommit, OrDrop, OrMoves, OrRespond, Wiped, or_challenges_of}
use Rattle.runs.specs.Prover.{prover_state}
use Rattle.runs.specs.ProverCalls.{Ended}
use Rattle.disjunctions.specs.OneOfTwo.{OrSessions}
use Rattle.disjunctions.specs.Ours.{call_or, or_after, or_trace, or_calls}
use Rattle.disjunctions.specs.Prover.{
  commit_or,
  committing_or,
  drop_or,
  dropping_or,
  first_commitment,
  new_or_prover,
  or_prover_in,
  own,
  other,
  respond_or,
  responding_or,
  second_commitment,
  unfit_or,
  wiped_or,
}
use Rattle.disjunctions.specs.Round.{other_challenge}
use Rattle.disjunctions.proofs.OnPair.{on_pair_clear, on_pair_value}
use Rattle.disjunctions.proofs.OrRefusals.{or_refusals}
use Rattle.disjunctions.proofs.SessionTests.{says_or_prover}

-- ---- a wiped session

module _ (phase : ProverPhase) (first second : List ℕ) where
  -- it is in the state that is given
  wiped_phase : (wiped_or phase first second).phase ≡ phase
  unfolding wiped_or
  wiped_phase = refl

  -- it holds zeros but for the commitments
  wiped_holds : Wiped (wiped_or phase first second)
  unfolding wiped_or
  wiped_holds = record { nonce = refl; response = refl; challenge = refl; side = refl }

-- it keeps both commitments
wiped_keeps : (phase : ProverPhase) (p q : OrProver) → q ≡ wiped_or phase p.commitment0 p.commitment1 → KeepsBoth p q
unfolding wiped_or
wiped_keeps phase p q e = (ap (λ (r : OrProver). r.commitment0) e, ap (λ (r : OrProver). r.commitment1) e)

-- ---- every side but 0 is 1

module _ {ℓ} {A : Type ℓ} (n : ℕ) (first second : A) where
  pub later_own : own (suc n) first second ≡ second
  unfolding own
  later_own = rw (ne_eqb (suc n) 0 (λ (z : suc n ≡ 0). omega arith))

  pub later_other : other (suc n) first second ≡ first
  unfolding other
  later_other = rw (ne_eqb (suc n) 0 (λ (z : suc n ≡ 0). omega arith))

-- ---- what a call hands back

-- the instance of a side's sheet is the side's instance
pub own_instance : (side : ℕ) (s s' : List ℕ) → own side (instance_of s) (instance_of s') ≡ instance_of (own side s s')
unfolding own
own_instance side s s' = on (eqb side 0)
  where
    on : (b : Bool) → cond b (instance_of s) (instance_of s') ≡ instance_of (cond b s s')
    on true = refl
    on false = refl

pub other_instance : (side : ℕ) (s s' : List ℕ) → other side (instance_of s) (instance_of s') ≡ instance_of (other side s s')
unfolding other
other_instance side s s' = on (eqb side 0)
  where
    on : (b : Bool) → cond b (instance_of s') (instance_of s) ≡ instance_of (cond b s' s)
    on true = refl
    on false = refl

-- the number that a step has
abbrev number : OrStep → ℕ
number step = step.refusal

-- the number of dropping
pub drop_or_number : (p : OrProver) → (drop_or p).refusal ≡ number_of (dropping_or p)
unfolding drop_or dropping_or
drop_or_number p = answer_number (dropping_or p) number refl (λ n. refl)

-- no rule applies to a call that is not refused
module _ (s s' : List ℕ) (p : OrProver) where
  pub commit_or_clear : (side : ℕ) (k : List ℕ) (d : ℕ) (r : List ℕ) → (commit_or s s' p side k d r).refusal ≡ 0
      → Clear (committing_or (instance_of s) (instance_of s') p side k d r).refusals
  unfolding commit_or committing_or
  commit_or_clear side k d r e =
      on_pair_clear s s' (committing_or (instance_of s) (instance_of s') p side k d r) number refl (λ n. refl) e tt

  pub respond_or_clear : (c : ℕ) (x : List ℕ) → (respond_or s s' p c x).refusal ≡ 0
      → Clear (responding_or (instance_of s) (instance_of s') p c x).refusals
  unfolding respond_or responding_or
  respond_or_clear c x e = on_pair_clear s s' (responding_or (instance_of s) (instance_of s') p c x) number refl (λ n. refl) e tt

module _ (s s' : List ℕ) (p : OrProver) where
  -- committing stores what it brings with both commitments, and answers these
  pub commit_or_given : (side : ℕ) (nonce : List ℕ) (d : ℕ) (answer : List ℕ) → (commit_or s s' p side nonce d answer).refusal ≡ 0
      → (k r : List ℕ) → k ≡ read_slots (own side s s') nonce → r ≡ read_slots (other side s s') answer
      → commit_or s s' p side nonce d answer
      ≡ record {
        session =
            record {
              nonce = pad8 0 k;
              response = pad8 0 r;
              commitment0 = pad8 0 (first_commitment (instance_of s) side k d r);
              commitment1 = pad8 0 (second_commitment (instance_of s') side k d r);
              challenge = d;
              side = own side 0 1;
              phase = Committed;
            };
        values0 = pad8 0 (first_commitment (instance_of s) side k d r);
        values1 = pad8 0 (second_commitment (instance_of s') side k d r);
        challenge0 = 0;
        refusal = 0;
      }
  unfolding commit_or committing_or
  commit_or_given side nonce d answer e k r a b =
      rw (a, b, sym (own_instance side s s'), sym (other_instance side s s'))
      (on_pair_value s s' (committing_or (instance_of s) (instance_of s') p side nonce d answer) number refl (λ n. refl) e)

  -- responding answers both responses and c0, and wipes the session
  pub respond_or_given : (c : ℕ) (witness : List ℕ) → (respond_or s s' p c witness).refusal ≡ 0
      → (k x r answer : List ℕ) (d : ℕ)
      → k ≡ read_slots (own p.side s s') p.nonce
      → x ≡ read_slots (own p.side s s') witness
      → r ≡ read_slots (other p.side s s') p.response
      → d ≡ other_challenge (instance_of s).header.challenges c p.challenge
      → answer ≡ response (instance_of (own p.side s s')).header k d x
      → respond_or s s' p c witness
      ≡ record {
        session = wiped_or Answered p.commitment0 p.commitment1;
        values0 = pad8 0 (own p.side answer r);
        values1 = pad8 0 (own p.side r answer);
        challenge0 = own p.side d p.challenge;
        refusal = 0;
      }
  unfolding respond_or responding_or
  respond_or_given c witness e k x r answer d a b f g h =
      rw (h, a, b, f, g, sym (own_instance p.side s s'), sym (other_instance p.side s s'))
      (on_pair_value s s' (responding_or (instance_of s) (instance_of s') p c witness) number refl (λ n. refl) e)

-- dropping wipes the session
drop_or_given : (p : OrProver) → (drop_or p).refusal ≡ 0
    → drop_or p
    ≡ record {
      session = wiped_or Dropped p.commitment0 p.commitment1;
      values0 = zeros8;
      values1 = zeros8;
      challenge0 = 0;
      refusal = 0;
    }
unfolding drop_or dropping_or
drop_or_given p e = answer_value (dropping_or p) (sym (drop_or_number p) ∙ e)

-- ---- one call

module _ (s s' : List ℕ) (p : OrProver) where
  -- committing that is not refused is in New
  commit_or_phase : (side : ℕ) (k : List ℕ) (d : ℕ) (r : List ℕ) → (commit_or s s' p side k d r).refusal ≡ 0 → p.phase ≡ New
  unfolding committing_or
  commit_or_phase side k d r e = (says_passes (says_or_prover New p)).0 (commit_or_clear s s' p side k d r e).1.1.0

  -- responding that is not refused is in Committed
  respond_or_phase : (c : ℕ) (x : List ℕ) → (respond_or s s' p c x).refusal ≡ 0 → p.phase ≡ Committed
  unfolding responding_or
  respond_or_phase c x e =
      (says_passes (says_or_prover Committed p)).0
      ((both_fail (not (or_prover_in Committed p)) (unfit_or (instance_of s) (instance_of s') p)).0 (respond_or_clear s s' p c x e).1.1.1.0).0

-- dropping that is not refused is in New or Committed
drop_or_phase : (p : OrProver) → (drop_or p).refusal ≡ 0 → (p.phase ≡ New) ⊎ (p.phase ≡ Committed)
unfolding dropping_or number_of
drop_or_phase p e =
    (says_passes (says_or (says_or_prover New p) (says_or_prover Committed p))).0
    (clear_lowest (dropping_or p).refusals tt (sym (drop_or_number p) ∙ e)).0

-- a refused call hands back the session
pub or_kept : (call : OrCall) (p : OrProver) → 0 < (call_or call p).refusal → (call_or call p).session ≡ p
unfolding call_or
or_kept (OrCommit s s' side k d r) p some = ((or_refusals.committing s s' p side k d r).left some).0
or_kept (OrRespond s s' c x) p some = ((or_refusals.responding s s' p c x).left some).0
or_kept OrDrop p some = ((or_refusals.dropping p).left some).0

-- any other call moves it
pub or_moves : (call : OrCall) (p : OrProver) → (call_or call p).refusal ≡ 0 → OrMoves p call (call_or call p)
unfolding call_or
or_moves (OrCommit s s' side k d r) p e =
    let given = commit_or_given s s' p side k d r e _ _ refl refl in (
      commit_or_phase s s' p side k d r e,
      ap (λ (step : OrStep). step.session) given
          ∙ ap₂ (λ (t t' : List ℕ). record {
            nonce = pad8 0 (read_slots (own side s s') k);
            response = pad8 0 (read_slots (other side s s') r);
            commitment0 = t;
            commitment1 = t';
            challenge = d;
            side = own side 0 1;
            phase = Committed;
          }) (sym (ap (λ (step : OrStep). step.values0) given)) (sym (ap (λ (step : OrStep). step.values1) given)),
      ap (λ (step : OrStep). step.challenge0) given,
    )
or_moves (OrRespond s s' c x) p e =
    let given = ap (λ (step : OrStep). step.session) (respond_or_given s s' p c x e _ _ _ _ _ refl refl refl refl refl) in (
      respond_or_phase s s' p c x e,
      ap (λ (q : OrProver). q.phase) given ∙ wiped_phase Answered _ _,
      subst Wiped (sym given) (wiped_holds Answered _ _),
      wiped_keeps Answered p _ given,
    )
or_moves OrDrop p e =
    let whole = drop_or_given p e in
    let given = ap (λ (step : OrStep). step.session) whole in (
      drop_or_phase p e,
      ap (λ (q : OrProver). q.phase) given ∙ wiped_phase Dropped _ _,
      subst Wiped (sym given) (wiped_holds Dropped _ _),
      wiped_keeps Dropped p _ given,
      (
        ap (λ (step : OrStep). step.values0) whole,
        ap (λ (step : OrStep). step.values1) whole,
        ap (λ (step : OrStep). step.challenge0) whole,
      ),
    )

-- the calls on the session, and how they move it
abbrev pub or_peggy : Machine OrCall OrProver OrStep
or_peggy = record {
  answer = call_or;
  session = λ step. step.session;
  refusal = λ step. step.refusal;
  Moves = OrMoves;
  kept = or_kept;
  moves = or_moves;
}

-- ---- each call

-- none moves a session that has ended
pub or_unmoved : (p : OrProver) (call : OrCall) (step : OrStep) → Ended p.phase → ¬ OrMoves p call step
or_unmoved p (OrCommit s s' side k d r) step ended moved = ended_apart p.phase ended (inl moved.0)
or_unmoved p (OrRespond s s' c x) step ended moved = ended_apart p.phase ended (inr moved.0)
or_unmoved p OrDrop step ended moved = ended_apart p.phase ended moved.0

-- it answers no more than is left to answer
or_pays : (call : OrCall) (p : OrProver) (step : OrStep) → OrMoves p call step
    → length (or_challenges_of call) + left step.session.phase ≤ left p.phase
unfolding left prover_state
or_pays (OrCommit s s' side k d r) p step (from, to, none) = rw (ap (λ (q : OrProver). q.phase) to, from) (omega arith)
or_pays (OrRespond s s' c x) p step (from, to, wiped, kept) = rw (to, from) (omega arith)
or_pays OrDrop p step (from, to, wiped, kept, empty) = rw to (omega arith)

-- it leads to no state that has ended, unless all but the commitments is zeros
or_wipes : (call : OrCall) (p : OrProver) (step : OrStep) → OrMoves p call step
    → (Ended p.phase → Wiped p) → Ended step.session.phase → Wiped step.session
or_wipes (OrCommit s s' side k d r) p step (from, to, none) zeros ended =
    absurd (ended_apart _ ended (inr (ap (λ (q : OrProver). q.phase) to)))
or_wipes (OrRespond s s' c x) p step (from, to, wiped, kept) zeros ended = wiped
or_wipes OrDrop p step (from, to, wiped, kept, empty) zeros ended = wiped

-- ---- any list of calls

-- at most one challenge is answered
or_once : (calls : List OrCall) (p : OrProver) → length (answered or_challenges_of (or_trace calls p)) ≤ 1
unfolding answered or_trace call_or left
or_once calls p =
    let all = paid or_peggy (λ step. or_challenges_of step.0) (λ q. left q.phase) calls (λ call member. or_pays call) p in
    omega (arith, all)

-- the session's steps
pub or_sessions : OrSessions or_calls
unfolding new_or_prover wiped_or zeros8 own other call_or or_trace or_after
or_sessions = record {
  sides = λ n first second. (refl, later_own n first second, refl, later_other n first second);
  new = refl;
  in_order = leads or_peggy;
  once = or_once;
  wiped = λ calls p started ended.
      stays or_peggy (λ q. Ended q.phase → Wiped q) calls (λ call member. or_wipes call) p (λ e. absurd (started e)) ended;
  ended = λ calls p ended. unmoved or_peggy calls p (λ call member step. or_unmoved p call step ended);
}
