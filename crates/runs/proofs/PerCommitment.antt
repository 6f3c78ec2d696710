-- Over any list of calls on Peggy's session no commitment gets two answers, and none that the record lists gets one.
-- Assumes nothing.
use Prim.Native.Nat.{ℕ, ◌<◌, min}
use mathlib.Core.Path.{◌≡◌, refl, sym, ap, ◌∙◌}
use mathlib.Core.Logic.{inl, inr}
use mathlib.Core.List.{List, ◌∷◌, flat_map}
use native.Mathlib.Omega.{arith}
use lib.ListN.{get_or, length-set}
use lib.Seq.{get_or-set_same, get_or-set_other}
use Rattle.types.specs.declared.Listed.{Listed}
use Rattle.types.specs.declared.Prover.{Prover}
use Rattle.types.specs.declared.ProverStep.{ProverStep}
use Rattle.lists.specs.Member.{EachOnce, Member}
use Rattle.lists.specs.Places.{places}
use Rattle.lists.proofs.Places.{get_d_places}
use Rattle.formats.specs.Sheet.{instance_of}
use Rattle.runs.specs.Meaning.{Responds}
use Rattle.runs.specs.Memory.{listed_at}
use Rattle.runs.specs.Ours.{call_prover, prover_trace}
use Rattle.runs.specs.Prover.{respond}
use Rattle.runs.specs.ProverCalls.{ProverCall, Commit, Respond, Drop, Save, Return, answered_on, Shaped, ProverMoves}
use Rattle.runs.proofs.ProverCalls.{prover_moves, peggy}
use Rattle.runs.proofs.ProverSteps.{respond_runs}
use Rattle.runs.proofs.Run.{Machine, over_calls}

-- a commitment is listed
abbrev Lists : Prover → List ℕ → Type 0
Lists p t = (i : ℕ) × (i < min 64 p.memory.count) × (places 8 (listed_at p.memory i) ≡ t)

-- every call keeps the shape of a session
pub shape_kept : (call : ProverCall) (p : Prover) (step : ProverStep) → ProverMoves p call step → Shaped p → Shaped step.session
shape_kept (Commit sheet nonce) p step moved shaped = rw moved.1 shaped
shape_kept (Respond sheet c witness) p step moved (names, long) = rw moved.1 (names, length-set p.memory.answered _ _ ∙ long)
shape_kept Drop p step moved shaped = rw moved.1 shaped
shape_kept (Save name) p step moved (names, long) = rw moved.1 (length-set p.memory.saved _ _ ∙ names, long)
shape_kept (Return name) p step moved shaped = rw moved.1 shaped

-- ---- responding

module _ (sheet : List ℕ) (c : ℕ) (witness : List ℕ) (p : Prover) (step : ProverStep)
    (moved : ProverMoves p (Respond sheet c witness) step) (given : (call_prover (Respond sheet c witness) p).refusal ≡ 0) where
  -- what it asks for
  asked : Responds (instance_of sheet) p c (places (instance_of sheet).header.columns witness)
  unfolding call_prover respond
  asked = ((respond_runs sheet p c witness).0 given).1

  -- its commitment was not listed
  not_before : ¬ Lists p (places 8 p.commitment)
  not_before (i, inside, same) =
      asked.unlisted i (omega arith)
      (λ j less. sym (get_d_places 8 _ j less) ∙ ap (λ (l : List ℕ). get_or l j 0) same ∙ get_d_places 8 _ j less)

  -- it is listed then
  listed_now : Shaped p → Lists step.session (places 8 p.commitment)
  unfolding listed_at
  listed_now shaped =
      rw moved.1 (
        p.memory.count,
        omega (arith, asked.room),
        ap (λ (l : Listed). places 8 l.commitment)
            (get_or-set_same p.memory.answered p.memory.count _ _ (omega (arith, asked.room))),
      )

  -- and what was listed is listed still
  listed_still : (t : List ℕ) → Lists p t → Lists step.session t
  unfolding listed_at
  listed_still t (i, inside, is) =
      rw moved.1 (
        i,
        omega (arith, asked.room),
        ap (λ (l : Listed). places 8 l.commitment)
            (get_or-set_other p.memory.answered p.memory.count i _ _ (λ same. omega arith)) ∙ is,
      )

-- ---- any calls

-- the commitments that steps answer are different from each other, and none is listed before
abbrev Fresh : Prover → List (ProverCall × ProverStep) → Type 0
Fresh p steps = Shaped p → EachOnce (answered_on steps) × ((t : List ℕ) → Lists p t → ¬ Member t (answered_on steps))

-- a call that is carried out moves the session, and is not refused
abbrev peggy_given : Machine ProverCall Prover ProverStep
peggy_given = record {
  answer = call_prover;
  session = λ step. step.session;
  refusal = λ step. step.refusal;
  Moves = λ p call step. ProverMoves p call step × ((call_prover call p).refusal ≡ 0);
  kept = peggy.kept;
  moves = λ call p given. (prover_moves call p given, given);
}

-- a call in front that keeps the shape and what is listed, and answers nothing
passes : (p q : Prover) (steps : List (ProverCall × ProverStep)) → (Shaped p → Shaped q) → ((t : List ℕ) → Lists p t → Lists q t)
    → Fresh q steps → Fresh p steps
passes p q steps shape lists fresh shaped = let (once, bars) = fresh (shape shaped) in (once, λ t listed. bars t (lists t listed))

-- any call in front: only responding answers, and it lists what it answers
fresh_on : (call : ProverCall) (p : Prover) (step : ProverStep) → ProverMoves p call step × ((call_prover call p).refusal ≡ 0)
    → (later : List (ProverCall × ProverStep)) → Fresh step.session later → Fresh p ((call, step) ∷ later)
unfolding answered_on flat_map listed_at
fresh_on (Commit sheet nonce) p step (moved, given) later =
    passes p step.session later (shape_kept (Commit sheet nonce) p step moved) (λ t listed. rw moved.1 listed)
fresh_on Drop p step (moved, given) later =
    passes p step.session later (shape_kept Drop p step moved) (λ t listed. rw moved.1 listed)
fresh_on (Save name) p step (moved, given) later =
    passes p step.session later (shape_kept (Save name) p step moved) (λ t listed. rw moved.1 listed)
fresh_on (Return name) p step (moved, given) later =
    passes p step.session later (shape_kept (Return name) p step moved) (λ t listed. rw moved.1 listed)
fresh_on (Respond sheet c x) p step (moved, given) later = λ fresh shaped.
    let (once, bars) = fresh (shape_kept (Respond sheet c x) p step moved shaped) in
    let held : step.session.commitment ≡ p.commitment = ap (λ (q : Prover). q.commitment) moved.1 in (
      (bars _ (rw held (listed_now sheet c x p step moved given shaped)), once),
      λ t listed member. elim member [
        | inl is ↦ not_before sheet c x p step moved given (rw (is, held) at listed)
        | inr later_member ↦ bars t (listed_still sheet c x p step moved given t listed) later_member
      ],
    )

-- no commitment gets two answers, and none that is listed gets one
fresh : (calls : List ProverCall) (p : Prover) → Fresh p (prover_trace calls p)
unfolding answered_on flat_map prover_trace call_prover
fresh calls =
    over_calls peggy_given (λ p steps q. Fresh p steps) calls (λ p shaped. (tt, λ t listed member. member))
    (λ call member p step moved later q rest. fresh_on call p step moved later rest)

pub per_commitment : (calls : List ProverCall) (p : Prover) → Shaped p → EachOnce (answered_on (prover_trace calls p))
per_commitment calls p shaped = (fresh calls p shaped).0

pub listed_before : (calls : List ProverCall) (p : Prover) (i : ℕ) → Shaped p → i < min 64 p.memory.count
    → ¬ Member (places 8 (listed_at p.memory i)) (answered_on (prover_trace calls p))
listed_before calls p i shaped inside = (fresh calls p shaped).1 _ (i, inside, refl)
