-- Lists of calls on a session, each given the session that the last one handed back. One law is an induction over the calls that are
-- carried out (`over_calls`). Where they lead, what they keep and what they use up are instances of it.
-- Assumes nothing.
use Prim.Native.Nat.{ℕ, ◌+◌, ◌<◌, ◌≤◌}
use mathlib.Core.Path.{◌≡◌, refl, subst}
use mathlib.Core.Logic.{inl, inr}
use mathlib.Core.List.{List, [], ◌∷◌, flat_map}
use native.Mathlib.Decide.{dec_lt}
use native.Mathlib.Omega.{arith}
use Rattle.rules.proofs.Answer.{unless_refused_zero, unless_refused_positive}
use lib.ListN.{length, length-append}
use Rattle.lists.specs.Member.{Member}
use Rattle.runs.specs.Run.{session_after, trace, Leads}

-- ---- a list of calls, call by call

module _ {Call Session Outcome : Type 0} (answer : Call → Session → Outcome) (session : Outcome → Session) (refusal : Outcome → ℕ) where
  -- a refused call is left out
  pub trace_refused : (call : Call) (calls : List Call) (s : Session) → 0 < refusal (answer call s)
      → trace answer session refusal (call ∷ calls) s ≡ trace answer session refusal calls (session (answer call s))
  unfolding trace
  trace_refused call calls s refused =
      let first : List (Call × Outcome) = (call, answer call s) ∷ [] in
      rw (unless_refused_positive first [] _ refused)

  -- any other stands in front
  pub trace_given : (call : Call) (calls : List Call) (s : Session) → refusal (answer call s) ≡ 0
      → trace answer session refusal (call ∷ calls) s
      ≡ (call, answer call s) ∷ trace answer session refusal calls (session (answer call s))
  unfolding trace
  trace_given call calls s given =
      let first : List (Call × Outcome) = (call, answer call s) ∷ [] in
      rw (given, unless_refused_zero first [])

  -- induction over a list of calls: on to a refused call in front, and to one that is carried out
  pub in_turn : (Holds : List Call → Session → List (Call × Outcome) → Session → Type 0)
      → ((s : Session) → Holds [] s [] s)
      → ((call : Call) (calls : List Call) (s : Session) (steps : List (Call × Outcome)) (t : Session) → 0 < refusal (answer call s)
      → Holds calls (session (answer call s)) steps t → Holds (call ∷ calls) s steps t)
      → ((call : Call) (calls : List Call) (s : Session) (steps : List (Call × Outcome)) (t : Session) → refusal (answer call s) ≡ 0
      → Holds calls (session (answer call s)) steps t → Holds (call ∷ calls) s ((call, answer call s) ∷ steps) t)
      → (calls : List Call) (s : Session)
      → Holds calls s (trace answer session refusal calls s) (session_after answer session calls s)
  unfolding trace session_after
  in_turn Holds none refused given [] s = none s
  in_turn Holds none refused given (call ∷ calls) s =
      let later = in_turn Holds none refused given calls (session (answer call s)) in
      elim (dec_lt 0 (refusal (answer call s))) [
        | yes some ↦ rw (trace_refused call calls s some) (refused call calls s _ _ some later)
        | no zero_case ↦
            let zero_is : refusal (answer call s) ≡ 0 = omega arith in
            rw (trace_given call calls s zero_is) (given call calls s _ _ zero_is later)
      ]

  -- if the trace of one call leads on and the call is not refused, it moves the session
  pub moves_first : (Moves : Session → Call → Outcome → Type 0) (call : Call) (s t : Session) → refusal (answer call s) ≡ 0
      → Leads session Moves s (trace answer session refusal (call ∷ []) s) t → Moves s call (answer call s)
  moves_first Moves call s t given leads =
      (subst (λ (steps : List (Call × Outcome)). Leads session Moves s steps t) (trace_given call [] s given) leads).0

-- ---- a session that a refused call leaves as it is

-- what calls answer, the session and the number in an answer, and how a call that is carried out moves the session
pub record Machine (Call Session Outcome : Type 0) : Type 1 where
  pub answer : Call → Session → Outcome
  pub session : Outcome → Session
  pub refusal : Outcome → ℕ
  pub Moves : Session → Call → Outcome → Type 0
  pub kept : (call : Call) (s : Session) → 0 < refusal (answer call s) → session (answer call s) ≡ s
  pub moves : (call : Call) (s : Session) → refusal (answer call s) ≡ 0 → Moves s call (answer call s)

module _ {Call Session Outcome : Type 0} (m : Machine Call Session Outcome) where
  open m use {answer, session, refusal, Moves, kept, moves}

  -- the calls of a list that are carried out, and the session after the list
  abbrev done : List Call → Session → List (Call × Outcome)
  done calls s = trace answer session refusal calls s

  abbrev after : List Call → Session → Session
  after calls s = session_after answer session calls s

  -- the law: what holds of no calls, and goes on to each call of the list that moves the session, put in front, holds of the calls of
  -- the list that are carried out
  pub over_calls : (Holds : Session → List (Call × Outcome) → Session → Type 0) (calls : List Call)
      → ((s : Session) → Holds s [] s)
      → ((call : Call) → Member call calls → (s : Session) (o : Outcome) → Moves s call o
      → (later : List (Call × Outcome)) (t : Session) → Holds (session o) later t → Holds s ((call, o) ∷ later) t)
      → (s : Session) → Holds s (done calls s) (after calls s)
  over_calls Holds all none one s =
      in_turn answer session refusal
      (λ calls s steps t. ((call : Call) → Member call calls → Member call all) → Holds s steps t)
      (λ s inside. none s)
      (λ call calls s steps t some later inside.
      subst (λ (s' : Session). Holds s' steps t) (kept call s some) (later (λ k member. inside k (inr member))))
      (λ call calls s steps t given later inside.
      one call (inside call (inl refl)) s _ (moves call s given) steps t (later (λ k member. inside k (inr member))))
      all s (λ call member. member)

  -- the calls that are carried out lead from the first session to the last
  pub leads : (calls : List Call) (s : Session) → Leads session Moves s (done calls s) (after calls s)
  leads calls = over_calls (Leads session Moves) calls (λ s. refl) (λ call member s o moved later t rest. (moved, rest))

  -- what each call of the list keeps, the list keeps
  pub stays : (P : Session → Type 0) (calls : List Call)
      → ((call : Call) → Member call calls → (s : Session) (o : Outcome) → Moves s call o → P s → P (session o))
      → (s : Session) → P s → P (after calls s)
  stays P calls keeps =
      over_calls (λ s steps t. P s → P t) calls (λ s holds. holds)
      (λ call member s o moved later t rest holds. rest (keeps call member s o moved holds))

  -- if a potential pays for what each call of the list uses, the list uses no more than the first session's potential
  pub paid : {Use : Type 0} (uses : Call × Outcome → List Use) (potential : Session → ℕ) (calls : List Call)
      → ((call : Call) → Member call calls → (s : Session) (o : Outcome) → Moves s call o
      → length (uses (call, o)) + potential (session o) ≤ potential s)
      → (s : Session) → length (flat_map uses (done calls s)) + potential (after calls s) ≤ potential s
  unfolding flat_map
  paid uses potential calls pays =
      over_calls (λ s steps t. length (flat_map uses steps) + potential t ≤ potential s) calls (λ s. omega arith)
      (λ call member s o moved later t rest.
      omega (arith, length-append (uses (call, o)) (flat_map uses later), pays call member s o moved, rest))

  -- a session that no call of the list moves stays as it is, and none is carried out
  pub unmoved : (calls : List Call) (s : Session) → ((call : Call) → Member call calls → (o : Outcome) → ¬ Moves s call o)
      → (done calls s ≡ []) × (after calls s ≡ s)
  unmoved calls s never =
      over_calls (λ s' steps t. s' ≡ s → (steps ≡ []) × (t ≡ s)) calls (λ s' same. (refl, same))
      (λ call member s' o moved later t rest same.
      absurd (never call member o (subst (λ (q : Session). Moves q call o) same moved)))
      s refl

  -- a call that does not move the session is refused
  pub refused_unmoved : (call : Call) (s : Session) → ¬ Moves s call (answer call s) → 0 < refusal (answer call s)
  refused_unmoved call s never =
      let some : ¬ (refusal (answer call s) ≡ 0) = λ given. never (moves call s given) in
      omega arith
