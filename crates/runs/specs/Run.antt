-- A list of calls on a session, each given the session that the last one handed back (01, "Sessions").
-- Assumes nothing.
use Rattle.std.specs.Prelude.{ℕ, ◌≡◌}
use mathlib.Core.List.{List, [], ◌∷◌, ◌++◌, flat_map}
use Rattle.rules.specs.Answer.{unless_refused}

module _ {Call Session Outcome : Type 0} (answer : Call → Session → Outcome) (session : Outcome → Session) where
  -- the session after the last of the calls
  unfoldable pub session_after : List Call → Session → Session
  session_after [] s = s
  session_after (call ∷ calls) s = session_after calls (session (answer call s))

  -- the calls that are carried out, in order, each with what it answered: refused ones are left out
  unfoldable pub trace : (Outcome → ℕ) → List Call → Session → List (Call × Outcome)
  trace refusal [] s = []
  trace refusal (call ∷ calls) s =
      unless_refused (refusal (answer call s)) ((call, answer call s) ∷ []) [] ++
      trace refusal calls (session (answer call s))

module _ {Call Session Outcome : Type 0} (session : Outcome → Session) where
  -- a trace leads from the session s to t, where each call moves the session that the last one handed back
  abbrev pub Leads : (Session → Call → Outcome → Type 0) → Session → List (Call × Outcome) → Session → Type 0
  Leads Moves s [] t = t ≡ s
  Leads Moves s ((call, outcome) ∷ later) t = Moves s call outcome × Leads Moves (session outcome) later t

-- the challenges that the calls of a trace answered, by those that each call brings
unfoldable pub answered : {Call Outcome : Type 0} → (Call → List ℕ) → List (Call × Outcome) → List ℕ
answered brings steps = flat_map (λ step. brings step.0) steps
