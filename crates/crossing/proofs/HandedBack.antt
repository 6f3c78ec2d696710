-- Calls on a session in the form in which it crosses. The session that an answer hands back is, after a refused call, the one that was
-- given, bit for bit. Once one call on the form is the call on the session, any list of calls is.
-- Assumes nothing.
use Prim.Native.Nat.{ℕ, ◌<◌}
use mathlib.Core.Path.{◌≡◌, refl, sym, ap, ap₂, ◌∙◌}
use mathlib.Core.List.{List, [], ◌∷◌, ◌++◌, flat_map}
use native.Mathlib.Decide.{dec_lt}
use native.Mathlib.Omega.{arith}
use Rattle.rules.specs.Answer.{unless_refused}
use Rattle.runs.specs.Run.{session_after, trace, answered}
use Rattle.runs.proofs.Run.{trace_refused, trace_given, Machine, in_turn, stays}
use Rattle.rules.proofs.Answer.{unless_refused_zero, unless_refused_positive}
use Rattle.crossing.specs.Calls.{read_answers}

-- the challenges that were answered are fixed by the calls alone
answered_read : {Call A B : Type 0} (brings : Call → List ℕ) (read : A → B) (answers : List (Call × A))
    → answered brings (read_answers read answers) ≡ answered brings answers
unfolding answered read_answers flat_map
answered_read brings read [] = refl
answered_read brings read ((call, a) ∷ later) = ap (λ (cs : List ℕ). brings call ++ cs) (answered_read brings read later)

-- a session that crosses: what calls on the form answer, the form and the number in an answer, and how a form is taken in and handed
-- out; a session handed out and in again is the same, and an answer has the call's number, and the session after the call or, if it is
-- refused, the form that was given
pub record Crossing {Call Session Outcome : Type 0} (m : Machine Call Session Outcome) (Form Told : Type 0) : Type 1 where
  pub answer : Call → Form → Told
  pub form : Told → Form
  pub number : Told → ℕ
  pub into : Form → Session
  pub out : Session → Form
  pub again : (x : Session) → into (out x) ≡ x
  pub number_is : (call : Call) (s : Form) → number (answer call s) ≡ m.refusal (m.answer call (into s))
  pub form_is : (call : Call) (s : Form)
      → form (answer call s) ≡ unless_refused (m.refusal (m.answer call (into s))) (out (m.session (m.answer call (into s)))) s

module _ {Call Session Outcome Form Told : Type 0} {m : Machine Call Session Outcome} (c : Crossing m Form Told) where
  open c use {answer, form, number, into, out, again, number_is, form_is}

  -- a refused call hands the form back as it was given
  pub back_refused : (call : Call) (s : Form) → 0 < number (answer call s) → form (answer call s) ≡ s
  back_refused call s refused = form_is call s ∙ unless_refused_positive _ s _ (omega (arith, number_is call s))

  -- any other hands out the session after the call
  out_given : (call : Call) (s : Form) → number (answer call s) ≡ 0 → form (answer call s) ≡ out (m.session (m.answer call (into s)))
  out_given call s given = form_is call s ∙ rw (sym (number_is call s) ∙ given) (unless_refused_zero _ s)

  -- so the session handed back is the one after the call
  pub handed : (call : Call) (s : Form) → into (form (answer call s)) ≡ m.session (m.answer call (into s))
  handed call s = elim (dec_lt 0 (number (answer call s))) [
    | yes refused ↦ ap into (back_refused call s refused) ∙ sym (m.kept call (into s) (omega (arith, number_is call s)))
    | no zero_case ↦ ap into (out_given call s (omega arith)) ∙ again _
  ]

  -- after any calls the session is the one after the calls
  pub session_across : (calls : List Call) (s : Form)
      → into (session_after answer form calls s) ≡ session_after m.answer m.session calls (into s)
  unfolding session_after
  session_across [] s = refl
  session_across (call ∷ calls) s =
      session_across calls (form (answer call s)) ∙ ap (session_after m.answer m.session calls) (handed call s)

  -- the calls on the form: one that is not refused hands back a form that was handed out
  abbrev forming : Machine Call Form Told
  forming = record {
    answer = answer;
    session = form;
    refusal = number;
    Moves = λ s call a. (x : Session) × (form a ≡ out x);
    kept = back_refused;
    moves = λ call s given. (m.session (m.answer call (into s)), out_given call s given);
  }

  -- so the form after any calls is that of the session, if the one that was given comes back the same
  pub out_across : (calls : List Call) (s : Form) → out (into s) ≡ s
      → session_after answer form calls s ≡ out (session_after m.answer m.session calls (into s))
  out_across calls s back =
      sym (stays forming (λ f. out (into f) ≡ f) calls
      (λ call member f a (x, e) same. ap (λ (g : Form). out (into g)) e ∙ ap out (again x) ∙ sym e) s back)
      ∙ ap out (session_across calls s)

  -- if an answer reads as what the call answers, so does the trace of any list of calls
  module _ (read : Told → Outcome) (told : (call : Call) (s : Form) → read (answer call s) ≡ m.answer call (into s)) where
    pub trace_across : (calls : List Call) (s : Form)
        → read_answers read (trace answer form number calls s) ≡ trace m.answer m.session m.refusal calls (into s)
    unfolding trace read_answers
    trace_across =
        in_turn answer form number
        (λ calls s steps t. read_answers read steps ≡ trace m.answer m.session m.refusal calls (into s)) (λ s. refl)
        (λ call calls s steps t some reads.
        reads ∙ ap (trace m.answer m.session m.refusal calls) (handed call s)
        ∙ sym (trace_refused m.answer m.session m.refusal call calls (into s) (omega (arith, number_is call s))))
        (λ call calls s steps t given reads.
        ap₂ (λ (o : Outcome) (rest : List (Call × Outcome)). (call, o) ∷ rest) (told call s)
        (reads ∙ ap (trace m.answer m.session m.refusal calls) (handed call s))
        ∙ sym (trace_given m.answer m.session m.refusal call calls (into s) (omega (arith, number_is call s))))

    -- so the same challenges are answered
    pub answered_across : (brings : Call → List ℕ) (calls : List Call) (s : Form)
        → answered brings (trace answer form number calls s) ≡ answered brings (trace m.answer m.session m.refusal calls (into s))
    answered_across brings calls s = sym (answered_read brings read _) ∙ ap (answered brings) (trace_across calls s)
