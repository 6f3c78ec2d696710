-- A watch over any list of calls: it remembers the last 63 accepted rounds, and what it says of an accepted round is true of them.
-- Assumes nothing.
use Prim.Native.Nat.{ℕ, zero, suc, ◌-◌, ◌≤◌, ◌<◌}
use mathlib.Core.Path.{◌≡◌, refl, sym, ap, subst, ◌∙◌}
use mathlib.Core.Logic.{inl, ⊎_elim, ◌≢◌}
use mathlib.Core.Bool.{Bool, cond, ◌&&◌}
use mathlib.Core.List.{List, [], ◌∷◌, ◌++◌, append_assoc, append-nil}
use native.Mathlib.Omega.{arith}
use lib.ListN.{get_or, length, length-take, take}
use lib.Seq.{get_or-take, take-take}
use Rattle.types.specs.declared.Round.{Round}
use Rattle.types.specs.declared.Verdict.{Verdict}
use Rattle.types.specs.declared.Verdict.TheVariants.{Accepted, Refused}
use Rattle.lists.specs.Places.{items_at, places, tabulate}
use Rattle.rules.specs.Says.{Says}
use Rattle.rules.proofs.Says.{says_and, says_elim, says_false}
use Rattle.formats.specs.Load.{load, load_refusal}
use Rattle.formats.specs.Ours.{file_calls}
use Rattle.formats.specs.Sheet.{instance_of}
use Rattle.runs.specs.Calls.{judge_round}
use Rattle.runs.specs.Ours.{Accepts, run_calls}
use Rattle.runs.specs.Run.{session_after}
use Rattle.runs.proofs.Protocol.{sheet_accepted}
use Rattle.runs.proofs.ReadAlone.{read_alone}
use Rattle.sigma.specs.Answer.{is_accepted, outcome}
use Rattle.sigma.specs.Reads.{padded_round}
use Rattle.sigma.proofs.Tests.{says_accepted}
use Rattle.watches.specs.Heard.{Hear, WatchCall, heard as heard_by, is_same}
use Rattle.watches.specs.Ours.{after_hearing, heard, watch_calls}
use Rattle.watches.specs.Watch.{fresh_watch, open_watch, watch_round}
use Rattle.watches.specs.WatchesNonces.{Remembers, WatchWorks, WatchesNonces}
use Rattle.watches.specs.Window.{no_round, window}
use Rattle.watches.specs.declared.Watch.{Watch}
use Rattle.watches.proofs.Bytes.{held_behind, other_bytes, says_same_bytes}
use Rattle.watches.proofs.Judged.{fit_bytes, told_alike, told_clear, told_fit, told_judged, told_left, told_same, told_unfit}
use Rattle.watches.proofs.WatchAnswers.{watch_answers}
use Rattle.watches.proofs.WatchRefusals.{Unfit}
use Rattle.watches.proofs.Window.{window_next}

-- one more in front of the first n of a list is one more in front of all
take_over : {A : Type 0} (n : ℕ) (x : A) (past : List A) → take (suc n) (x ∷ take (suc n) past) ≡ take (suc n) (x ∷ past)
take_over n x past = ap (λ l. x ∷ l) (take-take n (suc n) past (omega arith))

module _ (sheet : List ℕ) (loaded : load_refusal sheet ≡ 0) where
  -- a watch of the sheet's bytes, after the accepted rounds `past`, the newest first
  record Sound (w : Watch) (past : List Round) : Type 0 where
    held : places w.length w.sheet ≡ sheet
    few : w.count ≤ 63
    remembered : window w ≡ take 63 past
    accepted : (i : ℕ) → i < length past → Accepts sheet (get_or past i no_round)

  module _ (w : Watch) (past : List Round) (sound : Sound w past) where
    -- each round that it remembers is accepted
    window_accepted : (b : ℕ) → b < length (window w) → Accepts sheet (get_or (window w) b no_round)
    window_accepted b inside =
        let bound : b < length (take 63 past) = rw sound.remembered at inside in
        let here : b < 63 = omega (arith, length-take 63 past) in
        rw (sound.remembered, get_or-take 63 past b no_round here) (sound.accepted b (omega (arith, length-take 63 past)))

    -- 21 does not apply to the sheet's bytes
    sound_fits : (round : Round) → ¬ Unfit sheet w round
    sound_fits round unfit =
        ⊎_elim (λ other. (other_bytes w sheet).1 other sound.held)
        (⊎_elim (λ (many : 63 < w.count). omega (arith, sound.few, many))
        (λ (holds, (b, (inside, reuses, before), forged)).
        forged ((sheet_accepted sheet loaded (get_or (window w) b no_round)).0 (window_accepted b inside)))) unfit

    -- so the verdict is that of judging
    sound_verdict : (round : Round) → (watch_round sheet w round).verdict ≡ judge_round sheet round
    sound_verdict round = told_same sheet w round (told_fit sheet w round (sound_fits round))

    -- 21 applies to other bytes
    sound_other : (bytes : List ℕ) (round : Round) → bytes ≢ sheet → Unfit bytes w round
    sound_other bytes round other = inl ((other_bytes w bytes).0 (λ same. other (sym same ∙ sound.held)))

    -- so a round that is accepted came with the sheet's bytes, and judging accepts it
    sound_same : (bytes : List ℕ) (round : Round) → (watch_round bytes w round).verdict ≡ Accepted → (bytes ≡ sheet) × Accepts sheet round
    unfolding outcome
    sound_same bytes round e =
        let none = ap (λ (v : Verdict). (outcome v).number) e in
        let same : bytes ≡ sheet = sym (fit_bytes bytes w round (told_clear bytes w round none).1) ∙ sound.held in
        (same, subst (λ (b : List ℕ). judge_round b round ≡ Accepted) same (sym (told_judged bytes w round none) ∙ e))

    -- ---- one call

    -- an accepted round is one more
    sound_next : (round : Round) (next : Watch) → Accepts sheet round → Remembers sheet round w next
        → Sound next (padded_round (instance_of sheet).header round ∷ past)
    unfolding instance_of
    sound_next round next accepts more = record {
      held = rw (more.long, more.bytes) sound.held;
      few = omega (arith, more.count);
      remembered =
          window_next sheet round w next more
          ∙ ap (λ (rounds : List Round). take 63 (padded_round (instance_of sheet).header round ∷ rounds)) sound.remembered
          ∙ take_over 62 _ past;
      accepted = each;
    }
      where
        each : (i : ℕ) → i < suc (length past) → Accepts sheet (get_or (padded_round (instance_of sheet).header round ∷ past) i no_round)
        each zero inside = sym ((read_alone sheet).judged round) ∙ accepts
        each (suc i) inside = sound.accepted i (omega arith)

    -- whether a call brings one
    abbrev hears : List ℕ → Round → Bool
    hears bytes round = is_same bytes sheet && is_accepted (judge_round sheet round)

    says_hears : (bytes : List ℕ) (round : Round) → Says (hears bytes round) ((bytes ≡ sheet) × Accepts sheet round)
    says_hears bytes round = says_and (says_same_bytes bytes sheet) (says_accepted (judge_round sheet round))

    -- the watch after a call
    sound_step : (bytes : List ℕ) (round : Round)
        → Sound (watch_round bytes w round).watch
        (cond (hears bytes round) (padded_round (instance_of sheet).header round ∷ []) [] ++ past)
    sound_step bytes round =
        says_elim (says_hears bytes round)
        (λ (same, accepts).
        let next = (watch_answers.accepted sheet w round (sound_verdict round ∙ accepts)).0 in
        rw ((says_hears bytes round).complete (same, accepts))
        (subst (λ (b : List ℕ). Sound (watch_round b w round).watch (padded_round (instance_of sheet).header round ∷ past)) (sym same)
        (sound_next round _ accepts next)))
        (λ neither.
        let kept = (watch_answers.unmoved bytes w round (λ e. neither (sound_same bytes round e))).0 in
        rw ((says_false (says_hears bytes round)).1 neither, kept) sound)

  -- ---- any list of calls

  after_sound : (calls : List WatchCall) (w : Watch) (past : List Round) → Sound w past
      → Sound (after_hearing calls w) (heard sheet calls ++ past)
  unfolding after_hearing heard heard_by session_after
  after_sound [] w past sound = sound
  after_sound ((Hear bytes round) ∷ calls) w past sound =
      rw (append_assoc (heard_by run_calls sheet calls) _ past)
      (after_sound calls (watch_round bytes w round).watch _ (sound_step w past sound bytes round))

  -- a new watch
  fresh_sound : Sound (open_watch sheet).watch []
  unfolding open_watch load_refusal fresh_watch window tabulate items_at
  fresh_sound = rw (watch_answers.opened sheet loaded) (record {
    held = held_behind sheet (308 - length sheet);
    few = omega arith;
    remembered = refl;
    accepted = λ i inside. absurd (omega arith);
  })

  -- after any calls
  run : (calls : List WatchCall) → Sound (after_hearing calls (open_watch sheet).watch) (heard sheet calls)
  run calls = rw (append-nil (heard sheet calls)) at (after_sound calls (open_watch sheet).watch [] fresh_sound)

-- every watch that is opened on a sheet that loads remembers and names as it should
pub watches_nonces : (sheet : List ℕ) → (load sheet).refusal ≡ 0 → WatchesNonces run_calls watch_calls sheet
unfolding load after_hearing heard
watches_nonces sheet loaded = record {
  remembers = λ calls. (run sheet loaded calls).remembered;
  verdicts = λ calls round. sound_verdict sheet loaded _ _ (run sheet loaded calls) round;
  others_refused = λ calls bytes round some. told_same bytes _ round (told_alike bytes _ round some);
  others = λ calls bytes round other none.
      let given = told_unfit bytes _ round none (sound_other sheet loaded _ _ (run sheet loaded calls) bytes round other) in
      told_left bytes _ round (omega (arith, given)) ∙ ap Refused given;
  names = λ calls round accepts.
      let sound = run sheet loaded calls in
      rw (← sound.remembered)
      (watch_answers.accepted sheet _ round (sound_verdict sheet loaded _ _ sound round ∙ accepts)).1;
}

-- the card, but for its refusals
pub watch_works : WatchWorks file_calls run_calls watch_calls
watch_works = record { answers = watch_answers; watch = watches_nonces }
