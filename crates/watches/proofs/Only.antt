-- The refusals and answers of a watch determine it: two that meet them, over calls on rounds that answer the same, answer the same
-- to every input.
-- Assumes nothing.
use Prim.Native.Nat.{ℕ, zero, suc}
use mathlib.Core.Path.{◌≡◌, refl, sym, ap, ◌∙◌}
use mathlib.Core.Logic.{◌≢◌}
use mathlib.Core.List.{List}
use lib.ListN.{get_or}
use Rattle.types.specs.declared.Computed.{Computed}
use Rattle.types.specs.declared.Round.{Round}
use Rattle.types.specs.declared.Verdict.TheVariants.{Accepted, Refused}
use Rattle.lists.specs.Places.{zeros8}
use Rattle.rules.proofs.Determined.{refused_or_not, same_number}
use Rattle.rules.proofs.Says.{says_elim}
use Rattle.runs.specs.RunCalls.{RunCalls}
use Rattle.runs.specs.Same.{SameRuns}
use Rattle.sigma.proofs.Tests.{says_accepted}
use Rattle.watches.specs.Same.{SameWatches}
use Rattle.watches.specs.WatchCalls.{WatchCalls}
use Rattle.watches.specs.WatchesNonces.{NamesNearest, Remembers, WatchAnswers, WatchRefusals}
use Rattle.watches.specs.Window.{no_round, window}
use Rattle.watches.specs.declared.Watch.{Watch}
use Rattle.watches.specs.declared.Watched.{Watched}

-- one round more makes one watch
next_same : {sheet : List ℕ} {round : Round} {w : Watch} (next next' : Watch) → Remembers sheet round w next
    → Remembers sheet round w next' → next ≡ next'
next_same next next' m m' = λ i. record {
  rounds = (m.rounds ∙ sym m'.rounds) i;
  sheet = (m.bytes ∙ sym m'.bytes) i;
  length = (m.long ∙ sym m'.long) i;
  count = (m.count ∙ sym m'.count) i;
}

module _ {runs runs' : RunCalls} (alike : SameRuns runs runs') (sheet : List ℕ) (past : List Round) (round : Round) (told told' : Watched)
    (n : NamesNearest runs sheet past round told) (n' : NamesNearest runs' sheet past round told') where
  -- one list of remembered rounds leaves one to name, or none
  back_same : told.back ≡ told'.back
  back_same = go told.back refl
    where
      go : (k : ℕ) → told.back ≡ k → told.back ≡ told'.back
      go zero e = e ∙ sym (n'.none.1 (n.none.0 e))
      go (suc b) e = e ∙ sym ((n'.named b).1 ((n.named b).0 e))

  -- and one witness
  witness_same : told.witness ≡ told'.witness
  witness_same = go told.back refl
    where
      go : (k : ℕ) → told.back ≡ k → told.witness ≡ told'.witness
      go zero e = n.no_witness e ∙ sym (n'.no_witness (sym back_same ∙ e))
      go (suc b) e =
          (n.witness b e).0
          ∙ ap (λ (x : Computed). x.values) (alike.extract_witness sheet round (get_or past b no_round))
          ∙ sym (n'.witness b (sym back_same ∙ e)).0

module _ {runs runs' : RunCalls} {watches watches' : WatchCalls} (refusals : WatchRefusals watches) (refusals' : WatchRefusals watches')
    (answers : WatchAnswers runs watches) (answers' : WatchAnswers runs' watches') (alike : SameRuns runs runs') (sheet : List ℕ) where
  open_same : watches.open_watch sheet ≡ watches'.open_watch sheet
  open_same =
      let r = refusals.opening sheet in
      let r' = refusals'.opening sheet in
      refused_or_not r r' (λ n l l' i. record { watch = (l ∙ sym l') i; refusal = n i })
      (λ e e' none i. record {
        watch = (answers.opened sheet e ∙ sym (answers'.opened sheet e')) i;
        refusal = same_number r r' i;
      })

  module _ (w : Watch) (round : Round) where
    abbrev told : Watched
    told = watches.watch_round sheet w round

    abbrev told' : Watched
    told' = watches'.watch_round sheet w round

    -- what both accept
    accepted_same : told.verdict ≡ Accepted → told'.verdict ≡ Accepted → told ≡ told'
    accepted_same e e' =
        let (m, n) = answers.accepted sheet w round e in
        let (m', n') = answers'.accepted sheet w round e' in
        λ i. record {
          watch = next_same told.watch told'.watch m m' i;
          witness = witness_same alike sheet (window w) round told told' n n' i;
          back = back_same alike sheet (window w) round told told' n n' i;
          verdict = (e ∙ sym e') i;
        }

    -- what neither accepts
    unmoved_same : told.verdict ≡ told'.verdict → told.verdict ≢ Accepted → told ≡ told'
    unmoved_same same other =
        let (kept, back, zeros) = answers.unmoved sheet w round other in
        let (kept', back', zeros') = answers'.unmoved sheet w round (λ e. other (same ∙ e)) in
        λ i. record {
          watch = (kept ∙ sym kept') i;
          witness = (zeros ∙ sym zeros') i;
          back = (back ∙ sym back') i;
          verdict = same i;
        }

    round_same : watches.watch_round sheet w round ≡ watches'.watch_round sheet w round
    round_same =
        refused_or_not (refusals.hearing sheet w round) (refusals'.hearing sheet w round)
        (λ n l l'. l ∙ (λ i. record { watch = w; witness = zeros8; back = 0; verdict = Refused (n i) }) ∙ sym l')
        (λ e e' none.
        let same = answers.judged sheet w round e ∙ alike.judge_round sheet round ∙ sym (answers'.judged sheet w round e') in
        says_elim (says_accepted told.verdict) (λ a. accepted_same a (sym same ∙ a)) (unmoved_same same))

-- a watch is determined
pub only_watches : {runs runs' : RunCalls} {watches watches' : WatchCalls} → WatchRefusals watches → WatchRefusals watches'
    → WatchAnswers runs watches → WatchAnswers runs' watches' → SameRuns runs runs' → SameWatches watches watches'
only_watches refusals refusals' answers answers' alike = record {
  open_watch = open_same refusals refusals' answers answers' alike;
  watch_round = round_same refusals refusals' answers answers' alike;
}
