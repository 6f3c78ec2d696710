-- The marker's text is determined: two markers over calls that answer the same print the same.
-- Assumes nothing.
use Prim.Native.Nat.{ℕ, ◌<◌}
use mathlib.Core.Path.{◌≡◌, sym, ap, subst, ◌∙◌}
use mathlib.Core.List.{List, ◌++◌, flatten}
use mathlib.Core.Logic.{◌⊎◌, ◌≢◌, inl, inr, ⊎_elim}
use lib.ListN.{get_or, length}
use Rattle.types.specs.declared.Counted.{Counted}
use Rattle.types.specs.declared.Fetched.{Fetched}
use Rattle.types.specs.declared.Loaded.{Loaded}
use Rattle.types.specs.declared.Verdict.{Verdict}
use Rattle.encoding.specs.Bytes.{number_at}
use Rattle.encoding.specs.Text.{ascii, decimal}
use Rattle.lists.proofs.Places.{tabulate_agree}
use Rattle.rules.proofs.Determined.{below_or_not, either}
use Rattle.rules.proofs.Says.{says_decides, says_equal}
use Rattle.formats.specs.FileCalls.{FileCalls}
use Rattle.formats.specs.Same.{SameFiles}
use Rattle.runs.specs.MarkerCalls.{MarkerCalls, verdict_on}
use Rattle.runs.specs.RunCalls.{RunCalls}
use Rattle.runs.specs.Same.{SameRuns}
use Rattle.demands.specs.MarksFiles.{IsLevel, MarksFiles, Passes, printed, text_ending}

-- a level file is one of a level or not
level_or_not : {A : Type 0} (level : List ℕ) → (IsLevel level → A)
    → ((length level ≢ 1) ⊎ (get_or level 0 0 < 1) ⊎ (64 < get_or level 0 0) → A) → A
level_or_not level f g =
    ⊎_elim
    (λ one. below_or_not (get_or level 0 0) 1 (λ l. g (inr (inl l)))
    (λ low. below_or_not 64 (get_or level 0 0) (λ l. g (inr (inr l))) (λ high. f (one, low, high))))
    (λ other. g (inl other)) (says_decides (says_equal (length level) 1))

module _ {files files' : FileCalls} {runs runs' : RunCalls} (same_files : SameFiles files files') (same_runs : SameRuns runs runs') where
  verdicts_same : (sheet f : List ℕ) (k : ℕ) → verdict_on files runs sheet f k ≡ verdict_on files' runs' sheet f k
  verdicts_same sheet f k =
      same_runs.judge_round sheet _ ∙ ap (λ (x : Fetched). runs'.judge_round sheet x.round) (same_files.fetch_round sheet f k)

  ending_same : (sheet f last : List ℕ) → text_ending files runs sheet f last ≡ text_ending files' runs' sheet f last
  ending_same sheet f last =
      ap (λ (lines : List (List ℕ)). ascii "rounds " ++ decimal (number_at 2 f 5) ++ ascii "\n" ++ flatten lines ++ last)
      (tabulate_agree (number_at 2 f 5) _ _ (λ k l. ap (printed k) (verdicts_same sheet f k)))

  passes_over : (sheet f level : List ℕ) → Passes files runs sheet f level → Passes files' runs' sheet f level
  passes_over sheet f level p = (λ k l. sym (verdicts_same sheet f k) ∙ p.0 k l, p.1)

  passes_back : (sheet f level : List ℕ) → Passes files' runs' sheet f level → Passes files runs sheet f level
  passes_back sheet f level p = (λ k l. verdicts_same sheet f k ∙ p.0 k l, p.1)

  -- the last line of a file that reads
  module _ (marker marker' : MarkerCalls) (sheet f level : List ℕ) where
    texts_same :
        (Passes files runs sheet f level × (marker.marker_text sheet f level ≡ text_ending files runs sheet f (ascii "pass\n")))
        ⊎ ((¬ Passes files runs sheet f level) × (marker.marker_text sheet f level ≡ text_ending files runs sheet f (ascii "fail\n")))
        → (Passes files' runs' sheet f level × (marker'.marker_text sheet f level ≡ text_ending files' runs' sheet f (ascii "pass\n")))
        ⊎ ((¬ Passes files' runs' sheet f level) × (marker'.marker_text sheet f level ≡ text_ending files' runs' sheet f (ascii "fail\n")))
        → marker.marker_text sheet f level ≡ marker'.marker_text sheet f level
    texts_same (inl p) (inl q) = p.1 ∙ ending_same sheet f (ascii "pass\n") ∙ sym q.1
    texts_same (inl p) (inr q) = absurd (q.0 (passes_over sheet f level p.0))
    texts_same (inr p) (inl q) = absurd (p.0 (passes_back sheet f level q.0))
    texts_same (inr p) (inr q) = p.1 ∙ ending_same sheet f (ascii "fail\n") ∙ sym q.1

  pub only_marker : (marker marker' : MarkerCalls) → MarksFiles files runs marker → MarksFiles files' runs' marker'
      → (sheet f level : List ℕ) → marker.marker_text sheet f level ≡ marker'.marker_text sheet f level
  only_marker marker marker' d d' sheet f level =
      let number : (files.load sheet).refusal ≡ (files'.load sheet).refusal = ap (λ (x : Loaded). x.refusal) (same_files.load sheet) in
      let counted : (files.count_rounds sheet f).refusal ≡ (files'.count_rounds sheet f).refusal =
      ap (λ (x : Counted). x.refusal) (same_files.count_rounds sheet f) in
      either (files.load sheet).refusal
      (λ loads. either (files.count_rounds sheet f).refusal
      (λ reads. level_or_not level
      (λ good. texts_same marker marker' sheet f level (d.ending sheet f level reads good)
      (d'.ending sheet f level (sym counted ∙ reads) good))
      (λ bad. d.refused_level sheet f level reads bad ∙ sym (d'.refused_level sheet f level (sym counted ∙ reads) bad)))
      (λ some. d.refused_file sheet f level loads some
      ∙ sym (d'.refused_file sheet f level (sym number ∙ loads) (subst (λ (n : ℕ). 0 < n) counted some))))
      (λ some. d.refused_sheet sheet f level some
      ∙ ap (λ (n : ℕ). ascii "sheet " ++ decimal n ++ ascii "\n") number
      ∙ sym (d'.refused_sheet sheet f level (subst (λ (n : ℕ). 0 < n) number some)))
