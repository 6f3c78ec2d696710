-- The marker's text on a file that reads, at a level that is not refused (01, "The marker's lines"; 02, card 3): a line per
-- round, and `pass` exactly where every round is accepted and they are enough for the level.
-- Assumes nothing.
use Prim.Native.Nat.{ℕ, ◌^◌, ◌<◌, ◌≤◌}
use mathlib.Core.Path.{◌≡◌, sym, ap, subst, ◌∙◌}
use mathlib.Core.Logic.{◌↔◌, ⊎_elim}
use mathlib.Core.Bool.{Bool, true, false, not}
use mathlib.Core.List.{List, [], ◌∷◌, ◌++◌, flatten}
use native.Mathlib.Omega.{arith}
use lib.Dec.{leb}
use Rattle.types.specs.declared.Verdict.TheVariants.{Accepted, Refused}
use Rattle.numbers.specs.Search.{any, find}
use Rattle.lists.specs.Member.{Member}
use Rattle.lists.specs.Places.{items_at, tabulate}
use Rattle.encoding.specs.Text.{ascii, digits, decimal}
use Rattle.rules.specs.Call.{number_of}
use Rattle.rules.specs.Refuses.{condition_numbers}
use Rattle.rules.proofs.Call.{number_given}
use Rattle.rules.proofs.Refuses.{given_among}
use Rattle.rules.proofs.Says.{says_at_most}
use Rattle.formats.specs.Load.{load_refusal}
use Rattle.formats.specs.RoundCalls.{count_rounds, fetch_round}
use Rattle.formats.specs.RoundFile.{challenge_width, count_field, record_start, round_at}
use Rattle.formats.specs.Sheet.{header_of, instance_of}
use Rattle.formats.proofs.Files.{count_runs, count_given, check_runs, fetch_given}
use Rattle.formats.proofs.Loads.{loads}
use Rattle.sigma.specs.Answer.{is_accepted}
use Rattle.sigma.specs.Judge.{judging, judge_loaded}
use Rattle.sigma.specs.Refusals.{judge_conditions}
use Rattle.rules.proofs.Answer.{unless_refused_zero}
use Rattle.sigma.proofs.Calculus.{all_pass, both_fail, says_passes}
use Rattle.sigma.proofs.Calls.{judge_refused}
use Rattle.sigma.proofs.Refusals.{judge_tests}
use Rattle.sigma.proofs.Tests.{says_accepted}
use Rattle.runs.specs.Level.{bad_level, level_of, strong_enough}
use Rattle.runs.specs.Marker.{
  newline,
  word_line,
  result_line,
  verdict_on,
  round_line,
  fails_at,
  round_lines,
  marker_text,
}
use Rattle.runs.proofs.Loaded.{judge_loaded_law}
use Rattle.runs.proofs.Level.{level_passes, none_weak}
use Rattle.runs.proofs.MarkerRefusal.{none_refused}

module _ (sheet f : List ℕ) where
  -- ---- a line per round

  -- the text has the file's own count, the rounds' lines and the last line
  pub round_lines_law : (level : List ℕ) → (count_rounds sheet f).refusal ≡ 0 → bad_level level ≡ false
      → marker_text sheet f level ≡ round_lines sheet f (level_of level) (count_field f)
  unfolding marker_text
  round_lines_law level e good = simp (count_given sheet f e, none_refused sheet f level e good, unless_refused_zero)

  -- the verdict on a round is what judging gives for the values in its record
  pub verdict_on_record : (count_rounds sheet f).refusal ≡ 0 → (k : ℕ) → k < count_field f
      → verdict_on sheet f k
      ≡ judge_loaded (instance_of sheet) (round_at (challenge_width f) (header_of sheet) f (record_start (challenge_width f) (header_of sheet) k))
  unfolding verdict_on
  verdict_on_record e k h =
      let (sheet_loads, file) = (count_runs sheet f).0 e in
      let round = fetch_given sheet f k ((check_runs sheet f k).1 (sheet_loads, file, h)) in
      rw round (judge_loaded_law sheet ((loads sheet).1 sheet_loads) _)

  -- no round fails exactly where all are accepted
  pub all_accepted : (count : ℕ) → (any count (λ k. not (is_accepted (verdict_on sheet f k))) ≡ false)
      ↔ ((k : ℕ) → k < count → verdict_on sheet f k ≡ Accepted)
  all_accepted count =
      all_pass count (λ k. is_accepted (verdict_on sheet f k)) (λ k. verdict_on sheet f k ≡ Accepted)
      (λ k. says_accepted (verdict_on sheet f k))

  -- ---- the last line

  -- a file does not fail exactly where every round is accepted and K to the count of rounds is at least 2^w
  pub passes_at : (w count : ℕ) → (fails_at sheet f w count ≡ false)
      ↔ (((k : ℕ) → k < count → verdict_on sheet f k ≡ Accepted) × (2 ^ w ≤ (header_of sheet).challenges ^ count))
  unfolding fails_at strong_enough
  passes_at w count =
      let power = (header_of sheet).challenges ^ count in
      let both = both_fail (any count (λ k. not (is_accepted (verdict_on sheet f k)))) (not (leb (2 ^ w) power)) in
      let accepted = all_accepted count in
      let enough = says_passes (says_at_most (2 ^ w) power) in (
        λ e. let (a, b) = both.0 e in (accepted.0 a, enough.0 b),
        λ (a, b). both.1 (accepted.1 a, enough.1 b),
      )

  -- the last line says whether it fails
  pub result_line_law : (w count : ℕ) (failed : Bool) → fails_at sheet f w count ≡ failed
      → round_lines sheet f w count
      ≡ word_line (ascii "rounds") count ++ flatten (tabulate count (round_line sheet f)) ++ result_line failed
  unfolding round_lines
  result_line_law w count failed e =
      let lines = word_line (ascii "rounds") count ++ flatten (tabulate count (round_line sheet f)) in
      ap (λ (b : Bool). lines ++ result_line b) e

  -- a file of no rounds fails at every level
  none_fail : (w : ℕ) → 1 ≤ w → fails_at sheet f w 0 ≡ true
  unfolding fails_at any find
  none_fail w some = ap not (none_weak (header_of sheet).challenges w some)

  pub empty_fails : (level : List ℕ) → (count_rounds sheet f).refusal ≡ 0 → bad_level level ≡ false → count_field f ≡ 0
      → marker_text sheet f level ≡ ascii "rounds 0\nfail\n"
  unfolding tabulate items_at flatten word_line result_line ascii decimal newline digits
  empty_fails level e good z =
      let (size, some, few) = (level_passes level).0 good in
      round_lines_law level e good ∙ ap (round_lines sheet f (level_of level)) z
      ∙ result_line_law (level_of level) 0 true (none_fail (level_of level) some)

  -- ---- a round's refusals

  -- of a sheet that loads, a round is refused with 14, 15 or 16
  pub round_refusal : load_refusal sheet ≡ 0 → (k number : ℕ) → verdict_on sheet f k ≡ Refused number
      → Member number (14 ∷ 15 ∷ 16 ∷ [])
  unfolding verdict_on condition_numbers
  round_refusal e k number refused =
      let round = (fetch_round sheet f k).round in
      let inst = instance_of sheet in
      let n = number_of (judging inst round) in
      let (some, same) = (judge_refused inst round number).0 (sym (judge_loaded_law sheet e round) ∙ refused) in
      let member : Member n (14 ∷ 15 ∷ 16 ∷ []) =
      ⊎_elim (λ (z : n ≡ 0). absurd (omega arith)) (λ found. found)
      (given_among (judge_conditions inst round) n (number_given (judging inst round) (judge_conditions inst round) (judge_tests inst round))) in
      subst (λ (n : ℕ). Member n (14 ∷ 15 ∷ 16 ∷ [])) same member
