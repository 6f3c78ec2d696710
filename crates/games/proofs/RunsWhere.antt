-- The text of the game in each case, in other words than the conditions: it holds of the definition.
-- Assumes nothing.
use Prim.Native.Nat.{ℕ, ◌^◌, ◌<◌}
use mathlib.Core.Path.{◌≡◌, refl, sym, ap, ap₂, ◌∙◌}
use mathlib.Core.Logic.{◌↔◌, inl, inr, ⊎_elim}
use mathlib.Core.Bool.{Bool, true, false}
use mathlib.Core.List.{List}
use native.Mathlib.Omega.{arith}
use Rattle.encoding.specs.Bytes.{number_at}
use Rattle.encoding.specs.Text.{ascii, decimal, digits}
use Rattle.lists.specs.Places.{pad8}
use Rattle.rules.specs.Rule.{lowest}
use Rattle.rules.proofs.Lowest.{lowest_clear, pass, stop}
use Rattle.rules.proofs.Says.{says_false}
use Rattle.formats.specs.Load.{load, load_refusal}
use Rattle.formats.specs.Ours.{file_calls}
use Rattle.formats.specs.RoundCalls.{check_round}
use Rattle.formats.specs.Sheet.{header_of, instance_of}
use Rattle.formats.proofs.Files.{check_runs}
use Rattle.formats.proofs.Loads.{loads, loads_valid}
use Rattle.runs.specs.Ours.{run_calls}
use Rattle.runs.specs.Verifier.{new_verifier}
use Rattle.runs.proofs.RunsWhere.{rounds_run}
use Rattle.sigma.specs.Meaning.{Elements}
use Rattle.sigma.specs.Round.{bad_commitment}
use Rattle.sigma.proofs.Calculus.{says_stable}
use Rattle.sigma.proofs.Tests.{says_bad_commitment, says_element}
use Rattle.sigma.proofs.Unread.{elements_agree}
use Rattle.games.specs.Ours.{game_calls}
use Rattle.games.specs.Prints.{commitment_words}
use Rattle.games.specs.Refusals.{Refusal31}
use Rattle.games.specs.RunsWhere.{GameRuns, SmallBytes, vics_refusal}
use Rattle.games.specs.Text.{bad_game, game_refusal, game_text, named_commitment, text_of}
use Rattle.games.proofs.Cut.{checked_line}
use Rattle.games.proofs.FirstByte.{shown_not_refused}
use Rattle.games.proofs.Number.{number_own, own_rules}
use Rattle.games.proofs.Playing.{refused_line_law, text_shown}
use Rattle.games.proofs.Tests.{says_bad_game}
use Rattle.games.proofs.Words.{named_words}
use Rattle.games.proofs.WordsAgree.{named_agree}

module _ (sheet : List ℕ) where
  -- the values of a small sheet that loads, by its bytes
  small_bytes : load_refusal sheet ≡ 0 → (¬ Refusal31 (header_of sheet)) ↔ SmallBytes sheet
  unfolding header_of instance_of
  small_bytes loaded =
      let valid = (loads_valid sheet loaded).table in (
        λ small.
            ⊎_elim
            (λ one.
            let few : ¬ (4096 < number_at 4 sheet 10 ^ number_at 1 sheet 19) = λ large. small (inl (one, large)) in
            inl (one, omega (arith, few)))
            (λ two.
            let few : ¬ (4096 < number_at 4 sheet 6) = λ large. small (inr (two, inl large)) in
            let row : ¬ (1 < number_at 1 sheet 18) = λ many. small (inr (two, inr many)) in
            inr (two, omega (arith, few), omega (arith, valid.some_row, row))) valid.kind,
        λ small large. both small large,
      )
    where
      both : SmallBytes sheet → ¬ Refusal31 (header_of sheet)
      both (inl (one, few)) (inl (one', large)) = omega arith
      both (inl (one, few)) (inr (two, large)) = omega arith
      both (inr (two, few, row)) (inl (one, large)) = omega arith
      both (inr (two, few, row)) (inr (two', inl large)) = omega arith
      both (inr (two, few, row)) (inr (two', inr many)) = omega arith

-- a test that is not false is true
fails : (b : Bool) → ¬ (b ≡ false) → b ≡ true
fails true other = refl
fails false other = absurd (other refl)

module _ (sheet f : List ℕ) (checked : check_round sheet f 0 ≡ 0) where
  -- a sheet whose round 0 is checked loads
  checked_loads : load_refusal sheet ≡ 0
  checked_loads = (loads sheet).1 ((check_runs sheet f 0).0 checked).0

  -- its size passes the test exactly if it is small by its bytes
  small_passes : (bad_game (header_of sheet) ≡ false) ↔ SmallBytes sheet
  small_passes =
      let test = says_false (says_bad_game (header_of sheet)) in
      let small = small_bytes sheet checked_loads in
      (λ e. small.0 (test.0 e), λ few. test.1 (small.1 few))

  -- its commitment passes the test exactly if it has group elements
  elements_pass : (bad_commitment (instance_of sheet) (named_commitment sheet f) ≡ false)
      ↔ Elements (instance_of sheet) (named_commitment sheet f)
  elements_pass =
      let test = says_false (says_bad_commitment (instance_of sheet) (named_commitment sheet f)) in (
        λ e i b. says_stable (says_element (instance_of sheet).header _) (λ bad. test.0 e (i, b, bad)),
        λ elements. test.1 (λ (i, b, bad). bad (elements i b)),
      )

  -- so exactly if a new session of Vic's takes its words
  taken_passes : (bad_commitment (instance_of sheet) (named_commitment sheet f) ≡ false) ↔ (vics_refusal run_calls sheet f ≡ 0)
  unfolding load new_verifier instance_of
  taken_passes =
      let inst = instance_of sheet in
      let t = named_commitment sheet f in
      let words = commitment_words sheet f in
      let takes = rounds_run.takes_commitment sheet new_verifier words in
      let agree = named_agree sheet f checked in (
        λ e. takes.1 (checked_loads, refl, elements_agree inst t words agree (elements_pass.0 e)),
        λ taken. elements_pass.1 (elements_agree inst words t (λ i b. sym (agree i b)) (takes.0 taken).2),
      )

  -- 14: the commitment is not taken
  number_commitment : 0 < vics_refusal run_calls sheet f → game_refusal sheet f ≡ 14
  number_commitment some =
      number_own sheet f checked ∙ stop 14 _ (fails _ (λ passes. let none = taken_passes.0 passes in omega (arith, none, some)))

  -- 31: it is, and the sheet is not small
  number_size : vics_refusal run_calls sheet f ≡ 0 → ¬ SmallBytes sheet → game_refusal sheet f ≡ 31
  number_size taken large =
      number_own sheet f checked ∙ pass 14 _ (taken_passes.1 taken) ∙ stop 31 _ (fails _ (λ passes. large (small_passes.0 passes)))

  -- none: it is, and the sheet is
  number_plays : vics_refusal run_calls sheet f ≡ 0 → SmallBytes sheet → game_refusal sheet f ≡ 0
  number_plays taken small =
      number_own sheet f checked ∙ lowest_clear (own_rules sheet f) (taken_passes.1 taken, (small_passes.1 small, tt))

-- files that are checked and have the same words give the same text
alone : (sheet f f' : List ℕ) → check_round sheet f 0 ≡ 0 → check_round sheet f' 0 ≡ 0 → commitment_words sheet f ≡ commitment_words sheet f'
    → game_text sheet f ≡ game_text sheet f'
unfolding game_text
alone sheet f f' checked checked' words =
    let same : named_commitment sheet f ≡ named_commitment sheet f' =
    named_words sheet f checked ∙ ap (pad8 0) words ∙ sym (named_words sheet f' checked') in
    let rules : own_rules sheet f ≡ own_rules sheet f' = rw same refl in
    let number : game_refusal sheet f ≡ game_refusal sheet f' =
    number_own sheet f checked ∙ ap lowest rules ∙ sym (number_own sheet f' checked') in
    ap₂ (λ (n : ℕ) (t : List ℕ). text_of n (instance_of sheet) t) number same

pub game_runs : GameRuns file_calls run_calls game_calls
unfolding ascii decimal digits
game_runs = record {
  unchecked = checked_line;
  bad_commitment_law = λ sheet f checked some. refused_line_law sheet f 14 (number_commitment sheet f checked some) (omega arith);
  too_large = λ sheet f checked taken large. refused_line_law sheet f 31 (number_size sheet f checked taken large) (omega arith);
  plays = λ sheet f checked taken small n same.
      shown_not_refused _ _ n (sym (text_shown sheet f (number_plays sheet f checked taken small)) ∙ same);
  commitment_alone = alone;
}
