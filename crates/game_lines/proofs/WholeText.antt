-- The whole text of the game (02, card 12) by what loading the sheet, reading round 0 and testing the commitment and the size answer.
-- Assumes nothing.
use Prim.Native.Nat.{ℕ, ◌<◌, ◌≤◌}
use mathlib.Core.Path.{◌≡◌, sym, ap, ◌∙◌}
use mathlib.Core.Logic.{◌≢◌}
use mathlib.Core.Bool.{false}
use mathlib.Core.List.{List, [], ◌∷◌}
use native.Mathlib.Omega.{arith}
use Rattle.std.specs.Prelude.{Ok, Err}
use lib.ListN.{length}
use lib.Seq.{sets}
use Rattle.types.specs.declared.Fetched.{Fetched}
use Rattle.types.specs.declared.Round.{Round}
use Rattle.encoding.specs.Placed.{Fitted}
use Rattle.encoding.proofs.Fitted.{fitted_as, fitted_start}
use Rattle.encoding.specs.Text.{ascii}
use Rattle.rules.specs.Call.{answer}
use Rattle.rules.specs.Rule.{◌when◌, lowest}
use Rattle.rules.proofs.Lowest.{clear_lowest}
use Rattle.formats.specs.Load.{load_refusal}
use Rattle.formats.specs.RoundCalls.{check_round, checking, fetch_round, fetching}
use Rattle.formats.specs.Sheet.{header_of, instance_of}
use Rattle.formats.proofs.Files.{fetch_number}
use Rattle.formats.proofs.OnSheet.{on_sheet_refused}
use Rattle.runs.specs.Marker.{newline, word_line}
use Rattle.instance.proofs.SheetLoads.{loaded_header, on_fields}
use Rattle.refusals.specs.declared.Refusal.{Refusal}
use Rattle.refusals.specs.Number.{number}
use Rattle.refusals.proofs.Positive.{number_positive}
use Rattle.round_file.specs.Results.{fetched}
use Rattle.sigma.specs.Element.{some_non_element}
use Rattle.sigma.specs.Instance.{Instance}
use Rattle.sigma.specs.Round.{bad_commitment}
use Rattle.games.specs.Text.{answer_lines, bad_game, game_refusal, game_text, named_commitment, text_of}
use Rattle.games.proofs.Length.{text_short}
use Rattle.games.proofs.Number.{number_checked, number_own}
use Rattle.games.proofs.Playing.{refused_line_law}

-- the game's text in 720,896 bytes, as far as it has room, is what the contract asks for
pub text_stored : (s f : List ℕ) {l bytes m : List ℕ} {r : ℕ} → 720896 ≤ length l → game_text s f ≡ bytes → Fitted l 0 bytes m r
    → (r ≤ length m) × ((r ≡ length (game_text s f)) × (m ≡ sets l 0 (game_text s f)))
text_stored s f room same fitted = fitted_start (fitted_as fitted same) (omega (arith, text_short s f))

module _ (s f : List ℕ) where
  -- a number above 0 gives the one line `refused N`
  refused_text : (number : ℕ) → number ≢ 0 → game_refusal s f ≡ number → game_text s f ≡ word_line (ascii "refused") number
  unfolding word_line newline ascii
  refused_text number some e = refused_line_law s f number e (omega arith)

  -- the number of a refused sheet
  sheet_number : 0 < load_refusal s → game_refusal s f ≡ load_refusal s
  unfolding check_round checking
  sheet_number some =
      let same = on_sheet_refused s (checking (header_of s) f 0) some in
      number_checked s f (rw same some) ∙ same

  -- a refusal's line
  pub refusal_line : (refusal : Refusal) → number refusal ≡ game_refusal s f → {n : ℕ} → n ≡ number refusal
      → game_text s f ≡ word_line (ascii "refused") n
  refusal_line refusal is_number {n} told =
      refused_text n (λ e. omega (arith, e, told, number_positive refusal)) (sym (told ∙ is_number))

  -- if nothing is refused the text is that of the answers
  pub answers_text : 0 ≡ game_refusal s f → {inst : Instance} → inst ≡ instance_of s → {t : List ℕ} → t ≡ named_commitment s f
      → game_text s f ≡ answer_lines inst t
  unfolding game_text text_of
  answers_text none is_inst is_t =
      rw (is_inst, is_t) (ap (λ (number : ℕ). text_of number (instance_of s) (named_commitment s f)) (sym none))

  -- a refused sheet
  pub sheet_refused : (refusal : Refusal) → number refusal ≡ load_refusal s → number refusal ≡ game_refusal s f
  sheet_refused refusal is_number =
      is_number ∙ sym (sheet_number (omega (arith, is_number, number_positive refusal)))

  module _ (passed : 0 ≡ load_refusal s) {inst : Instance} (values : inst ≡ instance_of s) where
    -- reading answers the sheet's and the file's number, and round 0
    fetches : {told : Fetched} → told ≡ answer (fetching inst.header f 0) → told ≡ fetch_round s f 0
    unfolding fetch_round
    fetches is_fetched = on_fields s passed values (λ h. fetching h f 0) is_fetched

    -- the number is that of the check
    fetched_number : {told : Fetched} → told ≡ answer (fetching inst.header f 0) → told.refusal ≡ check_round s f 0
    fetched_number is_fetched = ap (λ (a : Fetched). a.refusal) (fetches is_fetched) ∙ fetch_number s f 0

    -- a refused file
    pub file_refused : (refusal : Refusal) → fetched (Err refusal) ≡ answer (fetching inst.header f 0)
        → number refusal ≡ game_refusal s f
    file_refused refusal is_fetched =
        let same : number refusal ≡ check_round s f 0 = fetched_number is_fetched in
        same ∙ sym (number_checked s f (omega (arith, same, number_positive refusal)))

    module _ {round : Round} (is_fetched : fetched (Ok round) ≡ answer (fetching inst.header f 0)) where
      -- the commitment is the file's
      pub commitment_named : round.commitment ≡ named_commitment s f
      unfolding named_commitment
      commitment_named = ap (λ (a : Fetched). a.round.commitment) (fetches is_fetched)

      -- the number of a refused commitment or size
      pub own_number : {n : ℕ}
          → n ≡ lowest ((14 when some_non_element inst.header inst.header.rows round.commitment) ∷ (31 when bad_game inst.header) ∷ [])
          → n ≡ game_refusal s f
      unfolding bad_commitment instance_of
      own_number is_number =
          let own = number_own s f (sym (fetched_number is_fetched)) in
          is_number ∙ sym (rw (loaded_header s passed values, commitment_named) own)

-- what the tests of a commitment and of the size pass: it has group elements, and the size is small
pub own_clear : (inst : Instance) (t : List ℕ)
    → 0 ≡ lowest ((14 when some_non_element inst.header inst.header.rows t) ∷ (31 when bad_game inst.header) ∷ [])
    → (bad_commitment inst t ≡ false) × (bad_game inst.header ≡ false)
unfolding bad_commitment
own_clear inst t none =
    let clear = clear_lowest ((14 when some_non_element inst.header inst.header.rows t) ∷ (31 when bad_game inst.header) ∷ []) tt (sym none) in
    (clear.0, clear.1.0)
