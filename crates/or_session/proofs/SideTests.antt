-- The tests of Peggy's session (16 and 21) look at the places that are read, each by the sheet of its side.
-- Assumes nothing.
use Prim.Native.Nat.{ℕ, ◌<◌}
use mathlib.Core.Path.{◌≡◌, sym, ap, ◌∙◌}
use mathlib.Core.Bool.{false, not, or_assoc, or-true, true, ◌||◌}
use mathlib.Core.List.{List}
use lib.Dec.{eqb, ltb}
use borrow.Author.Tests.{lt-ltb}
use Rattle.types.specs.declared.Header.{Header}
use Rattle.lists.specs.Places.{pad8, places}
use Rattle.sigma.specs.Comparison.{differ}
use Rattle.sigma.specs.Element.{some_non_coordinate}
use Rattle.sigma.specs.Instance.{Instance}
use Rattle.sigma.specs.Round.{bad_challenge, bad_coordinates}
use Rattle.sigma.specs.Valid.{Valid}
use Rattle.sigma.proofs.Calculus.{both_fail}
use Rattle.sigma.proofs.Passed.{challenge_passes}
use Rattle.image.proofs.Tested.{coordinates_read}
use Rattle.disjunctions.specs.declared.OrProver.{OrProver}
use Rattle.disjunctions.specs.Prover.{other, own, unfit_or}
use Rattle.or_judge.specs.Values.{FewPlaces}
use Rattle.or_session.specs.Sides.{bad_slots, side_commitment}
use Rattle.or_session.proofs.OwnSide.{own_both, own_map}
use Rattle.or_session.proofs.SideValues.{first_commitment_law, second_commitment_law}

-- ---- slots

-- the side's fixed fields have a modulus and at most eight rows and columns
pub few_own : (side : ℕ) (first second : Header) {mine : Header} → mine ≡ own side first second → FewPlaces first × FewPlaces second → FewPlaces mine
few_own side first second is_mine few = rw is_mine (own_both side first second FewPlaces few.0 few.1)

-- 16 of what is read, by the fixed fields of the side's sheet
slots_own : (side : ℕ) (i j : Instance) (x : List ℕ) {mine : Header} → mine ≡ own side i.header j.header
    → bad_coordinates (own side i j) (places (own side i j).header.columns x) ≡ some_non_coordinate mine mine.columns x
slots_own side i j x is_mine =
    coordinates_read (own side i j) x
    ∙ ap (λ (h : Header). some_non_coordinate h h.columns x) (own_map side i j (λ (inst : Instance). inst.header) ∙ sym is_mine)

-- where the nonce's applies, that of both does
pub slots_first : (i j : Instance) (side : ℕ) (k r : List ℕ) {mine : Header} → mine ≡ own side i.header j.header
    → some_non_coordinate mine mine.columns k ≡ true → true ≡ bad_slots i j side k r
unfolding bad_slots
slots_first i j side k r is_mine e = rw (slots_own side i j k is_mine, e)

-- where it does not, the response's decides
pub slots_second : (i j : Instance) (side : ℕ) (k r : List ℕ) {mine yours : Header}
    → mine ≡ own side i.header j.header → some_non_coordinate mine mine.columns k ≡ false
    → yours ≡ own side j.header i.header → some_non_coordinate yours yours.columns r ≡ bad_slots i j side k r
unfolding bad_slots own other
slots_second i j side k r is_mine e is_yours = rw (slots_own side i j k is_mine, e) (sym (slots_own side j i r is_yours))

-- ---- what is held (21)

module _ {i j : Instance} (v : Valid i) (w : Valid j) (p : OrProver) where
  -- the tests of what is held, one after the other
  tests : unfit_or i j p
      ≡ (ltb 1 p.side || (bad_slots i j p.side p.nonce p.response || (bad_challenge i p.challenge ||
      (differ 8 (pad8 0 (side_commitment (eqb p.side 0) i p.nonce p.challenge p.response)) p.commitment0 ||
      differ 8 (pad8 0 (side_commitment (not (eqb p.side 0)) j p.nonce p.challenge p.response)) p.commitment1))))
  unfolding unfit_or bad_slots
  tests =
      rw (
        first_commitment_law v w p.side p.nonce p.challenge p.response,
        second_commitment_law v w p.side p.nonce p.challenge p.response,
      ) (simp or_assoc)

  -- a side that is neither 0 nor 1
  pub side_unfit : 1 < p.side → true ≡ unfit_or i j p
  side_unfit h = rw (tests, lt-ltb 1 p.side h)

  -- slots
  pub slots_unfit : bad_slots i j p.side p.nonce p.response ≡ true → true ≡ unfit_or i j p
  slots_unfit e = rw (tests, e) (simp or-true)

  -- the challenge
  pub challenge_unfit : bad_challenge i p.challenge ≡ true → true ≡ unfit_or i j p
  challenge_unfit e = rw (tests, e) (simp or-true)

  -- the first commitment
  pub first_unfit : {t : List ℕ} → t ≡ pad8 0 (side_commitment (eqb p.side 0) i p.nonce p.challenge p.response)
      → differ 8 t p.commitment0 ≡ true → true ≡ unfit_or i j p
  first_unfit is_made e = rw (tests, sym is_made, e) (simp or-true)

  -- behind them the second decides
  pub second_unfit : {t t' : List ℕ} → ltb 1 p.side ≡ false → bad_slots i j p.side p.nonce p.response ≡ false
      → bad_challenge i p.challenge ≡ false
      → t ≡ pad8 0 (side_commitment (eqb p.side 0) i p.nonce p.challenge p.response) → differ 8 t p.commitment0 ≡ false
      → t' ≡ pad8 0 (side_commitment (not (eqb p.side 0)) j p.nonce p.challenge p.response)
      → differ 8 t' p.commitment1 ≡ unfit_or i j p
  second_unfit side slots challenge is_made same is_made' =
      rw (tests, side, slots, challenge, sym is_made, same, sym is_made')

  -- what fits has a challenge below K
  pub fit_below : unfit_or i j p ≡ false → p.challenge < i.header.challenges
  fit_below fits =
      let late = ((both_fail (ltb 1 p.side) _).0 (sym tests ∙ fits)).1 in
      let later = ((both_fail (bad_slots i j p.side p.nonce p.response) _).0 late).1 in
      (challenge_passes i p.challenge).0 ((both_fail (bad_challenge i p.challenge) _).0 later).0
