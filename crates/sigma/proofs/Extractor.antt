-- Demand 3 on values, the extractor: for every Valid instance and any two accepted rounds with equal commitments and
-- different challenges, the extractor gives by 01's formula a witness, the same one with the rounds swapped.
-- Assumes nothing.
use Prim.Native.Nat.{ℕ}
use mathlib.Core.Path.{◌≡◌, sym, ap, ◌∙◌, subst}
use mathlib.Core.List.{List}
use lib.IntN.{ℤ, pos, ◌-ℤ◌}
use lib.ListN.{get_or}
use Rattle.types.specs.declared.Header.{Header}
use Rattle.types.specs.declared.Round.{Round}
use Rattle.lists.specs.Places.{places, pad8}
use Rattle.lists.proofs.Places.{get_d_places, places_agree}
use Rattle.groups.specs.Transcript.{Accepting, Bezout}
use Rattle.groups.specs.Vector.{same_vector}
use Rattle.numbers.specs.Integer.{bezout_left, bezout_right}
use Rattle.numbers.proofs.Coprime.{bezout_challenges}
use Rattle.sigma.specs.Instance.{Instance, table_of}
use Rattle.sigma.specs.Extractor.{extracted, extract_loaded, formula}
use Rattle.sigma.specs.Domain.{Codomain}
use Rattle.sigma.specs.Knowledge.{AcceptedRound, AcceptedPair, Extraction}
use Rattle.sigma.specs.Meaning.{Extracts}
use Rattle.sigma.specs.Valid.{Valid}
use Rattle.sigma.proofs.FormulaValue.{formula_witness, formula_any, formula_swapped}
use Rattle.sigma.proofs.Calls.{valid_judge_accepted, valid_extract_runs, extract_given}
use Rattle.sigma.proofs.Formula.{formula_agree, formula_exponent, formula_root}
use Rattle.sigma.proofs.Homomorphism.{elements_of, homomorphism}
use Rattle.sigma.proofs.Maurer.{statement_vector}
use Rattle.sigma.proofs.Transfer.{round_from, from_accepted}

-- what the extractor gives for two rounds
abbrev given : Instance → Round → Round → List ℕ
given inst first second =
    extracted inst first.challenge (places inst.header.columns first.response) second.challenge
    (places inst.header.columns second.response)

-- the same two rounds, swapped
swap : {h : Header} {Accepts : Round → Type 0} {first second : Round}
    → AcceptedPair h Accepts first second → AcceptedPair h Accepts second first
swap p = record {
  first_accepted = p.second_accepted;
  second_accepted = p.first_accepted;
  commitments = λ i h. sym (p.commitments i h);
  challenges = λ e. p.challenges (sym e);
}

module _ {inst : Instance} (v : Valid inst) (first second : Round)
    (p : AcceptedPair inst.header (AcceptedRound inst) first second) where
  -- what 14 to 16 and 18 to 20 ask holds
  runs : Extracts inst first second
  runs =
      let (fits, holds) = (valid_judge_accepted inst first v).0 p.first_accepted in
      let (fits', holds') = (valid_judge_accepted inst second v).0 p.second_accepted in
      record {
        first_fits = fits;
        second_fits = fits';
        commitments = p.commitments;
        challenges = p.challenges;
        first_holds = holds;
        second_holds = holds';
      }

  -- the integers that the extractor takes fit
  chosen :
      Bezout inst.header.order first.challenge second.challenge
      (bezout_left inst.header.order (pos first.challenge -ℤ pos second.challenge))
      (bezout_right inst.header.order (pos first.challenge -ℤ pos second.challenge))
  chosen =
      bezout_challenges inst.header.challenges inst.header.order v.table.no_divisor v.table.order first.challenge second.challenge
      runs.first_fits.challenge runs.second_fits.challenge p.challenges

  -- the extractor runs
  gives : extract_loaded inst first second ≡ record { refusal = 0; values = pad8 0 (given inst first second) }
  gives = extract_given inst first second ((valid_extract_runs inst first second v).1 runs)

module _ {inst : Instance} (v : Valid inst) (first second : Round)
    (p : AcceptedPair inst.header (AcceptedRound inst) first second) where
  -- the extractor gives a witness, the same one with the rounds swapped, by 01's formula for all integers that fit
  pub extraction : Extraction inst (extract_loaded inst) first second
  unfolding extracted
  extraction =
      let n = inst.header.columns in
      let c = first.challenge in
      let c' = second.challenge in
      let one = round_from v first (runs v first second p).first_fits in
      let two = round_from v second (runs v first second p).second_fits in
      let same : two.commitment ≡ one.commitment = same_vector (elements_of v.table) inst.header.rows two.commitment one.commitment
      (places_agree inst.header.rows second.commitment first.commitment (λ i h. sym (p.commitments i h))) in
      let accepts = from_accepted v first (runs v first second p).first_fits p.first_accepted in
      let accepts' = subst (λ (t : Codomain (table_of inst)). Accepting (homomorphism v.table) (statement_vector v) t c' two.response) same
      (from_accepted v second (runs v first second p).second_fits p.second_accepted) in
      let delta : ℤ = pos c -ℤ pos c' in
      let fit = chosen v first second p in
      let fit' = chosen v second first (swap p) in
      let any : (a b : ℤ) → Bezout inst.header.order c c' a b
      → formula inst a b first.response second.response ≡ given inst first second = λ a b other.
      formula_agree inst a b first.response second.response (places n first.response) (places n second.response)
      (λ j h. sym (get_d_places n first.response j h)) (λ j h. sym (get_d_places n second.response j h))
      ∙ formula_any v one.commitment c c' one.response two.response accepts accepts' a b _ _ other fit in
      record {
        value = given inst first second;
        witness = formula_witness v one.commitment c c' one.response two.response accepts accepts' _ _ fit;
        answer = gives v first second p;
        swapped =
            gives v second first (swap p)
            ∙ ap (λ (x : List ℕ). record { refusal = 0; values = pad8 0 x })
            (sym (formula_swapped v one.commitment c c' one.response two.response accepts accepts' _ _ _ _ fit fit'))
            ∙ sym (gives v first second p);
        exponent = λ k a b other j h.
            ap (λ (x : List ℕ). get_or x j 0) (sym (any a b other)) ∙ formula_exponent inst a b first.response second.response j k h;
        root = λ k a b other j h.
            ap (λ (x : List ℕ). get_or x j 0) (sym (any a b other)) ∙ formula_root inst a b first.response second.response j k h;
        some_integers = (bezout_left inst.header.order delta, bezout_right inst.header.order delta, fit);
      }
