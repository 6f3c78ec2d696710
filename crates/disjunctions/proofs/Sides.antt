-- The sides of Peggy's rounds: an honest round of the side that she knows, and a simulated round of the other. So over all choices
-- her rounds are exactly the accepted ones.
-- Assumes nothing.
use Prim.Native.Nat.{ℕ, zero, suc, ◌<◌}
use mathlib.Core.Path.{◌≡◌, refl, sym, ap, subst, ◌∙◌}
use mathlib.Core.List.{List}
use native.Mathlib.Omega.{arith}
use Rattle.types.specs.declared.Round.{Round}
use Rattle.disjunctions.specs.declared.OrRound.{OrRound}
use Rattle.lists.specs.Places.{pad8}
use Rattle.formats.specs.Sheet.{instance_of}
use Rattle.runs.specs.OnSheet.{Below}
use Rattle.runs.specs.Ours.{honest_round, simulated_round}
use Rattle.runs.proofs.Demand3.{honest_is, sheet_honest_rounds, sheet_simulated_rounds, simulated_is}
use Rattle.sigma.specs.Instance.{Instance}
use Rattle.sigma.specs.Knowledge.{Choice, Witness}
use Rattle.sigma.specs.Reads.{round_of}
use Rattle.sigma.specs.Simulator.{simulated}
use Rattle.disjunctions.specs.Knowledge.{IsOrChoice, OrChoice}
use Rattle.disjunctions.specs.Ours.{MakesEachOnce, Pair, or_round}
use Rattle.disjunctions.specs.Prover.{first_commitment, other, own, second_commitment}
use Rattle.disjunctions.specs.Round.{first_round, other_challenge, second_round}
use Rattle.disjunctions.proofs.Challenges.{other_less, other_other, other_same}
use Rattle.disjunctions.proofs.Judged.{some_challenge}
use Rattle.disjunctions.proofs.Made.{makes_each_once}
use Rattle.disjunctions.proofs.Pairs.{first_loads, second_loads}
use Rattle.disjunctions.proofs.Proved.{round_given}

module _ (s s' : List ℕ) (pair : Pair s s') (c : ℕ) (below : Below s c) where
  abbrev i : Instance
  i = instance_of s

  abbrev j : Instance
  j = instance_of s'

  abbrev K : ℕ
  K = (instance_of s).header.challenges

  -- what is below K is so by both sheets
  both_below : (d : ℕ) → Below s d → Below s' d
  both_below d h = rw (sym pair.one_count) h

  -- what is left is below K
  left_below : (d : ℕ) → Below s (other_challenge K c d)
  left_below d = other_less K c d (some_challenge s s' pair)

  -- ---- side 0

  module _ (x : List ℕ) (witness : Witness (instance_of s) x) (choice : OrChoice) (is : IsOrChoice s s' 0 choice) where
    -- side 0 is an honest round for the challenge that is left
    pub known_first : first_round (or_round s s' 0 x c choice) ≡ honest_round s x (other_challenge K c choice.challenge) choice.nonce
    unfolding first_round first_commitment own
    known_first =
        ap first_round (round_given s s' pair 0 (omega arith) choice is c below x witness _ _ refl refl)
        ∙ sym (honest_is s (first_loads pair) _ (left_below choice.challenge) x witness choice.nonce is.nonce)

    -- side 1 is the simulated round
    pub simulated_second : second_round K (or_round s s' 0 x c choice)
        ≡ simulated_round s' (other_challenge K c (other_challenge K c choice.challenge)) choice.response
    unfolding second_round second_commitment own other
    simulated_second =
        let back = other_other K c choice.challenge below is.challenge in
        let made = simulated_is s' (second_loads pair) choice.challenge (both_below _ is.challenge) choice.response is.response in
        ap (second_round K) (round_given s s' pair 0 (omega arith) choice is c below x witness _ _ refl refl)
        ∙ rw back (sym made)

  -- ---- side 1

  module _ (x : List ℕ) (witness : Witness (instance_of s') x) (choice : OrChoice) (is : IsOrChoice s s' 1 choice) where
    -- side 0 is the simulated round
    pub simulated_first : first_round (or_round s s' 1 x c choice) ≡ simulated_round s choice.challenge choice.response
    unfolding first_round first_commitment own other
    simulated_first =
        ap first_round (round_given s s' pair 1 (omega arith) choice is c below x witness _ _ refl refl)
        ∙ sym (simulated_is s (first_loads pair) choice.challenge is.challenge choice.response is.response)

    -- side 1 is an honest round for the challenge that is left
    pub known_second : second_round K (or_round s s' 1 x c choice)
        ≡ honest_round s' x (other_challenge K c choice.challenge) choice.nonce
    unfolding second_round second_commitment own
    known_second =
        ap (second_round K) (round_given s s' pair 1 (omega arith) choice is c below x witness _ _ refl refl)
        ∙ sym (honest_is s' (second_loads pair) _ (both_below _ (left_below choice.challenge)) x witness choice.nonce is.nonce)

  -- ---- over all choices

  -- with a witness of side 0: the nonce is chosen for side 0, and side 1 has the simulated challenge
  first_makes : (x : List ℕ) → Witness (instance_of s) x → MakesEachOnce s s' 0 c (or_round s s' 0 x c)
  unfolding own other or_round
  first_makes x witness =
      makes_each_once s s' pair 0 c below (λ d. honest_round s x d) (λ d. simulated_round s' d)
      (λ d h. sheet_honest_rounds s (first_loads pair) d h x witness)
      (λ d h. sheet_simulated_rounds s' (second_loads pair) d (both_below d h))
      (λ choice. choice.nonce) (λ choice. choice.response) (λ choice. other_challenge K c choice.challenge)
      (λ u d v. record { nonce = u; challenge = other_challenge K c d; response = v })
      (λ choice is. (is.nonce, left_below choice.challenge, is.response))
      (λ u d v p h q. (
        record { nonce = p; challenge = left_below d; response = q },
        refl,
        other_other K c d below h,
        refl,
      ))
      (λ a b is is' k d r. λ t. record {
        nonce = k t;
        challenge = other_same K c a.challenge b.challenge below is.challenge is'.challenge d t;
        response = r t;
      })
      (or_round s s' 0 x c) (λ choice is. refl) (known_first x witness) (simulated_second x witness)

  -- with a witness of side 1: side 0 has the simulated challenge and response
  second_makes : (x : List ℕ) → Witness (instance_of s') x → MakesEachOnce s s' 1 c (or_round s s' 1 x c)
  unfolding own other or_round
  second_makes x witness =
      makes_each_once s s' pair 1 c below (λ d. simulated_round s d) (λ d. honest_round s' x d)
      (λ d h. sheet_simulated_rounds s (first_loads pair) d h)
      (λ d h. sheet_honest_rounds s' (second_loads pair) d (both_below d h) x witness)
      (λ choice. choice.response) (λ choice. choice.nonce) (λ choice. choice.challenge)
      (λ u d v. record { nonce = v; challenge = d; response = u })
      (λ choice is. (is.response, is.challenge, is.nonce))
      (λ u d v p h q. (record { nonce = q; challenge = h; response = p }, refl, refl, refl))
      (λ a b is is' r d k. λ t. record { nonce = k t; challenge = d t; response = r t })
      (or_round s s' 1 x c) (λ choice is. refl) (simulated_first x witness) (known_second x witness)

  -- with a witness of either
  pub makes : (side : ℕ) → side < 2 → (x : List ℕ) → Witness (instance_of (own side s s')) x → MakesEachOnce s s' side c (or_round s s' side x c)
  unfolding own
  makes zero one x witness = first_makes x witness
  makes (suc zero) one x witness = second_makes x witness
  makes (suc (suc n)) one x witness = absurd (omega arith)
