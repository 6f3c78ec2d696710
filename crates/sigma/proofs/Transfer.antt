-- A round on values is accepted exactly where Maurer's verifier accepts it, and what holds of all rounds of Maurer's over the
-- table's homomorphism holds of the rounds on values.
-- Assumes nothing.
use Prim.Native.Nat.{ℕ, ◌<◌}
use mathlib.Core.Path.{◌≡◌, sym, ap, ◌∙◌, subst}
use mathlib.Core.Logic.{◌↔◌}
use mathlib.Core.List.{List}
use lib.ListN.{get_or}
use Rattle.types.specs.declared.Round.{Round}
use Rattle.lists.specs.Places.{places}
use Rattle.lists.proofs.Each.{each_places, each_at}
use Rattle.lists.proofs.Places.{get_d_places}
use Rattle.groups.specs.Transcript.{Transcript, Accepting, EnumeratesAccepting}
use Rattle.groups.specs.Vector.{same_slots}
use Rattle.sigma.specs.Instance.{Instance, Table, table_of}
use Rattle.sigma.specs.Domain.{Domain, Codomain}
use Rattle.sigma.specs.Knowledge.{AcceptedRound, Choice, MeetsEachOnce}
use Rattle.sigma.specs.Meaning.{Fits}
use Rattle.sigma.specs.Reads.{round_of, SameRound}
use Rattle.sigma.specs.Valid.{Valid}
use Rattle.sigma.proofs.Calls.{valid_judge_accepted}
use Rattle.sigma.proofs.Homomorphism.{elements_from, coordinates_of, elements_of, homomorphism}
use Rattle.sigma.proofs.Maurer.{statement_vector, accepts_holds}
use Rattle.sigma.proofs.Unread.{same_round_sym, same_round_trans, same_round_of_read, judge_same}

-- a round of Maurer's over the table's groups
abbrev pub VectorRound : Table → Type 0
VectorRound table = Transcript (Domain table) (Codomain table)

-- a round of Maurer's, as a round on values
abbrev pub round_values : (table : Table) → VectorRound table → Round
round_values table round = round_of round.commitment.0 round.challenge round.response.0

module _ {inst : Instance} (v : Valid inst) where
  -- two rounds of Maurer's are equal where they are the same round on values
  pub same_vectors : (round round' : VectorRound (table_of inst))
      → SameRound inst.header (round_values (table_of inst) round) (round_values (table_of inst) round') → round ≡ round'
  same_vectors round round' same = λ i. record {
    commitment = same_slots (elements_of v.table) inst.header.rows round.commitment round'.commitment same.commitment i;
    challenge = same.challenge i;
    response = same_slots (coordinates_of v.table) inst.header.columns round.response round'.response same.response i;
  }

  -- of n coordinates and s group elements, the call that judges accepts exactly what Maurer's verifier accepts
  pub judge_accepts : (round : VectorRound (table_of inst)) → round.challenge < inst.header.challenges
      → AcceptedRound inst (round_values (table_of inst) round)
      ↔ Accepting (homomorphism v.table) (statement_vector v) round.commitment round.challenge round.response
  judge_accepts round below =
      let call = valid_judge_accepted inst (round_values (table_of inst) round) v in
      let rows = accepts_holds v round.challenge round.commitment round.response in
      let fits : Fits inst (round_values (table_of inst) round) = record {
        commitment = each_at _ _ round.commitment.0 round.commitment.1;
        challenge = below;
        response = each_at _ _ round.response.0 round.response.1;
      } in
      (λ e. rows.1 (call.0 e).1, λ a. call.1 (fits, rows.0 a))

  -- what is read of a round that fits, as a round of Maurer's
  abbrev pub round_from : (round : Round) → Fits inst round → VectorRound (table_of inst)
  round_from round fits = record {
    commitment = elements_from (table_of inst) round.commitment fits.commitment;
    challenge = round.challenge;
    response = (places inst.header.columns round.response, each_places _ _ round.response fits.response);
  }

  -- Maurer's verifier accepts what is read of a round that the call accepts
  pub from_accepted : (round : Round) (fits : Fits inst round) → AcceptedRound inst round
      → Accepting (homomorphism v.table) (statement_vector v) (round_from round fits).commitment round.challenge (round_from round fits).response
  from_accepted round fits accepted =
      (judge_accepts (round_from round fits) fits.challenge).0 (judge_same inst (same_round_of_read inst.header round) ∙ accepted)

  module _ (c : ℕ) (below : c < inst.header.challenges) (rounds : Domain (table_of inst) → VectorRound (table_of inst))
      (meets : EnumeratesAccepting (homomorphism v.table) (statement_vector v) c rounds) (make : List ℕ → Round)
      (same : (x : Domain (table_of inst)) → SameRound inst.header (make x.0) (round_values (table_of inst) (rounds x))) where
    -- where Maurer's rounds are exactly the accepted ones, each met once, so are the same rounds on values
    pub transfer : MeetsEachOnce inst.header (Choice inst) (AcceptedRound inst) c make
    transfer = record {
      challenged = λ x slots. (same (x, slots)).challenge ∙ meets.challenged (x, slots);
      accepted = λ x slots.
          let X : Domain (table_of inst) = (x, slots) in
          let below' : (rounds X).challenge < inst.header.challenges = rw (meets.challenged X) below in
          judge_same inst (same X) ∙ (judge_accepts (rounds X) below').1 (meets.accepted X);
      met = λ round e accepted.
          let fits = ((valid_judge_accepted inst round v).0 accepted).0 in
          let read = round_from round fits in
          let accepts = subst (λ (k : ℕ). Accepting (homomorphism v.table) (statement_vector v) read.commitment k read.response) e
          (from_accepted round fits accepted) in
          let (x, equal) = meets.met read.commitment read.response accepts in
          let agree : SameRound inst.header (round_values (table_of inst) (rounds x)) round = record {
            commitment = λ i h.
                ap (λ (w : VectorRound (table_of inst)). get_or w.commitment.0 i 0) equal
                ∙ get_d_places inst.header.rows round.commitment i h;
            challenge = ap (λ (w : VectorRound (table_of inst)). w.challenge) equal ∙ sym e;
            response = λ j h.
                ap (λ (w : VectorRound (table_of inst)). get_or w.response.0 j 0) equal
                ∙ get_d_places inst.header.columns round.response j h;
          } in
          (x.0, x.1, same_round_trans (same x) agree);
      once = λ x y slots slots' s.
          let X : Domain (table_of inst) = (x, slots) in
          let Y : Domain (table_of inst) = (y, slots') in
          let agree = same_round_trans (same_round_sym (same X)) (same_round_trans s (same Y)) in
          ap (λ (z : Domain (table_of inst)). z.0) (meets.once X Y (same_vectors (rounds X) (rounds Y) agree));
    }
