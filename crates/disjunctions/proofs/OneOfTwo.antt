-- "I know one of the two" (02, card 4): judging, extracting and proving over every two sheets that load with one K.
-- Assumes nothing.
use Prim.Native.Nat.{ℕ, zero, suc, ◌<◌}
use mathlib.Core.Path.{◌≡◌, refl, sym}
use mathlib.Core.Logic.Iff
use mathlib.Core.Logic.{◌↔◌}
use mathlib.Core.List.{List, map}
use native.Mathlib.Omega.{arith}
use Rattle.disjunctions.specs.declared.OrRound.{OrRound}
use Rattle.lists.specs.Member.{Member}
use Rattle.lists.proofs.Member.{member_map}
use Rattle.formats.specs.Load.{load_refusal}
use Rattle.formats.specs.Ours.{file_calls}
use Rattle.formats.specs.Sheet.{instance_of}
use Rattle.runs.specs.OnSheet.{Below}
use Rattle.runs.specs.Ours.{honest_round, simulated_round}
use Rattle.runs.proofs.Demand3.{sheet_honest_list, sheet_simulated_list}
use Rattle.runs.specs.Ours.{run_calls}
use Rattle.sigma.specs.Knowledge.{Choice, Witness}
use Rattle.sigma.specs.Listed.{all_choices}
use Rattle.sigma.specs.Reads.{padded_round}
use Rattle.sigma.proofs.Lists.{all_choices_member}
use Rattle.disjunctions.specs.Corollaries.{all_or_choices, padded_or, OrCorollaries, PairCorollaries}
use Rattle.disjunctions.specs.Extractor.{extract_or, extracting_or}
use Rattle.disjunctions.specs.Judge.{judge_or, judging_or}
use Rattle.disjunctions.specs.Knowledge.{IsOrChoice, OrChoice}
use Rattle.disjunctions.specs.OneOfTwo.{OneOfTwo, OrProof, or_outcome, side_rows}
use Rattle.disjunctions.specs.Ours.{AcceptsOr, Pair, or_round, or_calls}
use Rattle.disjunctions.specs.Prover.{other, own}
use Rattle.disjunctions.specs.Round.{first_round, other_challenge, second_round}
use Rattle.disjunctions.proofs.Challenges.{other_less, other_sum}
use Rattle.disjunctions.proofs.Extracted.{extracts_first, extracts_second}
use Rattle.disjunctions.proofs.Judged.{or_accepted, or_rejected, some_challenge, or_decided}
use Rattle.disjunctions.proofs.Pairs.{first_loads, second_loads}
use Rattle.disjunctions.proofs.SideRows.{or_rejected_first, or_rejected_second}
use Rattle.disjunctions.proofs.OrLists.{
  made_list_members,
  made_list_once,
  or_choices_member,
  or_choices_once,
  padded_sides,
  read_or_padded,
}
use Rattle.disjunctions.proofs.OrSessions.{or_sessions}
use Rattle.disjunctions.proofs.Proved.{commit_runs, respond_runs}
use Rattle.disjunctions.proofs.Steps.{commits_first, commits_second, responds_first, responds_second}
use Rattle.disjunctions.proofs.Sides.{known_first, known_second, makes, simulated_first, simulated_second}

-- an honest round stands in eight places
honest_whole : (sheet : List ℕ) → load_refusal sheet ≡ 0 → (d : ℕ) → Below sheet d → (x : List ℕ) → Witness (instance_of sheet) x
    → (k : List ℕ) → Choice (instance_of sheet) k
    → padded_round (instance_of sheet).header (honest_round sheet x d k) ≡ honest_round sheet x d k
honest_whole sheet loads d h x w k slots =
    (((sheet_honest_list sheet loads d h x w).members _).0
    (member_map (honest_round sheet x d) k (all_choices (instance_of sheet)) ((all_choices_member (instance_of sheet) k).1 slots))).2

-- and so does a simulated one
simulated_whole : (sheet : List ℕ) → load_refusal sheet ≡ 0 → (d : ℕ) → Below sheet d → (r : List ℕ) → Choice (instance_of sheet) r
    → padded_round (instance_of sheet).header (simulated_round sheet d r) ≡ simulated_round sheet d r
simulated_whole sheet loads d h r slots =
    (((sheet_simulated_list sheet loads d h).members _).0
    (member_map (simulated_round sheet d) r (all_choices (instance_of sheet)) ((all_choices_member (instance_of sheet) r).1 slots))).2

module _ (s s' : List ℕ) (pair : Pair s s') (c : ℕ) (below : Below s c) where
  abbrev K : ℕ
  K = (instance_of s).header.challenges

  -- what is left of c is below K, by both sheets
  left_below : (d : ℕ) → Below s (other_challenge K c d)
  left_below d = other_less K c d (some_challenge s s' pair)

  both_below : (d : ℕ) → Below s d → Below s' d
  both_below d h = rw (sym pair.one_count) h

  -- so do the rounds that are made with a witness of either side
  made_whole : (side : ℕ) → side < 2 → (x : List ℕ) → Witness (instance_of (own side s s')) x
      → (choice : OrChoice) → IsOrChoice s s' side choice → padded_or s s' (or_round s s' side x c choice) ≡ or_round s s' side x c choice
  unfolding own other
  made_whole zero one x w choice is =
      padded_sides s s' (or_round s s' 0 x c choice) K
      (rw (known_first s s' pair c below x w choice is)
      (honest_whole s (first_loads pair) _ (left_below choice.challenge) x w choice.nonce is.nonce))
      (rw (simulated_second s s' pair c below x w choice is)
      (simulated_whole s' (second_loads pair) _ (both_below _ (left_below _)) choice.response is.response))
  made_whole (suc zero) one x w choice is =
      padded_sides s s' (or_round s s' 1 x c choice) K
      (rw (simulated_first s s' pair c below x w choice is)
      (simulated_whole s (first_loads pair) _ is.challenge choice.response is.response))
      (rw (known_second s s' pair c below x w choice is)
      (honest_whole s' (second_loads pair) _ (both_below _ (left_below choice.challenge)) x w choice.nonce is.nonce))
  made_whole (suc (suc n)) one x w choice is = absurd (omega arith)

module _ (s s' : List ℕ) (pair : Pair s s') (c : ℕ) (below : Below s c) where
  -- the rounds that are listed with a witness of side 0, and with one of side 1
  makes_first : (x : List ℕ) → Witness (instance_of s) x → (round : OrRound)
      → Member round (map (or_round s s' 0 x c) (all_or_choices s s' 0))
      ↔ (AcceptsOr s s' round × (round.challenge ≡ c) × (padded_or s s' round ≡ round))
  unfolding own
  makes_first x w =
      made_list_members s s' 0 c _ (makes s s' pair c below 0 (omega arith) x w) (made_whole s s' pair c below 0 (omega arith) x w)

  makes_second : (x : List ℕ) → Witness (instance_of s') x → (round : OrRound)
      → Member round (map (or_round s s' 1 x c) (all_or_choices s s' 1))
      ↔ (AcceptsOr s s' round × (round.challenge ≡ c) × (padded_or s s' round ≡ round))
  unfolding own
  makes_second x w =
      made_list_members s s' 1 c _ (makes s s' pair c below 1 (omega arith) x w) (made_whole s s' pair c below 1 (omega arith) x w)

-- the proof, of two sheets that load with one K
pub one_of_two : (s s' : List ℕ) → Pair s s' → OneOfTwo run_calls or_calls s s'
unfolding first_round second_round or_round
one_of_two s s' pair = record {
  challenges = λ c d below taken. (other_less _ c d (some_challenge s s' pair), other_sum _ c d below taken);
  sides = λ round. (refl, refl);
  accepted = or_accepted s s' pair;
  decided = or_decided s s' pair;
  rejected = or_rejected s s' pair;
  rejected_first = or_rejected_first s s' pair;
  rejected_second = or_rejected_second s s' pair;
  extracts_first = extracts_first s s' pair;
  extracts_second = extracts_second s s' pair;
  commits_first = commits_first s s' pair;
  commits_second = commits_second s s' pair;
  responds_first = responds_first s s' pair;
  responds_second = responds_second s s' pair;
  prover_runs = λ side c one below x w choice is.
      (commit_runs s s' pair side one choice is, respond_runs s s' pair side one choice is c below x w);
  prover = λ side c one below x w. makes s s' pair c below side one x w;
}

-- what follows, of two sheets that load with one K
pair_corollaries : (s s' : List ℕ) → Pair s s' → PairCorollaries or_calls s s'
unfolding judge_or judging_or extract_or extracting_or or_round
pair_corollaries s s' pair = record {
  choices = λ side one. (or_choices_member s s' side, or_choices_once s s' side);
  prover_list = λ side c one below x w.
      let meets = makes s s' pair c below side one x w in
      let whole = made_whole s s' pair c below side one x w in
      (made_list_once s s' side c _ meets whole, made_list_members s s' side c _ meets whole);
  same_rounds = λ c below x y w w' round.
      let first = makes_first s s' pair c below x w round in
      let second = makes_second s s' pair c below y w' round in
      Iff.trans first (Iff.symm second);
  judged_read = λ round. rw (read_or_padded s s' round);
  extracted_read = λ a b. rw (read_or_padded s s' a, read_or_padded s s' b);
}

-- the card, but for its refusals
pub or_proof : OrProof file_calls run_calls or_calls
unfolding or_outcome side_rows
or_proof = record {
  outcomes = record { accepted = refl; rejected = λ mask0 mask1. refl; refused = λ number. refl };
  sessions = or_sessions;
  proof = one_of_two;
}

pub or_corollaries : OrCorollaries file_calls or_calls
or_corollaries = record { pairs = pair_corollaries }
