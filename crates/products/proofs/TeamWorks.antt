-- The card: a combiner makes of a team's rounds the round of a single Peggy, for every sheet that loads, and its answers are fixed for
-- any bytes.
-- Assumes nothing.
use Prim.Native.Nat.{ℕ, suc}
use mathlib.Core.Path.{◌≡◌, sym, ap, ◌∙◌}
use mathlib.Core.List.{List}
use lib.ListN.{get_or}
use Rattle.encoding.specs.Bytes.{AllBytes}
use Rattle.formats.specs.Load.{load, load_refusal}
use Rattle.formats.specs.Ours.{file_calls}
use Rattle.formats.proofs.Loads.{loads_valid}
use Rattle.runs.specs.Ours.{run_calls}
use Rattle.sigma.specs.Element.{combine}
use Rattle.sigma.specs.Instance.{Instance}
use Rattle.sigma.specs.Joined.{join_slots}
use Rattle.sigma.specs.Reads.{Agree}
use Rattle.sigma.specs.Valid.{Valid}
use Rattle.sigma.proofs.Joined.{join_at}
use Rattle.products.specs.Ours.{team_calls}
use Rattle.products.specs.Players.{Joined}
use Rattle.products.specs.Team.{part}
use Rattle.products.specs.TeamWorks.{TeamOn, TeamWorks}
use Rattle.products.proofs.Combined.{slot_suc}
use Rattle.products.proofs.PlayerSheets.{player_loads, player_values}
use Rattle.products.proofs.Single.{single}
use Rattle.products.proofs.TeamAnswers.{joined_is, team_answers}
use Rattle.products.proofs.Whole.{all_accepted, one_rejected}

-- one player more is joined to the others by the domain's operation
one_more : {inst : Instance} → Valid inst → (count : ℕ) (parts : List (List ℕ)) (x y : List ℕ)
    → Joined inst count parts x → Joined inst (suc count) parts y
    → Agree inst.header.columns y (join_slots inst.header x (part parts count))
one_more {inst} v count parts x y others all j b =
    let h = inst.header in
    joined_is inst (suc count) parts v y all j b ∙ slot_suc h parts count j b
    ∙ ap (λ (a : ℕ). combine h a (get_or (part parts count) j 0)) (sym (joined_is inst count parts v x others j b))
    ∙ sym (join_at h x (part parts count) j b)

-- the team, on a sheet that loads
team_on : (sheet : List ℕ) → AllBytes sheet → load_refusal sheet ≡ 0 → TeamOn file_calls run_calls team_calls sheet
unfolding load
team_on sheet bytes loaded = record {
  one_more = one_more (loads_valid sheet loaded);
  player_sheet_law = λ z elements. (player_loads sheet bytes loaded z elements, player_values sheet bytes loaded z elements);
  single = λ count images xs ks ts rs x c k team held below joins nonces honest.
      single sheet bytes loaded count images xs ks team held c below x k joins nonces ts rs honest;
  all_accepted = λ count images ts rs c team. all_accepted sheet bytes loaded count images team ts rs c;
  one_rejected = λ count images ts rs c team. one_rejected sheet bytes loaded count images team ts rs c;
}

pub team_works : TeamWorks file_calls run_calls team_calls
unfolding load
team_works = record { answers = team_answers; team = team_on }
