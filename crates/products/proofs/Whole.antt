-- The round of what both calls answer: it fits where all parts do, it is accepted where all parts are, and where exactly one is
-- rejected it is rejected with that one's rows.
-- Assumes nothing.
use Prim.Native.Nat.{ℕ, ◌^◌, ◌<◌}
use mathlib.Core.Path.{◌≡◌, refl, sym, ap, ap₂, ◌∙◌, subst}
use mathlib.Core.Logic.{◌↔◌, ◌≢◌}
use mathlib.Core.List.{List}
use native.Mathlib.Decide.{ℕ_discrete}
use native.Mathlib.Omega.{arith}
use lib.ListN.{get_or}
use Rattle.types.specs.declared.Computed.{Computed}
use Rattle.types.specs.declared.Round.{Round}
use Rattle.types.specs.declared.Verdict.TheVariants.{Rejected}
use Rattle.encoding.specs.Bytes.{AllBytes}
use Rattle.lists.specs.Places.{pad8}
use Rattle.lists.proofs.Places.{get_d_pad8}
use Rattle.formats.specs.Load.{load_refusal}
use Rattle.formats.specs.Sheet.{instance_of}
use Rattle.formats.proofs.Loads.{loads_valid}
use Rattle.runs.specs.Calls.{judge_round}
use Rattle.runs.specs.Ours.{Accepts}
use Rattle.runs.proofs.Protocol.{sheet_accepted, sheet_rejected}
use Rattle.runs.proofs.ReadAlone.{judge_round_same}
use Rattle.rules.proofs.Says.{says_equal}
use Rattle.sigma.specs.Answer.{rows_of}
use Rattle.sigma.specs.Meaning.{Coordinates, FailsExactly, Fits, Holds, RowHolds}
use Rattle.sigma.specs.Joined.{with_statement}
use Rattle.sigma.specs.Reads.{round_of}
use Rattle.sigma.specs.Valid.{Valid}
use Rattle.sigma.proofs.Calculus.{says_stable}
use Rattle.sigma.proofs.Fails.{fails_alike}
use Rattle.products.specs.Ours.{BothRun, whole_round}
use Rattle.products.specs.Players.{IsTeam, part_round, player_sheet}
use Rattle.products.specs.Team.{join_all, multiply_all, part}
use Rattle.products.proofs.Combined.{
  PartHolds,
  WholeHolds,
  all_hold,
  join_all_in,
  multiply_all_at,
  multiply_all_in,
  one_fails,
}
use Rattle.products.proofs.PlayerSheets.{player_accepted, player_rejected, row_restated}
use Rattle.products.proofs.TeamAnswers.{join_runs, multiply_runs}

module _ (sheet : List ℕ) (loaded : load_refusal sheet ≡ 0) (count : ℕ) (images : List (List ℕ)) (team : IsTeam sheet count images)
    (ts rs : List (List ℕ)) (c : ℕ) where
  -- the sheet's values are Valid
  valid : Valid (instance_of sheet)
  valid = loads_valid sheet loaded

  -- the whole round, in s rows and n slots
  abbrev pub whole : Round
  whole = round_of (multiply_all (instance_of sheet).header count ts) c (join_all (instance_of sheet).header count rs)

  -- a row of it holds for the images' product exactly where it holds for the statement
  whole_row : (i : ℕ) (inside : i < (instance_of sheet).header.rows) →
      WholeHolds valid images ts rs c i inside count ↔ RowHolds (instance_of sheet) whole i
  whole_row i inside =
      let inst = instance_of sheet in
      let same : get_or (multiply_all inst.header count images) i 0 ≡ get_or inst.statement i 0 =
      multiply_all_at inst.header images count i inside ∙ sym (team.whole i inside) in
      (row_restated inst _ inst.statement whole i same, row_restated inst inst.statement _ whole i (sym same))

  module _ (fits : (p : ℕ) → p < count → Fits (instance_of sheet) (part_round ts c rs p)) where
    -- neither call is refused
    pub both_run : BothRun sheet count images ts rs
    both_run = (
      ap (λ (answer : Computed). answer.refusal) (multiply_runs sheet count images loaded team ts (λ p b. (fits p b).commitment)),
      ap (λ (answer : Computed). answer.refusal) (join_runs sheet count images loaded team rs (λ p b. (fits p b).response)),
    )

    -- what they answer, in eight places
    pub whole_is : whole_round sheet count images ts c rs
        ≡ round_of (pad8 0 (multiply_all (instance_of sheet).header count ts)) c (pad8 0 (join_all (instance_of sheet).header count rs))
    whole_is =
        ap₂ (λ (t r : Computed). round_of t.values c r.values)
        (multiply_runs sheet count images loaded team ts (λ p b. (fits p b).commitment))
        (join_runs sheet count images loaded team rs (λ p b. (fits p b).response))

    -- it is judged as the round in s rows and n slots
    whole_judged : judge_round sheet (whole_round sheet count images ts c rs) ≡ judge_round sheet whole
    whole_judged =
        ap (judge_round sheet) whole_is
        ∙ judge_round_same sheet (record { commitment = λ j b. get_d_pad8 0 _ j; challenge = refl; response = λ j b. get_d_pad8 0 _ j })

    -- it fits
    whole_fits : Fits (instance_of sheet) whole
    whole_fits = record {
      commitment = multiply_all_in valid ts count (λ p b. (fits p b).commitment);
      challenge = (fits 0 (omega (arith, team.two))).challenge;
      response = join_all_in valid rs count (λ p b. (fits p b).response);
    }

    -- where all parts hold in every row, it is accepted
    whole_accepted :
        ((p : ℕ) → p < count → (i : ℕ) (inside : i < (instance_of sheet).header.rows) → PartHolds valid images ts rs c i inside p)
        → Accepts sheet (whole_round sheet count images ts c rs)
    whole_accepted holds =
        whole_judged
        ∙ (sheet_accepted sheet loaded whole).1 (
          whole_fits,
          λ i b. (whole_row i b).0 (all_hold valid images ts rs c i b count (λ p d. (fits p d).response) (λ p d. holds p d i b)),
        )

    -- where one part fails in some rows and all others hold, it is rejected with those rows
    whole_rejected : (p mask : ℕ) → p < count
        → FailsExactly (with_statement (instance_of sheet) (part images p)) (part_round ts c rs p) (rows_of mask)
        → mask < 2 ^ (instance_of sheet).header.rows
        → ((o : ℕ) → o < count → o ≢ p → Holds (with_statement (instance_of sheet) (part images o)) (part_round ts c rs o))
        → judge_round sheet (whole_round sheet count images ts c rs) ≡ Rejected mask
    whole_rejected p mask b all small others =
        let slots : (q : ℕ) → q < count → Coordinates (instance_of sheet) (part rs q) = λ q d. (fits q d).response in
        let each : (k : ℕ) (h : k < (instance_of sheet).header.rows) → PartHolds valid images ts rs c k h p
        → (q : ℕ) → q < count → PartHolds valid images ts rs c k h q =
        λ k h holds q d. elim (ℕ_discrete q p) [
          | yes e ↦ subst (PartHolds valid images ts rs c k h) (sym e) holds
          | no other ↦ others q d other k h
        ] in
        let row : (k : ℕ) (h : k < (instance_of sheet).header.rows)
        → RowHolds (with_statement (instance_of sheet) (part images p)) (part_round ts c rs p) k ↔ RowHolds (instance_of sheet) whole k =
        λ k h. (
          λ holds. (whole_row k h).0 (all_hold valid images ts rs c k h count slots (each k h holds)),
          λ holds. says_stable (says_equal _ _) (λ fails.
              one_fails valid images ts rs c k h count slots p b fails (λ o d other. others o d other k h) ((whole_row k h).1 holds)),
        ) in
        whole_judged
        ∙ (sheet_rejected sheet loaded whole mask).1 (
          whole_fits,
          (fails_alike (with_statement (instance_of sheet) (part images p)) (instance_of sheet) (part_round ts c rs p) whole refl row (rows_of mask) all, small),
        )

-- ---- the card's words

module _ (sheet : List ℕ) (bytes : AllBytes sheet) (loaded : load_refusal sheet ≡ 0) (count : ℕ) (images : List (List ℕ))
    (team : IsTeam sheet count images) (ts rs : List (List ℕ)) (c : ℕ) where
  -- a part that is accepted on the player's sheet
  part_accepted : (p : ℕ) → p < count → Accepts (player_sheet sheet images p) (part_round ts c rs p)
      → Fits (instance_of sheet) (part_round ts c rs p) × Holds (with_statement (instance_of sheet) (part images p)) (part_round ts c rs p)
  part_accepted p b = player_accepted sheet bytes loaded (part images p) (team.elements p b) (part_round ts c rs p)

  -- where all parts are accepted, so is the whole
  pub all_accepted : ((p : ℕ) → p < count → Accepts (player_sheet sheet images p) (part_round ts c rs p))
      → BothRun sheet count images ts rs × Accepts sheet (whole_round sheet count images ts c rs)
  all_accepted each =
      let fits : (p : ℕ) → p < count → Fits (instance_of sheet) (part_round ts c rs p) = λ p b. (part_accepted p b (each p b)).0 in (
        both_run sheet loaded count images team ts rs c fits,
        whole_accepted sheet loaded count images team ts rs c fits (λ p b. (part_accepted p b (each p b)).1),
      )

  -- where one is rejected and all others are accepted, the whole is rejected with that one's rows
  pub one_rejected : (p mask : ℕ) → p < count → judge_round (player_sheet sheet images p) (part_round ts c rs p) ≡ Rejected mask
      → ((o : ℕ) → o < count → o ≢ p → Accepts (player_sheet sheet images o) (part_round ts c rs o))
      → BothRun sheet count images ts rs × (judge_round sheet (whole_round sheet count images ts c rs) ≡ Rejected mask)
  one_rejected p mask b rejected others =
      let (fits, (rows, small)) = player_rejected sheet bytes loaded (part images p) (team.elements p b) (part_round ts c rs p) mask rejected in
      let all : (q : ℕ) → q < count → Fits (instance_of sheet) (part_round ts c rs q) = λ q d. elim (ℕ_discrete q p) [
        | yes e ↦ subst (λ (o : ℕ). Fits (instance_of sheet) (part_round ts c rs o)) (sym e) fits
        | no apart ↦ (part_accepted q d (others q d apart)).0
      ] in (
        both_run sheet loaded count images team ts rs c all,
        whole_rejected sheet loaded count images team ts rs c all p mask b rows small (λ o d apart. (part_accepted o d (others o d apart)).1),
      )
