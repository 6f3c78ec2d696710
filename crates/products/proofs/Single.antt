-- Honest players: what both calls answer to their rounds is the round that a single Peggy sends for the joined nonce and the joined
-- witness, which is a witness.
-- Assumes nothing.
use Prim.Native.Nat.{ℕ, ◌%◌, ◌<◌}
use mathlib.Core.Path.{◌≡◌, refl, sym, ap, ap₂, ◌∙◌, subst}
use mathlib.Core.List.{List}
use lib.ListN.{get_or}
use Rattle.types.specs.declared.Round.{Round}
use Rattle.encoding.specs.Bytes.{AllBytes}
use Rattle.lists.specs.Places.{pad8, places}
use Rattle.lists.proofs.Each.{each_at, each_from}
use Rattle.lists.proofs.Places.{
  get_d_pad8,
  get_d_places,
  length_places,
  places_agree,
  places_pad8,
  places_whole,
  tabulate_agree,
}
use Rattle.numbers.proofs.Product.{product_agree}
use Rattle.formats.specs.Load.{load_refusal}
use Rattle.formats.specs.Sheet.{instance_of}
use Rattle.formats.proofs.Loads.{loads_valid}
use Rattle.runs.specs.OnSheet.{Below, read_slots, read_values}
use Rattle.runs.specs.Ours.{honest_round}
use Rattle.runs.proofs.JointRun.{JointSteps, commitment_of, joint_steps_law, joint_steps, read_of, response_of, sheet_joint_run}
use Rattle.runs.proofs.Witness.{image_carried, witness_slots}
use Rattle.sigma.specs.Image.{image, row_image}
use Rattle.sigma.specs.Instance.{Instance, statement_at, table_of}
use Rattle.sigma.specs.Joined.{with_statement}
use Rattle.sigma.specs.Knowledge.{Choice, Witness, honest_on}
use Rattle.sigma.specs.Meaning.{Coordinates, Fits}
use Rattle.sigma.specs.Reads.{SameRound, round_of}
use Rattle.sigma.specs.Round.{response, response_coordinate}
use Rattle.sigma.specs.Valid.{Valid}
use Rattle.sigma.proofs.Calls.{valid_judge_accepted}
use Rattle.sigma.proofs.Prover.{honest_accepted}
use Rattle.sigma.proofs.Unread.{fits_same, row_image_agree, same_round_sym}
use Rattle.sigma.proofs.Valid.{valid_modulus}
use Rattle.sigma.proofs.Values.{image_at, response_at}
use Rattle.products.specs.Ours.{BothRun, Honest, Sends, whole_round}
use Rattle.products.specs.Players.{Hold, IsTeam, Joined, part_round, player_sheet}
use Rattle.products.specs.Team.{join_all, multiply_all, part}
use Rattle.products.proofs.Combined.{join_all_in, length_join_all, response_all, row_all}
use Rattle.products.proofs.PlayerSheets.{fits_own, player_loads, player_values, restated_valid}
use Rattle.products.proofs.TeamAnswers.{joined_is}
use Rattle.products.proofs.Whole.{both_run, whole_is}

-- the honest round on a sheet that loads, by its values
honest_round_law : (sheet : List ℕ) → load_refusal sheet ≡ 0 → (inst : Instance) → instance_of sheet ≡ inst → (x k : List ℕ) (c : ℕ)
    → Witness inst (read_of inst x) → Choice inst (read_of inst k) → c < inst.header.challenges
    → honest_round sheet x c k ≡ round_of (pad8 0 (commitment_of inst k)) c (pad8 0 (response_of inst x c k))
unfolding honest_round joint_steps
honest_round_law sheet loaded inst e x k c =
    subst
    (λ (i : Instance). Witness i (read_of i x) → Choice i (read_of i k) → c < i.header.challenges
    → honest_round sheet x c k ≡ round_of (pad8 0 (commitment_of i k)) c (pad8 0 (response_of i x c k))) e
    (λ witness nonce below.
    ap (λ (steps : JointSteps). round_of steps.committed.values c steps.answered.values)
    (joint_steps_law sheet loaded x k c witness nonce below))

module _ (sheet : List ℕ) (bytes : AllBytes sheet) (loaded : load_refusal sheet ≡ 0) (count : ℕ) (images xs ks : List (List ℕ))
    (team : IsTeam sheet count images) (held : Hold sheet count images xs ks) (c : ℕ) (below : Below sheet c) where
  -- the sheet's values are Valid
  valid : Valid (instance_of sheet)
  valid = loads_valid sheet loaded

  module _ (p : ℕ) (b : p < count) where
    -- the values of a player's sheet
    values : instance_of (player_sheet sheet images p) ≡ with_statement (instance_of sheet) (pad8 0 (read_values sheet (part images p)))
    values = player_values sheet bytes loaded (part images p) (team.elements p b)

    -- the player's part is a witness of the image in eight places
    stored_witness : Witness (with_statement (instance_of sheet) (pad8 0 (read_values sheet (part images p)))) (read_slots sheet (part xs p))
    stored_witness = rw values at (held.witnesses p b)

    -- and of the image
    part_witness : Witness (with_statement (instance_of sheet) (part images p)) (read_slots sheet (part xs p))
    part_witness =
        let s = (instance_of sheet).header.rows in
        record {
          slots = stored_witness.slots;
          carried =
              stored_witness.carried ∙ places_pad8 s (read_values sheet (part images p)) ∙ places_whole s _ (length_places s (part images p));
        }

    -- the player's honest round, in eight places
    player_round : honest_round (player_sheet sheet images p) (part xs p) c (part ks p)
        ≡ round_of (pad8 0 (commitment_of (instance_of sheet) (part ks p))) c
        (pad8 0 (response_of (instance_of sheet) (part xs p) c (part ks p)))
    player_round =
        honest_round_law (player_sheet sheet images p) (player_loads sheet bytes loaded (part images p) (team.elements p b)) _ values
        (part xs p) (part ks p) c stored_witness (held.nonces p b) below

    -- it fits the sheet
    honest_fits : Fits (instance_of sheet)
        (round_of (commitment_of (instance_of sheet) (part ks p)) c (response_of (instance_of sheet) (part xs p) c (part ks p)))
    unfolding honest_on
    honest_fits =
        let inst = with_statement (instance_of sheet) (part images p) in
        let v = restated_valid sheet bytes loaded (part images p) (team.elements p b) in
        fits_own (instance_of sheet) (part images p)
        ((valid_judge_accepted inst _ v).0 (honest_accepted v _ part_witness c below _ (held.nonces p b))).0

    -- each row of the image of the player's part is the image's value
    part_carried : (i : ℕ) → i < (instance_of sheet).header.rows
        → row_image (table_of (instance_of sheet)) (part xs p) i ≡ get_or (part images p) i 0
    unfolding statement_at
    part_carried i d =
        let n = (instance_of sheet).header.columns in
        sym (row_image_agree valid.table (places n (part xs p)) (part xs p) (get_d_places n (part xs p)) i d)
        ∙ (image_carried (with_statement (instance_of sheet) (part images p)) (read_slots sheet (part xs p))).0 part_witness.carried i d

    -- the player's part is n slots
    part_slots : Coordinates (instance_of sheet) (part xs p)
    part_slots j d =
        let n = (instance_of sheet).header.columns in
        rw (sym (get_d_places n (part xs p) j d)) (each_at _ n _ part_witness.slots j d)

  -- the joined witness, in n slots, is a witness
  joined_witness : Witness (instance_of sheet) (join_all (instance_of sheet).header count xs)
  unfolding statement_at
  joined_witness =
      let inst = instance_of sheet in
      let m = inst.header.modulus in
      (witness_slots inst _ (length_join_all inst.header xs count)).0 (
        join_all_in valid xs count part_slots,
        λ i d.
            row_all valid.table xs i d count
            ∙ ap (λ (n : ℕ). n % m) (product_agree count _ _ (λ p b. part_carried p b i d))
            ∙ sym (team.whole i d),
      )

  module _ (x k : List ℕ) (joins : Joined (instance_of sheet) count xs x) (nonces : Joined (instance_of sheet) count ks k) where
    -- what is read of the joined witness and of the joined nonce
    read_joined : (parts : List (List ℕ)) (y : List ℕ) → Joined (instance_of sheet) count parts y
        → read_slots sheet y ≡ join_all (instance_of sheet).header count parts
    read_joined parts y joined =
        let h = (instance_of sheet).header in
        places_agree h.columns y _ (joined_is (instance_of sheet) count parts valid y joined)
        ∙ places_whole h.columns _ (length_join_all h parts count)

    -- the joined witness is a witness
    whole_witness : Witness (instance_of sheet) (read_slots sheet x)
    whole_witness = rw (read_joined xs x joins) joined_witness

    -- the joined nonce is n slots
    whole_nonce : Choice (instance_of sheet) (read_slots sheet k)
    whole_nonce =
        let inst = instance_of sheet in
        let n = inst.header.columns in
        rw (read_joined ks k nonces)
        (each_from _ n _ (length_join_all inst.header ks count)
        (join_all_in valid ks count (λ p b j d. rw (sym (get_d_places n (part ks p) j d)) (each_at _ n _ (held.nonces p b) j d))))

    module _ (ts rs : List (List ℕ)) (honest : Honest sheet count images xs c ks ts rs) where
      -- a player's round is the honest one, by the sheet's values
      part_same : (p : ℕ) → p < count
          → SameRound (instance_of sheet).header (part_round ts c rs p)
          (round_of (commitment_of (instance_of sheet) (part ks p)) c (response_of (instance_of sheet) (part xs p) c (part ks p)))
      unfolding honest_round
      part_same p b = record {
        commitment = λ i d.
            (honest p b).commitment i d ∙ ap (λ (round : Round). get_or round.commitment i 0) (player_round p b) ∙ get_d_pad8 0 _ i;
        challenge = refl;
        response = λ j d.
            (honest p b).response j d ∙ ap (λ (round : Round). get_or round.response j 0) (player_round p b) ∙ get_d_pad8 0 _ j;
      }

      -- it fits the sheet
      part_fits : (p : ℕ) → p < count → Fits (instance_of sheet) (part_round ts c rs p)
      part_fits p b = fits_same (instance_of sheet) (same_round_sym (part_same p b)) (honest_fits p b)

      -- the commitments multiplied are the image of the joined nonce
      commitments_are : multiply_all (instance_of sheet).header count ts
          ≡ image (table_of (instance_of sheet)) (join_all (instance_of sheet).header count ks)
      unfolding multiply_all image
      commitments_are =
          let inst = instance_of sheet in
          let n = inst.header.columns in
          tabulate_agree inst.header.rows _ _ (λ i d.
          ap (λ (a : ℕ). a % inst.header.modulus)
          (product_agree count _ _ (λ p b.
          (part_same p b).commitment i d ∙ image_at (table_of inst) _ i d
          ∙ row_image_agree valid.table (places n (part ks p)) (part ks p) (get_d_places n (part ks p)) i d))
          ∙ sym (row_all valid.table ks i d count))

      -- the responses joined are the response of the joined nonce and witness
      responses_are : join_all (instance_of sheet).header count rs
          ≡ response (instance_of sheet).header (join_all (instance_of sheet).header count ks) c
          (join_all (instance_of sheet).header count xs)
      responses_are =
          let h = (instance_of sheet).header in
          let n = h.columns in
          sym (response_all h (valid_modulus valid.table) ks xs rs c count (λ p b j d.
          (part_same p b).response j d ∙ response_at h _ c _ j d
          ∙ ap₂ (λ (a y : ℕ). response_coordinate h a c y) (get_d_places n (part ks p) j d) (get_d_places n (part xs p) j d)
          ∙ sym (response_at h (part ks p) c (part xs p) j d)))

      -- the whole round is the one that a single Peggy sends
      pub single : BothRun sheet count images ts rs × Sends sheet x c k (whole_round sheet count images ts c rs)
      unfolding honest_round
      single =
          let inst = instance_of sheet in
          let run = sheet_joint_run sheet loaded x k c whole_witness whole_nonce below in
          let hers = rw (read_joined xs x joins, read_joined ks k nonces) at
          (honest_round_law sheet loaded inst refl x k c whole_witness whole_nonce below) in (
            both_run sheet loaded count images team ts rs c part_fits,
            record {
              witness = whole_witness;
              commits = run.committed;
              responds = run.responded;
              sent =
                  whole_is sheet loaded count images team ts rs c part_fits
                  ∙ ap₂ (λ (t r : List ℕ). round_of (pad8 0 t) c (pad8 0 r)) commitments_are responses_are ∙ sym hers;
            },
          )
