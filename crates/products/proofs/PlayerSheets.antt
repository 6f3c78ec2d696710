-- The sheet of a player: it loads, and its values are the sheet's with the player's image as statement, so that what its calls answer
-- is told of the sheet's own values.
-- Assumes nothing.
use Prim.Native.Nat.{ℕ, ◌+◌, ◌*◌, ◌%◌, ◌^◌, ◌<◌}
use mathlib.Core.Path.{◌≡◌, refl, sym, ap, ◌∙◌}
use mathlib.Core.List.{List}
use native.Mathlib.Omega.{arith}
use lib.ListN.{get_or}
use Rattle.types.specs.declared.Round.{Round}
use Rattle.types.specs.declared.Verdict.TheVariants.{Accepted, Rejected}
use Rattle.encoding.specs.Bytes.{AllBytes, number_at}
use Rattle.lists.specs.Places.{pad8}
use Rattle.lists.proofs.Places.{get_d_pad8, get_d_places}
use Rattle.formats.specs.Encode.{sheet_of}
use Rattle.formats.specs.Load.{load_refusal}
use Rattle.formats.specs.Meaning.{read_instance}
use Rattle.formats.specs.Sheet.{header_of, instance_of}
use Rattle.formats.proofs.Loads.{loads, loads_valid}
use Rattle.formats.proofs.SheetRead.{sheet_of_instance_of}
use Rattle.formats.proofs.SheetRoundTrip.{sheet_loads}
use Rattle.formats.proofs.SheetWritten.{instance_of_sheet_of}
use Rattle.runs.specs.Calls.{judge_round}
use Rattle.runs.specs.OnSheet.{read_values}
use Rattle.runs.proofs.Protocol.{sheet_accepted, sheet_rejected}
use Rattle.sigma.specs.Answer.{rows_of}
use Rattle.sigma.specs.Instance.{Instance, statement_at}
use Rattle.sigma.specs.Joined.{with_statement}
use Rattle.sigma.specs.Meaning.{Elements, FailsExactly, Fits, Holds, RowHolds}
use Rattle.sigma.specs.Valid.{Valid}
use Rattle.sigma.proofs.Fails.{fails_alike}
use Rattle.sigma.proofs.Joined.{with_statement_valid}

-- a number of four bytes is below 2^32
word_below : (s : List ℕ) (at : ℕ) → AllBytes s → number_at 4 s at < 2 ^ 32
unfolding number_at
word_below s at bytes = omega (arith, bytes (at + 0), bytes (at + 1), bytes (at + 2), bytes (at + 3))

-- what fits an instance with another statement fits it
pub fits_own : (inst : Instance) (z : List ℕ) {round : Round} → Fits (with_statement inst z) round → Fits inst round
fits_own inst z f = record { commitment = f.commitment; challenge = f.challenge; response = f.response }

-- a row reads one value of the statement
pub row_restated : (inst : Instance) (z z' : List ℕ) (round : Round) (i : ℕ) → get_or z i 0 ≡ get_or z' i 0
    → RowHolds (with_statement inst z) round i → RowHolds (with_statement inst z') round i
unfolding statement_at
row_restated inst z z' round i same e =
    e ∙ ap (λ (u : ℕ). get_or round.commitment i 0 * u ^ round.challenge % inst.header.modulus) same

module _ (sheet : List ℕ) (bytes : AllBytes sheet) (loaded : load_refusal sheet ≡ 0) where
  -- the modulus and ℓ are numbers of four bytes
  small : (instance_of sheet).header.modulus < 2 ^ 32
  unfolding instance_of header_of
  small = word_below sheet 6 bytes

  short : (instance_of sheet).header.order < 2 ^ 32
  unfolding instance_of header_of
  short = word_below sheet 10 bytes

  -- the sheet's values are what is read of them
  values_read : instance_of sheet ≡ read_instance (instance_of sheet)
  values_read =
      ap instance_of (sym (sheet_of_instance_of sheet ((loads sheet).0 loaded) bytes))
      ∙ instance_of_sheet_of (instance_of sheet) (loads_valid sheet loaded) small short

  module _ (z : List ℕ) (elements : Elements (instance_of sheet) z) where
    -- the values with another statement are Valid
    pub restated_valid : Valid (with_statement (instance_of sheet) z)
    restated_valid = with_statement_valid (loads_valid sheet loaded) z elements

    -- their sheet loads
    pub player_loads : load_refusal (sheet_of (with_statement (instance_of sheet) z)) ≡ 0
    player_loads = (loads _).1 (sheet_loads (with_statement (instance_of sheet) z) restated_valid small short)

    -- and has these values
    pub player_values :
        instance_of (sheet_of (with_statement (instance_of sheet) z)) ≡ with_statement (instance_of sheet) (pad8 0 (read_values sheet z))
    unfolding read_instance
    player_values =
        let own = ap (λ (i : Instance). i.entries) (sym values_read) in
        instance_of_sheet_of (with_statement (instance_of sheet) z) restated_valid small short
        ∙ (λ j. record { header = (instance_of sheet).header; entries = own j; statement = pad8 0 (read_values sheet z) })

    -- a value of the statement that is stored
    stored : (i : ℕ) → i < (instance_of sheet).header.rows → get_or (pad8 0 (read_values sheet z)) i 0 ≡ get_or z i 0
    stored i b = get_d_pad8 0 (read_values sheet z) i ∙ get_d_places (instance_of sheet).header.rows z i b

    -- a round that the player's sheet accepts fits the sheet, and every row holds for the image
    pub player_accepted : (round : Round) → judge_round (sheet_of (with_statement (instance_of sheet) z)) round ≡ Accepted
        → Fits (instance_of sheet) round × Holds (with_statement (instance_of sheet) z) round
    player_accepted round e =
        let inst = instance_of sheet in
        let (fits, holds) = rw player_values at ((sheet_accepted (sheet_of (with_statement inst z)) player_loads round).0 e) in
        (fits_own inst _ fits, λ i b. row_restated inst _ z round i (stored i b) (holds i b))

    -- of one that it rejects the rows are those that fail for the image
    pub player_rejected : (round : Round) (mask : ℕ)
        → judge_round (sheet_of (with_statement (instance_of sheet) z)) round ≡ Rejected mask
        → Fits (instance_of sheet) round
        × (FailsExactly (with_statement (instance_of sheet) z) round (rows_of mask) × (mask < 2 ^ (instance_of sheet).header.rows))
    player_rejected round mask e =
        let inst = instance_of sheet in
        let (fits, (all, inside)) = rw player_values at ((sheet_rejected (sheet_of (with_statement inst z)) player_loads round mask).0 e) in (
          fits_own inst _ fits,
          (
            fails_alike (with_statement inst (pad8 0 (read_values sheet z))) (with_statement inst z) round round refl
                (λ i b. (row_restated inst _ z round i (stored i b), row_restated inst z _ round i (sym (stored i b)))) (rows_of mask) all,
            inside,
          ),
        )
