-- What a writer of sheets answers and leaves in the buffer, return by return.
-- Assumes nothing.
use Prim.Native.Nat.{ℕ, ◌≤◌, ◌<◌}
use mathlib.Core.Path.{◌≡◌, refl, sym, ap, ◌∙◌}
use mathlib.Core.List.{List, [], ◌∷◌, ◌++◌, append_assoc}
use native.Mathlib.Omega.{arith}
use lib.ListN.{length}
use lib.Seq.{sets}
use borrow.Author.Tests.{lt-ltb}
use Rattle.std.specs.Prelude.{Ok, Err}
use Rattle.refusals.specs.declared.Refusal.{Refusal}
use Rattle.refusals.specs.declared.Refusal.TheVariants.{Buffer}
use Rattle.refusals.specs.Number.{number, written}
use Rattle.refusals.proofs.Positive.{call_refused, number_positive}
use Rattle.rules.specs.Call.{answer, number_of}
use Rattle.rules.specs.Rule.{Rule, ◌when◌, lowest}
use Rattle.rules.proofs.Call.{tested_value}
use Rattle.rules.proofs.Lowest.{lowest_clear, lowest_earlier, lowest_later_zero, stop}
use Rattle.sigma.specs.Admission.{element_rules, header_rules}
use Rattle.sigma.specs.Instance.{Instance}
use Rattle.sigma.proofs.Positive.{element_positive, header_positive}
use Rattle.formats.specs.Encode.{encode, encoding, sheet_of}
use Rattle.formats.specs.Sheet.{sheet_length}
use Rattle.formats.specs.Write.{short, writing_at_start}
use Rattle.formats.proofs.Writing.{Leaves, leaves, length_sheet_of, short_passes}

-- a call with a refusal answers its number and keeps the buffer
pub start_refused : (refusal : Refusal) (refusals : List Rule) (bytes buffer : List ℕ) → number refusal ≡ lowest refusals
    → Leaves (written (Err refusal)) buffer (answer (writing_at_start refusals bytes buffer))
unfolding number_of
start_refused refusal refusals bytes buffer e = leaves (call_refused (writing_at_start refusals bytes buffer) refusal e)

-- a call that is not refused answers the length of its bytes and stores them at the buffer's start
pub start_stored : (refusals : List Rule) (bytes buffer : List ℕ) {used : ℕ} {after : List ℕ} → lowest refusals ≡ 0
    → used ≡ length bytes
    → after ≡ sets buffer 0 bytes
    → Leaves (written (Ok used)) after (answer (writing_at_start refusals bytes buffer))
unfolding number_of
start_stored refusals bytes buffer e size stored =
    rw (size, stored) (leaves (tested_value (writing_at_start refusals bytes buffer) (sym e) refl))

module _ (i : Instance) (buffer : List ℕ) where
  -- the rule of the buffer's room
  abbrev room : List Rule
  room = (22 when short buffer (sheet_length i.header)) ∷ []

  -- the rules of the fixed fields stand in front of the others
  in_front : lowest (encoding i buffer).refusals ≡ lowest (header_rules i.header ++ (element_rules i ++ room))
  unfolding encoding
  in_front = ap (λ (rules : List Rule). lowest rules) (append_assoc (header_rules i.header) (element_rules i) room)

  -- the fixed fields are refused
  pub encode_fields : (refusal : Refusal) → number refusal ≡ lowest (header_rules i.header)
      → Leaves (written (Err refusal)) buffer (encode i buffer)
  unfolding encode encoding
  encode_fields refusal e =
      let first =
      in_front ∙ lowest_earlier (header_rules i.header) (element_rules i ++ room) (omega (arith, e, number_positive refusal)) in
      start_refused refusal _ (sheet_of i) buffer (e ∙ sym first)

  module _ (fields : lowest (header_rules i.header) ≡ 0) where
    -- where they are not, the entries, the statement and the room decide
    behind_fields : lowest (encoding i buffer).refusals ≡ lowest (element_rules i ++ room)
    behind_fields = in_front ∙ lowest_later_zero (header_rules i.header) _ (header_positive i.header) fields

    -- an entry or a statement value is no group element
    pub encode_elements : (refusal : Refusal) → number refusal ≡ lowest (element_rules i)
        → Leaves (written (Err refusal)) buffer (encode i buffer)
    unfolding encode encoding
    encode_elements refusal e =
        let first = behind_fields ∙ lowest_earlier (element_rules i) room (omega (arith, e, number_positive refusal)) in
        start_refused refusal _ (sheet_of i) buffer (e ∙ sym first)

    module _ (elements : lowest (element_rules i) ≡ 0) where
      -- where all are group elements, the room decides
      behind_elements : lowest (encoding i buffer).refusals ≡ lowest room
      behind_elements = behind_fields ∙ lowest_later_zero (element_rules i) room (element_positive i) elements

      -- the buffer is too short
      pub encode_short : length buffer < sheet_length i.header → Leaves (written (Err Buffer)) buffer (encode i buffer)
      unfolding encode encoding short
      encode_short less = start_refused Buffer _ (sheet_of i) buffer (sym (behind_elements ∙ stop 22 [] (lt-ltb _ _ less)))

      -- the sheet is written
      pub encode_written : {used : ℕ} {after : List ℕ} → used ≡ sheet_length i.header → used ≤ length buffer
          → after ≡ sets buffer 0 (sheet_of i) → Leaves (written (Ok used)) after (encode i buffer)
      unfolding encode encoding
      encode_written size fits stored =
          let clear = (short_passes buffer (sheet_length i.header)).1 (omega arith) in
          let none = behind_elements ∙ lowest_clear room (clear, tt) in
          start_stored _ (sheet_of i) buffer none (size ∙ sym (length_sheet_of i)) stored
