-- A refusal that is none of those from 2 to 10 has none of their numbers.
-- Assumes nothing.
use mathlib.Core.Logic.{◌≢◌}
use Rattle.refusals.specs.Number.{number}
use Rattle.refusals.specs.declared.Refusal.{Refusal}
use Rattle.refusals.specs.declared.Refusal.TheVariants.{Start, Version, Kind, Modulus, Order, Size, Count, Length, Entry}
use Rattle.spots.proofs.OneNumber.{one_number}
use Rattle.spots.proofs.RefusedSheet.{Beyond}

pub beyond_entry : (refusal : Refusal) → refusal ≢ Start → refusal ≢ Version → refusal ≢ Kind → refusal ≢ Modulus
    → refusal ≢ Order → refusal ≢ Size → refusal ≢ Count → refusal ≢ Length → refusal ≢ Entry → Beyond (number refusal)
beyond_entry r a b c d e f g h i = (
  (
    (
      (
        (
          (
            (((tt, λ same. a (one_number r Start same)), λ same. b (one_number r Version same)), λ same. c (one_number r Kind same)),
            λ same. d (one_number r Modulus same),
          ),
          λ same. e (one_number r Order same),
        ),
        λ same. f (one_number r Size same),
      ),
      λ same. g (one_number r Count same),
    ),
    λ same. h (one_number r Length same),
  ),
  λ same. i (one_number r Entry same),
)
