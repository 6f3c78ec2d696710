-- Laws that the proofs of the functions cite: what is known of a refused sheet, and the spots of a refused round file and round.
pub mod RefusedSheet
pub mod FileFault
pub mod RoundFault
pub mod OneNumber
pub mod BeyondEntry
