-- What stands in each field of a watch's answer that crosses: on the left of each equation the form, on the right a struct field by
-- field.
-- Assumes nothing.
use Rattle.std.specs.Prelude.{ℕ, ◌≡◌, List}
use Rattle.types.specs.declared.Verdict.TheVariants.{Accepted, Rejected, Refused}
use Rattle.watches.specs.declared.Watch.{Watch}
use Rattle.watch_crossing.specs.Answers.{watch_answer}

pub record WatchCrosses : Type 0 where
  pub accepted : (w : Watch) (x : List ℕ) (b : ℕ) → watch_answer (record { watch = w; witness = x; back = b; verdict = Accepted })
      ≡ record { watch = w; witness = x; back = b; verdict = record { accepted = 1; rows = 0; refusal = 0 } }
  pub rejected : (w : Watch) (x : List ℕ) (b mask : ℕ)
      → watch_answer (record { watch = w; witness = x; back = b; verdict = Rejected mask })
      ≡ record { watch = w; witness = x; back = b; verdict = record { accepted = 0; rows = mask; refusal = 0 } }
  pub refused : (w : Watch) (x : List ℕ) (b n : ℕ) → watch_answer (record { watch = w; witness = x; back = b; verdict = Refused n })
      ≡ record { watch = w; witness = x; back = b; verdict = record { accepted = 0; rows = 0; refusal = n } }
