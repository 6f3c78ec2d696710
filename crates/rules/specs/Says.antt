-- What a Boolean test says: it is true exactly when a fact holds.
-- Assumes nothing.
use Rattle.std.specs.Prelude.{◌≡◌, Bool, true}

-- the test is true exactly when the fact holds
pub record Says (test : Bool) (fact : Type 0) : Type 0 where
  pub sound : test ≡ true → fact
  pub complete : fact → test ≡ true
