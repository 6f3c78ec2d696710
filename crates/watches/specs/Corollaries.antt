-- What follows from a watch's refusals and answers: only what is read of it and of the round counts.
-- Assumes nothing.
use Rattle.std.specs.Prelude.{ℕ, ◌<◌, ◌≡◌, List}
use Rattle.types.specs.declared.Round.{Round}
use Rattle.formats.specs.Sheet.{instance_of}
use Rattle.sigma.specs.Reads.{Agree, SameRound}
use Rattle.watches.specs.WatchCalls.{WatchCalls}
use Rattle.watches.specs.Window.{remembered_at}
use Rattle.watches.specs.declared.Watch.{Watch}

-- two watches are the same in what is read of them: the length and so many bytes, the count and so many rounds, of which t in s
-- places, c, and r in n places
pub record SameWatch (sheet : List ℕ) (w w' : Watch) : Type 0 where
  pub long : w.length ≡ w'.length
  pub bytes : Agree w.length w.sheet w'.sheet
  pub count : w.count ≡ w'.count
  pub rounds : (i : ℕ) → i < w.count → SameRound (instance_of sheet).header (remembered_at w i) (remembered_at w' i)

module _ (watches : WatchCalls) where
  open watches use {watch_round}

  pub record WatchCorollaries : Type 0 where
    -- rounds at the count and beyond, bytes after the length, and places beyond s or n are not read, refused or not
    pub read : (sheet : List ℕ) (w w' : Watch) (round round' : Round) → SameWatch sheet w w'
        → SameRound (instance_of sheet).header round round'
        → ((watch_round sheet w round).verdict ≡ (watch_round sheet w' round').verdict)
        × ((watch_round sheet w round).back ≡ (watch_round sheet w' round').back)
        × ((watch_round sheet w round).witness ≡ (watch_round sheet w' round').witness)
    -- nor in any call after it
    pub next : (sheet : List ℕ) (w w' : Watch) (round round' : Round) → SameWatch sheet w w'
        → SameRound (instance_of sheet).header round round'
        → SameWatch sheet (watch_round sheet w round).watch (watch_round sheet w' round').watch
