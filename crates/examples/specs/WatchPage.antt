-- A worked watch (02, card 9) on page A's sheet and page G's: what it holds, what it says of rounds, and how far back it looks.
-- Assumes nothing.
use Rattle.std.specs.Prelude.{ℕ, ◌≡◌, List, [], ◌∷◌, ◌++◌, length, replicate, take}
use Rattle.types.specs.declared.Round.{Round}
use Rattle.types.specs.declared.Verdict.TheVariants.{Accepted}
use Rattle.lists.specs.Places.{places}
use Rattle.formats.specs.Sheet.{header_of}
use Rattle.sigma.specs.Answer.{outcome}
use Rattle.sigma.specs.Reads.{round_of}
use Rattle.watches.specs.Watch.{open_watch, watch_round}
use Rattle.watches.specs.declared.Watch.{Watch}
use Rattle.watches.specs.declared.Watched.{Watched}
use Rattle.examples.specs.Corners.{changed, root_bytes}
use Rattle.examples.specs.Pages.{small_round}
use Rattle.examples.specs.Sheets.{schnorr_sheet}

-- what a watch says of a round: the refusal's number, 1 for accepted or 0 and the rows, by how many rounds back, and n places of the
-- witness
unfoldable pub said : List ℕ → Watched → List ℕ
said sheet told =
    (outcome told.verdict).number ∷ (outcome told.verdict).values ++ told.back ∷ places (header_of sheet).columns told.witness

-- what it says of rounds that come one by one
unfoldable pub hearing : List ℕ → Watch → List Round → List ℕ
hearing sheet w [] = []
hearing sheet w (round ∷ later) = said sheet (watch_round sheet w round) ++ hearing sheet (watch_round sheet w round).watch later

-- a new watch on a sheet
unfoldable pub new_watch : List ℕ → Watch
new_watch sheet = (open_watch sheet).watch

-- a watch by hand: these bytes, then 99, so many of them as its length, and these rounds, the newest first, so many of them as its
-- count; after them stands a round that is rejected, of the same commitment as page A's
unfoldable pub by_hand : List ℕ → ℕ → List Round → ℕ → Watch
by_hand bytes long rounds count =
    record {
      rounds = take 63 (rounds ++ replicate 63 (small_round 9 5 0));
      sheet = take 308 (bytes ++ replicate 308 99);
      length = long;
      count = count;
    }

-- one of page A's sheet and of these rounds, all of them counted
unfoldable pub holding : List Round → Watch
holding rounds = by_hand schnorr_sheet 28 rounds (length rounds)

-- a round as it is remembered on a sheet of one row and one column
unfoldable pub kept : ℕ → ℕ → ℕ → Round
kept t c r = round_of (t ∷ replicate 7 0) c (r ∷ replicate 7 0)

pub record WatchPage : Type 0 where
  -- opening: all bytes of the sheet, then zeros
  pub opened : open_watch schnorr_sheet
      ≡ record {
        watch =
            record {
              rounds = replicate 63 (kept 0 0 0);
              sheet =
                  0x48 ∷ 0x4F ∷ 0x4D ∷ 0 ∷ 1 ∷ 1 ∷ 0 ∷ 0 ∷ 0 ∷ 23 ∷ 0 ∷ 0 ∷ 0 ∷ 11 ∷ 0 ∷ 0 ∷ 0 ∷ 11 ∷ 1 ∷ 1 ∷ 0 ∷ 0 ∷ 0 ∷ 2 ∷ 0 ∷
                  0 ∷ 0 ∷ 13 ∷ replicate 280 0;
              length = 28;
              count = 0;
            };
        refusal = 0;
      }
  -- a sheet that is refused: zeros
  pub refused : open_watch (changed schnorr_sheet 27 5)
      ≡ record {
        watch = record { rounds = replicate 63 (kept 0 0 0); sheet = replicate 308 0; length = 0; count = 0 };
        refusal = 11;
      }
  -- page A: (9, 3, 4), then (9, 1, 1), is one nonce used twice, and the witness is 7; so in the other order
  pub A : hearing schnorr_sheet (new_watch schnorr_sheet) (small_round 9 3 4 ∷ small_round 9 1 1 ∷ []) ≡ 0 ∷ 1 ∷ 0 ∷ 0 ∷ 0 ∷ 1 ∷ 1 ∷ 7 ∷ []
  pub turned :
      hearing schnorr_sheet (new_watch schnorr_sheet) (small_round 9 1 1 ∷ small_round 9 3 4 ∷ []) ≡ 0 ∷ 1 ∷ 0 ∷ 0 ∷ 0 ∷ 1 ∷ 1 ∷ 7 ∷ []
  -- the same round twice is not
  pub again :
      hearing schnorr_sheet (new_watch schnorr_sheet) (small_round 9 3 4 ∷ small_round 9 3 4 ∷ []) ≡ 0 ∷ 1 ∷ 0 ∷ 0 ∷ 0 ∷ 1 ∷ 0 ∷ 0 ∷ []
  -- what is remembered of them: the newest first, with zeros in the places that are not read
  pub remembered : watch_round schnorr_sheet (watch_round schnorr_sheet (new_watch schnorr_sheet) (small_round 9 3 4)).watch (small_round 9 1 1)
      ≡ record {
        watch =
            record {
              rounds = kept 9 1 1 ∷ kept 9 3 4 ∷ replicate 61 (kept 0 0 0);
              sheet = schnorr_sheet ++ replicate 280 0;
              length = 28;
              count = 2;
            };
        witness = 7 ∷ replicate 7 0;
        back = 1;
        verdict = Accepted;
      }
  -- page G: (33, 1, 6), then (33, 3, 24), and the witness is 2
  pub G : hearing root_bytes (new_watch root_bytes) (small_round 33 1 6 ∷ small_round 33 3 24 ∷ []) ≡ 0 ∷ 1 ∷ 0 ∷ 0 ∷ 0 ∷ 1 ∷ 1 ∷ 2 ∷ []
  -- a round 63 back is named, and after one more it is forgotten
  pub far : hearing schnorr_sheet (holding (replicate 62 (small_round 2 3 0) ++ small_round 9 3 4 ∷ [])) (small_round 9 1 1 ∷ [])
      ≡ 0 ∷ 1 ∷ 63 ∷ 7 ∷ []
  pub forgotten :
      hearing schnorr_sheet (holding (replicate 62 (small_round 2 3 0) ++ small_round 9 3 4 ∷ [])) (small_round 2 3 0 ∷ small_round 9 1 1 ∷ [])
      ≡ 0 ∷ 1 ∷ 0 ∷ 0 ∷ 0 ∷ 1 ∷ 0 ∷ 0 ∷ []
