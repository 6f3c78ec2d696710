-- 21 of a watch (02, card 9) by each part of its condition: a row for each held byte, their number, the count, and what is wrong with
-- the named round in one place alone. And 14 to 16 before it, which round is named, and what plays no part.
-- Assumes nothing.
use Rattle.std.specs.Prelude.{ℕ, ◌≡◌, length, replicate, take}
use mathlib.Core.List.{List, [], ◌∷◌, ◌++◌, flatten, map}
use Rattle.types.specs.declared.Round.{Round}
use Rattle.sigma.specs.Answer.{outcome}
use Rattle.sigma.specs.Reads.{round_of}
use Rattle.watches.specs.Watch.{watch_round}
use Rattle.watches.specs.declared.Watch.{Watch}
use Rattle.examples.specs.Corners.{Corner, changed}
use Rattle.examples.specs.Pages.{small_round}
use Rattle.examples.specs.Sheets.{schnorr_sheet}
use Rattle.examples.specs.TwoRows.{Case, exponents, first, raised, roots, round_with, second, spoilt}
use Rattle.examples.specs.WatchPage.{by_hand, hearing, holding, kept}

-- the number that a watch answers to a round with a sheet
unfoldable pub heard_on : List ℕ → Watch → Round → ℕ
heard_on sheet w round = (outcome (watch_round sheet w round).verdict).number

-- to page A's (9, 1, 1), which is accepted, and to (9, 1, 2), which is rejected
unfoldable pub heard_both : Watch → List ℕ
heard_both w = heard_on schnorr_sheet w (small_round 9 1 1) ∷ heard_on schnorr_sheet w (small_round 9 1 2) ∷ []

-- page A's sheet with K 10, by which these rounds are judged alike
unfoldable pub ten_challenges : List ℕ
ten_challenges = changed schnorr_sheet 17 10

-- a watch that holds these bytes, so many, and page A's (9, 3, 4)
unfoldable pub held : List ℕ → ℕ → Watch
held bytes long = by_hand bytes long (small_round 9 3 4 ∷ []) 1

-- a watch that counts so many, 63 rounds of another commitment being there
unfoldable pub counting : ℕ → Watch
counting count = by_hand schnorr_sheet 28 (replicate 63 (small_round 2 3 0)) count

-- one of other bytes that counts 64
unfoldable pub unfit : Watch
unfit = by_hand (changed schnorr_sheet 27 2) 27 (replicate 63 (small_round 9 3 5)) 64

-- the number for (9, 1, 1) of a watch that remembers these rounds, the newest first
unfoldable pub naming : List Round → ℕ
naming rounds = heard_on schnorr_sheet (holding rounds) (small_round 9 1 1)

-- and for the second round of a case of one that remembers this one
unfoldable pub naming_on : Case → Round → ℕ
naming_on p round = heard_on p.sheet (by_hand p.sheet (length p.sheet) (round ∷ []) 1) (second p)

-- a round that is accepted, and rejected ones that have another commitment in one row: none of these is named
unfoldable pub unforged : Case → List ℕ
unforged p =
    naming_on p (first p) ∷ map (λ t. naming_on p (round_with t 3 p.response)) (spoilt p.commitment p.other)

-- rounds that are rejected in one row, and rounds with one slot that is none
unfoldable pub forged_on : Case → List ℕ
forged_on p =
    map (λ r. naming_on p (round_with p.commitment 3 r)) (p.wrong ++ raised p.response p.period)

-- what is said of a case's second round, with other values in the places that are not read, by one that remembers the first
unfoldable pub named_beyond : Case → List ℕ
named_beyond p =
    hearing p.sheet (by_hand p.sheet (length p.sheet) (first p ∷ []) 1)
    (round_of (take 8 (p.commitment ++ replicate 8 98)) 1 (take 8 (p.response' ++ replicate 8 98)) ∷ [])

-- what is said of (9, 1, 1)
unfoldable pub saying : List Round → List ℕ
saying rounds = hearing schnorr_sheet (holding rounds) (small_round 9 1 1 ∷ [])

pub record WatchCorners : Type 0 where
  -- the bytes that are held: each of them, one more and one fewer, none and 309; a sheet that differs in K alone
  pub bytes21 :
      Corner 21 (heard_both (held schnorr_sheet 28) ++ heard_on ten_challenges (held ten_challenges 28) (small_round 9 1 1) ∷ [])
      (flatten (map (λ bytes. heard_both (held bytes 28)) (spoilt schnorr_sheet 7)) ++ heard_both (held (schnorr_sheet ++ 0 ∷ []) 29) ++
      heard_both (held schnorr_sheet 29) ++ heard_both (held schnorr_sheet 27) ++ heard_both (held schnorr_sheet 0) ++
      heard_both (held schnorr_sheet 309) ++ heard_on ten_challenges (held schnorr_sheet 28) (small_round 9 1 1) ∷ [])
  -- the count
  pub count21 : Corner 21 (heard_both (counting 0) ++ heard_both (counting 63)) (heard_both (counting 64) ++ heard_both (counting 65))
  -- the named round: its challenge is K, its slot is q or more, where the two sides agree, or they do not; the nearest alone counts,
  -- however far it stands
  pub named21 :
      Corner 21
      (naming [] ∷ naming (small_round 9 3 4 ∷ []) ∷ naming (small_round 9 10 9 ∷ []) ∷ naming (small_round 9 3 4 ∷ small_round 9 4 1 ∷ []) ∷
      naming (small_round 9 1 2 ∷ []) ∷ naming (small_round 2 3 5 ∷ []) ∷ [])
      (naming (small_round 9 11 5 ∷ []) ∷ naming (small_round 9 3 15 ∷ []) ∷ naming (small_round 9 3 5 ∷ []) ∷
      naming (small_round 9 4 1 ∷ small_round 9 3 4 ∷ []) ∷ naming (replicate 62 (small_round 2 3 0) ++ small_round 9 3 5 ∷ []) ∷ [])
  -- each row and each slot of the named round, and each row of its commitment
  pub rows21 : Corner 21 (unforged exponents ++ unforged roots) (forged_on exponents ++ forged_on roots)
  -- what the round itself brings comes first
  pub before14 : Corner 14 [] (heard_on schnorr_sheet unfit (small_round 5 1 1) ∷ heard_on schnorr_sheet unfit (small_round 5 11 11) ∷ [])
  pub before15 : Corner 15 [] (heard_on schnorr_sheet unfit (small_round 9 11 1) ∷ heard_on schnorr_sheet unfit (small_round 9 11 11) ∷ [])
  pub before16 : Corner 16 [] (heard_on schnorr_sheet unfit (small_round 9 1 12) ∷ heard_on schnorr_sheet unfit (small_round 9 1 11) ∷ [])
  -- a nearer round with the same challenge, or with another commitment, is passed over, whatever it is, and counted
  pub passed :
      saying (small_round 9 1 1 ∷ small_round 9 3 4 ∷ []) ++ saying (small_round 9 1 2 ∷ small_round 9 3 4 ∷ []) ++
      saying (small_round 2 3 5 ∷ small_round 9 3 4 ∷ []) ++ saying (small_round 2 3 0 ∷ small_round 9 1 1 ∷ small_round 9 3 4 ∷ [])
      ≡ 0 ∷ 1 ∷ 2 ∷ 7 ∷ 0 ∷ 1 ∷ 2 ∷ 7 ∷ 0 ∷ 1 ∷ 2 ∷ 7 ∷ 0 ∷ 1 ∷ 3 ∷ 7 ∷ []
  -- a rejected round names none, neither a round that is accepted nor one that is not: rejected in row 0, none, zeros
  pub rejected :
      hearing schnorr_sheet (holding (small_round 9 3 4 ∷ [])) (small_round 9 1 2 ∷ []) ++
      hearing schnorr_sheet (holding (small_round 9 3 5 ∷ [])) (small_round 9 1 2 ∷ [])
      ≡ 0 ∷ 0 ∷ 0 ∷ 0 ∷ 0 ∷ 0 ∷ 0 ∷ 0 ∷ 0 ∷ 0 ∷ []
  -- rounds at the count and beyond, bytes behind the length, and places beyond s and n are not read
  pub unread :
      hearing schnorr_sheet (by_hand schnorr_sheet 28 [] 0) (small_round 9 1 1 ∷ []) ++
      named_beyond exponents ++ named_beyond roots
      ≡ 0 ∷ 1 ∷ 0 ∷ 0 ∷ 0 ∷ 1 ∷ 1 ∷ 7 ∷ 1 ∷ 2 ∷ 0 ∷ 1 ∷ 1 ∷ 2 ∷ 3 ∷ []
  -- they stay as they are: the older rounds move on with all their places, those beyond the count too
  pub moved : (watch_round schnorr_sheet (held schnorr_sheet 28) (small_round 9 1 1)).watch
      ≡ record {
        rounds = kept 9 1 1 ∷ small_round 9 3 4 ∷ replicate 61 (small_round 9 5 0);
        sheet = schnorr_sheet ++ replicate 280 99;
        length = 28;
        count = 2;
      }
  -- the oldest of 63 is forgotten
  pub full : (watch_round schnorr_sheet (by_hand schnorr_sheet 28 (replicate 62 (small_round 2 3 0)) 63) (small_round 9 5 7)).watch
      ≡ record {
        rounds = kept 9 5 7 ∷ replicate 62 (small_round 2 3 0);
        sheet = schnorr_sheet ++ replicate 280 99;
        length = 28;
        count = 63;
      }
  -- a watch is handed back as it was where the round is rejected, or refused with 21, 14, 15 or 16
  pub unmoved :
      (watch_round schnorr_sheet (held schnorr_sheet 28) (small_round 9 1 2)).watch ∷
      map (λ round. (watch_round schnorr_sheet unfit round).watch)
      (small_round 9 1 1 ∷ small_round 5 1 1 ∷ small_round 9 11 1 ∷ small_round 9 1 12 ∷ [])
      ≡ held schnorr_sheet 28 ∷ replicate 4 unfit
