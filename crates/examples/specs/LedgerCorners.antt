-- The refusals of the ledger's checker and writer (02, card 14) by each part of their conditions, and their order: a ledger of two
-- commitments, their product, a sum, a product of it and a commitment, and the entries that it is made of, with one number changed.
-- And which line is named, what is not read, and what a refused call answers.
-- Assumes nothing.
use Rattle.std.specs.Prelude.{ℕ, ◌≡◌, List, [], ◌∷◌, ◌++◌, map, get_or, replicate}
use Rattle.std.proofs.lemmas.List.Edits.{sets}
use Rattle.ledgers.specs.Check.{check_ledger}
use Rattle.ledgers.specs.Write.{write_ledger}
use Rattle.ledgers.specs.declared.Base.{Base}
use Rattle.ledgers.specs.declared.Checked.{Checked}
use Rattle.ledgers.specs.declared.Entries.{Entries}
use Rattle.ledgers.specs.declared.Ledger.{Ledger}
use Rattle.ledgers.specs.declared.LedgerWritten.{LedgerWritten}
use Rattle.examples.specs.Corners.{Corner}
use Rattle.examples.specs.LedgerPage.{
  accepted,
  added,
  asked,
  base_of,
  found_of,
  given,
  made_of,
  multiplied,
  rejected_at,
  wrote,
}
use Rattle.examples.specs.SavedCorners.{greatest}

-- ---- ledgers and entries

-- g 2, h 3, m 23, q 11, K 5
unfoldable pub five_challenges : Base
five_challenges = base_of 2 3 23 11 5

-- lines that are accepted: two commitments, their product, its sum with the second, this times the first, and a commitment; what a kind
-- does not use holds 99
unfoldable pub clean : List (List ℕ)
clean =
    (1 ∷ 99 ∷ 99 ∷ 12 ∷ replicate 6 99) ∷
    (1 ∷ 99 ∷ 99 ∷ 8 ∷ replicate 6 99) ∷
    (3 ∷ 0 ∷ 1 ∷ 9 ∷ 18 ∷ 9 ∷ 3 ∷ 7 ∷ 5 ∷ 4 ∷ []) ∷
    (2 ∷ 2 ∷ 1 ∷ replicate 7 99) ∷
    (3 ∷ 3 ∷ 0 ∷ 8 ∷ 4 ∷ 16 ∷ 4 ∷ 6 ∷ 9 ∷ 0 ∷ []) ∷
    (1 ∷ 99 ∷ 99 ∷ 16 ∷ replicate 6 99) ∷ []

-- the entries that they are made of
unfoldable pub sound : List (List ℕ)
sound =
    given 2 1 ∷ given 3 0 ∷ multiplied 0 1 4 (1 ∷ 2 ∷ 3 ∷ []) 3 ∷ added 2 1 ∷ multiplied 3 0 5 (3 ∷ 4 ∷ 5 ∷ []) 4 ∷ given 5 4 ∷ []

-- line or entry i with another number in a place: of a line kind 0, the two lines 1 and 2, commitment 3, t 4 and 5, c 6 and r 7 to 9,
-- and of an entry value 3, ρ 4, nonce 5 to 7 and c 8
unfoldable pub put : ℕ → ℕ → ℕ → List (List ℕ) → List (List ℕ)
put i place number lines = sets lines i (sets (get_or lines i []) place (number ∷ []) ∷ [])

-- a ledger of these lines and entries that count another number
unfoldable pub counted : ℕ → List (List ℕ) → Ledger
counted count lines = record { lines = (found_of lines).lines; count = count }

unfoldable pub asked_for : ℕ → List (List ℕ) → Entries
asked_for count entries = record { entries = (asked entries).entries; count = count }

-- ---- the calls' numbers

-- of both calls for g, h, m, q and K, with no lines
unfoldable pub sharing : ℕ → ℕ → ℕ → ℕ → ℕ → List ℕ
sharing g h m q K =
    (check_ledger (base_of g h m q K) (found_of [])).refusal ∷ (write_ledger (base_of g h m q K) (asked [])).refusal ∷ []

-- of both calls for 64 commitments and a count
unfoldable pub counting : ℕ → List ℕ
counting count =
    (check_ledger five_challenges (counted count (replicate 64 (1 ∷ 99 ∷ 99 ∷ 1 ∷ replicate 6 99)))).refusal ∷
    (write_ledger five_challenges (asked_for count (replicate 64 (given 0 0)))).refusal ∷ []

-- of each call for lines
unfoldable pub checking : List (List ℕ) → ℕ
checking lines = (check_ledger five_challenges (found_of lines)).refusal

unfoldable pub writing : List (List ℕ) → ℕ
writing entries = (write_ledger five_challenges (asked entries)).refusal

-- for one number in line i or entry i, in each of these places
unfoldable pub checking_at : ℕ → List ℕ → ℕ → List ℕ
checking_at i places number = map (λ place. checking (put i place number clean)) places

unfoldable pub writing_at : ℕ → List ℕ → ℕ → List ℕ
writing_at i places number = map (λ place. writing (put i place number sound)) places

-- for a sum of lines i and j as the last of 64
unfoldable pub last_sum : ℕ → ℕ → List ℕ
last_sum i j =
    checking (replicate 63 (1 ∷ 99 ∷ 99 ∷ 1 ∷ replicate 6 99) ++ (2 ∷ i ∷ j ∷ replicate 7 99) ∷ []) ∷
    writing (replicate 63 (given 0 0) ++ added i j ∷ []) ∷ []

-- ---- whole answers

-- the checker's to lines
unfoldable pub telling : List (List ℕ) → Checked
telling lines = check_ledger five_challenges (found_of lines)

-- the checker's and the writer's with a number, zeros beside it
unfoldable pub refused_with : ℕ → Checked
refused_with number = record { accepted = 0; line = 0; refusal = number }

unfoldable pub wrote_nothing : ℕ → LedgerWritten
wrote_nothing number = record { ledger = made_of []; refusal = number }

-- lines that bring 16, and 15 in a later line; then also 14, 36 and 35
unfoldable pub late : List (List ℕ)
late = put 2 7 11 (put 4 6 5 clean)

unfoldable pub worst : List (List ℕ)
worst = put 3 0 0 (put 4 1 4 (put 5 3 5 late))

-- entries that bring 16, and 15 in a later one; then also 36 and 35
unfoldable pub late_entries : List (List ℕ)
late_entries = put 2 7 11 (put 4 8 5 sound)

unfoldable pub worst_entries : List (List ℕ)
worst_entries = put 3 0 0 (put 4 1 4 late_entries)

pub record LedgerCorners : Type 0 where
  -- ---- both calls, of what the lines share
  pub refusal5 : Corner 5 (sharing 1 1 3 11 11) (sharing 1 1 2 11 11 ++ sharing 1 1 0 11 11)
  pub refusal6 : Corner 6 (sharing 1 1 23 2 2) (sharing 1 1 23 1 2 ++ sharing 1 1 23 0 2)
  -- K below 2 and above 65,536, and divisors of q: 2, one between, and the last below K
  pub refusal8 :
      Corner 8 (sharing 2 3 23 11 2 ++ sharing 2 3 23 11 11 ++ sharing 1 1 31 15 3 ++ sharing 1 1 3 65537 65536)
      (sharing 2 3 23 11 1 ++ sharing 1 1 3 65537 65537 ++ sharing 1 1 23 22 3 ++ sharing 1 1 31 15 5 ++ sharing 1 1 31 15 4)
  -- g and h, by the order and by the size
  pub refusal10 :
      Corner 10 (sharing 1 3 23 11 11 ++ sharing 2 1 23 11 11 ++ sharing 18 18 23 11 11)
      (sharing 5 3 23 11 11 ++ sharing 25 3 23 11 11 ++ sharing 0 3 23 11 11 ++ sharing 2 5 23 11 11 ++ sharing 2 26 23 11 11 ++
      sharing 2 0 23 11 11)
  -- the count
  pub refusal37 : Corner 37 (counting 0 ++ counting 63 ++ counting 64) (counting 65 ++ counting greatest)
  -- the kind, in the first line, between and in the last one
  pub checking35 :
      Corner 35 (checking clean ∷ [])
      (checking_at 0 (0 ∷ []) 0 ++ checking_at 0 (0 ∷ []) 4 ++ checking_at 3 (0 ∷ []) 0 ++ checking_at 3 (0 ∷ []) 4 ++
      checking_at 5 (0 ∷ []) 0 ++ checking_at 5 (0 ∷ []) 4 ++ checking_at 5 (0 ∷ []) greatest)
  pub writing35 :
      Corner 35 (writing sound ∷ [])
      (writing_at 0 (0 ∷ []) 0 ++ writing_at 0 (0 ∷ []) 4 ++ writing_at 3 (0 ∷ []) 0 ++ writing_at 3 (0 ∷ []) 4 ++
      writing_at 5 (0 ∷ []) 0 ++ writing_at 5 (0 ∷ []) 4 ++ writing_at 5 (0 ∷ []) greatest)
  -- the first and the second line that a product and a sum name: the line above passes, and the line itself, one below it and the
  -- greatest number do not; a commitment names none, and line 0 can be none but a commitment
  pub checking36 :
      Corner 36
      (checking_at 2 (1 ∷ 2 ∷ []) 1 ++ checking_at 3 (1 ∷ 2 ∷ []) 2 ++ checking_at 4 (1 ∷ 2 ∷ []) 3 ++ checking_at 0 (1 ∷ 2 ∷ []) 0 ++
      checking_at 5 (1 ∷ 2 ∷ []) 5)
      (checking_at 2 (1 ∷ 2 ∷ []) 2 ++ checking_at 3 (1 ∷ 2 ∷ []) 3 ++ checking_at 4 (1 ∷ 2 ∷ []) 4 ++ checking_at 2 (1 ∷ 2 ∷ []) 5 ++
      checking_at 3 (1 ∷ 2 ∷ []) 4 ++ checking_at 4 (1 ∷ 2 ∷ []) greatest ++ checking ((2 ∷ replicate 9 0) ∷ []) ∷
      checking ((3 ∷ 0 ∷ 0 ∷ 1 ∷ 1 ∷ 1 ∷ 0 ∷ 0 ∷ 0 ∷ 0 ∷ []) ∷ []) ∷ [])
  pub writing36 :
      Corner 36
      (writing_at 2 (1 ∷ 2 ∷ []) 1 ++ writing_at 3 (1 ∷ 2 ∷ []) 2 ++ writing_at 4 (1 ∷ 2 ∷ []) 3 ++ writing_at 0 (1 ∷ 2 ∷ []) 0 ++
      writing_at 5 (1 ∷ 2 ∷ []) 5)
      (writing_at 2 (1 ∷ 2 ∷ []) 2 ++ writing_at 3 (1 ∷ 2 ∷ []) 3 ++ writing_at 4 (1 ∷ 2 ∷ []) 4 ++ writing_at 2 (1 ∷ 2 ∷ []) 5 ++
      writing_at 3 (1 ∷ 2 ∷ []) 4 ++ writing_at 4 (1 ∷ 2 ∷ []) greatest ++ writing (added 0 0 ∷ []) ∷
      writing (multiplied 0 0 0 (0 ∷ 0 ∷ 0 ∷ []) 0 ∷ []) ∷ [])
  -- the last of 64 lines
  pub last36 : Corner 36 (last_sum 62 62) (last_sum 63 0 ++ last_sum 0 63)
  -- ---- the checker
  -- the commitment of a commitment and of a product, and both values of a product's t, by the order and by the size
  pub refusal14 :
      Corner 14
      (checking_at 0 (3 ∷ []) 18 ++ checking_at 5 (3 ∷ []) 1 ++ checking_at 2 (3 ∷ 4 ∷ 5 ∷ []) 1 ++ checking_at 4 (3 ∷ 4 ∷ 5 ∷ []) 18)
      (checking_at 0 (3 ∷ []) 5 ++ checking_at 0 (3 ∷ []) 25 ++ checking_at 5 (3 ∷ []) 5 ++ checking_at 5 (3 ∷ []) 25 ++
      checking_at 5 (3 ∷ []) 0 ++ checking_at 2 (3 ∷ 4 ∷ 5 ∷ []) 5 ++ checking_at 2 (3 ∷ 4 ∷ 5 ∷ []) 25 ++
      checking_at 4 (3 ∷ 4 ∷ 5 ∷ []) 5 ++ checking_at 4 (3 ∷ 4 ∷ 5 ∷ []) 25 ++ checking_at 4 (3 ∷ 4 ∷ 5 ∷ []) 0)
  -- a product's challenge
  pub checking15 :
      Corner 15 (checking_at 2 (6 ∷ []) 4 ++ checking_at 4 (6 ∷ []) 0)
      (checking_at 2 (6 ∷ []) 5 ++ checking_at 4 (6 ∷ []) 5 ++ checking_at 4 (6 ∷ []) 6 ++ checking_at 2 (6 ∷ []) greatest)
  -- each slot of a product's response
  pub checking16 :
      Corner 16 (checking_at 2 (7 ∷ 8 ∷ 9 ∷ []) 10 ++ checking_at 4 (7 ∷ 8 ∷ 9 ∷ []) 10)
      (checking_at 2 (7 ∷ 8 ∷ 9 ∷ []) 11 ++ checking_at 4 (7 ∷ 8 ∷ 9 ∷ []) 11 ++ checking_at 2 (7 ∷ 8 ∷ 9 ∷ []) 18 ++
      checking_at 4 (7 ∷ 8 ∷ 9 ∷ []) greatest)
  -- a number that the kind does not use is not asked: what a commitment and a sum store elsewhere
  pub unasked :
      checking_at 0 (4 ∷ 5 ∷ 6 ∷ 7 ∷ 8 ∷ 9 ∷ []) 5 ++ checking_at 5 (4 ∷ 5 ∷ 6 ∷ 7 ∷ 8 ∷ 9 ∷ []) 11 ++
      checking_at 3 (3 ∷ 4 ∷ 5 ∷ 6 ∷ 7 ∷ 8 ∷ 9 ∷ []) 5 ++ checking_at 3 (3 ∷ 4 ∷ 5 ∷ 6 ∷ 7 ∷ 8 ∷ 9 ∷ []) 11
      ≡ replicate 26 0
  -- ---- the writer
  -- a product's challenge
  pub writing15 :
      Corner 15 (writing_at 2 (8 ∷ []) 4 ++ writing_at 4 (8 ∷ []) 0 ++ writing_at 0 (8 ∷ []) 5 ++ writing_at 3 (8 ∷ []) 5)
      (writing_at 2 (8 ∷ []) 5 ++ writing_at 4 (8 ∷ []) 5 ++ writing_at 4 (8 ∷ []) 6 ++ writing_at 2 (8 ∷ []) greatest)
  -- a commitment's value and ρ, and a product's ρ and nonce slots; what the kind does not use is not asked
  pub writing16 :
      Corner 16
      (writing_at 0 (3 ∷ 4 ∷ []) 10 ++ writing_at 5 (3 ∷ 4 ∷ []) 10 ++ writing_at 2 (4 ∷ 5 ∷ 6 ∷ 7 ∷ []) 10 ++
      writing_at 4 (4 ∷ 5 ∷ 6 ∷ 7 ∷ []) 10 ++ writing_at 0 (5 ∷ 6 ∷ 7 ∷ []) 11 ++ writing_at 2 (3 ∷ []) 11 ++
      writing_at 3 (3 ∷ 4 ∷ 5 ∷ 6 ∷ 7 ∷ []) 11)
      (writing_at 0 (3 ∷ 4 ∷ []) 11 ++ writing_at 5 (3 ∷ 4 ∷ []) 11 ++ writing_at 2 (4 ∷ 5 ∷ 6 ∷ 7 ∷ []) 11 ++
      writing_at 4 (4 ∷ 5 ∷ 6 ∷ 7 ∷ []) 11 ++ writing_at 5 (3 ∷ 4 ∷ []) greatest ++ writing_at 4 (4 ∷ 5 ∷ 6 ∷ 7 ∷ []) greatest)
  -- ---- the order
  -- a number of what the lines share and the next one; then g and h with the count, and the count with a kind
  pub shared_order :
      sharing 1 1 2 1 2 ++ sharing 1 1 23 1 1 ++ sharing 5 3 23 11 1 ++
      (check_ledger (base_of 2 5 23 11 5) (counted 65 clean)).refusal ∷ (write_ledger (base_of 2 5 23 11 5) (asked_for 65 sound)).refusal ∷
      (check_ledger five_challenges (counted 65 (put 0 0 4 clean))).refusal ∷
      (write_ledger five_challenges (asked_for 65 (put 0 0 4 sound))).refusal ∷ []
      ≡ 5 ∷ 5 ∷ 6 ∷ 6 ∷ 8 ∷ 8 ∷ 10 ∷ 10 ∷ 37 ∷ 37 ∷ []
  -- a number of the lines and the next one, which stands in an earlier line, in a later one, and in the same
  pub checking_order :
      checking (put 2 1 2 (put 5 0 4 clean)) ∷ checking (put 4 2 4 (put 0 0 4 clean)) ∷
      checking (put 2 4 5 (put 4 1 4 clean)) ∷ checking (put 4 5 5 (put 2 2 2 clean)) ∷ checking (put 4 3 5 (put 4 2 4 clean)) ∷
      checking (put 2 6 5 (put 5 3 5 clean)) ∷ checking (put 4 6 5 (put 2 5 5 clean)) ∷ checking (put 4 6 5 (put 4 4 5 clean)) ∷
      checking (put 2 7 11 (put 4 6 5 clean)) ∷ checking (put 4 9 11 (put 2 6 5 clean)) ∷ checking (put 4 8 11 (put 4 6 5 clean)) ∷
      checking (put 2 7 11 (put 4 5 5 clean)) ∷ []
      ≡ 35 ∷ 35 ∷ 36 ∷ 36 ∷ 36 ∷ 14 ∷ 14 ∷ 14 ∷ 15 ∷ 15 ∷ 15 ∷ 14 ∷ []
  pub writing_order :
      writing (put 2 1 2 (put 5 0 4 sound)) ∷ writing (put 4 2 4 (put 0 0 4 sound)) ∷
      writing (put 2 8 5 (put 4 1 4 sound)) ∷ writing (put 4 8 5 (put 2 2 2 sound)) ∷ writing (put 4 8 5 (put 4 2 4 sound)) ∷
      writing (put 0 3 11 (put 4 8 5 sound)) ∷ writing (put 5 4 11 (put 2 8 5 sound)) ∷ writing (put 4 7 11 (put 4 8 5 sound)) ∷ []
      ≡ 35 ∷ 35 ∷ 36 ∷ 36 ∷ 36 ∷ 15 ∷ 15 ∷ 15 ∷ []
  -- each number with all later ones, and the whole answer: zeros beside the number
  pub checking_refused :
      check_ledger (base_of 5 3 2 1 1) (counted 65 worst) ∷ check_ledger (base_of 5 3 23 1 1) (counted 65 worst) ∷
      check_ledger (base_of 5 3 23 11 1) (counted 65 worst) ∷ check_ledger (base_of 5 3 23 11 5) (counted 65 worst) ∷
      check_ledger five_challenges (counted 65 worst) ∷ telling worst ∷ telling (put 4 1 4 (put 5 3 5 late)) ∷
      telling (put 5 3 5 late) ∷ telling late ∷ telling (put 2 7 11 clean) ∷ []
      ≡ map refused_with (5 ∷ 6 ∷ 8 ∷ 10 ∷ 37 ∷ 35 ∷ 36 ∷ 14 ∷ 15 ∷ 16 ∷ [])
  pub writing_refused :
      write_ledger (base_of 5 3 2 1 1) (asked_for 65 worst_entries) ∷ write_ledger (base_of 5 3 23 1 1) (asked_for 65 worst_entries) ∷
      write_ledger (base_of 5 3 23 11 1) (asked_for 65 worst_entries) ∷ write_ledger (base_of 5 3 23 11 5) (asked_for 65 worst_entries) ∷
      write_ledger five_challenges (asked_for 65 worst_entries) ∷ write_ledger five_challenges (asked worst_entries) ∷
      write_ledger five_challenges (asked (put 4 1 4 late_entries)) ∷ write_ledger five_challenges (asked late_entries) ∷
      write_ledger five_challenges (asked (put 2 7 11 sound)) ∷ []
      ≡ map wrote_nothing (5 ∷ 6 ∷ 8 ∷ 10 ∷ 37 ∷ 35 ∷ 36 ∷ 15 ∷ 16 ∷ [])
  -- ---- which line is named
  -- none; what the kinds do not use and lines beyond the count hold 99
  pub told_accepted : telling clean ≡ accepted
  -- a product line is rejected if any of its numbers is another one that is not refused
  pub told_second : telling (put 2 2 0 clean) ∷ map (λ place. telling (put 2 place 1 clean)) (1 ∷ 3 ∷ 4 ∷ 5 ∷ 6 ∷ 7 ∷ 8 ∷ 9 ∷ [])
      ≡ replicate 9 (rejected_at 2)
  pub told_last : map (λ place. telling (put 4 place 1 clean)) (1 ∷ 2 ∷ 3 ∷ 4 ∷ 5 ∷ 6 ∷ 7 ∷ 8 ∷ 9 ∷ []) ≡ replicate 9 (rejected_at 4)
  -- it is if a line that it names has another commitment, or another sum
  pub told_named :
      telling (put 0 3 18 clean) ∷ telling (put 1 3 18 clean) ∷ telling (put 3 1 0 clean) ∷ telling (put 3 2 2 clean) ∷
      telling (put 5 3 18 clean) ∷ []
      ≡ rejected_at 2 ∷ rejected_at 2 ∷ rejected_at 4 ∷ rejected_at 4 ∷ accepted ∷ []
  -- of two lines the first is named; a line at the count is not read
  pub told_first : telling (put 2 9 1 (put 4 9 1 clean)) ≡ rejected_at 2
  pub told_within : check_ledger five_challenges (counted 4 (put 4 9 1 clean)) ≡ accepted
  -- every number is told before a line that is rejected, which is not told beside it
  pub told_after :
      map (λ lines. telling (put 2 9 1 lines))
      (put 5 0 4 clean ∷ put 4 1 4 clean ∷ put 5 3 5 clean ∷ put 4 5 5 clean ∷ put 4 6 5 clean ∷ put 4 9 11 clean ∷ [])
      ≡ map refused_with (35 ∷ 36 ∷ 14 ∷ 14 ∷ 15 ∷ 16 ∷ [])
  -- nor is it told beside a number that every round would be accepted
  pub told_refused :
      telling (put 5 0 4 clean) ∷ telling (put 5 3 5 clean) ∷ check_ledger (base_of 2 3 23 11 1) (found_of clean) ∷
      check_ledger (base_of 2 5 23 11 5) (found_of []) ∷ []
      ≡ map refused_with (35 ∷ 14 ∷ 8 ∷ 10 ∷ [])
  -- the entries make these lines, with zeros in place of 99
  pub made : write_ledger five_challenges (asked sound)
      ≡ wrote
      ((1 ∷ 0 ∷ 0 ∷ 12 ∷ replicate 6 0) ∷
      (1 ∷ 0 ∷ 0 ∷ 8 ∷ replicate 6 0) ∷
      (3 ∷ 0 ∷ 1 ∷ 9 ∷ 18 ∷ 9 ∷ 3 ∷ 7 ∷ 5 ∷ 4 ∷ []) ∷
      (2 ∷ 2 ∷ 1 ∷ replicate 7 0) ∷
      (3 ∷ 3 ∷ 0 ∷ 8 ∷ 4 ∷ 16 ∷ 4 ∷ 6 ∷ 9 ∷ 0 ∷ []) ∷
      (1 ∷ 0 ∷ 0 ∷ 16 ∷ replicate 6 0) ∷ [])
