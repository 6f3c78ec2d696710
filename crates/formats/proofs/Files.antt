-- A round file is read exactly where none of 01's conditions holds, and what the calls that read it answer then.
-- Assumes nothing.
use Prim.Native.Nat.{ℕ, ◌<◌, ◌≤◌}
use mathlib.Core.Path.{◌≡◌, refl, sym, ap, ◌∙◌}
use mathlib.Core.Logic.{◌↔◌, inl, inr}
use mathlib.Core.Bool.{Bool, true, false, cond, not, ◌||◌}
use mathlib.Core.List.{List}
use native.Mathlib.Omega.{arith}
use lib.Dec.{eqb, leb, ltb}
use lib.ListN.{length, take}
use borrow.Author.Tests.{leb-false, lt-leb, ltb-false, le-ltb}
use Rattle.types.specs.declared.Header.{Header}
use Rattle.encoding.specs.Text.{ascii}
use Rattle.lists.proofs.Places.{tabulate_agree}
use Rattle.rules.specs.Call.{number_of}
use Rattle.rules.proofs.Call.{answer_number, answer_refused, answer_value}
use Rattle.rules.proofs.Says.{says_equal, says_or}
use Rattle.sigma.specs.Comparison.{differ}
use Rattle.sigma.proofs.Calculus.{says_passes, both_fail}
use Rattle.sigma.proofs.Comparison.{differ_false}
use Rattle.formats.specs.Append.{bad_in_use}
use Rattle.formats.specs.Load.{on_sheet}
use Rattle.formats.specs.Meaning.{Loads, HasWidth, IsRoundFile, IsVersion, InUse}
use Rattle.formats.specs.Ours.{rounds_read}
use Rattle.formats.specs.RoundCalls.{check_round, checking, count_rounds, counting, fetch_round, fetching, no_round}
use Rattle.formats.specs.RoundFile.{
  bad_file,
  challenge_width,
  count_field,
  file_version,
  record_start,
  round_at,
  round_mark,
  unknown_version,
  width_of,
}
use Rattle.formats.specs.Rounds.{rounds_of}
use Rattle.formats.specs.Sheet.{header_of}
use Rattle.formats.proofs.Loads.{begins}
use Rattle.formats.proofs.OnSheet.{on_sheet_runs}

-- the mark has three bytes
pub length_round_mark : length round_mark ≡ 3
unfolding round_mark ascii
length_round_mark = refl

-- a record begins behind the seven bytes of the fixed fields
pub record_behind : (width : ℕ) (h : Header) (k : ℕ) → 7 ≤ record_start width h k
unfolding record_start
record_behind width h k = omega arith

-- ---- the width of a file's challenges

-- of a known version it is that version's
pub width_known : {version : ℕ} → IsVersion version → HasWidth version (width_of version)
unfolding width_of
width_known (inl one) = inl (one, rw one)
width_known (inr two) = inr (two, rw two)

-- and there is no other
pub width_only : {version width : ℕ} → HasWidth version width → width_of version ≡ width
unfolding width_of
width_only (inl (one, four)) = rw one (sym four)
width_only (inr (two, both)) = rw two (sym both)

-- it has one to four bytes
pub width_some : (version : ℕ) → (0 < width_of version) × (width_of version ≤ 4)
unfolding width_of
width_some version = cases (eqb version 2)
  where
    cases : (b : Bool) → (◌<◌ 0 (cond b 2 4)) × (◌≤◌ (cond b 2 4) 4)
    cases true = (omega arith, omega arith)
    cases false = (omega arith, omega arith)

-- and so has a file's
pub width_small : (f : List ℕ) → challenge_width f ≤ 4
unfolding challenge_width
width_small f = (width_some (file_version f)).1

-- files of one version have one width
pub width_version : (f f' : List ℕ) → file_version f ≡ file_version f' → challenge_width f ≡ challenge_width f'
unfolding challenge_width
width_version f f' e = ap width_of e

-- a version that is not refused is known
pub version_passes : (version : ℕ) → (unknown_version version ≡ false) ↔ IsVersion version
unfolding unknown_version
version_passes version = says_passes (says_or (says_equal version 1) (says_equal version 2))

-- not 12: the file is a round file of the sheet
pub file_passes : (h : Header) (f : List ℕ) → (bad_file h f ≡ false) ↔ IsRoundFile h f
unfolding bad_file
file_passes h f =
    let short = ltb (length f) 7 in
    let other = differ 3 f round_mark in
    let version = unknown_version (file_version f) in
    let many = ltb 512 (count_field f) in
    let fits = not (eqb (length f) (record_start (challenge_width f) h (count_field f))) in
    let first = both_fail (short || other || version || many) fits in
    let second = both_fail (short || other || version) many in
    let third = both_fail (short || other) version in
    let fourth = both_fail short other in
    let agree = differ_false 3 f round_mark in
    let passes = says_passes (says_equal (length f) (record_start (challenge_width f) h (count_field f))) in
    let numbered = version_passes (file_version f) in (
      λ e.
          let (a, exact) = first.0 e in
          let (b, few) = second.0 a in
          let (c, versioned) = third.0 b in
          let (d, marked) = fourth.0 c in
          let long = ltb-false (length f) 7 d in
          record {
            mark = (begins 3 f round_mark length_round_mark (omega arith)).0 (agree.0 marked);
            version = numbered.0 versioned;
            few = ltb-false 512 (count_field f) few;
            exact = passes.0 exact;
          },
      λ r.
          let long : 7 ≤ length f = omega (arith, r.exact, record_behind (challenge_width f) h (count_field f)) in
          let marked = agree.1 ((begins 3 f round_mark length_round_mark (omega arith)).1 r.mark) in
          let a = fourth.1 (le-ltb (length f) 7 long, marked) in
          let b = third.1 (a, numbered.1 r.version) in
          first.1 (second.1 (b, le-ltb 512 (count_field f) r.few), passes.1 r.exact),
    )

-- not 12 for the writer: the bytes in use are a round file with room for a round
pub in_use_passes : (h : Header) (buffer : List ℕ) (used : ℕ) → (bad_in_use h buffer used ≡ false) ↔ InUse h buffer used
unfolding bad_in_use
in_use_passes h buffer used =
    let beyond = ltb (length buffer) used in
    let bad = bad_file h (take used buffer) in
    let full = leb 512 (count_field (take used buffer)) in
    let first = both_fail (beyond || bad) full in
    let second = both_fail beyond bad in (
      λ e.
          let (a, room) = first.0 e in
          let (within, good) = second.0 a in
          record {
            inside = ltb-false (length buffer) used within;
            file = (file_passes h (take used buffer)).0 good;
            room = leb-false 512 (count_field (take used buffer)) room;
          },
      λ u.
          let a = second.1 (le-ltb (length buffer) used u.inside, (file_passes h (take used buffer)).1 u.file) in
          first.1 (a, lt-leb 512 (count_field (take used buffer)) u.room),
    )

-- not 13: the round is one of the file's
pub number_passes : (f : List ℕ) (k : ℕ) → (leb (count_field f) k ≡ false) ↔ (k < count_field f)
number_passes f k = (leb-false (count_field f) k, lt-leb (count_field f) k)

module _ (s f : List ℕ) where
  -- the number that counting answers
  pub count_number : (count_rounds s f).refusal ≡ number_of (on_sheet s (counting (header_of s) f))
  unfolding count_rounds counting
  count_number = answer_number (on_sheet s (counting (header_of s) f)) (λ counted. counted.refusal) refl (λ n. refl)

  -- a file's rounds are counted exactly if the sheet loads and the file is one of its round files
  pub count_runs : ((count_rounds s f).refusal ≡ 0) ↔ (Loads s × IsRoundFile (header_of s) f)
  unfolding counting
  count_runs =
      let runs = on_sheet_runs s (counting (header_of s) f) tt in
      let passes = file_passes (header_of s) f in (
        λ e. let (l, (file, none)) = runs.0 (sym count_number ∙ e) in (l, passes.0 file),
        λ (l, r). count_number ∙ runs.1 (l, (passes.1 r, tt)),
      )

  -- the count is then the file's own
  pub count_given : (count_rounds s f).refusal ≡ 0 → count_rounds s f ≡ record { refusal = 0; count = count_field f }
  unfolding count_rounds counting
  count_given e = answer_value (on_sheet s (counting (header_of s) f)) (sym count_number ∙ e)

  module _ (k : ℕ) where
    -- the number that checking answers
    pub check_number : check_round s f k ≡ number_of (on_sheet s (checking (header_of s) f k))
    unfolding check_round checking
    check_number = answer_number (on_sheet s (checking (header_of s) f k)) (λ n. n) refl (λ n. refl)

    -- a round passes the check exactly if the sheet loads, the file is one of its round files and has the round
    pub check_runs : (check_round s f k ≡ 0) ↔ (Loads s × IsRoundFile (header_of s) f × (k < count_field f))
    unfolding checking
    check_runs =
        let runs = on_sheet_runs s (checking (header_of s) f k) tt in
        let passes = file_passes (header_of s) f in
        let below = number_passes f k in (
          λ e. let (l, (file, (number, none))) = runs.0 (sym check_number ∙ e) in (l, passes.0 file, below.0 number),
          λ (l, r, b). check_number ∙ runs.1 (l, (passes.1 r, (below.1 b, tt))),
        )

    -- reading answers the number of the check
    pub fetch_number : (fetch_round s f k).refusal ≡ check_round s f k
    unfolding fetch_round fetching number_of
    fetch_number =
        answer_number (on_sheet s (fetching (header_of s) f k)) (λ fetched. fetched.refusal) refl (λ n. refl) ∙ sym check_number

    -- if that is 0, it gives the values that stand in the record
    pub fetch_given : check_round s f k ≡ 0
        → fetch_round s f k
        ≡ record { refusal = 0; round = round_at (challenge_width f) (header_of s) f (record_start (challenge_width f) (header_of s) k) }
    unfolding fetch_round fetching number_of
    fetch_given e = answer_value (on_sheet s (fetching (header_of s) f k)) (sym check_number ∙ e)

    -- else zeros
    pub fetch_refused : 0 < check_round s f k → fetch_round s f k ≡ record { refusal = check_round s f k; round = no_round }
    unfolding fetch_round fetching number_of
    fetch_refused some = rw check_number (answer_refused (on_sheet s (fetching (header_of s) f k)) (rw check_number at some))

-- the rounds that the calls read are the file's
pub rounds_read_law : (s f : List ℕ) → Loads s → IsRoundFile (header_of s) f → rounds_read s f ≡ rounds_of (header_of s) f
unfolding rounds_of
rounds_read_law s f l file =
    rw (count_given s f ((count_runs s f).1 (l, file)))
    (tabulate_agree (count_field f) _ _ (λ k h. rw (fetch_given s f k ((check_runs s f k).1 (l, file, h)))))
