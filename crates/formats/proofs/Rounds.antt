-- A round file is the list of its rounds: the file of given rounds reads back as them, and the file of the rounds that a file
-- holds is that file.
-- Assumes nothing.
use Prim.Native.Nat.{ℕ, zero, suc, ◌+◌, ◌*◌, ◌^◌, ◌<◌, ◌≤◌}
use mathlib.Core.Path.{◌≡◌, refl, sym, ap, ap₂, subst, ◌∙◌}
use mathlib.Core.Logic.{inl, inr}
use mathlib.Core.List.{List, [], ◌∷◌, ◌++◌, append_assoc, append-nil, flatten, map}
use native.Mathlib.Nat.{mul_comm, mul-suc, mul-zero}
use native.Mathlib.Omega.{arith}
use lib.ListN.{get_or, length, take, drop, length-append}
use lib.Seq.{drop-drop, take-add, take_all, take_at}
use Rattle.types.specs.declared.Header.{Header}
use Rattle.types.specs.declared.Round.{Round}
use Rattle.encoding.specs.Bytes.{bytes_of, AllBytes}
use Rattle.encoding.proofs.Bytes.{length_bytes_of, number_behind, take_bytes_of}
use Rattle.lists.specs.Member.{Member}
use Rattle.lists.specs.Places.{items_at}
use Rattle.lists.proofs.Member.{member_place}
use Rattle.lists.proofs.Places.{get_d_tabulate, items_at_tabulate, length_tabulate, tabulate_agree}
use Rattle.sigma.specs.Reads.{padded_round}
use Rattle.formats.specs.Meaning.{IsRoundFile, IsVersion}
use Rattle.formats.specs.RoundCalls.{no_round}
use Rattle.formats.specs.RoundFile.{
  challenge_width,
  count_field,
  file_version,
  record_bytes,
  record_length,
  record_start,
  round_at,
  round_mark,
  width_of,
}
use Rattle.formats.specs.Rounds.{Words, file_in, rounds_of}
use Rattle.formats.proofs.Appending.{length_record_bytes}
use Rattle.formats.proofs.Files.{length_round_mark}
use Rattle.formats.proofs.Records.{record_bytes_round_at, round_at_record_bytes, round_at_words}

module _ (width : ℕ) (h : Header) where
  -- the bytes of records, one behind the other
  abbrev records : List Round → List ℕ
  records rounds = flatten (map (record_bytes width h) rounds)

  -- they are a record's length for each round
  length_records : (rounds : List Round) → length (records rounds) ≡ record_length width h * length rounds
  unfolding flatten
  length_records [] = sym (mul-zero (record_length width h))
  length_records (round ∷ rounds) =
      length-append (record_bytes width h round) (records rounds)
      ∙ omega (
        arith,
        length_record_bytes width h round,
        length_records rounds,
        mul-suc (record_length width h) (length rounds),
      )

  -- records that stand behind xs are read as the rounds that they were written from
  records_back : (rounds : List Round) (xs ys : List ℕ) → ((round : Round) → Member round rounds → Words width h round)
      → items_at (round_at width h (xs ++ records rounds ++ ys)) (length xs) (record_length width h) (length rounds)
      ≡ map (padded_round h) rounds
  unfolding flatten items_at
  records_back [] xs ys words = refl
  records_back (round ∷ rounds) xs ys words =
      let b = record_bytes width h round in
      let bs = records rounds in
      let w = words round (inl refl) in
      let e₁ : xs ++ (b ++ bs) ++ ys ≡ xs ++ b ++ (bs ++ ys) = simp append_assoc in
      let e₂ : xs ++ (b ++ bs) ++ ys ≡ xs ++ b ++ bs ++ ys = simp append_assoc in
      let next : length xs + record_length width h ≡ length (xs ++ b) =
      omega (arith, length-append xs b, length_record_bytes width h round) in
      ap₂ (λ (r : Round) (rs : List Round). r ∷ rs)
      (ap (λ (s : List ℕ). round_at width h s (length xs)) e₁
      ∙ round_at_record_bytes width h round xs (bs ++ ys) w.commitment w.challenge w.response)
      (ap₂ (λ (s : List ℕ) (at : ℕ). items_at (round_at width h s) at (record_length width h) (length rounds)) e₂ next
      ∙ records_back rounds (xs ++ b) ys (λ r m. words r (inr m)))

  -- rounds that were read are written as the records that they were read from
  records_written : (s : List ℕ) (at n : ℕ) → at + record_length width h * n ≤ length s → AllBytes s
      → records (items_at (round_at width h s) at (record_length width h) n)
      ≡ take (record_length width h * n) (drop at s)
  unfolding flatten items_at
  records_written s at zero fits b = rw (mul-zero (record_length width h))
  records_written s at (suc n) fits b =
      let l = record_length width h in
      let e : l * suc n ≡ l + l * n = omega (arith, mul-suc l n) in
      ap₂ (λ (us vs : List ℕ). us ++ vs) (record_bytes_round_at width h s at (omega arith) b)
      (records_written s (at + l) n (omega arith) b)
      ∙ sym (ap (λ (k : ℕ). take k (drop at s)) e ∙ take-add l (l * n) (drop at s)
      ∙ ap (λ (r : List ℕ). take l (drop at s) ++ take (l * n) r) (drop-drop l at s))

module _ (h : Header) where
  -- the rounds of a file stand a record's length apart
  rounds_items : (f : List ℕ)
      → rounds_of h f ≡ items_at (round_at (challenge_width f) h f) 7 (record_length (challenge_width f) h) (count_field f)
  unfolding rounds_of record_start
  rounds_items f =
      tabulate_agree (count_field f) _ _ (λ k b.
      ap (λ (n : ℕ). round_at (challenge_width f) h f (7 + n)) (mul_comm k (record_length (challenge_width f) h)))
      ∙ sym (items_at_tabulate (round_at (challenge_width f) h f) 7 (record_length (challenge_width f) h) (count_field f))

  -- a file has as many rounds as its count says
  pub length_rounds_of : (f : List ℕ) → length (rounds_of h f) ≡ count_field f
  unfolding rounds_of
  length_rounds_of f = length_tabulate (count_field f) _

  -- round k is the one that is read from record k
  pub round_of_law : (f : List ℕ) (k : ℕ) → k < count_field f
      → get_or (rounds_of h f) k no_round ≡ round_at (challenge_width f) h f (record_start (challenge_width f) h k)
  unfolding rounds_of
  round_of_law f k below = get_d_tabulate (count_field f) _ k no_round below

  -- what holds of every record holds of every round
  pub each_round : (f : List ℕ) (P : Round → Type 0)
      → ((k : ℕ) → k < count_field f → P (round_at (challenge_width f) h f (record_start (challenge_width f) h k)))
      → (round : Round) → Member round (rounds_of h f) → P round
  each_round f P holds round m =
      let (k, inside, same) = member_place no_round round (rounds_of h f) m in
      let below : k < count_field f = omega (arith, length_rounds_of f) in
      subst P (sym (same ∙ round_of_law f k below)) (holds k below)

  -- a round of a file of bytes has 32-bit values and a challenge of the file's width
  pub rounds_words : (f : List ℕ) → AllBytes f → (round : Round) → Member round (rounds_of h f) → Words (challenge_width f) h round
  rounds_words f b =
      each_round f (Words (challenge_width f) h)
      (λ k below. round_at_words (challenge_width f) h f (record_start (challenge_width f) h k) b)

  -- the rounds of a file, written again in its version, are the file
  pub file_in_rounds_of : (f : List ℕ) → IsRoundFile h f → AllBytes f → file_in (file_version f) h (rounds_of h f) ≡ f
  unfolding file_in file_version count_field record_start challenge_width
  file_in_rounds_of f r b =
      let width = challenge_width f in
      let l = record_length width h in
      let long : length f ≡ 7 + l * count_field f = r.exact ∙ omega (arith, mul_comm (count_field f) l) in
      let start : round_mark ++ bytes_of 2 (file_version f) ≡ take 5 f =
      ap (λ (m : List ℕ). m ++ bytes_of 2 (file_version f)) (sym r.mark) ∙ take_bytes_of 2 f 3 (omega arith) b in
      rw (
        start,
        length_rounds_of f,
        take_bytes_of 2 f 5 (omega arith) b,
        rounds_items f,
        records_written width h f 7 (count_field f) (omega arith) b,
        ← take-add 7 (l * count_field f) f,
      )
      (take_all (7 + l * count_field f) f (omega arith))

-- ---- the file of given rounds

-- a version has 16 bits
pub version_small : {version : ℕ} → IsVersion version → version < 2 ^ 16
version_small (inl one) = omega arith
version_small (inr two) = omega arith

module _ (version : ℕ) (h : Header) (rounds : List Round) where
  -- its length
  pub length_file_in : length (file_in version h rounds) ≡ record_start (width_of version) h (length rounds)
  unfolding file_in record_start
  length_file_in =
      simp (length-append, length_bytes_of, length_round_mark)
      (omega (arith, length_records (width_of version) h rounds, mul_comm (length rounds) (record_length (width_of version) h)))

  -- its version
  pub version_file_in : version < 2 ^ 16 → file_version (file_in version h rounds) ≡ version
  unfolding file_in file_version
  version_file_in small =
      number_behind 2 version round_mark (bytes_of 2 (length rounds) ++ records (width_of version) h rounds)
      (file_in version h rounds) 3 (simp append_assoc) length_round_mark small

  -- the width of its challenges
  pub width_file_in : version < 2 ^ 16 → challenge_width (file_in version h rounds) ≡ width_of version
  unfolding challenge_width
  width_file_in small = ap width_of (version_file_in small)

  -- its count
  pub count_file_in : length rounds < 2 ^ 16 → count_field (file_in version h rounds) ≡ length rounds
  unfolding file_in count_field
  count_file_in few =
      number_behind 2 (length rounds) (round_mark ++ bytes_of 2 version) (records (width_of version) h rounds)
      (file_in version h rounds) 5 refl (simp (length-append, length_bytes_of, length_round_mark)) few

  -- it reads back as what was stored of the rounds
  pub rounds_of_file_in : version < 2 ^ 16 → length rounds ≤ 512
      → ((round : Round) → Member round rounds → Words (width_of version) h round)
      → rounds_of h (file_in version h rounds) ≡ map (padded_round h) rounds
  unfolding file_in
  rounds_of_file_in small few words =
      let f = file_in version h rounds in
      let front = round_mark ++ bytes_of 2 version ++ bytes_of 2 (length rounds) in
      let size : length front ≡ 7 = simp (length-append, length_bytes_of, length_round_mark) in
      let l = record_length (width_of version) h in
      rounds_items h f
      ∙ ap₂ (λ (width n : ℕ). items_at (round_at width h f) 7 (record_length width h) n) (width_file_in small) (count_file_in (omega arith))
      ∙ ap₂ (λ (s : List ℕ) (at : ℕ). items_at (round_at (width_of version) h s) at l (length rounds)) (sym (append-nil f))
      (sym size) ∙ records_back (width_of version) h rounds front [] words

  -- in either version, of at most 512 rounds, it is a round file
  pub file_in_is_file : IsVersion version → length rounds ≤ 512 → IsRoundFile h (file_in version h rounds)
  unfolding file_in
  file_in_is_file known few =
      let small = version_small known in
      let count = count_file_in (omega arith) in
      record {
        mark = simp append_assoc (take_at round_mark _ 3 length_round_mark);
        version = rw (version_file_in small) known;
        few = omega arith;
        exact = length_file_in ∙ ap₂ (λ (width n : ℕ). record_start width h n) (sym (width_file_in small)) (sym count);
      }
