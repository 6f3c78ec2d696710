-- Round files, there and back: rounds appended one by one to the empty file give the file of these rounds, which reads back as
-- them, and the rounds of a file, appended one by one, give that file.
-- Assumes nothing.
use Prim.Native.Nat.{ℕ, suc, ◌+◌, ◌-◌, ◌^◌, ◌<◌, ◌≤◌}
use mathlib.Core.Path.{◌≡◌, refl, sym, ap, ap₂, ◌∙◌, subst}
use mathlib.Core.Logic.{inl, inr}
use mathlib.Core.List.{List, [], ◌∷◌, ◌++◌, append_assoc, append-nil, flatten, map, map-append}
use native.Mathlib.Nat.{zero-add}
use native.Mathlib.Numerals.{add-one}
use native.Mathlib.Omega.{arith}
use lib.ListN.{length, take, drop, length-append}
use lib.Seq.{append_snoc, drop-drop, sets}
use Rattle.types.specs.declared.Header.{Header}
use Rattle.types.specs.declared.Round.{Round}
use Rattle.encoding.specs.Bytes.{bytes_of, AllBytes}
use Rattle.encoding.proofs.Bytes.{length_bytes_of}
use Rattle.encoding.proofs.Replaced.{sets_middle}
use Rattle.lists.specs.Member.{Member}
use Rattle.lists.proofs.Rows.{flatten_append}
use Rattle.sigma.specs.Reads.{padded_round}
use Rattle.formats.specs.Append.{append, appended, empty_file}
use Rattle.formats.specs.Meaning.{InUse, IsRoundFile, IsVersion, Loads}
use Rattle.formats.specs.Ours.{append_each}
use Rattle.formats.specs.Outcome.{Puts}
use Rattle.formats.specs.RoundFile.{
  width_in_use,
  width_of,
  challenge_width,
  count_field,
  file_version,
  no_rounds,
  record_bytes,
  record_length,
  record_start,
  round_mark,
}
use Rattle.formats.specs.Rounds.{Words, append_each as append_each_by, file_in, rounds_of}
use Rattle.formats.specs.Sheet.{header_of}
use Rattle.formats.specs.Write.{Writing}
use Rattle.formats.proofs.Appending.{Narrow, append_given, append_runs, appended_behind, appended_size, width_narrow}
use Rattle.formats.proofs.Files.{length_round_mark, record_behind}
use Rattle.formats.proofs.Growing.{grown, in_use_grown}
use Rattle.formats.proofs.Records.{record_start_later, record_start_suc}
use Rattle.formats.proofs.Rounds.{
  count_file_in,
  file_in_is_file,
  file_in_rounds_of,
  length_file_in,
  length_rounds_of,
  rounds_words,
  rounds_of_file_in,
  version_file_in,
  version_small,
  width_file_in,
}
use Rattle.formats.proofs.Writing.{empty_puts, empty_runs, puts_front}

-- lists that agree from a place on agree from every later place on
drop_later : (n k : ℕ) (xs ys : List ℕ) → n ≤ k → drop n xs ≡ drop n ys → drop k xs ≡ drop k ys
drop_later n k xs ys b e =
    let sum : n + (k - n) ≡ k = omega arith in
    ap (λ (j : ℕ). drop j xs) (sym sum) ∙ sym (drop-drop (k - n) n xs) ∙ ap (drop (k - n)) e ∙ drop-drop (k - n) n ys
    ∙ ap (λ (j : ℕ). drop j ys) sum

-- the file of no rounds
pub file_in_nothing : (version : ℕ) (h : Header) → file_in version h [] ≡ no_rounds version
unfolding file_in no_rounds flatten
file_in_nothing version h = append-nil (no_rounds version)

-- the file of given rounds, grown by one
pub file_in_grown : (version : ℕ) → version < 2 ^ 16 → (h : Header) (rounds : List Round) (round : Round) → length rounds < 2 ^ 16
    → grown h (file_in version h rounds) round ≡ file_in version h (rounds ++ round ∷ [])
unfolding file_in flatten
file_in_grown version small h rounds round few =
    let front = round_mark ++ bytes_of 2 version in
    let count = bytes_of 2 (length rounds) in
    let records = flatten (map (record_bytes (width_of version) h) rounds) in
    let bytes = record_bytes (width_of version) h round in
    let raised = bytes_of 2 (length rounds + 1) in
    let size : length front ≡ 5 = simp (length-append, length_bytes_of, length_round_mark) in
    let width : length raised ≡ length count = length_bytes_of 2 (length rounds + 1) ∙ sym (length_bytes_of 2 (length rounds)) in
    let regrouped : front ++ count ++ records ++ bytes ≡ front ++ count ++ (records ++ bytes) = simp append_assoc in
    let all : flatten (map (record_bytes (width_of version) h) (rounds ++ round ∷ [])) ≡ records ++ bytes =
    ap flatten (map-append (record_bytes (width_of version) h) rounds (round ∷ []))
    ∙ flatten_append (map (record_bytes (width_of version) h) rounds) (bytes ∷ []) ∙ ap (λ (l : List ℕ). records ++ l) (append-nil bytes) in
    ap (λ (width : ℕ). sets (file_in version h rounds ++ record_bytes width h round) 5 (bytes_of 2 (count_field (file_in version h rounds) + 1)))
    (width_file_in version h rounds small)
    ∙ ap₂ (λ (l : List ℕ) (n : ℕ). sets l 5 (bytes_of 2 (n + 1))) regrouped (count_file_in version h rounds few)
    ∙ ap (λ (at : ℕ). sets (front ++ count ++ (records ++ bytes)) at raised) (sym size)
    ∙ sets_middle front count (records ++ bytes) raised width
    ∙ ap₂ (λ (n : ℕ) (l : List ℕ). front ++ bytes_of 2 n ++ l) (sym (length-append rounds (round ∷ []))) (sym all)

-- records of the version can hold the challenges of all rounds
abbrev pub AllNarrow : ℕ → List Round → Type 0
AllNarrow version rounds = (round : Round) → Member round rounds → Narrow version round.challenge

module _ {version : ℕ} (known : IsVersion version) (s : List ℕ) (l : Loads s) (buffer : List ℕ) where
  -- one round more
  pub append_puts : (w : Writing) (rounds : List Round) (round : Round) → Puts (file_in version (header_of s) rounds) buffer w
      → Narrow version round.challenge → length rounds < 512
      → record_start (width_of version) (header_of s) (suc (length rounds)) ≤ length buffer
      → Puts (file_in version (header_of s) (rounds ++ round ∷ [])) buffer (append s w.buffer w.answer.length round)
  unfolding appended
  append_puts w rounds round p narrow few fits =
      let h = header_of s in
      let used = w.answer.length in
      let small = version_small known in
      let grows = record_start_suc (width_of version) h (length rounds) in
      let old : used ≡ record_start (width_of version) h (length rounds) = p.answered ∙ length_file_in version h rounds in
      let file = puts_front p in
      let count : count_field (take used w.buffer) ≡ length rounds = ap count_field file ∙ count_file_in version h rounds (omega arith) in
      let u : InUse h w.buffer used = record {
        inside = omega (arith, p.size);
        file = subst (IsRoundFile h) (sym file) (file_in_is_file version h rounds known (omega arith));
        room = omega arith;
      } in
      let found : file_version (take used w.buffer) ≡ version = ap file_version file ∙ version_file_in version h rounds small in
      let width : width_in_use w.buffer used ≡ width_of version = ap challenge_width file ∙ width_file_in version h rounds small in
      let room : used + record_length (width_in_use w.buffer used) h ≤ length w.buffer = rw width (omega (arith, p.size)) in
      let end = length (file_in version h (rounds ++ round ∷ [])) in
      let new : end ≡ used + record_length (width_in_use w.buffer used) h =
      length_file_in version h (rounds ++ round ∷ [])
      ∙ ap (record_start (width_of version) h) (length-append rounds (round ∷ []) ∙ add-one (length rounds)) ∙ rw width (omega arith) in
      let runs = (append_runs s w.buffer used round).1 (l, u, (λ two. narrow (sym found ∙ two)), room) in
      rw (append_given s w.buffer used round runs) (record {
        number = refl;
        answered = sym new;
        start =
            ap (λ (n : ℕ). take n (appended h w.buffer used round)) new ∙ in_use_grown u round room
            ∙ ap (λ (f : List ℕ). grown h f round) file ∙ file_in_grown version small h rounds round (omega arith);
        behind =
            let seen = record_behind (width_of version) h (length rounds) in
            appended_behind h w.buffer used round end (omega arith) (omega arith)
            ∙ drop_later (length (file_in version h rounds)) end w.buffer buffer (omega (arith, p.answered)) p.behind;
        size = appended_size h w.buffer used round ∙ p.size;
      })

  -- all rounds, one by one
  append_each_puts : (rounds : List Round) (w : Writing) (done : List Round) → Puts (file_in version (header_of s) done) buffer w
      → AllNarrow version rounds → length done + length rounds ≤ 512
      → record_start (width_of version) (header_of s) (length done + length rounds) ≤ length buffer
      → Puts (file_in version (header_of s) (done ++ rounds)) buffer (append_each s w rounds)
  unfolding append_each_by
  append_each_puts [] w done p narrow few fits = rw (append-nil done) p
  append_each_puts (round ∷ rounds) w done p narrow few fits =
      let more : length (done ++ round ∷ []) ≡ suc (length done) = length-append done (round ∷ []) ∙ add-one (length done) in
      let sum : length (done ++ round ∷ []) + length rounds ≡ length done + suc (length rounds) = omega arith in
      let first : record_start (width_of version) (header_of s) (suc (length done)) ≤ length buffer =
      omega (
        arith,
        record_start_suc (width_of version) (header_of s) (length done),
        record_start_later (width_of version) (header_of s) (length done) (length done + suc (length rounds)) (omega arith),
      ) in
      subst (λ (l : List Round). Puts (file_in version (header_of s) l) buffer (append_each s (append s w.buffer w.answer.length round) rounds))
      (append_snoc done round rounds)
      (append_each_puts rounds (append s w.buffer w.answer.length round) (done ++ round ∷ [])
      (append_puts w done round p (narrow round (inl refl)) (omega arith) first) (λ r m. narrow r (inr m)) (omega arith) (rw sum fits))

  -- at most 512 rounds appended one by one to the empty file, in a buffer that can hold them, give the file of these rounds
  pub append_each_law : (rounds : List Round) → AllNarrow version rounds → length rounds ≤ 512
      → record_start (width_of version) (header_of s) (length rounds) ≤ length buffer
      → Puts (file_in version (header_of s) rounds) buffer (append_each s (empty_file version buffer) rounds)
  append_each_law rounds narrow few fits =
      let long : 7 ≤ length buffer = omega (arith, record_behind (width_of version) (header_of s) (length rounds)) in
      let empty = empty_puts version buffer ((empty_runs version buffer).1 (known, long)) in
      append_each_puts rounds (empty_file version buffer) [] (rw (file_in_nothing version (header_of s)) empty) narrow
      (omega arith) (rw (zero-add (length rounds)) fits)

  -- the bytes in use are then a round file of the version that reads back as what was stored of the rounds
  pub append_each_reads : (rounds : List Round) → length rounds ≤ 512
      → record_start (width_of version) (header_of s) (length rounds) ≤ length buffer
      → ((round : Round) → Member round rounds → Words (width_of version) (header_of s) round)
      → (w : Writing) → w ≡ append_each s (empty_file version buffer) rounds
      → (file_version (take w.answer.length w.buffer) ≡ version)
      × IsRoundFile (header_of s) (take w.answer.length w.buffer)
      × (rounds_of (header_of s) (take w.answer.length w.buffer) ≡ map (padded_round (header_of s)) rounds)
  append_each_reads rounds few fits words w e =
      let h = header_of s in
      let small = version_small known in
      let narrow : AllNarrow version rounds = λ round m. width_narrow version round.challenge (words round m).challenge in
      rw (e, puts_front (append_each_law rounds narrow few fits)) (
        version_file_in version h rounds small,
        file_in_is_file version h rounds known few,
        rounds_of_file_in version h rounds small few words,
      )

-- the rounds of a round file, appended one by one to the empty file of its version, give that file
pub append_rounds : (s : List ℕ) → Loads s → (buffer f : List ℕ) → IsRoundFile (header_of s) f → AllBytes f → length f ≤ length buffer
    → Puts f buffer (append_each s (empty_file (file_version f) buffer) (rounds_of (header_of s) f))
unfolding challenge_width
append_rounds s l buffer f r b fits =
    let h = header_of s in
    let count = length_rounds_of h f in
    subst (λ (bytes : List ℕ). Puts bytes buffer (append_each s (empty_file (file_version f) buffer) (rounds_of h f)))
    (file_in_rounds_of h f r b)
    (append_each_law r.version s l buffer (rounds_of h f)
    (λ round m. width_narrow (file_version f) round.challenge (rounds_words h f b round m).challenge)
    (omega (arith, r.few)) (rw count (omega (arith, r.exact))))
