-- Rounds appended one by one: after a refused call every call is refused, so where the last call is not refused none was. What is
-- written then is counted, and every round fitted.
-- Assumes nothing.
use Prim.Native.Nat.{ℕ, suc, ◌+◌, ◌<◌, ◌≤◌}
use mathlib.Core.Path.{◌≡◌, refl, sym, ap, subst, ◌∙◌}
use mathlib.Core.Logic.{inl, inr, ⊎_elim}
use mathlib.Core.List.{List, [], ◌∷◌, ◌++◌}
use native.Mathlib.Numerals.{add-one}
use native.Mathlib.Omega.{arith}
use lib.ListN.{length, length-append, take}
use Rattle.types.specs.declared.Counted.{Counted}
use Rattle.types.specs.declared.Round.{Round}
use Rattle.lists.specs.Member.{Member}
use Rattle.rules.proofs.Determined.{either}
use Rattle.formats.specs.Append.{append, empty_file}
use Rattle.formats.specs.Meaning.{IsRoundFile, IsVersion, Loads}
use Rattle.formats.specs.Ours.{append_each}
use Rattle.formats.specs.Outcome.{Puts, front}
use Rattle.formats.specs.RoundCalls.{count_rounds}
use Rattle.formats.specs.RoundFile.{challenge_width, file_version, record_length, record_start, width_in_use, width_of}
use Rattle.formats.specs.Rounds.{append_each as append_each_by, file_in}
use Rattle.formats.specs.Sheet.{header_of}
use Rattle.formats.specs.Write.{Writing}
use Rattle.formats.proofs.Appending.{Narrow, append_refused, append_runs, in_use_long}
use Rattle.formats.proofs.Files.{count_runs}
use Rattle.formats.proofs.Growing.{append_grows}
use Rattle.formats.proofs.Records.{record_start_suc}
use Rattle.formats.proofs.RoundFileRoundTrip.{AllNarrow, append_puts, file_in_nothing}
use Rattle.formats.proofs.Rounds.{file_in_is_file, length_file_in, version_file_in, version_small, width_file_in}
use Rattle.formats.proofs.Writing.{empty_puts, empty_refused, empty_runs, puts_front}

-- the record writer on what a call before it left
abbrev next : List ℕ → Writing → Round → Writing
next s w round = append s w.buffer w.answer.length round

module _ (s : List ℕ) where
  -- after a refused call, which answers length 0, every call is refused
  stays_refused : (rounds : List Round) (w : Writing) → 0 < w.answer.refusal → w.answer.length ≡ 0
      → 0 < (append_each s w rounds).answer.refusal
  unfolding append_each_by
  stays_refused [] w some none = some
  stays_refused (round ∷ rounds) w some none =
      let refused : 0 < (next s w round).answer.refusal =
      either (next s w round).answer.refusal
      (λ e. absurd (omega (arith, in_use_long ((append_runs s w.buffer w.answer.length round).0 e).1))) (λ h. h) in
      stays_refused rounds (next s w round) refused (append_refused s w.buffer w.answer.length round refused).answered

  -- so where the last call is not refused, the first was not
  first_runs : (w : Writing) (round : Round) (rounds : List Round) → (append_each s w (round ∷ rounds)).answer.refusal ≡ 0
      → (next s w round).answer.refusal ≡ 0
  unfolding append_each_by
  first_runs w round rounds e =
      either (next s w round).answer.refusal (λ none. none) (λ some.
      absurd (omega (
        arith,
        stays_refused rounds (next s w round) some (append_refused s w.buffer w.answer.length round some).answered,
      )))

  -- nor was the call that made the empty file
  pub empty_ran : (version : ℕ) (buffer : List ℕ) (rounds : List Round)
      → (append_each s (empty_file version buffer) rounds).answer.refusal ≡ 0 → (empty_file version buffer).answer.refusal ≡ 0
  empty_ran version buffer rounds e =
      either (empty_file version buffer).answer.refusal (λ none. none) (λ some.
      absurd (omega (arith, stays_refused rounds (empty_file version buffer) some (empty_refused version buffer some).answered)))

  -- what is written onto a file that is counted is counted
  each_counted : (rounds : List Round) (w : Writing) → (w.answer.refusal ≡ 0 → (count_rounds s (front w)).refusal ≡ 0)
      → (append_each s w rounds).answer.refusal ≡ 0 → (count_rounds s (front (append_each s w rounds))).refusal ≡ 0
  unfolding append_each_by
  each_counted [] w counted e = counted e
  each_counted (round ∷ rounds) w counted e =
      each_counted rounds (next s w round)
      (λ runs. ap (λ (c : Counted). c.refusal) (append_grows s w.buffer w.answer.length round runs).count) e

module _ (s : List ℕ) (l : Loads s) where
  -- an empty file is counted, and so what is written onto it
  pub written_counted : (version : ℕ) (buffer : List ℕ) (rounds : List Round)
      → (append_each s (empty_file version buffer) rounds).answer.refusal ≡ 0
      → (count_rounds s (front (append_each s (empty_file version buffer) rounds))).refusal ≡ 0
  written_counted version buffer rounds =
      each_counted s rounds (empty_file version buffer) (λ e.
      let empty = puts_front (empty_puts version buffer e) ∙ sym (file_in_nothing version (header_of s)) in
      (count_runs s _).1 (
        l,
        subst (IsRoundFile (header_of s)) (sym empty)
            (file_in_is_file version (header_of s) [] ((empty_runs version buffer).0 e).0 (omega arith)),
      ))

  module _ {version : ℕ} (known : IsVersion version) (buffer : List ℕ) where
    -- a round that was appended to the file of some rounds fitted
    step_fits : (w : Writing) (done : List Round) (round : Round) → Puts (file_in version (header_of s) done) buffer w
        → (next s w round).answer.refusal ≡ 0
        → Narrow version round.challenge × (record_start (width_of version) (header_of s) (suc (length done)) ≤ length buffer)
    step_fits w done round p e =
        let h = header_of s in
        let used = w.answer.length in
        let (sheet, u, narrow, fits) = (append_runs s w.buffer used round).0 e in
        let small = version_small known in
        let found : file_version (take used w.buffer) ≡ version = ap file_version (puts_front p) ∙ version_file_in version h done small in
        let width : width_in_use w.buffer used ≡ width_of version = ap challenge_width (puts_front p) ∙ width_file_in version h done small in
        let room : used + record_length (width_of version) h ≤ length w.buffer =
        subst (λ (n : ℕ). used + record_length n h ≤ length w.buffer) width fits in
        let old : used ≡ record_start (width_of version) h (length done) = p.answered ∙ length_file_in version h done in
        (λ two. narrow (found ∙ two), omega (arith, record_start_suc (width_of version) h (length done), p.size))

    -- so all rounds that were appended one by one fitted
    each_fits : (rounds : List Round) (w : Writing) (done : List Round) → Puts (file_in version (header_of s) done) buffer w
        → record_start (width_of version) (header_of s) (length done) ≤ length buffer → length done + length rounds ≤ 512
        → (append_each s w rounds).answer.refusal ≡ 0
        → AllNarrow version rounds × (record_start (width_of version) (header_of s) (length done + length rounds) ≤ length buffer)
    unfolding append_each_by
    each_fits [] w done p room few e =
        let sum : length done + 0 ≡ length done = omega arith in
        (λ round m. absurd m, rw sum room)
    each_fits (round ∷ rounds) w done p room few e =
        let runs = first_runs s w round rounds e in
        let (narrow, fits) = step_fits w done round p runs in
        let more : length (done ++ round ∷ []) ≡ suc (length done) = length-append done (round ∷ []) ∙ add-one (length done) in
        let sum : length (done ++ round ∷ []) + length rounds ≡ length done + suc (length rounds) = omega arith in
        let (others, all) =
        each_fits rounds (next s w round) (done ++ round ∷ []) (append_puts known s l buffer w done round p narrow (omega arith) fits)
        (rw more fits) (omega arith) e in (
          λ r m. ⊎_elim (λ same. subst (λ (x : Round). Narrow version x.challenge) (sym same) narrow) (others r) m,
          subst (λ (n : ℕ). record_start (width_of version) (header_of s) n ≤ length buffer) sum all,
        )

    -- onto an empty file
    pub written_fits : (rounds : List Round) → length rounds ≤ 512
        → (append_each s (empty_file version buffer) rounds).answer.refusal ≡ 0
        → AllNarrow version rounds × (record_start (width_of version) (header_of s) (length rounds) ≤ length buffer)
    unfolding record_start
    written_fits rounds few e =
        let made = empty_ran s version buffer rounds e in
        let sum : 0 + length rounds ≡ length rounds = omega arith in
        let p = subst (λ (bytes : List ℕ). Puts bytes buffer (empty_file version buffer)) (sym (file_in_nothing version (header_of s)))
        (empty_puts version buffer made) in
        let (narrow, room) = each_fits rounds (empty_file version buffer) [] p (omega (arith, ((empty_runs version buffer).0 made).1))
        (omega arith) e in
        (narrow, subst (λ (n : ℕ). record_start (width_of version) (header_of s) n ≤ length buffer) sum room)
