-- Exactly when the calls on sheets and round files are not refused, in other words than the conditions: it holds of the definitions.
-- Assumes nothing.
use Prim.Native.Nat.{ℕ, ◌+◌, ◌*◌, ◌^◌, ◌<◌, ◌≤◌}
use mathlib.Core.Path.{◌≡◌, sym, ap, subst, ◌∙◌}
use mathlib.Core.Logic.{◌↔◌, ◌⊎◌, inl, inr, ⊎_elim}
use mathlib.Core.List.{List}
use native.Mathlib.Omega.{arith}
use lib.ListN.{length, take}
use Rattle.types.specs.declared.Counted.{Counted}
use Rattle.types.specs.declared.Round.{Round}
use Rattle.encoding.specs.Bytes.{AllBytes, number_at}
use Rattle.encoding.specs.Text.{ascii}
use Rattle.encoding.proofs.Bytes.{number_at_take}
use Rattle.lists.proofs.Member.{member_at}
use Rattle.rules.proofs.Determined.{below_or_not, either}
use Rattle.sigma.specs.Instance.{Instance, statement_at}
use Rattle.sigma.specs.Valid.{Valid}
use Rattle.formats.specs.Append.{append, empty_file}
use Rattle.formats.specs.Convert.{convert, other_version}
use Rattle.formats.specs.Converts.{OneAndOther}
use Rattle.formats.specs.Encode.{encode, sheet_of}
use Rattle.formats.specs.Load.{load, load_refusal}
use Rattle.formats.specs.Meaning.{HasWidth, InUse, IsVersion, read_instance, record_size}
use Rattle.formats.specs.Ours.{append_each, file_calls, loaded, rounds_read}
use Rattle.formats.specs.Outcome.{Puts}
use Rattle.formats.specs.RoundCalls.{check_round, count_rounds, no_round}
use Rattle.formats.specs.RoundFile.{challenge_width, file_version, record_length, width_in_use, width_of}
use Rattle.formats.specs.Rounds.{rounds_of}
use Rattle.formats.specs.RunsWhere.{FilesRun, IsSheet}
use Rattle.formats.specs.Sheet.{entry_count, header_of, instance_of, sheet_length, sheet_mark, version_of}
use Rattle.formats.proofs.AppendedEach.{written_counted, written_fits}
use Rattle.formats.proofs.Appending.{Narrow, append_runs, in_use_long, width_narrow}
use Rattle.formats.proofs.ConvertCalls.{convert_runs}
use Rattle.formats.proofs.Converting.{narrow_records, other_known, other_version_law}
use Rattle.formats.proofs.Converts.{other_only}
use Rattle.formats.proofs.Entries.{entry_count_exponent, entry_count_root}
use Rattle.formats.proofs.FileRefusals.{file_refusals}
use Rattle.formats.proofs.Files.{check_runs, count_given, count_runs, fetch_number, rounds_read_law, width_known, width_only}
use Rattle.formats.proofs.FilesByCalls.{rewritten}
use Rattle.formats.proofs.Loads.{loaded_given, loads, loads_valid}
use Rattle.formats.proofs.RoundFileRoundTrip.{append_each_law}
use Rattle.formats.proofs.Rounds.{each_round, length_rounds_of, round_of_law}
use Rattle.formats.proofs.SameCommitment.{same_runs}
use Rattle.formats.proofs.SheetRoundTrip.{encode_loads}
use Rattle.formats.proofs.Unread.{read_same, valid_same}
use Rattle.formats.proofs.Writing.{empty_runs, encode_runs, length_sheet_of, puts_front}

-- ---- sheets

-- any bytes load exactly if they are a sheet
sheet_exactly : (s : List ℕ) → (load_refusal s ≡ 0) ↔ IsSheet s
unfolding header_of instance_of version_of sheet_mark sheet_length ascii statement_at
sheet_exactly s =
    let h = header_of s in
    let sized : (n : ℕ) → entry_count h ≡ n → sheet_length h ≡ 20 + 4 * n + 4 * h.rows = λ n. ap (λ (k : ℕ). 20 + 4 * k + 4 * h.rows) in (
      λ e.
          let l = (loads s).0 e in
          let t = l.valid.table in
          record {
            mark = l.mark;
            version = l.version;
            modulus = t.modulus;
            order = t.order;
            challenges = (
              t.some_challenges,
              t.few_challenges,
              λ d two divides. below_or_not d h.challenges (λ less. absurd (t.no_divisor d two less divides)) (λ most. most),
            );
            rows = (t.some_row, t.few_rows);
            columns = (t.some_column, t.few_columns);
            kind =
                ⊎_elim (λ one. inl (one, l.exact ∙ sized _ (entry_count_exponent h one)))
                (λ two. inr (two, t.square two, l.exact ∙ sized 0 (entry_count_root h (λ (one : h.kind ≡ 1). omega arith)))) t.kind;
            entries = t.entries;
            statement = l.valid.statement;
          },
      λ i.
          (loads s).1 (record {
            mark = i.mark;
            version = i.version;
            valid = record {
              table = record {
                kind = ⊎_elim (λ one. inl one.0) (λ two. inr two.0) i.kind;
                modulus = i.modulus;
                order = i.order;
                some_row = i.rows.0;
                few_rows = i.rows.1;
                some_column = i.columns.0;
                few_columns = i.columns.1;
                square = λ two. ⊎_elim (λ one. absurd (omega (arith, one.0))) (λ both. both.1) i.kind;
                some_challenges = i.challenges.0;
                few_challenges = i.challenges.1;
                no_divisor = λ d two less divides. omega (arith, i.challenges.2 d two divides);
                entries = i.entries;
              };
              statement = i.statement;
            };
            exact =
                ⊎_elim (λ one. one.1 ∙ sym (sized _ (entry_count_exponent h one.0)))
                (λ two. two.2 ∙ sym (sized 0 (entry_count_root h (λ (one : h.kind ≡ 1). omega (arith, two.0))))) i.kind;
          }),
    )

-- values are written exactly if their sheet loads as them and fits
encodes_loaded : (i : Instance) (buffer : List ℕ) → i.header.modulus < 2 ^ 32 → i.header.order < 2 ^ 32
    → ((encode i buffer).answer.refusal ≡ 0)
    ↔ ((load_refusal (sheet_of i) ≡ 0) × (loaded (sheet_of i) ≡ read_instance i) × (length (sheet_of i) ≤ length buffer))
encodes_loaded i buffer small short =
    let size = length_sheet_of i in (
      λ e.
          let (put, none, same) = encode_loads i buffer small short e in
          (none, same, omega (arith, ((encode_runs i buffer).0 e).1)),
      λ (none, same, fits).
          let read : Valid (read_instance i) =
          subst Valid (sym (loaded_given (sheet_of i) none) ∙ same) (loads_valid (sheet_of i) none) in
          (encode_runs i buffer).1 (valid_same (read_same i) read, omega arith),
    )

-- ---- round files that are read

module _ (s f : List ℕ) where
  -- a file is counted exactly if the record writer writes it
  counts_written : AllBytes f
      → ((count_rounds s f).refusal ≡ 0)
      ↔ ((load_refusal s ≡ 0) × ((version : ℕ) × (rounds : List Round) × Puts f f (append_each s (empty_file version f) rounds)))
  counts_written b = (
    λ e. ((loads s).1 ((count_runs s f).0 e).0, (number_at 2 f 3, rounds_read s f, rewritten s f f b e (omega arith))),
    λ (e, (version, rounds, p)).
        subst (λ (g : List ℕ). (count_rounds s g).refusal ≡ 0) (puts_front p)
        (written_counted s ((loads s).0 e) version f rounds p.number),
  )

  -- a round is checked exactly if its number is below the count
  checks_below : (k : ℕ) → (check_round s f k ≡ 0) ↔ (k < (count_rounds s f).count)
  checks_below k = (
    λ e.
        let (l, file, below) = (check_runs s f k).0 e in
        omega (arith, ap (λ (c : Counted). c.count) (count_given s f ((count_runs s f).1 (l, file)))),
    λ below.
        either (count_rounds s f).refusal
        (λ e.
        let (l, file) = (count_runs s f).0 e in
        (check_runs s f k).1 (l, file, omega (arith, ap (λ (c : Counted). c.count) (count_given s f e))))
        (λ some. absurd (omega (arith, (file_refusals.counting s f).left some))),
  )

-- ---- round files that are written

-- a challenge of 32 bits fits the width of a version that can hold it
fits_width : {version width : ℕ} → HasWidth version width → (c : ℕ) → c < 2 ^ 32 → Narrow version c → c < 256 ^ width
fits_width (inl (one, four)) c small narrow = rw four (omega arith)
fits_width (inr (two, both)) c small narrow = rw both (omega (arith, narrow two))

-- a round is appended exactly if the bytes in use are counted and have room, and the round fits
appends_counted : (s buffer : List ℕ) (used : ℕ) (round : Round) → round.challenge < 2 ^ 32
    → ((append s buffer used round).answer.refusal ≡ 0)
    ↔ ((used ≤ length buffer) × ((count_rounds s (take used buffer)).refusal ≡ 0) × ((count_rounds s (take used buffer)).count < 512)
    × ((width : ℕ) × HasWidth (number_at 2 buffer 3) width × (round.challenge < 256 ^ width)
    × (used + record_size width (header_of s) ≤ length buffer)))
unfolding record_length challenge_width file_version
appends_counted s buffer used round small =
    let f = take used buffer in
    let version : 7 ≤ used → number_at 2 f 3 ≡ number_at 2 buffer 3 = λ long. number_at_take 2 used buffer 3 (omega arith) in (
      λ e.
          let (l, u, narrow, fits) = (append_runs s buffer used round).0 e in
          let counted = (count_runs s f).1 (l, u.file) in
          let has = width_known u.file.version in (
            u.inside,
            counted,
            omega (arith, ap (λ (c : Counted). c.count) (count_given s f counted), u.room),
            (
              width_in_use buffer used,
              subst (λ (v : ℕ). HasWidth v (width_in_use buffer used)) (version (in_use_long u)) has,
              fits_width has round.challenge small narrow,
              omega arith,
            ),
          ),
      λ (inside, counted, few, (width, has, low, fits)).
          let (l, file) = (count_runs s f).0 counted in
          let u : InUse (header_of s) buffer used = record {
            inside = inside;
            file = file;
            room = omega (arith, ap (λ (c : Counted). c.count) (count_given s f counted));
          } in
          let same : width_of (number_at 2 f 3) ≡ width = ap width_of (version (in_use_long u)) ∙ width_only has in
          (append_runs s buffer used round).1 (
            l,
            u,
            width_narrow (number_at 2 f 3) round.challenge (rw same low),
            omega arith,
          ),
    )

-- the other of the two versions
one_and_other : {version : ℕ} → IsVersion version → OneAndOther version (other_version version)
one_and_other {version} known = elim (other_version_law version) [
  | inl both ↦ inl both
  | inr (other, one) ↦ inr (⊎_elim (λ (e : version ≡ 1). absurd (other e)) (λ e. e) known, one)
]

-- a file is converted exactly if it is counted and its rounds are written in the other version
converts_written : (s f buffer : List ℕ)
    → ((convert s f buffer).answer.refusal ≡ 0)
    ↔ (((count_rounds s f).refusal ≡ 0) × ((other : ℕ) × OneAndOther (file_version f) other
    × ((append_each s (empty_file other buffer) (rounds_read s f)).answer.refusal ≡ 0)))
converts_written s f buffer =
    let h = header_of s in
    let other = other_version (file_version f) in
    let count = length_rounds_of h f in (
      λ e.
          let (l, r, narrow, fits) = (convert_runs s f buffer).0 e in
          let all = each_round h f (λ round. Narrow other round.challenge) ((narrow_records h f).0 narrow) in
          let put = append_each_law (other_known (file_version f)) s l buffer (rounds_of h f) all (omega (arith, r.few)) (rw count fits) in
          ((count_runs s f).1 (l, r), (other, one_and_other r.version, rw (rounds_read_law s f l r) put.number)),
      λ (counted, (other', both, e)).
          let (l, r) = (count_runs s f).0 counted in
          let runs : (append_each s (empty_file other buffer) (rounds_of h f)).answer.refusal ≡ 0 =
          rw (other_only (file_version f) other' both, ← rounds_read_law s f l r) e in
          let (narrow, room) = written_fits s l (other_known (file_version f)) buffer (rounds_of h f) (omega (arith, r.few)) runs in
          (convert_runs s f buffer).1 (
            l,
            r,
            (narrow_records h f).1 (λ k below.
                subst (λ (round : Round). Narrow other round.challenge) (round_of_law h f k below)
                (narrow _ (member_at no_round (rounds_of h f) k (omega arith)))),
            rw count at room,
          ),
    )

-- ---- all of them

pub files_run : FilesRun file_calls
unfolding load file_version
files_run = record {
  loads = sheet_exactly;
  encodes = encodes_loaded;
  counts = counts_written;
  checks = checks_below;
  reads = fetch_number;
  compares = same_runs;
  starts = empty_runs;
  appends = appends_counted;
  converts = converts_written;
}
