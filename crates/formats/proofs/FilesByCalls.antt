-- The round trips of round files by the calls' own answers.
-- Assumes nothing.
use Prim.Native.Nat.{ℕ, ◌≤◌}
use mathlib.Core.Path.{◌≡◌, sym, ap, ◌∙◌}
use mathlib.Core.List.{List, map}
use lib.ListN.{length, length-map, take}
use Rattle.types.specs.declared.Round.{Round}
use Rattle.encoding.specs.Bytes.{AllBytes, number_at}
use Rattle.lists.specs.Member.{Member}
use Rattle.sigma.specs.Reads.{padded_round}
use Rattle.formats.specs.Append.{empty_file}
use Rattle.formats.specs.Meaning.{IsVersion, Loads}
use Rattle.formats.specs.Ours.{append_each, rounds_read}
use Rattle.formats.specs.Outcome.{Puts}
use Rattle.formats.specs.RoundCalls.{count_rounds}
use Rattle.formats.specs.RoundFile.{count_field, file_version, record_start, width_of}
use Rattle.formats.specs.Rounds.{Words}
use Rattle.formats.specs.Sheet.{header_of}
use Rattle.formats.specs.Write.{Writing}
use Rattle.formats.proofs.Files.{count_runs, count_given, rounds_read_law}
use Rattle.formats.proofs.RoundFileRoundTrip.{append_rounds, append_each_reads}
use Rattle.formats.proofs.Rounds.{length_rounds_of}

-- a file that the calls read, rewritten from what the read call gives, is the same bytes
pub rewritten : (s f buffer : List ℕ) → AllBytes f → (count_rounds s f).refusal ≡ 0 → length f ≤ length buffer
    → Puts f buffer (append_each s (empty_file (number_at 2 f 3) buffer) (rounds_read s f))
unfolding file_version
rewritten s f buffer b e fits =
    let (l, file) = (count_runs s f).0 e in
    rw (rounds_read_law s f l file) (append_rounds s l buffer f file b fits)

-- rounds appended one by one to an empty file of a version are of that version, and are counted and read back, by the calls, as
-- what was stored of them
pub appended_read : {version : ℕ} → IsVersion version → (s buffer : List ℕ) → Loads s → (rounds : List Round) → length rounds ≤ 512
    → record_start (width_of version) (header_of s) (length rounds) ≤ length buffer
    → ((round : Round) → Member round rounds → Words (width_of version) (header_of s) round)
    → (w : Writing) → w ≡ append_each s (empty_file version buffer) rounds
    → (number_at 2 (take w.answer.length w.buffer) 3 ≡ version)
    × (count_rounds s (take w.answer.length w.buffer) ≡ record { refusal = 0; count = length rounds })
    × (rounds_read s (take w.answer.length w.buffer) ≡ map (padded_round (header_of s)) rounds)
unfolding file_version
appended_read known s buffer l rounds few fits words w e =
    let f = take w.answer.length w.buffer in
    let (found, file, same) = append_each_reads known s l buffer rounds few fits words w e in
    let count : count_field f ≡ length rounds =
    sym (length_rounds_of (header_of s) f) ∙ ap length same ∙ length-map rounds (padded_round (header_of s)) in
    let runs = (count_runs s f).1 (l, file) in
    (found, count_given s f runs ∙ ap (λ (n : ℕ). record { refusal = 0; count = n }) count, rounds_read_law s f l file ∙ same)
