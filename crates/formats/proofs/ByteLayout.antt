-- Where the values that the calls give stand in the bytes of a sheet and of a round file.
-- Assumes nothing.
use Prim.Native.Nat.{ℕ, ◌+◌, ◌-◌, ◌*◌, ◌<◌, ◌≤◌}
use mathlib.Core.Path.{◌≡◌, refl, ap, ◌∙◌, subst}
use mathlib.Core.Logic.{◌≢◌}
use mathlib.Core.List.{List, []}
use native.Mathlib.Omega.{arith}
use lib.ListN.{length, get_or, take, drop, length-append, length-replicate, get_or-eq_default}
use Rattle.types.specs.declared.Counted.{Counted}
use Rattle.types.specs.declared.Header.{Header}
use Rattle.encoding.specs.Bytes.{number_at, words_at}
use Rattle.encoding.specs.Text.{ascii}
use Rattle.encoding.proofs.Bytes.{number_at_one}
use Rattle.lists.specs.Places.{eight_by_eight, items_at, pad8, tabulate, zeros8}
use Rattle.lists.proofs.Places.{
  get_d_items_at,
  get_d_pad8,
  get_d_pad8_inside,
  get_d_tabulate,
  items_at_tabulate,
  length_items_at,
  length_tabulate,
  tabulate_agree,
}
use Rattle.sigma.proofs.ByKind.{exponent_kind, root_kind}
use Rattle.formats.specs.ByteLayout.{
  ExponentLayout,
  FileLayout,
  HighByteFirst,
  Layout,
  RootLayout,
  RoundAt,
  SheetLayout,
  WordsAt,
}
use Rattle.formats.specs.Load.{load}
use Rattle.formats.specs.Meaning.{record_size}
use Rattle.formats.specs.Ours.{file_calls}
use Rattle.formats.specs.RoundCalls.{count_rounds}
use Rattle.formats.specs.RoundFile.{
  challenge_width,
  count_field,
  file_version,
  record_length,
  record_start,
  round_at,
  round_mark,
}
use Rattle.formats.specs.Sheet.{
  entries_of,
  entry_count,
  header_of,
  instance_of,
  statement_of,
  version_of,
  zeros64,
}
use Rattle.formats.proofs.Entries.{entry_count_exponent, entry_count_root}
use Rattle.formats.proofs.Files.{check_runs, count_given, count_runs, fetch_given, width_known, width_only}
use Rattle.formats.proofs.Loads.{loaded_given, loads_few}
use Rattle.formats.proofs.Part.{part_given, place_given}

-- ---- arrays of eight places

-- at most eight values in eight places
pub length_padded : {A : Type 0} (d : A) (xs : List A) → length xs ≤ 8 → length (pad8 d xs) ≡ 8
unfolding pad8
length_padded d xs few =
    length-append xs _ ∙ ap (λ (n : ℕ). length xs + n) (length-replicate (8 - length xs) d) ∙ omega arith

-- a word read from bytes
pub word_at : (bytes : List ℕ) (at n j : ℕ) → j < n → get_or (pad8 0 (words_at bytes at n)) j 0 ≡ number_at 4 bytes (at + 4 * j)
word_at bytes at n j h = get_d_pad8 0 (words_at bytes at n) j ∙ get_d_items_at (number_at 4 bytes) at 4 n j 0 h

-- words read from bytes
words_at_law : (bytes : List ℕ) (at n : ℕ) → n ≤ 8 → WordsAt bytes at n (pad8 0 (items_at (number_at 4 bytes) at 4 n))
words_at_law bytes at n few =
    let words = items_at (number_at 4 bytes) at 4 n in
    let count = length_items_at (number_at 4 bytes) at 4 n in
    record {
      size = length_padded 0 words (omega arith);
      within = word_at bytes at n;
      beyond = λ j h. get_d_pad8 0 words j ∙ get_or-eq_default words 0 (omega arith);
    }

-- ---- sheets

module _ (s : List ℕ) where
  -- the statement stands behind the entries
  statement_words : (header_of s).rows ≤ 8 → (count : ℕ) → entry_count (header_of s) ≡ count
      → WordsAt s (20 + 4 * count) (header_of s).rows (statement_of s (header_of s))
  unfolding statement_of
  statement_words few count e =
      subst (λ (n : ℕ). WordsAt s (20 + 4 * n) (header_of s).rows (statement_of s (header_of s))) e
      (words_at_law s (20 + 4 * entry_count (header_of s)) (header_of s).rows few)

  -- kind 1
  exponent_layout : (header_of s).kind ≡ 1 → (header_of s).rows ≤ 8 → (header_of s).columns ≤ 8
      → ExponentLayout s (instance_of s) (header_of s).rows (header_of s).columns
  unfolding instance_of entries_of eight_by_eight zeros8
  exponent_layout e few narrow =
      let h = header_of s in
      let place : ℕ → ℕ → ℕ = λ i j. number_at 4 s (20 + 4 * (h.columns * i + j)) in
      let row : ℕ → List ℕ = λ i. pad8 0 (tabulate h.columns (place i)) in
      let rows = tabulate h.rows row in
      let count = length_tabulate h.rows row in
      let are : (instance_of s).entries ≡ pad8 zeros8 rows = rw (exponent_kind h e) in
      record {
        rows = rw are (length_padded zeros8 rows (omega arith));
        entries = λ i b.
            rw (are, get_d_pad8_inside zeros8 rows i [] (omega arith), get_d_tabulate h.rows row i [] b)
            (subst (λ (words : List ℕ). WordsAt s (20 + 4 * (h.columns * i)) h.columns (pad8 0 words))
            (items_at_tabulate (number_at 4 s) (20 + 4 * (h.columns * i)) 4 h.columns
            ∙ tabulate_agree h.columns _ (place i) (λ j _. ap (number_at 4 s) (omega arith)))
            (words_at_law s (20 + 4 * (h.columns * i)) h.columns narrow));
        beyond = λ i b. rw are (get_d_pad8 zeros8 rows i ∙ get_or-eq_default rows zeros8 (omega arith));
        statement = statement_words few _ (entry_count_exponent h e);
      }

  -- kind 2
  root_layout : (header_of s).kind ≢ 1 → (header_of s).rows ≤ 8 → RootLayout s (instance_of s) (header_of s).rows
  unfolding instance_of entries_of zeros64 zeros8
  root_layout other few = record {
    entries = rw (root_kind (header_of s) other);
    statement = statement_words few 0 (entry_count_root (header_of s) other);
  }

  -- any bytes
  sheet_layout : SheetLayout s
  unfolding instance_of header_of version_of
  sheet_layout = record {
    version = refl;
    fields = refl;
    header = refl;
    exponent = exponent_layout;
    root = root_layout;
  }

-- ---- round files

-- a round that is read from index `at` on
round_read : (width : ℕ) (h : Header) (f : List ℕ) (at : ℕ) → h.rows ≤ 8 → h.columns ≤ 8
    → RoundAt width h f at (round_at width h f at)
unfolding round_at
round_read width h f at few narrow = record {
  commitment = words_at_law f at h.rows few;
  challenge = refl;
  response = words_at_law f (at + 4 * h.rows + width) h.columns narrow;
}

module _ (s f : List ℕ) where
  -- a file that reads
  file_layout : (count_rounds s f).refusal ≡ 0 → FileLayout file_calls (challenge_width f) s f
  unfolding count_field file_version round_mark ascii record_start record_length challenge_width
  file_layout e =
      let (l, r) = (count_runs s f).0 e in
      let h = header_of s in
      let (few, narrow) = loads_few s l in
      let w = challenge_width f in
      let width : 4 * h.rows + w + 4 * h.columns ≡ record_size w h = omega arith in
      record {
        mark = r.mark;
        version = width_known r.version;
        count = ap (λ (c : Counted). c.count) (count_given s f e);
        size = r.exact ∙ ap (λ (n : ℕ). 7 + count_field f * n) width;
        rounds = λ k b.
            let at = subst (λ (n : ℕ). RoundAt w h f (7 + k * n) (round_at w h f (7 + k * (4 * h.rows + w + 4 * h.columns)))) width
            (round_read w h f _ few narrow) in
            rw (fetch_given s f k ((check_runs s f k).1 (l, r, b))) (refl, at);
        parts = λ k b.
            part_given s f k ((check_runs s f k).1 (l, r, b)) ∙ ap (λ (n : ℕ). take n (drop (7 + k * n) f)) width;
        located = λ k b.
            place_given s f k ((check_runs s f k).1 (l, r, b)) ∙ ap (λ (n : ℕ). record { offset = 7 + k * n; length = n }) width;
      }

-- ---- numbers

-- the high byte stands first
high_byte_first : HighByteFirst
unfolding number_at
high_byte_first = record {
  one = number_at_one;
  two = λ s at. let first : get_or s (at + 0) 0 ≡ get_or s at 0 = ap (λ (k : ℕ). get_or s k 0) (omega arith) in omega (arith, first);
  four = λ s at. let first : get_or s (at + 0) 0 ≡ get_or s at 0 = ap (λ (k : ℕ). get_or s k 0) (omega arith) in omega (arith, first);
}

-- all of it
pub layout : Layout file_calls
unfolding load challenge_width file_version
layout = record {
  numbers = high_byte_first;
  sheets = sheet_layout;
  loading = loaded_given;
  widths = λ f width known. width_only known;
  files = file_layout;
}
