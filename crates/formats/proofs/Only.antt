-- The demands determine the calls on sheets and round files: two codes that meet them answer the same to every input.
-- Assumes nothing.
use Prim.Native.Nat.{ℕ, ◌<◌}
use mathlib.Core.Path.{◌≡◌, refl, sym, ap, subst, ◌∙◌}
use mathlib.Core.Logic.{◌⊎◌, inl, inr, ⊎_elim}
use mathlib.Core.List.{List, ◌++◌}
use native.Mathlib.Omega.{arith}
use lib.Seq.{ext_get_or}
use Rattle.types.specs.declared.Fetched.{Fetched}
use Rattle.types.specs.declared.Header.{Header}
use Rattle.types.specs.declared.Round.{Round}
use Rattle.encoding.specs.Bytes.{number_at}
use Rattle.lists.proofs.Places.{tabulate_agree}
use Rattle.rules.proofs.Determined.{
  NoneHold,
  below_or_not,
  either,
  none_append,
  none_hold,
  none_join,
  none_zero,
  refused_or_not,
  same_number,
}
use Rattle.sigma.specs.Instance.{Instance}
use Rattle.formats.specs.ByteLayout.{FileLayout, Layout, RoundAt, WordsAt}
use Rattle.formats.specs.Converts.{ConvertRefusals, Converts, OneAndOther}
use Rattle.formats.specs.FileCalls.{FileCalls, loaded}
use Rattle.formats.specs.FileRefusals.{FileRefusals}
use Rattle.formats.specs.Outcome.{Puts}
use Rattle.formats.specs.Refusals.{Refusal12, convert_conditions, file_conditions, load_conditions, round_conditions}
use Rattle.formats.specs.RoundFile.{challenge_width, count_field}
use Rattle.formats.specs.Rounds.{file_in, rounds_read}
use Rattle.formats.specs.Same.{SameFiles}
use Rattle.formats.specs.Sheet.{header_of}
use Rattle.formats.specs.WordsCompare.{WordsCompare, WordsRefusals}
use Rattle.formats.specs.Writers.{Writers}
use Rattle.formats.proofs.OnlyWriting.{adds_only, keeps_only, puts_only}

-- what the demands ask of the calls on sheets and round files
pub record FileDemands (code : FileCalls) : Type 0 where
  pub refusals : FileRefusals code
  pub layout : Layout code
  pub writers : Writers code
  pub words_refusals : WordsRefusals code
  pub words : WordsCompare code
  pub convert_refusals : ConvertRefusals code
  pub converts : Converts code

-- ---- what is read

-- arrays of eight places with the same words are the same
words_only : {bytes : List ℕ} {at n : ℕ} {xs ys : List ℕ} → WordsAt bytes at n xs → WordsAt bytes at n ys → xs ≡ ys
words_only {bytes} {at} {n} {xs} {ys} w w' =
    ext_get_or 0 xs ys (w.size ∙ sym w'.size)
    (λ j inside. below_or_not j n (λ l. w.within j l ∙ sym (w'.within j l)) (λ l. w.beyond j l ∙ sym (w'.beyond j l)))

-- so are rounds at the same place
round_only : {width : ℕ} {h : Header} {f : List ℕ} {at : ℕ} {r r' : Round} → RoundAt width h f at r → RoundAt width h f at r' → r ≡ r'
round_only w w' i = record {
  commitment = words_only w.commitment w'.commitment i;
  challenge = (w.challenge ∙ sym w'.challenge) i;
  response = words_only w.response w'.response i;
}

module _ {code : FileCalls} (d : FileDemands code) (sheet f : List ℕ) where
  -- a file of a sheet that loads, to which 12 does not apply, reads
  file_reads : NoneHold (load_conditions sheet) → ¬ Refusal12 (header_of sheet) f → FileLayout code (challenge_width f) sheet f
  file_reads loads file =
      d.layout.files sheet f
      (none_zero (load_conditions sheet ++ file_conditions (header_of sheet) f) _
      (none_join (load_conditions sheet) (file_conditions (header_of sheet) f) loads (file, tt)) (d.refusals.counting sheet f).given)

  -- and so does one whose round k is not refused, and k is below its count
  round_reads : (k : ℕ) → NoneHold (load_conditions sheet ++ round_conditions (header_of sheet) f k)
      → FileLayout code (challenge_width f) sheet f × (k < number_at 2 f 5)
  unfolding count_field
  round_reads k none =
      let (loads, (file, (number, rest))) = none_append (load_conditions sheet) (round_conditions (header_of sheet) f k) none in
      (file_reads loads file, below_or_not k (number_at 2 f 5) (λ l. l) (λ l. absurd (number l)))

module _ (code code' : FileCalls) (d : FileDemands code) (d' : FileDemands code') where
  -- ---- sheets

  -- the values of a sheet that loads, and so both calls that load it
  values_same : (sheet : List ℕ) → (code.load sheet).refusal ≡ 0 → (code'.load sheet).refusal ≡ 0
      → loaded code sheet ≡ loaded code' sheet
  values_same sheet e e' = d.layout.loading sheet e ∙ sym (d'.layout.loading sheet e')

  load_same : (sheet : List ℕ) → code.load sheet ≡ code'.load sheet
  load_same sheet =
      let r = d.refusals.loading sheet in
      let r' = d'.refusals.loading sheet in
      refused_or_not r r'
      (λ n l l' i. record { refusal = n i; header = (l.0 ∙ sym l'.0) i; statement = (l.1 ∙ sym l'.1) i })
      (λ e e' none i. record {
        refusal = same_number r r' i;
        header = ap (λ (v : Instance). v.header) (values_same sheet e e') i;
        statement = ap (λ (v : Instance). v.statement) (values_same sheet e e') i;
      })

  entries_same : (sheet : List ℕ) → code.load_entries sheet ≡ code'.load_entries sheet
  entries_same sheet =
      refused_or_not (d.refusals.loading sheet) (d'.refusals.loading sheet) (λ n l l'. l.2 ∙ sym l'.2)
      (λ e e' none. ap (λ (v : Instance). v.entries) (values_same sheet e e'))

  -- the second writer
  encode_same : (inst : Instance) (buffer : List ℕ) → code.encode inst buffer ≡ code'.encode inst buffer
  encode_same inst buffer =
      refused_or_not (d.refusals.encoding inst buffer) (d'.refusals.encoding inst buffer) (λ n. keeps_only _ _ n)
      (λ e e' none. puts_only _ _ (d.writers.encoded inst buffer e) (d'.writers.encoded inst buffer e'))

  -- ---- round files

  -- counting and checking
  count_same : (sheet f : List ℕ) → code.count_rounds sheet f ≡ code'.count_rounds sheet f
  count_same sheet f =
      let r = d.refusals.counting sheet f in
      let r' = d'.refusals.counting sheet f in
      refused_or_not r r' (λ n l l' i. record { refusal = n i; count = (l ∙ sym l') i })
      (λ e e' none i. record {
        refusal = same_number r r' i;
        count = ((d.layout.files sheet f e).count ∙ sym (d'.layout.files sheet f e').count) i;
      })

  check_same : (sheet f : List ℕ) (k : ℕ) → code.check_round sheet f k ≡ code'.check_round sheet f k
  check_same sheet f k = same_number (d.refusals.checking sheet f k) (d'.refusals.checking sheet f k)

  -- if round k is not refused, both codes read the file
  read_same : {A : Type 0} (sheet f : List ℕ) (k : ℕ)
      → (FileLayout code (challenge_width f) sheet f → FileLayout code' (challenge_width f) sheet f → k < number_at 2 f 5 → A)
      → NoneHold (load_conditions sheet ++ round_conditions (header_of sheet) f k) → A
  read_same sheet f k give none =
      let (layout, inside) = round_reads d sheet f k none in
      give layout (round_reads d' sheet f k none).0 inside

  -- the part, the place and the values of a round
  part_same : (sheet f : List ℕ) (k : ℕ) → code.part_of_round sheet f k ≡ code'.part_of_round sheet f k
  part_same sheet f k =
      refused_or_not (d.refusals.checking sheet f k) (d'.refusals.checking sheet f k) (λ n l l'. l ∙ sym l')
      (λ e e'. read_same sheet f k (λ layout layout' inside. layout.parts k inside ∙ sym (layout'.parts k inside)))

  locate_same : (sheet f : List ℕ) (k : ℕ) → code.locate_round sheet f k ≡ code'.locate_round sheet f k
  locate_same sheet f k =
      let r = d.refusals.checking sheet f k in
      let r' = d'.refusals.checking sheet f k in
      either (code.check_round sheet f k)
      (λ e. read_same sheet f k (λ layout layout' inside. layout.located k inside ∙ sym (layout'.located k inside)) (none_hold r r' e))
      (λ some. d.refusals.nowhere sheet f k some
      ∙ sym (d'.refusals.nowhere sheet f k (subst (λ (n : ℕ). 0 < n) (same_number r r') some)))

  fetch_same : (sheet f : List ℕ) (k : ℕ) → code.fetch_round sheet f k ≡ code'.fetch_round sheet f k
  fetch_same sheet f k =
      let r = d.refusals.reading sheet f k in
      let r' = d'.refusals.reading sheet f k in
      refused_or_not r r' (λ n l l' i. record { refusal = n i; round = (l ∙ sym l') i })
      (λ e e'. read_same sheet f k (λ layout layout' inside.
      let same = round_only (layout.rounds k inside).1 (layout'.rounds k inside).1 in
      λ i. record { refusal = same_number r r' i; round = same i }))

  -- so the rounds that are read
  rounds_same : (sheet f : List ℕ) → rounds_read code sheet f ≡ rounds_read code' sheet f
  rounds_same sheet f =
      rw (count_same sheet f) (tabulate_agree _ _ _ (λ k l. ap (λ (x : Fetched). x.round) (fetch_same sheet f k)))

  -- the empty file and the record writer
  empty_same : (version : ℕ) (buffer : List ℕ) → code.empty_file version buffer ≡ code'.empty_file version buffer
  empty_same version buffer =
      refused_or_not (d.refusals.starting version buffer) (d'.refusals.starting version buffer) (λ n. keeps_only _ _ n)
      (λ e e' none. puts_only _ _ (d.writers.empty version buffer e) (d'.writers.empty version buffer e'))

  append_same : (sheet buffer : List ℕ) (used : ℕ) (round : Round)
      → code.append sheet buffer used round ≡ code'.append sheet buffer used round
  append_same sheet buffer used round =
      refused_or_not (d.refusals.appending sheet buffer used round) (d'.refusals.appending sheet buffer used round)
      (λ n. keeps_only _ _ n)
      (λ e e' none. adds_only _ _ (d.writers.appended sheet buffer used round e) (d'.writers.appended sheet buffer used round e'))

  -- ---- card 5

  -- an answer of 0 or 1 that is 1 exactly if the same bytes agree
  compare_same : (sheet f : List ℕ) (i j : ℕ) → code.same_commitment sheet f i j ≡ code'.same_commitment sheet f i j
  compare_same sheet f a b =
      let r = d.words_refusals.comparing sheet f a b in
      let r' = d'.words_refusals.comparing sheet f a b in
      refused_or_not r r' (λ n l l' i. record { same = (l ∙ sym l') i; refusal = n i })
      (λ e e' none.
      let said = d.words.bytes sheet f a b e in
      let said' = d'.words.bytes sheet f a b e' in
      let first = part_same sheet f a in
      let second = part_same sheet f b in
      let same : (code.same_commitment sheet f a b).same ≡ (code'.same_commitment sheet f a b).same =
      bits (d.words.answers sheet f a b) (d'.words.answers sheet f a b)
      (λ one. said'.1 (λ k l. rw (← first, ← second) (said.0 one k l)))
      (λ one. said.1 (λ k l. rw (first, second) (said'.0 one k l))) in
      λ i. record { same = same i; refusal = same_number r r' i })
    where
      bits : {m n : ℕ} → (m ≡ 0) ⊎ (m ≡ 1) → (n ≡ 0) ⊎ (n ≡ 1) → (m ≡ 1 → n ≡ 1) → (n ≡ 1 → m ≡ 1) → m ≡ n
      bits (inl p) (inl q) f g = p ∙ sym q
      bits (inl p) (inr q) f g = absurd (omega (arith, g q))
      bits (inr p) (inl q) f g = absurd (omega (arith, f p))
      bits (inr p) (inr q) f g = p ∙ sym q

  -- ---- card 7

  -- the same rounds in the other version
  convert_same : (sheet f buffer : List ℕ) → code.convert sheet f buffer ≡ code'.convert sheet f buffer
  convert_same sheet f buffer =
      refused_or_not (d.convert_refusals.converting sheet f buffer) (d'.convert_refusals.converting sheet f buffer)
      (λ n. keeps_only _ _ n)
      (λ e e' none.
      let (loads, (file, rest)) = none_append (load_conditions sheet) (convert_conditions (header_of sheet) f buffer) none in
      ⊎_elim (λ v. written 2 e e' (inl (v.0, refl))) (λ v. written 1 e e' (inr (v.0, refl))) (file_reads d sheet f loads file).version)
    where
      written : (other : ℕ) → (code.convert sheet f buffer).answer.refusal ≡ 0 → (code'.convert sheet f buffer).answer.refusal ≡ 0
          → OneAndOther (number_at 2 f 3) other → code.convert sheet f buffer ≡ code'.convert sheet f buffer
      written other e e' v =
          puts_only _ _ (d.converts.converted sheet f buffer other e v)
          (subst (λ (rounds : List Round). Puts (file_in other (header_of sheet) rounds) buffer (code'.convert sheet f buffer))
          (sym (rounds_same sheet f)) (d'.converts.converted sheet f buffer other e' v))

  -- all of them
  pub only_files : SameFiles code code'
  only_files = record {
    load = load_same;
    load_entries = entries_same;
    encode = encode_same;
    count_rounds = count_same;
    check_round = check_same;
    part_of_round = part_same;
    locate_round = locate_same;
    fetch_round = fetch_same;
    empty_file = empty_same;
    append = append_same;
    same_commitment = compare_same;
    convert = convert_same;
  }
