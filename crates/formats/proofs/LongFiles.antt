-- Long inputs: a sheet longer than any that loads, and a round file longer than any that is read, are refused as their first
-- bytes are. So a program that reads at most n bytes, from 309 or 34,824 on, gives the right number for every file.
-- Assumes nothing.
use Prim.Native.Nat.{ℕ, zero, suc, ◌<◌, ◌≤◌}
use mathlib.Core.Path.{◌≡◌, refl, sym, ap, ◌∙◌}
use mathlib.Core.Logic.{◌⊎◌, inl, inr, ⊎_elim}
use mathlib.Core.Bool.{Bool, true, false, not}
use mathlib.Core.List.{List, [], ◌∷◌, ◌++◌}
use native.Mathlib.Decide.{dec_le, dec_lt}
use native.Mathlib.Nat.{mul-le-mul}
use native.Mathlib.Omega.{arith}
use lib.Dec.{T, eqb}
use lib.ListN.{length, take}
use lib.Seq.{append_snoc, get_or-take, length-take-le, take_all}
use Rattle.types.specs.declared.Header.{Header}
use Rattle.encoding.proofs.Bytes.{number_at_take}
use Rattle.lists.specs.Places.{zeros8}
use Rattle.rules.specs.Call.{Call, answer, number_of}
use Rattle.rules.specs.Rule.{Rule, ◌when◌, lowest, Clear, all_positive}
use Rattle.rules.proofs.Call.{answer_refused}
use Rattle.rules.proofs.Lowest.{clear_lowest, lowest_earlier, lowest_later, stop}
use Rattle.rules.proofs.Says.{says_decides, says_iff, says_same}
use Rattle.sigma.specs.Admission.{header_rules, element_rules}
use Rattle.sigma.proofs.Passed.{size_passes}
use Rattle.sigma.proofs.Tests.{says_exponent}
use Rattle.formats.specs.Load.{bad_start, bad_length, shape_rules, load_rules, load_refusal, no_header, load, load_entries, on_sheet}
use Rattle.formats.specs.Meaning.{IsRoundFile, Loads}
use Rattle.formats.specs.RoundCalls.{check_round, checking, count_rounds, counting}
use Rattle.formats.specs.RoundFile.{bad_file, challenge_width, record_length, record_start}
use Rattle.formats.specs.Sheet.{header_of, instance_of, sheet_length, version_of}
use Rattle.formats.proofs.Entries.{entry_count_exponent, entry_count_root}
use Rattle.formats.proofs.Files.{file_passes, width_small}
use Rattle.formats.proofs.Loads.{load_refused, entries_refused, loads, loads_few}
use Rattle.formats.proofs.OnSheet.{on_sheet_loads, on_sheet_refused}
use Rattle.formats.proofs.Tests.{says_bad_length, says_bad_start}

-- ---- how long a sheet and a round file can be

-- a sheet of at most eight rows and columns has at most 308 bytes
pub sheet_short : (h : Header) → h.rows ≤ 8 → h.columns ≤ 8 → sheet_length h ≤ 308
unfolding sheet_length
sheet_short h a b = elim (says_decides (says_exponent h)) [
  | inl e ↦ omega (arith, entry_count_exponent h e, mul-le-mul a b)
  | inr n ↦ omega (arith, entry_count_root h n)
]

-- a round file of such a sheet has at most 34,823 bytes
pub file_short : {h : Header} {f : List ℕ} → h.rows ≤ 8 → h.columns ≤ 8 → IsRoundFile h f → length f ≤ 34823
unfolding record_start record_length
file_short {h} {f} a b r =
    let most : record_length (challenge_width f) h ≤ 68 = omega (arith, width_small f) in
    omega (arith, r.exact, mul-le-mul r.few most)

-- a sheet that loads has at most 308 bytes
pub loads_short : (s : List ℕ) → load_refusal s ≡ 0 → length s ≤ 308
loads_short s e =
    let l = (loads s).0 e in
    let (rows, columns) = loads_few s l in
    omega (arith, l.exact, sheet_short (header_of s) rows columns)

-- a number is 0 or more
zero_or_more : (n : ℕ) → (n ≡ 0) ⊎ (0 < n)
zero_or_more zero = inl refl
zero_or_more (suc n) = inr (omega arith)

-- ---- sheets

-- the rules before the length's
abbrev early_rules : List ℕ → List Rule
early_rules s = (2 when bad_start s) ∷ (3 when not (eqb (version_of s) 1)) ∷ header_rules (header_of s)

-- a sheet's rules are those, then the length's and the elements'
load_early : (s : List ℕ) → load_rules s ≡ early_rules s ++ (9 when bad_length s) ∷ element_rules (instance_of s)
unfolding load_rules shape_rules
load_early s =
    ap (λ (rules : List Rule). (2 when bad_start s) ∷ (3 when not (eqb (version_of s) 1)) ∷ rules)
    (append_snoc (header_rules (header_of s)) (9 when bad_length s) (element_rules (instance_of s)))

-- they have positive numbers
early_positive : (s : List ℕ) → T (all_positive (early_rules s))
unfolding header_rules
early_positive s = tt

-- where they do not apply, a sheet of more than 308 bytes is refused by 9
long_refused : (s : List ℕ) → 308 < length s → Clear (early_rules s) → load_refusal s ≡ 9
unfolding load_refusal header_rules
long_refused s long c =
    let (start, (version, header)) = c in
    let (kind, (modulus, (order, (size, rest)))) = header in
    let (a, b, d, e, same) = (size_passes (header_of s)).0 size in
    let other = (says_bad_length s).complete (λ (same : length s ≡ sheet_length (header_of s)). omega (arith, sheet_short (header_of s) b e)) in
    ap lowest (load_early s) ∙ lowest_later (early_rules s) _ c ∙ stop 9 (element_rules (instance_of s)) other

-- a longer sheet, refused by a rule before the length's, gives that rule's number
early_refused : (s : List ℕ) → 0 < lowest (early_rules s) → load_refusal s ≡ lowest (early_rules s)
unfolding load_refusal
early_refused s some = ap lowest (load_early s) ∙ lowest_earlier (early_rules s) _ some

module _ (n : ℕ) (s : List ℕ) (enough : 20 ≤ n) (long : n ≤ length s) where
  -- the first 20 bytes have the same start
  start_cut : bad_start (take n s) ≡ bad_start s
  start_cut =
      let size = length-take-le n s long in
      says_same (says_bad_start (take n s))
      (says_iff (says_bad_start s) (
        ⊎_elim (λ (l : length s < 20). absurd (omega arith))
            (λ (i, b, other). inr (i, b, λ e. other (sym (get_or-take n s i 0 (omega arith)) ∙ e))),
        ⊎_elim (λ (l : length (take n s) < 20). absurd (omega arith))
            (λ (i, b, other). inr (i, b, λ e. other (get_or-take n s i 0 (omega arith) ∙ e))),
      ))

  -- the same fixed fields
  header_cut : header_of (take n s) ≡ header_of s
  unfolding header_of
  header_cut = λ j. record {
    kind = number_at_take 1 n s 5 (omega arith) j;
    modulus = number_at_take 4 n s 6 (omega arith) j;
    order = number_at_take 4 n s 10 (omega arith) j;
    challenges = number_at_take 4 n s 14 (omega arith) j;
    rows = number_at_take 1 n s 18 (omega arith) j;
    columns = number_at_take 1 n s 19 (omega arith) j;
  }

  -- and so the same rules before the length's
  early_cut : early_rules (take n s) ≡ early_rules s
  unfolding version_of
  early_cut = rw (start_cut, header_cut, number_at_take 2 n s 3 (omega arith))

-- a sheet of more than 308 bytes, cut to more than 308 bytes, is refused with the same number
cut_refused : (n : ℕ) (s : List ℕ) → 309 ≤ n → n ≤ length s → (lowest (early_rules s) ≡ 0) ⊎ (0 < lowest (early_rules s))
    → load_refusal (take n s) ≡ load_refusal s
cut_refused n s enough long (inl e) =
    let same = early_cut n s (omega arith) long in
    let size = length-take-le n s long in
    long_refused (take n s) (omega arith) (clear_lowest (early_rules (take n s)) (early_positive (take n s)) (ap lowest same ∙ e))
    ∙ sym (long_refused s (omega arith) (clear_lowest (early_rules s) (early_positive s) e))
cut_refused n s enough long (inr some) =
    let same = ap lowest (early_cut n s (omega arith) long) in
    early_refused (take n s) (omega arith) ∙ same ∙ sym (early_refused s some)

module _ (n : ℕ) (enough : 309 ≤ n) (s : List ℕ) where
  -- a sheet cut to its first n bytes is refused with the same number, and loads where it does
  pub refusal_cut : load_refusal (take n s) ≡ load_refusal s
  refusal_cut = elim (dec_le (length s) n) [
    | yes short ↦ ap load_refusal (take_all n s short)
    | no long ↦ cut_refused n s enough (omega arith) (zero_or_more (lowest (early_rules s)))
  ]

  -- it is the same sheet where it loads
  pub loads_cut : load_refusal s ≡ 0 → take n s ≡ s
  loads_cut e = take_all n s (omega (arith, loads_short s e))

  -- so loading answers the same
  pub load_cut : load (take n s) ≡ load s
  load_cut = elim (zero_or_more (load_refusal s)) [
    | inl e ↦ ap load (loads_cut e)
    | inr some ↦
        let some' : 0 < load_refusal (take n s) = omega (arith, refusal_cut) in
        load_refused (take n s) some' ∙ (λ j. record { refusal = refusal_cut j; header = no_header; statement = zeros8 })
        ∙ sym (load_refused s some)
  ]

  -- and the entries are the same
  pub entries_cut : load_entries (take n s) ≡ load_entries s
  entries_cut = elim (zero_or_more (load_refusal s)) [
    | inl e ↦ ap load_entries (loads_cut e)
    | inr some ↦ entries_refused (take n s) (omega (arith, refusal_cut)) ∙ sym (entries_refused s some)
  ]

-- ---- round files

-- a test that is not false is true
not_false_true : (b : Bool) → ¬ (b ≡ false) → b ≡ true
not_false_true true n = refl
not_false_true false n = absurd (n refl)

-- of a sheet that loads a file of more than 34,823 bytes is refused
long_file : (s : List ℕ) → Loads s → (f : List ℕ) → 34823 < length f → bad_file (header_of s) f ≡ true
long_file s l f long =
    let (rows, columns) = loads_few s l in
    not_false_true (bad_file (header_of s) f) (λ good.
    let short = file_short {h = header_of s} rows columns ((file_passes (header_of s) f).0 good) in
    omega arith)

module _ (n : ℕ) (enough : 34824 ≤ n) (s f : List ℕ) where
  -- a call that is refused with 12 if the file is no round file, and that hands back the same with a number for every file, answers
  -- the same of the first n bytes
  cut_same : {A : Type 0} (call : List ℕ → Call A) (handed : ℕ → A) → ((g : List ℕ) (k : ℕ) → (call g).refused k ≡ handed k)
      → ((g : List ℕ) → bad_file (header_of s) g ≡ true → number_of (call g) ≡ 12)
      → answer (on_sheet s (call (take n f))) ≡ answer (on_sheet s (call f))
  cut_same call handed same file = elim (dec_le (length f) n) [
    | yes short ↦ ap (λ (g : List ℕ). answer (on_sheet s (call g))) (take_all n f short)
    | no long ↦ elim (zero_or_more (load_refusal s)) [
      | inl e ↦
          let size = length-take-le n f (omega arith) in
          late e (take n f) (omega arith) ∙ sym (late e f (omega arith))
      | inr some ↦ early some (take n f) ∙ sym (early some f)
    ]
  ]
    where
      early : 0 < load_refusal s → (g : List ℕ) → answer (on_sheet s (call g)) ≡ handed (load_refusal s)
      early some g = on_sheet_refused s (call g) some ∙ same g (load_refusal s)

      late : load_refusal s ≡ 0 → (g : List ℕ) → 34823 < length g → answer (on_sheet s (call g)) ≡ handed 12
      late e g long =
          let number = file g (long_file s ((loads s).0 e) g long) in
          on_sheet_loads s (call g) e ∙ answer_refused (call g) (omega (arith, number)) ∙ same g (number_of (call g)) ∙ ap handed number

  -- a file cut to its first n bytes is counted as the whole
  pub count_cut : count_rounds s (take n f) ≡ count_rounds s f
  unfolding count_rounds counting number_of
  count_cut =
      cut_same (counting (header_of s)) (λ k. record { refusal = k; count = 0 }) (λ g k. refl) (λ g bad. stop 12 [] bad)

  -- a round of it is checked as a round of the whole
  pub check_cut : (k : ℕ) → check_round s (take n f) k ≡ check_round s f k
  unfolding check_round checking number_of
  check_cut k = cut_same (λ g. checking (header_of s) g k) (λ m. m) (λ g m. refl) (λ g bad. stop 12 _ bad)

-- a round of a file and of a sheet that are both cut is checked as a round of the whole
pub both_cut : (a b : ℕ) → 309 ≤ a → 34824 ≤ b → (s f : List ℕ) (k : ℕ) → check_round (take a s) (take b f) k ≡ check_round s f k
unfolding check_round checking
both_cut a b enough enough' s f k = elim (dec_lt 0 (load_refusal s)) [
  | yes refused ↦
      let kept = refusal_cut a enough s in
      on_sheet_refused (take a s) (checking (header_of (take a s)) (take b f) k) (omega arith) ∙ kept
      ∙ sym (on_sheet_refused s (checking (header_of s) f k) refused)
  | no loaded ↦ ap (λ (t : List ℕ). check_round t (take b f) k) (loads_cut a enough s (omega arith)) ∙ check_cut b enough' s f k
]
