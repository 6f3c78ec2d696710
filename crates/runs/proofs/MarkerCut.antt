-- The marker's text on long files: the first 309 bytes of a sheet, the first 34,824 of a round file and the first two of a level
-- give the text of the whole, so a program that reads no more prints what it must.
-- Assumes nothing.
use Prim.Native.Nat.{ℕ, ◌≤◌}
use mathlib.Core.Path.{◌≡◌, sym, ap, ◌∙◌}
use mathlib.Core.Logic.{inl, inr}
use mathlib.Core.List.{List}
use native.Mathlib.Decide.{dec_lt}
use native.Mathlib.Omega.{arith}
use lib.ListN.{take}
use lib.Seq.{take_all}
use Rattle.types.specs.declared.Counted.{Counted}
use Rattle.encoding.specs.Text.{ascii}
use Rattle.formats.specs.Load.{load_refusal}
use Rattle.formats.specs.RoundCalls.{count_rounds}
use Rattle.formats.proofs.Files.{count_runs}
use Rattle.formats.proofs.Loads.{loads_few}
use Rattle.formats.proofs.LongFiles.{count_cut, file_short, loads_cut, refusal_cut}
use Rattle.runs.specs.Marker.{marker_text, word_line}
use Rattle.runs.proofs.Level.{level_cut}
use Rattle.runs.proofs.MarkerRefusal.{file_line, level_line, sheet_line}

-- a sheet cut to its first n bytes
sheet_cut : (n : ℕ) → 309 ≤ n → (s f level : List ℕ) → marker_text (take n s) f level ≡ marker_text s f level
sheet_cut n enough s f level = elim (dec_lt 0 (load_refusal s)) [
  | yes refused ↦
      let same = refusal_cut n enough s in
      sheet_line (take n s) f level (omega arith) ∙ ap (word_line (ascii "sheet")) same ∙ sym (sheet_line s f level refused)
  | no loaded ↦ ap (λ (sheet : List ℕ). marker_text sheet f level) (loads_cut n enough s (omega arith))
]

-- a round file of a sheet that loads, cut to its first n bytes
file_cut : (n : ℕ) → 34824 ≤ n → (s f level : List ℕ) → load_refusal s ≡ 0 → marker_text s (take n f) level ≡ marker_text s f level
file_cut n enough s f level loaded = elim (dec_lt 0 (count_rounds s f).refusal) [
  | yes refused ↦
      let same = ap (λ (answer : Counted). answer.refusal) (count_cut n enough s f) in
      file_line s (take n f) level loaded (omega arith) ∙ sym (file_line s f level loaded refused)
  | no passed ↦
      let (sheet, file) = (count_runs s f).0 (omega arith) in
      let (rows, columns) = loads_few s sheet in
      ap (λ (g : List ℕ). marker_text s g level) (take_all n f (omega (arith, file_short rows columns file)))
]

-- a level beside a file that reads, cut to its first n bytes
level_text_cut : (n : ℕ) → 2 ≤ n → (s f level : List ℕ) → (count_rounds s f).refusal ≡ 0
    → marker_text s f (take n level) ≡ marker_text s f level
level_text_cut n enough s f level e = elim (level_cut n enough level) [
  | inl same ↦ ap (marker_text s f) same
  | inr (bad, bad') ↦ level_line s f (take n level) e bad ∙ sym (level_line s f level e bad')
]

-- a sheet, a round file and a level cut to their first bytes
pub text_cut : (n k j : ℕ) → 309 ≤ n → 34824 ≤ k → 2 ≤ j → (s f level : List ℕ)
    → marker_text (take n s) (take k f) (take j level) ≡ marker_text s f level
text_cut n k j enough enough' enough'' s f level =
    sheet_cut n enough s (take k f) (take j level) ∙ elim (dec_lt 0 (load_refusal s)) [
      | yes refused ↦ sheet_line s (take k f) (take j level) refused ∙ sym (sheet_line s f level refused)
      | no loaded ↦
          let loads : load_refusal s ≡ 0 = omega arith in
          file_cut k enough' s f (take j level) loads ∙ elim (dec_lt 0 (count_rounds s f).refusal) [
            | yes refused ↦ file_line s f (take j level) loads refused ∙ sym (file_line s f level loads refused)
            | no reads ↦ level_text_cut j enough'' s f level (omega arith)
          ]
    ]
