-- The reason on long files: what is found on the first 309 bytes of a sheet and the first 34,824 of a round file is what is
-- found on the whole, so a program that keeps no more and counts the rest prints what it must.
-- Assumes nothing.
use Prim.Native.Nat.{ℕ, ◌≤◌, ◌<◌}
use mathlib.Core.Path.{◌≡◌, refl, sym, ap, ap₂, ◌∙◌}
use mathlib.Core.Bool.{not}
use mathlib.Core.List.{List, ◌++◌}
use mathlib.Core.Logic.{inl, inr}
use native.Mathlib.Decide.{dec_lt}
use native.Mathlib.Omega.{arith}
use lib.Dec.{eqb, ltb}
use lib.ListN.{get_or, length, take}
use lib.Seq.{get_or-take, take_all}
use Rattle.types.specs.declared.Verdict.TheVariants.{Refused}
use Rattle.numbers.proofs.Search.{find_agree}
use Rattle.encoding.proofs.Bytes.{number_at_take}
use Rattle.rules.proofs.Says.{says_equal}
use Rattle.sigma.specs.Comparison.{differ, first_difference}
use Rattle.sigma.proofs.Calculus.{says_stable}
use Rattle.formats.specs.Refusals.{load_conditions, round_conditions}
use Rattle.formats.specs.RoundCalls.{check_round}
use Rattle.formats.specs.RoundFile.{count_field, file_version, round_mark}
use Rattle.formats.specs.Sheet.{header_of, sheet_length}
use Rattle.formats.proofs.Files.{check_runs}
use Rattle.formats.proofs.Loads.{loads, loads_few}
use Rattle.formats.proofs.LongFiles.{both_cut, file_short, loads_cut, sheet_short}
use Rattle.formats.proofs.FileRefusals.{file_refusals}
use Rattle.reasons.specs.Lines.{refused_line}
use Rattle.reasons.specs.Reason.{file_spot, reason_line, sheet_spot, spot_of}
use Rattle.rules.proofs.Explains.{Explains, explain, explains_given, known}
use Rattle.reasons.proofs.Line.{checked_refused, line_refused}

-- lists cut behind their first n places differ there as before
differ_cut : (n k : ℕ) (xs ys : List ℕ) → n ≤ k → differ n (take k xs) ys ≡ differ n xs ys
unfolding differ first_difference
differ_cut n k xs ys enough =
    ap (λ (i : ℕ). ltb i n)
    (find_agree _ _ 0 n (λ i low below. ap (λ (v : ℕ). not (eqb v (get_or ys i 0))) (get_or-take k xs i 0 (omega arith))))

module _ (a b : ℕ) (enough : 309 ≤ a) (enough' : 34824 ≤ b) (s f : List ℕ) (x y : ℕ) where
  -- the spot of rule n is the same
  abbrev Same : ℕ → Type 0
  Same n = spot_of (take a s) x (take b f) y n ≡ spot_of s x f y n

  -- the spots of 2 to 13 are
  spots_cut : Explains Same (λ k. ⊥) (load_conditions s ++ round_conditions (header_of s) f 0)
  unfolding spot_of sheet_spot file_spot header_of file_version count_field
  spots_cut =
      explain (known Same 2 refl) λ start.
      explain (known Same 3 refl) λ version.
      explain (known Same 4 refl) λ kind.
      explain (known Same 5 refl) λ modulus.
      explain (known Same 6 refl) λ order.
      explain (known Same 7 (rw (number_at_take 1 a s 18 (omega arith)))) λ size.
      explain (known Same 8 refl) λ count.
      explain (known Same 9 refl) λ exact.
      let rows : ¬ (8 < (header_of s).rows) = λ l. size (inr (inl l)) in
      let columns : ¬ (8 < (header_of s).columns) = λ l. size (inr (inr (inr (inl l)))) in
      let fits = says_stable (says_equal (length s) (sheet_length (header_of s))) exact in
      let whole : take a s ≡ s = take_all a s (omega (arith, fits, sheet_short (header_of s) (omega arith) (omega arith))) in
      explain (known Same 10 (ap (λ (t : List ℕ). sheet_spot t x 10) whole)) λ entries.
      explain (known Same 11 (ap (λ (t : List ℕ). sheet_spot t x 11) whole)) λ statement.
      let version = number_at_take 2 b f 3 (omega arith) in
      let count = number_at_take 2 b f 5 (omega arith) in
      explain (known Same 12 (rw (differ_cut 3 b f round_mark (omega arith), version, count))) λ file.
      explain (known Same 13 refl) λ number. tt

  -- the number of the check is the same
  number_cut : check_round (take a s) (take b f) 0 ≡ check_round s f 0
  number_cut = both_cut a b enough enough' s f 0

  -- so is the line
  pub line_cut : reason_line (take a s) x (take b f) y ≡ reason_line s x f y
  line_cut = elim (dec_lt 0 (check_round s f 0)) [
    | yes refused ↦
        let n = check_round s f 0 in
        let conditions = load_conditions s ++ round_conditions (header_of s) f 0 in
        let gives = (file_refusals.checking s f 0).given in
        let kept = checked_refused (take a s) (take b f) (omega (arith, number_cut)) ∙ ap Refused number_cut in
        line_refused (take a s) (take b f) x y n kept
        ∙ ap (refused_line n) (explains_given Same (λ k. ⊥) conditions n spots_cut gives refused)
        ∙ sym (line_refused s f x y n (checked_refused s f refused))
    | no passed ↦
        let (sheet, file, some) = (check_runs s f 0).0 (omega arith) in
        let (rows, columns) = loads_few s sheet in
        ap₂ (λ (t g : List ℕ). reason_line t x g y) (loads_cut a enough s ((loads s).1 sheet))
        (take_all b f (omega (arith, file_short rows columns file)))
  ]
