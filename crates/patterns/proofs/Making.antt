-- The sheet maker's answer: its number, what a refused call leaves, what else it writes, and that this loads.
-- Assumes nothing.
use Prim.Native.Nat.{ℕ, ◌^◌, ◌<◌}
use mathlib.Core.Path.{◌≡◌, refl, sym, ap, ◌∙◌, subst}
use mathlib.Core.Bool.{false}
use mathlib.Core.List.{List}
use lib.Dec.{T}
use lib.ListN.{length}
use Rattle.rules.specs.Condition.{Tests}
use Rattle.rules.specs.Rule.{all_positive, lowest}
use Rattle.rules.proofs.Lowest.{clear_lowest}
use Rattle.sigma.specs.Instance.{Instance}
use Rattle.sigma.proofs.Tests.{says_some_non_element, says_bad_modulus, says_bad_order, says_bad_count, says_bad_statement}
use Rattle.formats.specs.Encode.{encode, sheet_of}
use Rattle.formats.specs.Load.{load_refusal}
use Rattle.formats.specs.Ours.{loaded}
use Rattle.formats.specs.Outcome.{Puts}
use Rattle.formats.specs.Sheet.{sheet_length}
use Rattle.formats.specs.Write.{Writing}
use Rattle.formats.proofs.SheetRoundTrip.{encode_loads}
use Rattle.formats.proofs.Tests.{says_short}
use Rattle.formats.proofs.Writing.{encode_puts, written_refusal}
use Rattle.patterns.specs.Maker.{asked, asked_kind, asked_pattern, bad_asked, made_rules, make_from, make_rules}
use Rattle.patterns.specs.Pattern.{header_for, made_for}
use Rattle.patterns.specs.PatternFile.{bad_digits, bad_pattern_file}
use Rattle.patterns.specs.Refusals.{made_conditions, make_conditions}
use Rattle.patterns.proofs.Maker.{asked_passes, maker_encodes}
use Rattle.patterns.proofs.Sheets.{made_read}
use Rattle.patterns.proofs.Tests.{says_23, says_24, says_asked}

-- the rules of the values and the buffer test the conditions of 5, 6, 8, 10, 11 and 22
pub made_tests : (values : List ℕ) (i : Instance) (buffer : List ℕ) → Tests (made_rules values i buffer) (made_conditions values i buffer)
unfolding made_rules
made_tests values i buffer = (
  refl,
  says_bad_modulus i.header,
  (
    refl,
    says_bad_order i.header,
    (
      refl,
      says_bad_count i.header,
      (
        refl,
        says_some_non_element i.header (length values) values,
        (refl, says_bad_statement i, (refl, says_short buffer (sheet_length i.header), tt)),
      ),
    ),
  ),
)

-- with 23, 24 and 1 before them they are the maker's
pub make_tests : (f : List ℕ) (number : ℕ) (values statement : List ℕ) (i : Instance) (buffer : List ℕ)
    → Tests (make_rules f number values statement i buffer) (make_conditions f number values statement i buffer)
unfolding make_rules
make_tests f number values statement i buffer = (
  refl,
  says_23 f,
  (
    refl,
    says_24 f,
    (refl, says_asked f number values statement, made_tests values i buffer),
  ),
)

-- none of its rules has the number 0
make_positive : (f : List ℕ) (number : ℕ) (values statement : List ℕ) (i : Instance) (buffer : List ℕ)
    → T (all_positive (make_rules f number values statement i buffer))
unfolding make_rules made_rules
make_positive f number values statement i buffer = tt

module _ (f : List ℕ) (number modulus order challenges : ℕ) (values statement buffer : List ℕ) where
  -- the values of the sheet, and what the call leaves
  abbrev inst : Instance
  inst = asked f number modulus order challenges values statement

  abbrev made : Writing
  made = make_from f number modulus order challenges values statement buffer

  -- the maker's number is what its rules give
  make_refusal : made.answer.refusal ≡ lowest (make_rules f number values statement inst buffer)
  unfolding make_from
  make_refusal = written_refusal _ _ _ _

  module _ (given : made.answer.refusal ≡ 0) where
    -- where nothing is refused, the first three tests pass
    pub make_passes : (bad_pattern_file f ≡ false) × (bad_digits f ≡ false) × (bad_asked f number values statement ≡ false)
    unfolding make_rules
    make_passes =
        let (filed, (digits, (fits, rest))) =
        clear_lowest (make_rules f number values statement inst buffer) (make_positive f number values statement inst buffer)
        (sym make_refusal ∙ given) in
        (filed, digits, fits)

    -- so that the maker is the second writer
    pub make_encodes : made ≡ encode inst buffer
    make_encodes =
        let (filed, digits, fits) = make_passes in
        maker_encodes f number modulus order challenges values statement filed digits fits buffer

    -- it puts the sheet of the asked values at the buffer's start
    pub make_puts : Puts (sheet_of inst) buffer made
    make_puts =
        subst (λ (w : Writing). Puts (sheet_of inst) buffer w) (sym make_encodes)
        (encode_puts inst buffer (sym (ap (λ (w : Writing). w.answer.refusal) make_encodes) ∙ given))

    -- and this loads as its kind, m, ℓ, K, the pattern's rows and columns, its entries and z
    pub make_loads : modulus < 2 ^ 32 → order < 2 ^ 32
        → Puts (sheet_of inst) buffer made × (load_refusal (sheet_of inst) ≡ 0) × (loaded (sheet_of inst) ≡ inst)
    unfolding asked made_for header_for
    make_loads small short =
        let runs = sym (ap (λ (w : Writing). w.answer.refusal) make_encodes) ∙ given in
        let (put, none, same) = encode_loads inst buffer small short runs in
        let rowed = (asked_passes f number values statement make_passes.2).2 in
        let read = made_read (asked_kind number) (asked_pattern f number) modulus order challenges values statement rowed in
        (make_puts, none, same ∙ read)
