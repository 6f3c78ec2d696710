-- Words of a file compared one by one: all agree exactly where their bytes do.
-- Assumes nothing.
use Prim.Native.Nat.{ℕ, ◌+◌, ◌*◌, ◌<◌}
use mathlib.Core.Path.{◌≡◌, sym, ◌∙◌}
use mathlib.Core.Logic.{◌↔◌}
use mathlib.Core.Bool.{Bool, true, false, not, not-eq-not}
use mathlib.Core.List.{List}
use native.Mathlib.Decide.{dec_lt}
use native.Mathlib.Omega.{arith}
use Rattle.std.proofs.Common.{zero-add}
use Rattle.std.specs.Bool.{MatchBool}
use Rattle.std.specs.List.{AllWithin, HoldsAt, range_with_len}
use Rattle.std.proofs.lemmas.List.FromFn.{get_or-range_with_len, length-range_with_len}
use lib.ListN.{drop, length}
use lib.Seq.{get_or-drop}
use Rattle.encoding.specs.Bytes.{AllBytes, number_at}
use Rattle.encoding.proofs.Words.{words_bytes}
use Rattle.sigma.specs.Comparison.{differ}
use Rattle.sigma.proofs.Comparison.{differ_false}

-- the words at place k from a and from b on agree
abbrev pub SameAt : List ℕ → ℕ → ℕ → ℕ → Type 0
SameAt f a b k = number_at 4 f (a + 4 * k) ≡ number_at 4 f (b + 4 * k)

-- the first n words from a and from b on agree
abbrev pub WordsAgree : List ℕ → ℕ → ℕ → ℕ → Type 0
WordsAgree f a b n = (k : ℕ) → k < n → SameAt f a b k

module _ (f : List ℕ) (a b n : ℕ) (bytes : AllBytes f) where
  -- the words agree exactly where the lists from a and b on do not differ in their bytes
  words_differ : (differ (4 * n) (drop a f) (drop b f) ≡ false) ↔ WordsAgree f a b n
  words_differ =
      let words = words_bytes 4 f a b bytes n in
      let none = differ_false (4 * n) (drop a f) (drop b f) in (
        λ e. words.1 (λ k less. sym (get_or-drop a f k 0) ∙ none.0 e k less ∙ get_or-drop b f k 0),
        λ agree. none.1 (λ k less. get_or-drop a f k 0 ∙ words.0 agree k less ∙ sym (get_or-drop b f k 0)),
      )

  -- where all agree, the answer is that nothing differs
  pub all_agree : WordsAgree f a b n → true ≡ not (differ (4 * n) (drop a f) (drop b f))
  all_agree agree = rw (words_differ.1 agree)

  -- where one does not, it is that something does
  pub one_differs : (k : ℕ) → k < n → ¬ SameAt f a b k
      → false ≡ not (differ (4 * n) (drop a f) (drop b f))
  one_differs k less other =
      let some : differ (4 * n) (drop a f) (drop b f) ≡ true =
      (not-eq-not {b = true}).0 (λ e. other (words_differ.0 e k less)) in
      rw some

  -- what was answered of the words one by one, by `true` where all agree, is that nothing differs
  pub agree_told : (told : Bool)
      → MatchBool told (AllWithin (SameAt f a b) (range_with_len 0 n) 0 (length (range_with_len 0 n)))
      ((k : ℕ) × (k < length (range_with_len 0 n)) × HoldsAt (λ k. ¬ SameAt f a b k) (range_with_len 0 n) k)
      → told ≡ not (differ (4 * n) (drop a f) (drop b f))
  agree_told true all =
      all_agree (λ k less. rw (get_or-range_with_len 0 n k 0 less, zero-add) at (all k 0 (omega arith) (rw length-range_with_len less)))
  agree_told false (k, within, other) =
      let less : k < n = rw length-range_with_len at within in
      one_differs k less (rw (get_or-range_with_len 0 n k 0 less, zero-add) at (other 0))

-- one word more that agrees
pub words_on : (f : List ℕ) (a b n : ℕ) → WordsAgree f a b n → number_at 4 f (a + 4 * n) ≡ number_at 4 f (b + 4 * n)
    → WordsAgree f a b (n + 1)
words_on f a b n agree same k less = elim (dec_lt k n) [
  | yes before ↦ agree k before
  | no behind ↦ let e : k ≡ n = omega arith in rw e same
]
