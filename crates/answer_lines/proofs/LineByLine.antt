-- The game's lines, challenge by challenge, and the slots of a response, one by one.
-- Assumes nothing.
use Prim.Native.Nat.{ℕ, suc, ◌+◌, ◌-◌, ◌<◌, ◌≤◌, min}
use mathlib.Core.Path.{◌≡◌, refl, sym, ap, subst, ◌∙◌}
use mathlib.Core.Logic.{◌≢◌}
use mathlib.Core.List.{List, [], ◌∷◌, ◌++◌, append-nil, flatten, map, map-append}
use native.Mathlib.Decide.{dec_lt}
use native.Mathlib.Numerals.{add-one}
use native.Mathlib.Omega.{arith}
use lib.ListN.{get_or, length, length-append, length-take}
use borrow.Author.Tests.{le-ltb, lt-ltb}
use Rattle.types.specs.declared.Header.{Header}
use Rattle.lists.specs.Places.{items_at, pad8, places, tabulate}
use Rattle.lists.proofs.Places.{places_pad8, places_suc, places_whole}
use Rattle.lists.proofs.Rows.{flatten_append}
use Rattle.lists.proofs.Words.{words_suc, words_zero}
use Rattle.encoding.specs.Placed.{Fitted}
use Rattle.encoding.proofs.Fitted.{fitted_as, fitted_none, fitted_out, fitted_then}
use Rattle.encoding.specs.Text.{ascii, decimal}
use Rattle.runs.specs.Marker.{newline, row_word}
use Rattle.sigma.specs.Instance.{Instance}
use Rattle.sigma.proofs.ByKind.{by_kind, exponent_kind, root_kind}
use Rattle.games.specs.Text.{answer_line, answer_lines, answered, candidate, candidates, first_answer, is_answered, lines_of}
use Rattle.games.proofs.Slots.{length_slots}
use Rattle.solver.specs.Small.{Small}
use Rattle.answer_lines.specs.Lines.{line_at, lines_below}

-- a list of no items is empty
length_zero : (xs : List ℕ) → length xs ≡ 0 → xs ≡ []
length_zero [] e = refl
length_zero (x ∷ xs) e = absurd (omega arith)

-- ---- the slots of a response

-- no slots
pub no_slots : (l : List ℕ) (at : ℕ) (values : List ℕ) → Fitted l at (flatten (map row_word (places 0 values))) l at
unfolding places tabulate items_at flatten
no_slots l at values = fitted_none l at

-- one slot more
slots_suc : (values : List ℕ) (n : ℕ)
    → flatten (map row_word (places (suc n) values)) ≡ flatten (map row_word (places n values)) ++ row_word (get_or values n 0)
unfolding flatten
slots_suc values n =
    let last = get_or values n 0 ∷ [] in
    ap (λ (xs : List ℕ). flatten (map row_word xs)) (places_suc n values)
    ∙ ap flatten (map-append row_word (places n values) last)
    ∙ flatten_append (map row_word (places n values)) (map row_word last)
    ∙ ap (λ (xs : List ℕ). flatten (map row_word (places n values)) ++ xs) (append-nil (row_word (get_or values n 0)))

-- slot j after those before it
pub slot_fitted : (values : List ℕ) {l m p : List ℕ} {at x y : ℕ} (j : ℕ) → Fitted l at (flatten (map row_word (places j values))) m x
    → Fitted m x (row_word (get_or values j 0)) p y → Fitted l at (flatten (map row_word (places (j + 1) values))) p y
slot_fitted values j slots slot = rw (add-one j, slots_suc values j) (fitted_then slots slot)

-- ---- the line of a challenge

module _ (h : Header) (c k : ℕ) where
  -- one that has no accepting response
  pub no_line : candidates h ≤ k → line_at h c k ≡ []
  unfolding line_at
  no_line none = rw (le-ltb k (candidates h) none)

  -- a candidate has n slots
  length_candidate : Small h → length (candidate h k) ≡ h.columns
  unfolding candidate
  length_candidate small =
      by_kind h (λ one. rw (exponent_kind h one) (length_slots h.order small.order h.columns k))
      (λ other. rw (root_kind h other) (sym (small.one_column other)))

  -- one that has
  pub answer_line_law : k < candidates h → Small h → {response : List ℕ} → response ≡ pad8 0 (candidate h k)
      → line_at h c k ≡ decimal c ++ flatten (map row_word (places h.columns response)) ++ newline
  unfolding line_at
  answer_line_law found small {response} is_response =
      let n = h.columns in
      let slots : places n response ≡ candidate h k =
      ap (places n) is_response ∙ places_pad8 n (candidate h k) ∙ places_whole n (candidate h k) (length_candidate small) in
      rw (slots, lt-ltb k (candidates h) found)

module _ (inst : Instance) (t : List ℕ) where
  -- ---- the lines of the first challenges

  -- no lines
  pub no_lines : (l : List ℕ) → Fitted l 0 (lines_below inst t 0) l 0
  unfolding lines_below
  no_lines l = rw (words_zero (answer_line inst t) (is_answered inst t)) (fitted_none l 0)

  -- the lines of one challenge more
  lines_suc : (n : ℕ) → lines_below inst t (suc n) ≡ lines_below inst t n ++ line_at inst.header n (first_answer inst t n)
  unfolding lines_below line_at is_answered answer_line
  lines_suc n = words_suc (answer_line inst t) n (is_answered inst t)

  -- the line of challenge c after those before it
  pub line_fitted : {l m p : List ℕ} {x y : ℕ} (c : ℕ) → Fitted l 0 (lines_below inst t c) m x
      → {k : ℕ} → k ≡ first_answer inst t c → Fitted m x (line_at inst.header c k) p y → Fitted l 0 (lines_below inst t (c + 1)) p y
  line_fitted c lines is_first line = rw (add-one c, lines_suc c, ← is_first) (fitted_then lines line)

  -- a challenge that has no accepting response has no line
  pub line_passed : {l m : List ℕ} {x : ℕ} (c : ℕ) → Fitted l 0 (lines_below inst t c) m x
      → candidates inst.header ≤ first_answer inst t c → Fitted l 0 (lines_below inst t (c + 1)) m x
  line_passed c lines none =
      line_fitted c lines refl (rw (no_line inst.header c (first_answer inst t c) none) (fitted_none _ _))

  -- ---- all lines, or `none`

  -- the lines of all challenges
  abbrev all_lines : List ℕ
  all_lines = lines_below inst t inst.header.challenges

  -- a line has some byte
  line_some : (c : ℕ) → 0 < length (answer_line inst t c)
  unfolding answer_line newline
  line_some c = simp length-append (omega arith)

  -- lines of no byte are those of no challenge
  none_listed : (cs : List ℕ) → length (flatten (map (answer_line inst t) cs)) ≡ 0 → lines_of inst t cs ≡ ascii "none" ++ newline
  unfolding flatten lines_of
  none_listed [] e = refl
  none_listed (c ∷ cs) e =
      absurd (omega (arith, line_some c, length-append (answer_line inst t c) (flatten (map (answer_line inst t) cs))))

  -- other lines are the text
  some_listed : (cs : List ℕ) → 0 < length (flatten (map (answer_line inst t) cs))
      → lines_of inst t cs ≡ flatten (map (answer_line inst t) cs)
  unfolding flatten lines_of
  some_listed [] some = absurd (omega arith)
  some_listed (c ∷ cs) some = refl

  -- so the text is `none` if no line has a byte
  none_text : length all_lines ≡ 0 → answer_lines inst t ≡ ascii "none" ++ newline
  unfolding lines_below answer_lines answered
  none_text e = none_listed (answered inst t) e

  -- else it is the lines
  lines_text : 0 < length all_lines → answer_lines inst t ≡ all_lines
  unfolding lines_below answer_lines answered
  lines_text some = some_listed (answered inst t) some

  module _ {l m : List ℕ} {c x : ℕ} (fitted : Fitted l 0 (lines_below inst t c) m x) (whole : c ≡ inst.header.challenges) where
    -- the lines of all challenges are stored
    all_fitted : Fitted l 0 all_lines m x
    all_fitted = subst (λ (n : ℕ). Fitted l 0 (lines_below inst t n) m x) whole fitted

    -- the index after them is the number of bytes that have room
    all_behind : x ≡ min (length l) (length all_lines)
    all_behind = omega (arith, all_fitted.placed.behind, length-take (length l - 0) all_lines)

    -- they are the text if some byte was stored
    pub lines_fitted : x ≢ 0 → Fitted l 0 (answer_lines inst t) m x
    lines_fitted some = fitted_as all_fitted (lines_text (omega (arith, all_behind)))

    -- if none was, the text is `none`, or there is no room
    pub none_fitted : x ≡ 0 → {p : List ℕ} {y : ℕ} → Fitted m 0 (ascii "none" ++ newline) p y → Fitted l 0 (answer_lines inst t) p y
    none_fitted none {p} {y} word =
        let after : Fitted m x (ascii "none" ++ newline) p y =
        subst (λ (i : ℕ). Fitted m i (ascii "none" ++ newline) p y) (sym none) word in
        let both = fitted_then all_fitted after in
        elim (dec_lt 0 (length l)) [
          | yes room ↦
              let no_bytes : length all_lines ≡ 0 = omega (arith, all_behind) in
              let alone = ap (λ (lines : List ℕ). lines ++ (ascii "none" ++ newline)) (length_zero all_lines no_bytes) in
              fitted_as both (none_text no_bytes ∙ sym alone)
          | no room ↦ fitted_out both (omega arith) (answer_lines inst t)
        ]
