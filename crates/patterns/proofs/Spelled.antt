-- A pattern file is the bytes of its patterns: 23 does not apply to a file exactly where it is the bytes of 1 to 32 patterns of
-- right size, its patterns are then those, in their order, and 24 is about their digits and values.
-- Assumes nothing.
use Prim.Native.Nat.{ℕ, zero, suc, ◌+◌, ◌*◌, ◌<◌, ◌≤◌}
use mathlib.Core.Path.{◌≡◌, refl, sym, ap, ap₂, ◌∙◌, subst}
use mathlib.Core.Logic.{◌↔◌, inl, inr}
use mathlib.Core.List.{List, [], ◌∷◌, ◌++◌, append_assoc, append-nil, flatten, map, map-append}
use native.Mathlib.Nat.{add-zero}
use native.Mathlib.Omega.{arith}
use lib.ListN.{length, get_or, take, drop, length-append, length-drop}
use lib.Seq.{ext_get_or, get_or-append-add, get_or-drop, get_or-take, length-take-le, take-add, take_all}
use lib.ListN.{get_or-append}
use Rattle.encoding.specs.Bytes.{number_at}
use Rattle.encoding.specs.Text.{ascii}
use Rattle.encoding.proofs.Bytes.{number_at_one}
use Rattle.lists.specs.Member.{Member}
use Rattle.lists.specs.Places.{items_at, tabulate}
use Rattle.lists.proofs.Member.{member_at, member_place}
use Rattle.lists.proofs.Places.{
  get_d_items_at,
  get_d_tabulate,
  items_at_tabulate,
  length_items_at,
  length_tabulate,
  tabulate_agree,
  tabulate_suc,
}
use Rattle.lists.proofs.Rows.{flatten_append}
use Rattle.sigma.specs.Reads.{Agree}
use Rattle.formats.proofs.Loads.{begins}
use Rattle.patterns.specs.Maker.{asked_pattern}
use Rattle.patterns.specs.Pattern.{Pattern, root}
use Rattle.patterns.specs.PatternCalls.{Named, Sized, Spells}
use Rattle.patterns.specs.PatternFile.{pattern_at, pattern_bytes, pattern_count, pattern_from, pattern_mark, pattern_start, pattern_version}
use Rattle.patterns.specs.Refusals.{Misnamed, Refusal24}
use Rattle.patterns.proofs.Files.{Filed, named, start_next, start_within}
use Rattle.patterns.proofs.Maker.{asked_pattern_law}

-- the bytes of patterns, one after another
abbrev spelled : List Pattern → List ℕ
spelled ps = flatten (map pattern_bytes ps)

-- ---- from the file to its patterns

-- the bytes of a list from `at` on
abbrev bytes_from : List ℕ → ℕ → ℕ → List ℕ
bytes_from f at n = items_at (λ k. get_or f k 0) at 1 n

-- a front and the bytes behind it are a longer front
take_bytes_from : (f : List ℕ) (at n : ℕ) → at + n ≤ length f → take (at + n) f ≡ take at f ++ bytes_from f at n
take_bytes_from f at n fits =
    let long : length (take n (drop at f)) ≡ n = length-take-le n (drop at f) (omega (arith, length-drop at f)) in
    let many = length_items_at (λ k. get_or f k 0) at 1 n in
    take-add at n f
    ∙ ap (λ (l : List ℕ). take at f ++ l)
    (ext_get_or 0 (take n (drop at f)) (bytes_from f at n) (long ∙ sym many) (λ j b.
    let inside : j < n = omega arith in
    let place : at + j ≡ at + 1 * j = omega arith in
    get_or-take n (drop at f) j 0 inside ∙ get_or-drop at f j 0 ∙ ap (λ (k : ℕ). get_or f k 0) place
    ∙ sym (get_d_items_at (λ k. get_or f k 0) at 1 n j 0 inside)))

-- the bytes of the pattern that was read at `at` are those that it was read from
bytes_read : (f : List ℕ) (at : ℕ)
    → pattern_bytes (pattern_from f at) ≡ bytes_from f at (suc (suc (suc ((pattern_from f at).rows * (pattern_from f at).columns))))
unfolding pattern_bytes pattern_from items_at
bytes_read f at =
    let n = get_or f at 0 * get_or f (at + 1) 0 in
    let third : at + 2 ≡ at + 1 + 1 = omega arith in
    let digits : tabulate n (λ d. get_or f (at + 3 + d) 0) ≡ bytes_from f (at + 1 + 1 + 1) n =
    tabulate_agree n (λ d. get_or f (at + 3 + d) 0) (λ d. get_or f (at + 1 + 1 + 1 + 1 * d) 0)
    (λ d b. ap (λ (k : ℕ). get_or f k 0) (omega arith))
    ∙ sym (items_at_tabulate (λ k. get_or f k 0) (at + 1 + 1 + 1) 1 n) in
    ap₂ (λ (v : ℕ) (ds : List ℕ). get_or f at 0 ∷ get_or f (at + 1) 0 ∷ v ∷ ds) (ap (λ (k : ℕ). get_or f k 0) third) digits

-- one pattern more, at the end
spelled_suc : (n : ℕ) (g : ℕ → Pattern) → spelled (tabulate (suc n) g) ≡ spelled (tabulate n g) ++ pattern_bytes (g n)
unfolding flatten
spelled_suc n g =
    ap spelled (tabulate_suc n g) ∙ ap flatten (map-append pattern_bytes (tabulate n g) (g n ∷ []))
    ∙ flatten_append (map pattern_bytes (tabulate n g)) (pattern_bytes (g n) ∷ [])
    ∙ ap (λ (l : List ℕ). spelled (tabulate n g) ++ l) (append-nil (pattern_bytes (g n)))

module _ {f : List ℕ} (filed : Filed f) where
  -- the file up to pattern n is its first six bytes and the bytes of the patterns before
  spelled_front : (n : ℕ) → n ≤ pattern_count f → take (pattern_start f n) f ≡ take 6 f ++ spelled (tabulate n (pattern_at f))
  unfolding flatten pattern_start pattern_at tabulate items_at
  spelled_front zero few = sym (append-nil (take 6 f))
  spelled_front (suc n) few =
      let at = pattern_start f n in
      let p = pattern_from f at in
      let size = suc (suc (suc (p.rows * p.columns))) in
      let next : pattern_start f (suc n) ≡ at + size = omega (arith, start_next f n) in
      ap (λ (k : ℕ). take k f) next ∙ take_bytes_from f at size (omega (arith, start_within filed (suc n) few))
      ∙ ap₂ (λ (xs ys : List ℕ). xs ++ ys) (spelled_front n (omega arith)) (sym (bytes_read f at))
      ∙ append_assoc (take 6 f) (spelled (tabulate n (pattern_at f))) (pattern_bytes p)
      ∙ ap (λ (l : List ℕ). take 6 f ++ l) (sym (spelled_suc n (pattern_at f)))

  -- the first six bytes are the mark, the version and the count
  six_agree : Agree 6 f (0x50 ∷ 0x41 ∷ 0x54 ∷ 0 ∷ 1 ∷ pattern_count f ∷ [])
  unfolding pattern_mark ascii pattern_version pattern_count number_at
  six_agree zero h = filed.mark 0 (omega arith)
  six_agree (suc zero) h = filed.mark 1 (omega arith)
  six_agree (suc (suc zero)) h = filed.mark 2 (omega arith)
  six_agree (suc (suc (suc zero))) h = omega (arith, filed.version)
  six_agree (suc (suc (suc (suc zero)))) h = omega (arith, filed.version)
  six_agree (suc (suc (suc (suc (suc zero))))) h = sym (number_at_one f 5)
  six_agree (suc (suc (suc (suc (suc (suc j)))))) h = absurd (omega arith)

  -- so the file is the bytes of its patterns
  pub filed_spells : Spells (tabulate (pattern_count f) (pattern_at f)) f
  unfolding pattern_bytes
  filed_spells =
      let ps = tabulate (pattern_count f) (pattern_at f) in
      let many : length ps ≡ pattern_count f = length_tabulate (pattern_count f) (pattern_at f) in
      let six = (begins 6 f (0x50 ∷ 0x41 ∷ 0x54 ∷ 0 ∷ 1 ∷ pattern_count f ∷ []) refl filed.long).0 six_agree in
      record {
        some = omega (arith, filed.some);
        few = omega (arith, filed.few);
        sized = λ p m.
            let (k, b, e) = member_place root p ps m in
            let inside : k < pattern_count f = omega arith in
            subst Sized (sym (e ∙ get_d_tabulate (pattern_count f) (pattern_at f) k root inside)) (filed.sizes k inside);
        bytes =
            sym (take_all (pattern_start f (pattern_count f)) f (omega (arith, filed.exact)))
            ∙ spelled_front (pattern_count f) (omega arith)
            ∙ ap₂ (λ (front : List ℕ) (rest : List ℕ). front ++ rest) six refl
            ∙ ap (λ (n : ℕ). 0x50 ∷ 0x41 ∷ 0x54 ∷ 0 ∷ 1 ∷ n ∷ spelled ps) (sym many);
      }

-- ---- from patterns to their file

-- a pattern whose bytes stand behind others is read where they begin
read_back : (f pre rest : List ℕ) (p : Pattern) → Sized p → f ≡ pre ++ (pattern_bytes p ++ rest) → pattern_from f (length pre) ≡ p
unfolding pattern_from pattern_bytes
read_back f pre rest p s e =
    let at = length pre in
    let behind : (j : ℕ) → get_or f (at + j) 0 ≡ get_or (pattern_bytes p ++ rest) j 0 =
    λ j. ap (λ (l : List ℕ). get_or l (at + j) 0) e ∙ get_or-append-add pre (pattern_bytes p ++ rest) j 0 in
    let rows : get_or f at 0 ≡ p.rows = ap (λ (k : ℕ). get_or f k 0) (sym (add-zero at)) ∙ behind 0 in
    let n = get_or f at 0 * get_or f (at + 1) 0 in
    let area : n ≡ length p.digits = ap₂ (λ (r c : ℕ). r * c) rows (behind 1) ∙ sym s.digits in
    let many = length_tabulate n (λ d. get_or f (at + 3 + d) 0) in
    let digits : tabulate n (λ d. get_or f (at + 3 + d) 0) ≡ p.digits =
    ext_get_or 0 (tabulate n (λ d. get_or f (at + 3 + d) 0)) p.digits (many ∙ area) (λ d b.
    let place : at + 3 + d ≡ at + suc (suc (suc d)) = omega arith in
    get_d_tabulate n (λ k. get_or f (at + 3 + k) 0) d 0 (omega arith) ∙ ap (λ (k : ℕ). get_or f k 0) place
    ∙ behind (suc (suc (suc d))) ∙ get_or-append p.digits rest 0 d (omega arith)) in
    λ i. record { rows = rows i; columns = behind 1 i; values = behind 2 i; digits = digits i }

-- what is so of the first, and of the later ones, is so of all
first_and_later : (g : ℕ → Pattern) (p : Pattern) (ps : List Pattern) (j : ℕ) → g j ≡ p
    → ((k : ℕ) → k < length ps → g (suc j + k) ≡ get_or ps k root)
    → (k : ℕ) → k < length (p ∷ ps) → g (j + k) ≡ get_or (p ∷ ps) k root
first_and_later g p ps j first later zero h = ap g (add-zero j) ∙ first
first_and_later g p ps j first later (suc k) h = ap g {x = j + suc k} {y = suc j + k} (omega arith) ∙ later k (omega arith)

-- patterns whose bytes stand one after another where pattern j begins are the file's from pattern j on, and the file ends
-- behind them
walk : (f : List ℕ) (ps : List Pattern) (pre : List ℕ) (j : ℕ) → ((p : Pattern) → Member p ps → Sized p)
    → f ≡ pre ++ spelled ps → pattern_start f j ≡ length pre
    → ((k : ℕ) → k < length ps → pattern_at f (j + k) ≡ get_or ps k root) × (pattern_start f (j + length ps) ≡ length f)
unfolding flatten pattern_at pattern_bytes
walk f [] pre j sized e at =
    let whole : length f ≡ length pre = ap length (e ∙ append-nil pre) in
    (λ k h. absurd (omega arith), ap (pattern_start f) (add-zero j) ∙ at ∙ sym whole)
walk f (p ∷ ps) pre j sized e at =
    let right = sized p (inl refl) in
    let first : pattern_at f j ≡ p = ap (pattern_from f) at ∙ read_back f pre (spelled ps) p right e in
    let area : (pattern_at f j).rows * (pattern_at f j).columns ≡ length p.digits =
    ap (λ (q : Pattern). q.rows * q.columns) first ∙ sym right.digits in
    let next : pattern_start f (suc j) ≡ length (pre ++ pattern_bytes p) =
    omega (arith, start_next f j, length-append pre (pattern_bytes p)) in
    let (later, end) =
    walk f ps (pre ++ pattern_bytes p) (suc j) (λ q m. sized q (inr m)) (e ∙ sym (append_assoc pre (pattern_bytes p) (spelled ps))) next in (
      first_and_later (pattern_at f) p ps j first later,
      ap (pattern_start f) {x = j + suc (length ps)} {y = suc j + length ps} (omega arith) ∙ end,
    )

-- the mark's bytes
mark_agree : (rest : List ℕ) → Agree 3 (0x50 ∷ 0x41 ∷ 0x54 ∷ rest) pattern_mark
unfolding pattern_mark ascii
mark_agree rest zero h = refl
mark_agree rest (suc zero) h = refl
mark_agree rest (suc (suc zero)) h = refl
mark_agree rest (suc (suc (suc j))) h = absurd (omega arith)

module _ {ps : List Pattern} {f : List ℕ} (s : Spells ps f) where
  -- the count of a file of patterns is theirs
  pub spells_count : pattern_count f ≡ length ps
  unfolding pattern_count
  spells_count = number_at_one f 5 ∙ ap (λ (l : List ℕ). get_or l 5 0) s.bytes

  -- its patterns are those, and it ends behind the last
  walked : ((k : ℕ) → k < length ps → pattern_at f (0 + k) ≡ get_or ps k root) × (pattern_start f (0 + length ps) ≡ length f)
  unfolding pattern_bytes pattern_start
  walked = walk f ps (0x50 ∷ 0x41 ∷ 0x54 ∷ 0 ∷ 1 ∷ length ps ∷ []) 0 s.sized s.bytes refl

  -- pattern k is the k-th
  pub spells_pattern : (k : ℕ) → k < length ps → pattern_at f k ≡ get_or ps k root
  spells_pattern k h = ap (pattern_at f) {x = k} {y = 0 + k} (omega arith) ∙ walked.0 k h

  -- and number k + 1 asks for it
  pub spells_number : (k : ℕ) → k < length ps → asked_pattern f (suc k) ≡ get_or ps k root
  spells_number k h = (asked_pattern_law f k).1 ∙ spells_pattern k h

  -- 23 does not apply to it
  pub spells_filed : Filed f
  unfolding pattern_version number_at pattern_bytes
  spells_filed =
      let count = spells_count in
      let some = s.some in
      let few = s.few in
      record {
        long = omega (arith, ap length s.bytes);
        mark = subst (λ (l : List ℕ). Agree 3 l pattern_mark) (sym s.bytes) (mark_agree (0 ∷ 1 ∷ length ps ∷ spelled ps));
        version = ap pattern_version s.bytes;
        some = omega arith;
        few = omega arith;
        sizes = λ k b.
            let inside : k < length ps = omega arith in
            subst Sized (sym (spells_pattern k inside)) (s.sized _ (member_at root ps k inside));
        exact = sym (ap (pattern_start f) {x = pattern_count f} {y = 0 + length ps} (omega arith) ∙ walked.1);
      }

-- ---- 24

-- of a file of patterns, 24 does not apply exactly where that holds of each
pub spells_digits : (ps : List Pattern) (f : List ℕ) → Spells ps f → (¬ Refusal24 f) ↔ ((p : Pattern) → Member p ps → Named p)
spells_digits ps f s =
    let count = spells_count s in (
      λ right p m.
          let (k, b, e) = member_place root p ps m in
          let same : p ≡ pattern_at f k = e ∙ sym (spells_pattern s k b) in
          (named p (s.sized p m)).0 (λ bad. right (k, omega arith, subst Misnamed same bad)),
      λ names (k, b, bad).
          let inside : k < length ps = omega arith in
          let m = member_at root ps k inside in
          (named (get_or ps k root) (s.sized _ m)).1 (names _ m) (subst Misnamed (spells_pattern s k inside) bad),
    )
