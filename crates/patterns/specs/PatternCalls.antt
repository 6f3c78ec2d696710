-- What 02's second card asks: which refusals the calls on pattern files give, which bytes are a pattern file, which pattern a
-- number gives, what the sheet maker writes and what that means, and that the shipped file gives 01's sheets.
-- Assumes nothing.
use Rattle.std.specs.Prelude.{ℕ, suc, ◌+◌, ◌*◌, ◌%◌, ◌^◌, ◌<◌, ◌≤◌, ◌≡◌, ◌↔◌, true, length, get_or, replicate}
use mathlib.Core.List.{List, [], ◌∷◌, map, flatten}
use Rattle.lists.specs.Member.{Member}
use Rattle.lists.specs.Places.{tabulate}
use Rattle.numbers.specs.Product.{product}
use Rattle.rules.specs.Order.{is_sublist, refusal_order}
use Rattle.rules.specs.Refuses.{Refuses}
use Rattle.sigma.specs.Image.{row_image}
use Rattle.sigma.specs.Instance.{entry, statement_at, table_of}
use Rattle.formats.specs.Encode.{sheet_of}
use Rattle.formats.specs.Outcome.{Keeps, Puts}
use Rattle.formats.specs.Write.{Writing}
use Rattle.patterns.specs.Maker.{asked, asked_pattern}
use Rattle.patterns.specs.MakerCalls.{MakerCalls}
use Rattle.patterns.specs.Pattern.{Pattern, entry_of, root}
use Rattle.patterns.specs.PatternFile.{pattern_count}
use Rattle.patterns.specs.Refusals.{Refusal23, Refusal24, make_conditions, old_conditions, shipped_conditions}
use Rattle.patterns.specs.Table.{made, shipped}

-- ---- pattern files

-- rows, columns and number of public values are from 1 to 8, and there are rows × columns digits
pub record Sized (p : Pattern) : Type 0 where
  pub rows : (1 ≤ p.rows) × (p.rows ≤ 8)
  pub columns : (1 ≤ p.columns) × (p.columns ≤ 8)
  pub values : (1 ≤ p.values) × (p.values ≤ 8)
  pub digits : length p.digits ≡ p.rows * p.columns

-- no digit is above the number of public values, and each value is named by a digit
pub record Named (p : Pattern) : Type 0 where
  pub digits : (d : ℕ) → Member d p.digits → d ≤ p.values
  pub values : (v : ℕ) → 1 ≤ v → v ≤ p.values → Member v p.digits

-- f is the file of 1 to 32 patterns of right size: `PAT`, the version 1 in two bytes, the count, and the patterns' bytes one
-- after another
pub record Spells (ps : List Pattern) (f : List ℕ) : Type 0 where
  pub some : 1 ≤ length ps
  pub few : length ps ≤ 32
  pub sized : (p : Pattern) → Member p ps → Sized p
  pub bytes :
      f ≡ 0x50 ∷ 0x41 ∷ 0x54 ∷ 0 ∷ 1 ∷ length ps ∷ flatten (map (λ (p : Pattern). p.rows ∷ p.columns ∷ p.values ∷ p.digits) ps)

-- ---- 01's sheet maker

-- a call that takes a pattern number, m, ℓ, K, the public values, z and a lent buffer
abbrev pub Maker : Type 0
Maker = ℕ → ℕ → ℕ → ℕ → List ℕ → List ℕ → List ℕ → Writing

-- such a call is the sheet maker as 01 has it ("The patterns"), before pattern files
pub record OldMaker (make : Maker) : Type 0 where
  -- it tests its number and the counts, m, ℓ, K, the public values, z and the buffer; a refused call keeps the buffer's bytes and
  -- answers length 0
  pub refused : (number m ℓ K : ℕ) (values z buffer : List ℕ)
      → Refuses (1 ∷ 5 ∷ 6 ∷ 8 ∷ 10 ∷ 11 ∷ 22 ∷ []) (old_conditions number values z (made number m ℓ K values z) buffer)
      (make number m ℓ K values z buffer).answer.refusal (Keeps buffer (make number m ℓ K values z buffer))
  -- if nothing is refused, it puts the sheet of the pattern's values at the buffer's start
  pub written : (number m ℓ K : ℕ) (values z buffer : List ℕ) → (make number m ℓ K values z buffer).answer.refusal ≡ 0
      → Puts (sheet_of (made number m ℓ K values z)) buffer (make number m ℓ K values z buffer)

module _ (code : MakerCalls) where
  open code use {make_from, write_shipped}

  -- ---- demand 1, of the calls on pattern files

  pub record PatternRefusals : Type 0 where
    -- 23 and 24 stand before 1 in the order of the numbers
    pub order : is_sublist (23 ∷ 24 ∷ tabulate 22 suc) refusal_order ≡ true
    -- the sheet maker; a refused call keeps the buffer's bytes and answers length 0
    pub making : (f : List ℕ) (number m ℓ K : ℕ) (values z buffer : List ℕ)
        → Refuses (23 ∷ 24 ∷ 1 ∷ 5 ∷ 6 ∷ 8 ∷ 10 ∷ 11 ∷ 22 ∷ []) (make_conditions f number values z (asked f number m ℓ K values z) buffer)
        (make_from f number m ℓ K values z buffer).answer.refusal (Keeps buffer (make_from f number m ℓ K values z buffer))
    -- the call that writes the shipped file; likewise
    pub shipping : (buffer : List ℕ)
        → Refuses (22 ∷ []) (shipped_conditions buffer) (write_shipped buffer).answer.refusal (Keeps buffer (write_shipped buffer))

  -- ---- the card

  pub record PatternCalls : Type 0 where
    -- 23 is for every file that is not such patterns one after another
    pub files : (f : List ℕ) → (¬ Refusal23 f) ↔ ((ps : List Pattern) × Spells ps f)
    -- of those, 24 is for every file in which some pattern's digits or values are wrong
    pub digits : (ps : List Pattern) (f : List ℕ) → Spells ps f → (¬ Refusal24 f) ↔ ((p : Pattern) → Member p ps → Named p)
    -- the file's count is that of its patterns, and number k gives the k-th
    pub count : (ps : List Pattern) (f : List ℕ) → Spells ps f → pattern_count f ≡ length ps
    pub number : (ps : List Pattern) (f : List ℕ) → Spells ps f → (k : ℕ) → k < length ps → asked_pattern f (suc k) ≡ get_or ps k root
    -- 0 asks for the root, which has no public value and one row
    pub root_asked : (f : List ℕ) → ((asked_pattern f 0).values ≡ 0) × ((asked_pattern f 0).rows ≡ 1)
    -- where nothing is refused, the sheet maker puts the sheet of the asked values at the buffer's start
    pub written : (f : List ℕ) (number m ℓ K : ℕ) (values z buffer : List ℕ)
        → (make_from f number m ℓ K values z buffer).answer.refusal ≡ 0
        → Puts (sheet_of (asked f number m ℓ K values z)) buffer (make_from f number m ℓ K values z buffer)
    -- a digit 0 stands for 1, and any other for the public value of that position, from 1
    pub one : (values : List ℕ) → entry_of values 0 ≡ 1
    pub value : (values : List ℕ) (v : ℕ) → entry_of values (suc v) ≡ get_or values v 0
    -- the sheet of number k is of kind 1 and has the pattern's rows and columns and what its digits stand for as entries
    pub header : (f : List ℕ) (k m ℓ K : ℕ) (values z : List ℕ)
        → (asked f (suc k) m ℓ K values z).header
        ≡ record {
          kind = 1;
          modulus = m;
          order = ℓ;
          challenges = K;
          rows = (asked_pattern f (suc k)).rows;
          columns = (asked_pattern f (suc k)).columns;
        }
    pub entries : (f : List ℕ) (k m ℓ K : ℕ) (values z : List ℕ) (p : Pattern) → p ≡ asked_pattern f (suc k)
        → (i j : ℕ) → i < p.rows → j < p.columns
        → entry (table_of (asked f (suc k) m ℓ K values z)) i j ≡ entry_of values (get_or p.digits (p.columns * i + j) 0)
    -- that of 0, the root, is of kind 2 and has one row and one column and no entry
    pub root_header : (f : List ℕ) (m e K : ℕ) (values z : List ℕ)
        → (asked f 0 m e K values z).header
        ≡ record { kind = 2; modulus = m; order = e; challenges = K; rows = 1; columns = 1 }
    pub root_entries : (f : List ℕ) (m e K : ℕ) (values z : List ℕ)
        → (asked f 0 m e K values z).entries ≡ replicate 8 (replicate 8 0)
    -- the statement is z
    pub statement : (f : List ℕ) (number m ℓ K : ℕ) (values z : List ℕ) (i : ℕ)
        → statement_at (asked f number m ℓ K values z) i ≡ get_or z i 0
    -- what a pattern means: row by row the image of x is the product of what the digits stand for, each to its slot of x
    pub means : (f : List ℕ) (k m ℓ K : ℕ) (values z x : List ℕ) (p : Pattern) → p ≡ asked_pattern f (suc k)
        → (i : ℕ) → i < p.rows
        → row_image (table_of (asked f (suc k) m ℓ K values z)) x i
        ≡ product p.columns (λ j. entry_of values (get_or p.digits (p.columns * i + j) 0) ^ get_or x j 0) % m
    -- and the image of x under the root is its e-th power
    pub root_means : (f : List ℕ) (m e K : ℕ) (values z x : List ℕ)
        → row_image (table_of (asked f 0 m e K values z)) x 0 ≡ get_or x 0 0 ^ e % m
    -- the shipped file has these 34 bytes
    pub bytes : shipped
        ≡ 0x50 ∷ 0x41 ∷ 0x54 ∷ 0 ∷ 1 ∷ 5 ∷ 1 ∷ 1 ∷ 1 ∷ 1 ∷ 1 ∷ 2 ∷ 2 ∷ 1 ∷ 2 ∷ 2 ∷ 1 ∷ 2 ∷ 1 ∷ 2 ∷ 2 ∷ 1 ∷ 2 ∷ 1 ∷ 2 ∷
        2 ∷ 3 ∷ 3 ∷ 1 ∷ 2 ∷ 0 ∷ 3 ∷ 0 ∷ 2 ∷ []
    -- and its call puts them at the buffer's start
    pub ships : (buffer : List ℕ) → (write_shipped buffer).answer.refusal ≡ 0 → Puts shipped buffer (write_shipped buffer)
    -- with it the numbers 1 to 5 give what 01's sheet maker gave for them, and 0 what it gave for 6, in every answer, refusal and
    -- byte of the buffer
    pub same : {make : Maker} → OldMaker make → (number m ℓ K : ℕ) (values z buffer : List ℕ) → 1 ≤ number → number ≤ 5
        → make_from shipped number m ℓ K values z buffer ≡ make number m ℓ K values z buffer
    pub same_root : {make : Maker} → OldMaker make → (m e K : ℕ) (values z buffer : List ℕ)
        → make_from shipped 0 m e K values z buffer ≡ make 6 m e K values z buffer
