-- Sheets from linear forms (02, card 10), worked out: Maurer's example of section 6.5, z_1 = h1^x3 · h2^x1 and
-- z_2 = h1^x2 · h2^x4 · h3^x1, over m 23, q 11, K 11 and the generators 2, 3, 4; and tables that tell rows, generators and columns apart.
-- Assumes nothing.
use Rattle.std.specs.Prelude.{ℕ, ◌≡◌, List, [], ◌∷◌, ◌++◌, replicate}
use Rattle.std.proofs.lemmas.List.Edits.{sets}
use Rattle.formats.specs.Load.{load, load_entries}
use Rattle.formats.specs.Sheet.{instance_of}
use Rattle.linear_forms.specs.Linear.{make_linear}
use Rattle.linear_forms.specs.LinearPlan.{LinearPlan, linear_plan}
use Rattle.sigma.specs.Image.{image}
use Rattle.sigma.specs.Instance.{table_of}
use Rattle.examples.specs.AnswerPage.{KeptAs, WrittenAs, sevens}
use Rattle.examples.specs.Sheets.{sheet_bytes}
use Rattle.examples.specs.TwoRows.{eight}

-- the coefficients of x_1 to x_4, for each generator of the first row, then of the second
unfoldable pub maurer_forms : List ℕ
maurer_forms =
    0 ∷ 0 ∷ 1 ∷ 0 ∷
    1 ∷ 0 ∷ 0 ∷ 0 ∷
    0 ∷ 0 ∷ 0 ∷ 0 ∷
    0 ∷ 1 ∷ 0 ∷ 0 ∷
    0 ∷ 0 ∷ 0 ∷ 1 ∷
    1 ∷ 0 ∷ 0 ∷ 0 ∷ []

-- the plan with these coefficients, z being (1, 8)
unfoldable pub maurer_plan : List ℕ → LinearPlan
maurer_plan coefficients = linear_plan 23 11 11 2 4 (2 ∷ 3 ∷ 4 ∷ []) coefficients (1 ∷ 8 ∷ [])

-- its sheet: the fixed fields, the rows (3 1 2 1) and (4 2 1 3), and z
unfoldable pub maurer_sheet : List ℕ
maurer_sheet =
    0x48 ∷ 0x4F ∷ 0x4D ∷ 0 ∷ 1 ∷ 1 ∷ 0 ∷ 0 ∷ 0 ∷ 23 ∷ 0 ∷ 0 ∷ 0 ∷ 11 ∷ 0 ∷ 0 ∷ 0 ∷ 11 ∷ 2 ∷ 4 ∷
    0 ∷ 0 ∷ 0 ∷ 3 ∷ 0 ∷ 0 ∷ 0 ∷ 1 ∷ 0 ∷ 0 ∷ 0 ∷ 2 ∷ 0 ∷ 0 ∷ 0 ∷ 1 ∷
    0 ∷ 0 ∷ 0 ∷ 4 ∷ 0 ∷ 0 ∷ 0 ∷ 2 ∷ 0 ∷ 0 ∷ 0 ∷ 1 ∷ 0 ∷ 0 ∷ 0 ∷ 3 ∷
    0 ∷ 0 ∷ 0 ∷ 1 ∷ 0 ∷ 0 ∷ 0 ∷ 8 ∷ []

pub record LinearPage : Type 0 where
  -- the whole answer, in a buffer of sevens that has two bytes more
  pub made : WrittenAs maurer_sheet 60 (make_linear (maurer_plan maurer_forms) (sevens 62))
  -- with a last coefficient of q it is refused, and no byte is changed
  pub refused : KeptAs 30 (sevens 62) (make_linear (maurer_plan (sets maurer_forms 23 (11 ∷ []))) (sevens 62))
  -- what was made loads, and the loader gives its table
  pub loaded : load maurer_sheet
      ≡ record {
        header = record { kind = 1; modulus = 23; order = 11; challenges = 11; rows = 2; columns = 4 };
        statement = eight (1 ∷ 8 ∷ []);
        refusal = 0;
      }
  pub table : load_entries maurer_sheet ≡ eight (3 ∷ 1 ∷ 2 ∷ 1 ∷ []) ∷ eight (4 ∷ 2 ∷ 1 ∷ 3 ∷ []) ∷ replicate 6 (eight [])
  -- the secret (1, 2, 3, 4) goes to (1, 8)
  pub imaged : image (table_of (instance_of maurer_sheet)) (1 ∷ 2 ∷ 3 ∷ 4 ∷ []) ≡ 1 ∷ 8 ∷ []
  -- as many rows as generators and columns: 2 · 3^3 is 8, 2^2 · 3^4 is 2, 2^5 · 3^7 is 18 and 2^6 · 3^8 is 16
  pub square : WrittenAs (sheet_bytes 1 23 11 11 2 2 (8 ∷ 2 ∷ 18 ∷ 16 ∷ 9 ∷ 8 ∷ [])) 44
      (make_linear
      (linear_plan 23 11 11 2 2 (2 ∷ 3 ∷ []) (1 ∷ 2 ∷ 3 ∷ 4 ∷ 5 ∷ 6 ∷ 7 ∷ 8 ∷ []) (9 ∷ 8 ∷ []))
      (sevens 46))
  -- coefficients that are all 0 give the entry 1
  pub zeros : WrittenAs (sheet_bytes 1 23 11 11 2 4 (replicate 8 1 ++ 1 ∷ 8 ∷ [])) 60
      (make_linear (maurer_plan (replicate 24 0)) (sevens 62))
  -- m 21 and q 6, which are no primes, with K 2
  pub composite : WrittenAs (sheet_bytes 1 21 6 2 2 2 (19 ∷ 1 ∷ 13 ∷ 20 ∷ 19 ∷ 13 ∷ [])) 44
      (make_linear
      (linear_plan 21 6 2 2 2 (2 ∷ 5 ∷ []) (1 ∷ 2 ∷ 3 ∷ 4 ∷ 5 ∷ 0 ∷ 1 ∷ 3 ∷ []) (19 ∷ 13 ∷ []))
      (sevens 46))
