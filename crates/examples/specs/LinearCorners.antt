-- The refusals of the maker of sheets from linear forms (02, card 10) by each part of their conditions, and their order: Maurer's
-- example, of two rows, three generators and four columns, with one thing changed.
-- Assumes nothing.
use Rattle.std.specs.Prelude.{ℕ, ◌+◌, ◌*◌, ◌≡◌, List, [], ◌∷◌, ◌++◌, map, drop, replicate}
use Rattle.std.proofs.lemmas.List.Edits.{sets}
use Rattle.linear_forms.specs.Linear.{make_linear}
use Rattle.linear_forms.specs.LinearPlan.{linear_plan}
use Rattle.examples.specs.Corners.{Corner}
use Rattle.examples.specs.LinearPage.{maurer_forms}
use Rattle.examples.specs.TwoRows.{spoilt}

-- the maker's number for m, q, K, s, n, generators, coefficients and z, in a buffer of so many bytes
unfoldable pub forming : ℕ → ℕ → ℕ → ℕ → ℕ → List ℕ → List ℕ → List ℕ → ℕ → ℕ
forming m q K s n generators coefficients z room =
    (make_linear (linear_plan m q K s n generators coefficients z) (replicate room 0)).answer.refusal

-- for m, q and K, coefficients being zeros, and generators and z ones
unfoldable pub forming_in : ℕ → ℕ → ℕ → ℕ
forming_in m q K = forming m q K 2 4 (replicate 3 1) (replicate 24 0) (replicate 2 1) 60

-- for so many rows, generators 2 and columns, with as many coefficients and statement values as they ask for, all 1
unfoldable pub forming_of : ℕ → ℕ → ℕ → ℕ
forming_of s generators n =
    forming 23 11 11 s n (replicate generators 2) (replicate (s * generators * n) 1) (replicate s 1) (20 + 4 * (s * n) + 4 * s)

-- for generators, coefficients and z over m 23, q 11, K 11, s 2, n 4
unfoldable pub forming_with : List ℕ → List ℕ → List ℕ → ℕ
forming_with generators coefficients z = forming 23 11 11 2 4 generators coefficients z 60

-- for so many coefficients and so many statement values, all 1
unfoldable pub forming_counts : ℕ → ℕ → ℕ
forming_counts coefficients statement = forming_with (2 ∷ 3 ∷ 4 ∷ []) (replicate coefficients 1) (replicate statement 1)

-- for other generators, other coefficients and another z
unfoldable pub generated : List ℕ → ℕ
generated generators = forming_with generators maurer_forms (1 ∷ 8 ∷ [])

unfoldable pub weighted : List ℕ → ℕ
weighted coefficients = forming_with (2 ∷ 3 ∷ 4 ∷ []) coefficients (1 ∷ 8 ∷ [])

unfoldable pub stated : List ℕ → ℕ
stated z = forming_with (2 ∷ 3 ∷ 4 ∷ []) maurer_forms z

pub record LinearCorners : Type 0 where
  pub refusal5 : Corner 5 (forming_in 3 11 11 ∷ []) (forming_in 2 11 11 ∷ forming_in 0 11 11 ∷ [])
  pub refusal6 : Corner 6 (forming_in 23 2 2 ∷ []) (forming_in 23 1 2 ∷ forming_in 23 0 2 ∷ [])
  -- rows below 1 and above 8, columns below 1 and above 8: coefficients and statement have the counts that these ask for
  pub refusal7 :
      Corner 7 (forming_of 1 3 1 ∷ forming_of 8 3 1 ∷ forming_of 1 3 8 ∷ forming_of 8 8 8 ∷ [])
      (forming_of 0 3 1 ∷ forming_of 9 3 1 ∷ forming_of 1 3 0 ∷ forming_of 1 3 9 ∷ [])
  -- K below 2 and above 65,536, and divisors of q: 2, one between, and the last below K
  pub refusal8 :
      Corner 8 (forming_in 23 11 2 ∷ forming_in 23 11 11 ∷ forming_in 31 15 3 ∷ forming_in 3 65537 65536 ∷ [])
      (forming_in 23 11 1 ∷ forming_in 3 65537 65537 ∷ forming_in 23 22 3 ∷ forming_in 31 15 5 ∷ forming_in 31 15 4 ∷ [])
  -- no generator and nine, for which there are no coefficients and the right number of them
  pub generators29 :
      Corner 29 (forming_of 2 1 4 ∷ forming_of 2 8 4 ∷ []) (forming_of 2 0 4 ∷ forming_of 2 9 4 ∷ forming_of 2 16 4 ∷ [])
  -- 24 coefficients: one fewer, one more, none, and as many as without the rows, the generators or the columns, or twice as many
  pub coefficients29 : Corner 29 (forming_counts 24 2 ∷ []) (map (λ k. forming_counts k 2) (23 ∷ 25 ∷ 0 ∷ 12 ∷ 8 ∷ 6 ∷ 48 ∷ []))
  -- two statement values: one fewer, one more, none, and as many as columns
  pub statement29 : Corner 29 (forming_counts 24 2 ∷ []) (map (forming_counts 24) (1 ∷ 3 ∷ 0 ∷ 4 ∷ []))
  -- each coefficient; q is no prime
  pub refusal30 :
      Corner 30 (map weighted (spoilt maurer_forms 10) ++ forming 31 15 3 1 1 (2 ∷ []) (14 ∷ []) (1 ∷ []) 28 ∷ [])
      (map weighted (spoilt maurer_forms 11 ++ spoilt maurer_forms 12) ++ forming 31 15 3 1 1 (2 ∷ []) (15 ∷ []) (1 ∷ []) 28 ∷ [])
  -- each generator, by its order and by its size
  pub refusal10 :
      Corner 10 (map generated (spoilt (2 ∷ 3 ∷ 4 ∷ []) 1 ++ spoilt (2 ∷ 3 ∷ 4 ∷ []) 18))
      (map generated (spoilt (2 ∷ 3 ∷ 4 ∷ []) 5 ++ spoilt (2 ∷ 3 ∷ 4 ∷ []) 25 ++ spoilt (2 ∷ 3 ∷ 4 ∷ []) 0))
  -- also one that no coefficient uses, and one whose powers are group elements: 5^2 is 2; the last of eight
  pub unused10 :
      Corner 10 []
      (map (λ generators. forming_with generators (replicate 24 0) (1 ∷ 8 ∷ [])) (spoilt (2 ∷ 3 ∷ 4 ∷ []) 5) ++
      map (λ generators. forming_with generators (replicate 24 2) (1 ∷ 8 ∷ [])) (spoilt (2 ∷ 3 ∷ 4 ∷ []) 5) ++
      forming_with (replicate 7 2 ++ 5 ∷ []) (replicate 64 0) (1 ∷ 8 ∷ []) ∷ [])
  -- each statement value, by its order and by its size
  pub refusal11 :
      Corner 11 (map stated (spoilt (1 ∷ 8 ∷ []) 18))
      (map stated (spoilt (1 ∷ 8 ∷ []) 5 ++ spoilt (1 ∷ 8 ∷ []) 24 ++ spoilt (1 ∷ 8 ∷ []) 0))
  -- one byte short, of two rows and four columns and of four rows and two columns
  pub refusal22 :
      Corner 22
      (forming 23 11 11 2 4 (2 ∷ []) (replicate 8 1) (replicate 2 1) 60 ∷
      forming 23 11 11 4 2 (2 ∷ []) (replicate 8 1) (replicate 4 1) 68 ∷ [])
      (forming 23 11 11 2 4 (2 ∷ []) (replicate 8 1) (replicate 2 1) 59 ∷
      forming 23 11 11 4 2 (2 ∷ []) (replicate 8 1) (replicate 4 1) 67 ∷
      forming 23 11 11 2 4 (2 ∷ []) (replicate 8 1) (replicate 2 1) 0 ∷ [])
  -- the order: if a number and the next one apply, and no other, the first of the two is given
  pub neighbours :
      forming 2 1 2 2 4 (replicate 3 1) (replicate 24 0) (replicate 2 1) 60 ∷
      forming 23 1 2 0 4 (replicate 3 1) [] [] 20 ∷
      forming 23 11 1 0 4 (2 ∷ 3 ∷ 4 ∷ []) [] [] 20 ∷
      forming 23 11 1 2 4 (2 ∷ 3 ∷ 4 ∷ []) (drop 1 maurer_forms) (1 ∷ 8 ∷ []) 60 ∷
      forming_with (2 ∷ 3 ∷ 4 ∷ []) (maurer_forms ++ 11 ∷ []) (1 ∷ 8 ∷ []) ∷
      forming_with (5 ∷ 3 ∷ 4 ∷ []) (sets maurer_forms 23 (11 ∷ [])) (1 ∷ 8 ∷ []) ∷
      forming_with (2 ∷ 3 ∷ 5 ∷ []) maurer_forms (5 ∷ 8 ∷ []) ∷
      forming 23 11 11 2 4 (2 ∷ 3 ∷ 4 ∷ []) maurer_forms (1 ∷ 5 ∷ []) 59 ∷ []
      ≡ 5 ∷ 6 ∷ 7 ∷ 8 ∷ 29 ∷ 30 ∷ 10 ∷ 11 ∷ []
  -- and if it and all the later ones apply
  pub in_order :
      forming 2 1 1 9 4 (5 ∷ []) (11 ∷ []) (5 ∷ []) 0 ∷
      forming 23 1 1 9 4 (5 ∷ []) (11 ∷ []) (5 ∷ []) 0 ∷
      forming 23 11 1 9 4 (5 ∷ []) (11 ∷ []) (5 ∷ []) 0 ∷
      forming 23 11 1 2 4 (5 ∷ []) (11 ∷ []) (5 ∷ []) 0 ∷
      forming 23 11 11 2 4 (5 ∷ []) (11 ∷ []) (5 ∷ []) 0 ∷
      forming 23 11 11 2 4 (5 ∷ []) (replicate 8 11) (5 ∷ 5 ∷ []) 0 ∷
      forming 23 11 11 2 4 (5 ∷ []) (replicate 8 1) (5 ∷ 5 ∷ []) 0 ∷
      forming 23 11 11 2 4 (2 ∷ []) (replicate 8 1) (5 ∷ 5 ∷ []) 0 ∷ []
      ≡ 5 ∷ 6 ∷ 7 ∷ 8 ∷ 29 ∷ 30 ∷ 10 ∷ 11 ∷ []
