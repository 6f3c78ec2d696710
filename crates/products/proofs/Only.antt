-- The refusals and answers of the combiner determine it: two that meet them answer the same to every input.
-- Assumes nothing.
use Prim.Native.Nat.{ℕ, ◌<◌}
use mathlib.Core.Path.{◌≡◌, sym, ◌∙◌}
use mathlib.Core.List.{List}
use mathlib.Core.Logic.{◌⊎◌, ⊎_elim}
use lib.ListN.{get_or}
use lib.Seq.{ext_get_or}
use Rattle.rules.proofs.Determined.{NoneHold, below_or_not, refused_or_not, same_number}
use Rattle.rules.proofs.Says.{says_equal, says_or}
use Rattle.formats.specs.Sheet.{instance_of}
use Rattle.sigma.proofs.Calculus.{says_stable}
use Rattle.products.specs.Players.{ZeroBeyond}
use Rattle.products.specs.Refusals.{join_conditions}
use Rattle.products.specs.Same.{SameTeam}
use Rattle.products.specs.TeamCalls.{TeamCalls}
use Rattle.products.specs.TeamWorks.{TeamAnswers, TeamRefusals}

-- arrays of eight places that agree below n
eight_only : (n : ℕ) (xs ys : List ℕ) → ZeroBeyond n xs → ZeroBeyond n ys → ((j : ℕ) → j < n → get_or xs j 0 ≡ get_or ys j 0) → xs ≡ ys
eight_only n xs ys z z' agree =
    ext_get_or 0 xs ys (z.0 ∙ sym z'.0) (λ j inside. below_or_not j n (agree j) (λ l. z.1 j l ∙ sym (z'.1 j l)))

-- where no condition holds, the sheet has one of the two kinds
one_kind : (sheet : List ℕ) (count : ℕ) (images responses : List (List ℕ)) → NoneHold (join_conditions sheet count images responses)
    → ((instance_of sheet).header.kind ≡ 1) ⊎ ((instance_of sheet).header.kind ≡ 2)
unfolding instance_of
one_kind sheet count images responses none = says_stable (says_or (says_equal _ 1) (says_equal _ 2)) none.1.1.0

module _ (combiner combiner' : TeamCalls) (refusals : TeamRefusals combiner) (refusals' : TeamRefusals combiner')
    (answers : TeamAnswers combiner) (answers' : TeamAnswers combiner') (sheet : List ℕ) (count : ℕ) (images parts : List (List ℕ)) where
  multiply_same : combiner.multiply_commitments sheet count images parts ≡ combiner'.multiply_commitments sheet count images parts
  multiply_same =
      let r = refusals.multiplying sheet count images parts in
      let r' = refusals'.multiplying sheet count images parts in
      refused_or_not r r' (λ n l l' i. record { values = (l ∙ sym l') i; refusal = n i })
      (λ e e' none.
      let (m, z) = answers.multiplied sheet count images parts e in
      let (m', z') = answers'.multiplied sheet count images parts e' in
      let values = eight_only (instance_of sheet).header.rows _ _ z z' (λ i l. m i l ∙ sym (m' i l)) in
      λ i. record { values = values i; refusal = same_number r r' i })

  join_same : combiner.join_responses sheet count images parts ≡ combiner'.join_responses sheet count images parts
  join_same =
      let r = refusals.joining sheet count images parts in
      let r' = refusals'.joining sheet count images parts in
      refused_or_not r r' (λ n l l' i. record { values = (l ∙ sym l') i; refusal = n i })
      (λ e e' none.
      let (m, z) = answers.joined sheet count images parts e in
      let (m', z') = answers'.joined sheet count images parts e' in
      let values = eight_only (instance_of sheet).header.columns _ _ z z' (λ j l.
      ⊎_elim (λ one. m.exponent one j l ∙ sym (m'.exponent one j l)) (λ two. m.root two j l ∙ sym (m'.root two j l))
      (one_kind sheet count images parts none)) in
      λ i. record { values = values i; refusal = same_number r r' i })

-- the combiner is determined
pub only_team : (combiner combiner' : TeamCalls) → TeamRefusals combiner → TeamRefusals combiner' → TeamAnswers combiner → TeamAnswers combiner'
    → SameTeam combiner combiner'
only_team combiner combiner' refusals refusals' answers answers' = record {
  multiply_commitments = multiply_same combiner combiner' refusals refusals' answers answers';
  join_responses = join_same combiner combiner' refusals refusals' answers answers';
}
