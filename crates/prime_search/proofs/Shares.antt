-- The shares of a word's five numbers: if all are above every quotient, none of the five divides.
-- Assumes nothing.
use mathlib.Core.Path.{◌≡◌, refl, sym, subst}
use Prim.Native.Nat.{ℕ, suc, ◌*◌, ◌/◌, ◌%◌, ◌≤◌, ◌<◌}
use native.Mathlib.Nat.{mod-lt}
use native.Mathlib.Omega.{arith}
use Rattle.numbers.specs.Divisors.{NoDivisorBelow}
use Rattle.prime_words.specs.Words.{last, product, inverse, Good}
use Rattle.prime_words.proofs.Share.{share_above, pair_above, share_of_first, share_of_second, share_of_last}
use Rattle.std.specs.Prelude.{None}
use Rattle.prime_search.specs.Search.{OfWord, low, SharesAbove, Searched}
use Rattle.prime_search.specs.declared.Five.{Five}
use Rattle.prime_search.proofs.Passing.{quotient_falls, next_rises, walk_start, walk_on, walk_end}

-- the shares, by the products that they are made of
pub shares_of_products : (l v : ℕ) (n : Five) (most all four front back x y w z : ℕ)
    → all ≡ low l v → four ≡ low all n.fifth → front ≡ low n.first n.second → back ≡ low n.third n.fourth
    → x ≡ low four back → y ≡ low four front → w ≡ low all front → z ≡ low w back
    → (most < low x n.second) × (most < low x n.first) → (most < low y n.fourth) × (most < low y n.third) → most < z
    → SharesAbove l v n most
shares_of_products l v n most all four front back x y w z is_all is_four is_front is_back is_x is_y is_w is_z of_x of_y of_z = record {
  first = rw (sym is_all, sym is_four, sym is_back, sym is_x) of_x.0;
  second = rw (sym is_all, sym is_four, sym is_back, sym is_x) of_x.1;
  third = rw (sym is_all, sym is_four, sym is_front, sym is_y) of_y.0;
  fourth = rw (sym is_all, sym is_four, sym is_front, sym is_y) of_y.1;
  fifth = rw (sym is_all, sym is_front, sym is_w, sym is_back, sym is_z) of_z;
}

-- the product of a word's numbers
product_of_five : (a e : ℕ) (n : Five) → OfWord a e n
    → product 5 a e ≡ n.first * (n.second * (n.third * (n.fourth * (n.fifth * 1))))
unfolding product
product_of_five a e n word =
    rw (sym word.first, sym word.second, sym word.third, sym word.fourth, sym word.fifth) refl

-- the last of a word's numbers
pub fifth_last : (a e : ℕ) (n : Five) → OfWord a e n → n.fifth ≡ last 5 a e
unfolding last
fifth_last a e n word = rw (sym word.first, sym word.second, sym word.third, sym word.fourth) word.fifth

-- a word whose shares are above every quotient is passed
pub shares_pass : (l a e : ℕ) (n : Five) (most : ℕ) → Good a e → 3 ≤ a → OfWord a e n → l < 4294967296 → l / a ≤ most
    → NoDivisorBelow l (suc a) → SharesAbove l (inverse e) n most → Searched l (last 5 a e) None
shares_pass l a e n most good large word fits bound none above =
    let inverts = subst (λ (x : ℕ). x * inverse e % 4294967296 ≡ 1) (product_of_five a e n word) good.inverts in
    let first : a ≤ n.first = omega (arith, next_rises a e, word.first) in
    let second : n.first ≤ n.second = omega (arith, next_rises n.first (e / 64), word.second) in
    let third : n.second ≤ n.third = omega (arith, next_rises n.second (e / 64 / 64), word.third) in
    let fourth : n.third ≤ n.fourth = omega (arith, next_rises n.third (e / 64 / 64 / 64), word.fourth) in
    let fifth : n.fourth ≤ n.fifth = omega (arith, next_rises n.fourth (e / 64 / 64 / 64 / 64), word.fifth) in
    let within : (p : ℕ) → a ≤ p → l / p ≤ most = λ p h. omega (arith, quotient_falls l a p (omega arith) h) in
    let front = pair_above 4294967296 l n.first n.second _ most (omega arith)
    (share_of_first 4294967296 l n.first n.second n.third n.fourth n.fifth (inverse e) inverts)
    fits (within n.first first) (within n.second (omega arith)) above.first above.second in
    let back = pair_above 4294967296 l n.third n.fourth _ most (omega arith)
    (share_of_second 4294967296 l n.first n.second n.third n.fourth n.fifth (inverse e) inverts)
    fits (within n.third (omega arith)) (within n.fourth (omega arith)) above.third above.fourth in
    let end = share_above 4294967296 l n.fifth _ most
    (share_of_last 4294967296 l n.first n.second n.third n.fourth n.fifth (inverse e) inverts)
    (mod-lt _ (omega arith)) fits (within n.fifth (omega arith)) above.fifth in
    let walk₁ = walk_on l 5 a e _ n.first (omega arith) (walk_start l a e good large none) word.first front.0 in
    let walk₂ = walk_on l 4 n.first (e / 64) _ n.second (omega arith) walk₁ word.second front.1 in
    let walk₃ = walk_on l 3 n.second (e / 64 / 64) _ n.third (omega arith) walk₂ word.third back.0 in
    let walk₄ = walk_on l 2 n.third (e / 64 / 64 / 64) _ n.fourth (omega arith) walk₃ word.fourth back.1 in
    let walk₅ = walk_on l 1 n.fourth (e / 64 / 64 / 64 / 64) _ n.fifth (omega arith) walk₄ word.fifth end in
    walk_end l 0 n.fifth _ _ refl walk₅
