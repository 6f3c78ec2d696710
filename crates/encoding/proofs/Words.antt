-- Words and bytes: of bytes, a word fits its width, and words of any width agree exactly where the bytes that they are made of do.
-- Assumes nothing.
use Prim.Native.Nat.{ℕ, zero, suc, ◌+◌, ◌-◌, ◌*◌, ◌^◌, ◌<◌, ◌≤◌}
use mathlib.Core.Path.{◌≡◌, ap, ◌∙◌}
use mathlib.Core.Logic.{◌↔◌}
use mathlib.Core.List.{List}
use native.Mathlib.Decide.{dec_lt}
use native.Mathlib.Nat.{mul-le-mul_left, pow-suc, pow-zero}
use native.Mathlib.Omega.{arith}
use lib.ListN.{get_or}
use Rattle.encoding.specs.Bytes.{AllBytes, number_at}
use Rattle.encoding.proofs.Bytes.{number_at_agree}

-- a number of bytes fits them
pub number_fits : (w : ℕ) (s : List ℕ) (at : ℕ) → AllBytes s → number_at w s at < 256 ^ w
unfolding number_at
number_fits zero s at bytes = omega (arith, pow-zero 256)
number_fits (suc w) s at bytes =
    let low : get_or s (at + w) 0 < 256 = bytes (at + w) in
    omega (arith, number_fits w s at bytes, pow-suc 256 w)

-- a number of bytes has one spelling in so many bytes
number_bytes : (w : ℕ) (s : List ℕ) (a b : ℕ) → AllBytes s → number_at w s a ≡ number_at w s b
    → (k : ℕ) → k < w → get_or s (a + k) 0 ≡ get_or s (b + k) 0
unfolding number_at
number_bytes zero s a b bytes same k h = absurd (omega arith)
number_bytes (suc w) s a b bytes same k h =
    let x : get_or s (a + w) 0 < 256 = bytes (a + w) in
    let y : get_or s (b + w) 0 < 256 = bytes (b + w) in
    let front : number_at w s a ≡ number_at w s b = omega arith in
    let last : get_or s (a + w) 0 ≡ get_or s (b + w) 0 = omega arith in
    elim (dec_lt k w) [
      | yes before ↦ number_bytes w s a b bytes front k before
      | no behind ↦ let e : k ≡ w = omega arith in rw e last
    ]

module _ (w : ℕ) (s : List ℕ) (a b : ℕ) (bytes : AllBytes s) where
  -- where n words agree, their bytes do
  words_to_bytes : (n : ℕ) → ((k : ℕ) → k < n → number_at w s (a + w * k) ≡ number_at w s (b + w * k))
      → (k : ℕ) → k < w * n → get_or s (a + k) 0 ≡ get_or s (b + k) 0
  words_to_bytes zero words k h = absurd (omega arith)
  words_to_bytes (suc n) words k h = elim (dec_lt k (w * n)) [
    | yes before ↦ words_to_bytes n (λ j less. words j (omega arith)) k before
    | no behind ↦
        let j = k - w * n in
        let place : w * n + j ≡ k = omega arith in
        let small : j < w = omega arith in
        let same : get_or s (a + w * n + j) 0 ≡ get_or s (b + w * n + j) 0 =
        number_bytes w s (a + w * n) (b + w * n) bytes (words n (omega arith)) j small in
        let left : a + w * n + j ≡ a + k = omega arith in
        let right : b + w * n + j ≡ b + k = omega arith in
        rw (left, right) at same
  ]

  -- of bytes, n words agree exactly where w × n bytes do
  pub words_bytes : (n : ℕ)
      → ((k : ℕ) → k < n → number_at w s (a + w * k) ≡ number_at w s (b + w * k))
      ↔ ((k : ℕ) → k < w * n → get_or s (a + k) 0 ≡ get_or s (b + k) 0)
  words_bytes n = (
    words_to_bytes n,
    λ same k h.
        number_at_agree w s s (a + w * k) (b + w * k)
        (λ j less.
        let inside : w * suc k ≤ w * n = mul-le-mul_left w h in
        let at : a + w * k + j ≡ a + (w * k + j) = omega arith in
        let at' : b + w * k + j ≡ b + (w * k + j) = omega arith in
        rw (at, at') (same (w * k + j) (omega arith))),
  )
