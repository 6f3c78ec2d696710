-- Whether a game is too large, by the kind, and what a sheet that loads has if it is not.
-- Assumes nothing.
use Prim.Native.Nat.{◌^◌, ◌<◌}
use mathlib.Core.Path.{◌≡◌, sym}
use mathlib.Core.Logic.{◌≢◌, inl, inr}
use mathlib.Core.Bool.{false, ◌||◌, or-false}
use native.Mathlib.Omega.{arith}
use borrow.Author.Tests.{eq-eqb, ne_eqb}
use lib.Dec.{ltb}
use Rattle.types.specs.declared.Header.{Header}
use Rattle.rules.proofs.Says.{says_false}
use Rattle.sigma.specs.Instance.{Table}
use Rattle.sigma.specs.Valid.{ValidTable}
use Rattle.sigma.proofs.Valid.{valid_kind}
use Rattle.games.specs.Refusals.{Refusal31}
use Rattle.games.specs.Text.{bad_game}
use Rattle.games.proofs.Tests.{says_bad_game}
use Rattle.solver.specs.Small.{Small}

module _ (h : Header) where
  -- q^n beside 4,096 in kind 1
  pub game_exponent : h.kind ≡ 1 → ltb 4096 (h.order ^ h.columns) ≡ bad_game h
  unfolding bad_game
  game_exponent e =
      let other : h.kind ≢ 2 = λ two. omega (arith, e, two) in
      rw (eq-eqb h.kind 1 e, ne_eqb h.kind 2 other) (sym (or-false (ltb 4096 (h.order ^ h.columns))))

  -- m beside 4,096 and s beside 1 in kind 2
  pub game_root : h.kind ≡ 2 → (ltb 4096 h.modulus || ltb 1 h.rows) ≡ bad_game h
  unfolding bad_game
  game_root e =
      let other : h.kind ≢ 1 = λ one. omega (arith, e, one) in
      rw (eq-eqb h.kind 2 e, ne_eqb h.kind 1 other)

  -- nothing in no kind
  pub game_neither : h.kind ≢ 1 → h.kind ≢ 2 → false ≡ bad_game h
  unfolding bad_game
  game_neither one two = rw (ne_eqb h.kind 1 one, ne_eqb h.kind 2 two)

module _ {table : Table} (v : ValidTable table) (none : bad_game table.header ≡ false) where
  -- what the search asks for
  pub small_header : Small table.header
  small_header =
      let h = table.header in
      let fits : ¬ Refusal31 h = (says_false (says_bad_game h)).0 none in
      let two = valid_kind v in
      let few : h.kind ≢ 1 → ¬ (4096 < h.modulus) = λ other above. fits (inr (two other, inl above)) in
      let one : h.kind ≢ 1 → ¬ (1 < h.rows) = λ other above. fits (inr (two other, inr above)) in
      record {
        modulus = omega (arith, v.modulus);
        order = omega (arith, v.order);
        some_row = omega (arith, v.some_row);
        few_rows = v.few_rows;
        few_columns = v.few_columns;
        few_choices = λ e. let above : ¬ (4096 < h.order ^ h.columns) = λ more. fits (inl (e, more)) in omega arith;
        small_modulus = λ other. omega (arith, few other);
        one_row = λ other. omega (arith, one other, v.some_row);
        one_column = λ other. omega (arith, one other, v.some_row, v.square (two other));
      }
