-- `ledger::searches::test_lines` meets its contract: the tests stand in the order of the rules.
-- Assumes nothing.
use Rattle.std.proofs.Common.{rules, tests}
use Rattle.std.proofs.lemmas.Iterator.{YieldsList-from_slice}
use Rattle.std.proofs.lemmas.Iterator.Consumers.{YieldsList-from_enumerate}
use Rattle.std.proofs.lemmas.Iterator.Search.{any_from_yields_List}
use Prim.Native.Nat.{ℕ, ◌≤◌}
use mathlib.Core.Path.{◌≡◌, sym, ◌∙◌}
use native.Mathlib.Omega.{arith}
use lib.ListN.{length, take}
use borrow.Author.Tests.{le-ltb, lt-ltb}
use Rattle.numbers.specs.Search.{any}
use Rattle.rules.proofs.Lowest.{lowest_clear, pass, stop}
use Rattle.ledgers.specs.Check.{bad_elements, bad_line_challenge, bad_line_kind, bad_response, not_above}
use Rattle.ledgers.specs.Lines.{line_at, no_line}
use Rattle.ledgers.specs.declared.Line.{Line}
use Rattle.ledger_lines.proofs.Any.{any_first, any_placed}
use Rattle.ledger.specs.Parts.{lines_rules}
use Rattle.ledger.proofs.searches.test_lines.Goals as goal

pub returns-then-count-gt64 : goal.returns-then-count-gt64
unfolding lines_rules
returns-then-count-gt64 c = sym (stop 37 _ (lt-ltb _ _ c.if-count-gt64.true))

pub returns-then-any : goal.returns-then-any
unfolding lines_rules
returns-then-any c =
    let ledger = c.args.ledger in
    let n = ledger.count in
    let lines = ledger.lines in
    let few : n ≤ length lines = omega arith in
    let kinds : c.any.result ≡ any n (λ i. bad_line_kind (line_at ledger i).kind) =
    any_from_yields_List (λ line. bad_line_kind line.kind) _ _ _ c.any.ensures.ran (YieldsList-from_slice (take n lines) cc)
    (λ x b q k. search (rules, tests)) ∙ any_first (λ line. bad_line_kind line.kind) no_line lines n few in
    sym (pass 37 _ (le-ltb _ _ c.if-count-gt64.false)
    ∙ stop 35 _ (sym kinds ∙ c.if-any.true))

pub returns-then-any-2 : goal.returns-then-any-2
unfolding lines_rules
returns-then-any-2 c =
    let ledger = c.args.ledger in
    let n = ledger.count in
    let lines = ledger.lines in
    let few : n ≤ length lines = omega arith in
    let kinds : c.any.result ≡ any n (λ i. bad_line_kind (line_at ledger i).kind) =
    any_from_yields_List (λ line. bad_line_kind line.kind) _ _ _ c.any.ensures.ran (YieldsList-from_slice (take n lines) cc)
    (λ x b q k. search (rules, tests)) ∙ any_first (λ line. bad_line_kind line.kind) no_line lines n few in
    let names : c.any-2.result ≡ any n (λ i. not_above i (line_at ledger i).kind (line_at ledger i).first (line_at ledger i).second) =
    any_from_yields_List (λ (p : ℕ × Line). not_above p.0 p.1.kind p.1.first p.1.second) _ _ _ c.any-2.ensures.ran
    (YieldsList-from_enumerate (YieldsList-from_slice (take n lines) cc) cc)
    (λ x b q k. search (rules, tests)) ∙ any_placed (λ i line. not_above i line.kind line.first line.second) no_line lines n few in
    sym (pass 37 _ (le-ltb _ _ c.if-count-gt64.false)
    ∙ pass 35 _ (sym kinds ∙ c.if-any.false)
    ∙ stop 36 _ (sym names ∙ c.if-any-2.true))

pub returns-then-any-3 : goal.returns-then-any-3
unfolding lines_rules
returns-then-any-3 c =
    let ledger = c.args.ledger in
    let n = ledger.count in
    let lines = ledger.lines in
    let few : n ≤ length lines = omega arith in
    let kinds : c.any.result ≡ any n (λ i. bad_line_kind (line_at ledger i).kind) =
    any_from_yields_List (λ line. bad_line_kind line.kind) _ _ _ c.any.ensures.ran (YieldsList-from_slice (take n lines) cc)
    (λ x b q k. search (rules, tests)) ∙ any_first (λ line. bad_line_kind line.kind) no_line lines n few in
    let names : c.any-2.result ≡ any n (λ i. not_above i (line_at ledger i).kind (line_at ledger i).first (line_at ledger i).second) =
    any_from_yields_List (λ (p : ℕ × Line). not_above p.0 p.1.kind p.1.first p.1.second) _ _ _ c.any-2.ensures.ran
    (YieldsList-from_enumerate (YieldsList-from_slice (take n lines) cc) cc)
    (λ x b q k. search (rules, tests)) ∙ any_placed (λ i line. not_above i line.kind line.first line.second) no_line lines n few in
    let elements : c.any-3.result ≡ any n (λ i. bad_elements c.args.base (line_at ledger i)) =
    any_from_yields_List (λ line. bad_elements c.args.base line) _ _ _ c.any-3.ensures.ran (YieldsList-from_slice (take n lines) cc)
    (λ x b q k. search (rules, tests)) ∙ any_first (λ line. bad_elements c.args.base line) no_line lines n few in
    sym (pass 37 _ (le-ltb _ _ c.if-count-gt64.false)
    ∙ pass 35 _ (sym kinds ∙ c.if-any.false)
    ∙ pass 36 _ (sym names ∙ c.if-any-2.false)
    ∙ stop 14 _ (sym elements ∙ c.if-any-3.true))

pub returns-then-any-4 : goal.returns-then-any-4
unfolding lines_rules
returns-then-any-4 c =
    let ledger = c.args.ledger in
    let n = ledger.count in
    let lines = ledger.lines in
    let few : n ≤ length lines = omega arith in
    let kinds : c.any.result ≡ any n (λ i. bad_line_kind (line_at ledger i).kind) =
    any_from_yields_List (λ line. bad_line_kind line.kind) _ _ _ c.any.ensures.ran (YieldsList-from_slice (take n lines) cc)
    (λ x b q k. search (rules, tests)) ∙ any_first (λ line. bad_line_kind line.kind) no_line lines n few in
    let names : c.any-2.result ≡ any n (λ i. not_above i (line_at ledger i).kind (line_at ledger i).first (line_at ledger i).second) =
    any_from_yields_List (λ (p : ℕ × Line). not_above p.0 p.1.kind p.1.first p.1.second) _ _ _ c.any-2.ensures.ran
    (YieldsList-from_enumerate (YieldsList-from_slice (take n lines) cc) cc)
    (λ x b q k. search (rules, tests)) ∙ any_placed (λ i line. not_above i line.kind line.first line.second) no_line lines n few in
    let elements : c.any-3.result ≡ any n (λ i. bad_elements c.args.base (line_at ledger i)) =
    any_from_yields_List (λ line. bad_elements c.args.base line) _ _ _ c.any-3.ensures.ran (YieldsList-from_slice (take n lines) cc)
    (λ x b q k. search (rules, tests)) ∙ any_first (λ line. bad_elements c.args.base line) no_line lines n few in
    let challenges : c.any-4.result ≡ any n (λ i. bad_line_challenge c.args.base (line_at ledger i).kind (line_at ledger i).challenge) =
    any_from_yields_List (λ line. bad_line_challenge c.args.base line.kind line.challenge) _ _ _ c.any-4.ensures.ran (YieldsList-from_slice (take n lines) cc)
    (λ x b q k. search (rules, tests)) ∙ any_first (λ line. bad_line_challenge c.args.base line.kind line.challenge) no_line lines n few in
    sym (pass 37 _ (le-ltb _ _ c.if-count-gt64.false)
    ∙ pass 35 _ (sym kinds ∙ c.if-any.false)
    ∙ pass 36 _ (sym names ∙ c.if-any-2.false)
    ∙ pass 14 _ (sym elements ∙ c.if-any-3.false)
    ∙ stop 15 _ (sym challenges ∙ c.if-any-4.true))

pub returns-then-any-5 : goal.returns-then-any-5
unfolding lines_rules
returns-then-any-5 c =
    let ledger = c.args.ledger in
    let n = ledger.count in
    let lines = ledger.lines in
    let few : n ≤ length lines = omega arith in
    let kinds : c.any.result ≡ any n (λ i. bad_line_kind (line_at ledger i).kind) =
    any_from_yields_List (λ line. bad_line_kind line.kind) _ _ _ c.any.ensures.ran (YieldsList-from_slice (take n lines) cc)
    (λ x b q k. search (rules, tests)) ∙ any_first (λ line. bad_line_kind line.kind) no_line lines n few in
    let names : c.any-2.result ≡ any n (λ i. not_above i (line_at ledger i).kind (line_at ledger i).first (line_at ledger i).second) =
    any_from_yields_List (λ (p : ℕ × Line). not_above p.0 p.1.kind p.1.first p.1.second) _ _ _ c.any-2.ensures.ran
    (YieldsList-from_enumerate (YieldsList-from_slice (take n lines) cc) cc)
    (λ x b q k. search (rules, tests)) ∙ any_placed (λ i line. not_above i line.kind line.first line.second) no_line lines n few in
    let elements : c.any-3.result ≡ any n (λ i. bad_elements c.args.base (line_at ledger i)) =
    any_from_yields_List (λ line. bad_elements c.args.base line) _ _ _ c.any-3.ensures.ran (YieldsList-from_slice (take n lines) cc)
    (λ x b q k. search (rules, tests)) ∙ any_first (λ line. bad_elements c.args.base line) no_line lines n few in
    let challenges : c.any-4.result ≡ any n (λ i. bad_line_challenge c.args.base (line_at ledger i).kind (line_at ledger i).challenge) =
    any_from_yields_List (λ line. bad_line_challenge c.args.base line.kind line.challenge) _ _ _ c.any-4.ensures.ran (YieldsList-from_slice (take n lines) cc)
    (λ x b q k. search (rules, tests)) ∙ any_first (λ line. bad_line_challenge c.args.base line.kind line.challenge) no_line lines n few in
    let responses : c.any-5.result ≡ any n (λ i. bad_response c.args.base (line_at ledger i)) =
    any_from_yields_List (λ line. bad_response c.args.base line) _ _ _ c.any-5.ensures.ran (YieldsList-from_slice (take n lines) cc)
    (λ x b q k. search (rules, tests)) ∙ any_first (λ line. bad_response c.args.base line) no_line lines n few in
    sym (pass 37 _ (le-ltb _ _ c.if-count-gt64.false)
    ∙ pass 35 _ (sym kinds ∙ c.if-any.false)
    ∙ pass 36 _ (sym names ∙ c.if-any-2.false)
    ∙ pass 14 _ (sym elements ∙ c.if-any-3.false)
    ∙ pass 15 _ (sym challenges ∙ c.if-any-4.false)
    ∙ stop 16 _ (sym responses ∙ c.if-any-5.true))

pub returns : goal.returns
unfolding lines_rules
returns c =
    let ledger = c.args.ledger in
    let n = ledger.count in
    let lines = ledger.lines in
    let few : n ≤ length lines = omega arith in
    let kinds : c.any.result ≡ any n (λ i. bad_line_kind (line_at ledger i).kind) =
    any_from_yields_List (λ line. bad_line_kind line.kind) _ _ _ c.any.ensures.ran (YieldsList-from_slice (take n lines) cc)
    (λ x b q k. search (rules, tests)) ∙ any_first (λ line. bad_line_kind line.kind) no_line lines n few in
    let names : c.any-2.result ≡ any n (λ i. not_above i (line_at ledger i).kind (line_at ledger i).first (line_at ledger i).second) =
    any_from_yields_List (λ (p : ℕ × Line). not_above p.0 p.1.kind p.1.first p.1.second) _ _ _ c.any-2.ensures.ran
    (YieldsList-from_enumerate (YieldsList-from_slice (take n lines) cc) cc)
    (λ x b q k. search (rules, tests)) ∙ any_placed (λ i line. not_above i line.kind line.first line.second) no_line lines n few in
    let elements : c.any-3.result ≡ any n (λ i. bad_elements c.args.base (line_at ledger i)) =
    any_from_yields_List (λ line. bad_elements c.args.base line) _ _ _ c.any-3.ensures.ran (YieldsList-from_slice (take n lines) cc)
    (λ x b q k. search (rules, tests)) ∙ any_first (λ line. bad_elements c.args.base line) no_line lines n few in
    let challenges : c.any-4.result ≡ any n (λ i. bad_line_challenge c.args.base (line_at ledger i).kind (line_at ledger i).challenge) =
    any_from_yields_List (λ line. bad_line_challenge c.args.base line.kind line.challenge) _ _ _ c.any-4.ensures.ran (YieldsList-from_slice (take n lines) cc)
    (λ x b q k. search (rules, tests)) ∙ any_first (λ line. bad_line_challenge c.args.base line.kind line.challenge) no_line lines n few in
    let responses : c.any-5.result ≡ any n (λ i. bad_response c.args.base (line_at ledger i)) =
    any_from_yields_List (λ line. bad_response c.args.base line) _ _ _ c.any-5.ensures.ran (YieldsList-from_slice (take n lines) cc)
    (λ x b q k. search (rules, tests)) ∙ any_first (λ line. bad_response c.args.base line) no_line lines n few in
    sym (lowest_clear _ (
      le-ltb _ _ c.if-count-gt64.false,
      (
        sym kinds ∙ c.if-any.false,
        (
          sym names ∙ c.if-any-2.false,
          (sym elements ∙ c.if-any-3.false, (sym challenges ∙ c.if-any-4.false, (sym responses ∙ c.if-any-5.false, tt))),
        ),
      ),
    ))
