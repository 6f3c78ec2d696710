-- `ledger_entries::asked::test_entries` meets its contract: the tests stand in the order of the rules.
-- Assumes nothing.
use Rattle.std.proofs.Common.{rules, tests}
use Rattle.std.proofs.lemmas.Iterator.{YieldsList-from_slice}
use Rattle.std.proofs.lemmas.Iterator.Consumers.{YieldsList-from_enumerate}
use Rattle.std.proofs.lemmas.Iterator.Search.{any_from_yields_List}
use Prim.Native.Nat.{ℕ, ◌≤◌}
use mathlib.Core.Path.{◌≡◌, sym, ◌∙◌}
use native.Mathlib.Omega.{arith}
use lib.ListN.{length, take}
use borrow.Author.Tests.{le-ltb, lt-ltb}
use Rattle.numbers.specs.Search.{any}
use Rattle.rules.proofs.Lowest.{lowest_clear, pass, stop}
use Rattle.ledgers.specs.Check.{bad_line_challenge, bad_line_kind, not_above}
use Rattle.ledgers.specs.Lines.{entry_at, no_entry}
use Rattle.ledgers.specs.Write.{bad_numbers}
use Rattle.ledgers.specs.declared.Entry.{Entry}
use Rattle.ledger_lines.proofs.Any.{any_first, any_placed}
use Rattle.ledger_entries.specs.Parts.{entries_rules}
use Rattle.ledger_entries.proofs.asked.test_entries.Goals as goal

pub returns-then-count-gt64 : goal.returns-then-count-gt64
unfolding entries_rules
returns-then-count-gt64 c = sym (stop 37 _ (lt-ltb _ _ c.if-count-gt64.true))

pub returns-then-any : goal.returns-then-any
unfolding entries_rules
returns-then-any c =
    let entries = c.args.entries in
    let n = entries.count in
    let list = entries.entries in
    let few : n ≤ length list = omega arith in
    let kinds : c.any.result ≡ any n (λ i. bad_line_kind (entry_at entries i).kind) =
    any_from_yields_List (λ entry. bad_line_kind entry.kind) _ _ _ c.any.ensures.ran (YieldsList-from_slice (take n list) cc)
    (λ x b q k. search (rules, tests)) ∙ any_first (λ entry. bad_line_kind entry.kind) no_entry list n few in
    sym (pass 37 _ (le-ltb _ _ c.if-count-gt64.false)
    ∙ stop 35 _ (sym kinds ∙ c.if-any.true))

pub returns-then-any-2 : goal.returns-then-any-2
unfolding entries_rules
returns-then-any-2 c =
    let entries = c.args.entries in
    let n = entries.count in
    let list = entries.entries in
    let few : n ≤ length list = omega arith in
    let kinds : c.any.result ≡ any n (λ i. bad_line_kind (entry_at entries i).kind) =
    any_from_yields_List (λ entry. bad_line_kind entry.kind) _ _ _ c.any.ensures.ran (YieldsList-from_slice (take n list) cc)
    (λ x b q k. search (rules, tests)) ∙ any_first (λ entry. bad_line_kind entry.kind) no_entry list n few in
    let names : c.any-2.result ≡ any n (λ i. not_above i (entry_at entries i).kind (entry_at entries i).first (entry_at entries i).second) =
    any_from_yields_List (λ (p : ℕ × Entry). not_above p.0 p.1.kind p.1.first p.1.second) _ _ _ c.any-2.ensures.ran
    (YieldsList-from_enumerate (YieldsList-from_slice (take n list) cc) cc)
    (λ x b q k. search (rules, tests)) ∙ any_placed (λ i entry. not_above i entry.kind entry.first entry.second) no_entry list n few in
    sym (pass 37 _ (le-ltb _ _ c.if-count-gt64.false)
    ∙ pass 35 _ (sym kinds ∙ c.if-any.false)
    ∙ stop 36 _ (sym names ∙ c.if-any-2.true))

pub returns-then-any-3 : goal.returns-then-any-3
unfolding entries_rules
returns-then-any-3 c =
    let entries = c.args.entries in
    let n = entries.count in
    let list = entries.entries in
    let few : n ≤ length list = omega arith in
    let kinds : c.any.result ≡ any n (λ i. bad_line_kind (entry_at entries i).kind) =
    any_from_yields_List (λ entry. bad_line_kind entry.kind) _ _ _ c.any.ensures.ran (YieldsList-from_slice (take n list) cc)
    (λ x b q k. search (rules, tests)) ∙ any_first (λ entry. bad_line_kind entry.kind) no_entry list n few in
    let names : c.any-2.result ≡ any n (λ i. not_above i (entry_at entries i).kind (entry_at entries i).first (entry_at entries i).second) =
    any_from_yields_List (λ (p : ℕ × Entry). not_above p.0 p.1.kind p.1.first p.1.second) _ _ _ c.any-2.ensures.ran
    (YieldsList-from_enumerate (YieldsList-from_slice (take n list) cc) cc)
    (λ x b q k. search (rules, tests)) ∙ any_placed (λ i entry. not_above i entry.kind entry.first entry.second) no_entry list n few in
    let challenges : c.any-3.result ≡ any n (λ i. bad_line_challenge c.args.base (entry_at entries i).kind (entry_at entries i).challenge) =
    any_from_yields_List (λ entry. bad_line_challenge c.args.base entry.kind entry.challenge) _ _ _ c.any-3.ensures.ran (YieldsList-from_slice (take n list) cc)
    (λ x b q k. search (rules, tests)) ∙ any_first (λ entry. bad_line_challenge c.args.base entry.kind entry.challenge) no_entry list n few in
    sym (pass 37 _ (le-ltb _ _ c.if-count-gt64.false)
    ∙ pass 35 _ (sym kinds ∙ c.if-any.false)
    ∙ pass 36 _ (sym names ∙ c.if-any-2.false)
    ∙ stop 15 _ (sym challenges ∙ c.if-any-3.true))

pub returns-then-any-4 : goal.returns-then-any-4
unfolding entries_rules
returns-then-any-4 c =
    let entries = c.args.entries in
    let n = entries.count in
    let list = entries.entries in
    let few : n ≤ length list = omega arith in
    let kinds : c.any.result ≡ any n (λ i. bad_line_kind (entry_at entries i).kind) =
    any_from_yields_List (λ entry. bad_line_kind entry.kind) _ _ _ c.any.ensures.ran (YieldsList-from_slice (take n list) cc)
    (λ x b q k. search (rules, tests)) ∙ any_first (λ entry. bad_line_kind entry.kind) no_entry list n few in
    let names : c.any-2.result ≡ any n (λ i. not_above i (entry_at entries i).kind (entry_at entries i).first (entry_at entries i).second) =
    any_from_yields_List (λ (p : ℕ × Entry). not_above p.0 p.1.kind p.1.first p.1.second) _ _ _ c.any-2.ensures.ran
    (YieldsList-from_enumerate (YieldsList-from_slice (take n list) cc) cc)
    (λ x b q k. search (rules, tests)) ∙ any_placed (λ i entry. not_above i entry.kind entry.first entry.second) no_entry list n few in
    let challenges : c.any-3.result ≡ any n (λ i. bad_line_challenge c.args.base (entry_at entries i).kind (entry_at entries i).challenge) =
    any_from_yields_List (λ entry. bad_line_challenge c.args.base entry.kind entry.challenge) _ _ _ c.any-3.ensures.ran (YieldsList-from_slice (take n list) cc)
    (λ x b q k. search (rules, tests)) ∙ any_first (λ entry. bad_line_challenge c.args.base entry.kind entry.challenge) no_entry list n few in
    let numbers : c.any-4.result ≡ any n (λ i. bad_numbers c.args.base (entry_at entries i)) =
    any_from_yields_List (λ entry. bad_numbers c.args.base entry) _ _ _ c.any-4.ensures.ran (YieldsList-from_slice (take n list) cc)
    (λ x b q k. search (rules, tests)) ∙ any_first (λ entry. bad_numbers c.args.base entry) no_entry list n few in
    sym (pass 37 _ (le-ltb _ _ c.if-count-gt64.false)
    ∙ pass 35 _ (sym kinds ∙ c.if-any.false)
    ∙ pass 36 _ (sym names ∙ c.if-any-2.false)
    ∙ pass 15 _ (sym challenges ∙ c.if-any-3.false)
    ∙ stop 16 _ (sym numbers ∙ c.if-any-4.true))

pub returns : goal.returns
unfolding entries_rules
returns c =
    let entries = c.args.entries in
    let n = entries.count in
    let list = entries.entries in
    let few : n ≤ length list = omega arith in
    let kinds : c.any.result ≡ any n (λ i. bad_line_kind (entry_at entries i).kind) =
    any_from_yields_List (λ entry. bad_line_kind entry.kind) _ _ _ c.any.ensures.ran (YieldsList-from_slice (take n list) cc)
    (λ x b q k. search (rules, tests)) ∙ any_first (λ entry. bad_line_kind entry.kind) no_entry list n few in
    let names : c.any-2.result ≡ any n (λ i. not_above i (entry_at entries i).kind (entry_at entries i).first (entry_at entries i).second) =
    any_from_yields_List (λ (p : ℕ × Entry). not_above p.0 p.1.kind p.1.first p.1.second) _ _ _ c.any-2.ensures.ran
    (YieldsList-from_enumerate (YieldsList-from_slice (take n list) cc) cc)
    (λ x b q k. search (rules, tests)) ∙ any_placed (λ i entry. not_above i entry.kind entry.first entry.second) no_entry list n few in
    let challenges : c.any-3.result ≡ any n (λ i. bad_line_challenge c.args.base (entry_at entries i).kind (entry_at entries i).challenge) =
    any_from_yields_List (λ entry. bad_line_challenge c.args.base entry.kind entry.challenge) _ _ _ c.any-3.ensures.ran (YieldsList-from_slice (take n list) cc)
    (λ x b q k. search (rules, tests)) ∙ any_first (λ entry. bad_line_challenge c.args.base entry.kind entry.challenge) no_entry list n few in
    let numbers : c.any-4.result ≡ any n (λ i. bad_numbers c.args.base (entry_at entries i)) =
    any_from_yields_List (λ entry. bad_numbers c.args.base entry) _ _ _ c.any-4.ensures.ran (YieldsList-from_slice (take n list) cc)
    (λ x b q k. search (rules, tests)) ∙ any_first (λ entry. bad_numbers c.args.base entry) no_entry list n few in
    sym (lowest_clear _ (
      le-ltb _ _ c.if-count-gt64.false,
      (
        sym kinds ∙ c.if-any.false,
        (
          sym names ∙ c.if-any-2.false,
          (sym challenges ∙ c.if-any-3.false, (sym numbers ∙ c.if-any-4.false, tt)),
        ),
      ),
    ))
