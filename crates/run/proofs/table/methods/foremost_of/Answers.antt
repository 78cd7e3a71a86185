use Rattle.std.proofs.Common.{rules, ◌≡◌, ℕ, List, length, Some, None, Option, MatchOption, slice_index_or, sym, ap, ◌∙◌, arith}
use Rattle.run.proofs.Least.{least_from_yields_List}
use Rattle.run.proofs.Listed.{with_place, listed, listed_there, listed_all}
use Rattle.run.proofs.table.methods.foremost_of.Goals as goal
use Rattle.run.specs.Ready.{NoneWaits, Leads, Foremost}
use Rattle.run.specs.declared.ready.Ready.{Ready}
use Rattle.std.proofs.lemmas.Iterator.{YieldsList-from_slice}
use Rattle.std.proofs.lemmas.Iterator.Consumers.{YieldsList-from_enumerate, YieldsList-from_filter_map}
use Rattle.std.specs.List.{All, Contains}
use borrow.Author.Tests.{tests}

-- a listed job that leads all that are listed is the foremost
foremost_listed : (table : List (Option Ready)) (r : Option (ℕ × Ready)) → MatchOption r (length (listed 0 table) ≡ 0) (λ m. Contains (listed 0 table) m × All (λ p. Leads m.1 p.1) (listed 0 table)) → MatchOption r (NoneWaits table) (λ first. Foremost table first.0 first.1)
foremost_listed table None none =
    λ i job w. listed_all (λ _. ⊥) 0 table (λ k d l. absurd (omega arith)) i job w
foremost_listed table (Some m) ((k, l, e), leads) =
    let there = listed_there 0 table m k l e in
    let line : there.0 ≡ m.0 = omega (arith, there.1) in
    record {
      waits = ap (λ i. slice_index_or table i None) (sym line) ∙ there.2;
      leads = λ j other w. listed_all (λ p. Leads m.1 p.1) 0 table leads j other w;
    }

pub returns : goal.returns
returns c =
    foremost_listed c.args.jobs.now c.min_by_key.result
    (least_from_yields_List _ c.min_by_key.result c.min_by_key.ensures.runs
    (YieldsList-from_filter_map _ with_place (YieldsList-from_enumerate (YieldsList-from_slice c.args.jobs.now cc) cc) c.filter_map.ensures.closure (λ x r q k. search (rules, tests)))
    (λ p. p.1.rank)
    (λ x k q called. search (rules, tests))
    (λ p q. Leads p.1 q.1)
    (λ p q e. record { earlier = grind arith; lower = λ same. grind arith }))
