use Rattle.lines.proofs.Costs.{alike_recosted, lawful_recosted, hyperperiod_alike, full_list_alike}
use Rattle.lines.proofs.table.Lines.recost.Goals as goal
use Rattle.lines.specs.Changes.{with_cost, recosted}
use Rattle.lines.specs.Demand.{AllLawful, no_row}
use Rattle.lines.specs.Of.{rows_of}
use Rattle.lines.specs.Rest.{hyperperiod, full_list}
use Rattle.lines.specs.declared.row.Row.{Row}
use Rattle.std.proofs.Common.{◌≡◌, ◌<◌, ◌≤◌, length, get_or, ap, sym, subst, rules, arith}
use Rattle.std.proofs.lemmas.Grind.{common_steps}
use Rattle.std.proofs.lemmas.List.{length-set}

pub returns-in_err-line-clause-refused_by_checks : goal.returns-in_err-line-clause-refused_by_checks
returns-in_err-line-clause-refused_by_checks c = grind (arith, common_steps)

pub invariant_of-self : goal.invariant_of-self
invariant_of-self c =
    let self = c.args.self.now in
    let at = c.from-at.result in
    let made : c.replace.new.self.items ≡ with_cost (rows_of self) at c.args.cost = search rules in
    let there : at < length (rows_of self) = search rules in
    let cost = ap (λ (row : Row). row.cost) c.in_ok-line.ensures.made_or_refused_by_checks.1 in
    let low : 1 ≤ c.args.cost = omega (arith, cost, c.in_ok-line.line.lawful) in
    let high : c.args.cost ≤ 1000 = omega (arith, cost, c.in_ok-line.line.lawful) in
    let alike = alike_recosted (rows_of self) at c.args.cost in
    record {
      within = omega (arith, ap length made, length-set (rows_of self) at (recosted (get_or (rows_of self) at no_row) c.args.cost), self.within);
      lawful = subst (λ rows. AllLawful rows) (sym made) (lawful_recosted (rows_of self) at c.args.cost there low high self.lawful);
      brief = omega (arith, ap hyperperiod made, hyperperiod_alike _ _ alike, self.brief);
      few = omega (arith, ap (λ rows. length (full_list rows)) made, ap length (full_list_alike _ _ alike), self.few);
    }
