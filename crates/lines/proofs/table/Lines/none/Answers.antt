use Rattle.lines.proofs.Nothing.{brief_none, few_none}
use Rattle.lines.proofs.table.Lines.none.Goals as goal
use Rattle.std.proofs.Common.{length, ap, rules, arith}

pub invariant_of-result : goal.invariant_of-result
invariant_of-result c = record {
  within = search rules;
  lawful = λ i l. absurd (omega (arith, ap length c.none.ensures.holds_nothing));
  brief = brief_none _ (search rules);
  few = few_none _ (search rules);
}
