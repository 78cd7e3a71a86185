use Rattle.lines.proofs.Fewer.{fewer_laws}
use Rattle.lines.proofs.Removing.{removed_among, lawful_removed}
use Rattle.lines.proofs.table.Lines.remove.Goals as goal
use Rattle.lines.specs.Demand.{AllLawful}
use Rattle.lines.specs.Of.{rows_of}
use Rattle.lines.specs.Rest.{hyperperiod, full_list}
use Rattle.std.proofs.Common.{◌≡◌, ◌<◌, length, ap, sym, subst, rules, arith}
use Rattle.std.proofs.lemmas.List.Edits.{length-remove}
use Rattle.std.specs.List.{remove}

pub invariant_of-rest : goal.invariant_of-rest
invariant_of-rest c =
    let self = c.args.self.now in
    let number = c.args.number in
    let there : number < length (rows_of self) = search rules in
    let moved : c.remove.new.self.items ≡ remove (rows_of self) number = search rules in
    let fewer = fewer_laws (remove (rows_of self) number) (rows_of self) (removed_among (rows_of self) number there) self.lawful in
    record {
      within = omega (arith, ap length c.remove.ensures.closes_the_gap, length-remove (rows_of self) number there, self.within);
      lawful = subst (λ rows. AllLawful rows) (sym moved) (lawful_removed (rows_of self) number there self.lawful);
      brief = omega (arith, ap hyperperiod moved, fewer.briefer, self.brief);
      few = omega (arith, ap (λ rows. length (full_list rows)) moved, fewer.no_longer, self.few);
    }

pub returns : goal.returns
returns c = search rules
