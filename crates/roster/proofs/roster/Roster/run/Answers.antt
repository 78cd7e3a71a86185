use Rattle.analysis.proofs.Reaching.{verdict_exact}
use Rattle.roster.proofs.Fitting.{fitting_met}
use Rattle.roster.proofs.roster.Roster.run.Goals as goal
use Rattle.std.proofs.Common.{None, refl}

pub returns-clause-fitting_lines_meet_all : goal.returns-clause-fitting_lines_meet_all
returns-clause-fitting_lines_meet_all g c calls reached fits legal =
    let s = c.args.self.now.supply in
    let law = g.met.S.Supply in
    let m = g.S.Supply.meaning s in
    let exact = verdict_exact m (record { counts = law.counts s; windows = law.windows s; attained = law.attained s }) calls _ _ reached None fits in
    fitting_met m (law.counts s).0 _ None exact refl _ legal c.args.phase c.run.new.slots c.run.result c.run.ensures.slots_follow_edf

pub returns-clause-slots_follow_edf : goal.returns-clause-slots_follow_edf
returns-clause-slots_follow_edf g c = c.run.ensures.slots_follow_edf

pub returns-clause-entries_well_written : goal.returns-clause-entries_well_written
returns-clause-entries_well_written g c = c.run.ensures.entries_well_written

pub returns-clause-met_exactly : goal.returns-clause-met_exactly
returns-clause-met_exactly g c = c.run.ensures.met_exactly

pub returns-clause-miss_is_final : goal.returns-clause-miss_is_final
returns-clause-miss_is_final g c = c.run.ensures.miss_is_final
