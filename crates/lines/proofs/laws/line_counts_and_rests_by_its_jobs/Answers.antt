use Rattle.lines.proofs.Counts.{line_laws}
use Rattle.lines.proofs.Jobs.{counts_due, counts_many, deadline_after_first, rests_clear_exactly}
use Rattle.std.proofs.Common.{refl}
use Rattle.lines.proofs.laws.line_counts_and_rests_by_its_jobs.Goals as goal

pub returns : goal.returns
returns c =
    let row = c.args.line.now.row in
    let lawful = c.args.line.now.lawful in
    record {
      counts_just_the_jobs_due = counts_due row lawful;
      counts_as_many_as_are_due = counts_many row lawful;
      deadline_after_is_the_first_later = λ t. (refl, deadline_after_first row lawful t);
      rests_where_no_job_lies_across = rests_clear_exactly row lawful;
      count_and_work_grow_and_split = line_laws row lawful;
    }
