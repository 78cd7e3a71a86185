-- A job of the rest of a list is a timed job of the whole list.
use Rattle.std.proofs.Common.{◌≡◌, ℕ, ◌+◌, ◌-◌, ◌<◌, List, length, take, drop, sym, ap, ◌∙◌, arith}
use Rattle.edf.specs.Jobs.{Job as Timed, job}
use Rattle.lines.specs.declared.row.Row.{Row}
use Rattle.run.proofs.Passing.{timed_at, timed_there}
use Rattle.run.specs.Timed.{at, line_at, timed, timed_list}
use Rattle.run.specs.declared.job.Job.{Job}
use Rattle.std.proofs.lemmas.List.{length-take, length-drop, get_or-take, get_or-drop}

-- A job stands at place n of a list.
pub record Listed (rows : List Row) (jobs : List Job) (n : ℕ) (one : Job) : Type 0 where
  pub there : n < length (timed_list rows jobs)
  pub line : one.line ≡ line_at jobs n
  pub release : one.release ≡ (job (timed_list rows jobs) n).release
  pub deadline : (timed rows one).deadline ≡ (job (timed_list rows jobs) n).deadline
  pub cost : one.cost ≡ (job (timed_list rows jobs) n).cost

-- so does each that lies ahead of a place
pub ahead_is : (rows : List Row) (jobs : List Job) (from ahead : ℕ) → ahead < length (take (length jobs - from) (drop from jobs)) → Listed rows jobs (from + ahead) (at (take (length jobs - from) (drop from jobs)) ahead)
ahead_is rows jobs from ahead l =
    let there : from + ahead < length jobs = omega (arith, l, length-take (length jobs - from) (drop from jobs), length-drop from jobs) in
    let here : at (take (length jobs - from) (drop from jobs)) ahead ≡ at jobs (from + ahead) = get_or-take (length jobs - from) (drop from jobs) ahead _ (omega arith) ∙ get_or-drop from jobs ahead _ in
    let same : timed rows (at (take (length jobs - from) (drop from jobs)) ahead) ≡ job (timed_list rows jobs) (from + ahead) = ap (timed rows) here ∙ sym (timed_at rows jobs (from + ahead) there) in
    record {
      there = timed_there rows jobs (from + ahead) there;
      line = ap (λ (j : Job). j.line) here;
      release = ap (λ (t : Timed). t.release) same;
      deadline = ap (λ (t : Timed). t.deadline) same;
      cost = ap (λ (t : Timed). t.cost) same;
    }
