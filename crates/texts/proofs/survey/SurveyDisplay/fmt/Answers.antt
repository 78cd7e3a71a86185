use Rattle.std.proofs.Common.{◌++◌, ◌<◌, add-one, append_assoc, drop-cons, get_or, length, rules}
use Rattle.std.proofs.Output.{has_written_append}
use Rattle.lines.specs.Of.{rows_of}
use Rattle.texts.specs.Surveys.{instant_text}
use Rattle.texts.proofs.survey.SurveyDisplay.fmt.Goals as goal

-- A deadline more is written.
pub loop-deadline-preserved : goal.loop-deadline-preserved
loop-deadline-preserved g c = λ plain.
    let so_far = c.loop-deadline.invariant plain in
    let here : c.loop-deadline.deadline-index < length c.args.self.now.watched.now = c.loop-deadline-test.true in (
      so_far.0 ++ instant_text (g.S.Supply.meaning c.args.self.now.supply.now) (rows_of c.args.self.now.lines.now) (get_or c.args.self.now.watched.now c.loop-deadline.deadline-index 0),
      has_written_append _ _ _ _ _ _ so_far.1 (search rules),
      rw (append_assoc, add-one) (rw (drop-cons c.args.self.now.watched.now c.loop-deadline.deadline-index 0 here) at so_far.2),
    )
