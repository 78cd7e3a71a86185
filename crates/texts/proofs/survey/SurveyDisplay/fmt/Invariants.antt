-- What is written so far, with the deadlines that are still to come, is the text.
use Rattle.std.proofs.Common.{◌≡◌, ℕ, List, ◌++◌, drop}
use Rattle.std.specs.Fmt.{HasWritten, IsPlainFormatter}
use Rattle.lines.specs.Of.{rows_of}
use Rattle.texts.specs.Surveys.{instants_text, survey_text}
use Rattle.texts.proofs.survey.SurveyDisplay.fmt.Given as goal

abbrev pub invariant-loop-deadline : goal.invariant-loop-deadline
invariant-loop-deadline g l = IsPlainFormatter l.fn.f → (done : List ℕ) × HasWritten g.W.Write.write_str_gives l.fn.f done l.f × (done ++ instants_text (g.S.Supply.meaning l.self.supply.now) (rows_of l.self.lines.now) (drop l.deadline-index l.deadline-items) ≡ survey_text (g.S.Supply.meaning l.self.supply.now) (rows_of l.self.lines.now) l.self.watched.now)
