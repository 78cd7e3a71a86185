-- What is written so far, with the counts of the lines that are still to come, is the text.
use Rattle.std.proofs.Common.{◌≡◌, ℕ, List, ◌++◌}
use Rattle.std.specs.Fmt.{HasWritten, IsPlainFormatter}
use Rattle.lines.specs.Left.{rows_left}
use Rattle.lines.specs.Of.{rows_of}
use Rattle.texts.specs.Surveys.{counts_text}
use Rattle.texts.proofs.counts.CountsDisplay.fmt.Given as goal

abbrev pub invariant-loop-line : goal.invariant-loop-line
invariant-loop-line g l = IsPlainFormatter l.initial.f → (done : List ℕ) × HasWritten g.W.Write.write_str_gives l.initial.f done l.f × (done ++ counts_text l.self.at (rows_left l.line-iterator) ≡ counts_text l.self.at (rows_of l.self.lines.now))
