use Rattle.std.proofs.Common.{◌≡◌, ◌++◌, ◌≤◌, length}
use Rattle.grammar.specs.Records.{opening}
use Rattle.lines.specs.Of.{rows_of}
use Rattle.sheet.proofs.Drafting.{written_to}
use Rattle.sheet.proofs.writing.plain_sheet.Given as goal
use Rattle.sheet.specs.Drafts.{drafted}

abbrev pub invariant-loop-line : goal.invariant-loop-line
invariant-loop-line l =
    (length l.yielded ≤ length (rows_of l.lines)) × (drafted l.draft ≡ opening l.fn.fields ++ written_to (rows_of l.lines) (length l.yielded))
