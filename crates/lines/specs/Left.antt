-- The rows of the lines that are still to come. Assumes nothing.
use Rattle.std.specs.Prelude.{List}
use Rattle.lines.specs.declared.line_iter.LineIter.{LineIter}
use Rattle.lines.specs.declared.row.Row.{Row}

abbrev pub rows_left : LineIter → List Row
rows_left lines = lines.rows.now
