-- The lists that a watch list and a set of lines stand for. Assumes nothing.
use Rattle.std.specs.Prelude.{ℕ, List}
use Rattle.lines.specs.declared.row.Row.{Row}
use Rattle.lines.specs.declared.table.Lines.{Lines}
use Rattle.lines.specs.declared.watch_list.WatchList.{WatchList}

-- The deadlines of a watch list, in their order.
abbrev pub watched : WatchList → List ℕ
watched w = w.deadlines.items

-- The rows of a set of lines, by number.
abbrev pub rows_of : Lines → List Row
rows_of lines = lines.rows.items
