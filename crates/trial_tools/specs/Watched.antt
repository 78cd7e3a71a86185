-- Whether a watch list is as it is known. Assumes nothing.
use Rattle.std.specs.Prelude.{◌≡◌, length}
use Rattle.lines.specs.Of.{watched}
use Rattle.lines.specs.declared.watch_list.WatchList.{WatchList}
use Rattle.trial_tools.specs.declared.watched.Watched.{Watched}
use Rattle.trial_tools.specs.declared.watched.Watched.TheVariants.{These, Many}

abbrev pub Are : Watched → WatchList → Type 0
Are (These deadlines) list = watched list ≡ deadlines.now
Are (Many many) list = length (watched list) ≡ many
