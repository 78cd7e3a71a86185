-- What the roster's types for cites stand for. Assumes nothing.
use Rattle.std.specs.Prelude.{List}
use Rattle.analysis.specs.Watching.{Cite}
use Rattle.roster.specs.Certificate.{cites_of}
use Rattle.roster.specs.declared.cite.Cite as declared
use Rattle.roster.specs.declared.cites.Cites.{Cites}

-- The cite that a value stands for.
abbrev pub cite_of : declared.Cite → Cite
cite_of cite = record { deadline = cite.deadline; weight = cite.weight }

-- The cites that are still to come.
abbrev pub cites_left : Cites → List Cite
cites_left cites = cites_of cites.bytes.now
