-- The supplies that an office can name: a bottom, or a share of one. Assumes nothing.
use Rattle.supply.specs.Meaning.{Meaning}
use Rattle.supply.specs.Share.{share}
use Rattle.supply.specs.Timetable.{timetable}
use Rattle.supply.specs.Whole.{whole}
use Rattle.supply.specs.declared.named.Bottom as b
use Rattle.supply.specs.declared.named.Bottom.{Bottom}
use Rattle.supply.specs.declared.named.Named as n
use Rattle.supply.specs.declared.named.Named.{Named}

-- The whole processor, or a timetable.
abbrev pub bottom : Bottom → Meaning
bottom (b.TheVariants.Whole w) = whole
bottom (b.TheVariants.Timetable t) = timetable t.length t.word

-- A bottom, or a share of one.
abbrev pub named : Named → Meaning
named (n.TheVariants.Plain below) = bottom below
named (n.TheVariants.Shared s) = share s.pattern.given s.pattern.of (bottom s.below)
