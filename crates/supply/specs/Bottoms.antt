-- The laws of the supplies that an office can name, case by case.
-- Lemmas: they stand in specs/ since the laws of an `impl` cite them, and nobody has to believe them.
use Rattle.supply.specs.Piles.{share_laws}
use Rattle.supply.specs.Rows.{timetable_laws}
use Rattle.supply.specs.Meaning.{Lawful}
use Rattle.supply.specs.Named.{bottom, named}
use Rattle.supply.specs.Whole.{whole}
use Rattle.supply.specs.declared.named.Bottom as b
use Rattle.supply.specs.declared.named.Bottom.{Bottom}
use Rattle.supply.specs.declared.named.Named as n
use Rattle.supply.specs.declared.named.Named.{Named}
use Rattle.std.specs.Prelude.{refl}
use Rattle.std.proofs.Common.{arith}

pub whole_lawful : Lawful whole
whole_lawful = record {
  counts = (omega arith, λ p there. record { starts = refl; keeps = λ n. omega arith; climbs = λ n. omega arith });
  windows = λ p a n there. omega arith;
  attained = λ n. (omega arith, refl);
}

pub bottom_lawful : (below : Bottom) → Lawful (bottom below)
bottom_lawful (b.TheVariants.Whole w) = whole_lawful
bottom_lawful (b.TheVariants.Timetable t) = timetable_laws t.length t.word t.lawful

pub named_lawful : (s : Named) → Lawful (named s)
named_lawful (n.TheVariants.Plain below) = bottom_lawful below
named_lawful (n.TheVariants.Shared s) =
    share_laws (bottom_lawful s.below) s.pattern
