-- The supply that gives nothing: one phase, and no slot is given. Assumes nothing.
use Rattle.supply.specs.Meaning.{Meaning}

abbrev pub nothing : Meaning
nothing = record { phases = 1; count = λ p n. 0; least = λ n. 0; worst = λ n. 0 }
