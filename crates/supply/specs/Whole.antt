-- The whole processor: one phase, and every slot is given. Assumes nothing.
use Rattle.supply.specs.Meaning.{Meaning}

abbrev pub whole : Meaning
whole = record { phases = 1; count = λ p n. n; least = λ n. n; worst = λ n. 0 }
