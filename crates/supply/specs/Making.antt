-- The checks of making a supply. Assumes nothing.
use Rattle.std.specs.Prelude.{ℕ, not, Ok, Err, Result}
use Rattle.refusal.specs.Answers.{Check}
use Rattle.refusal.specs.declared.Refusal.{Refusal}
use Rattle.refusal.specs.declared.layer.Layer.TheVariants.{Supply}
use Rattle.refusal.specs.declared.reason.Reason.{Reason}
use Rattle.refusal.specs.declared.reason.Reason.TheVariants.{TimetableUnlawful, ShareUnlawful}
use Rattle.supply.specs.Meaning.{Meaning}
use Rattle.supply.specs.Share.{lawful_share}
use Rattle.supply.specs.Timetable.{lawful_timetable}
use Rattle.supply.specs.declared.share.Share.{Share}
use Rattle.supply.specs.declared.share.ShareRefused.{ShareRefused}

-- A refusal of the supply's own.
abbrev pub by_supply : Reason → Refusal
by_supply why = record { reason = why; layer = Supply; place = 0 }

-- The check of a timetable.
abbrev pub timetable_check : ℕ → ℕ → Check
timetable_check length word = record { fails = not (lawful_timetable length word); refusal = by_supply TimetableUnlawful }

-- The check of a share of S in F over a supply.
abbrev pub share_check : Meaning → ℕ → ℕ → Check
share_check m S F = record { fails = not (lawful_share m S F); refusal = by_supply ShareUnlawful }

-- How making a share is answered, without the supply that a refusal hands back.
abbrev pub refusal_in : {B : Type 0} → Result (Share B) (ShareRefused B) → Result (Share B) Refusal
refusal_in (Ok s) = Ok s
refusal_in (Err e) = Err e.refusal
