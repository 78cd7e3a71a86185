-- The supply that the first record of a sheet names, and when it names none. Assumes nothing.
use Rattle.std.specs.Prelude.{Bool, cond, ◌&&◌, List, [], ◌∷◌, ◌++◌, ◌==◌}
use Rattle.grammar.specs.declared.fields.Fields.{Fields}
use Rattle.refusal.specs.Answers.{Check}
use Rattle.supply.specs.Making.{timetable_check, share_check}
use Rattle.supply.specs.Meaning.{Meaning}
use Rattle.supply.specs.Share.{share}
use Rattle.supply.specs.Timetable.{timetable}
use Rattle.supply.specs.Whole.{whole}

-- The fields of the whole processor.
abbrev pub whole_fields : Fields
whole_fields = record { length = 0; word = 0; share = 0; of = 0 }

-- Length 0 with number 0 is the whole processor; any other pair is a timetable.
abbrev pub no_timetable : Fields → Bool
no_timetable fields = fields.length == 0 && fields.word == 0

abbrev pub bottom_of : Fields → Meaning
bottom_of fields = cond (no_timetable fields) whole (timetable fields.length fields.word)

-- A share of 0 in 0 is no share.
abbrev pub no_share : Fields → Bool
no_share fields = fields.share == 0 && fields.of == 0

abbrev pub supply_of : Fields → Meaning
supply_of fields = cond (no_share fields) (bottom_of fields) (share fields.share fields.of (bottom_of fields))

-- The checks of the fields: that of the timetable, where they name one, and then that of the share, where they name one.
abbrev pub bottom_checks : Fields → List Check
bottom_checks fields = cond (no_timetable fields) [] (timetable_check fields.length fields.word ∷ [])

abbrev pub share_checks : Fields → List Check
share_checks fields = cond (no_share fields) [] (share_check (bottom_of fields) fields.share fields.of ∷ [])

abbrev pub field_checks : Fields → List Check
field_checks fields = bottom_checks fields ++ share_checks fields
