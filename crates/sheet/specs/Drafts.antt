-- The bytes of a draft, and when a lent list has no room for them. Assumes nothing.
use Rattle.std.specs.Prelude.{ℕ, List, nat_lt}
use Rattle.refusal.specs.Answers.{Check}
use Rattle.refusal.specs.declared.layer.Layer.TheVariants.{Sheet}
use Rattle.refusal.specs.declared.reason.Reason.TheVariants.{ListTooShort}
use Rattle.sheet.specs.declared.draft.Draft.{Draft}

abbrev pub drafted : Draft → List ℕ
drafted draft = draft.bytes.items

-- A list of some length is too short for so many bytes as are needed; the place is that number.
abbrev pub room_check : (needed room : ℕ) → Check
room_check needed room = record { fails = nat_lt room needed; refusal = record { reason = ListTooShort; layer = Sheet; place = needed } }
