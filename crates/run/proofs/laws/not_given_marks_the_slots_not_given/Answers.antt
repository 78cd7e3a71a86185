use Rattle.edf.specs.Schedule.{Given, idle}
use Rattle.run.proofs.laws.not_given_marks_the_slots_not_given.Goals as goal
use Rattle.run.specs.Slots.{entry, turn, schedule, Entries}
use Rattle.std.proofs.Common.{◌≡◌, ℕ, ◌<◌, List, refl, ap, arith}

-- an entry of 65,535 serves no job, and that of a given slot which serves none is 0
clash : (given : ℕ → ℕ) (slots : List ℕ) (end : ℕ) → Entries given slots end → (s : ℕ) → s < end → entry slots s ≡ 65535 → Given given s → ⊥
clash given slots end entries s early e is =
    let unserved : schedule slots s ≡ idle = ap turn e in
    let zero : entry slots s ≡ 0 = entries.idle_given s early is unserved in
    omega arith

pub returns : goal.returns
returns c = record {
  is_65535 = refl;
  serves_no_job = refl;
  stands_just_where_no_slot_is_given = λ given slots end entries s early. (clash given slots end entries s early, entries.not_given s early);
}
