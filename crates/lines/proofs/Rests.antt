-- Rest points: how far a line stays busy, that the hyperperiod is a rest point, and what the first one is.
use Rattle.std.proofs.Common.{◌≡◌, ℕ, ◌+◌, ◌-◌, ◌*◌, ◌/◌, ◌%◌, ◌<◌, ◌≤◌, true, false, List, ap, ◌∙◌, ⊎_elim, div-add-mod', arith}
use Rattle.lines.proofs.Every.{every_weaker}
use Rattle.lines.proofs.First.{first_found, first_at_most, first_passes, first_is}
use Rattle.lines.proofs.Hyperperiod.{hyperperiod_common, hyperperiod_positive}
use Rattle.lines.specs.Demand.{Lawful, AllLawful}
use Rattle.lines.specs.Rest.{every, divides, resting, hyperperiod, first_rest}
use Rattle.lines.specs.declared.row.Row.{Row}
use Rattle.std.proofs.lemmas.Bool.{cases_lt}
use lib.Arith.{digits_mod}

-- within one period the remainder grows with t
pub mod_onward : (T t k : ℕ) → t ≤ k → t % T + (k - t) < T → k % T ≡ t % T + (k - t)
mod_onward T t k le l =
    let split = div-add-mod' t T in
    let at : k ≡ t / T * T + (t % T + (k - t)) = omega arith in
    ap (λ x. x % T) at ∙ digits_mod (t / T) l

-- a line that does not rest at t stays busy to its next deadline
pub busy_until : (row : Row) (t k : ℕ) → Lawful row → (t % row.period ≡ 0 → ⊥) → t % row.period < row.deadline → t ≤ k → k < t - t % row.period + row.deadline → resting k row ≡ false
busy_until row t k ok some early le l =
    let part : t % row.period ≤ t = native.Mathlib.Nat.mod-le t row.period in
    let at : k % row.period ≡ t % row.period + (k - t) = mod_onward row.period t k le (omega arith) in
    let more : k % row.period < row.deadline = omega arith in
    let nonzero : k % row.period ≡ 0 → ⊥ = λ z. some (omega arith) in
    grind arith

-- a line rests at t unless t falls between a release and its deadline
pub rests_unless : (row : Row) (t : ℕ) → ((t % row.period ≡ 0 → ⊥) → t % row.period < row.deadline → ⊥) → resting t row ≡ true
rests_unless row t no_job = grind arith

pub hyperperiod_rests : (rows : List Row) → AllLawful rows → every (resting (hyperperiod rows)) rows ≡ true
hyperperiod_rests rows ok =
    every_weaker (divides (hyperperiod rows)) (resting (hyperperiod rows)) rows (λ i l d. grind arith) (hyperperiod_common rows ok)

-- no rest point before t, and t is one: it is the first
pub first_rest_is : (rows : List Row) (t : ℕ) → AllLawful rows → 1 ≤ t → t ≤ hyperperiod rows → every (resting t) rows ≡ true → ((k : ℕ) → 1 ≤ k → k < t → every (resting k) rows ≡ false) → first_rest rows ≡ t
first_rest_is rows t ok one le all none = first_is (λ k. every (resting k) rows) (hyperperiod rows) t one le all none

-- while no rest point has come, the hyperperiod lies ahead
pub hyperperiod_ahead : (rows : List Row) (t u : ℕ) → AllLawful rows → t ≤ hyperperiod rows → ((k : ℕ) → t ≤ k → k < u → every (resting k) rows ≡ false) → u ≤ hyperperiod rows
hyperperiod_ahead rows t u ok le none =
    ⊎_elim (λ (l : hyperperiod rows < u). let fails = none (hyperperiod rows) le l in let rests = hyperperiod_rests rows ok in absurd (grind arith)) (λ (g : u ≤ hyperperiod rows). g) (cases_lt (hyperperiod rows) u)

pub first_rest_rests : (rows : List Row) → AllLawful rows → every (resting (first_rest rows)) rows ≡ true
first_rest_rests rows ok =
    first_passes (λ k. every (resting k) rows) (hyperperiod rows) (hyperperiod rows) (hyperperiod_positive rows ok) (omega arith) (hyperperiod_rests rows ok)

pub first_rest_positive : (rows : List Row) → 1 ≤ first_rest rows
first_rest_positive rows = (first_found (λ k. every (resting k) rows) (hyperperiod rows)).positive

pub first_rest_within : (rows : List Row) → AllLawful rows → first_rest rows ≤ hyperperiod rows
first_rest_within rows ok = first_at_most (λ k. every (resting k) rows) (hyperperiod rows) (hyperperiod rows) (hyperperiod_positive rows ok) (hyperperiod_rests rows ok)

pub first_rest_least : (rows : List Row) (t : ℕ) → 1 ≤ t → every (resting t) rows ≡ true → first_rest rows ≤ t
first_rest_least rows t one rests = first_at_most (λ k. every (resting k) rows) (hyperperiod rows) t one rests
