-- A run that misses a deadline, by tests of each slot and each place: where all of them pass, it is the run.
use Rattle.std.proofs.Common.{◌≡◌, ℕ, suc, ◌<◌, ◌≤◌, Bool, true, not, ◌&&◌, ◌||◌, eqb, ltb, leb, List, length, sym, refl, ap, ◌∙◌, subst, arith}
use Rattle.edf.specs.Edf.{Pending, Before, First, Law, Follows, Stops}
use Rattle.edf.specs.Jobs.{Job, job}
use Rattle.edf.specs.Lateness.{Late, FirstMiss}
use Rattle.edf.specs.Schedule.{Turn, idle, serves, Schedule, Given, service}
use Rattle.run.specs.Slots.{turn, schedule}
use Rattle.std.proofs.lemmas.List.{get_or_past}
use Rattle.std.proofs.lemmas.Bool.{and_parts, eqb-true, eq-eqb, ltb-true, both_ways, not-true}
use Rattle.worked.proofs.Trying.{where_passed, below, below_each}

module _ (g : ℕ → ℕ) (jobs : List Job) (σ : Schedule) where
  -- what the law speaks of, as tests
  abbrev given : ℕ → Bool
  given s = eqb (g (suc s)) (suc (g s))

  abbrev pending : ℕ → ℕ → Bool
  pending s k = leb (job jobs k).release s && ltb (service σ k s) (job jobs k).cost

  abbrev before : ℕ → ℕ → Bool
  before k j = ltb (job jobs k).deadline (job jobs j).deadline || (eqb (job jobs k).deadline (job jobs j).deadline && leb k j)

  abbrev late : ℕ → ℕ → Bool
  late d k = leb (job jobs k).deadline d && ltb (service σ k d) (job jobs k).cost

  -- the law of a slot that serves a place, or none
  abbrev lawful : Turn → ℕ → Bool
  lawful idle s = not (given s) || below (λ k. not (pending s k)) (length jobs)
  lawful (serves k) s = given s && (ltb k (length jobs) && (pending s k && below (λ j. not (pending s j) || before k j) (length jobs)))

  -- each test says what it should
  is_pending : (s k : ℕ) → Pending jobs σ s k → pending s k ≡ true
  is_pending s k h = let r = h.released in let u = h.unfinished in grind arith

  to_pending : (s k : ℕ) → k < length jobs → pending s k ≡ true → Pending jobs σ s k
  to_pending s k there e = record { there = there; released = grind arith; unfinished = grind arith }

  to_before : (k j : ℕ) → before k j ≡ true → Before jobs k j
  to_before k j e = record { earlier = grind arith; lower = λ same. grind arith }

  to_given : (s : ℕ) → given s ≡ true → Given g s
  to_given s e = eqb-true (g (suc s)) (suc (g s)) e

  is_given : (s : ℕ) → Given g s → given s ≡ true
  is_given s h = eq-eqb (g (suc s)) (suc (g s)) h

  -- a slot keeps the law where its test passes
  none_pending : (s : ℕ) → below (λ k. not (pending s k)) (length jobs) ≡ true → (k : ℕ) → Pending jobs σ s k → ⊥
  none_pending s e k h =
      both_ways (pending s k) (not-true (pending s k) (below_each (λ i. not (pending s i)) (length jobs) e k h.there)) (is_pending s k h)

  goes_first : (s k : ℕ) → below (λ j. not (pending s j) || before k j) (length jobs) ≡ true → (j : ℕ) → Pending jobs σ s j → Before jobs k j
  goes_first s k e j h =
      let is = is_pending s j h in
      let either = below_each (λ i. not (pending s i) || before k i) (length jobs) e j h.there in
      to_before k j (where_passed (pending s j) (before k j) is either)

  by_turn : (s : ℕ) (t : Turn) → σ s ≡ t → lawful t s ≡ true → Law g jobs σ s
  by_turn s idle here e = record {
    not_given = λ gap. here;
    first = λ is k serving. absurd (apart k (sym here ∙ serving));
    none = λ is quiet. none_pending s (where_passed (given s) _ (is_given s is) e);
  }
    where
      apart : (k : ℕ) → idle ≡ serves k → ⊥
      apart k same = let z : ◌≡◌ {A = ℕ} 0 1 = cc in omega arith
  by_turn s (serves k) here e =
      let one = and_parts (given s) _ e in
      let two = and_parts (ltb k (length jobs)) _ one.1 in
      let three = and_parts (pending s k) _ two.1 in
      let is-first : First jobs σ s k = record { pending = to_pending s k (ltb-true k (length jobs) two.0) three.0; before = goes_first s k three.1 } in
      record {
        not_given = λ gap. absurd (gap (to_given s one.0));
        first = λ is j serving. subst (First jobs σ s) (same j (sym here ∙ serving)) is-first;
        none = λ is quiet. absurd (apart (sym here ∙ quiet));
      }
    where
      apart : serves k ≡ idle → ⊥
      apart same = let z : ◌≡◌ {A = ℕ} 0 1 = cc in omega arith

      same : (j : ℕ) → serves k ≡ serves j → k ≡ j
      same j e = cc

  pub follows_by : (e : ℕ) → below (λ s. lawful (σ s) s) e ≡ true → Follows g jobs σ e
  follows_by e all s l = by_turn s (σ s) refl (below_each (λ i. lawful (σ i) i) e all s l)

  -- and a miss is the first where no other test of lateness passes before it
  is_late : (d k : ℕ) → Late jobs σ d k → late d k ≡ true
  is_late d k h = let u = h.due in let v = h.unfinished in grind arith

  none_late : (d n : ℕ) → below (λ k. not (late d k)) n ≡ true → (k : ℕ) → k < n → Late jobs σ d k → ⊥
  none_late d n e k l h = both_ways (late d k) (not-true (late d k) (below_each (λ i. not (late d i)) n e k l)) (is_late d k h)

  pub misses_by : (k d : ℕ) → ltb k (length jobs) ≡ true → late d k ≡ true → below (λ e. below (λ j. not (late e j)) (length jobs)) d ≡ true → below (λ j. not (late d j)) k ≡ true → FirstMiss jobs σ k d
  misses_by k d there is earlier lower = record {
    late = record { there = ltb-true k (length jobs) there; due = grind arith; unfinished = grind arith };
    earliest = λ e j l h. none_late e (length jobs) (below_each (λ i. below (λ j. not (late i j)) (length jobs)) d earlier e l) j h.there h;
    lowest = none_late d k lower;
  }

-- slots past the list go to none
pub stops_by : (slots : List ℕ) (e : ℕ) → length slots ≤ e → Stops (schedule slots) e
stops_by slots e l s m = ap turn (get_or_past slots s 65535 (omega arith))
