-- Existence: a schedule is built slot by slot, each time by the place that is first, and so keeps the law at every slot.
use Rattle.std.proofs.Common.{◌≡◌, ℕ, zero, suc, ◌<◌, ◌≤◌, cond, ltb, ◌⊎◌, List, length, refl, ap, ◌∙◌, inl, inr, add-one, arith, below_more}
use Rattle.edf.proofs.Agreement.{Agree}
use Rattle.edf.proofs.Law.{law_not_given}
use Rattle.edf.proofs.Steps.{next_idle, next_serves}
use Rattle.edf.specs.Edf.{Pending, Before, Law}
use Rattle.edf.specs.Jobs.{Job, job}
use Rattle.edf.specs.Schedule.{Turn, idle, serves, Schedule, Given, service}
use Rattle.edf.specs.Theorems.{Existence}
use Rattle.std.proofs.lemmas.Bool.{cases_lt, cases_eq, lt-ltb, le-ltb, cond-true, cond-false}

-- The choice among the first n places: idle where none of them is pending, or else the pending one that goes before all of them that are pending.
abbrev Chosen : List Job → Schedule → ℕ → ℕ → Turn → Type 0
Chosen jobs σ s n idle = (j : ℕ) → j < n → Pending jobs σ s j → ⊥
Chosen jobs σ s n (serves k) = (k < n) × Pending jobs σ s k × ((j : ℕ) → j < n → Pending jobs σ s j → Before jobs k j)

module _ (jobs : List Job) (σ : Schedule) (s : ℕ) where
  pub pending_or_not : (k : ℕ) → Pending jobs σ s k ⊎ (Pending jobs σ s k → ⊥)
  pending_or_not k = by_parts (cases_lt k (length jobs)) (cases_lt s (job jobs k).release) (cases_lt (service σ k s) (job jobs k).cost)
    where
      by_parts : (k < length jobs) ⊎ (length jobs ≤ k) → (s < (job jobs k).release) ⊎ ((job jobs k).release ≤ s) → (service σ k s < (job jobs k).cost) ⊎ ((job jobs k).cost ≤ service σ k s) → Pending jobs σ s k ⊎ (Pending jobs σ s k → ⊥)
      by_parts (inl there) (inl early) un = inr (λ p. omega (arith, p.released))
      by_parts (inl there) (inr released) (inl un) = inl (record { there = there; released = released; unfinished = un })
      by_parts (inl there) (inr released) (inr done) = inr (λ p. omega (arith, p.unfinished))
      by_parts (inr past) early un = inr (λ p. omega (arith, p.there))

  -- what holds of every pending place below n, and of n, holds of every one below n + 1
  one_more : (P : ℕ → Type 0) (n : ℕ) → ((j : ℕ) → j < n → Pending jobs σ s j → P j) → (Pending jobs σ s n → P n) → (j : ℕ) → j < suc n → Pending jobs σ s j → P j
  one_more P n below here j l = below_more (λ i. Pending jobs σ s i → P i) n below here j (omega (arith, add-one n))

  before_itself : (k : ℕ) → Before jobs k k
  before_itself k = record { earlier = omega arith; lower = omega arith }

  -- place n, where it is pending and none below is, or is due before the one chosen below
  choose_new : (n : ℕ) → Pending jobs σ s n → ((j : ℕ) → j < n → Pending jobs σ s j → Before jobs n j) → (u : Turn) × Chosen jobs σ s (suc n) u
  choose_new n p before = (serves n, (omega arith, p, one_more (Before jobs n) n before (λ q. before_itself n)))

  -- the place k chosen below, where place n is not pending or due no earlier
  choose_old : (n k : ℕ) → Chosen jobs σ s n (serves k) → (Pending jobs σ s n → (job jobs k).deadline ≤ (job jobs n).deadline) → (u : Turn) × Chosen jobs σ s (suc n) u
  choose_old n k (under, p, before) no-earlier =
      (serves k, (omega arith, p, one_more (Before jobs k) n before (λ q. record { earlier = no-earlier q; lower = omega arith })))

  -- one place more
  choose_between : (n k : ℕ) → Chosen jobs σ s n (serves k) → Pending jobs σ s n → ((job jobs n).deadline < (job jobs k).deadline) ⊎ ((job jobs k).deadline ≤ (job jobs n).deadline) → (u : Turn) × Chosen jobs σ s (suc n) u
  choose_between n k (under, p, before) q (inl sooner) = choose_new n q later
    where
      later : (j : ℕ) → j < n → Pending jobs σ s j → Before jobs n j
      later j l r =
          let no_later = (before j l r).earlier in
          record { earlier = omega arith; lower = omega arith }
  choose_between n k chosen q (inr no-sooner) = choose_old n k chosen (λ r. no-sooner)

  choose_more : (n : ℕ) (t : Turn) → Chosen jobs σ s n t → Pending jobs σ s n ⊎ (Pending jobs σ s n → ⊥) → (u : Turn) × Chosen jobs σ s (suc n) u
  choose_more n idle none (inl p) = choose_new n p (λ j l q. absurd (none j l q))
  choose_more n idle none (inr not) = (idle, one_more (λ j. ⊥) n none not)
  choose_more n (serves k) chosen (inl p) = choose_between n k chosen p (cases_lt (job jobs n).deadline (job jobs k).deadline)
  choose_more n (serves k) chosen (inr not) = choose_old n k chosen (λ q. absurd (not q))

  pub choose : (n : ℕ) → (t : Turn) × Chosen jobs σ s n t
  choose zero = (idle, λ j l p. omega arith)
  choose (suc n) = let so_far = choose n in choose_more n so_far.0 so_far.1 (pending_or_not n)

-- A turn is right for slot s after the turns of σ where whatever takes it there keeps the law.
abbrev Right : (ℕ → ℕ) → List Job → Schedule → ℕ → Turn → Type 0
Right g jobs σ s t = (τ : Schedule) → Agree σ τ s → τ s ≡ t → Law g jobs τ s

module _ (g : ℕ → ℕ) (jobs : List Job) (σ : Schedule) (s : ℕ) where
  right_chosen : Given g s → (t : Turn) → Chosen jobs σ s (length jobs) t → Right g jobs σ s t
  right_chosen given idle none τ agree e = next_idle g jobs σ τ s agree e (λ j p. none j p.there p)
  right_chosen given (serves k) (there, p, before) τ agree e =
      next_serves g jobs σ τ s agree k given e (record { pending = p; before = λ j q. before j q.there q })

  -- every slot has a right turn
  right_turn : (t : Turn) × Right g jobs σ s t
  right_turn = by_supply (cases_eq (g (suc s)) (suc (g s)))
    where
      by_supply : Given g s ⊎ (Given g s → ⊥) → (t : Turn) × Right g jobs σ s t
      by_supply (inl given) = let c = choose jobs σ s (length jobs) in (c.0, right_chosen given c.0 c.1)
      by_supply (inr not) = (idle, λ τ agree e. law_not_given g jobs τ s not e)

-- the schedule built as far as slot n; what it says from n on does not count
built : (ℕ → ℕ) → List Job → ℕ → Schedule
built g jobs zero = λ i. idle
built g jobs (suc s) = λ i. cond (ltb i s) (built g jobs s i) (right_turn g jobs (built g jobs s) s).0

-- the schedule whose every turn is right after the turns before it
edf : (ℕ → ℕ) → List Job → Schedule
edf g jobs s = (right_turn g jobs (built g jobs s) s).0

built_agrees : (g : ℕ → ℕ) (jobs : List Job) (n : ℕ) → Agree (built g jobs n) (edf g jobs) n
unfolding built edf
built_agrees g jobs zero i l = absurd (omega arith)
built_agrees g jobs (suc n) i l = by_slot (built_agrees g jobs n) (cases_lt i n)
  where
    by_slot : Agree (built g jobs n) (edf g jobs) n → (i < n) ⊎ (n ≤ i) → built g jobs (suc n) i ≡ edf g jobs i
    by_slot below (inl before) = cond-true (ltb i n) (built g jobs n i) (edf g jobs n) (lt-ltb i n before) ∙ below i before
    by_slot below (inr from) =
        let at : n ≡ i = omega arith in
        cond-false (ltb i n) (built g jobs n i) (edf g jobs n) (le-ltb i n from) ∙ ap (edf g jobs) at

pub existence : Existence
unfolding edf
existence g jobs =
    (edf g jobs, λ s. (right_turn g jobs (built g jobs s) s).1 (edf g jobs) (built_agrees g jobs s) refl)
