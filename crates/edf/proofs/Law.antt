-- The law at a slot: how a slot keeps it, and what a schedule keeps that follows it: only given slots serve, only pending jobs are served, and so no job gets more than its cost, or anything before its release.
use Rattle.std.proofs.Common.{◌≡◌, ℕ, zero, suc, ◌<◌, ◌≤◌, ◌⊎◌, List, subst, inl, inr, ⊎_elim, arith}
use Rattle.edf.proofs.Service.{service_none, service_served, service_step, service_unserved, idle_serves_none}
use Rattle.edf.specs.Edf.{Pending, First, Law, Follows}
use Rattle.edf.specs.Jobs.{Job, job}
use Rattle.edf.specs.Schedule.{idle, serves, Schedule, Given, service}
use Rattle.std.proofs.lemmas.Bool.{cases_eq, cases_lt}
use Rattle.supply.specs.Meaning.{Counting}

-- a slot is given, or the count stays
pub given_or_not : (g : ℕ → ℕ) → Counting g → (s : ℕ) → Given g s ⊎ (g (suc s) ≡ g s)
given_or_not g c s =
    ⊎_elim (λ (e : g (suc s) ≡ suc (g s)). inl e)
    (λ (e : g (suc s) ≡ suc (g s) → ⊥). inr (omega (arith, c.keeps s, c.climbs s)))
    (cases_eq (g (suc s)) (suc (g s)))

module _ (g : ℕ → ℕ) (jobs : List Job) (σ : Schedule) where
  -- a slot that is not given keeps the law where it is idle
  pub law_not_given : (s : ℕ) → (Given g s → ⊥) → σ s ≡ idle → Law g jobs σ s
  law_not_given s not e =
      record { not_given = λ n. e; first = λ given k f. absurd (not given); none = λ given f k p. absurd (not given) }

  -- any slot keeps it where it is idle and no job is pending
  pub law_idle : (s : ℕ) → σ s ≡ idle → ((k : ℕ) → Pending jobs σ s k → ⊥) → Law g jobs σ s
  law_idle s e none =
      record { not_given = λ not. e; first = λ given k f. absurd (idle_serves_none (σ s) k e f); none = λ given f. none }

  -- a given slot keeps it where it serves the job that is first
  pub law_serves : (s k : ℕ) → Given g s → σ s ≡ serves k → First jobs σ s k → Law g jobs σ s
  law_serves s k given e first =
      record {
        not_given = λ not. absurd (not given);
        first = λ given j f. let at : k ≡ j = cc in subst (First jobs σ s) at first;
        none = λ given f. absurd (idle_serves_none (σ s) k f e);
      }

  -- a slot that serves is given
  pub served_given : (s k : ℕ) → Law g jobs σ s → σ s ≡ serves k → Given g s
  served_given s k law e =
      ⊎_elim (λ (given : Given g s). given)
      (λ (not : Given g s → ⊥). absurd (idle_serves_none (σ s) k (law.not_given not) e))
      (cases_eq (g (suc s)) (suc (g s)))

  -- the job that a slot serves is pending
  pub served_pending : (s k : ℕ) → Law g jobs σ s → σ s ≡ serves k → Pending jobs σ s k
  served_pending s k law e = (law.first (served_given s k law e) k e).pending

  -- no job gets more than its cost
  pub service_within : (e : ℕ) → Follows g jobs σ e → (k : ℕ) → service σ k e ≤ (job jobs k).cost
  service_within zero follows k = omega (arith, service_none σ k)
  service_within (suc s) follows k = more (service_within s (λ i l. follows i (omega arith)) k) (service_step σ k s)
    where
      more : service σ k s ≤ (job jobs k).cost → (σ s ≡ serves k) ⊎ (service σ k (suc s) ≡ service σ k s) → service σ k (suc s) ≤ (job jobs k).cost
      more below (inl here) =
          omega (arith, service_served σ k s here, (served_pending s k (follows s (omega arith)) here).unfinished)
      more below (inr same) = omega arith

  -- no job is served before its release
  pub service_unreleased : (e : ℕ) → Follows g jobs σ e → (k : ℕ) → e ≤ (job jobs k).release → service σ k e ≡ 0
  service_unreleased e follows k early =
      service_unserved σ k e (λ s l here. omega (arith, (served_pending s k (follows s l) here).released))

  -- a job that is finished has had exactly its cost
  pub finished_exact : (e k : ℕ) → Follows g jobs σ e → (job jobs k).cost ≤ service σ k e → service σ k e ≡ (job jobs k).cost
  finished_exact e k follows full = omega (arith, service_within e follows k)

  pub follows_none : Follows g jobs σ 0
  follows_none s l = absurd (omega arith)

  -- one slot more
  pub follows_more : (e : ℕ) → Follows g jobs σ e → Law g jobs σ e → Follows g jobs σ (suc e)
  follows_more e follows law s l =
      ⊎_elim (λ (under : s < e). follows s under)
      (λ (over : e ≤ s). let at : e ≡ s = omega arith in subst (Law g jobs σ) at law)
      (cases_lt s e)
