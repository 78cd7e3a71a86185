-- One slot more: a schedule that agrees with the one so far and takes the right turn at slot s goes on following the law, and what its service is then.
use Rattle.std.proofs.Common.{◌≡◌, ℕ, suc, ◌<◌, ◌⊎◌, List, sym, ap, ◌∙◌, inl, inr, arith}
use Rattle.edf.proofs.Agreement.{Agree, service_agree, first_agree, none_pending_agree, follows_agree}
use Rattle.edf.proofs.Law.{follows_more, law_idle, law_serves}
use Rattle.edf.proofs.Service.{service_idle, service_served, service_other, service_keeps}
use Rattle.edf.specs.Edf.{Pending, First, Law, Follows}
use Rattle.edf.specs.Jobs.{Job, job}
use Rattle.edf.specs.Schedule.{Schedule, Given, idle, serves, service}
use Rattle.std.proofs.lemmas.Bool.{cases_eq}

module _ (g : ℕ → ℕ) (jobs : List Job) (σ τ : Schedule) (s : ℕ) (agree : Agree σ τ s) where
  -- the law at slot s, from what is pending after the schedule so far
  pub next_idle : τ s ≡ idle → ((k : ℕ) → Pending jobs σ s k → ⊥) → Law g jobs τ s
  next_idle e none = law_idle g jobs τ s e (none_pending_agree jobs σ τ s agree none)

  pub next_serves : (k : ℕ) → Given g s → τ s ≡ serves k → First jobs σ s k → Law g jobs τ s
  next_serves k given e first = law_serves g jobs τ s k given e (first_agree jobs σ τ s agree k first)

  -- and so the law below s + 1
  pub follows_next : Follows g jobs σ s → Law g jobs τ s → Follows g jobs τ (suc s)
  follows_next follows law = follows_more g jobs τ s (follows_agree g jobs σ τ s agree follows) law

module _ (σ τ : Schedule) (s : ℕ) (agree : Agree σ τ s) where
  -- the service below s + 1, by what slot s serves
  pub service_next_idle : (k : ℕ) → τ s ≡ idle → service τ k (suc s) ≡ service σ k s
  service_next_idle k e = service_idle τ k s e ∙ sym (service_agree σ τ s agree k)

  pub service_next_served : (k : ℕ) → τ s ≡ serves k → service τ k (suc s) ≡ suc (service σ k s)
  service_next_served k e = service_served τ k s e ∙ ap suc (sym (service_agree σ τ s agree k))

  pub service_next_other : (k j : ℕ) → τ s ≡ serves j → (j ≡ k → ⊥) → service τ k (suc s) ≡ service σ k s
  service_next_other k j e other = service_other τ k s j e other ∙ sym (service_agree σ τ s agree k)

module _ (jobs : List Job) (σ τ : Schedule) (s : ℕ) (agree : Agree σ τ s) where
  -- what is pending at s + 1 is released just then, or was pending at s
  pub pending_came : (k : ℕ) → Pending jobs τ (suc s) k → ((job jobs k).release ≡ suc s) ⊎ Pending jobs σ s k
  pending_came k p = by_release (cases_eq (job jobs k).release (suc s))
    where
      unfinished : service σ k s < (job jobs k).cost
      unfinished = omega (arith, p.unfinished, service_keeps τ k s, service_agree σ τ s agree k)

      by_release : ((job jobs k).release ≡ suc s) ⊎ ((job jobs k).release ≡ suc s → ⊥) → ((job jobs k).release ≡ suc s) ⊎ Pending jobs σ s k
      by_release (inl now) = inl now
      by_release (inr before) = inr (record { there = p.there; released = omega (arith, p.released); unfinished = unfinished })

  -- what was pending at s stays so until slot s finishes it
  pub pending_stays : (k : ℕ) → Pending jobs σ s k → service τ k (suc s) < (job jobs k).cost → Pending jobs τ (suc s) k
  pending_stays k p un = record { there = p.there; released = omega (arith, p.released); unfinished = un }
