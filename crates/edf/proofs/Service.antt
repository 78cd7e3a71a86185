-- Service, slot by slot: a slot adds one for the place that it serves and leaves the others; service never falls.
use Rattle.std.proofs.Common.{◌≡◌, ℕ, suc, ◌<◌, ◌≤◌, ◌⊎◌, refl, ap, ◌∙◌, inl, inr, arith}
use Rattle.edf.specs.Schedule.{Turn, idle, serves, Schedule, service}
use Rattle.std.proofs.lemmas.Bool.{cases_eq}
use native.Mathlib.Decide.{le_ind}

-- a turn is idle or serves a place
pub turn_cases : (t : Turn) → (t ≡ idle) ⊎ ((k : ℕ) × (t ≡ serves k))
turn_cases idle = inl refl
turn_cases (serves k) = inr (k, refl)

-- a turn that is idle serves no place
pub idle_serves_none : (t : Turn) (k : ℕ) → t ≡ idle → t ≡ serves k → ⊥
idle_serves_none t k p q = let z : ◌≡◌ {A = ℕ} 0 1 = cc in omega arith

pub service_none : (σ : Schedule) (k : ℕ) → service σ k 0 ≡ 0
unfolding service
service_none σ k = refl

pub service_idle : (σ : Schedule) (k s : ℕ) → σ s ≡ idle → service σ k (suc s) ≡ service σ k s
unfolding service
service_idle σ k s e = grind arith

pub service_served : (σ : Schedule) (k s : ℕ) → σ s ≡ serves k → service σ k (suc s) ≡ suc (service σ k s)
unfolding service
service_served σ k s e = grind arith

pub service_other : (σ : Schedule) (k s j : ℕ) → σ s ≡ serves j → (j ≡ k → ⊥) → service σ k (suc s) ≡ service σ k s
unfolding service
service_other σ k s j e other = grind arith

-- a slot serves place k, or leaves its service as it was
pub service_step : (σ : Schedule) (k s : ℕ) → (σ s ≡ serves k) ⊎ (service σ k (suc s) ≡ service σ k s)
service_step σ k s = by_turn (turn_cases (σ s))
  where
    by_place : (j : ℕ) → σ s ≡ serves j → (j ≡ k) ⊎ (j ≡ k → ⊥) → (σ s ≡ serves k) ⊎ (service σ k (suc s) ≡ service σ k s)
    by_place j e (inl same) = inl (e ∙ ap serves same)
    by_place j e (inr other) = inr (service_other σ k s j e other)

    by_turn : (σ s ≡ idle) ⊎ ((j : ℕ) × (σ s ≡ serves j)) → (σ s ≡ serves k) ⊎ (service σ k (suc s) ≡ service σ k s)
    by_turn (inl e) = inr (service_idle σ k s e)
    by_turn (inr (j, e)) = by_place j e (cases_eq j k)

pub service_keeps : (σ : Schedule) (k s : ℕ) → service σ k s ≤ service σ k (suc s)
unfolding service
service_keeps σ k s = omega arith

pub service_grows : (σ : Schedule) (k a b : ℕ) → a ≤ b → service σ k a ≤ service σ k b
service_grows σ k a b le =
    le_ind (λ s. service σ k a ≤ service σ k s) (omega arith) (λ s from below. omega (arith, service_keeps σ k s)) b le

-- service stays over slots that do not serve the place
pub service_still : (σ : Schedule) (k a b : ℕ) → a ≤ b → ((s : ℕ) → a ≤ s → s < b → σ s ≡ serves k → ⊥) → service σ k b ≡ service σ k a
service_still σ k a b le still = le_ind (λ s. s ≤ b → service σ k s ≡ service σ k a) (λ upto. refl) step b le (omega arith)
  where
    same : (s : ℕ) → a ≤ s → s < b → (σ s ≡ serves k) ⊎ (service σ k (suc s) ≡ service σ k s) → service σ k (suc s) ≡ service σ k s
    same s from upto (inl here) = absurd (still s from upto here)
    same s from upto (inr e) = e

    step : (s : ℕ) → a ≤ s → (s ≤ b → service σ k s ≡ service σ k a) → suc s ≤ b → service σ k (suc s) ≡ service σ k a
    step s from below upto = same s from upto (service_step σ k s) ∙ below (omega arith)

-- a place that no slot has served yet has no service
pub service_unserved : (σ : Schedule) (k e : ℕ) → ((s : ℕ) → s < e → σ s ≡ serves k → ⊥) → service σ k e ≡ 0
service_unserved σ k e none = service_still σ k 0 e (omega arith) (λ s from. none s) ∙ service_none σ k
