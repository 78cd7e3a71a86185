-- What the law says of a slot depends on the slots up to it alone: schedules that agree there keep it alike, and the law leaves only one turn.
use Rattle.std.proofs.Common.{◌≡◌, ℕ, zero, suc, ◌<◌, ◌⊎◌, List, sym, refl, ap, ◌∙◌, inl, inr, ⊎_elim, add-one, arith, below_more}
use Rattle.edf.proofs.Service.{turn_cases}
use Rattle.edf.specs.Edf.{Pending, Before, First, Law, Follows}
use Rattle.edf.specs.Jobs.{Job}
use Rattle.edf.specs.Lateness.{Late, OnTimeBelow}
use Rattle.edf.specs.Schedule.{idle, serves, Schedule, Given, worth, service}
use Rattle.edf.specs.Theorems.{Uniqueness}
use Rattle.std.proofs.lemmas.Bool.{cases_eq}

-- two schedules agree below e
abbrev pub Agree : Schedule → Schedule → ℕ → Type 0
Agree σ τ e = (s : ℕ) → s < e → σ s ≡ τ s

pub agree_sym : (σ τ : Schedule) (e : ℕ) → Agree σ τ e → Agree τ σ e
agree_sym σ τ e agree s l = sym (agree s l)

pub service_agree : (σ τ : Schedule) (s : ℕ) → Agree σ τ s → (k : ℕ) → service σ k s ≡ service τ k s
unfolding service
service_agree σ τ zero agree k = refl
service_agree σ τ (suc s) agree k =
    let below : service σ k s ≡ service τ k s = service_agree σ τ s (λ i l. agree i (omega arith)) k in
    let here : worth (σ s) k ≡ worth (τ s) k = ap (λ t. worth t k) (agree s (omega arith)) in
    omega arith

-- what is pending depends on the slots before alone,
pub pending_agree : (jobs : List Job) (σ τ : Schedule) (s : ℕ) → Agree σ τ s → (k : ℕ) → Pending jobs σ s k → Pending jobs τ s k
pending_agree jobs σ τ s agree k p =
    record { there = p.there; released = p.released; unfinished = omega (arith, p.unfinished, service_agree σ τ s agree k) }

-- and so does who is first, and that none is pending
module _ (jobs : List Job) (σ τ : Schedule) (s : ℕ) (agree : Agree σ τ s) where
  back : (k : ℕ) → Pending jobs τ s k → Pending jobs σ s k
  back = pending_agree jobs τ σ s (agree_sym σ τ s agree)

  pub first_agree : (k : ℕ) → First jobs σ s k → First jobs τ s k
  first_agree k first =
      record { pending = pending_agree jobs σ τ s agree k first.pending; before = λ j p. first.before j (back j p) }

  pub none_pending_agree : ((k : ℕ) → Pending jobs σ s k → ⊥) → (k : ℕ) → Pending jobs τ s k → ⊥
  none_pending_agree none k p = none k (back k p)

-- what is late depends on the slots before alone
pub late_agree : (jobs : List Job) (σ τ : Schedule) (d k : ℕ) → Agree σ τ d → Late jobs σ d k → Late jobs τ d k
late_agree jobs σ τ d k agree late =
    record { there = late.there; due = late.due; unfinished = omega (arith, late.unfinished, service_agree σ τ d agree k) }

-- the law at a slot, carried to a schedule that agrees up to it
pub law_agree : (g : ℕ → ℕ) (jobs : List Job) (σ τ : Schedule) (s : ℕ) → Agree σ τ (suc s) → Law g jobs σ s → Law g jobs τ s
law_agree g jobs σ τ s agree law =
    let below : Agree σ τ s = λ i l. agree i (omega arith) in
    let here : σ s ≡ τ s = agree s (omega arith) in
    record {
      not_given = λ not. sym here ∙ law.not_given not;
      first = λ given k e. first_agree jobs σ τ s below k (law.first given k (here ∙ e));
      none = λ given e. none_pending_agree jobs σ τ s below (law.none given (here ∙ e));
    }

pub follows_agree : (g : ℕ → ℕ) (jobs : List Job) (σ τ : Schedule) (e : ℕ) → Agree σ τ e → Follows g jobs σ e → Follows g jobs τ e
follows_agree g jobs σ τ e agree follows s l = law_agree g jobs σ τ s (λ i m. agree i (omega arith)) (follows s l)

-- on time below e + 1 depends on the slots below e alone
pub on_time_agree : (jobs : List Job) (σ τ : Schedule) (e : ℕ) → Agree σ τ e → OnTimeBelow jobs σ (suc e) → OnTimeBelow jobs τ (suc e)
on_time_agree jobs σ τ e agree on_time d k l late =
    on_time d k l (late_agree jobs τ σ d k (λ s m. sym (agree s (omega arith))) late)

-- of two places that go before each other there is one
before_both : (jobs : List Job) (k j : ℕ) → Before jobs k j → Before jobs j k → k ≡ j
before_both jobs k j b b' = omega arith

-- the law leaves only one turn for a slot
pub law_determines : (g : ℕ → ℕ) (jobs : List Job) (σ τ : Schedule) (s : ℕ) → Agree σ τ s → Law g jobs σ s → Law g jobs τ s → σ s ≡ τ s
law_determines g jobs σ τ s agree law law' =
    ⊎_elim (λ (given : Given g s). by_turns given (turn_cases (σ s)) (turn_cases (τ s)))
    (λ (not : Given g s → ⊥). law.not_given not ∙ sym (law'.not_given not))
    (cases_eq (g (suc s)) (suc (g s)))
  where
    forth : (k : ℕ) → First jobs σ s k → First jobs τ s k
    forth = first_agree jobs σ τ s agree

    none : Given g s → σ s ≡ idle → (k : ℕ) → Pending jobs τ s k → ⊥
    none given e = none_pending_agree jobs σ τ s agree (law.none given e)

    by_turns : Given g s → (σ s ≡ idle) ⊎ ((k : ℕ) × (σ s ≡ serves k)) → (τ s ≡ idle) ⊎ ((j : ℕ) × (τ s ≡ serves j)) → σ s ≡ τ s
    by_turns given (inl e) (inl e') = e ∙ sym e'
    by_turns given (inl e) (inr (j, e')) = absurd (none given e j (law'.first given j e').pending)
    by_turns given (inr (k, e)) (inl e') = absurd (law'.none given e' k (forth k (law.first given k e)).pending)
    by_turns given (inr (k, e)) (inr (j, e')) =
        let f : First jobs τ s k = forth k (law.first given k e) in
        let f' : First jobs τ s j = law'.first given j e' in
        e ∙ ap serves (before_both jobs k j (f.before j f'.pending) (f'.before k f.pending)) ∙ sym e'

pub uniqueness : Uniqueness
uniqueness g jobs σ τ zero follows follows' s l = absurd (omega arith)
uniqueness g jobs σ τ (suc e) follows follows' s l =
    let below : Agree σ τ e = uniqueness g jobs σ τ e (λ i m. follows i (omega arith)) (λ i m. follows' i (omega arith)) in
    let here : σ e ≡ τ e = law_determines g jobs σ τ e below (follows e (omega arith)) (follows' e (omega arith)) in
    below_more (λ i. σ i ≡ τ i) e below here s (omega (arith, add-one e))
