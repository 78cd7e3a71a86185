-- What a witness is: its jobs at the front of a list are legal, and no schedule meets them.
use Rattle.std.proofs.Common.{◌≡◌, ℕ, List, length, take, drop, Some, sym, refl, ap, ◌∙◌, subst}
use Rattle.analysis.specs.Legal.{Legal, witness}
use Rattle.analysis.specs.Verdict.{ExactVerdict, MetIn}
use Rattle.lines.specs.declared.row.Row.{Row}
use Rattle.roster.specs.Lent.{fronted}
use Rattle.run.specs.declared.job.Job.{Job}
use Rattle.std.proofs.lemmas.List.{take_at}
use Rattle.supply.specs.Meaning.{Meaning}

module _ (m : Meaning) (rows : List Row) where
  -- the first jobs of a list with the witness in front, in the phase of the witness
  pub front_unmet : (t : ℕ) → ExactVerdict m rows (Some t) → (list before : List Job) (n phase : ℕ) → list ≡ fronted (witness rows t) before → n ≡ length (witness rows t) → phase ≡ m.worst t → Legal rows (take n list) × (MetIn m rows (take n list) phase → ⊥)
  front_unmet t exact list before n phase holds long in-phase =
      let front : take n list ≡ witness rows t = ap (take n) holds ∙ take_at (witness rows t) (drop (length (witness rows t)) before) n (sym long) in
      (subst (Legal rows) (sym front) (exact.witness_legal t refl), λ met. exact.witness_unmet t refl (subst (λ p. MetIn m rows (witness rows t) p) in-phase (subst (λ jobs. MetIn m rows jobs phase) front met)))
