-- The weighed sum as the sum over the cites of what each brings.
use Rattle.std.proofs.Common.{◌≡◌, ℕ, ◌+◌, ◌*◌, List, [], ◌∷◌, sum_by, sym, refl, ap, ◌∙◌}
use Rattle.std.proofs.lemmas.List.Sums.{sum_by-cons}
use Rattle.analysis.specs.Watching.{Cite, weighed}

pub weighed_sum : (f : ℕ → ℕ) (cites : List Cite) → weighed f cites ≡ sum_by (λ cite. cite.weight * f cite.deadline) cites
unfolding weighed
weighed_sum f [] = refl
weighed_sum f (cite ∷ cites) = ap (λ rest. cite.weight * f cite.deadline + rest) (weighed_sum f cites) ∙ sym (sum_by-cons (λ (x : Cite). x.weight * f x.deadline) cite cites)
