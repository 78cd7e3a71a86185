-- A list of eight is its entries.
use Rattle.std.proofs.Common.{◌≡◌, List, [], ◌∷◌, length, slice_index_or, refl, rules}

pub entries : {A : Type 0} (d : A) (xs : List A) → length xs ≡ 8 → xs ≡ (slice_index_or xs 0 d ∷ slice_index_or xs 1 d ∷ slice_index_or xs 2 d ∷ slice_index_or xs 3 d ∷ slice_index_or xs 4 d ∷ slice_index_or xs 5 d ∷ slice_index_or xs 6 d ∷ slice_index_or xs 7 d ∷ [])
entries d (a ∷ b ∷ c ∷ p ∷ q ∷ r ∷ s ∷ t ∷ []) e = refl
entries d [] e = search rules
entries d (a ∷ []) e = search rules
entries d (a ∷ b ∷ []) e = search rules
entries d (a ∷ b ∷ c ∷ []) e = search rules
entries d (a ∷ b ∷ c ∷ p ∷ []) e = search rules
entries d (a ∷ b ∷ c ∷ p ∷ q ∷ []) e = search rules
entries d (a ∷ b ∷ c ∷ p ∷ q ∷ r ∷ []) e = search rules
entries d (a ∷ b ∷ c ∷ p ∷ q ∷ r ∷ s ∷ []) e = search rules
entries d (a ∷ b ∷ c ∷ p ∷ q ∷ r ∷ s ∷ t ∷ u ∷ us) e = search rules
