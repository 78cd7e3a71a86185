-- What stands at a place of the front of some places.
use Rattle.std.proofs.Common.{◌≡◌, ℕ, ◌<◌, ◌≤◌, List, length, get_or, take, Some, None, sym, ap, ◌∙◌, arith}
use Rattle.std.proofs.lemmas.List.{length-take-le, get_or-take}
use Rattle.std.proofs.lemmas.Option.{slice_get_past, slice_get-get_or}
use Rattle.std.specs.List.{slice_get}

module _ {T : Type 0} (places : List T) (len at : ℕ) (fits : len ≤ length places) where
  pub stands : (d : T) → at < len → Some (get_or places at d) ≡ slice_get (take len places) at
  stands d l = let long = length-take-le len places fits in sym (slice_get-get_or (take len places) at d (omega arith) ∙ ap Some (get_or-take len places at d l))

  pub stands_none : len ≤ at → None ≡ slice_get (take len places) at
  stands_none past = let long = length-take-le len places fits in sym (slice_get_past (take len places) at (omega arith))
