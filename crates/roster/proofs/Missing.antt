-- What an optional value's promise gives where the value is asked for, and an error answered if it is missing.
use Rattle.std.proofs.Common.{◌≡◌, Some, None, Ok, Err, Option, subst, MatchOption}
use Rattle.std.specs.Option.{ok_or}

module _ {A E : Type 0} (P : Type 0) (Q : A → Type 0) where
  pub missing : (o : Option A) (why e : E) → MatchOption o P Q → Err e ≡ ok_or o why → P × (e ≡ why)
  missing None why e h same = (h, cc)
  missing (Some x) why e h same = absurd cc

  pub there : (o : Option A) (why : E) (x : A) → MatchOption o P Q → Ok x ≡ ok_or o why → Q x
  there None why x h same = absurd cc
  there (Some y) why x h same = let is : y ≡ x = cc in subst Q is h
