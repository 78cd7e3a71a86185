-- What a call answers: its promise where no check fails, and else the refusal of the first check that does. Assumes nothing.
use Rattle.std.specs.Prelude.{◌≡◌, ℕ, Bool, cond, List, [], ◌∷◌, Some, None, Ok, Err, Option, Result, MatchResult}
use Rattle.refusal.specs.declared.Refusal.{Refusal}
use Rattle.refusal.specs.declared.layer.Layer.TheVariants.{Roster}
use Rattle.refusal.specs.declared.reason.Reason.{Reason}

-- A check: whether it fails, and how the call is then refused.
pub record Check : Type 0 where
  pub fails : Bool
  pub refusal : Refusal

-- A check of the roster's own, at a place.
abbrev pub check_at : (place : ℕ) → Bool → Reason → Check
check_at place fails why = record { fails = fails; refusal = record { reason = why; layer = Roster; place = place } }

-- A check of the roster's own, at place 0.
abbrev pub check : Bool → Reason → Check
check = check_at 0

-- The refusal of the first check that fails, if one does.
abbrev pub refusal_of : List Check → Option Refusal
refusal_of [] = None
refusal_of (c ∷ cs) = cond c.fails (Some c.refusal) (refusal_of cs)

-- The answer is what is promised exactly where no check fails, and else the refusal of the first that does.
abbrev pub Answered : {A : Type 0} → Result A Refusal → List Check → (A → Type 0) → Type 0
Answered r checks promised = MatchResult r (λ x. (refusal_of checks ≡ None) × promised x) (λ e. refusal_of checks ≡ Some e)

-- What a call leaves: something new where it is made, and what was there where it is refused.
abbrev pub left : {A B : Type 0} → Result A Refusal → (new old : B) → B
left (Ok x) new old = new
left (Err e) new old = old
