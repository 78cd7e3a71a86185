-- How the answers of one list of checks carry over to another.
use Rattle.std.proofs.Common.{◌≡◌, ℕ, Bool, true, false, List, [], ◌∷◌, ◌++◌, Some, None, Ok, Err, Result, sym, refl, ap, ◌∙◌, arith}
use Rattle.refusal.specs.Answers.{Check, check_at, refusal_of, Answered}
use Rattle.refusal.specs.declared.Refusal.{Refusal}
use Rattle.refusal.specs.declared.layer.Layer.TheVariants.{Roster}
use Rattle.refusal.specs.declared.reason.Reason.{Reason}

-- checks that pass leave the answer to those behind them
pub refusal_behind : (cs ds : List Check) → refusal_of cs ≡ None → refusal_of (cs ++ ds) ≡ refusal_of ds
refusal_behind [] ds e = refl
refusal_behind (c ∷ cs) ds e = go c.fails refl (refusal_behind cs ds)
  where
    go : (b : Bool) → c.fails ≡ b → (refusal_of cs ≡ None → refusal_of (cs ++ ds) ≡ refusal_of ds) → refusal_of (c ∷ (cs ++ ds)) ≡ refusal_of ds
    go true f later = absurd (grind arith)
    go false f later = let behind = later (grind arith) in grind arith

-- a refusal of the first checks stands
pub refusal_first : (cs ds : List Check) (e : Refusal) → refusal_of cs ≡ Some e → refusal_of (cs ++ ds) ≡ Some e
refusal_first [] ds e h = absurd (grind arith)
refusal_first (c ∷ cs) ds e h = go c.fails refl (refusal_first cs ds e)
  where
    go : (b : Bool) → c.fails ≡ b → (refusal_of cs ≡ Some e → refusal_of (cs ++ ds) ≡ Some e) → refusal_of (c ∷ (cs ++ ds)) ≡ Some e
    go true f later = grind arith
    go false f later = let behind = later (grind arith) in grind arith

-- an answer by some checks is one by checks that refuse alike
pub answered_alike : {A : Type 0} (r : Result A Refusal) (cs ds : List Check) (P Q : A → Type 0) → refusal_of cs ≡ refusal_of ds → ((x : A) → P x → Q x) → Answered r cs P → Answered r ds Q
answered_alike (Ok x) cs ds P Q same gives h = (sym same ∙ h.0, gives x h.1)
answered_alike (Err e) cs ds P Q same gives h = sym same ∙ h

-- where no check fails, the first does not, and those behind it do not; and the other way round
pub passed_first : (c : Check) (cs : List Check) → refusal_of (c ∷ cs) ≡ None → (c.fails ≡ false) × (refusal_of cs ≡ None)
passed_first c cs e = go c.fails refl
  where
    go : (b : Bool) → c.fails ≡ b → (c.fails ≡ false) × (refusal_of cs ≡ None)
    go true f = absurd (grind arith)
    go false f = (f, grind arith)

pub pass_first : (c : Check) (cs : List Check) → c.fails ≡ false → refusal_of cs ≡ None → refusal_of (c ∷ cs) ≡ None
pass_first c cs f later = grind arith

pub passed_both : (cs ds : List Check) → refusal_of (cs ++ ds) ≡ None → (refusal_of cs ≡ None) × (refusal_of ds ≡ None)
passed_both [] ds e = (refl, e)
passed_both (c ∷ cs) ds e =
    let here = passed_first c (cs ++ ds) e in
    let later = passed_both cs ds here.1 in
    (pass_first c cs here.0 later.0, later.1)

pub pass_both : (cs ds : List Check) → refusal_of cs ≡ None → refusal_of ds ≡ None → refusal_of (cs ++ ds) ≡ None
pass_both cs ds first later = refusal_behind cs ds first ∙ later

-- the refusal that is made for a reason and then set at a place
pub refused_at : (e b : Refusal) (why : Reason) (place : ℕ) → b ≡ record { reason = why; layer = Roster; place = 0 } → e ≡ record { reason = b.reason; layer = b.layer; place = place } → (check_at place true why).refusal ≡ e
refused_at e b why place by at = sym (at ∙ ap (λ (x : Refusal). record { reason = x.reason; layer = x.layer; place = place }) by)
