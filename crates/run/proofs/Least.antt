-- What `min_by_key` gives of a chain whose list is known: an element of the list, and none has a lesser key.
use Rattle.std.proofs.Common.{◌≡◌, ℕ, ◌<◌, true, false, List, length, get_or, map, Some, None, Option, MatchOption, sym, refl, ap, ◌∙◌, subst, arith}
use Rattle.std.proofs.iter.runs.Made.{took, at-is}
use Rattle.std.proofs.iter.runs.Lists.{nth_read}
use Rattle.std.proofs.lemmas.Iterator.{YieldsList, items_from_drains}
use Rattle.std.proofs.lemmas.List.{get_or-map, length-map}
use Rattle.std.specs.Fn.{CalledAt}
use Rattle.std.specs.Iterator.{DrainsIf}
use Rattle.std.specs.Iterator.Runs.{Run, WholeRun, AnyItem, NoKeyBeyond, CallKeepsClosure}
use Rattle.std.specs.List.{All, Contains}
use Rattle.std.specs.Option.{IsSomeAnd}
use Rattle.std.specs.Ordering.{is_lt}
use Rattle.std.specs.declared.cmp.Ordering.{Ordering}
use denote.Param.Members.{Mut}
use denote.Ref.{Bor}

module _ {S A B F K : Type 0} {steps : S → Option A → S → Type 0} {v : A → B} {s : S} {all : List B} (g : Mut F (Bor A × Unit {0}) K) (f : F) (cmp : K → K → Ordering) (key : B → K) (computes : (x : A) (k : K) (q : F) → CalledAt g f x k q → (q ≡ f) × (k ≡ key (v x))) (road : YieldsList steps v s all) where
  keeps : CallKeepsClosure g f
  keeps (b, u) k q called = (computes b.now k q (record { shown = b; shows = refl; called = called })).0

  module _ (p : Run steps) (from : p.from ≡ s) (whole : p.whole ≡ true) where
    items : map v p.items ≡ all
    items =
        let t = took p in
        items_from_drains p.items (subst (λ i. DrainsIf steps (Unit {0}) i p.items) from (t.0, t.1, λ _. t.2 whole)) road

    many : p.len ≡ length all
    many = p.long ∙ sym (length-map p.items v) ∙ ap length items

    at : (k : ℕ) (d : A) → k < length all → p.at k ≡ Some (get_or p.items k d)
    at k d l = at-is p k ∙ nth_read p.items k d (omega (arith, many, p.long))

    read : (k : ℕ) (e : B) (d : A) → k < length all → get_or all k e ≡ v (get_or p.items k d)
    read k e d l = ap (λ l. get_or l k e) (sym items) ∙ get_or-map v p.items k d e (omega (arith, many, p.long))

  least : (r : Option A) → WholeRun steps s (λ p. MatchOption r (p.len ≡ 0) (λ m. AnyItem p (λ x. x ≡ m) × NoKeyBeyond p g f is_lt cmp m)) → MatchOption r (length all ≡ 0) (λ m. Contains all (v m) × All (λ y. is_lt (cmp (key y) (key (v m))) ≡ false) all)
  least None (p, from, whole, none) = sym (many p from whole) ∙ none
  least (Some m) (p, from, whole, ((k, l, here), beyond)) =
      let l' : k < length all = omega (arith, many p from whole) in
      let there : get_or p.items k m ≡ m = subst (λ o. IsSomeAnd o (λ x. x ≡ m)) (at p from whole k m l') here in
      let keys = beyond keeps in (
        (k, l', read p from whole k (v m) m l' ∙ ap v there),
        λ j d lj.
            let other = subst (λ o. MatchOption o (Unit {0}) (λ x. (i : K) × CalledAt g f x i f × (is_lt (cmp i keys.0) ≡ false))) (at p from whole j m lj) (keys.2 j) in
            let mine = (computes m keys.0 f keys.1).1 in
            let its = (computes (get_or p.items j m) other.0 f other.1).1 in
            let shown = read p from whole j d m lj in
            ap (λ y. is_lt (cmp (key y) (key (v m)))) shown ∙ ap (λ i. is_lt (cmp i (key (v m)))) (sym its) ∙ ap (λ i. is_lt (cmp other.0 i)) (sym mine) ∙ other.2,
      )

pub least_from_yields_List : {S A B F K : Type 0} {steps : S → Option A → S → Type 0} {v : A → B} {s : S} {all : List B} {g : Mut F (Bor A × Unit {0}) K} {f : F} (cmp : K → K → Ordering) (r : Option A) → WholeRun steps s (λ p. MatchOption r (p.len ≡ 0) (λ m. AnyItem p (λ x. x ≡ m) × NoKeyBeyond p g f is_lt cmp m)) → YieldsList steps v s all → (key : B → K) → ((x : A) (k : K) (q : F) → CalledAt g f x k q → (q ≡ f) × (k ≡ key (v x))) → (Precedes : B → B → Type 0) → ((x y : B) → is_lt (cmp (key y) (key x)) ≡ false → Precedes x y) → MatchOption r (length all ≡ 0) (λ m. Contains all (v m) × All (Precedes (v m)) all)
least_from_yields_List {g = g} {f = f} cmp None runs road key computes Precedes so = least g f cmp key computes road None runs
least_from_yields_List {g = g} {f = f} cmp (Some m) runs road key computes Precedes so =
    let found = least g f cmp key computes road (Some m) runs in
    (found.0, λ k d l. so _ _ (found.1 k d l))
