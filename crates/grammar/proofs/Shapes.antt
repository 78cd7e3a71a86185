-- A rest that ends inside a record, one whose mark is out of place, and one that begins with a record exclude one another.
use Rattle.std.proofs.Common.{◌≡◌, ℕ, ◌≤◌, List, [], ◌++◌, length, take, sym, ap, ◌∙◌, inl, inr, append_assoc, append-nil, arith}
use Rattle.grammar.proofs.Spelling.{spelled_apart, closing_apart, spelled_closing, opening_apart}
use Rattle.grammar.specs.Reading.{First, Later, CutShort, Misplaced}
use Rattle.grammar.specs.Records.{Record, line, certificate, spelled, opening, closing}
use Rattle.std.proofs.lemmas.List.{length-append, take-append-le}

-- records that may stand somewhere: each has a mark, and none is the beginning of another
pub record Kind (May : List ℕ → Type 0) : Type 0 where
  pub marked : (a : List ℕ) → May a → 2 ≤ length a
  pub apart : (a b x y : List ℕ) → May a → May b → a ++ x ≡ b ++ y → (a ≡ b) × (x ≡ y)

spelled_marked : (r : Record) → 2 ≤ length (spelled r)
spelled_marked (line row) = omega arith
spelled_marked (certificate d q cites) = omega arith

later_marked : (a : List ℕ) → Later a → 2 ≤ length a
later_marked a (inl (r, e)) = omega (arith, ap length e, spelled_marked r)
later_marked a (inr (n, e)) = omega (arith, ap length e)

later_apart : (a b x y : List ℕ) → Later a → Later b → a ++ x ≡ b ++ y → (a ≡ b) × (x ≡ y)
later_apart a b x y (inl (r, p)) (inl (s, q)) e =
    let known = spelled_apart r s x y (ap (λ c. c ++ x) (sym p) ∙ e ∙ ap (λ c. c ++ y) q) in
    (p ∙ ap spelled known.0 ∙ sym q, known.1)
later_apart a b x y (inl (r, p)) (inr (m, q)) e = absurd (spelled_closing r m x y (ap (λ c. c ++ x) (sym p) ∙ e ∙ ap (λ c. c ++ y) q))
later_apart a b x y (inr (n, p)) (inl (s, q)) e = absurd (spelled_closing s n y x (ap (λ c. c ++ y) (sym q) ∙ sym e ∙ ap (λ c. c ++ x) p))
later_apart a b x y (inr (n, p)) (inr (m, q)) e =
    let known = closing_apart n m x y (ap (λ c. c ++ x) (sym p) ∙ e ∙ ap (λ c. c ++ y) q) in
    (p ∙ ap closing known.0 ∙ sym q, known.1)

pub later : Kind Later
later = record { marked = later_marked; apart = later_apart }

pub first : Kind First
first = record {
  marked = λ a h. omega (arith, ap length h.1);
  apart = λ a b x y h k e.
      let known = opening_apart h.0 k.0 x y (ap (λ c. c ++ x) (sym h.1) ∙ e ∙ ap (λ c. c ++ y) k.1) in
      (h.1 ∙ ap opening known.0 ∙ sym k.1, known.1);
}

module _ (May : List ℕ → Type 0) (kind : Kind May) (rest : List ℕ) where
  pub cut_misplaced : CutShort May rest → Misplaced May rest → ⊥
  cut_misplaced (inl short) h = omega arith
  cut_misplaced (inr (missing, some, may)) h = h.1 (rest ++ missing) may (take-append-le 2 rest missing h.0)

  pub cut_begins : (a more : List ℕ) → May a → rest ≡ a ++ more → CutShort May rest → ⊥
  cut_begins a more may e (inl short) = omega (arith, kind.marked a may, ap length e, length-append a more)
  cut_begins a more may e (inr (missing, some, whole)) =
      let known = kind.apart (rest ++ missing) a [] (more ++ missing) whole may (append-nil (rest ++ missing) ∙ ap (λ c. c ++ missing) e ∙ append_assoc a more missing) in
      omega (arith, ap length known.1, length-append more missing)

  pub misplaced_begins : (a more : List ℕ) → May a → rest ≡ a ++ more → Misplaced May rest → ⊥
  misplaced_begins a more may e h = h.1 a may (sym (ap (take 2) e ∙ take-append-le 2 a more (kind.marked a may)))
