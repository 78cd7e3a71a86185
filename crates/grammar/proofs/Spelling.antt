-- Each record is spelled in one way, and the bytes of none are the beginning of another's.
use Rattle.std.proofs.Common.{◌≡◌, ℕ, zero, suc, ◌/◌, ◌%◌, List, [], ◌∷◌, ◌++◌, length, get_or, drop, sym, refl, ap, ◌∙◌, append_assoc, arith}
use Rattle.analysis.specs.Watching.{Cite}
use Rattle.grammar.specs.Bytes.{wide, two, eight}
use Rattle.grammar.specs.Records.{Record, line, certificate, spelled, spelled_cites, opening, closing}
use Rattle.grammar.specs.declared.fields.Fields.{Fields}
use Rattle.lines.specs.declared.row.Row.{Row}

same_number : (n m : ℕ) (x y : List ℕ) → n / 256 ≡ m / 256 → n % 256 ∷ x ≡ m % 256 ∷ y → (n ≡ m) × (x ≡ y)
same_number n m x y high e = let low : n % 256 ≡ m % 256 = cc in (omega arith, cc)

-- a number in as many bytes
pub wide_apart : (k n m : ℕ) (x y : List ℕ) → wide k n ++ x ≡ wide k m ++ y → (n ≡ m) × (x ≡ y)
wide_apart zero n m x y e = (cc, cc)
wide_apart (suc k) n m x y e =
    let front = wide_apart k (n / 256) (m / 256) (n % 256 ∷ x) (m % 256 ∷ y) (sym (append_assoc (wide k (n / 256)) (n % 256 ∷ []) x) ∙ e ∙ append_assoc (wide k (m / 256)) (m % 256 ∷ []) y) in
    same_number n m x y front.0 front.1

pub two_apart : (n m : ℕ) (x y : List ℕ) → two n ++ x ≡ two m ++ y → (n ≡ m) × (x ≡ y)
two_apart n m x y e = wide_apart 1 n m x y e

pub eight_apart : (n m : ℕ) (x y : List ℕ) → eight n ++ x ≡ eight m ++ y → (n ≡ m) × (x ≡ y)
eight_apart n m x y e = wide_apart 7 n m x y e

-- as many cites
same_cites : (c d : Cite) (cs ds : List Cite) → c.deadline ≡ d.deadline → c.weight ≡ d.weight → cs ≡ ds → ◌≡◌ {A = List Cite} (c ∷ cs) (d ∷ ds)
same_cites c d cs ds e f g = λ i. record { deadline = e i; weight = f i } ∷ g i

pub cites_apart : (cs ds : List Cite) (x y : List ℕ) → length cs ≡ length ds → spelled_cites cs ++ x ≡ spelled_cites ds ++ y → (cs ≡ ds) × (x ≡ y)
unfolding spelled_cites
cites_apart [] [] x y l e = (refl, e)
cites_apart [] (d ∷ ds) x y l e = absurd (omega arith)
cites_apart (c ∷ cs) [] x y l e = absurd (omega arith)
cites_apart (c ∷ cs) (d ∷ ds) x y l e =
    let one = two_apart c.deadline d.deadline (two c.weight ++ (spelled_cites cs ++ x)) (two d.weight ++ (spelled_cites ds ++ y)) e in
    let other = two_apart c.weight d.weight (spelled_cites cs ++ x) (spelled_cites ds ++ y) one.1 in
    let more = cites_apart cs ds x y (omega arith) other.1 in
    (same_cites c d cs ds one.0 other.0 more.0, more.1)

same_line : (r s : Row) → r.period ≡ s.period → r.deadline ≡ s.deadline → r.cost ≡ s.cost → line r ≡ line s
same_line r s p d c = λ i. line (record { period = p i; deadline = d i; cost = c i })

-- bytes that begin alike
same_head : (n m : ℕ) (x y : List ℕ) → n ∷ x ≡ m ∷ y → n ≡ m
same_head n m x y e = ap (λ bytes. get_or bytes 0 0) e

-- a record between the first and the last
pub spelled_apart : (r s : Record) (x y : List ℕ) → spelled r ++ x ≡ spelled s ++ y → (r ≡ s) × (x ≡ y)
spelled_apart (line r) (line s) x y e =
    let one = two_apart r.period s.period (two r.deadline ++ (two r.cost ++ x)) (two s.deadline ++ (two s.cost ++ y)) (ap (drop 2) e) in
    let other = two_apart r.deadline s.deadline (two r.cost ++ x) (two s.cost ++ y) one.1 in
    let more = two_apart r.cost s.cost x y other.1 in
    (same_line r s one.0 other.0 more.0, more.1)
spelled_apart (line r) (certificate d q cs) x y e = absurd (omega (arith, same_head _ _ _ _ e))
spelled_apart (certificate d q cs) (line s) x y e = absurd (omega (arith, same_head _ _ _ _ e))
spelled_apart (certificate d q cs) (certificate d' q' ds) x y e =
    let one = two_apart d d' (two q ++ (length cs ∷ (spelled_cites cs ++ x))) (two q' ++ (length ds ∷ (spelled_cites ds ++ y))) (ap (drop 2) e) in
    let other = two_apart q q' (length cs ∷ (spelled_cites cs ++ x)) (length ds ∷ (spelled_cites ds ++ y)) one.1 in
    let more = cites_apart cs ds x y (same_head _ _ _ _ other.1) (ap (drop 1) other.1) in
    (λ i. certificate (one.0 i) (other.0 i) (more.0 i), more.1)

-- the last
pub closing_apart : (n m : ℕ) (x y : List ℕ) → closing n ++ x ≡ closing m ++ y → (n ≡ m) × (x ≡ y)
closing_apart n m x y e = two_apart n m x y (ap (drop 2) e)

-- the marks differ
pub spelled_closing : (r : Record) (n : ℕ) (x y : List ℕ) → spelled r ++ x ≡ closing n ++ y → ⊥
spelled_closing (line r) n x y e = omega (arith, same_head _ _ _ _ e)
spelled_closing (certificate d q cs) n x y e = omega (arith, same_head _ _ _ _ e)

-- the first
same_fields : (f g : Fields) → f.length ≡ g.length → f.word ≡ g.word → f.share ≡ g.share → f.of ≡ g.of → f ≡ g
same_fields f g l w s o = λ i. record { length = l i; word = w i; share = s i; of = o i }

pub opening_apart : (f g : Fields) (x y : List ℕ) → opening f ++ x ≡ opening g ++ y → (f ≡ g) × (x ≡ y)
opening_apart f g x y e =
    let word = eight_apart f.word g.word (f.share ∷ f.of ∷ x) (g.share ∷ g.of ∷ y) (ap (drop 3) e) in
    (same_fields f g (ap (λ bytes. get_or bytes 2 0) e) word.0 (ap (λ bytes. get_or bytes 0 0) word.1) (ap (λ bytes. get_or bytes 1 0) word.1), ap (drop 2) word.1)
