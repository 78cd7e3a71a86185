-- Bytes spell numbers and records: those that are long enough spell one, and those that are not can be filled up to one.
use Rattle.std.proofs.Common.{◌≡◌, ℕ, zero, suc, ◌+◌, ◌-◌, ◌*◌, ◌/◌, ◌%◌, ◌<◌, ◌≤◌, List, [], ◌∷◌, ◌++◌, map, length, get_or, take, drop, replicate, sym, refl, ap, ◌∙◌, subst, inl, inr, ⊎_elim, arith, drop-cons}
use Rattle.grammar.specs.Bytes.{wide, two, eight}
use Rattle.grammar.specs.Reading.{First, Later, CutShort, Misplaced}
use Rattle.grammar.specs.Records.{Record, line, certificate, spelled, spelled_cites, opening, closing}
use Rattle.grammar.specs.declared.fields.Fields.{Fields}
use Rattle.lines.specs.declared.row.Row.{Row}
use Rattle.roster.proofs.Spelling as cites
use Rattle.roster.specs.Certificate.{cite_at, cites_of}
use Rattle.std.proofs.lemmas.List.{append-nil, append_assoc, length-append, length-replicate, length-drop, length-take, length-take-le, get_or_append_left, get_or-append_right, get_or_past, get_or-take, get_or-drop, drop_all, take-append-drop, take_rest}
use Rattle.std.proofs.lemmas.Bool.{cases_lt}
use Rattle.std.specs.List.{range_with_len}

-- every place holds a byte
abbrev pub Bytes : List ℕ → Type 0
Bytes xs = (i : ℕ) → get_or xs i 0 < 256

-- one byte more behind a number
wide_of : (k n b : ℕ) → b < 256 → wide (suc k) (n * 256 + b) ≡ wide k n ++ (b ∷ [])
wide_of k n b l =
    let q : (n * 256 + b) / 256 ≡ n = omega arith in
    let r : (n * 256 + b) % 256 ≡ b = omega arith in
    ap (λ x. wide k x ++ ((n * 256 + b) % 256 ∷ [])) q ∙ ap (λ x. wide k n ++ (x ∷ [])) r

-- the number in the two bytes at a place, and what is behind
abbrev pub pair : List ℕ → ℕ → ℕ
pair xs i = get_or xs i 0 * 256 + get_or xs (suc i) 0

pub two_at : (xs : List ℕ) → Bytes xs → (i : ℕ) → suc i < length xs → drop i xs ≡ two (pair xs i) ++ drop (suc (suc i)) xs
two_at xs fit i l =
    drop-cons xs i 0 (omega arith) ∙ ap (λ t. get_or xs i 0 ∷ t) (drop-cons xs (suc i) 0 l) ∙ ap (λ t. t ++ drop (suc (suc i)) xs) (sym (wide_of 0 (get_or xs i 0) (get_or xs (suc i) 0) (fit (suc i))))

-- the number in eight bytes
abbrev pub horner : (a b c d e f g h : ℕ) → ℕ
horner a b c d e f g h = ((((((a * 256 + b) * 256 + c) * 256 + d) * 256 + e) * 256 + f) * 256 + g) * 256 + h

eight_of : (a b c d e f g h : ℕ) → b < 256 → c < 256 → d < 256 → e < 256 → f < 256 → g < 256 → h < 256 → eight (horner a b c d e f g h) ≡ a ∷ b ∷ c ∷ d ∷ e ∷ f ∷ g ∷ h ∷ []
eight_of a b c d e f g h lb lc ld le lf lg lh =
    wide_of 6 _ h lh ∙ ap (λ t. t ++ (h ∷ [])) (wide_of 5 _ g lg ∙ ap (λ t. t ++ (g ∷ [])) (wide_of 4 _ f lf ∙ ap (λ t. t ++ (f ∷ [])) (wide_of 3 _ e le ∙ ap (λ t. t ++ (e ∷ [])) (wide_of 2 _ d ld ∙ ap (λ t. t ++ (d ∷ [])) (wide_of 1 _ c lc ∙ ap (λ t. t ++ (c ∷ [])) (wide_of 0 a b lb))))))

-- the fields of the first record, of a line, of a certificate, at the front of bytes
abbrev pub fields_in : List ℕ → Fields
fields_in xs = record {
  length = get_or xs 0 0;
  word = horner (get_or xs 1 0) (get_or xs 2 0) (get_or xs 3 0) (get_or xs 4 0) (get_or xs 5 0) (get_or xs 6 0) (get_or xs 7 0) (get_or xs 8 0);
  share = get_or xs 9 0;
  of = get_or xs 10 0;
}

abbrev pub row_in : List ℕ → Row
row_in xs = record { period = pair xs 0; deadline = pair xs 2; cost = pair xs 4 }

abbrev pub cites_in : List ℕ → List ℕ
cites_in xs = take (4 * get_or xs 4 0) (drop 5 xs)

abbrev pub certificate_in : List ℕ → Record
certificate_in xs = certificate (pair xs 0) (pair xs 2) (cites_of (cites_in xs))

pub spells_line : (xs : List ℕ) → Bytes xs → 6 ≤ length xs → 76 ∷ 78 ∷ xs ≡ spelled (line (row_in xs)) ++ drop 6 xs
spells_line xs fit l =
    ap (λ t. 76 ∷ 78 ∷ t) (two_at xs fit 0 (omega arith) ∙ ap (λ t. two (pair xs 0) ++ t) (two_at xs fit 2 (omega arith) ∙ ap (λ t. two (pair xs 2) ++ t) (two_at xs fit 4 (omega arith))))

pub spells_closing : (xs : List ℕ) → Bytes xs → 2 ≤ length xs → 69 ∷ 78 ∷ xs ≡ closing (pair xs 0) ++ drop 2 xs
spells_closing xs fit l = ap (λ t. 69 ∷ 78 ∷ t) (two_at xs fit 0 (omega arith))

eight_at : (xs : List ℕ) → Bytes xs → 9 ≤ length xs → drop 1 xs ≡ eight (fields_in xs).word ++ drop 9 xs
eight_at xs fit l =
    drop-cons xs 1 0 (omega arith) ∙ ap (λ t. get_or xs 1 0 ∷ t) (drop-cons xs 2 0 (omega arith) ∙ ap (λ t. get_or xs 2 0 ∷ t) (drop-cons xs 3 0 (omega arith) ∙ ap (λ t. get_or xs 3 0 ∷ t) (drop-cons xs 4 0 (omega arith) ∙ ap (λ t. get_or xs 4 0 ∷ t) (drop-cons xs 5 0 (omega arith) ∙ ap (λ t. get_or xs 5 0 ∷ t) (drop-cons xs 6 0 (omega arith) ∙ ap (λ t. get_or xs 6 0 ∷ t) (drop-cons xs 7 0 (omega arith) ∙ ap (λ t. get_or xs 7 0 ∷ t) (drop-cons xs 8 0 (omega arith)))))))) ∙ ap (λ t. t ++ drop 9 xs) (sym (eight_of _ _ _ _ _ _ _ _ (fit 2) (fit 3) (fit 4) (fit 5) (fit 6) (fit 7) (fit 8)))

pub spells_opening : (xs : List ℕ) → Bytes xs → 11 ≤ length xs → 83 ∷ 85 ∷ xs ≡ opening (fields_in xs) ++ drop 11 xs
spells_opening xs fit l =
    ap (λ t. 83 ∷ 85 ∷ t) (drop-cons xs 0 0 (omega arith) ∙ ap (λ t. get_or xs 0 0 ∷ t) (eight_at xs fit (omega arith) ∙ ap (λ t. eight (fields_in xs).word ++ t) (drop-cons xs 9 0 (omega arith) ∙ ap (λ t. get_or xs 9 0 ∷ t) (drop-cons xs 10 0 (omega arith)))))

two_as : (xs : List ℕ) → Bytes xs → (i j n : ℕ) → j ≡ suc i → n ≡ suc j → j < length xs → drop i xs ≡ two (get_or xs i 0 * 256 + get_or xs j 0) ++ drop n xs
two_as xs fit i j n e f l =
    let far : suc (suc i) ≡ n = omega arith in
    two_at xs fit i (omega arith) ∙ ap (λ x. two (get_or xs i 0 * 256 + get_or xs x 0) ++ drop (suc (suc i)) xs) (sym e) ∙ ap (λ x. two (get_or xs i 0 * 256 + get_or xs j 0) ++ drop x xs) far

-- the cites from a place on
cites_from : (xs : List ℕ) → Bytes xs → (k i : ℕ) → 4 * i + 4 * k ≤ length xs → spelled_cites (map (cite_at xs) (range_with_len i k)) ++ drop (4 * i + 4 * k) xs ≡ drop (4 * i) xs
unfolding spelled_cites
cites_from xs fit zero i l = ap (λ n. drop n xs) (omega arith)
cites_from xs fit (suc k) i l =
    let a : drop (4 * i) xs ≡ two (get_or xs (4 * i) 0 * 256 + get_or xs (4 * i + 1) 0) ++ drop (4 * i + 2) xs = two_as xs fit (4 * i) (4 * i + 1) (4 * i + 2) (omega arith) (omega arith) (omega arith) in
    let b : drop (4 * i + 2) xs ≡ two (get_or xs (4 * i + 2) 0 * 256 + get_or xs (4 * i + 3) 0) ++ drop (4 * (i + 1)) xs = two_as xs fit (4 * i + 2) (4 * i + 3) (4 * (i + 1)) (omega arith) (omega arith) (omega arith) in
    let c = cites_from xs fit k (i + 1) (omega arith) in
    let d : 4 * i + 4 * suc k ≡ 4 * (i + 1) + 4 * k = omega arith in
    ap (λ n. spelled_cites (map (cite_at xs) (range_with_len i (suc k))) ++ drop n xs) d ∙ ap (λ t. two (get_or xs (4 * i) 0 * 256 + get_or xs (4 * i + 1) 0) ++ (two (get_or xs (4 * i + 2) 0 * 256 + get_or xs (4 * i + 3) 0) ++ t)) c ∙ ap (λ t. two (get_or xs (4 * i) 0 * 256 + get_or xs (4 * i + 1) 0) ++ t) (sym b) ∙ sym a

-- bytes of whole cites spell those that the roster finds in them
module _ (xs : List ℕ) (fit : Bytes xs) (n : ℕ) (whole : length xs ≡ 4 * n) where
  quotient : length xs / 4 ≡ n
  quotient = omega arith

  remainder : length xs % 4 ≡ 0
  remainder = omega arith

  pub cites_number : length (cites_of xs) ≡ n
  cites_number = cites.spelled_length xs remainder ∙ quotient

  pub cites_spelled : spelled_cites (cites_of xs) ≡ xs
  cites_spelled =
      ap spelled_cites (cites.spelled xs remainder ∙ ap (λ k. map (cite_at xs) (range_with_len 0 k)) quotient) ∙ sym (append-nil _) ∙ ap (λ t. spelled_cites (map (cite_at xs) (range_with_len 0 n)) ++ t) (sym (drop_all (0 + 4 * n) xs (omega arith))) ∙ cites_from xs fit n 0 (omega arith)

length_take_most : (n : ℕ) (xs : List ℕ) → length (take n xs) ≤ n
length_take_most n xs = rw length-take (omega arith)

pub part_bytes : (xs : List ℕ) → Bytes xs → (i n : ℕ) → Bytes (take n (drop i xs))
part_bytes xs fit i n k =
    ⊎_elim (λ (l : k < n). let e : get_or (take n (drop i xs)) k 0 ≡ get_or xs (i + k) 0 = get_or-take n (drop i xs) k 0 l ∙ get_or-drop i xs k 0 in omega (arith, fit (i + k))) (λ (l : n ≤ k). let e : get_or (take n (drop i xs)) k 0 ≡ 0 = get_or_past (take n (drop i xs)) k 0 (omega (arith, length_take_most n (drop i xs))) in omega arith) (cases_lt k n)

pub spells_certificate : (xs : List ℕ) → Bytes xs → 5 + 4 * get_or xs 4 0 ≤ length xs → 67 ∷ 85 ∷ xs ≡ spelled (certificate_in xs) ++ drop (4 * get_or xs 4 0) (drop 5 xs)
spells_certificate xs fit l =
    let n = get_or xs 4 0 in
    let part = cites_in xs in
    let long : length part ≡ 4 * n = length-take-le (4 * n) (drop 5 xs) (omega (arith, length-drop 5 xs)) in
    let tail : drop 4 xs ≡ length (cites_of part) ∷ (spelled_cites (cites_of part) ++ drop (4 * n) (drop 5 xs)) = drop-cons xs 4 0 (omega arith) ∙ ap (λ t. n ∷ t) (sym (take-append-drop (4 * n) (drop 5 xs)) ∙ ap (λ t. t ++ drop (4 * n) (drop 5 xs)) (sym (cites_spelled part (part_bytes xs fit 5 (4 * n)) n long))) ∙ ap (λ k. k ∷ (spelled_cites (cites_of part) ++ drop (4 * n) (drop 5 xs))) (sym (cites_number part (part_bytes xs fit 5 (4 * n)) n long)) in
    ap (λ t. 67 ∷ 85 ∷ t) (two_at xs fit 0 (omega arith) ∙ ap (λ t. two (pair xs 0) ++ t) (two_at xs fit 2 (omega arith) ∙ ap (λ t. two (pair xs 2) ++ t) tail))

zeros : (k i : ℕ) → ◌≡◌ {A = ℕ} (get_or (replicate k 0) i 0) 0
zeros zero i = refl
zeros (suc k) zero = refl
zeros (suc k) (suc i) = zeros k i

-- bytes with zeros behind them hold the same bytes
get_or_padded : (xs : List ℕ) (k i : ℕ) → get_or (xs ++ replicate k 0) i 0 ≡ get_or xs i 0
get_or_padded xs k i =
    ⊎_elim (λ (l : i < length xs). get_or_append_left xs (replicate k 0) 0 i l) (λ (l : length xs ≤ i). get_or-append_right xs (replicate k 0) (length xs) i 0 refl l ∙ zeros k (i - length xs) ∙ sym (get_or_past xs i 0 l)) (cases_lt i (length xs))

-- bytes that are too few are cut short, if filled up they may stand
pub fills : (May : List ℕ → Type 0) (mark xs : List ℕ) (n : ℕ) → length xs < n → ((ys : List ℕ) → length ys ≡ n → ((i : ℕ) → get_or ys i 0 ≡ get_or xs i 0) → May (mark ++ ys)) → CutShort May (mark ++ xs)
fills May mark xs n l may =
    let filling : List ℕ = replicate (n - length xs) 0 in
    let long : length filling ≡ n - length xs = length-replicate (n - length xs) 0 in
    inr (filling, omega arith, subst May (sym (append_assoc mark xs filling)) (may (xs ++ filling) (omega (arith, length-append xs filling)) (get_or_padded xs (n - length xs))))

same_bytes : (xs ys : List ℕ) → Bytes xs → ((i : ℕ) → get_or ys i 0 ≡ get_or xs i 0) → Bytes ys
same_bytes xs ys fit same i = omega (arith, fit i, same i)

-- all of it
exactly : (a xs : List ℕ) (n : ℕ) → length xs ≡ n → (b : List ℕ) → b ≡ a ++ drop n xs → b ≡ a
exactly a xs n e b h = h ∙ ap (λ t. a ++ t) (drop_all n xs (omega arith)) ∙ append-nil a

pub short_line : (xs : List ℕ) → Bytes xs → length xs < 6 → CutShort Later (76 ∷ 78 ∷ xs)
short_line xs fit l =
    fills Later (76 ∷ 78 ∷ []) xs 6 l (λ ys long same. inl (line (row_in ys), exactly _ ys 6 long _ (spells_line ys (same_bytes xs ys fit same) (omega arith))))

pub short_closing : (xs : List ℕ) → Bytes xs → length xs < 2 → CutShort Later (69 ∷ 78 ∷ xs)
short_closing xs fit l =
    fills Later (69 ∷ 78 ∷ []) xs 2 l (λ ys long same. inr (pair ys 0, exactly _ ys 2 long _ (spells_closing ys (same_bytes xs ys fit same) (omega arith))))

pub short_opening : (xs : List ℕ) → Bytes xs → length xs < 11 → CutShort First (83 ∷ 85 ∷ xs)
short_opening xs fit l =
    fills First (83 ∷ 85 ∷ []) xs 11 l (λ ys long same. (fields_in ys, exactly _ ys 11 long _ (spells_opening ys (same_bytes xs ys fit same) (omega arith))))

pub short_certificate : (xs : List ℕ) → Bytes xs → length xs < 5 + 4 * get_or xs 4 0 → CutShort Later (67 ∷ 85 ∷ xs)
short_certificate xs fit l =
    fills Later (67 ∷ 85 ∷ []) xs (5 + 4 * get_or xs 4 0) l (λ ys long same. let all : drop (4 * get_or ys 4 0) (drop 5 ys) ≡ [] = drop_all _ (drop 5 ys) (omega (arith, length-drop 5 ys, same 4)) in inl (certificate_in ys, spells_certificate ys (same_bytes xs ys fit same) (omega (arith, same 4)) ∙ ap (λ t. spelled (certificate_in ys) ++ t) all ∙ append-nil _))

-- the two bytes of a mark
mark_is : (rest bytes more : List ℕ) (a b : ℕ) → bytes ≡ a ∷ b ∷ more → take 2 bytes ≡ take 2 rest → (get_or rest 0 0 ≡ a) × (get_or rest 1 0 ≡ b)
mark_is rest bytes more a b e h =
    let marks : take 2 rest ≡ a ∷ b ∷ [] = sym h ∙ ap (take 2) e in
    (sym (get_or-take 2 rest 0 0 (omega arith)) ∙ ap (λ t. get_or t 0 0) marks, sym (get_or-take 2 rest 1 0 (omega arith)) ∙ ap (λ t. get_or t 1 0) marks)

-- it is not the mark a b
abbrev pub Unlike : (a b : ℕ) → List ℕ → Type 0
Unlike a b rest = get_or rest 0 0 ≡ a → get_or rest 1 0 ≡ b → ⊥

pub misplaced_first : (rest : List ℕ) → 2 ≤ length rest → Unlike 83 85 rest → Misplaced First rest
misplaced_first rest long su = (long, λ bytes may same. let m = mark_is rest bytes _ 83 85 may.1 same in su m.0 m.1)

pub misplaced_later : (rest : List ℕ) → 2 ≤ length rest → Unlike 76 78 rest → Unlike 67 85 rest → Unlike 69 78 rest → Misplaced Later rest
misplaced_later rest long ln cu en = (long, λ bytes may same. ⊎_elim (λ (h : (r : Record) × (bytes ≡ spelled r)). by_record bytes h.0 h.1 same) (λ (h : (before : ℕ) × (bytes ≡ closing before)). let m = mark_is rest bytes _ 69 78 h.1 same in en m.0 m.1) may)
  where
    by_record : (bytes : List ℕ) (r : Record) → bytes ≡ spelled r → take 2 bytes ≡ take 2 rest → ⊥
    by_record bytes (line row) e same = let m = mark_is rest bytes _ 76 78 e same in ln m.0 m.1
    by_record bytes (certificate d q cites) e same = let m = mark_is rest bytes _ 67 85 e same in cu m.0 m.1

-- bytes with a mark, and what is behind it
pub behind_mark : (xs : List ℕ) (a b : ℕ) → 2 ≤ length xs → get_or xs 0 0 ≡ a → get_or xs 1 0 ≡ b → a ∷ b ∷ take (length xs - 2) (drop 2 xs) ≡ xs
behind_mark xs a b l e f =
    sym (drop-cons xs 0 0 (omega arith) ∙ ap (λ t. get_or xs 0 0 ∷ t) (drop-cons xs 1 0 (omega arith)) ∙ ap (λ x. x ∷ get_or xs 1 0 ∷ drop 2 xs) e ∙ ap (λ x. a ∷ x ∷ drop 2 xs) f ∙ ap (λ t. a ∷ b ∷ t) (sym (take_rest xs 2)))

-- the part of a certificate that is handed on holds its cites
pub cites_handed : (xs : List ℕ) (k : ℕ) → k ≡ get_or xs 4 0 → take (4 * k - 0) (take (length xs - 5) (drop 5 xs)) ≡ cites_in xs
cites_handed xs k e =
    let all : 4 * k - 0 ≡ 4 * get_or xs 4 0 = omega arith in
    ap (λ n. take n (take (length xs - 5) (drop 5 xs))) all ∙ ap (take (4 * get_or xs 4 0)) (take_rest xs 5)

pub certificate_length : (xs : List ℕ) → Bytes xs → 5 + 4 * get_or xs 4 0 ≤ length xs → length (spelled (certificate_in xs)) ≡ 7 + 4 * get_or xs 4 0
certificate_length xs fit l =
    let n = get_or xs 4 0 in
    let long : length (cites_in xs) ≡ 4 * n = length-take-le (4 * n) (drop 5 xs) (omega (arith, length-drop 5 xs)) in
    omega (arith, ap length (cites_spelled (cites_in xs) (part_bytes xs fit 5 (4 * n)) n long))
