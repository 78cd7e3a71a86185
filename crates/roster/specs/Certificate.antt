-- The checks of a certificate, in their order. Assumes nothing.
use Rattle.std.specs.Prelude.{◌≡◌, ℕ, suc, ◌+◌, ◌*◌, ◌/◌, ◌%◌, ◌≤◌, Bool, false, cond, not, ◌||◌, List, [], ◌∷◌, ◌++◌, map, length, ◌==◌, nat_lt, slice_index}
use Rattle.analysis.specs.Watching.{Cite, weighed}
use Rattle.lines.specs.Calls.{outside}
use Rattle.lines.specs.Demand.{count}
use Rattle.lines.specs.declared.row.Row.{Row}
use Rattle.refusal.specs.Answers.{Check, check, check_at}
use Rattle.refusal.specs.declared.reason.Reason.TheVariants.{NotWatched, CertificateOutOfRange, CountNotCovered, SupplyNotCovered}
use Rattle.std.specs.List.{range_with_len}
use Rattle.supply.specs.Meaning.{Meaning}

-- A number in two bytes, high byte first.
abbrev pub two : (high low : ℕ) → ℕ
two high low = high * 256 + low

-- The cite that stands at place k of bytes, four for each: its deadline and its weight.
abbrev pub cite_at : List ℕ → ℕ → Cite
cite_at bytes k = record {
  deadline = two (slice_index bytes (4 * k)) (slice_index bytes (4 * k + 1));
  weight = two (slice_index bytes (4 * k + 2)) (slice_index bytes (4 * k + 3));
}

-- The cites that bytes spell; none where they are not made of whole cites.
abbrev pub cites_of : List ℕ → List Cite
cites_of bytes = cond (length bytes % 4 == 0) (map (cite_at bytes) (range_with_len 0 (length bytes / 4))) []

-- Bytes that spell at most 8 cites, and nothing else.
abbrev pub Whole : List ℕ → Type 0
Whole bytes = (length bytes % 4 ≡ 0) × (length bytes ≤ 32)

-- d is one of the list.
unfoldable pub listed : ℕ → List ℕ → Bool
listed d [] = false
listed d (x ∷ xs) = x == d || listed d xs

-- A check of each member of a list, by place from a first one on.
unfoldable pub each : {X : Type 0} → (ℕ → X → Check) → (first : ℕ) → List X → List Check
each one first [] = []
each one first (x ∷ xs) = one first x ∷ each one (suc first) xs

-- The weight of a cite is out of range.
abbrev pub weight_check : ℕ → Cite → Check
weight_check place cite = check_at place (outside 1 1000 cite.weight) CertificateOutOfRange

-- A cite is not watched, or it is the deadline d that is to leave.
abbrev pub cited_check : List ℕ → (d : ℕ) → ℕ → Cite → Check
cited_check watched d place cite = check_at place (not (listed cite.deadline watched) || cite.deadline == d) NotWatched

-- The cites do not cover the count of a line at d.
abbrev pub count_check : (d divisor : ℕ) → List Cite → ℕ → Row → Check
count_check d divisor cites place row = check_at place (nat_lt (weighed (count row) cites) (divisor * count row d)) CountNotCovered

-- The cites ask of the supply more than d does.
abbrev pub supply_check : Meaning → (d divisor : ℕ) → List Cite → Check
supply_check m d divisor cites = check (nat_lt (divisor * m.least d) (weighed m.least cites)) SupplyNotCovered

-- The divisor, the number of cites or a weight is out of range.
abbrev pub figure_checks : (divisor : ℕ) → List Cite → List Check
figure_checks divisor cites =
    check (outside 1 1000 divisor) CertificateOutOfRange ∷
    check (outside 1 8 (length cites)) CertificateOutOfRange ∷
    each weight_check 1 cites

-- All checks: the figures, then what is watched, then the counts, line by line, and the supply. Cites are numbered from 1.
abbrev pub cut_checks : Meaning → List Row → List ℕ → (d divisor : ℕ) → List Cite → List Check
cut_checks m rows watched d divisor cites =
    figure_checks divisor cites ++
    (check (not (listed d watched)) NotWatched ∷
    (each (cited_check watched d) 1 cites ++
    (each (count_check d divisor cites) 0 rows ++
    (supply_check m d divisor cites ∷ []))))
