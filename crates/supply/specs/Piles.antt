-- A share over a lawful supply is lawful: from the laws of the supply below and of the pattern.
-- Lemmas: they stand in specs/ since the laws of an `impl` cite them, and nobody has to believe them.
use Rattle.std.specs.Prelude.{◌≡◌, ℕ, suc, ◌+◌, ◌-◌, ◌*◌, ◌/◌, ◌%◌, ◌<◌, ◌≤◌}
use Rattle.std.proofs.Common.{ap, ◌∙◌, mod-lt, arith}
use Rattle.std.proofs.Math.Nat.{mul-pos}
use Rattle.std.proofs.lemmas.Nat.{mul-add-lt, div-mul-add, mod-mul-add}
use Rattle.std.proofs.lemmas.Bool.{cond_both}
use Rattle.supply.specs.Least.{counted_more}
use Rattle.supply.specs.Patterns.{pattern_bounds, sure_attained, sure_fewest, worst_start}
use Rattle.supply.specs.Rows.{from_window, upto_counting}
use Rattle.supply.specs.Meaning.{Meaning, Counting, Counts, Windows, Attained, Lawful}
use Rattle.supply.specs.Row.{from}
use Rattle.supply.specs.declared.pattern.Pattern.{Pattern}
use Rattle.supply.specs.Share.{pattern, shared, share, few_phases, LawfulPattern}

-- more slots are counted no lower
counted_up : (f : ℕ → ℕ) → Counting f → (x y : ℕ) → x ≤ y → f x ≤ f y
counted_up f c x y up = let more : x + (y - x) ≡ y = omega arith in omega (arith, counted_more f c x (y - x), ap f more)

-- to count what was counted is to count
counting_through : (f g : ℕ → ℕ) → Counting f → Counting g → Counting (λ n. f (g n))
counting_through f g cf cg =
    record {
      starts = ap f cg.starts ∙ cf.starts;
      keeps = λ n. counted_up f cf (g n) (g (suc n)) (cg.keeps n);
      climbs = λ n. omega (arith, counted_up f cf (g (suc n)) (suc (g n)) (cg.climbs n), cf.climbs (g n));
    }

-- the phase that the share answers is one of its own
pub worst_there : (N F worst start : ℕ) → worst < N → start < F → worst + N * start < N * F
worst_there N F worst start below there = omega (arith, mul-add-lt start N worst F there below)

module _ (m : Meaning) (law : Lawful m) (S F : ℕ) (lawful : LawfulPattern S F) where
  some_below : 0 < m.phases
  some_below = law.counts.0

  -- a phase of the share is a phase below and a start of the pattern
  phase_below : (p : ℕ) → p % m.phases < m.phases
  phase_below p = mod-lt p some_below

  shared_counts : Counts (shared S F m)
  shared_counts = (
    mul-pos some_below (omega (arith, pattern_bounds S F lawful)),
    λ p there. counting_through (from (pattern S F) (p / m.phases)) (m.count (p % m.phases)) (upto_counting _) (law.counts.1 (p % m.phases) (phase_below p)),
  )

  -- of the slots that n slots are sure to hold below, the pattern takes as many as it is sure to, wherever it stands by then
  shared_windows : Windows (shared S F m)
  shared_windows p a n there =
      let r = p / m.phases in
      let q = p % m.phases in
      let x = m.count q a in
      let y = m.least n in
      let held : x + y ≤ m.count q (a + n) = law.windows q a n (phase_below p) in
      omega (
        arith,
        counted_up (from (pattern S F) r) (upto_counting _) (x + y) (m.count q (a + n)) held,
        from_window (pattern S F) (omega (arith, pattern_bounds S F lawful)) r x y,
        sure_fewest S F lawful y,
      )

  -- the worst phase below, with the pattern at its worst start
  worst_digits : (n : ℕ) → m.worst n + m.phases * (S % F) ≡ S % F * m.phases + m.worst n
  worst_digits n = omega arith

  shared_attained : Attained (shared S F m)
  shared_attained n =
      let there = (law.attained n).0 in
      let start : (m.worst n + m.phases * (S % F)) / m.phases ≡ S % F = ap (λ p. p / m.phases) (worst_digits n) ∙ div-mul-add (S % F) m.phases (m.worst n) there in
      let below : (m.worst n + m.phases * (S % F)) % m.phases ≡ m.worst n = ap (λ p. p % m.phases) (worst_digits n) ∙ mod-mul-add (S % F) m.phases (m.worst n) there in (
        worst_there m.phases F (m.worst n) (S % F) there (worst_start S F lawful),
        rw (start, below, (law.attained n).1) (sure_attained S F lawful (m.least n)),
      )

  pub shared_lawful : Lawful (shared S F m)
  shared_lawful = record { counts = shared_counts; windows = shared_windows; attained = shared_attained }

  pub share_lawful : Lawful (share S F m)
  share_lawful = cond_both (few_phases m F) (shared S F m) m Lawful (λ few. shared_lawful) (λ many. law)

-- the same, of the pattern that a share holds
pub share_laws : {m : Meaning} → Lawful m → (p : Pattern) → Lawful (share p.given p.of m)
share_laws {m} law p = share_lawful m law p.given p.of p.lawful
