-- What the checks of a list leave: how one job after another passes, and what a list keeps whose jobs all did.
use Rattle.std.proofs.Common.{◌≡◌, ℕ, zero, suc, ◌+◌, ◌<◌, ◌≤◌, max, Bool, true, false, ◌&&◌, ◌||◌, eqb, ltb, leb, ◌⊎◌, List, [], ◌∷◌, ◌++◌, length, get_or, set, replicate, Some, None, Option, sym, refl, ap, ◌∙◌, subst, inl, inr, ⊎_elim, add-one, arith}
use Rattle.edf.specs.Jobs.{Job as Timed, job, DueBy}
use Rattle.lines.specs.Calls.{outside}
use Rattle.lines.specs.Demand.{Lawful}
use Rattle.lines.specs.declared.row.Row.{Row}
use Rattle.refusal.proofs.Checks.{refusal_behind, refusal_first}
use Rattle.refusal.specs.Answers.{Check, refusal_of}
use Rattle.refusal.specs.declared.Refusal.{Refusal}
use Rattle.refusal.specs.declared.layer.Layer.TheVariants.{Run}
use Rattle.refusal.specs.declared.reason.Reason.TheVariants.{ListTooShort}
use Rattle.run.specs.Checks.{out_of_range, in_front, near, too_soon, checks_of, job_checks, first_checks, list_checks, run_checks}
use Rattle.run.specs.Holding.{Keeping}
use Rattle.run.specs.Timed.{at, figures, line_at, timed, timed_list, largest, horizon}
use Rattle.run.specs.declared.job.Job.{Job}
use Rattle.std.proofs.lemmas.List.{get_or-set_same, get_or-set_other, get_or_past, get_or-replicate, get_or-map, length-map, length-set}
use Rattle.std.proofs.lemmas.Bool.{cases_lt, cases_eq, or_parts, ltb-false, lt-ltb, le-ltb, cond-true, cond-false}
use native.Mathlib.Decide.{le_ind}

-- the job at a place as a timed one
pub timed_at : (rows : List Row) (jobs : List Job) (k : ℕ) → k < length jobs → job (timed_list rows jobs) k ≡ timed rows (at jobs k)
timed_at rows jobs k l = get_or-map (timed rows) jobs k _ _ l

pub timed_there : (rows : List Row) (jobs : List Job) (k : ℕ) → k < length jobs → k < length (timed_list rows jobs)
timed_there rows jobs k l = omega (arith, length-map jobs (timed rows))

-- checks of which none fails, in two parts
none_parts : (cs ds : List Check) → refusal_of (cs ++ ds) ≡ None → (refusal_of cs ≡ None) × (refusal_of ds ≡ None)
none_parts cs ds e = go (refusal_of cs) refl
  where
    go : (o : Option Refusal) → refusal_of cs ≡ o → (refusal_of cs ≡ None) × (refusal_of ds ≡ None)
    go None h = (h, sym (refusal_behind cs ds h) ∙ e)
    go (Some r) h = absurd (let first = refusal_first cs ds r h in grind arith)

module _ (rows : List Row) (jobs : List Job) where
  -- the refusal of the job at place n, where those before it passed
  pub first_refusal : (n m : ℕ) (e : Refusal) → n < m → refusal_of (first_checks rows jobs n) ≡ None → refusal_of (job_checks rows jobs n) ≡ Some e → refusal_of (first_checks rows jobs m) ≡ Some e
  unfolding first_checks
  first_refusal n m e l passed refused =
      le_ind (λ i. refusal_of (first_checks rows jobs i) ≡ Some e)
      (refusal_behind (first_checks rows jobs n) (job_checks rows jobs n) passed ∙ refused)
      (λ i from below. refusal_first (first_checks rows jobs i) (job_checks rows jobs i) e below)
      m l

  -- one job more that passes
  first_passed : (n : ℕ) → refusal_of (first_checks rows jobs n) ≡ None → refusal_of (job_checks rows jobs n) ≡ None → refusal_of (first_checks rows jobs (suc n)) ≡ None
  unfolding first_checks
  first_passed n passed here = refusal_behind (first_checks rows jobs n) (job_checks rows jobs n) passed ∙ here

  -- each job of a list that passed has passed
  pub passed_at : (n : ℕ) → refusal_of (first_checks rows jobs n) ≡ None → (k : ℕ) → k < n → refusal_of (job_checks rows jobs k) ≡ None
  unfolding first_checks
  passed_at zero passed k l = absurd (omega arith)
  passed_at (suc n) passed k l =
      let parts = none_parts (first_checks rows jobs n) (job_checks rows jobs n) passed in
      ⊎_elim (λ (m : k < n). passed_at n parts.0 k m)
      (λ (m : n ≤ k). let last : n ≡ k = omega arith in subst (λ j. refusal_of (job_checks rows jobs j) ≡ None) last parts.1)
      (cases_lt k n)

-- The line of a job is one of 8, and lawful.
abbrev pub Kept : List Row → List Job → ℕ → Type 0
Kept rows jobs k = (line_at jobs k < 8) × Lawful (figures rows (line_at jobs k))

-- What is known of the first n jobs once they passed: their lines, the last release, from when on each line may release again, and the largest deadline.
pub record Passed (rows : List Row) (jobs : List Job) (n last : ℕ) (free : List ℕ) (reach : ℕ) : Type 0 where
  pub room : length free ≡ 8
  pub front : last ≡ in_front jobs n
  pub lines : (i r : ℕ) → near rows jobs i n r ≡ ltb r (get_or free i 0)
  pub reached : reach ≡ largest rows jobs n
  pub within : reach ≤ 32000
  pub passed : refusal_of (first_checks rows jobs n) ≡ None
  pub kept : (k : ℕ) → k < n → Kept rows jobs k

-- three checks of which none fails
three_pass : (a b c : Bool) (x y z : Refusal) → refusal_of (record { fails = a; refusal = x } ∷ record { fails = b; refusal = y } ∷ record { fails = c; refusal = z } ∷ []) ≡ None → (a ≡ false) × (b ≡ false) × (c ≡ false)
three_pass true b c x y z e = absurd (grind arith)
three_pass false true c x y z e = absurd (grind arith)
three_pass false false true x y z e = absurd (grind arith)
three_pass false false false x y z e = (refl, refl, refl)

-- What a job keeps that passed its checks.
record Fit (rows : List Row) (jobs : List Job) (k : ℕ) : Type 0 where
  ordered : in_front jobs k ≤ (at jobs k).release
  wanting : 0 < (at jobs k).cost
  far : near rows jobs (at jobs k).line k (at jobs k).release ≡ false
  due : (timed rows (at jobs k)).deadline ≤ 32000

job_fit : (rows : List Row) (jobs : List Job) (k : ℕ) → refusal_of (job_checks rows jobs k) ≡ None → Fit rows jobs k
job_fit rows jobs k passes =
    let passed = three_pass (out_of_range rows (at jobs k)) (too_soon rows jobs k) (ltb 32000 (timed rows (at jobs k)).deadline) _ _ _ passes in
    let soon = or_parts (ltb (at jobs k).release (in_front jobs k)) (near rows jobs (at jobs k).line k (at jobs k).release) passed.1 in
    let in_range = or_parts (leb (length rows) (at jobs k).line) (outside 1 (figures rows (at jobs k).line).cost (at jobs k).cost) passed.0 in
    record {
      wanting = let some = ltb-false (at jobs k).cost 1 (or_parts (ltb (at jobs k).cost 1) _ in_range.1).0 in omega arith;
      ordered = ltb-false (at jobs k).release (in_front jobs k) soon.0;
      far = soon.1;
      due = ltb-false 32000 (timed rows (at jobs k)).deadline passed.2;
    }

zeros : (i : ℕ) → ◌≡◌ {A = ℕ} (get_or (replicate 8 0) i 0) 0
zeros i =
    ⊎_elim (λ (l : i < 8). get_or-replicate 8 i 0 0 l) (λ (m : 8 ≤ i). get_or_past (replicate 8 0) i 0 m) (cases_lt i 8)

module _ (rows : List Row) (jobs : List Job) where
  pub passed_none : Passed rows jobs 0 0 (replicate 8 0) 0
  unfolding near largest first_checks
  passed_none =
      record { room = refl; front = refl; lines = λ i r. sym (le-ltb r _ (omega (arith, zeros i))); reached = refl; within = omega arith; passed = refl; kept = λ k l. absurd (omega arith) }

  module _ (n last : ℕ) (free : List ℕ) (reach : ℕ) (state : Passed rows jobs n last free reach) where
    -- the checks that are made are those of the job
    pub checks_same : checks_of rows (at jobs n) n (ltb (at jobs n).release last || ltb (at jobs n).release (get_or free (at jobs n).line 0)) ≡ job_checks rows jobs n
    checks_same =
        ap (λ soon. checks_of rows (at jobs n) n soon)
        (ap (λ r. ltb (at jobs n).release r || ltb (at jobs n).release (get_or free (at jobs n).line 0)) state.front
        ∙ ap (λ b. ltb (at jobs n).release (in_front jobs n) || b) (sym (state.lines (at jobs n).line (at jobs n).release)))

    module _ (passes : refusal_of (job_checks rows jobs n) ≡ None) (kept : Kept rows jobs n) where
      -- a line may release again a period after the job, and not earlier than before
      lines_more : (i r : ℕ) → near rows jobs i (suc n) r ≡ ltb r (get_or (set free (at jobs n).line ((at jobs n).release + (figures rows (at jobs n).line).period)) i 0)
      unfolding near
      lines_more i r = by_line (cases_eq (at jobs n).line i)
        where
          by_line : ((at jobs n).line ≡ i) ⊎ ((at jobs n).line ≡ i → ⊥) → near rows jobs i (suc n) r ≡ ltb r (get_or (set free (at jobs n).line ((at jobs n).release + (figures rows (at jobs n).line).period)) i 0)
          by_line (inl here) =
              let before = state.lines i r in
              let far : ltb (at jobs n).release (get_or free (at jobs n).line 0) ≡ false = sym (state.lines (at jobs n).line (at jobs n).release) ∙ (job_fit rows jobs n passes).far in
              let still = ltb-false (at jobs n).release (get_or free (at jobs n).line 0) far in
              let now = get_or-set_same free (at jobs n).line ((at jobs n).release + (figures rows (at jobs n).line).period) 0 (omega (arith, state.room, kept.0)) in
              let same = ap (λ j. get_or free j 0) here in
              let period = ap (λ j. (figures rows j).period) here in
              let index = ap (λ j. get_or (set free (at jobs n).line ((at jobs n).release + (figures rows (at jobs n).line).period)) j 0) here in
              grind arith
          by_line (inr other) =
              let before = state.lines i r in
              let still = get_or-set_other free (at jobs n).line i ((at jobs n).release + (figures rows (at jobs n).line).period) 0 (λ e. other (sym e)) in
              grind arith

      passed_next : Passed rows jobs (suc n) (at jobs n).release (set free (at jobs n).line ((at jobs n).release + (figures rows (at jobs n).line).period)) (max ((at jobs n).release + (figures rows (at jobs n).line).deadline) reach)
      unfolding largest
      passed_next =
          let due = (job_fit rows jobs n passes).due in
          record {
            room = length-set free _ _ ∙ state.room;
            front = refl;
            lines = lines_more;
            reached = omega (arith, state.reached);
            within = omega (arith, state.within);
            passed = first_passed rows jobs n state.passed passes;
            kept = λ k l. ⊎_elim (λ (m : k < n). state.kept k m) (λ (m : n ≤ k). let last : n ≡ k = omega arith in subst (Kept rows jobs) last kept) (cases_lt k n);
          }

      -- the same, by what the code computes
      pub passed_more : (last' : ℕ) (free' : List ℕ) (reach' : ℕ) → last' ≡ (at jobs n).release → free' ≡ set free (at jobs n).line ((at jobs n).release + (figures rows (at jobs n).line).period) → reach' ≡ max (timed rows (at jobs n)).deadline reach → Passed rows jobs (n + 1) last' free' reach'
      passed_more last' free' reach' a b c = rw (add-one n, a, b, c) passed_next

  -- every job is due by the largest deadline
  pub largest_at : (n k : ℕ) → k < n → (timed rows (at jobs k)).deadline ≤ largest rows jobs n
  unfolding largest
  largest_at zero k l = absurd (omega arith)
  largest_at (suc n) k l =
      ⊎_elim (λ (m : k < n). let below = largest_at n k m in omega arith)
      (λ (m : n ≤ k). let last : n ≡ k = omega arith in omega (arith, ap (λ j. (timed rows (at jobs j)).deadline) last))
      (cases_lt k n)

  pub due_by_horizon : DueBy (timed_list rows jobs) (horizon rows jobs)
  due_by_horizon k l =
      let there : k < length jobs = omega (arith, length-map jobs (timed rows)) in
      omega (arith, ap (λ (t : Timed). t.deadline) (timed_at rows jobs k there), largest_at (length jobs) k there)

  -- an instant that is not near a line is a period or more after each of its jobs
  far_at : (i n r : ℕ) → near rows jobs i n r ≡ false → (j : ℕ) → j < n → (at jobs j).line ≡ i → (at jobs j).release + (figures rows i).period ≤ r
  unfolding near
  far_at i zero r far j l e = absurd (omega arith)
  far_at i (suc n) r far j l e =
      let parts = or_parts (near rows jobs i n r) (eqb (at jobs n).line i && ltb r ((at jobs n).release + (figures rows i).period)) far in
      ⊎_elim (λ (m : j < n). far_at i n r parts.0 j m e)
      (λ (m : n ≤ j). let last : n ≡ j = omega arith in let here = parts.1 in let own = ap (λ k. (at jobs k).line) last in let release = ap (λ k. (at jobs k).release) last in grind arith)
      (cases_lt j n)

  module _ (passed : refusal_of (first_checks rows jobs (length jobs)) ≡ None) (kept : (k : ℕ) → k < length jobs → Kept rows jobs k) where
    fit : (k : ℕ) → k < length jobs → Fit rows jobs k
    fit k there = job_fit rows jobs k (passed_at rows jobs (length jobs) passed k there)

    in_order : (j k : ℕ) → j ≤ k → k < length jobs → (at jobs j).release ≤ (at jobs k).release
    in_order j k le there =
        le_ind (λ i. i < length jobs → (at jobs j).release ≤ (at jobs i).release) (λ l. omega arith)
        (λ i from below l. omega (arith, below (omega arith), (fit (suc i) l).ordered)) k le there

    -- a list that passed keeps to its lines
    pub passed_keeping : Keeping (timed_list rows jobs) (line_at jobs)
    passed_keeping =
        record {
          lined = λ k l. (kept k (in_list k l)).0;
          ordered = λ j k le l.
              let there = in_list k l in
              let first = ap (λ (t : Timed). t.release) (timed_at rows jobs j (omega arith)) in
              let second = ap (λ (t : Timed). t.release) (timed_at rows jobs k there) in
              omega (arith, in_order j k le there);
          wanting = λ k l.
              let there = in_list k l in
              let cost = ap (λ (t : Timed). t.cost) (timed_at rows jobs k there) in
              omega (arith, (fit k there).wanting);
          lasting = λ k l.
              let there = in_list k l in
              let release = ap (λ (t : Timed). t.release) (timed_at rows jobs k there) in
              let deadline = ap (λ (t : Timed). t.deadline) (timed_at rows jobs k there) in
              omega (arith, (kept k there).1.0);
          apart = λ j k l there same. apart j k l (in_list k there) same;
        }
      where
        in_list : (k : ℕ) → k < length (timed_list rows jobs) → k < length jobs
        in_list k l = omega (arith, length-map jobs (timed rows))

        apart : (j k : ℕ) → j < k → k < length jobs → line_at jobs j ≡ line_at jobs k → (job (timed_list rows jobs) j).deadline ≤ (job (timed_list rows jobs) k).release
        apart j k l there same =
            let due = ap (λ (t : Timed). t.deadline) (timed_at rows jobs j (omega arith)) in
            let release = ap (λ (t : Timed). t.release) (timed_at rows jobs k there) in
            let period = far_at (at jobs k).line k (at jobs k).release (fit k there).far j l same in
            let own = ap (λ i. (figures rows i).deadline) same in
            omega (arith, (kept k there).1.1)

module _ (rows : List Row) (jobs : List Job) where
  -- a list that is taken has few jobs, and all passed
  pub list_taken : refusal_of (list_checks rows jobs) ≡ None → (length jobs ≤ 2048) × (refusal_of (first_checks rows jobs (length jobs)) ≡ None)
  list_taken taken = go (ltb 2048 (length jobs)) refl
    where
      go : (b : Bool) → ltb 2048 (length jobs) ≡ b → (length jobs ≤ 2048) × (refusal_of (first_checks rows jobs (length jobs)) ≡ None)
      go true many = absurd (grind arith)
      go false few = (ltb-false 2048 (length jobs) few, sym (cond-false (ltb 2048 (length jobs)) _ _ few) ∙ taken)

  -- a list of few jobs is refused as its jobs are
  pub list_refused : length jobs ≤ 2048 → refusal_of (list_checks rows jobs) ≡ refusal_of (first_checks rows jobs (length jobs))
  list_refused few = cond-false (ltb 2048 (length jobs)) _ _ (le-ltb 2048 (length jobs) few)

  module _ (room : ℕ) (taken : refusal_of (list_checks rows jobs) ≡ None) where
    -- a slot list that is too short for a list that is taken, and one that is long enough
    pub too_short : room < horizon rows jobs → refusal_of (run_checks rows jobs room) ≡ Some (record { reason = ListTooShort; layer = Run; place = horizon rows jobs })
    too_short less =
        refusal_behind (list_checks rows jobs) _ taken ∙ cond-true (ltb room (horizon rows jobs)) _ _ (lt-ltb room (horizon rows jobs) less)

    pub long_enough : horizon rows jobs ≤ room → refusal_of (run_checks rows jobs room) ≡ None
    long_enough reaches =
        refusal_behind (list_checks rows jobs) _ taken ∙ cond-false (ltb room (horizon rows jobs)) _ _ (le-ltb room (horizon rows jobs) reaches)
