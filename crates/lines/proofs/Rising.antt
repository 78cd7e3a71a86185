-- The next deadline of a line, and how the list of deadlines grows from one deadline to the next.
use Rattle.std.proofs.Common.{◌≡◌, ℕ, zero, suc, ◌+◌, ◌-◌, ◌*◌, ◌/◌, ◌%◌, ◌<◌, ◌≤◌, min, Bool, true, false, List, [], ◌∷◌, ◌++◌, length, map, fold, get_or, refl, sym, ap, ◌∙◌, ⊎_elim, mod-lt, div-add-mod', arith}
use Rattle.lines.proofs.Every.{some_at, some_none}
use Rattle.lines.proofs.Least.{least_below, least_found}
use Rattle.lines.specs.Demand.{Lawful, AllLawful, no_row, count}
use Rattle.lines.specs.Rest.{some, due, deadline_after, deadlines}
use Rattle.lines.specs.declared.row.Row.{Row}
use Rattle.std.proofs.lemmas.List.{length_push, length-map, get_or-map}
use Rattle.std.proofs.lemmas.Bool.{cases_lt}
use lib.Arith.{digits_mod}
use native.Mathlib.Nat.{mul-mod_left}

-- a line's first job
module _ (row : Row) (ok : Lawful row) (t : ℕ) (early : t < row.deadline) where
  after_early : deadline_after row t ≡ row.deadline
  after_early = grind arith

-- a later one: q jobs lie a period or more behind t
module _ (row : Row) (ok : Lawful row) (t : ℕ) (late : row.deadline ≤ t) where
  abbrev turns : ℕ
  turns = (t - row.deadline) / row.period

  after_late : deadline_after row t ≡ suc turns * row.period + row.deadline
  after_late = grind arith

  turns_split : turns * row.period + (t - row.deadline) % row.period ≡ t - row.deadline
  turns_split = div-add-mod' (t - row.deadline) row.period

  turns_rest : (t - row.deadline) % row.period < row.period
  turns_rest = mod-lt (t - row.deadline) (omega arith)

module _ (row : Row) (ok : Lawful row) (t : ℕ) where
  pub after_later : t < deadline_after row t
  after_later =
      ⊎_elim (λ (e : t < row.deadline). omega (arith, after_early row ok t e)) (λ (l : row.deadline ≤ t). omega (arith, after_late row ok t l, turns_split row ok t l, turns_rest row ok t l)) (cases_lt t row.deadline)

  pub after_due : due (deadline_after row t) row ≡ true
  after_due =
      let whole : (deadline_after row t - row.deadline) % row.period ≡ 0 = ap (λ x. x % row.period) (omega arith) ∙ mul-mod_left (count row t) row.period in
      let late : row.deadline ≤ deadline_after row t = omega arith in
      grind arith

  pub after_first : (k : ℕ) → t < k → k < deadline_after row t → due k row ≡ false
  after_first k l m =
      ⊎_elim (λ (e : k < row.deadline). grind arith) (λ (late-k : row.deadline ≤ k).
      ⊎_elim (λ (e : t < row.deadline). absurd (omega (arith, after_early row ok t e))) (λ (late-t : row.deadline ≤ t).
      let q = turns row ok t late-t in
      let before = after_late row ok t late-t in
      let split = turns_split row ok t late-t in
      let rest = turns_rest row ok t late-t in
      let r = k - row.deadline - q * row.period in
      let at : k - row.deadline ≡ q * row.period + r = omega arith in
      let small : r < row.period = omega arith in
      let some-r : r ≡ 0 → ⊥ = λ z. omega arith in
      let left : (k - row.deadline) % row.period ≡ r = ap (λ x. x % row.period) at ∙ digits_mod q small in
      grind arith) (cases_lt t row.deadline)) (cases_lt k row.deadline)

-- m is the least of the lines' next deadlines
module _ (rows : List Row) (after m : ℕ) (ok : AllLawful rows) (least : (i : ℕ) → i < length rows → m ≤ deadline_after (get_or rows i no_row) after) where
  pub quiet_before : (k : ℕ) → after < k → k < m → some (due k) rows ≡ false
  quiet_before k l n =
      some_none (due k) rows (λ i w. after_first (get_or rows i no_row) (ok i w) after k l (omega (arith, least i w)))

  pub least_due : (i : ℕ) → i < length rows → m ≡ deadline_after (get_or rows i no_row) after → (after < m) × (some (due m) rows ≡ true)
  least_due i w is =
      let row = get_or rows i no_row in
      rw is (after_later row (ok i w) after, some_at (due (deadline_after row after)) rows i w (after_due row (ok i w) after))

-- the least of an instant behind the last and the lines' next deadlines is the first deadline, or there is none up to the last
module _ (rows : List Row) (after past : ℕ) (ok : AllLawful rows) where
  abbrev next : Row → ℕ
  next row = deadline_after row after

  abbrev pub soonest : ℕ
  soonest = fold min past (map next rows)

  at : (i : ℕ) → i < length rows → get_or (map next rows) i 0 ≡ next (get_or rows i no_row)
  at i l = get_or-map next rows i no_row 0 l

  all : (i : ℕ) → i < length rows → soonest ≤ next (get_or rows i no_row)
  all i l = omega (arith, least_below past (map next rows) (suc i) (omega (arith, length-map rows next)), at i l)

  pub soonest_before : (k : ℕ) → after < k → k < soonest → some (due k) rows ≡ false
  soonest_before = quiet_before rows after soonest ok all

  pub soonest_due : soonest < past → (after < soonest) × (some (due soonest) rows ≡ true)
  soonest_due l = found (least_found past (map next rows))
    where
      found : (i : ℕ) × (i < length (past ∷ map next rows)) × (get_or (past ∷ map next rows) i 0 ≡ soonest) → (after < soonest) × (some (due soonest) rows ≡ true)
      found (zero, w, is) = absurd (omega arith)
      found (suc i, w, is) =
          let there : i < length rows = omega (arith, length-map rows next) in
          least_due rows after soonest ok all i there (sym is ∙ at i there)

-- no line has a deadline after a and up to b
abbrev pub Quiet : List Row → ℕ → ℕ → Type 0
Quiet rows a b = (k : ℕ) → a < k → k ≤ b → some (due k) rows ≡ false

module _ (rows : List Row) where
  pub deadlines_still : (n : ℕ) → some (due (suc n)) rows ≡ false → deadlines rows (suc n) ≡ deadlines rows n
  unfolding deadlines
  deadlines_still n e = grind arith

  pub deadlines_due : (n : ℕ) → some (due (suc n)) rows ≡ true → deadlines rows (suc n) ≡ deadlines rows n ++ (suc n ∷ [])
  unfolding deadlines
  deadlines_due n e = rw e refl

  -- between two deadlines the list stays as it is
  pub deadlines_quiet : (a b : ℕ) → a ≤ b → Quiet rows a b → deadlines rows b ≡ deadlines rows a
  deadlines_quiet a zero le quiet = ap (deadlines rows) (omega arith)
  deadlines_quiet a (suc b) le quiet =
      let shorter = λ (h : a ≤ b). deadlines_quiet a b h (λ k l m. quiet k l (omega arith)) in
      ⊎_elim (λ (l : a < suc b). deadlines_still b (quiet (suc b) l (omega arith)) ∙ shorter (omega arith)) (λ (g : suc b ≤ a). ap (deadlines rows) (omega arith)) (cases_lt a (suc b))

  -- and a deadline is added when it comes
  pub deadlines_next : (a d : ℕ) → a < d → some (due d) rows ≡ true → ((k : ℕ) → a < k → k < d → some (due k) rows ≡ false) → deadlines rows d ≡ deadlines rows a ++ (d ∷ [])
  deadlines_next a zero l e none = absurd (omega arith)
  deadlines_next a (suc d) l e none =
      deadlines_due d e ∙ ap (λ ds. ds ++ (suc d ∷ [])) (deadlines_quiet a d (omega arith) (λ k m n. none k m (omega arith)))

  deadlines_one_more : (n : ℕ) (b : Bool) → some (due (suc n)) rows ≡ b → length (deadlines rows n) ≤ length (deadlines rows (suc n))
  deadlines_one_more n true e = omega (arith, ap length (deadlines_due n e), length_push (deadlines rows n) (suc n))
  deadlines_one_more n false e = omega (arith, ap length (deadlines_still n e))

  -- a longer time has no fewer deadlines
  pub deadlines_longer : (a b : ℕ) → a ≤ b → length (deadlines rows a) ≤ length (deadlines rows b)
  deadlines_longer a zero le = omega (arith, ap (λ n. length (deadlines rows n)) (the_same le))
    where
      the_same : a ≤ zero → a ≡ zero
      the_same h = omega arith
  deadlines_longer a (suc b) le =
      let shorter = λ (h : a ≤ b). deadlines_longer a b h in
      ⊎_elim (λ (l : a < suc b). let more = deadlines_one_more b (some (due (suc b)) rows) refl in let ih = shorter (omega arith) in omega arith) (λ (g : suc b ≤ a). let same : a ≡ suc b = omega arith in omega (arith, ap (λ n. length (deadlines rows n)) same)) (cases_lt a (suc b))
