-- The hyperperiod is the least common multiple of the periods: what it divides, and how it grows by one line.
use Rattle.std.proofs.Common.{◌≡◌, ℕ, zero, suc, ◌+◌, ◌%◌, ◌<◌, ◌≤◌, Bool, true, List, [], ◌∷◌, ◌++◌, length, get_or, take, sym, ap, ◌∙◌, subst, ⊎_elim, mod-lt, mul-pos, arith}
use Rattle.lines.proofs.Every.{every_at, every_from, every_weaker, every_push}
use Rattle.lines.proofs.First.{first_found, first_at_most, first_passes}
use Rattle.lines.proofs.Lawful.{lawful_take}
use Rattle.lines.proofs.Multiples.{mod_through, mod_of_mod, multiple_left, multiple_right}
use Rattle.lines.specs.Common.{Common, LeastCommon}
use Rattle.lines.specs.Demand.{AllLawful, no_row}
use Rattle.lines.specs.Rest.{every, divides, product, hyperperiod}
use Rattle.lines.specs.declared.row.Row.{Row}
use Rattle.std.proofs.lemmas.Bool.{cases_lt, eqb-true, eq-eqb, and_parts, and_from}
use Rattle.std.proofs.lemmas.List.{take_more, length-take, get_or-take}

-- m is a multiple of every period
abbrev pub common : List Row → ℕ → Bool
common rows m = every (divides m) rows

pub product_positive : (rows : List Row) → AllLawful rows → 1 ≤ product rows
unfolding product
product_positive [] ok = omega arith
product_positive (row ∷ rows) ok = mul-pos (let l = ok 0 (omega arith) in omega arith) (product_positive rows (λ i l. ok (suc i) (omega arith)))

pub product_common : (rows : List Row) (i : ℕ) → i < length rows → divides (product rows) (get_or rows i no_row) ≡ true
unfolding product
product_common [] i l = absurd (omega arith)
product_common (row ∷ rows) zero l = eq-eqb _ _ (multiple_left row.period (product rows))
product_common (row ∷ rows) (suc i) l =
    eq-eqb _ _ (multiple_right (get_or rows i no_row).period (product rows) row.period (eqb-true _ _ (product_common rows i (omega arith))))

module _ (rows : List Row) (ok : AllLawful rows) where
  pub hyperperiod_positive : 1 ≤ hyperperiod rows
  hyperperiod_positive = (first_found (common rows) (product rows)).positive

  pub hyperperiod_common : common rows (hyperperiod rows) ≡ true
  hyperperiod_common =
      first_passes (common rows) (product rows) (product rows) (product_positive rows ok) (omega arith) (every_from (divides (product rows)) rows (product_common rows))

  pub hyperperiod_least : (m : ℕ) → 1 ≤ m → common rows m ≡ true → hyperperiod rows ≤ m
  hyperperiod_least m one pass = first_at_most (common rows) (product rows) m one pass

  -- a multiple of the hyperperiod is a multiple of every period
  pub common_of_multiple : (m : ℕ) → m % hyperperiod rows ≡ 0 → common rows m ≡ true
  common_of_multiple m e =
      every_weaker (divides (hyperperiod rows)) (divides m) rows (λ i l at. eq-eqb _ _ (mod_through (get_or rows i no_row).period (hyperperiod rows) m (eqb-true _ _ at) e)) hyperperiod_common

  -- and the other way round
  pub multiple_of_common : (m : ℕ) → common rows m ≡ true → m % hyperperiod rows ≡ 0
  multiple_of_common m all =
      let rest = m % hyperperiod rows in
      let small : rest < hyperperiod rows = mod-lt m hyperperiod_positive in
      let kept : common rows rest ≡ true = every_from (divides rest) rows (λ i l. eq-eqb _ _ (mod_of_mod (get_or rows i no_row).period (hyperperiod rows) m (eqb-true _ _ (every_at (divides (hyperperiod rows)) rows hyperperiod_common i l)) (eqb-true _ _ (every_at (divides m) rows all i l)))) in
      ⊎_elim (λ (l : rest < 1). omega arith) (λ (g : 1 ≤ rest). let least = hyperperiod_least rest g kept in absurd (omega arith)) (cases_lt rest 1)

-- fewer tests to pass, no larger hyperperiod
pub hyperperiod_fewer : (few all : List Row) → AllLawful all → ((m : ℕ) → common all m ≡ true → common few m ≡ true) → hyperperiod few ≤ hyperperiod all
hyperperiod_fewer few all ok gives =
    first_at_most (common few) (product few) (hyperperiod all) (hyperperiod_positive all ok) (gives (hyperperiod all) (hyperperiod_common all ok))

-- one line more: the least common multiple of what was and the new period
pub hyperperiod_push : (rows : List Row) (row : Row) (m : ℕ) → AllLawful rows → AllLawful (rows ++ (row ∷ [])) → LeastCommon (hyperperiod rows) row.period m → hyperperiod (rows ++ (row ∷ [])) ≡ m
hyperperiod_push rows row m ok ok' lc =
    let more = rows ++ (row ∷ []) in
    let h = hyperperiod more in
    let parts = and_parts (common rows h) (divides h row) (sym (every_push (divides h) rows row) ∙ hyperperiod_common more ok') in
    let up : m ≤ h = lc.least h (record {
      positive = hyperperiod_positive more ok';
      left = multiple_of_common rows ok h parts.0;
      right = eqb-true _ _ parts.1;
    }) in
    let down : h ≤ m = hyperperiod_least more ok' m lc.common.positive (every_push (divides m) rows row ∙ and_from (common rows m) (divides m row) (common_of_multiple rows ok m lc.common.left) (eq-eqb _ _ lc.common.right)) in
    omega arith

-- the first lines alone
module _ (rows : List Row) (i : ℕ) (within : i < length rows) (ok : AllLawful rows) where
  abbrev row : Row
  row = get_or rows i no_row

  pub hyperperiod_more : (h m : ℕ) → h ≡ hyperperiod (take i rows) → LeastCommon h row.period m → m ≡ hyperperiod (take (i + 1) rows)
  hyperperiod_more h m e lc =
      let pushed = take_more rows i no_row within in
      let lawful = subst (λ rs. AllLawful rs) pushed (lawful_take rows (i + 1) ok) in
      let least = subst (λ x. LeastCommon x row.period m) e lc in
      sym (ap hyperperiod pushed ∙ hyperperiod_push (take i rows) row m (lawful_take rows i ok) lawful least)

  -- the hyperperiod of all is a common multiple of that of the first ones and the next period
  pub hyperperiod_over : (h : ℕ) → h ≡ hyperperiod (take i rows) → Common h row.period (hyperperiod rows)
  hyperperiod_over h e =
      let all = every_at (divides (hyperperiod rows)) rows (hyperperiod_common rows ok) in
      let fewer : common (take i rows) (hyperperiod rows) ≡ true = every_from (divides (hyperperiod rows)) (take i rows) (λ k l.
      let short = length-take i rows in
      let early : k < i = omega arith in
      rw (get_or-take i rows k no_row early) (all k (omega arith))) in
      record {
        positive = hyperperiod_positive rows ok;
        left = rw e (multiple_of_common (take i rows) (lawful_take rows i ok) (hyperperiod rows) fewer);
        right = eqb-true _ _ (all i within);
      }
