-- Lines that are all among others: they rest no later, and their full list is contained in that of the others.
use Rattle.std.proofs.Common.{◌≡◌, ℕ, zero, suc, ◌≤◌, Bool, true, false, List, length, sym, refl, ap, ◌∙◌, arith}
use Rattle.lines.proofs.Every.{every_at, every_from, some_at, some_place}
use Rattle.lines.proofs.Hyperperiod.{hyperperiod_fewer}
use Rattle.lines.proofs.Listed.{deadlines_hold, deadlines_only, deadlines_bounded}
use Rattle.lines.proofs.Rests.{first_rest_rests, first_rest_positive, first_rest_least}
use Rattle.lines.proofs.Rising.{deadlines_due, deadlines_still, deadlines_longer}
use Rattle.lines.specs.Demand.{AllLawful}
use Rattle.lines.specs.Laws.{Among, FewerLaws}
use Rattle.lines.specs.Rest.{every, some, divides, resting, due, first_rest, deadlines, full_list}
use Rattle.lines.specs.declared.row.Row.{Row}
use Rattle.std.proofs.lemmas.List.{length_push}
use Rattle.std.specs.List.{ContainsAt as Has}

-- a deadline of a lawful line is not 0
pub due_positive : (rows : List Row) (t : ℕ) → AllLawful rows → some (due t) rows ≡ true → 1 ≤ t
due_positive rows t ok e =
    let here = some_place (due t) rows e in
    let lawful = ok here.0 here.1 in
    let is = here.2 in
    grind arith

module _ (few all : List Row) (among : Among few all) where
  pub every_fewer : (test : Row → Bool) → every test all ≡ true → every test few ≡ true
  every_fewer test e = every_from test few (λ i l. let at = among i l in ap test at.2 ∙ every_at test all e at.0 at.1)

  pub some_fewer : (test : Row → Bool) → some test few ≡ true → some test all ≡ true
  some_fewer test e =
      let here = some_place test few e in
      let at = among here.0 here.1 in
      some_at test all at.0 at.1 (ap test (sym at.2) ∙ here.2)

  shorter_next : (n : ℕ) (b d : Bool) → some (due (suc n)) few ≡ b → some (due (suc n)) all ≡ d → length (deadlines few n) ≤ length (deadlines all n) → length (deadlines few (suc n)) ≤ length (deadlines all (suc n))
  shorter_next n true true e f h = omega (arith, ap length (deadlines_due few n e), ap length (deadlines_due all n f), length_push (deadlines few n) (suc n), length_push (deadlines all n) (suc n))
  shorter_next n true false e f h = let more = some_fewer (due (suc n)) e in absurd (grind arith)
  shorter_next n false true e f h = omega (arith, ap length (deadlines_still few n e), ap length (deadlines_due all n f), length_push (deadlines all n) (suc n))
  shorter_next n false false e f h = omega (arith, ap length (deadlines_still few n e), ap length (deadlines_still all n f))

  pub deadlines_shorter : (n : ℕ) → length (deadlines few n) ≤ length (deadlines all n)
  unfolding deadlines
  deadlines_shorter zero = omega arith
  deadlines_shorter (suc n) = shorter_next n (some (due (suc n)) few) (some (due (suc n)) all) refl refl (deadlines_shorter n)

  module _ (ok : AllLawful all) where
    pub rests_no_later : first_rest few ≤ first_rest all
    rests_no_later = first_rest_least few (first_rest all) (first_rest_positive all) (every_fewer (resting (first_rest all)) (first_rest_rests all ok))

    pub fewer_contained : (t : ℕ) → Has (full_list few) t → Has (full_list all) t
    fewer_contained t h =
        let is = some_fewer (due t) (deadlines_only few (first_rest few) t h) in
        let early = deadlines_bounded few (first_rest few) t h in
        deadlines_hold all (first_rest all) t is (due_positive all t ok is) (omega (arith, rests_no_later))

    pub fewer_laws : FewerLaws few all
    fewer_laws = record {
      briefer = hyperperiod_fewer few all ok (λ m. every_fewer (divides m));
      rests_no_later = rests_no_later;
      contained = fewer_contained;
      no_longer = omega (arith, deadlines_longer few (first_rest few) (first_rest all) rests_no_later, deadlines_shorter (first_rest all));
    }
