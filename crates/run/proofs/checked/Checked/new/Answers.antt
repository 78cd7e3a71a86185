use Rattle.std.proofs.Common.{◌≡◌, length, sym, ap, ◌∙◌, subst, arith}
use Rattle.lines.specs.Of.{rows_of}
use Rattle.refusal.specs.Answers.{refusal_of}
use Rattle.run.proofs.Passing.{Passed, passed_none, checks_same, passed_more, passed_keeping, first_refusal, list_refused}
use Rattle.run.proofs.checked.Checked.new.Goals as goal
use Rattle.std.proofs.lemmas.Result.{err_from_is_err_and}

pub loop-place-init : goal.loop-place-init
loop-place-init c =
    let none = c.none-releases.ensures in
    (rw (none.0, none.1, none.2) (passed_none _ _), omega (arith, c.if-jobs-gt-MOST_JOBS.false))

pub returns-in_err-take : goal.returns-in_err-take
returns-in_err-take c =
    let rows = rows_of c.args.lines.now in
    let jobs = c.args.jobs.now in
    let state = c.loop-place.invariant.0 in
    let p = err_from_is_err_and c.from_residual.result c.from_residual.ensures.1 in
    let refused = ap refusal_of (sym (checks_same rows jobs c.loop-place.place _ _ _ state)) ∙ c.in_err-take.ensures in
    let first = first_refusal rows jobs c.loop-place.place _ _ c.loop-place-test.true state.passed refused in
    rw (p.1, p.2) (list_refused rows jobs c.loop-place.invariant.1 ∙ first)

pub loop-place-preserved : goal.loop-place-preserved
loop-place-preserved c =
    let rows = rows_of c.args.lines.now in
    let jobs = c.args.jobs.now in
    let state = c.loop-place.invariant.0 in
    let made = c.in_ok-take.ensures in
    let passes = ap refusal_of (sym (checks_same rows jobs c.loop-place.place _ _ _ state)) ∙ made.0 in
    (passed_more rows jobs c.loop-place.place _ _ _ state passes (made.1.0, made.1.1) _ _ _ made.1.2 made.1.3 made.1.4, c.loop-place.invariant.1)

pub invariant_of-result : goal.invariant_of-result
invariant_of-result c =
    let rows = rows_of c.args.lines.now in
    let jobs = c.args.jobs.now in
    let all : c.loop-place.place ≡ length jobs = omega (arith, c.loop-place-test.false) in
    let state = subst (λ n. Passed rows jobs n c.loop-place.releases.last c.loop-place.releases.free c.loop-place.releases.largest) all c.loop-place.invariant.0 in
    record {
      few = c.loop-place.invariant.1;
      within = state.within;
      keeping = passed_keeping rows jobs state.passed state.kept;
      last = state.reached;
    }
