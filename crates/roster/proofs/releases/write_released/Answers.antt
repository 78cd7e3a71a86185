use Rattle.std.proofs.Common.{◌≡◌, ◌++◌, length, sym, refl, ap, ◌∙◌, ap₂, arith}
use Rattle.analysis.proofs.Releases.{before_quiet, released_fits}
use Rattle.analysis.specs.Legal.{released_at, released_before}
use Rattle.lines.specs.Of.{rows_of}
use Rattle.roster.proofs.Writing.{fronted_more}
use Rattle.roster.proofs.releases.write_released.Goals as goal
use Rattle.roster.specs.Lent.{fronted, written}
use Rattle.std.proofs.lemmas.List.{length-append}

pub loop-release-init : goal.loop-release-init
unfolding released_before
loop-release-init c = (omega arith, refl, refl)

pub write_at-place-requires : goal.write_at-place-requires
write_at-place-requires c =
    omega (arith, released_fits (rows_of c.args.lines.now) c.args.t c.loop-release.release c.loop-release-test.true, c.loop-release.invariant.1, c.requires, c.loop-release.auto.list)

pub loop-release-preserved : goal.loop-release-preserved
unfolding released_before
loop-release-preserved c =
    let rows = rows_of c.args.lines.now in
    let t = c.args.t in
    let r = c.loop-release.release in
    let list = c.args.list.now in
    let before = released_before rows t r in
    let jobs = released_at 0 rows t r in
    let next = c.next_release-release.ensures in
    let grown : released_before rows t c.next_release-release.result ≡ before ++ jobs = before_quiet rows t r c.next_release-release.result next.later next.none_between in
    let wrote : c.write_at-place.new.list ≡ written (length before) jobs (fronted before list) = c.write_at-place.ensures.list ∙ ap₂ (λ n xs. written n jobs xs) c.loop-release.invariant.1 c.loop-release.invariant.2 in (
      next.bound,
      omega (arith, c.write_at-place.ensures.place, c.loop-release.invariant.1, length-append before jobs, ap length grown),
      wrote ∙ fronted_more before jobs list ∙ ap (λ xs. fronted xs list) (sym grown),
    )
