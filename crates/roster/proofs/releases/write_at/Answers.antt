use Rattle.std.proofs.Common.{◌≡◌, ◌+◌, ◌<◌, ◌≤◌, [], ◌∷◌, ◌++◌, length, take, get_or, set, sym, refl, ap, ◌∙◌, ap₂, add-zero, arith, take_all}
use Rattle.analysis.proofs.Releases.{released_more, released_fewer}
use Rattle.analysis.specs.Legal.{released_at}
use Rattle.lines.proofs.Walk.{turn, all_came}
use Rattle.lines.specs.Demand.{no_row}
use Rattle.lines.specs.Left.{rows_left}
use Rattle.lines.specs.Of.{rows_of}
use Rattle.roster.proofs.Writing.{written_none, written_more}
use Rattle.roster.proofs.releases.write_at.Goals as goal
use Rattle.roster.proofs.releases.write_at.Goals.{in-Some-released_job, in_default}
use Rattle.roster.specs.Lent.{written}
use Rattle.std.proofs.lemmas.Grind.{common_steps}
use Rattle.std.proofs.lemmas.List.{append-nil, length_push}

pub loop-number-init : goal.loop-number-init
unfolding released_at
loop-number-init c = (omega (arith, c.iter-line-items.ensures.walks_at_most_8), refl, sym (add-zero c.args.start), written_none c.args.start c.args.list.now)

pub offset_bounds-list-place : goal.offset_bounds-list-place
offset_bounds-list-place c = grind (arith, common_steps)

pub bounds-list-place : goal.bounds-list-place
bounds-list-place c =
    let rows = rows_of c.args.lines.now in
    let t = c.args.t in
    let r = c.args.release in
    let n = c.loop-number.number in
    let before = released_at 0 (take n rows) t r in
    let job = c.in-Some-released_job.job in
    let next : (length c.loop-number.yielded < length rows) × (get_or rows (length c.loop-number.yielded) no_row ≡ c.in-Some.line.row) = rw (sym c.iter-line-items.ensures.walks_lines_in_order) (turn _ _ c.next.new.self _ c.in-Some.line c.loop-number.yielded_by c.in-Some.ensures.steps) in
    let here : get_or rows n no_row ≡ c.in-Some.line.row = rw c.loop-number.invariant.1 next.1 in
    let more : released_at 0 (take (n + 1) rows) t r ≡ before ++ (job ∷ []) = released_more t r rows n (omega (arith, next.0, c.loop-number.invariant.1)) ∙ ap (λ row. before ++ released_at n (row ∷ []) t r) here ∙ ap (λ jobs. before ++ jobs) (sym c.in-Some-released_job.ensures) in
    omega (arith, ap length more, length_push before job, released_fewer t r rows (n + 1), c.loop-number.invariant.2, c.requires, c.loop-number.auto.list)

pub overflow_add-place : goal.overflow_add-place
overflow_add-place c = grind (arith, common_steps)

pub loop-number-preserved : goal.loop-number-preserved
loop-number-preserved c =
    let rows = rows_of c.args.lines.now in
    let t = c.args.t in
    let r = c.args.release in
    let n = c.loop-number.number in
    let start = c.args.start in
    let list = c.args.list.now in
    let before = released_at 0 (take n rows) t r in
    let turned : (length c.loop-number.yielded < length rows) × (get_or rows (length c.loop-number.yielded) no_row ≡ c.in-Some.line.row) = rw (sym c.iter-line-items.ensures.walks_lines_in_order) (turn _ _ c.next.new.self _ c.in-Some.line c.loop-number.yielded_by c.in-Some.ensures.steps) in
    let here : get_or rows n no_row ≡ c.in-Some.line.row = rw c.loop-number.invariant.1 turned.1 in
    let left : n + 1 + length (rows_left c.next.new.self) ≤ 8 = omega (arith, c.loop-number.invariant.0, ap length c.in-Some.ensures.steps) in
    let count : n + 1 ≡ length (c.loop-number.yielded ++ (c.in-Some.line ∷ [])) = omega (arith, length_push c.loop-number.yielded c.in-Some.line, c.loop-number.invariant.1) in
    let next : released_at 0 (take (n + 1) rows) t r ≡ before ++ released_at n (c.in-Some.line.row ∷ []) t r = released_more t r rows n (omega (arith, turned.0, c.loop-number.invariant.1)) ∙ ap (λ row. before ++ released_at n (row ∷ []) t r) here in
    elim c.match-released_job.branch [
      | in-Some-released_job w ↦
          let job = w.in-Some-released_job.job in
          let more = next ∙ ap (λ jobs. before ++ jobs) (sym w.in-Some-released_job.ensures) in
          let longer = ap length more ∙ length_push before job in
          let there : start + length before < length list = omega (arith, longer, released_fewer t r rows (n + 1), c.requires) in
          let wrote = w.list-is ∙ ap₂ (λ xs place. set xs place job) c.loop-number.invariant.3 c.loop-number.invariant.2 in
          (left, count, omega (arith, w.place-is, c.loop-number.invariant.2, longer), wrote ∙ written_more start before list job there ∙ ap (λ jobs. written start jobs list) (sym more))
      | in_default w ↦
          let same = next ∙ ap (λ jobs. before ++ jobs) (sym w.in_default.ensures) ∙ append-nil before in
          (left, count, w.place-is ∙ c.loop-number.invariant.2 ∙ ap (λ jobs. start + length jobs) (sym same), w.list-is ∙ c.loop-number.invariant.3 ∙ ap (λ jobs. written start jobs list) (sym same))
    ]

-- at the end all lines have come
whole : (c : goal.In-None) → take c.loop-number.number (rows_of c.args.lines.now) ≡ rows_of c.args.lines.now
whole c =
    let all : length (rows_of c.args.lines.now) ≡ length c.loop-number.yielded = rw (sym c.iter-line-items.ensures.walks_lines_in_order) (all_came _ _ _ c.loop-number.yielded_by c.in-None.ensures.steps.0) in
    take_all c.loop-number.number (rows_of c.args.lines.now) (omega (arith, c.loop-number.invariant.1))

pub returns-clause-place : goal.returns-clause-place
returns-clause-place c =
    c.loop-number.invariant.2 ∙ ap (λ rows. c.args.start + length (released_at 0 rows c.args.t c.args.release)) (whole c)

pub returns-clause-list : goal.returns-clause-list
returns-clause-list c =
    c.loop-number.invariant.3 ∙ ap (λ rows. written c.args.start (released_at 0 rows c.args.t c.args.release) c.args.list.now) (whole c)
