-- Jobs that are written into a list one by one, and after those that were written before.
use Rattle.std.proofs.Common.{◌≡◌, ℕ, ◌+◌, ◌<◌, List, [], ◌∷◌, ◌++◌, length, get_or, take, drop, set, sym, refl, ap, ◌∙◌, ap₂, add-zero, arith}
use Rattle.analysis.specs.Legal.{no_job}
use Rattle.roster.specs.Lent.{fronted, written}
use Rattle.run.specs.declared.job.Job.{Job}
use Rattle.std.proofs.lemmas.List.{append_assoc, length-append, length_push, length-take-le, take-append-drop, take_at, drop-drop, drop_more, set_at}
use lib.Seq.{drop-append-add}

pub written_none : {X : Type 0} (start : ℕ) (list : List X) → list ≡ written start [] list
written_none start list = sym (ap (λ n. take start list ++ drop n list) (add-zero start) ∙ take-append-drop start list)

-- one job more
pub written_more : (start : ℕ) (jobs list : List Job) (job : Job) → start + length jobs < length list → set (written start jobs list) (start + length jobs) job ≡ written start (jobs ++ (job ∷ [])) list
written_more start jobs list job room =
    let place = start + length jobs in
    let before = take start list ++ jobs in
    let here = get_or list place no_job in
    let long : length before ≡ place = length-append (take start list) jobs ∙ ap (λ n. n + length jobs) (length-take-le start list (omega arith)) in
    let apart : written start jobs list ≡ before ++ (here ∷ drop (place + 1) list) = ap (λ rest. take start list ++ (jobs ++ rest)) (drop_more list place no_job room) ∙ sym (append_assoc (take start list) jobs (here ∷ drop (place + 1) list)) in
    let on : place + 1 ≡ start + length (jobs ++ (job ∷ [])) = omega (arith, length_push jobs job) in
    ap (λ xs. set xs place job) apart ∙ set_at before here (drop (place + 1) list) job place long ∙ append_assoc (take start list) jobs (job ∷ drop (place + 1) list) ∙ ap (λ rest. take start list ++ rest) (sym (append_assoc jobs (job ∷ []) (drop (place + 1) list))) ∙ ap (λ n. take start list ++ ((jobs ++ (job ∷ [])) ++ drop n list)) on

-- some jobs after others that stand in front
pub fronted_more : {X : Type 0} (first jobs list : List X) → written (length first) jobs (fronted first list) ≡ fronted (first ++ jobs) list
fronted_more first jobs list =
    let n = length first in
    let behind : drop (n + length jobs) (fronted first list) ≡ drop (length (first ++ jobs)) list = drop-append-add first (drop n list) (length jobs) ∙ drop-drop (length jobs) n list ∙ ap (λ k. drop k list) (sym (length-append first jobs)) in
    ap₂ (λ xs ys. xs ++ (jobs ++ ys)) (take_at first (drop n list) n refl) behind ∙ sym (append_assoc first jobs (drop (length (first ++ jobs)) list))
