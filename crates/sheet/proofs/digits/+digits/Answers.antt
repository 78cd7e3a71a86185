use Rattle.std.proofs.Common.{◌≡◌, ℕ, ◌+◌, ◌%◌, ◌<◌, [], ◌∷◌, ◌++◌, length, decimal, ap, ◌∙◌, arith, rules}
use Rattle.sheet.proofs.Spelled.{one_digit, more_digits, few_digits}
use Rattle.sheet.proofs.Room.{never_refused}
use Rattle.sheet.proofs.digits.+digits.Goals as goal
use Rattle.sheet.proofs.digits.+digits.Goals.{then-n-lt10, else-n-lt10}
use Rattle.short_list.specs.Short.{Short}

pub unwrap-requires : goal.unwrap-requires
unwrap-requires t c =
    let short : length c.if-n-lt10.front.items < 10 = elim c.if-n-lt10.branch [
      | then-n-lt10 w ↦ omega (arith, ap (λ (s : Short ℕ). length s.items) w.front-is, ap length w.none-front.ensures.holds_nothing)
      | else-n-lt10 w ↦ few_digits c.args.n _ w.if-n-lt10.false (omega arith) (ap (λ (s : Short ℕ). s.items) w.front-is ∙ w.digits-front.ensures)
    ] in
    never_refused _ _ c.push.result c.push.ensures.appends_unless_full (λ e full. omega (arith, full.0, short))

pub returns : goal.returns
returns t c =
    let n = c.args.n in
    let whole : c.if-n-lt10.front.items ++ ((48 + n % 10) ∷ []) ≡ decimal n = elim c.if-n-lt10.branch [
      | then-n-lt10 w ↦ one_digit n _ w.if-n-lt10.true (ap (λ (s : Short ℕ). s.items) w.front-is ∙ w.none-front.ensures.holds_nothing)
      | else-n-lt10 w ↦ more_digits n _ w.if-n-lt10.false (omega arith) (ap (λ (s : Short ℕ). s.items) w.front-is ∙ w.digits-front.ensures)
    ] in
    search rules
