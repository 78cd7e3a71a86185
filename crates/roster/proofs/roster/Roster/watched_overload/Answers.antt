use Rattle.analysis.specs.Verdict.{Exceeds}
use Rattle.analysis.specs.Watching.{Within}
use Rattle.lines.specs.declared.row.Row.{Row}
use Rattle.roster.proofs.roster.Roster.watched_overload.Goals as goal
use Rattle.roster.specs.Working.{rows_in, watched_in}
use Rattle.std.proofs.Common.{◌≡◌, ℕ, ◌<◌, List, length, Option, Some, None, subst, rules, arith}
use Rattle.std.proofs.lemmas.Iterator.{YieldsList-from_slice, first_from_find}
use Rattle.std.proofs.lemmas.Iterator.Consumers.{YieldsList-from_copied}
use Rattle.std.specs.List.{ContainsAt as Has, AllWithin, HoldsAt}
use Rattle.std.specs.Option.{MatchOption}
use Rattle.supply.specs.Meaning.{Meaning}

-- the first of the watched deadlines that is overloaded, as a fact about all of them
told : (m : Meaning) (rows : List Row) (watched : List ℕ) (r : Option ℕ) → MatchOption r (AllWithin (Within m rows) watched 0 (length watched)) (λ d. Exceeds m rows d × (i : ℕ) × (i < length watched) × HoldsAt (λ y. y ≡ d) watched i × AllWithin (Within m rows) watched 0 i) → MatchOption r ((d : ℕ) → Has watched d → Within m rows d) (λ d. Has watched d × Exceeds m rows d)
told m rows watched None all = λ d has. subst (Within m rows) (has.2 0) (all has.0 0 (omega arith) has.1)
told m rows watched (Some d) first = ((first.1, first.2, first.3), first.0)

pub returns : goal.returns
returns g c =
    let m = g.S.Supply.meaning c.args.self.now.supply in
    let rows = rows_in c.args.self.now in
    let watched = watched_in c.args.self.now in
    told m rows watched c.find.result (first_from_find c.find.new.self _ c.find.result (Exceeds m rows) (Within m rows) c.find.ensures.ran (YieldsList-from_copied (YieldsList-from_slice watched cc)) (λ x q k. search rules) (λ x q k. search rules))
