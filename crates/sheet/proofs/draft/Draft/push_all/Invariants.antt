use Rattle.sheet.proofs.draft.Draft.push_all.Given as goal
use Rattle.sheet.specs.Drafts.{drafted}
use Rattle.std.proofs.Common.{◌≡◌, ◌++◌, take}
use Rattle.std.specs.List.{flat_map}

abbrev pub invariant-loop-piece : goal.invariant-loop-piece
invariant-loop-piece l =
    drafted l.self ≡ drafted l.initial.self ++ flat_map (λ piece. piece.now) (take l.piece-index l.pieces)
