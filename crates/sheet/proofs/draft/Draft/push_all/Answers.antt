use Rattle.sheet.proofs.Room.{never_refused}
use Rattle.sheet.proofs.draft.Draft.push_all.Goals as goal
use Rattle.sheet.specs.Drafts.{drafted}
use Rattle.std.proofs.Common.{ℕ, List, [], length, take, Bor, ap, arith}
use Rattle.std.proofs.lemmas.List.{length-append}
use Rattle.std.proofs.lemmas.List.Folds.{length-flat_map-take}
use Rattle.std.specs.List.{flat_map}

pub unwrap-requires : goal.unwrap-requires
unwrap-requires c =
    let pieces = c.args.pieces.now in
    let i = c.loop-piece.piece-index in
    let now : Bor (List ℕ) → List ℕ = λ piece. piece.now in
    let more = length-flat_map-take now pieces i (record { ref_ptr = (0, 0); now = [] }) c.loop-piece-test.true in
    let long = ap length c.loop-piece.invariant in
    let sum = length-append (drafted c.args.self.now) (flat_map now (take i pieces)) in
    never_refused _ _ c.extend_from_slice.result c.extend_from_slice.ensures.appends_all_or_nothing (λ e full. omega (arith, full.0, more, long, sum, c.requires))
