use Rattle.std.proofs.Common.{◌≡◌, ℕ, ◌+◌, ◌<◌, List, [], ◌∷◌, ◌++◌, take, length, get_or}
use Rattle.std.specs.List.{AllZip}
use Rattle.std.proofs.lemmas.List.{take_more}
use Rattle.std.proofs.lemmas.Slice.Zip.{all_zipped_more}
use Rattle.commands.proofs.words.all.Goals as goal

-- One word more, and what it spells.
one_more : {A B : Type 0} (R : A → B → Type 0) (xs : List A) (ys zs : List B) (i : ℕ) (d : A) (y : B) → i < length xs → AllZip R (take i xs) ys → R (get_or xs i d) y → zs ≡ ys ++ (y ∷ []) → AllZip R (take (i + 1) xs) zs
one_more R xs ys zs i d y below so_far spelled e = rw (e, take_more xs i d below) (all_zipped_more R _ _ _ _ so_far spelled)

pub loop-word-preserved : goal.loop-word-preserved
loop-word-preserved g c =
    let spelled = rw c.in_ok-ok_or.ensures.ok_part at c.typed.ensures.what_the_word_spells in
    one_more (λ word x. g.T.Typed.spells word.now x) c.args.words.now c.loop-word.all.items _ c.loop-word.word-index record { ref_ptr = (0, 0); now = [] } c.in_ok-ok_or.field-0
    c.loop-word-test.true c.loop-word.invariant spelled c.in_ok-push.ensures.items
