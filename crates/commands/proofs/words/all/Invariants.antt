-- The values so far are what the words so far spell.
use Rattle.std.proofs.Common.{take}
use Rattle.std.specs.List.{AllZip}
use Rattle.commands.proofs.words.all.Given as goal

abbrev pub invariant-loop-word : goal.invariant-loop-word
invariant-loop-word g l = AllZip (λ word x. g.T.Typed.spells word.now x) (take l.word-index l.words) l.all.items
