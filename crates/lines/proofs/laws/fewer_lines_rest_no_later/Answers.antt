use Rattle.lines.proofs.Fewer.{fewer_laws}
use Rattle.lines.proofs.laws.fewer_lines_rest_no_later.Goals as goal

pub returns : goal.returns
returns c = record { rest_no_later_and_list_contained = λ among. fewer_laws _ _ among c.args.all.now.lawful }
