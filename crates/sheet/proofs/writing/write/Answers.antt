use Rattle.grammar.specs.Supplies.{field_checks}
use Rattle.lines.specs.Of.{rows_of}
use Rattle.refusal.proofs.Checks.{refusal_first}
use Rattle.sheet.proofs.Written.{written_answer, written_list, written_back}
use Rattle.sheet.proofs.writing.write.Goals as goal
use Rattle.sheet.specs.Drafts.{drafted, room_check}
use Rattle.sheet.specs.Writing.{plain_sheet}
use Rattle.std.proofs.lemmas.Result.{err_from_is_err_and}
use Rattle.std.proofs.Common.{[], ◌∷◌, length, refl}

pub returns-in_err-supply_of : goal.returns-in_err-supply_of
returns-in_err-supply_of c =
    let p = err_from_is_err_and c.from_residual.result c.from_residual.ensures.1 in
    let fields = c.args.fields in
    let room = room_check (length (plain_sheet fields (rows_of c.args.lines.now))) (length c.args.out.now) ∷ [] in
    rw (p.1, p.2) (record {
      refused_by_checks = refusal_first (field_checks fields) room _ c.in_err-supply_of.ensures.named_or_refused_by_checks;
      list_holds_sheet = refl;
      brings_back_lines = tt;
    })

pub returns : goal.returns
returns c =
    let lines = c.args.lines.now in
    let fields = c.args.fields in
    let named-one = c.in_ok-supply_of.ensures.named_or_refused_by_checks.0 in
    let draft = drafted c.plain_sheet.result in
    let r = c.hand_over.result in
    record {
      refused_by_checks = written_answer lines fields named-one draft _ c.plain_sheet.ensures r c.hand_over.ensures.answer;
      list_holds_sheet = written_list lines fields named-one draft _ c.plain_sheet.ensures _ r c.hand_over.ensures.list;
      brings_back_lines = written_back lines fields named-one draft _ c.plain_sheet.ensures _ r c.hand_over.ensures.answer c.hand_over.ensures.list;
    }
