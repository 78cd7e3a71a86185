use Rattle.sheet.proofs.reporting.report.Goals as goal
use Rattle.sheet.specs.Reports.{accepted, refused, Reports}
use Rattle.std.proofs.Common.{sym, subst}

pub returns-in-Ok : goal.returns-in-Ok
returns-in-Ok c =
    let leaves = c.in-Ok.ensures.read_by_the_grammar in
    let tells = c.figures_text.ensures in
    record {
      tells_figures_or_refusal = record {
        text = _;
        tells_the_sheet = subst (λ text. Reports c.args.bytes.now text) (sym tells.text_is_figures_and_verdict) (accepted c.in-Ok.roster tells.verdict leaves tells.least_overload_or_none (tells.exact_after_any_calls _ leaves.calls_are_its_history));
        at_most_96_bytes = c.hand_over.ensures.room;
        refused_where_list_is_too_short = c.hand_over.ensures.answer;
        list_holds_text = c.hand_over.ensures.list;
      };
    }

pub returns-in-Err : goal.returns-in-Err
returns-in-Err c = record {
  tells_figures_or_refusal = record {
    text = _;
    tells_the_sheet = subst (λ text. Reports c.args.bytes.now text) (sym c.refusal_line.ensures) (refused c.in-Err.refusal c.in-Err.ensures.read_by_the_grammar);
    at_most_96_bytes = c.hand_over-in-Err.ensures.room;
    refused_where_list_is_too_short = c.hand_over-in-Err.ensures.answer;
    list_holds_text = c.hand_over-in-Err.ensures.list;
  };
}
