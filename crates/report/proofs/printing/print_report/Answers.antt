use Rattle.report.proofs.Enough.{printed_alike, up_to, text_handed}
use Rattle.report.proofs.printing.print_report.Goals as goal
use Rattle.sheet.specs.Reports.{Reports, Reported}
use Rattle.std.proofs.Common.{◌≡◌, ◌++◌, IfSome, subst}
use Rattle.std.specs.Io.KnownBytes.{Appends}
use Rattle.std.specs.Io.Take.{take_remaining}

pub returns : goal.returns
returns g c =
    let told = subst (λ r. Reported c.as_slice.result.now _ c.report.new.out r) c.unwrap-length.ensures c.report.ensures.tells_figures_or_refusal in
    let remaining = g.R.Read.remaining in
    let contents = g.W.Write.contents in
    let sheet = c.read_to_end.new.buf.items in
    let handed = text_handed told.text _ c.report.new.out c.unwrap-length.result told.refused_where_list_is_too_short.1 told.list_holds_text in
    let all = subst (λ start. IfSome (take_remaining remaining c.take.result) (λ front. sheet ≡ start ++ front)) c.new-sheet.ensures.items c.in_ok-read_to_end.ensures.bytes in
    let limited = subst (λ reader. IfSome (up_to c.take.result.limit (remaining reader)) (λ front. sheet ≡ front)) c.take.ensures.inner all in
    let read = subst (λ limit. IfSome (up_to limit (remaining c.args.input)) (λ front. sheet ≡ front)) c.take.ensures.limit limited in
    let reports = subst (λ bytes. Reports bytes told.text) c.as_slice.ensures.value told.tells_the_sheet in
    record {
      prints_the_report_on_all_of_it = printed_alike (remaining c.args.input) _ _ sheet told.text read reports (subst (λ text. Appends (contents c.args.output.now) (contents c.write_all.new.self) text) handed c.in_ok-write_all.ensures.bytes);
    }
