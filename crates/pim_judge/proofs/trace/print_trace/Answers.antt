use Rattle.std.proofs.Common.{rules, ◌≡◌, refl, ◌∙◌}
use Rattle.std.proofs.lemmas.Result.{MatchResult-weaker}
use Rattle.pim_base.specs.Recordings.{recording, text_of}
use Rattle.pim_text.specs.Reading.{trace_of}
use Rattle.pim_judge.specs.Printed.{declarations_text}
use Rattle.pim_judge.proofs.PrintingLemmas.{prints_err, stops_memory, puts_none, puts_all, stops_page}
use Rattle.pim_judge.proofs.TraceLineLemmas.{puts_text, stops_text}
use Rattle.pim_judge.proofs.trace.print_trace.Goals as goal

pub returns-in_err-page : goal.returns-in_err-page
returns-in_err-page g c =
    let text = text_of (recording (trace_of c.args.script.now) c.args.entries.now) in
    prints_err _ _ c.from_residual.ensures.1 (stops_memory refl (puts_none {bytes = text} refl))

pub returns-in_err-print_entries : goal.returns-in_err-print_entries
returns-in_err-print_entries g c =
    let told : g.W.Sink.told c.in_err-print_entries.writer-1-own.given.0 ≡ g.W.Sink.told c.print_entries.new.printer.writer.now =
    search rules in
    let begun : g.W.Sink.told c.args.writer.now ≡ g.W.Sink.told c.new-printer.result.writer.now = search rules in
    let page : c.new-printer.result.page.now ≡ declarations_text (trace_of c.args.script.now) =
    c.new-printer.ensures.page ∙ c.in_ok-page.ensures in
    prints_err _ _ c.from_residual-in_err-print_entries.ensures.1
    (rw (told, begun)
    (stops_text (trace_of c.args.script.now) c.args.entries.now _ page c.in_err-print_entries.ensures.prints))

pub returns : goal.returns
returns g c =
    let told : g.W.Sink.told c.writer-2-1.given.0 ≡ g.W.Sink.told c.write.new.self.writer.now = search rules in
    let begun : g.W.Sink.told c.args.writer.now ≡ g.W.Sink.told c.new-printer.result.writer.now = search rules in
    let page : c.new-printer.result.page.now ≡ declarations_text (trace_of c.args.script.now) =
    c.new-printer.ensures.page ∙ c.in_ok-page.ensures in
    let first = puts_text (trace_of c.args.script.now) c.args.entries.now _ page c.in_ok-print_entries.ensures.prints in
    rw (told, begun)
    (MatchResult-weaker c.write.result c.write.ensures.takes.prints
    (λ done h. puts_all _ c.write.ensures.all first h)
    (λ fault h. stops_page _ first h))
