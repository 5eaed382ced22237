use Rattle.std.proofs.Common.{ap, sym, ◌∙◌, map, ◌++◌}
use Rattle.pim_rows.specs.Begun.{WaitStart}
use Rattle.pim_rows.specs.Rows.{inverted_row, stalled_row, meanwhile_row, text_of}
use Rattle.pim_rows.proofs.WaitRows.{if_ok, wait_text}
use Rattle.pim_rows.proofs.wait_rows.put_wait.Goals as goal

pub returns : goal.returns
returns c =
    if_ok c.put_pairs-2.result
    (λ x d. λ ms at.
    wait_text c.args.start
    ms c.args.until c.args.times.now _ c.args.out.now.items _ _ _ _ c.start.inside.line
    (c.wait_numbers.ensures ms at)
    (sym (ap (λ (s : WaitStart). s.line) c.start.view_is))
    c.in_ok-put_row.ensures
    (c.in_ok-put_inverted.ensures ∙ ap (λ rows. c.put_row.new.out.items
    ++ text_of (map (inverted_row c.start.inside.line) rows)) c.rows.ensures)
    (c.in_ok-put_pairs.ensures ∙ ap (λ rows. c.put_inverted.new.out.items
    ++ text_of (map (stalled_row c.start.inside.line) rows)) c.rows-2.ensures)
    (d ∙ ap (λ rows. c.put_pairs.new.out.items
    ++ text_of (map (meanwhile_row c.start.inside.line) rows)) c.rows-3.ensures))
    c.put_pairs-2.ensures
