use Rattle.std.proofs.Common.{◌++◌, ◌∷◌, [], sym, ◌∙◌, ap}
use Rattle.pim_rows.specs.Moments.{followed_by}
use Rattle.pim_rows.specs.Kept.{kept_of}
use Rattle.pim_rows.specs.Rows.{blocked_row, text_of}
use Rattle.pim_rows.proofs.EndedRows.{resumed_is}
use Rattle.pim_rows.proofs.ended_rows.put_resumed.Goals as goal

pub returns-in_ok-put_block-in-Resumes : goal.returns-in_ok-put_block-in-Resumes
returns-in_ok-put_block-in-Resumes c ms l w n may are =
    let all = followed_by ms l in
    c.in_ok-put_block-in-Resumes.ensures all (sym w)
    ∙ ap (λ n. c.args.out.now.items
    ++ text_of (blocked_row c.in-Some.start all n c.in-Resumes.ended ∷ [])) n
    ∙ ap (λ rows. c.args.out.now.items ++ text_of rows)
    (sym (resumed_is ms l c.args.thread
    (kept_of c.args.blocks.now.starts) c.in-Some.start c.args.what.now c.in-Resumes.field-0
    c.in-Resumes.ended are (ap (kept_of c.args.blocks.now.starts) (sym c.thread.view_is)
    ∙ sym c.in-Some.ensures) c.in-Resumes.is may))
