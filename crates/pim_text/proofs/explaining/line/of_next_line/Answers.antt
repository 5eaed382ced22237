use Rattle.pim_text.proofs.explaining.line.of_next_line.Goals as goal

pub returns-then-has_word : goal.returns-then-has_word
returns-then-has_word c = c.of_task.ensures c.args.kind

pub returns-then-has_word-2 : goal.returns-then-has_word-2
returns-then-has_word-2 c = c.of_mutex.ensures c.args.kind
