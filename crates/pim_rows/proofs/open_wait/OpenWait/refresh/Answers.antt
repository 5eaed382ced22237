use Rattle.std.proofs.Common.{◌≡◌, ◌∙◌, true, false, sym, refl, arith}
use Rattle.pim_rows.proofs.Waiting.{Follows-same, Follows-other, within_added}
use Rattle.pim_rows.proofs.open_wait.OpenWait.refresh.Goals as goal

pub returns-then-is : goal.returns-then-is
returns-then-is c = record {
  goes = λ t ms m follows later shows.
      Follows-same c.args.self.now t ms m follows later shows.lasts
      (shows.current ∙ sym (c.if-is.ensures.0 refl) ∙ sym follows.current);
  current = c.if-is.ensures.0 refl;
  again = λ e. refl;
  until = c.requires;
}

pub returns : goal.returns
returns c = record {
  goes = λ t ms m follows later shows.
      Follows-other c.args.self.now
      _ t ms m c.args.clock c.args.standing c.in_ok-with_time.ensures follows later shows;
  current = refl;
  again = λ e. absurd (let no : false ≡ true = c.if-is.ensures.1 e in cc);
  until = record {
    since = omega arith;
    within = within_added c.args.self.now _ c.args.clock c.in_ok-with_time.ensures c.requires;
  };
}
