use Rattle.std.proofs.Common.{rules, ◌≡◌, [], ◌∷◌, ◌++◌, None}
use Rattle.pim_world.proofs.Unknown.{unknown_more}
use Rattle.pim_world.proofs.kernel.KernelEvents.add_thread.Goals as goal

pub invariant_of-self-then-is_err-2 : goal.invariant_of-self-then-is_err-2
invariant_of-self-then-is_err-2 c =
    let runs = c.args.self.now.runs.items in
    let items : c.push.new.self.items ≡ runs ++ None ∷ [] =
    search (rules, c.push.ensures.items, c.is_err.ensures, c.if-is_err.false) in
    record {
      known = unknown_more
          c.args.self.now.is_run runs c.push.new.self.items items c.args.self.now.known;
    }

pub invariant_of-self-2 : goal.invariant_of-self-2
invariant_of-self-2 c =
    let runs = c.args.self.now.runs.items in
    let items : c.push.new.self.items ≡ runs ++ None ∷ [] =
    search (rules, c.push.ensures.items, c.is_err.ensures, c.if-is_err.false) in
    record {
      known = unknown_more
          c.args.self.now.is_run runs c.push.new.self.items items c.args.self.now.known;
    }
