use Rattle.std.proofs.Common.{◌≡◌, List, [], ◌∷◌, subst, sym, ◌∙◌, ap, arith, length}
use Rattle.std.proofs.lemmas.List.{length-append}
use Rattle.pim_queue.specs.QueueView.{QueueView}
use Rattle.pim_chain.specs.Rooms.{IsRoomy, each_with}
use Rattle.pim_chain.proofs.Rooms.{roomy_append, made_append}
use Rattle.pim_chain.proofs.queues.Queues.new.Goals as goal

pub loop-place-preserved : goal.loop-place-preserved
loop-place-preserved c =
    let items = c.in_ok-push.ensures.items in
    let room = ap (λ (q : QueueView). q.room) c.in_ok-new.ensures in
    let len = c.loop-place.invariant.len in
    record {
      empty =
          ap (λ qs. each_with c.args.room qs) items
          ∙ made_append c.args.room c.loop-place.place c.loop-place.queues.items _ c.loop-place.invariant.empty
          (ap (λ (q : QueueView). q.waiters) c.in_ok-new.ensures);
      len = omega (arith, ap (λ (qs : List QueueView). length qs) items, length-append c.loop-place.queues.items (c.in_ok-new.field-0 ∷ []), len);
      roomy =
          subst (IsRoomy c.args.room) (sym items)
          (roomy_append c.args.room c.loop-place.queues.items _ c.loop-place.invariant.roomy (rw (room, len) c.first_room.ensures));
    }
