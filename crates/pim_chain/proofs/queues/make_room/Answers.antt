use Rattle.std.proofs.Common.{◌≡◌, ◌<◌, ◌∙◌, sym, ap, subst, arith, true, length, get_or}
use Rattle.std.proofs.lemmas.List.{get_or_default, get_or-set_other}
use Rattle.pim_queue.specs.QueueView.{QueueView}
use Rattle.pim_chain.specs.Rooms.{can_lend}
use Rattle.pim_chain.proofs.Rooms.{lends, apart_from, freed, with_room_exchanged, each_with_exchanged}
use Rattle.pim_chain.proofs.queues.make_room.Goals as goal

pub lender-lender-requires-clause-waiters : goal.lender-lender-requires-clause-waiters
lender-lender-requires-clause-waiters c d =
    let e : get_or c.args.queues.now.items c.args.place d ≡ c.index.result.now =
    get_or_default c.args.queues.now.items c.args.place d c.index.result.now c.requires.known ∙ sym c.index.ensures in
    let full = c.requires.full d in
    rw (c.deref.ensures.value, e) (omega (arith, rw e at full, c.room-few.ensures.fits, c.room-few.ensures.room))

pub exchange_room-requires-clause-here : goal.exchange_room-requires-clause-here
exchange_room-requires-clause-here c =
    let qs = c.args.queues.now.items in
    let l = c.index_mut.result.now in
    let low : c.lender-lender.result < length qs = rw (← c.deref.ensures.value) c.lender-lender.ensures.known in
    let lent : can_lend c.room-few.result l ≡ true =
    subst (λ q. can_lend c.room-few.result q ≡ true)
    (ap (λ us. get_or us c.lender-lender.result l) c.deref.ensures.value ∙ sym c.index_mut.ensures.value) (c.lender-lender.ensures.lends l) in
    let apart : c.lender-lender.result ≡ c.args.place → ⊥ =
    apart_from c.room-few.result c.lender-lender.result c.args.place qs l c.index.result.now
    c.index_mut.ensures.value c.index.ensures low lent (sym c.room-few.ensures.room) in
    let kept : (d : QueueView) → c.index_mut-2.result.now ≡ get_or qs c.args.place d =
    λ d. c.index_mut-2.ensures.value
    ∙ get_or-set_other qs c.lender-lender.result c.args.place c.swap.new.y c.index_mut-2.result.now (λ e. apart (sym e))
    ∙ get_or_default qs c.args.place c.index_mut-2.result.now d c.requires.known in
    let its : c.index_mut-2.result.now ≡ c.index.result.now = kept c.index.result.now ∙ sym c.index.ensures in
    omega (
      arith,
      ap (λ (q : QueueView). length q.waiters) its,
      c.room-few.ensures.fits,
      (lends c.room-few.result l lent).0,
      ap (λ (q : QueueView). q.room) c.swap.ensures.x_after,
    )

pub returns-clause-free : goal.returns-clause-free
returns-clause-free c d =
    let qs = c.args.queues.now.items in
    let l = c.index_mut.result.now in
    let low : c.lender-lender.result < length qs = rw (← c.deref.ensures.value) c.lender-lender.ensures.known in
    let lent : can_lend c.room-few.result l ≡ true =
    subst (λ q. can_lend c.room-few.result q ≡ true)
    (ap (λ us. get_or us c.lender-lender.result l) c.deref.ensures.value ∙ sym c.index_mut.ensures.value) (c.lender-lender.ensures.lends l) in
    let apart : c.lender-lender.result ≡ c.args.place → ⊥ =
    apart_from c.room-few.result c.lender-lender.result c.args.place qs l c.index.result.now
    c.index_mut.ensures.value c.index.ensures low lent (sym c.room-few.ensures.room) in
    let kept : (d : QueueView) → c.index_mut-2.result.now ≡ get_or qs c.args.place d =
    λ d. c.index_mut-2.ensures.value
    ∙ get_or-set_other qs c.lender-lender.result c.args.place c.swap.new.y c.index_mut-2.result.now (λ e. apart (sym e))
    ∙ get_or_default qs c.args.place c.index_mut-2.result.now d c.requires.known in
    let its : c.index_mut-2.result.now ≡ c.index.result.now = kept c.index.result.now ∙ sym c.index.ensures in
    let full = c.requires.full c.index.result.now in
    let all : length c.exchange_room.new.other.waiters ≡ c.room-few.result =
    omega (
      arith,
      ap (λ (q : QueueView). length q.waiters) c.exchange_room.ensures.other,
      ap (λ (q : QueueView). length q.waiters) its,
      rw (← c.index.ensures) at full,
      c.room-few.ensures.fits,
      c.room-few.ensures.room,
    ) in
    freed c.room-few.result c.lender-lender.result c.args.place qs c.swap.new.y l c.exchange_room.new.other c.swap-2.new.y d
    c.requires.known apart lent
    (ap (λ (q : QueueView). q.room) c.exchange_room.ensures.other ∙ ap (λ (q : QueueView). q.room) c.swap.ensures.x_after) all

pub returns-clause-rooms : goal.returns-clause-rooms
returns-clause-rooms c n =
    let qs = c.args.queues.now.items in
    let l = c.index_mut.result.now in
    let low : c.lender-lender.result < length qs = rw (← c.deref.ensures.value) c.lender-lender.ensures.known in
    let lent : can_lend c.room-few.result l ≡ true =
    subst (λ q. can_lend c.room-few.result q ≡ true)
    (ap (λ us. get_or us c.lender-lender.result l) c.deref.ensures.value ∙ sym c.index_mut.ensures.value) (c.lender-lender.ensures.lends l) in
    let apart : c.lender-lender.result ≡ c.args.place → ⊥ =
    apart_from c.room-few.result c.lender-lender.result c.args.place qs l c.index.result.now
    c.index_mut.ensures.value c.index.ensures low lent (sym c.room-few.ensures.room) in
    let kept : (d : QueueView) → c.index_mut-2.result.now ≡ get_or qs c.args.place d =
    λ d. c.index_mut-2.ensures.value
    ∙ get_or-set_other qs c.lender-lender.result c.args.place c.swap.new.y c.index_mut-2.result.now (λ e. apart (sym e))
    ∙ get_or_default qs c.args.place c.index_mut-2.result.now d c.requires.known in
    with_room_exchanged n c.lender-lender.result c.args.place qs c.swap.new.y c.exchange_room.new.other c.swap-2.new.y l
    low c.requires.known apart
    (ap (λ (q : QueueView). q.room) c.exchange_room.ensures.other
    ∙ ap (λ (q : QueueView). q.room) (c.swap.ensures.x_after ∙ c.index_mut.ensures.value))
    (ap (λ (q : QueueView). q.room) (c.swap-2.ensures.y_after ∙ c.exchange_room.ensures.one)
    ∙ ap (λ (q : QueueView). q.room) (kept l))

pub returns-clause-waiters : goal.returns-clause-waiters
returns-clause-waiters c room =
    let qs = c.args.queues.now.items in
    let l = c.index_mut.result.now in
    let low : c.lender-lender.result < length qs = rw (← c.deref.ensures.value) c.lender-lender.ensures.known in
    let lent : can_lend c.room-few.result l ≡ true =
    subst (λ q. can_lend c.room-few.result q ≡ true)
    (ap (λ us. get_or us c.lender-lender.result l) c.deref.ensures.value ∙ sym c.index_mut.ensures.value) (c.lender-lender.ensures.lends l) in
    let apart : c.lender-lender.result ≡ c.args.place → ⊥ =
    apart_from c.room-few.result c.lender-lender.result c.args.place qs l c.index.result.now
    c.index_mut.ensures.value c.index.ensures low lent (sym c.room-few.ensures.room) in
    let kept : (d : QueueView) → c.index_mut-2.result.now ≡ get_or qs c.args.place d =
    λ d. c.index_mut-2.ensures.value
    ∙ get_or-set_other qs c.lender-lender.result c.args.place c.swap.new.y c.index_mut-2.result.now (λ e. apart (sym e))
    ∙ get_or_default qs c.args.place c.index_mut-2.result.now d c.requires.known in
    each_with_exchanged room c.lender-lender.result c.args.place qs c.swap.new.y c.exchange_room.new.other c.swap-2.new.y l
    low c.requires.known apart
    (ap (λ (q : QueueView). q.waiters) c.exchange_room.ensures.other ∙ ap (λ (q : QueueView). q.waiters) (kept l))
    (ap (λ (q : QueueView). q.waiters) (c.swap-2.ensures.y_after ∙ c.exchange_room.ensures.one)
    ∙ ap (λ (q : QueueView). q.waiters) (c.swap.ensures.x_after ∙ c.index_mut.ensures.value))
