use Rattle.pim_shared.specs.Publishers.{MayPublish, state_of}
use Rattle.pim_shared.proofs.Publishing.{publishes_turns}
use Rattle.pim_shared.proofs.publisher.published.Goals as goal

pub publish_as-writer-requires : goal.publish_as-writer-requires
publish_as-writer-requires g c next is =
    let may : MayPublish (state_of c.into_inner.result) = rw c.into_inner.ensures c.requires in
    publishes_turns _ (state_of c.into_inner.result) next may is
