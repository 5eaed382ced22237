use Rattle.pim_shared.specs.Publishers.{state_of}
use Rattle.pim_shared.proofs.Beginning.{begins_turns}
use Rattle.pim_shared.proofs.publisher.begun.Goals as goal

pub publish_as-writer-requires : goal.publish_as-writer-requires
publish_as-writer-requires g c next is = begins_turns _ (state_of c.args.writer) next c.requires is
