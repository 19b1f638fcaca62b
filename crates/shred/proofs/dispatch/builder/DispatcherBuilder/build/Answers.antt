use Rattle.std.proofs.Common.{◌∙◌}
use Rattle.shred.proofs.dispatch.builder.DispatcherBuilder.build.Goals as goal

pub returns-clause-states : goal.returns-clause-states
returns-clause-states g c path = c.new_dispatcher.ensures.states path ∙ c.build.ensures.states path
