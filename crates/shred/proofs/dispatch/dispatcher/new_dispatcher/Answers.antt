use Rattle.std.proofs.Common.{rules}
use Rattle.shred.proofs.dispatch.dispatcher.new_dispatcher.Goals as goal

pub returns-clause-plan : goal.returns-clause-plan
returns-clause-plan g c = search rules

pub returns-clause-states : goal.returns-clause-states
returns-clause-states g c = search rules
