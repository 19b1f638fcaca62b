use Rattle.std.proofs.Common.{◌∙◌, rules}
use Rattle.shred.proofs.Names.KnownNames.{names-known}
use Rattle.shred.proofs.dispatch.builder.DispatcherBuilder.build_with_names.Goals as goal

pub returns-clause-names : goal.returns-clause-names
returns-clause-names g c = names-known c.args.self.names c.args.self.distinct_names

pub returns-clause-states : goal.returns-clause-states
returns-clause-states g c path = c.new_dispatcher-dispatcher.ensures.states path ∙ c.build.ensures.states path

pub returns-clause-workers : goal.returns-clause-workers
returns-clause-workers g c = search rules
