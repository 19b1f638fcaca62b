use Rattle.shred.proofs.Names.KnownNames.{names-known}
use Rattle.shred.proofs.dispatch.names.SystemNames.name_of.Goals as goal

pub returns-clause-names : goal.returns-clause-names
returns-clause-names c = names-known c.args.self.now.names c.args.self.now.distinct_names
