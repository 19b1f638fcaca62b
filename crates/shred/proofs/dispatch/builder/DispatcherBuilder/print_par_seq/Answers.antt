use Rattle.shred.proofs.Names.KnownNames.{names-known}
use Rattle.shred.proofs.dispatch.builder.DispatcherBuilder.print_par_seq.Goals as goal

pub returns-clause-names : goal.returns-clause-names
returns-clause-names g c = names-known c.args.self.now.names c.args.self.now.distinct_names
