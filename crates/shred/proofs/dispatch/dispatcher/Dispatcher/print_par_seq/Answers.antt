use Rattle.shred.proofs.Names.KnownNames.{names-known}
use Rattle.shred.proofs.dispatch.dispatcher.Dispatcher.print_par_seq.Goals as goal

pub returns-clause-names : goal.returns-clause-names
returns-clause-names g c = names-known c.args.names.now.names c.args.names.now.distinct_names
