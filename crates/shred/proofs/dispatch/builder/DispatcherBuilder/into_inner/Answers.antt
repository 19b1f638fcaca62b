use Rattle.std.proofs.Common.{arith}
use Rattle.std.proofs.lemmas.List.{nil_from_length}
use Rattle.shred.specs.ThreadLocals.{systems_of}
use Rattle.shred.proofs.dispatch.builder.DispatcherBuilder.into_inner.Goals as goal

pub returns-clause-no_local : goal.returns-clause-no_local
returns-clause-no_local g c = nil_from_length (systems_of c.args.self.thread_local) (omega (arith, c.len.ensures, c.if-len-gt0.false))
