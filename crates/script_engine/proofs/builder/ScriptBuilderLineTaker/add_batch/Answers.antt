use Rattle.std.proofs.Common.{ap, subst}
use Rattle.shred.specs.Builders.{built}
use Rattle.shred_stage.specs.Known.{texts_of}
use Rattle.shred_stage.specs.Refusals.{IsBatchRefusal}
use Rattle.script_engine.proofs.Lines.{batch-added-by, not-added-by}
use Rattle.script_engine.proofs.builder.ScriptBuilderLineTaker.add_batch.Goals as goal

pub returns-in-Ok-clause-added : goal.returns-in-Ok-clause-added
returns-in-Ok-clause-added c =
    batch-added-by c.args.batch (built c.args.inner) (built c.args.self.now) (built c.add_batch.new.self) _ (ap texts_of c.as_slice-dependencies.ensures.value) c.in-Ok.ensures.no_local c.in-Ok.ensures.allowed c.in-Ok.ensures.added

pub returns-clause-not_added : goal.returns-clause-not_added
returns-clause-not_added c =
    let around = built c.args.self.now in
    let inner = built c.args.inner in
    let why = subst (λ needs. IsBatchRefusal inner.locals around.known around.next c.args.batch.name.now needs c.in-Err.error) (ap texts_of c.as_slice-dependencies.ensures.value) c.in-Err.ensures.refused in
    not-added-by c.args.end c.args.batch around inner c.in-Err.error c.of_add.result c.of_add.ensures why
