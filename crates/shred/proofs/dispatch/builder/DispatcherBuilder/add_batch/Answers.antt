use Rattle.std.proofs.Common.{sym, subst}
use Rattle.std.proofs.lemmas.Result.{IfErr-weaker, on_ok_weaker}
use Rattle.shred_stage.specs.Refusals.{IsBatchRefusal}
use Rattle.shred_stage.specs.Known.{texts_of}
use Rattle.shred.specs.Builders.{built}
use Rattle.shred.proofs.dispatch.builder.DispatcherBuilder.add_batch.Goals as goal

pub returns-clause-added : goal.returns-clause-added
returns-clause-added g c = on_ok_weaker c.place_batch.result (λ added. added (built c.args.inner) c.in_ok-tiers.ensures.plan c.in_ok-tiers.ensures.states) c.place_batch.ensures.added

pub returns-clause-refused : goal.returns-clause-refused
returns-clause-refused g c =
    let refusal = IsBatchRefusal (built c.args.inner).locals (built c.args.self.now).known (built c.args.self.now).next c.args.name.now (texts_of c.args.dependencies.now) in
    IfErr-weaker c.place_batch.result _ refusal (λ e same. subst refusal (sym same) (c.in_ok-tiers.ensures.no_local, c.in_ok-tiers.ensures.allowed)) c.place_batch.ensures.refused
