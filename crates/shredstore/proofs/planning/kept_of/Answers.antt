use Rattle.std.proofs.Common.{sym, subst}
use Rattle.shred.specs.Builders.{built}
use Rattle.shred.specs.Dispatchers.{dispatcher_with}
use Rattle.shredstore.specs.Plans.{RunsRules}
use Rattle.shredstore.proofs.Planned.{planned-pool, runs-rules}
use Rattle.shredstore.proofs.planning.kept_of.Goals as goal

pub returns-in-Ok-clause-runs : goal.returns-in-Ok-clause-runs
returns-in-Ok-clause-runs g c values =
    let meaning = g.R.TableRule.meaning in
    let rules = c.args.rules.now in
    let planned = planned-pool meaning rules (built c.in_ok-builder_of.field-0) (built c.with_pool-builder.result) c.args.threads c.in_ok-builder_of.ensures c.with_pool-builder.ensures in
    subst (λ dispatcher. RunsRules meaning rules (dispatcher_with dispatcher values)) (sym c.in-Ok.ensures.kept)
    (runs-rules meaning rules (built c.with_pool-builder.result) (dispatcher_with c.build.result values) planned c.build.ensures.consistent c.build.ensures.addition c.build.ensures.plan c.build.ensures.states)
