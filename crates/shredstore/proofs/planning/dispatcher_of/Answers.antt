use Rattle.shred.specs.Builders.{built}
use Rattle.shred.specs.Dispatchers.{dispatcher_with}
use Rattle.shredstore.proofs.Planned.{runs-rules}
use Rattle.shredstore.proofs.planning.dispatcher_of.Goals as goal

pub returns : goal.returns
returns g c = λ values. runs-rules g.R.TableRule.meaning c.args.rules.now (built c.in_ok-builder_of.field-0) (dispatcher_with c.build.result values) c.in_ok-builder_of.ensures c.build.ensures.consistent c.build.ensures.addition c.build.ensures.plan c.build.ensures.states
