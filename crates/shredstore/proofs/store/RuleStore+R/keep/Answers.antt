use Rattle.std.proofs.Common.{subst}
use Rattle.shred.specs.Dispatchers.{dispatcher_with}
use Rattle.shred.specs.KeptDispatchers.{dispatcher_of}
use Rattle.shredstore.specs.Plans.{RunsOverAny}
use Rattle.shredstore.proofs.store.RuleStore+R.keep.Goals as goal

pub invariant_of-result : goal.invariant_of-result
invariant_of-result g c = record { runs_rules = ∣ subst (λ rules. RunsOverAny g.R.TableRule.meaning rules (dispatcher_with (dispatcher_of c.in-Ok.runner))) c.deref.ensures.value c.in-Ok.ensures.runs ∣₁ }
