use Rattle.std.proofs.Common.{sym, subst}
use Rattle.shred.specs.Dispatchers.{dispatcher_with}
use Rattle.shredstore.specs.Plans.{RunsRules}
use Rattle.shredstore.proofs.store.store_of.Goals as goal

pub invariant_of-result : goal.invariant_of-result
invariant_of-result g c = record { runs_rules = ∣ (λ values. subst (λ rules. RunsRules g.R.TableRule.meaning rules (dispatcher_with c.in_ok-dispatcher_of.field-0 values)) (sym c.in_ok-from_slice.ensures.items) (c.in_ok-dispatcher_of.ensures values)) ∣₁ }
