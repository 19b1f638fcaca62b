use Rattle.std.proofs.Common.{arith, refl}
use Rattle.shred_stage.proofs.Planner.Addition.{keeps-without}
use Rattle.shred.proofs.Names.Consistent.{still-consistent}
use Rattle.shred.proofs.dispatch.builder.DispatcherBuilder.add_rule.Goals as goal

pub invariant_of-self : goal.invariant_of-self
invariant_of-self g c = record {
  distinct_names = c.args.self.now.distinct_names;
  known_planned = λ name id e. rw c.set_rule.ensures.plan (c.args.self.now.known_planned name id e);
  ordered = λ is. rw c.set_rule.ensures.plan (keeps-without _ c.args.self.now.next (omega (arith, c.if-self-gt0.false)) c.args.self.now.consistent.below);
  consistent = still-consistent _ _ c.set_rule.ensures.plan (λ name. refl) refl c.args.self.now.consistent;
}
