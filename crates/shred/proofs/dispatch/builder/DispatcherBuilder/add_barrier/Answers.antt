use Rattle.std.proofs.Common.{◌∙◌, refl, sym}
use Rattle.shred.proofs.Names.Consistent.{still-consistent}
use Rattle.shred.proofs.dispatch.builder.DispatcherBuilder.add_barrier.Goals as goal

pub invariant_of-self : goal.invariant_of-self
invariant_of-self g c = record {
  distinct_names = c.args.self.now.distinct_names;
  known_planned = λ name id e. rw c.add_barrier.ensures.plan (c.args.self.now.known_planned name id e);
  ordered = λ is. rw c.add_barrier.ensures.plan (c.args.self.now.ordered (sym c.add_barrier.ensures.rule ∙ is));
  consistent = still-consistent _ _ c.add_barrier.ensures.plan (λ name. refl) refl c.args.self.now.consistent;
}
