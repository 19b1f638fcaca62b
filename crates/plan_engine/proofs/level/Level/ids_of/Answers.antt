use Rattle.std.proofs.Common.{[], vec_len}
use Rattle.shred.specs.Builders.{built}
use Rattle.plan_engine.proofs.Knowing.{below-more, known-more}
use Rattle.plan_engine.proofs.level.Level.ids_of.Goals as goal

pub loop-place-preserved : goal.loop-place-preserved
loop-place-preserved c =
    let level = c.args.self.now in
    let now = c.loop-place.invariant in
    let ids = c.loop-place.ids.items in
    let new = c.push_known.new.ids.items in
    record {
      ids = known-more (built level.builder).known c.args.names.now c.loop-place.place (record { ref_ptr = (0, 0); now = [] }) ids new c.id_of.result c.loop-place-test.true now.ids c.id_of.ensures.known c.in_ok-push_known.ensures;
      earlier = below-more (built level.builder).next (vec_len level.plan.declarations.entries) ids new c.id_of.result level.noted now.earlier c.id_of.ensures.below c.in_ok-push_known.ensures;
    }
