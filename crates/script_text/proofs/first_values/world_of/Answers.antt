use Rattle.std.proofs.Common.{◌≡◌, arith, w64, of_z, to_z}
use Rattle.std.proofs.lemmas.Int.{ints}
use Rattle.indexmap.specs.IndexMap.{values}
use Rattle.shred_world.specs.Worlds.{world_held}
use Rattle.script_text.specs.Value.{value_kind}
use Rattle.script_text.proofs.FirstHeld.{first_held-put, rest-after}
use Rattle.script_text.proofs.first_values.world_of.Goals as goal

pub loop-place-preserved : goal.loop-place-preserved
loop-place-preserved c =
    let same : to_z w64 (of_z w64 c.in-Some.first.now) ≡ c.in-Some.first.now = omega (arith, ints) in
    let turn = c.in-Some.ensures.steps in
    record {
      held = first_held-put (values c.args.resources.now) c.loop-place.place-iterator.iter c.next.new.self.iter c.loop-place.place-iterator.count c.in-Some.place c.next.new.self.count c.id_at.result c.in-Some.first.now _
          (world_held value_kind c.loop-place.world) (world_held value_kind c.insert_by_id.new.self) c.loop-place.invariant.rest turn.0 turn.1 turn.2 c.id_at.ensures same c.loop-place.invariant.held (c.in-Ok.ensures.ok.1);
      rest = rest-after (values c.args.resources.now) c.loop-place.place-iterator.iter c.next.new.self.iter c.loop-place.place-iterator.count c.next.new.self.count c.in-Some.first.now c.loop-place.invariant.rest turn.0 turn.2;
    }
