use Rattle.std.proofs.Common.{◌≡◌, take, drop}
use Rattle.indexmap.specs.IndexMap.{values}
use Rattle.shred_table.specs.declared.id.ResourceId.{ResourceId}
use Rattle.shred_world.specs.Worlds.{world_held}
use Rattle.script_text.specs.Report.{numbers_held}
use Rattle.script_text.specs.Value.{value_kind}
use Rattle.script_text.proofs.first_values.world_of.Given as goal

abbrev pub invariant-loop-place : goal.invariant-loop-place
invariant-loop-place l = record {
  held : (id : ResourceId) → world_held value_kind l.world id ≡ numbers_held (take l.place-iterator.count (values l.resources)) id;
  rest : l.place-iterator.iter ≡ drop l.place-iterator.count (values l.resources);
}
