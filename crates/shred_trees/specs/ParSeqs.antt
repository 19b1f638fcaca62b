-- Dispatchers of trees.
use Rattle.std.specs.Prelude.{◌⊎◌, ℕ}
use Rattle.shred_table.specs.declared.id.Kind.{Kind}
use Rattle.shred_world.specs.Worked.{Held}
use Rattle.shred_run.specs.Alone.{HadNoRoom}
use Rattle.shred_run.specs.Steps.{Outcome}
use Rattle.shred_trees.specs.declared.par_seq.ParSeq.{ParSeq}
use Rattle.shred_trees.specs.Trees.{Trees, IsRun}
use Rattle.shred_table.specs.declared.table.Table.{Table}
use Rattle.shred_table.specs.Slots.{held}
use Rattle.shred_world.specs.Worlds.{local_held, world_held}
use Rattle.shred_world.specs.declared.world.World.{World}
use Rattle.shred_world.specs.declared.world.local.LocalWorld.{LocalWorld}

-- the tree
abbrev pub tree_of : {T E : Type 0} → ParSeq T E → T
tree_of par_seq = par_seq.tree

-- how many threads the halves of a `Par` in it may run on: one, or more
abbrev pub workers_of : {T E : Type 0} → ParSeq T E → ℕ
workers_of par_seq = par_seq.workers

-- a run of the tree, or want of memory, where nothing changes
abbrev pub ParSeqRan : {V T E : Type 0} → (V → Kind) → Trees V T E → T → Held V → Outcome E → T → Held V → Type 0
ParSeqRan kind trees old before outcome new after = IsRun kind trees old before outcome new after ⊎ HadNoRoom old before outcome new after

module _ {V T E : Type 0} (kind : V → Kind) (trees : Trees V T E) where
  -- the tree ran over what the table holds
  abbrev pub TreeRanOver : T → Table V → Outcome E → T → Table V → Type 0
  TreeRanOver old before outcome new after = IsRun kind trees old (held kind before) outcome new (held kind after)

  -- the tree ran over what the local world holds
  abbrev pub TreeRanWithin : T → LocalWorld V → Outcome E → T → LocalWorld V → Type 0
  TreeRanWithin old before outcome new after = IsRun kind trees old (local_held kind before) outcome new (local_held kind after)

  -- the dispatcher's tree ran over what the world holds, or there was no memory for it
  abbrev pub ParSeqRanOver : ParSeq T E → World V → Outcome E → ParSeq T E → World V → Type 0
  ParSeqRanOver old before outcome new after = ParSeqRan kind trees (tree_of old) (world_held kind before) outcome (tree_of new) (world_held kind after)
