-- Groups of which there is one, of one batch.
use Rattle.std.specs.Prelude.{Bool, true, false, List, [], ◌∷◌}
use Rattle.shred_run.specs.declared.entry.Group.{Group}
use Rattle.shred_run.specs.declared.entry.GroupEntry.{GroupEntry}
use Rattle.shred_run.specs.declared.work.Work.{Work}
use Rattle.shred_run.specs.declared.work.Work.TheVariants.{System, Batch}

module _ {S B : Type 0} where
  -- whether it is a batch
  abbrev pub is_batch : Work S B → Bool
  is_batch (System system) = false
  is_batch (Batch batch) = true

  -- whether there is one entry, and a batch stands in it
  abbrev pub is_one_batch : {V : Type 0} → List (GroupEntry V (Work S B)) → Bool
  is_one_batch (entry ∷ []) = is_batch entry.work
  is_one_batch entries = false

  -- whether there is one group, of one batch
  abbrev pub is_lone_batch : {V : Type 0} → List (Group V (Work S B)) → Bool
  is_lone_batch (group ∷ []) = is_one_batch group.entries.items
  is_lone_batch groups = false
