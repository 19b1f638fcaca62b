-- Plans in which systems stand alone.
use Rattle.std.specs.Prelude.{List, []}
use Rattle.shred_table.specs.declared.id.ResourceId.{ResourceId}
use Rattle.shred_run.specs.Controls.{Refuses}
use Rattle.shred_run.specs.Depths.{Declared, Related, relations_of}
use Rattle.shred_run.specs.Steps.{Step}
use Rattle.shred_run.specs.declared.no_batch.NoBatch.{NoBatch}

-- the lists that are declared where systems stand alone
abbrev pub systems_lists : {S E : Type 0} → (S → List ResourceId) → (S → List ResourceId) → Declared S (NoBatch E)
systems_lists reads writes = record { reads = reads; writes = writes; control_reads = λ none. []; control_writes = λ none. [] }

-- the relations of a plan without batches: that of its systems' steps, and a controller's calls that refuse
abbrev pub without_batches : {V S E : Type 0} → (S → List ResourceId) → (S → List ResourceId) → Step V S E → Related V S (NoBatch E) E
without_batches reads writes steps = relations_of (systems_lists reads writes) steps Refuses Refuses
