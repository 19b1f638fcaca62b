-- Trees that run as one.
use Rattle.std.specs.Prelude.{◌≡◌, ◌⊎◌, List, Ok}
use Rattle.shred_table.specs.declared.id.ResourceId.{ResourceId}
use Rattle.shred_run.specs.Alone.{HadNoRoom}
use Rattle.shred_run.specs.Steps.{Step}
use Rattle.shred_run.specs.declared.now.Now.{Now}
use Rattle.shred_trees.specs.Trees.{Trees}
use Rattle.shred_run.specs.declared.system.System as systems

-- It is done, and nothing changes.
abbrev pub NilRuns : {V T E : Type 0} → Step V T E
NilRuns old before outcome new after = (outcome ≡ Ok tt) × (new ≡ old) × (after ≡ before)

-- a step of the system, or want of memory, where nothing changes
abbrev pub NowRuns : {V S E : Type 0} → Step V S E → Step V S E
NowRuns step old before outcome new after = step old before outcome new after ⊎ HadNoRoom old before outcome new after

module _ {V S E : Type 0} (step sets_up : Step V S E) (reads writes : S → List ResourceId) where
  -- systems, of which each run is a step
  abbrev pub exact_trees : Trees V S E
  exact_trees = record { runs = step; sets_up = sets_up; reads = reads; writes = writes }

  -- systems that may find no memory for their lists
  abbrev pub system_trees : Trees V S E
  system_trees = record { runs = NowRuns step; sets_up = sets_up; reads = reads; writes = writes }

  -- such systems, as trees
  abbrev pub now_trees : Trees V (Now S) E
  now_trees = record {
    runs = λ old before outcome new after. NowRuns step old.0 before outcome new.0 after;
    sets_up = λ old before outcome new after. sets_up old.0 before outcome new.0 after;
    reads = λ now. reads now.0;
    writes = λ now. writes now.0;
  }

module _ {V S E A : Type 0} (s : systems.Ghosts S V E A) where
  -- `exact_trees`, of what the systems tell
  abbrev pub exact_of : Trees V S E
  exact_of = exact_trees s.step s.sets_up s.reads s.writes

  -- `system_trees`, of what the systems tell
  abbrev pub system_of : Trees V S E
  system_of = system_trees s.step s.sets_up s.reads s.writes
