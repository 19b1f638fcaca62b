-- Lanes of a stage: groups, and the levels that lie behind their hands.
use Rattle.std.specs.Prelude.{◌≡◌, ◌==◌, false, ℕ, List, [], All, Option, Vec, length}
use Rattle.std.specs.declared.alloc.Global.{Global}
use Rattle.std.specs.declared.sync.Arc.{Arc}
use Rattle.shred_model.specs.Beside.{AllWent}
use Rattle.shred_model.specs.Runs.{Answer}
use Rattle.shred_run.specs.declared.controller.BatchController as controllers
use Rattle.shred_run.specs.declared.entry.Group.{Group}
use Rattle.shred_run.specs.declared.entry.StageFault.{StageFault}
use Rattle.shred_run.specs.declared.system.System as systems
use Rattle.shred_run.specs.declared.work.Nested.{Nested}
use Rattle.shred_run.specs.declared.work.Work.{Work}
use Rattle.shred_run.specs.Depths.{lists_of, steps_of}
use Rattle.shred_run.specs.Lanes.{GroupWent, IsReady}
use Rattle.shred_run.specs.OwnSlots.{lent_before}
use Rattle.shred_run.specs.Rules.{RuleOwns, RuleStep}
use Rattle.shred_run.specs.Steppers.{IsStepBy}
use Rattle.shred_run.specs.Steps.{Outcome, Step}
use Rattle.shred_table.specs.declared.id.Kind.{Kind}
use Rattle.shred_table.specs.declared.id.ResourceId.{ResourceId}
use Rattle.shred_table.specs.declared.table.Table.{Table}
use Rattle.shred_table.specs.Shown.{Lent}
use Rattle.shred_world.specs.declared.world.view.Shelf.{Shelf}
use Rattle.shred_world.specs.Views.{lent_slot}
use Rattle.shred_kept.specs.declared.level.Level.{Level}
use Rattle.shred_kept.specs.Levels.{AreLaid, lent_by, levels_of}

module _ {V X : Type 0} (own : X → List ResourceId → List ResourceId → Type 0) where
  -- each group is ready to run over what is lent
  abbrev pub AreReadyOver : Lent V → List (Group V X) → Type 0
  AreReadyOver lent groups = All (IsReady own lent) groups

  -- the groups went their way over what is lent
  abbrev pub WentOver : {E : Type 0} → (V → Kind) → Step V X E → Lent V → List (Group V X) → Answer (StageFault E) → List (Group V X) → Type 0
  WentOver kind step lent old answer new = AllWent (GroupWent kind step own lent) old answer new

  -- Some levels are laid, and each group is ready to run over what they lend.
  pub record IsLaneReady (levels : List (Level V)) (groups : List (Group V X)) : Type 0 where
    pub some : (length levels == 0) ≡ false
    pub laid : AreLaid false (lent_slot []) levels
    pub ready : AreReadyOver (lent_by levels) groups

module _ {V S C E A B : Type 0} (s : systems.Ghosts S V E A) (c : controllers.Ghosts C V E B) where
  -- a lane of the groups is ready to run over the levels
  abbrev pub LaneReady : Option ℕ → List (Arc (Level V) Global) → Vec (Group V (Work S (Nested V S C))) Global → Type 0
  LaneReady at levels groups = IsLaneReady (RuleOwns (lists_of s c) at) (levels_of levels) groups.items

  -- each of the groups is ready to run over what the levels lend
  abbrev pub ReadyOverLevels : Option ℕ → List (Arc (Level V) Global) → Vec (Group V (Work S (Nested V S C))) Global → Type 0
  ReadyOverLevels at levels groups = AreReadyOver (RuleOwns (lists_of s c) at) (lent_by (levels_of levels)) groups.items

  -- each of the groups is ready to run over the table, before the shelf
  abbrev pub ReadyBefore : Option ℕ → Table V → List (Shelf V) → Vec (Group V (Work S (Nested V S C))) Global → Type 0
  ReadyBefore at table shelf groups = AreReadyOver (RuleOwns (lists_of s c) at) (lent_before table (lent_slot shelf)) groups.items

module _ {V S C E A B : Type 0} (kind : V → Kind) (s : systems.Ghosts S V E A) (c : controllers.Ghosts C V E B) where
  -- each of the groups ran over what the levels lend
  abbrev pub RanOverLevels : Option ℕ → List (Arc (Level V) Global) → Vec (Group V (Work S (Nested V S C))) Global → Answer (StageFault E) → Vec (Group V (Work S (Nested V S C))) Global → Type 0
  RanOverLevels at levels old answer new = WentOver (RuleOwns (lists_of s c) at) kind (RuleStep kind (steps_of s c) at) (lent_by (levels_of levels)) old.items answer new.items

  -- what stands in an entry made its step over what the levels lend
  abbrev pub SteppedOverLevels : Option ℕ → (reads writes : List ResourceId) → List (Arc (Level V) Global) → Work S (Nested V S C) → Table V → Outcome E → Work S (Nested V S C) → Table V → Type 0
  SteppedOverLevels at reads writes levels old before outcome new after = IsStepBy kind (RuleOwns (lists_of s c) at) (RuleStep kind (steps_of s c) at) reads writes (lent_by (levels_of levels)) old before outcome new after

  -- each of the groups ran over the table, before the shelf
  abbrev pub RanBefore : Option ℕ → Table V → List (Shelf V) → Vec (Group V (Work S (Nested V S C))) Global → Answer (StageFault E) → Vec (Group V (Work S (Nested V S C))) Global → Type 0
  RanBefore at table shelf old answer new = WentOver (RuleOwns (lists_of s c) at) kind (RuleStep kind (steps_of s c) at) (lent_before table (lent_slot shelf)) old.items answer new.items
