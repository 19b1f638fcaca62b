-- The entries that groups, stages and plans hold, each at its place.
use Rattle.std.specs.Prelude.{List, Option}
use Rattle.shred_model.specs.Record.{Agent}
use Rattle.shred_model.specs.States.{own_state, listed_states}
use Rattle.shred_run.specs.declared.entry.GroupEntry.{GroupEntry}
use Rattle.shred_run.specs.declared.entry.Group.{Group}
use Rattle.shred_run.specs.declared.work.Nested.{Nested}
use Rattle.shred_run.specs.declared.work.Work.{Work}
use Rattle.shred_stage.specs.declared.dispatch.stage.Stage.{Stage}
use Rattle.shred_stage.specs.declared.dispatch.stages_builder.StagesBuilder.{StagesBuilder}

-- a group's entries, by position
abbrev pub group_entry_at : {V S : Type 0} → Group V S → Agent → Option (GroupEntry V S)
group_entry_at group path = listed_states own_state group.entries.items path

-- a stage's entries, by group and position
abbrev pub stage_entry_at : {V S C N A M B : Type 0} {vd : _} {sd : _} {ad : _} {cd : _} {bd : _} → Stage V S C N A M B vd sd ad cd bd → Agent → Option (GroupEntry V (Work S (Nested V S C)))
stage_entry_at stage path = listed_states group_entry_at stage.groups.items path

-- the entries of some stages, by stage, group and position
abbrev pub plan_entry_at : {V S C N A M B : Type 0} {vd : _} {sd : _} {ad : _} {cd : _} {bd : _} → List (Stage V S C N A M B vd sd ad cd bd) → Agent → Option (GroupEntry V (Work S (Nested V S C)))
plan_entry_at stages path = listed_states stage_entry_at stages path

-- a builder's entries, by stage, group and position
abbrev pub builder_entries : {V S C N A M B : Type 0} {vd : _} {sd : _} {ad : _} {cd : _} {bd : _} → StagesBuilder V S C N A M B vd sd ad cd bd → Agent → Option (GroupEntry V (Work S (Nested V S C)))
builder_entries builder path = plan_entry_at builder.stages.items path
