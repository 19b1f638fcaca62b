-- The states of a plan's systems.
use Rattle.std.specs.Prelude.{List, Option}
use Rattle.shred_model.specs.Record.{Agent}
use Rattle.shred_model.specs.States.{listed_states}
use Rattle.shred_run.specs.declared.work.Nested.{Nested}
use Rattle.shred_run.specs.declared.work.Work.{Work}
use Rattle.shred_stage.specs.declared.dispatch.stage.Stage.{Stage}
use Rattle.shred_run.specs.Entries.{group_states}

-- the states of a stage's works, by group and place
abbrev pub stage_states : {V S C N A M B : Type 0} {vd : _} {sd : _} {ad : _} {cd : _} {bd : _} → Stage V S C N A M B vd sd ad cd bd → Agent → Option (Work S (Nested V S C))
stage_states stage path = listed_states group_states stage.groups.items path

-- the states of a plan's systems, by stage, group and place
abbrev pub plan_states : {V S C N A M B : Type 0} {vd : _} {sd : _} {ad : _} {cd : _} {bd : _} → List (Stage V S C N A M B vd sd ad cd bd) → Agent → Option (Work S (Nested V S C))
plan_states stages path = listed_states stage_states stages path
