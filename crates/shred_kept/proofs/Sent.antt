-- What is kept for a worker may be sent to its thread.
use denote.Param.Send.{IsSend, IsSync, recorded_send, sendable, struct_send}
use denote.Param.SendFields.{as_row_send}
use denote.RattleType.{RattleType}
use denote.Struct.Declared.{shape}
use Rattle.std.proofs.Crossing.{crosses}
use Rattle.shred_run.proofs.entry.Group.TheSendSync.{the_send as group_send}
use Rattle.shred_run.proofs.entry.StageFault.TheSendSync.{the_send as fault_send}
use Rattle.shred_run.proofs.work.Batch.TheSendSync.{the_send as batch_send}
use Rattle.shred_run.proofs.work.Nested.TheLaws.TheKnot.{send-Nested}
use Rattle.shred_run.proofs.work.Work.TheSendSync.{the_send as work_send}
use Rattle.shred_run.specs.contracts.entry.Group.{the_row as group_row}
use Rattle.shred_run.specs.contracts.work.Nested.{the_row as nested_row, the_field as nested_field}
use Rattle.shred_run.specs.contracts.work.Work.{the_row as work_row}
use Rattle.shred_run.specs.declared.controller.BatchController as controllers
use Rattle.shred_run.specs.declared.system.System as systems
use Rattle.shred_table.specs.declared.accessor.Accessor as accessors
use Rattle.shred_table.specs.declared.resource.ResourceValue as values
use Rattle.shred_kept.specs.contracts.lane.StageLane.{the_row as lane_row}
use Rattle.shred_kept.specs.contracts.lane_crew.LaneCrew.{the_row as crew_row, the_type as crew_type, the_field as crew_field}
use Rattle.shred_kept.proofs.crew.Crew.TheSendSync.{the_field_send as workers_send}
use Rattle.shred_kept.proofs.laying.LevelRooms.TheSendSync.{the_field_send as levels_send}
use Rattle.shred_kept.proofs.level.Level.TheSendSync.{the_send as level_send, the_sync as level_sync}
use Rattle.shred_kept.proofs.rooms.Rooms.TheSendSync.{the_field_send as rooms_send}

module _ (V S C E A B : RattleType) (sv : IsSend V) (yv : IsSync V) (ss : IsSend S) (sc : IsSend C) (se : IsSend E) where
  -- so may a group
  group-sent : IsSend (group_row V (work_row S (nested_row V S C)))
  group-sent = group_send V (work_row S (nested_row V S C)) sv (work_send S (nested_row V S C) ss (as_row_send (nested_field V S C) (send-Nested V S C (λ row is. batch_send V C (work_row S row) sv sc (work_send S row ss is)))))

  -- a lane
  lane-sent : IsSend (lane_row V S C E A B)
  lane-sent = let group = group-sent in search (sendable, crosses, fault_send, level_send, level_sync) depth 60 fits 20000

  -- and what hands out lanes
  pub crew-sent : (v : values.Ghosts V.Denot) (s : systems.Ghosts S.Denot V.Denot E.Denot A.Denot) (a : accessors.Ghosts A.Denot) (c : controllers.Ghosts C.Denot V.Denot E.Denot B.Denot) (b : accessors.Ghosts B.Denot) → IsSend (crew_row V S C E A B v s a c b)
  crew-sent v s a c b = recorded_send (crew_field V S C E A B v s a c b).row _ _ (crew_type V S C E A B v s a c b).to_one (struct_send (shape (crew_type V S C E A B v s a c b)) (workers_send (lane_row V S C E A B) _ lane-sent, (rooms_send (group_row V (work_row S (nested_row V S C))) group-sent, (levels_send V sv yv, tt))))
