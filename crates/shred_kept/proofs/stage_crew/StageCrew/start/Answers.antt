use denote.Exit.{no}
use denote.Param.{param}
use denote.Param.Send.{arg_send, param_send}
use Rattle.shred_kept.proofs.Sent.{crew-sent}
use Rattle.shred_kept.proofs.stage_crew.StageCrew.start.Goals as goal

pub start_each-requires-send-X : goal.start_each-requires-send-X
start_each-requires-send-X g c = λ κs within.
    let send = c.type_bounds in
    let V = param 1 g.row.V in
    let S = param 2 g.row.S in
    let C = param 3 g.row.C in
    let E = param 4 g.row.E in
    let A = param 5 g.row.S-Accessor in
    let B = param 6 g.row.C-Accessor in
    param_send 2 _ (arg_send _ no _ (crew-sent V S C E A B send.send-V send.sync-V send.send-S send.send-C send.send-E g.V.ResourceValue g.S.System g.S.Accessor.Accessor g.C.BatchController g.C.Accessor.Accessor))
