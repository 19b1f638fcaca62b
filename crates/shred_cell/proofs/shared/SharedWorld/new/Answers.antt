use Rattle.std.proofs.Common.{◌≡◌, ◌∙◌, Option, sym, ap}
use Rattle.std.specs.Prelude.{Result, Ok, Err, IfErr, is_some}
use Rattle.shred_table.specs.declared.table.Slot.{Slot}
use Rattle.shred_table.specs.Slots.{slot_at, slot_held}
use Rattle.shred_table.proofs.Tables.AsOne.{one-settled}
use Rattle.shred_table.proofs.Tables.Members.{IfOk-follows}
use Rattle.shred_cell.proofs.shared.SharedWorld.new.Goals as goal

err-follows : {A E : Type 0} {P Q : E → Type 0} (r : Result A E) → ((x : E) → P x → Q x) → IfErr r P → IfErr r Q
err-follows (Ok x) f p = tt
err-follows (Err e) f p = f e p

pub returns-in-Ok-clause-ok : goal.returns-in-Ok-clause-ok
returns-in-Ok-clause-ok g c =
    IfOk-follows c.share_each.result (λ shared shares q. shares q ∙ ap (λ (o : Option (Slot g.row.V.Denot)). is_some (slot_held g.V.ResourceValue.kind_of q o)) (c.into_twin-twin.ensures.table q)) c.share_each.ensures.ok

pub returns-in-Ok-clause-err : goal.returns-in-Ok-clause-err
returns-in-Ok-clause-err g c =
    let twin = c.into_twin-twin.result in
    let settled = c.into_twin-twin.ensures.settled in
    err-follows c.share_each.result (λ back is q. is q ∙ sym (one-settled (slot_at twin.table q) (slot_at twin.hand q) (settled.0 q) (settled.1 q)) ∙ c.into_twin-twin.ensures.table q) c.share_each.ensures.err

pub returns-in-Err-clause-err : goal.returns-in-Err-clause-err
returns-in-Err-clause-err g c = λ q.
    let twin = c.into_twin-twin.result in
    let settled = c.into_twin-twin.ensures.settled in
    c.from_twin.ensures q ∙ sym (one-settled (slot_at twin.table q) (slot_at twin.hand q) (settled.0 q) (settled.1 q)) ∙ c.into_twin-twin.ensures.table q
