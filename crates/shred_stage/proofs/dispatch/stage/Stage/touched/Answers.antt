use Rattle.std.proofs.Common.{◌≡◌, ◌<◌, length, get_or, rules, sym, ◌∙◌}
use Rattle.shred_table.specs.Id.{same_id}
use Rattle.shred_run.specs.PlanOf.{entry_access, group_plan, numbers_of}
use Rattle.shred_run.specs.Touching.{is_touched}
use Rattle.shred_stage.proofs.Planner.Earlier.{touched_stays, touched_first, touched_second}
use Rattle.shred_stage.proofs.dispatch.stage.Stage.touched.Goals as goal
use Rattle.shred_stage.proofs.dispatch.stage.Stage.touched.Goals.{then-is_touched+in-Nothing, else-is_touched}

pub returns-in_default : goal.returns-in_default
returns-in_default g c =
    let within : c.loop-place.place < length c.args.self.now.groups.items = search rules in
    let is : c.group-item.result ≡ get_or c.args.self.now.groups.items c.loop-place.place c.group-item.result = search rules in
    touched_second group_plan (is_touched same_id (numbers_of c.args.left.now) (entry_access c.args.entry.now)) c.args.self.now.groups.items c.loop-place.place c.group-item.result c.loop-place.touched
    within is c.in_default.not-Nothing c.loop-place.invariant (sym c.is_touched.ensures ∙ c.if-is_touched.true)

pub loop-place-preserved : goal.loop-place-preserved
loop-place-preserved g c =
    let within : c.loop-place.place < length c.args.self.now.groups.items = search rules in
    let is : c.group-item.result ≡ get_or c.args.self.now.groups.items c.loop-place.place c.group-item.result = search rules in
    let test = is_touched same_id (numbers_of c.args.left.now) (entry_access c.args.entry.now) in
    elim c.if-is_touched.branch [
      | then-is_touched+in-Nothing w ↦ rw w.touched-is (touched_first group_plan test c.args.self.now.groups.items c.loop-place.place c.group-item.result within is (rw w.in-Nothing.is at c.loop-place.invariant) (sym c.is_touched.ensures ∙ w.if-is_touched.true))
      | else-is_touched w ↦ rw w.touched-is (touched_stays group_plan test c.args.self.now.groups.items c.loop-place.place c.group-item.result c.loop-place.touched within is c.loop-place.invariant (sym c.is_touched.ensures ∙ w.if-is_touched.false))
    ]
