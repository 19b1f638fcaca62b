use Rattle.std.specs.Prelude.{None}
use Rattle.std.proofs.Common.{◌<◌, length}
use Rattle.std.proofs.lemmas.List.{length-map}
use Rattle.std.proofs.lemmas.Result.{on_ok_weaker, on_err_weaker}
use Rattle.shred_stage.specs.EntriesAt.{group_entry_at}
use Rattle.shred_run.specs.PlanOf.{entry_plan, group_plan}
use Rattle.shred_stage.proofs.Planner.EntriesAt.{new_when_done, same_when_refused, new_at_end_of_group, same_in_group}
use Rattle.shred_stage.proofs.Planner.Spots.{group_read}
use Rattle.shred_stage.proofs.Planner.StageKeeps.{own_after_push, IsKeptBy, kept_after_entry, plan_when_pushed, plan_when_not_pushed}
use Rattle.shred_stage.proofs.dispatch.stage.Stage.push_entry.Goals as goal
use Rattle.shred_run.specs.Rules.{RuleOwns}
use Rattle.shred_run.specs.Depths.{lists_of}

pub invariant_of-self : goal.invariant_of-self
invariant_of-self g c =
    let old = c.args.self.now in
    let before : IsKeptBy (RuleOwns (lists_of g.S.System g.C.BatchController) None) old.groups.items = record { some_group = old.some_group; small_groups = old.small_groups; apart = old.apart; keep_ids = old.keep_ids; keep_room = old.keep_room; own_lists = old.own_lists } in
    let within : c.args.group < length old.groups.items = rw (length-map old.groups.items group_plan) at c.requires.within in
    let here = group_read old.groups.items c.args.group c.index_mut.result.now within c.index_mut.ensures.value in
    kept_after_entry (RuleOwns (lists_of g.S.System g.C.BatchController) None) c.push.result old.groups.items c.args.group c.push.new.self c.args.entry before c.requires.within c.requires.room c.requires.others (rw here (c.push.ensures.ok, c.push.ensures.err)) c.push.ensures.ids c.push.ensures.room
    (own_after_push (RuleOwns (lists_of g.S.System g.C.BatchController) None) c.push.result c.index_mut.result.now c.push.new.self c.args.entry c.push.ensures.added c.push.ensures.unchanged (rw c.index_mut.ensures.value (old.own_lists c.args.group c.index_mut.result.now within)) c.requires.own_lists)

pub returns : goal.returns
returns g c =
    let groups = c.args.self.now.groups.items in
    let within : c.args.group < length groups = rw (length-map groups group_plan) at c.requires.within in
    let here = group_read groups c.args.group c.index_mut.result.now within c.index_mut.ensures.value in
    record {
      ok = plan_when_pushed c.push.result groups c.args.group c.push.new.self (entry_plan c.args.entry) (rw here (c.push.ensures.ok, c.push.ensures.err));
      err = plan_when_not_pushed c.push.result groups c.args.group c.push.new.self (entry_plan c.args.entry) (rw here (c.push.ensures.ok, c.push.ensures.err));
      added = new_when_done group_entry_at c.push.result groups c.args.group c.index_mut.result.now c.push.new.self c.args.entry within c.index_mut.ensures.value
          (on_ok_weaker c.push.result (new_at_end_of_group c.index_mut.result.now c.push.new.self c.args.entry) c.push.ensures.added);
      unchanged = same_when_refused group_entry_at c.push.result groups c.args.group c.index_mut.result.now c.push.new.self c.index_mut.ensures.value
          (on_err_weaker c.push.result (same_in_group c.index_mut.result.now c.push.new.self) c.push.ensures.unchanged);
    }
