use Rattle.std.specs.Prelude.{None}
use Rattle.std.proofs.Common.{◌≡◌, length, rules}
use Rattle.std.proofs.lemmas.List.{with_items_is}
use Rattle.shred_stage.proofs.Planner.StageKeeps.{stays}
use Rattle.shred_run.specs.Depths.{lists_of}
use Rattle.shred_run.specs.Rules.{RuleOwns}
use Rattle.shred_run.specs.WorkSetups.{setups_of}
use Rattle.shred_stage.proofs.Runs.Setups.{stage-set_up}
use Rattle.shred_stage.proofs.dispatch.stage.Stage.setup.Goals as goal

pub invariant_of-self : goal.invariant_of-self
invariant_of-self g c =
    let old = c.args.self.now in
    let same : length c.set_up_groups.new.groups ≡ old.groups.len = search rules in
    let set = rw c.as_mut_slice.ensures.value at c.set_up_groups.ensures in
    rw (with_items_is old.groups c.set_up_groups.new.groups same)
    (stays (RuleOwns (lists_of g.S.System g.C.BatchController) None) c.set_up_groups.new.groups old.groups.items set.plan set.ids set.room set.own_lists
    (record { some_group = old.some_group; small_groups = old.small_groups; apart = old.apart; keep_ids = old.keep_ids; keep_room = old.keep_room; own_lists = old.own_lists }))

pub returns-clause-set_up : goal.returns-clause-set_up
returns-clause-set_up g c =
    let old = c.args.self.now in
    let same : length c.set_up_groups.new.groups ≡ old.groups.len = search rules in
    let set = rw c.as_mut_slice.ensures.value at c.set_up_groups.ensures in
    stage-set_up (setups_of g.S.System g.C.BatchController) old _ _ _ c.set_up_groups.result
    (rw (with_items_is old.groups c.set_up_groups.new.groups same) set.turns) (rw (with_items_is old.groups c.set_up_groups.new.groups same) set.plan)
