use Rattle.std.specs.Prelude.{None}
use Rattle.std.proofs.Common.{◌≡◌, [], ◌∷◌, rules}
use Rattle.shred_stage.specs.EntriesAt.{group_entry_at}
use Rattle.shred_stage.proofs.Planner.EntriesAt.{new_alone_in, new_in_group}
use Rattle.shred_stage.proofs.Planner.StageKeeps.{own_alone, kept_alone}
use Rattle.shred_stage.proofs.dispatch.stage.Stage.new.Goals as goal
use Rattle.shred_run.specs.Rules.{RuleOwns}
use Rattle.shred_run.specs.Depths.{lists_of}

pub returns-clause-added : goal.returns-clause-added
returns-clause-added g c =
    let only : c.push.new.self.items ≡ c.in_ok-group.group ∷ [] = search rules in
    new_alone_in group_entry_at c.in_ok-group.group c.push.new.self.items c.args.entry only (new_in_group c.in_ok-group.group c.args.entry c.in_ok-group.ensures.entries)

pub invariant_of-result : goal.invariant_of-result
invariant_of-result g c =
    let only : c.push.new.self.items ≡ c.in_ok-group.group ∷ [] = search rules in
    kept_alone (RuleOwns (lists_of g.S.System g.C.BatchController) None) c.in_ok-group.group c.args.entry c.push.new.self.items only c.in_ok-group.ensures.plan c.in_ok-group.ensures.ids c.in_ok-group.ensures.room
    (own_alone (RuleOwns (lists_of g.S.System g.C.BatchController) None) c.in_ok-group.group c.args.entry c.in_ok-group.ensures.entries c.requires.own_lists)
