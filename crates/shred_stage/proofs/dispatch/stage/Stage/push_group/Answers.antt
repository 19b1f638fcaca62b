use Rattle.std.specs.Prelude.{None}
use Rattle.std.proofs.Common.{ap, is_ok}
use Rattle.std.proofs.lemmas.Result.{err_from_is_err_and}
use Rattle.shred_model.specs.States.{listed_states}
use Rattle.shred_stage.specs.EntriesAt.{group_entry_at}
use Rattle.shred_stage.proofs.Planner.EntriesAt.{new_after_push, new_in_group}
use Rattle.shred_stage.proofs.Planner.StageKeeps.{own_alone, holds_after_push, IsKeptBy, kept_after_group}
use Rattle.shred_stage.proofs.dispatch.stage.Stage.push_group.Goals as goal
use Rattle.shred_run.specs.Rules.{RuleOwns}
use Rattle.shred_run.specs.Depths.{lists_of}

pub invariant_of-self : goal.invariant_of-self
invariant_of-self g c =
    let old = c.args.self.now in
    let before : IsKeptBy (RuleOwns (lists_of g.S.System g.C.BatchController) None) old.groups.items = record { some_group = old.some_group; small_groups = old.small_groups; apart = old.apart; keep_ids = old.keep_ids; keep_room = old.keep_room; own_lists = old.own_lists } in
    holds_after_push (IsKeptBy (RuleOwns (lists_of g.S.System g.C.BatchController) None)) (is_ok c.push.result) old.groups.items c.in_ok-group.group c.push.new.self.items c.push.ensures.items before
    (kept_after_group (RuleOwns (lists_of g.S.System g.C.BatchController) None) old.groups.items c.in_ok-group.group c.args.entry before c.in_ok-group.ensures.plan c.in_ok-group.ensures.ids c.in_ok-group.ensures.room (own_alone (RuleOwns (lists_of g.S.System g.C.BatchController) None) c.in_ok-group.group c.args.entry c.in_ok-group.ensures.entries c.requires.own_lists) c.requires.free)

pub returns-clause-added : goal.returns-clause-added
returns-clause-added g c = new_after_push group_entry_at c.args.self.now.groups.items c.in_ok-group.group c.push.new.self.items c.args.entry c.in_ok-push.ensures.items (new_in_group c.in_ok-group.group c.args.entry c.in_ok-group.ensures.entries)

pub returns-in_err-push-clause-unchanged : goal.returns-in_err-push-clause-unchanged
returns-in_err-push-clause-unchanged g c = let p = err_from_is_err_and c.from_residual-in_err-push.result c.from_residual-in_err-push.ensures.1 in rw p.1 (λ path. ap (λ items. listed_states group_entry_at items path) c.in_err-push.ensures.items)
