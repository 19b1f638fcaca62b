use Rattle.std.proofs.Common.{get_or}
use Rattle.shred_stage.specs.Names.{first_unnamed, named_ids}
use Rattle.shred_run.specs.PlanOf.{numbers_of}
use Rattle.shred_run.specs.declared.entry.SystemId.{SystemId}
use Rattle.shred_stage.proofs.Planner.Spots.{mapped_at}
use Rattle.shred_stage.proofs.Names.Known.{unnamed-passed, unnamed-is, none-copied}
use Rattle.shred_stage.proofs.dispatch.printing.first_unnamed_of.Goals as goal

pub returns-then-is_none : goal.returns-then-is_none
returns-then-is_none c =
    let ids = c.args.ids.now in
    let place = c.loop-id.id-index in
    unnamed-is (named_ids c.args.names.now) (numbers_of ids) place (get_or ids place (record { 0 = 0 })).0 (first_unnamed (named_ids c.args.names.now) (numbers_of ids)) (mapped_at (λ (id : SystemId). id.0) ids place (record { 0 = 0 }) c.loop-id-test.true)
    c.loop-id.invariant (none-copied c.least_name.result _ _ c.if-is_none.ensures c.least_name.ensures)

pub loop-id-preserved : goal.loop-id-preserved
loop-id-preserved c =
    let ids = c.args.ids.now in
    let place = c.loop-id.id-index in
    unnamed-passed (named_ids c.args.names.now) (numbers_of ids) place (get_or ids place (record { 0 = 0 })).0 (first_unnamed (named_ids c.args.names.now) (numbers_of ids)) (mapped_at (λ (id : SystemId). id.0) ids place (record { 0 = 0 }) c.loop-id-test.true)
    c.loop-id.invariant (none-copied c.least_name.result _ _ c.if-is_none.ensures c.least_name.ensures)
