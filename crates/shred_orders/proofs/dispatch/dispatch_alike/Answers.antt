use Rattle.shred_run.specs.Depths.{lists_of, steps_of}
use Rattle.shred.specs.FullRuns.{whole_over}
use Rattle.shred_orders.proofs.OfKinds.{world-of-kinds}
use Rattle.shred_orders.proofs.OneEnd.{full-run-alike, full-run-alike-done}
use Rattle.shred_orders.proofs.OwnRecords.{KeepDeclared}
use Rattle.shred_orders.proofs.OwnWorks.{own-plan}
use Rattle.shred_orders.proofs.dispatch.dispatch_alike.Goals as goal

pub returns : goal.returns
returns g c =
    let kind = g.V.ResourceValue.kind_of in
    let related = steps_of g.S.System g.C.BatchController in
    let declared = lists_of g.S.System g.C.BatchController in
    let ran = c.dispatch-one.ensures.dispatched in
    let too = c.dispatch-two.ensures.dispatched in
    let before = whole_over kind c.args.first.now c.args.world.now in
    let other = whole_over kind c.args.second.now c.args.other.now in
    let after = whole_over kind c.dispatch-one.new.self c.dispatch-one.new.world in
    let end = whole_over kind c.dispatch-two.new.self c.dispatch-two.new.world in
    let sound = world-of-kinds kind c.args.world.now in
    let owns = own-plan declared (λ stage. stage.groups.items) (λ stage. stage.own_lists) c.args.first.now.plan.stages.items in
    let keep : KeepDeclared related declared = record { steps = λ old seen answer new left lies. lies.1; begins = λ old seen answer new left lies. lies.1; asks = λ old seen answer new left lies. lies.1 } in
    record {
      ran = ran;
      other_ran = too;
      alike = λ same one one_local had had_too. full-run-alike kind related declared g.L.RunNow.runs before other after end c.dispatch-one.result c.dispatch-two.result same ran too keep sound owns one one_local had had_too;
      alike_done = λ same one one_local is its_is. full-run-alike-done kind related declared g.L.RunNow.runs before other after end c.dispatch-one.result c.dispatch-two.result same ran too keep sound owns one one_local is its_is;
    }
