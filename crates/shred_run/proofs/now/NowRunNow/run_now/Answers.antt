use Rattle.shred_run.specs.Alone.{KeepsKinds, StepsAlone}
use Rattle.shred_world.proofs.Views.Settled.{over-kept, same-settled}
use Rattle.shred_run.proofs.now.NowRunNow.run_now.Goals as goal

pub keep-requires : goal.keep-requires
keep-requires g c = same-settled c.twin_of_local-twin.result.now.table c.run_alone-outcome.new.table c.twin_of_local-twin.result.now.hand c.twin_of_local-twin.ensures.settled c.run_alone-outcome.ensures.slots

pub returns-clause-runs : goal.returns-clause-runs
returns-clause-runs g c =
    over-kept g.V.ResourceValue.kind_of (λ before after. StepsAlone g.V.ResourceValue.kind_of g.S.System.step g.S.System.reads g.S.System.writes c.args.self.now.0 before c.run_alone-outcome.result c.run_alone-outcome.new.system after)
    c.twin_of_local-twin.result.now c.run_alone-outcome.new.table c.args.world.now c.keep.new.local c.twin_of_local-twin.ensures.table c.twin_of_local-twin.ensures.settled c.run_alone-outcome.ensures.slots c.keep.ensures c.run_alone-outcome.ensures.ran

pub returns-clause-kinds : goal.returns-clause-kinds
returns-clause-kinds g c =
    over-kept g.V.ResourceValue.kind_of (λ before after. KeepsKinds g.V.ResourceValue.kind_of before after)
    c.twin_of_local-twin.result.now c.run_alone-outcome.new.table c.args.world.now c.keep.new.local c.twin_of_local-twin.ensures.table c.twin_of_local-twin.ensures.settled c.run_alone-outcome.ensures.slots c.keep.ensures c.run_alone-outcome.ensures.kinds
