use Rattle.std.proofs.Common.{[], arith}
use Rattle.shred_stage.specs.BuilderPlan.{barrier_of, planned}
use Rattle.shredmeasure.proofs.Dispatched.{on_ok, one_for_next}
use Rattle.shredmeasure.proofs.dispatcher_of.Goals as goal

pub loop-number-preserved : goal.loop-number-preserved
loop-number-preserved c =
    let inserted = on_ok c.insert.result (c.is_err.ensures.value) c.if-is_err.false c.insert.ensures.placed in
    record {
      within = omega arith;
      one_for_each = one_for_next c.loop-number.number (planned c.loop-number.builder) (planned c.insert.new.self) (barrier_of c.loop-number.builder) inserted.2.placed.start [] inserted.0 c.loop-number.invariant.one_for_each inserted.1.same_writes inserted.2.placed.placed;
    }
