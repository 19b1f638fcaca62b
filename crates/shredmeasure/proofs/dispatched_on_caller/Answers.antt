use Rattle.std.proofs.Common.{◌≡◌, subst, arith}
use Rattle.shred_world.specs.Worlds.{world_held}
use Rattle.shredmeasure.specs.Counts.{kind_of}
use Rattle.shredmeasure.specs.Measured.{HasCountEach}
use Rattle.shredmeasure.proofs.Dispatched.{on_ok}
use Rattle.shredmeasure.proofs.dispatched_on_caller.Goals as goal

pub loop-preserved : goal.loop-preserved
loop-preserved c = record {
  within = omega arith;
  each = on_ok c.dispatch_once_on_caller.result c.is_err.ensures.value c.if-is_err.false c.dispatch_once_on_caller.ensures c.args.order.systems c.loop.counter c.loop.invariant.each;
}

pub returns : goal.returns
returns c =
    let times : c.loop.counter ≡ c.args.order.times = omega arith in
    subst (λ t. HasCountEach c.args.order.systems t (world_held kind_of c.loop.world)) times c.loop.invariant.each.1
