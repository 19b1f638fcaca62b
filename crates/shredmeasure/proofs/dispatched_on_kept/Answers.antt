use Rattle.std.proofs.Common.{◌≡◌, subst, sym, arith}
use Rattle.shred.specs.Dispatchers.{dispatcher_plan}
use Rattle.shred_world.specs.Worlds.{world_held}
use Rattle.shredmeasure.specs.Adders.{HasOneForEach}
use Rattle.shredmeasure.specs.Counts.{kind_of}
use Rattle.shredmeasure.specs.Measured.{HasCountEach}
use Rattle.shredmeasure.proofs.Dispatched.{on_ok}
use Rattle.shredmeasure.proofs.Worlds.{zeros_each}
use Rattle.shredmeasure.proofs.dispatched_on_kept.Goals as goal

pub loop-init : goal.loop-init
loop-init g c = record {
  within = omega arith;
  each = (subst (λ d. HasOneForEach c.args.order.systems (dispatcher_plan d)) (sym c.in-Ok.ensures.kept) c.in_ok-dispatcher.ensures, zeros_each (world_held kind_of c.in_ok-world.world) c.args.order.systems c.in_ok-world.ensures);
}

pub loop-preserved : goal.loop-preserved
loop-preserved g c = record {
  within = omega arith;
  each = on_ok c.dispatch_once_on_kept.result c.is_err.ensures.value c.if-is_err.false c.dispatch_once_on_kept.ensures c.args.order.systems c.loop.counter c.loop.invariant.each;
}

pub returns : goal.returns
returns g c =
    let times : c.loop.counter ≡ c.args.order.times = omega arith in
    subst (λ t. HasCountEach c.args.order.systems t (world_held kind_of c.loop.world)) times c.loop.invariant.each.1
