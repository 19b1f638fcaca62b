use Rattle.std.proofs.Common.{arith, ◌∙◌}
use Rattle.shred_stage.proofs.Names.Sinks.{put-more}
use Rattle.shred_stage.proofs.dispatch.sink.put_all.Goals as goal

pub loop-done-preserved : goal.loop-done-preserved
loop-done-preserved g c = record {
  within = omega (arith, c.in-Ok.ensures.beginning, c.split_at.ensures.back_len, c.loop-done.invariant.within);
  so_far = put-more _ (g.W.PlanSink.told c.loop-done.sink) _ c.args.text.now c.split_at.result.1.now c.loop-done.done c.in-Ok.count c.loop-done.invariant.so_far c.split_at.ensures.back c.in-Ok.ensures.taken;
  no_failure = c.in-Ok.ensures.no_failure ∙ c.loop-done.invariant.no_failure;
}
