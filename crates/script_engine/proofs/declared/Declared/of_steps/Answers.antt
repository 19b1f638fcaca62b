use Rattle.script_engine.proofs.Declares.{named-more, read-more, written-more}
use Rattle.script_engine.proofs.declared.Declared.of_steps.Goals as goal

pub loop-step-preserved : goal.loop-step-preserved
loop-step-preserved c = record {
  read = read-more c.loop-step.declared.read.items c.add.new.self.read.items _ c.args.steps.now c.loop-step.step-index _ c.loop-step-test.true c.loop-step.invariant.read c.in_ok-add.ensures.read;
  written = written-more c.loop-step.declared.written.items c.add.new.self.written.items _ c.args.steps.now c.loop-step.step-index _ c.loop-step-test.true c.loop-step.invariant.written c.in_ok-add.ensures.written;
  named = named-more c.loop-step.declared.named.items c.add.new.self.named.items _ c.args.steps.now c.loop-step.step-index _ c.loop-step-test.true c.loop-step.invariant.named c.in_ok-add.ensures.named;
}
