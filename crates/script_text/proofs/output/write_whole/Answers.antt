use Rattle.std.proofs.Common.{arith}
use Rattle.std.proofs.KnownBytes.{Keeps-refl}
use Rattle.shred_stage.proofs.Names.Sinks.{Appends-kept}
use Rattle.script_text.proofs.Written.{written-more, written-same, written-beginning, written-none, written-all}
use Rattle.script_text.proofs.output.write_whole.Goals as goal
use Rattle.script_text.proofs.output.write_whole.Goals.{in-Ok, in-Err}

pub loop-init : goal.loop-init
loop-init g c = record { within = omega arith; so_far = Appends-kept _ _ (Keeps-refl _) }

pub returns-then-done-text-clause-whole : goal.returns-then-done-text-clause-whole
returns-then-done-text-clause-whole g c = written-all _ _ c.args.text.now c.loop.done (omega arith) c.loop.invariant.so_far

pub split_at-requires : goal.split_at-requires
split_at-requires g c = c.loop.invariant.within

pub returns-in-Ok-eq0-clause-beginning : goal.returns-in-Ok-eq0-clause-beginning
returns-in-Ok-eq0-clause-beginning g c =
    written-none _ _ _ c.args.text.now _ c.loop.done c.in-Ok-eq0.field-0 c.write.result c.loop.invariant.so_far c.in-Ok-eq0.is c.in-Ok-eq0.field-0-test c.write.ensures.bytes

pub returns-in-Err-2-clause-beginning : goal.returns-in-Err-2-clause-beginning
returns-in-Err-2-clause-beginning g c = written-beginning _ _ _ c.args.text.now c.loop.done c.loop.invariant.so_far c.in-Err.ensures.bytes

pub loop-preserved : goal.loop-preserved
loop-preserved g c = elim c.match-write.branch [
  | in-Ok w ↦ record {
    within = omega (arith, w.done-is, w.in-Ok.ensures.bound, c.split_at.ensures.back_len, c.loop.invariant.within);
    so_far = written-more _ (g.O.Write.contents c.loop.out) _ c.args.text.now c.split_at.result.1.now c.loop.done w.in-Ok.count _ c.loop.invariant.so_far c.split_at.ensures.back w.in-Ok.ensures.bytes w.done-is;
  }
  | in-Err w ↦ record {
    within = omega (arith, w.done-is, c.loop.invariant.within);
    so_far = written-same _ (g.O.Write.contents c.loop.out) _ c.args.text.now c.loop.done _ c.loop.invariant.so_far w.in-Err.ensures.bytes w.done-is;
  }
]

pub returns-clause-beginning : goal.returns-clause-beginning
returns-clause-beginning g c = written-beginning _ _ _ c.args.text.now c.loop.done c.loop.invariant.so_far (Keeps-refl _)
