use Rattle.std.proofs.Common.{◌≡◌, length}
use Rattle.script_text.specs.Scripts.{LinesSay, said_by}
use Rattle.script_text.proofs.Parsing.LinesSaid.{texts_at}
use Rattle.script_text.proofs.script.Script.take_lines.Given as goal

abbrev pub invariant-loop-index : goal.invariant-loop-index
invariant-loop-index l = record {
  count : l.index-iterator.count ≡ length l.yielded;
  say : LinesSay 1 (texts_at l.yielded) (said_by l.fn.self) (said_by l.self);
}
