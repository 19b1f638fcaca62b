use Rattle.std.proofs.Common.{◌≡◌, ◌++◌, [], length}
use Rattle.std.specs.Vec.Iter.{into_iter_items, into_iter_len}
use Rattle.script_engine.specs.Building.{building_of, values_of}
use Rattle.script_engine.specs.Lines.{AreBuiltBy}
use Rattle.script_engine.specs.Notes.{AreAllTaken}
use Rattle.script_engine.proofs.walk.take_lines.Given as goal

abbrev pub invariant-loop-line : goal.invariant-loop-line
invariant-loop-line g l = record {
  made : AreBuiltBy l.yielded (building_of g.B.LineTaker.noting l.building);
  noted : AreAllTaken g.B.LineTaker.noting l.yielded (record { current = l.fn.empty; pending = [] }) (values_of l.building);
  rest : l.yielded ++ into_iter_items l.line-iterator ≡ l.fn.lines.items;
  long : into_iter_len l.line-iterator ≡ length (into_iter_items l.line-iterator);
}
