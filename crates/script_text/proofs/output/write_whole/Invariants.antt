use Rattle.std.proofs.Common.{◌≤◌, length, take}
use Rattle.std.specs.Io.KnownBytes.{Appends}
use Rattle.script_text.proofs.output.write_whole.Given as goal

abbrev pub invariant-loop : goal.invariant-loop
invariant-loop g l = record {
  within : l.done ≤ length l.text;
  so_far : Appends (g.O.Write.contents l.initial.out) (g.O.Write.contents l.out) (take l.done l.text);
}
