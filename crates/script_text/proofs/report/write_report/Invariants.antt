use Rattle.std.proofs.Common.{◌≡◌, ℕ, List, ◌++◌, map}
use Rattle.std.specs.Io.KnownBytes.{Appends}
use Rattle.shred_world.specs.Worlds.{world_held}
use Rattle.script_text.specs.Report.{resource_names, value_lines}
use Rattle.script_text.specs.Value.{value_kind}
use Rattle.script_text.proofs.report.write_report.Given as goal

abbrev pub invariant-loop-place : goal.invariant-loop-place
invariant-loop-place g l = record {
  text : List ℕ;
  written : Appends (g.W.Write.contents l.initial.out) (g.W.Write.contents l.out) text;
  whole : text ++ value_lines l.place-iterator.count (map (λ name. name.now) l.place-iterator.iter) (world_held value_kind l.world) ≡ value_lines 0 (resource_names l.resources) (world_held value_kind l.world);
}
