use Rattle.std.proofs.Common.{◌≡◌, ◌≤◌, Bool, List, take}
use Rattle.std.specs.List.{AllZip}
use Rattle.std.specs.Io.KnownBytes.{Appends}
use Rattle.script_engine.specs.Tables.{IsVerdict, matching_of, verdict_lines}
use Rattle.script_engine.proofs.cases.run_table.Given as goal

abbrev pub invariant-loop-case : goal.invariant-loop-case
invariant-loop-case g l = record {
  verdicts : List Bool;
  are : AllZip IsVerdict (take l.case-index l.cases) verdicts;
  written : Appends (g.W.Write.contents l.initial.out) (g.W.Write.contents l.out) (verdict_lines (take l.case-index l.cases) verdicts);
  matching : l.matching ≡ matching_of verdicts;
  few : l.matching ≤ l.case-index;
}
