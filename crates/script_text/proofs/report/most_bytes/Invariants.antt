use Rattle.std.proofs.Common.{◌≡◌, ◌≤◌, ◌+◌, ◌-◌, ◌^◌, min, map}
use Rattle.script_text.specs.Report.{bytes_of_lines, resource_names}
use Rattle.script_text.specs.declared.report.TheConstants.{MOST_OUTCOME_BYTES, MOST_VALUE_BYTES}
use Rattle.script_text.proofs.report.most_bytes.Given as goal

abbrev pub invariant-loop-name : goal.invariant-loop-name
invariant-loop-name l = record {
  whole : min (l.bytes + bytes_of_lines MOST_VALUE_BYTES (map (λ name. name.now) l.name-iterator)) (2 ^ 64 - 1) ≡ min (MOST_OUTCOME_BYTES + bytes_of_lines MOST_VALUE_BYTES (resource_names l.resources)) (2 ^ 64 - 1);
  fits : l.bytes ≤ 2 ^ 64 - 1;
}
