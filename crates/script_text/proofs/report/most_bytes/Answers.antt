use Rattle.std.proofs.Common.{rules, ◌≡◌, ◌+◌, ◌-◌, ◌^◌, min, map, List, [], arith, subst}
use Rattle.script_text.specs.Report.{bytes_of_lines, resource_names}
use Rattle.script_text.specs.declared.report.TheConstants.{MOST_OUTCOME_BYTES, MOST_VALUE_BYTES}
use Rattle.script_text.proofs.report.most_bytes.Goals as goal
use denote.Ref.{Bor}

pub returns : goal.returns
returns c =
    let none : c.loop-name.name-iterator ≡ [] = search rules in
    let fits = c.loop-name.invariant.fits in
    let whole = subst (λ (names : List (Bor (List _))). min (c.loop-name.bytes + bytes_of_lines MOST_VALUE_BYTES (map (λ name. name.now) names)) (2 ^ 64 - 1) ≡ min (MOST_OUTCOME_BYTES + bytes_of_lines MOST_VALUE_BYTES (resource_names c.args.resources.now)) (2 ^ 64 - 1)) none c.loop-name.invariant.whole in
    omega (arith, fits, whole)
