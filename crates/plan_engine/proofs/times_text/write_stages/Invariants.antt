use Rattle.std.proofs.Common.{◌≡◌, ◌++◌, drop}
use Rattle.std.specs.String.{string_bytes}
use Rattle.plan_engine.specs.TimesText.{stage_lines}
use Rattle.plan_engine.proofs.times_text.write_stages.Given as goal

abbrev pub invariant-loop-place : goal.invariant-loop-place
invariant-loop-place l = string_bytes l.text ++ stage_lines l.plan l.place (drop l.place l.stages) ≡ string_bytes l.initial.text ++ stage_lines l.plan 0 l.stages
