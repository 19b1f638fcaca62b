use Rattle.std.proofs.Common.{◌≡◌, ◌∙◌, List, ℕ, ◌++◌, OnErr, subst}
use Rattle.shred_stage.specs.Sinks.{AppendsBeginning}
use Rattle.shred_world.specs.Worlds.{world_held}
use Rattle.script_text.specs.Report.{report, resource_names}
use Rattle.script_text.specs.Value.{value_kind}
use Rattle.script_engine.proofs.run_plan.print_report.Goals as goal

pub returns-clause-beginning : goal.returns-clause-beginning
returns-clause-beginning g c =
    let whole = report (resource_names c.args.resources.now) (world_held value_kind c.args.world.now) c.args.outcome in
    let made : c.write_report.new.out.items ≡ whole = c.in_default.ensures ∙ (λ i. c.requires i ++ whole) in
    subst (λ (text : List ℕ). OnErr c.print.result (AppendsBeginning (g.O.Write.contents c.args.out.now) (g.O.Write.contents c.print.new.out) text)) (c.as_slice.ensures.value ∙ made) c.print.ensures.beginning
