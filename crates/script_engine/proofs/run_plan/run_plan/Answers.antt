use Rattle.std.proofs.Common.{◌++◌, List, ℕ, inl, inr, subst}
use Rattle.std.specs.Io.KnownBytes.{Appends}
use Rattle.std.proofs.KnownBytes.{Appends-trans}
use Rattle.shred_stage.specs.Sinks.{AppendsBeginning}
use Rattle.shred_world.specs.Worlds.{world_held}
use Rattle.script_text.specs.Report.{report, resource_names}
use Rattle.script_text.specs.Value.{value_kind}
use Rattle.script_engine.proofs.Printed.{begun-behind}
use Rattle.script_engine.proofs.Runs.{run-of}
use Rattle.script_engine.proofs.run_plan.run_plan.Goals as goal

pub returns-in-Err : goal.returns-in-Err
returns-in-Err g c = (
  c.in_ok-ready.ready.text.items,
  inl c.in_ok-ready.ensures.ready.plan,
  subst (λ (text : List ℕ). AppendsBeginning (g.O.Write.contents c.args.out.now) (g.O.Write.contents c.print_plan.new.out) text) c.as_slice.ensures.value c.in-Err.ensures.beginning,
)

pub returns-in-Ok : goal.returns-in-Ok
returns-in-Ok g c =
    let ready = c.in_ok-ready.ready in
    let old = g.O.Write.contents c.args.out.now in
    let middle = g.O.Write.contents c.print_plan.new.out in
    let rest = report (resource_names ready.resources) (world_held value_kind c.set_up_and_dispatch.new.world) c.of-outcome.result in
    let first = subst (λ (text : List ℕ). Appends old middle text) c.as_slice.ensures.value c.in_default.ensures.whole in (
      ready.text.items ++ rest,
      run-of c.args.script ready c.in_ok-ready.ensures.ready c.set_up_and_dispatch.result (world_held value_kind c.set_up_and_dispatch.new.world) c.of-outcome.result c.set_up_and_dispatch.ensures c.of-outcome.ensures,
      Appends-trans old middle (g.O.Write.contents c.print_report.new.out) ready.text.items rest first c.in-Ok.ensures.whole,
    )

pub returns : goal.returns
returns g c =
    let ready = c.in_ok-ready.ready in
    let old = g.O.Write.contents c.args.out.now in
    let middle = g.O.Write.contents c.print_plan.new.out in
    let rest = report (resource_names ready.resources) (world_held value_kind c.set_up_and_dispatch.new.world) c.of-outcome.result in
    let first = subst (λ (text : List ℕ). Appends old middle text) c.as_slice.ensures.value c.in_default.ensures.whole in (
      ready.text.items ++ rest,
      inr (c.of-outcome.result, run-of c.args.script ready c.in_ok-ready.ensures.ready c.set_up_and_dispatch.result (world_held value_kind c.set_up_and_dispatch.new.world) c.of-outcome.result c.set_up_and_dispatch.ensures c.of-outcome.ensures),
      begun-behind old middle (g.O.Write.contents c.print_report.new.out) ready.text.items rest first c.in-Err-print_report.ensures.beginning,
    )
