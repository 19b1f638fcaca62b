use Rattle.std.proofs.Common.{rules, List, ℕ, refl, sym, subst}
use Rattle.std.proofs.Math.Path.{fun_ext}
use Rattle.indexmap.specs.IndexMap.{values}
use Rattle.shred.specs.Builders.{built, builder_pairs}
use Rattle.shred.specs.FullRuns.{whole_over}
use Rattle.shred.proofs.Names.KnownNames.{names-known}
use Rattle.script_text.specs.Report.{numbers_held}
use Rattle.script_text.specs.Value.{value_kind}
use Rattle.script_engine.specs.PlanTexts.{IsPlanPart}
use Rattle.script_engine.proofs.Runs.{not-run, program-of}
use Rattle.script_engine.proofs.run_plan.prepare.Goals as goal

pub returns-in_err-dispatcher-clause-not_ready : goal.returns-in_err-dispatcher-clause-not_ready
returns-in_err-dispatcher-clause-not_ready c =
    let builder = c.in_ok-builder.builder in
    let why = not-run c.args.script (built builder) (builder_pairs builder) c.args.script.prints_plan c.in_err-dispatcher.field-0.0 refl c.in_ok-builder.ensures.made (names-known builder.names builder.distinct_names) c.in_err-dispatcher.ensures.not_planned in
    search (rules, why)

pub returns-clause-ready : goal.returns-clause-ready
returns-clause-ready c =
    let builder = c.in_ok-builder.builder in
    let of_plan = c.in_ok-dispatcher.ensures in
    record {
      plan = record {
        built = built builder;
        made = c.in_ok-builder.ensures.made;
        names = builder_pairs builder;
        known = names-known builder.names builder.distinct_names;
        planned = subst (λ (text : List ℕ). IsPlanPart c.args.script.prints_plan (builder_pairs builder) (built builder).plan text) (sym c.reserve.ensures.items) of_plan.text;
      };
      program = program-of (built builder) (numbers_held (values c.args.script.resources)) (whole_over value_kind c.in_ok-dispatcher.dispatcher c.in_ok-world.world) of_plan.plan of_plan.states (fun_ext c.in_ok-world.ensures.held) of_plan.locals of_plan.workers;
      resources = refl;
      manner = refl;
    }
