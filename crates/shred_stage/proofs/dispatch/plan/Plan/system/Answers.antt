use Rattle.std.proofs.Common.{◌≡◌, arith}
use Rattle.std.proofs.lemmas.Grind.{common_steps}
use Rattle.std.specs.Option.{option_map}
use Rattle.shred_stage.specs.Lookups.{plan_system}
use Rattle.shred_stage.proofs.Lookups.{lent-stands}
use Rattle.shred_stage.proofs.dispatch.plan.Plan.system.Goals as goal

pub returns-then-is_some-clause-stands : goal.returns-then-is_some-clause-stands
returns-then-is_some-clause-stands g c =
    let first : option_map (λ system. system.now) c.system-system.result ≡ plan_system c.args.id.0 c.args.self.now.stages.items = grind (arith, common_steps) in
    lent-stands c.args.self.now.stages.items c.args.id.0 c.system-system.result first
