use Rattle.std.proofs.Common.{arith}
use Rattle.std.specs.Vec.{vec_len}
use Rattle.script_text.specs.Scripts.WordSays.{mode, plan, resource, times, workers}
use Rattle.script_text.proofs.Parsing.LinesSaid.{none-there, on-ok}
use Rattle.script_text.proofs.script.Script.take_outside.Goals as goal

pub returns-in-res-2 : goal.returns-in-res-2
returns-in-res-2 c = let none = none-there c.args.self.now.unended.items (vec_len c.args.self.now.unended) c.is_empty.result c.if-not-is_empty.false c.is_empty.ensures (let ok = c.args.self.now.unended.ok in omega (arith, ok)) in on-ok c.take_resource.result (λ says number. resource c.in-res-2.is none says) c.take_resource.ensures

pub returns-in-workers : goal.returns-in-workers
returns-in-workers c = let none = none-there c.args.self.now.unended.items (vec_len c.args.self.now.unended) c.is_empty.result c.if-not-is_empty.false c.is_empty.ensures (let ok = c.args.self.now.unended.ok in omega (arith, ok)) in on-ok c.take_workers.result (λ says number. workers c.in-workers.is none says) c.take_workers.ensures

pub returns-in-times : goal.returns-in-times
returns-in-times c = let none = none-there c.args.self.now.unended.items (vec_len c.args.self.now.unended) c.is_empty.result c.if-not-is_empty.false c.is_empty.ensures (let ok = c.args.self.now.unended.ok in omega (arith, ok)) in on-ok c.take_times.result (λ says number. times c.in-times.is none says) c.take_times.ensures

pub returns-in-mode : goal.returns-in-mode
returns-in-mode c = let none = none-there c.args.self.now.unended.items (vec_len c.args.self.now.unended) c.is_empty.result c.if-not-is_empty.false c.is_empty.ensures (let ok = c.args.self.now.unended.ok in omega (arith, ok)) in on-ok c.take_mode.result (λ says number. mode c.in-mode.is none says) c.take_mode.ensures

pub returns-in-plan : goal.returns-in-plan
returns-in-plan c = let none = none-there c.args.self.now.unended.items (vec_len c.args.self.now.unended) c.is_empty.result c.if-not-is_empty.false c.is_empty.ensures (let ok = c.args.self.now.unended.ok in omega (arith, ok)) in on-ok c.take_plan.result (λ says number. plan c.in-plan.is none says) c.take_plan.ensures
