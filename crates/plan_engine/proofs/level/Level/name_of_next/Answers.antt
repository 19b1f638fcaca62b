use Rattle.std.proofs.Common.{rules, ◌≡◌, ◌++◌, IfOk, codes}
use Rattle.std.specs.Fmt.{decimal}
use Rattle.std.specs.String.{string_bytes}
use Rattle.plan_engine.proofs.Naming.{nothing-in}
use Rattle.plan_engine.proofs.level.Level.name_of_next.Goals as goal

pub returns-then-is_empty : goal.returns-then-is_empty
returns-then-is_empty c = rw (nothing-in c.args.name.now c.if-is_empty.ensures) (search rules)
