use Rattle.std.specs.Prelude.{ℤ, ◌+ℤ◌, ◌*ℤ◌}
use Rattle.script_text.specs.declared.step.Operation.{Operation}
use Rattle.script_text.specs.declared.step.Operation.TheVariants.{Add, Multiply, Set}

-- what takes the place of a value
abbrev pub value_of : Operation → ℤ → ℤ → ℤ
value_of Add value operand = value +ℤ operand
value_of Multiply value operand = value *ℤ operand
value_of Set value operand = operand
