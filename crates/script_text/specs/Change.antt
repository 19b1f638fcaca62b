-- What a step makes of the number at its target.
use Rattle.std.specs.Prelude.{ℕ, ℤ, pos, negsuc, Bool, cond, nat_lt, Option, Some, None, Result, Ok, Err, ◌^◌}
use Rattle.shred_world.specs.Worked.{Held}
use Rattle.shred_run.specs.declared.system.Fault.{Fault}
use Rattle.shred_run.specs.declared.system.Fault.TheVariants.{Refused}
use Rattle.shred_run.specs.Steps.{Outcome}
use Rattle.shred_table.specs.Slots.{with_at}
use Rattle.script_text.specs.declared.outcome.Refusal.{Refusal}
use Rattle.script_text.specs.declared.outcome.Refusal.TheVariants.{Overflow, Undeclared}
use Rattle.script_text.specs.declared.step.Operand.{Operand}
use Rattle.script_text.specs.declared.step.Operand.TheVariants.{Number, Resource}
use Rattle.script_text.specs.declared.step.Operation.{Operation}
use Rattle.script_text.specs.declared.value.Value.{Value}
use Rattle.script_text.specs.Operation.{value_of}
use Rattle.script_text.specs.Place.{id_at, number_at}

-- whether a number fits into 64 bits with sign: it lies from -2^63 to 2^63 - 1
abbrev pub fits : ℤ → Bool
fits (pos n) = nat_lt n (2 ^ 63)
fits (negsuc n) = nat_lt n (2 ^ 63)

-- a number, or the refusal where it does not fit
abbrev pub fitted : ℤ → Result ℤ (Fault Refusal)
fitted number = cond (fits number) (Ok number) (Err (Refused Overflow))

-- the number that an operand stands for: itself, or what is held of its resource
abbrev pub operand_number : Held Value → Operand → Option ℤ
operand_number seen (Number number) = Some number
operand_number seen (Resource source) = number_at seen source

-- what an operation makes of two numbers; where a number is missing it is refused as `undeclared`
abbrev pub combined : Operation → Option ℤ → Option ℤ → Result ℤ (Fault Refusal)
combined operation (Some value) (Some operand) = fitted (value_of operation value operand)
combined operation (Some value) None = Err (Refused Undeclared)
combined operation None operand = Err (Refused Undeclared)

-- the new number at the target, or why there is none
abbrev pub changed : Held Value → ℕ → Operation → Operand → Result ℤ (Fault Refusal)
changed seen target operation operand = combined operation (number_at seen target) (operand_number seen operand)

-- a change is Done where there is a new number, and is refused where there is none
abbrev pub change_outcome : Result ℤ (Fault Refusal) → Outcome Refusal
change_outcome (Ok number) = Ok tt
change_outcome (Err fault) = Err fault

-- the new number, or the old one where there is none
abbrev pub number_left : ℤ → Result ℤ (Fault Refusal) → ℤ
number_left old (Ok number) = number
number_left old (Err fault) = old

-- the values with the new number at the target, or as they were where there is none
abbrev pub change_left : Held Value → ℕ → Result ℤ (Fault Refusal) → Held Value
change_left seen target (Ok number) = with_at seen (id_at target) (Some (record { 0 = number }))
change_left seen target (Err fault) = seen
