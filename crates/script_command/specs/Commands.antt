-- What the program is asked for.
use Rattle.std.specs.Prelude.{ℕ, List, [], ◌∷◌, cond, codes}
use Rattle.std.specs.Str.{bytes_eq}
use Rattle.script_command.specs.declared.command.Command.{Command}
use Rattle.script_command.specs.declared.command.Command.TheVariants.{Script, Demo, Usage}

-- what the words behind the program's name ask for: none a script, `demo` alone the demo, and any others its usage
abbrev pub command_by : List (List ℕ) → Command
command_by [] = Script
command_by (word ∷ []) = cond (bytes_eq word (codes "demo")) Demo Usage
command_by (word ∷ other ∷ rest) = Usage
