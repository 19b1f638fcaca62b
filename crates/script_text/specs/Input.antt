-- What a reader has left, where it is known, and why a script is not read or looked through.
use Rattle.std.specs.Prelude.{ℕ, ◌<◌, List, length, Option, IfSome}
use Rattle.script_text.specs.declared.error.ScriptError.{ScriptError}
use Rattle.script_text.specs.declared.error.ScriptError.TheVariants.{TooLong, InputFailed, Line, Refused, Unnamed, OutOfMemory, OutputFailed}

-- more than so many bytes are left, where they are known
abbrev pub IsLongerThan : ℕ → Option (List ℕ) → Type 0
IsLongerThan most left = IfSome left (λ bytes. most < length bytes)

-- an error of reading: the script is too long, a read failed, or memory is refused
abbrev pub IsReadError : ScriptError → Type 0
IsReadError TooLong = Unit {0}
IsReadError InputFailed = Unit {0}
IsReadError OutOfMemory = Unit {0}
IsReadError (Line number fault) = ⊥
IsReadError (Refused number refusal) = ⊥
IsReadError (Unnamed id) = ⊥
IsReadError OutputFailed = ⊥

-- an error of looking through: a line has a fault, or memory is refused
abbrev pub IsLineError : ScriptError → Type 0
IsLineError (Line number fault) = Unit {0}
IsLineError OutOfMemory = Unit {0}
IsLineError TooLong = ⊥
IsLineError InputFailed = ⊥
IsLineError (Refused number refusal) = ⊥
IsLineError (Unnamed id) = ⊥
IsLineError OutputFailed = ⊥
