-- What is written of ids of systems, in bytes.
use Rattle.std.specs.Prelude.{List, ℕ, ◌++◌, codes}
use Rattle.std.specs.Fmt.{decimal}
use Rattle.shred_run.specs.declared.entry.SystemId.{SystemId}

-- a system's id, by its number
abbrev pub system_text : SystemId → List ℕ
system_text id = codes "system " ++ decimal id.0
