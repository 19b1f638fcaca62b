-- The names that are shown of entries and of batches.
use Rattle.std.specs.Prelude.{ℕ, ◌++◌, List, [], ◌∷◌, Option, None, Some, codes}
use Rattle.std.specs.Fmt.{decimal}
use Rattle.std.specs.Option.{option_map_or}
use Rattle.std.specs.String.{string_bytes}
use Rattle.shred_run.specs.declared.entry.SystemId.{SystemId}
use Rattle.plan_engine.specs.declared.plans.Batch.{Batch}
use Rattle.plan_engine.specs.declared.plans.FullName.{FullName}

-- the name of an entry: the one that it is given, or what it is, with its id
abbrev pub entry_name : List ℕ → List ℕ → ℕ → List ℕ
entry_name kind [] id = kind ++ (codes " " ++ decimal id)
entry_name kind (byte ∷ bytes) id = byte ∷ bytes

-- the name of a batch, behind that of the batch around it, with a `/` between them
abbrev pub path_name : Option Batch → List ℕ → List ℕ
path_name None name = name
path_name (Some batch) name = string_bytes batch.name ++ (codes "/" ++ name)

-- the name of an entry, behind that of the batch that it stands in, with a `/` between them
abbrev pub full_name : FullName → List ℕ
full_name name = option_map_or (λ batch. batch.now ++ (codes "/" ++ name.name.now)) name.batch name.name.now

-- the number of an id, if there is one
abbrev pub numbers_in : Option SystemId → List ℕ
numbers_in None = []
numbers_in (Some id) = id.0 ∷ []
