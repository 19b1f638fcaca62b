-- The names that a built dispatcher's systems have.
use Rattle.std.specs.Prelude.{List}
use Rattle.shred_stage.specs.Known.{Known}
use Rattle.shred_stage.specs.Names.{NamedId, names_of, named_ids}
use Rattle.shred.specs.declared.dispatch.names.SystemNames.{SystemNames}

-- what each name stands for
abbrev pub names_known : SystemNames → Known
names_known names = names_of names.names

-- the names, each with what it stands for
abbrev pub names_pairs : SystemNames → List NamedId
names_pairs names = named_ids names.names
