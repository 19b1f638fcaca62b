-- What every plan keeps.
use Rattle.std.specs.Prelude.{◌<◌, ◌≤◌, length}
use Rattle.shred_model.specs.Plan.{Group}

-- the group has one to four entries
abbrev pub IsSmallGroup : {I : Type 0} → Group I → Type 0
IsSmallGroup group = (0 < length group) × (length group ≤ 4)
