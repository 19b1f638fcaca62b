-- A bundle whose one part is chosen when the program runs.
use Rattle.std.specs.Prelude.{Option, Some, None, List, [], ◌∷◌}
use Rattle.shred_world.specs.declared.world.write.Write.{Write}
use Rattle.shred_world.specs.BundleParts.{written_value}
use Rattle.test_values.specs.declared.values.Count.{Count}
use Rattle.test_values.specs.declared.values.Value.{Value}
use Rattle.test_values.specs.declared.values.Value.TheVariants.{Count as counted}

-- what is shown of a count that may have been chosen
abbrev pub shown_chosen : {F : Type 0} → Option (Write Count F) → List (Option Value)
shown_chosen (Some write) = Some (counted (written_value write)) ∷ []
shown_chosen None = []
