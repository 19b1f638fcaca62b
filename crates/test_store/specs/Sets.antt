-- Rules that only set values, and ticks that tell of no entity.
use Rattle.std.specs.Prelude.{◌≡◌, ℕ, List, slice_get, Some, Err, Result}
use Rattle.shredstore.specs.declared.error.TickError.{TickError}
use Rattle.shredstore.specs.declared.error.TickError.TheVariants.{Overflow}
use Rattle.shredstore.specs.declared.rule.StoreRule.{StoreRule}
use Rattle.shredstore.specs.declared.rule.StoreRule.TheVariants.{Add}

-- none of the rules adds
abbrev pub AreSets : List StoreRule → Type 0
AreSets rules = (place x y : ℕ) → slice_get rules place ≡ Some (Add x y) → ⊥

-- the answer tells of no entity
abbrev pub TellsNone : Result (Unit {0}) TickError → Type 0
TellsNone result = (place entity : ℕ) → result ≡ Err (Overflow place entity) → ⊥
