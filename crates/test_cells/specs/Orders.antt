-- Orders that are given to the values of some kinds.
use Rattle.std.specs.Prelude.{ℤ, List, [], ◌∷◌, Option, option_map}
use Rattle.shred_table.specs.declared.id.Kind.{Kind}
use Rattle.shred_table.specs.declared.id.ResourceId.{ResourceId}
use Rattle.shred_table.specs.Id.{id_of}
use Rattle.shred_table.specs.Slots.{with_at}
use Rattle.test_cells.specs.declared.numbers.Number.{Number}
use Rattle.test_cells.specs.Numbers.{after_order}

-- what is held after the order was given to the number that is held under number 0 of each of the kinds, one after the other
abbrev pub ordered : ℤ → List Kind → (ResourceId → Option Number) → ResourceId → Option Number
ordered order [] held = held
ordered order (kind ∷ kinds) held = ordered order kinds (with_at held (id_of kind 0) (option_map (λ number. after_order number order) (held (id_of kind 0))))
