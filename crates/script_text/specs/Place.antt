-- Resources by their places among the declared ones.
use Rattle.std.specs.Prelude.{ℕ, ℤ, Option}
use Rattle.std.specs.Option.{option_map}
use Rattle.shred_table.specs.declared.id.ResourceId.{ResourceId}
use Rattle.shred_world.specs.declared.world.view.View.{View}
use Rattle.shred_table.specs.Id.{id_of}
use Rattle.shred_world.specs.Views.{declared_held}
use Rattle.shred_world.specs.Worked.{Held}
use Rattle.script_text.specs.declared.value.Value.{Value}
use Rattle.script_text.specs.Value.{value_kind}

-- the id of the resource at this place
abbrev pub id_at : ℕ → ResourceId
id_at place = id_of (record { 0 = 0 }) place

-- the number that is held at this place, where one is held
abbrev pub number_at : Held Value → ℕ → Option ℤ
number_at seen place = option_map (λ (v : Value). v.0) (seen (id_at place))

-- the values that a view shows of its declared ids
abbrev pub seen_through : View Value → Held Value
seen_through view = declared_held value_kind view
