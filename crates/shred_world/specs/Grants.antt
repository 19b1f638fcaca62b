-- Grants: what views grant, and how handing a value out and giving one back change it.
use Rattle.std.specs.Prelude.{true, false, Bool, not, ◌&&◌, ◌||◌, Option, Some, None, List, [], ◌∷◌}
use Rattle.shred_table.specs.declared.id.Kind.{Kind}
use Rattle.shred_table.specs.declared.id.ResourceId.{ResourceId}
use Rattle.shred_table.specs.declared.table.Table.{Table}
use Rattle.shred_table.specs.declared.twin.Twin.{Twin}
use Rattle.shred_table.specs.Twins.{twin_slot, twin_held}
use Rattle.shred_world.specs.declared.world.view.View.{View}
use Rattle.shred_table.specs.Id.{same_id}
use Rattle.shred_table.specs.Slots.{slot_at, noted_in, held, with_at}
use Rattle.shred_world.specs.Views.{may_read, may_write, is_own, is_out, view_held}
use Rattle.shred_table.specs.Slots.{is_vacant}

-- which ids may be read, which may be written, which values are not shared, which are out, and what is held
pub record Grant (V : Type 0) : Type 0 where
  pub reads : ResourceId → Bool
  pub writes : ResourceId → Bool
  pub own : ResourceId → Bool
  pub out : ResourceId → Bool
  pub held : ResourceId → Option V

-- what a view grants
abbrev pub grant_of : {V : Type 0} → (V → Kind) → View V → Grant V
grant_of kind v = record { reads = may_read v; writes = may_write v; own = is_own v; out = is_out v; held = view_held kind v }

-- all of a map: each id may be read and written, nothing is shared, and nothing is out
abbrev pub map_grant : {V : Type 0} → (ResourceId → Option V) → Grant V
map_grant m = record { reads = λ q. true; writes = λ q. true; own = λ q. true; out = λ q. false; held = m }

-- whether the value of the id is handed out of the table
abbrev pub is_out_in : {V : Type 0} → Table V → ResourceId → Bool
is_out_in t id = noted_in t id && is_vacant (slot_at t id)

-- all of a table, with what is out of it: each id may be read and written, and nothing is shared
abbrev pub table_grant : {V : Type 0} → (V → Kind) → Table V → Grant V
table_grant kind t = record { reads = λ q. true; writes = λ q. true; own = λ q. true; out = is_out_in t; held = held kind t }

-- all of a table and the hand beside it, with what is out of the table: each id may be read and written, and nothing is shared
abbrev pub twin_grant : {V : Type 0} → (V → Kind) → Twin V → Grant V
twin_grant kind w = record { reads = λ q. true; writes = λ q. true; own = λ q. true; out = λ q. noted_in w.table q && is_vacant (twin_slot w q); held = twin_held kind w }

-- the grant after the value under the id was handed out
abbrev pub without : {V : Type 0} → Grant V → ResourceId → Grant V
without g id = record g { out = λ q. same_id id q || g.out q; held = with_at g.held id None }

-- the grant after this value was given back under the id
abbrev pub with_back : {V : Type 0} → Grant V → ResourceId → V → Grant V
with_back g id v = record g { out = λ q. not (same_id id q) && g.out q; held = with_at g.held id (Some v) }

-- values that were moved out, with their ids
abbrev pub Moved : Type 0 → Type 0
Moved V = List (ResourceId × V)

-- the grant after these were given back, the last of them first
abbrev pub given_back : {V : Type 0} → Grant V → Moved V → Grant V
given_back g [] = g
given_back g (m ∷ ms) = with_back (given_back g ms) m.0 m.1
