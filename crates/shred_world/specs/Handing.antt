-- Resources that are handed out: lent shared, or moved out.
use Rattle.std.specs.Prelude.{Option, Some, None, cond, ◌≡◌}
use Rattle.shred_table.specs.declared.id.Kind.{Kind}
use Rattle.shred_table.specs.declared.id.ResourceId.{ResourceId}
use Rattle.shred_world.specs.declared.world.view.View.{View}
use Rattle.shred_world.specs.declared.world.handing.Handed.{Handed}
use Rattle.shred_world.specs.declared.world.handing.Handed.TheVariants.{Lent, Moved}
use Rattle.shred_world.specs.Views.{is_own, view_held}
use Rattle.std.specs.Option.{option_map}

-- the resource that was handed out
abbrev pub handed : {R : Type 0} → Handed R → R
handed (Lent r) = r.now
handed (Moved r) = r

-- the resource, where it was moved out
abbrev pub moved_out : {R : Type 0} → Option (Handed R) → Option R
moved_out (Some (Moved r)) = Some r
moved_out (Some (Lent r)) = None
moved_out None = None

-- the value that a view moves out for an id: the one that is held, where it is not shared
abbrev pub moved_value : {V : Type 0} → (V → Kind) → View V → ResourceId → Option V
moved_value kind v id = cond (is_own v id) (view_held kind v id) None

-- the value that a view lends shared for an id: the one that is held, where it is not the view's own
abbrev pub shared_value : {V : Type 0} → (V → Kind) → View V → ResourceId → Option V
shared_value kind v id = cond (is_own v id) None (view_held kind v id)

-- the resource that was handed out shows the value; none where there is none
abbrev pub ShowsHanded : {V R : Type 0} → (R → V) → Option V → Option (Handed R) → Type 0
ShowsHanded wrapped value found = option_map (λ h. wrapped (handed h)) found ≡ value

-- the resource that was moved out is the value; none where there is none
abbrev pub HasMovedOut : {V R : Type 0} → (R → V) → Option V → Option (Handed R) → Type 0
HasMovedOut wrapped value found = option_map wrapped (moved_out found) ≡ value
