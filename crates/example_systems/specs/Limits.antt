-- Counts and limits, and the bundle of both.
use Rattle.std.specs.Prelude.{◌≡◌, ◌⊎◌, ℤ, Option, Some, None, Ok, Err, cond, pos, ◌+ℤ◌}
use Rattle.std.specs.Int.Signed.{lt_z}
use Rattle.shred_table.specs.declared.id.Kind.{Kind}
use Rattle.shred_table.specs.declared.id.ResourceId.{ResourceId}
use Rattle.shred_world.specs.declared.world.WorldError.{WorldError}
use Rattle.shred_world.specs.declared.world.view.DataError.{DataError}
use Rattle.shred_world.specs.declared.world.view.DataError.TheVariants as refused
use Rattle.shred_world.specs.Bundles.{Setup}
use Rattle.shred_table.specs.Id.{id_of}
use Rattle.shred_table.specs.Slots.{with_at}
use Rattle.shred_world.specs.Worlds.{IsKeptOrMade}
use Rattle.example_systems.specs.declared.limits.Count.{Count}
use Rattle.example_systems.specs.declared.limits.Limit.{Limit}
use Rattle.example_systems.specs.declared.limits.Value.{Value}
use Rattle.example_systems.specs.declared.limits.Value.TheVariants.{Counted, Limited}

-- the kind of a count
abbrev pub count_kind : Kind
count_kind = record { 0 = 0 }

-- the kind of a limit
abbrev pub limit_kind : Kind
limit_kind = record { 0 = 1 }

-- the kind of a value
abbrev pub kind_of : Value → Kind
kind_of (Counted count) = count_kind
kind_of (Limited limit) = limit_kind

-- A count is held after: the one that was held, or else 0; all else is as before. Where memory is wanting, the map is as before.
abbrev pub StartsAtZero : Setup Value
StartsAtZero before (Ok done) after = (count : Count)
    × IsKeptOrMade Counted (before (id_of count_kind 0)) (λ made. made ≡ record { 0 = pos 0 }) count
    × ((q : ResourceId) → after q ≡ with_at before (id_of count_kind 0) (Some (Counted count)) q)
StartsAtZero before (Err error) after = (error ≡ WorldError.OutOfMemory) × ((q : ResourceId) → after q ≡ before q)

-- one more than the count, unless it has reached the limit
abbrev pub counted_up : Count → Limit → Count
counted_up count limit = cond (lt_z count.0 limit.0) (record { 0 = count.0 +ℤ pos 1 }) count

-- A limit is held. Before, a count may be held, and else it is 0. After, it is counted up and all else is as before; this is the count that is given.
pub record IsCountedIn (before after : ResourceId → Option Value) (given : ℤ) : Type 0 where
  pub count : Count
  pub was : IsKeptOrMade Counted (before (id_of count_kind 0)) (λ made. made ≡ record { 0 = pos 0 }) count
  pub limit : Limit
  pub limit_is : before (id_of limit_kind 0) ≡ Some (Limited limit)
  pub left : (q : ResourceId) → after q ≡ with_at before (id_of count_kind 0) (Some (Counted (counted_up count limit))) q
  pub gives : given ≡ (counted_up count limit).0

-- no limit is held, and the refusal says so, with a count held now, which was held or is 0; or memory was wanting, for that count or after it
abbrev pub IsCountingRefused : (ResourceId → Option Value) → DataError → (ResourceId → Option Value) → Type 0
IsCountingRefused before (refused.Missing id) after = (id ≡ id_of limit_kind 0) × (before (id_of limit_kind 0) ≡ None) × StartsAtZero before (Ok tt) after
IsCountingRefused before refused.OutOfMemory after = StartsAtZero before (Err WorldError.OutOfMemory) after ⊎ StartsAtZero before (Ok tt) after
IsCountingRefused before _ after = ⊥
