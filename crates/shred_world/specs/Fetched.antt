-- What fetches show.
use Rattle.std.specs.Prelude.{◌≡◌, Option, Some}
use Rattle.std.specs.Option.{option_map}
use Rattle.shred_table.specs.declared.id.Kind.{Kind}
use Rattle.shred_table.specs.declared.id.ResourceId.{ResourceId}
use Rattle.shred_table.specs.Id.{id_kind}
use Rattle.shred_world.specs.declared.world.fetch.Fetch.{Fetch}
use Rattle.std.specs.Borrow.{MutBor}

-- what a fetch shows
abbrev pub fetched : {R : Type 0} → Fetch R → R
fetched f = f.resource.now

-- the fetch shows what is held under the id
abbrev pub IsFetched : {V R : Type 0} → (ResourceId → Option V) → (R → V) → ResourceId → Fetch R → Type 0
IsFetched held wrapped id f = held id ≡ Some (wrapped (fetched f))

-- the id is of the kind that was asked for, and what was found is what is held under it
abbrev pub IsFoundIn : {V F : Type 0} → (ResourceId → Option V) → Kind → (F → V) → ResourceId → Option F → Type 0
IsFoundIn held asked value id found = (asked ≡ id_kind id) × (option_map value found ≡ held id)

-- the id is of the kind that was asked for, and the resource that is lent is what is held under it
abbrev pub IsLentFrom : {V R : Type 0} → (ResourceId → Option V) → Kind → (R → V) → ResourceId → MutBor R → Type 0
IsLentFrom held asked wrapped id r = (asked ≡ id_kind id) × (held id ≡ Some (wrapped r.now))

-- what a fetch shows, as a value
abbrev pub fetched_as : {V R : Type 0} → (R → V) → Fetch R → V
fetched_as wrapped f = wrapped (fetched f)
