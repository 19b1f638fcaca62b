-- Tables that lie behind the hands of groups, one before another: in a list of levels each lies before those in front of it, and the last is the nearest.
use Rattle.std.specs.Prelude.{◌≡◌, ◌==◌, ◌++◌, ⊤, Bool, true, false, List, [], ◌∷◌, length, map}
use Rattle.std.specs.Arc.{arc_value}
use Rattle.std.specs.declared.alloc.Global.{Global}
use Rattle.std.specs.declared.sync.Arc.{Arc}
use Rattle.shred_run.specs.OwnSlots.{HasOnlySlots, LiesBefore, lent_before}
use Rattle.shred_table.specs.declared.id.ResourceId.{ResourceId}
use Rattle.shred_table.specs.declared.table.Table.{Table}
use Rattle.shred_table.specs.Shown.{HasOwnSlots, Lent}
use Rattle.shred_world.specs.declared.world.view.Shelf.{Shelf}
use Rattle.shred_world.specs.Views.{lent_slot}
use Rattle.shred_kept.specs.declared.level.Level.{Level}

module _ {V : Type 0} where
  -- the levels that are shared
  abbrev pub levels_of : List (Arc (Level V) Global) → List (Level V)
  levels_of levels = map arc_value levels

  -- what the levels lend before what is lent behind all of them
  abbrev pub lent_over : Lent V → List (Level V) → Lent V
  lent_over lent [] = lent
  lent_over lent (level ∷ levels) = lent_over (lent_before level.table lent) levels

  -- what the levels lend where nothing lies behind them
  abbrev pub lent_by : List (Level V) → Lent V
  lent_by levels = lent_over (lent_slot []) levels

  -- The table of the level has a slot of each of its ids for which one is lent; where some table lies behind it, it has a slot of no other id.
  pub record IsLaid (some : Bool) (lent : Lent V) (level : Level V) : Type 0 where
    pub own_slots : HasOwnSlots level.ids.items lent level.table
    pub only_own : some ≡ true → HasOnlySlots level.ids.items level.table

  -- so it is of each of the levels
  abbrev pub AreLaid : Bool → Lent V → List (Level V) → Type 0
  AreLaid some lent [] = ⊤
  AreLaid some lent (level ∷ levels) = IsLaid some lent level × AreLaid true (lent_before level.table lent) levels

  -- The levels are laid, and lend what the shelf does.
  pub record Stand (levels : List (Level V)) (shelf : List (Shelf V)) : Type 0 where
    pub laid : AreLaid false (lent_slot []) levels
    pub shows : (id : ResourceId) → lent_slot shelf id ≡ lent_by levels id
    pub some : (length levels == 0) ≡ (length shelf == 0)

  -- the last of the levels has this table and these ids, and the others are as they were
  abbrev pub HasLaid : List (Level V) → List ResourceId → Table V → List (Level V) → Type 0
  HasLaid levels ids table laid = (level : Level V) × (laid ≡ levels ++ level ∷ []) × (level.table ≡ table) × (level.ids.items ≡ ids)

  -- a level was given these ids and the table, or was refused and the table stays
  abbrev pub IsLevelFilled : List ResourceId → Table V → Bool → Level V → Table V → Type 0
  IsLevelFilled ids old filled level new = (filled ≡ true → (level.table ≡ old) × (level.ids.items ≡ ids)) × (filled ≡ false → new ≡ old)

  -- the table is that of the last level
  abbrev pub IsLast : List (Level V) → Table V → Type 0
  IsLast laid table = (levels : List (Level V)) (ids : List ResourceId) (was : Table V) → HasLaid levels ids was laid → table ≡ was

  -- the table of the last level was changed for another, whose place it has now
  abbrev pub AreExchanged : List (Level V) → Table V → List (Level V) → Table V → Type 0
  AreExchanged old table new left = (levels : List (Level V)) (ids : List ResourceId) (was : Table V) → HasLaid levels ids was old → HasLaid levels ids table new × (left ≡ was)

  -- there is a level more, with these ids
  abbrev pub HasLevelFor : List (Arc (Level V) Global) → List ResourceId → List (Arc (Level V) Global) → Type 0
  HasLevelFor levels ids laid = (table : Table V) × HasLaid (levels_of levels) ids table (levels_of laid)

  -- the last of the levels lies before the shelf, and the others are as they were
  abbrev pub LaidBefore : List (Level V) → List (Shelf V) → List (Level V) → Type 0
  LaidBefore levels shelf laid = (level : Level V) × (laid ≡ levels ++ level ∷ []) × LiesBefore level.ids.items shelf level.table

  -- The levels are laid, and lend what those lend that are left, before the shelf.
  pub record Reach (levels left : List (Level V)) (shelf : List (Shelf V)) : Type 0 where
    pub laid : AreLaid false (lent_slot []) levels
    pub some : (length levels == 0) ≡ false
    pub left_laid : AreLaid true (lent_slot shelf) left
    pub same : (id : ResourceId) → lent_over (lent_slot shelf) left id ≡ lent_by levels id
