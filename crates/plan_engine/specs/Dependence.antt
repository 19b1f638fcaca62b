-- Marks for which entries depend on which.
use Rattle.std.specs.Prelude.{◌≡◌, ℕ, Bool, false, ◌<◌, ◌||◌, ◌==◌, ◌↔◌, List, Vec, IsTrue, length, slice_get, slice_index_or}
use Rattle.std.specs.List.{list_any}
use Rattle.std.specs.Option.{option_map_or}
use Rattle.std.specs.declared.alloc.Global.{Global}
use Rattle.plan_engine.specs.declared.declaration.Declaration.{Declaration}
use Rattle.plan_engine.specs.Entries.{DependsOn}

-- a row for each entry: its marks for the earlier ones
abbrev pub Rows : Type 0
Rows = List (Vec Bool Global)

-- whether the entry has a mark for the other
abbrev pub is_marked : Rows → ℕ → ℕ → Bool
is_marked rows entry other = option_map_or (λ row. slice_index_or row.items other false) (slice_get rows entry) false

-- whether the other is one of those that are named, or one of these has a mark for it
abbrev pub is_reached : List ℕ → Rows → ℕ → Bool
is_reached named rows other = list_any (λ next. (next == other) || is_marked rows next other) named

-- a row has a mark for each entry before its own that is reached
pub record IsRowOf (named : List ℕ) (rows : Rows) (row : Vec Bool Global) : Type 0 where
  pub width : length row.items ≡ length rows
  pub marks : (other : ℕ) → other < length rows → slice_index_or row.items other false ≡ is_reached named rows other

-- the entries before this place have marks for just those that they depend on
pub record TellUpTo (entries : List Declaration) (end : ℕ) (rows : Rows) : Type 0 where
  pub height : length rows ≡ end
  pub marks : (entry other : ℕ) → entry < end → (IsTrue (is_marked rows entry other) ↔ DependsOn entries entry other)
