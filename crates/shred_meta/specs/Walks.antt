-- Walks over what is held of some kinds.
use Rattle.std.specs.Prelude.{List, [], ◌∷◌, Option, Some, None, cond, is_some, filter_map, ◌≡◌, MatchOption}
use Rattle.shred_table.specs.declared.id.Kind.{Kind}
use Rattle.shred_table.specs.declared.id.ResourceId.{ResourceId}
use Rattle.shred_table.specs.Id.{id_of}
use Rattle.std.specs.Borrow.{Bor}

-- the values that are held under number 0 of each of the kinds, in their order; a kind of which none is held has none
abbrev pub walk : {V : Type 0} → (ResourceId → Option V) → List Kind → List V
walk held kinds = filter_map (λ kind. held (id_of kind 0)) kinds

-- the first of the kinds of which a value is held under number 0
abbrev pub first_held_kind : {V : Type 0} → (ResourceId → Option V) → List Kind → Option Kind
first_held_kind held [] = None
first_held_kind held (kind ∷ kinds) = cond (is_some (held (id_of kind 0))) (Some kind) (first_held_kind held kinds)

-- the kinds after that one
abbrev pub after_first : {V : Type 0} → (ResourceId → Option V) → List Kind → List Kind
after_first held [] = []
after_first held (kind ∷ kinds) = cond (is_some (held (id_of kind 0))) kinds (after_first held kinds)

-- the first of the kinds of which a value is held, with the kinds after it; none where there is nothing to walk over
abbrev pub IsFirstHeld : {V : Type 0} → (ResourceId → Option V) → List Kind → Option (Kind × Bor (List Kind)) → Type 0
IsFirstHeld held kinds found = MatchOption found (walk held kinds ≡ []) (λ first. (first_held_kind held kinds ≡ Some first.0) × (first.1.now ≡ after_first held kinds))
