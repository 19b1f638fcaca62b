-- The names that a builder knows, as a function from a name's bytes to the number of its id.
use Rattle.std.specs.Prelude.{◌≡◌, ℕ, ◌<◌, cond, List, [], ◌∷◌, map, Option, Some, None, IsSome, MatchOption, slice_get, unwrap_or}
use Rattle.std.specs.Str.{bytes_eq}
use denote.Ref.{Bor}

-- what each name stands for, if it does
abbrev pub Known : Type 0
Known = List ℕ → Option ℕ

-- the bytes of some texts
abbrev pub texts_of : List (Bor (List ℕ)) → List (List ℕ)
texts_of texts = map (λ t. t.now) texts

-- one more name; the empty one is never entered
abbrev pub with_name : Known → List ℕ → ℕ → Known
with_name known [] id q = known q
with_name known (b ∷ bs) id q = cond (bytes_eq (b ∷ bs) q) (Some id) (known q)

-- the ids that names stand for, in their order, with 0 for a name that is not known
abbrev pub known_ids : Known → List (List ℕ) → List ℕ
known_ids known names = map (λ name. unwrap_or (known name) 0) names

-- each of the names before this place is known
abbrev pub KnowsBefore : Known → List (List ℕ) → ℕ → Type 0
KnowsBefore known names place = (k : ℕ) (name : List ℕ) → k < place → slice_get names k ≡ Some name → IsSome (known name)

-- each of the names is known
abbrev pub KnowsAll : Known → List (List ℕ) → Type 0
KnowsAll known names = (k : ℕ) (name : List ℕ) → slice_get names k ≡ Some name → IsSome (known name)

-- the first of the names that is not known stands at this place
abbrev pub IsFirstUnknown : Known → List (List ℕ) → ℕ → Type 0
IsFirstUnknown known names place = (name : List ℕ) × (slice_get names place ≡ Some name) × (known name ≡ None) × KnowsBefore known names place

-- the place of the first of the names that is not known, if one is
abbrev pub FirstUnknownIs : Known → List (List ℕ) → Option ℕ → Type 0
FirstUnknownIs known names place = MatchOption place (KnowsAll known names) (IsFirstUnknown known names)
