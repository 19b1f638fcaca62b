-- Which names stand for an id.
use Rattle.std.specs.Prelude.{◌≡◌, ◌↔◌, Contains, ℕ, ◌==◌, cond, List, [], ◌∷◌, map, Option, Some, None, is_some}
use Rattle.std.specs.Cmp.Lexicographic.{slice_cmp}
use Rattle.std.specs.HashMap.{HashMap, get_by_text}
use Rattle.std.specs.Option.{option_map}
use Rattle.std.specs.Ordering.{is_lt, nat_cmp}
use Rattle.std.specs.Str.{bytes_eq}
use Rattle.std.specs.String.{string_bytes}
use Rattle.std.specs.declared.string.String.{String}
use Rattle.shred_stage.specs.Known.{Known, with_name}
use Rattle.shred_run.specs.declared.entry.SystemId.{SystemId}

-- a name, by its bytes, and the number of the id that it stands for
abbrev pub NamedId : Type 0
NamedId = List ℕ × ℕ

-- the names of a map, with what they stand for
abbrev pub named_ids : {Z T : Type 0} → HashMap (String Z) SystemId T → List NamedId
named_ids names = map (λ e. (string_bytes e.0, e.1.0)) names.entries

-- the pairs are the known names, each with what it stands for
abbrev pub AreNames : List NamedId → Known → Type 0
AreNames pairs known = (name : List ℕ) (id : ℕ) → Contains pairs (name, id) ↔ (known name ≡ Some id)

-- what a name stands for, if it does
abbrev pub names_of : {Z T : Type 0} → HashMap (String Z) SystemId T → List ℕ → Option ℕ
names_of names name = option_map (λ id. id.0) (get_by_text names name)

-- the lesser of two names by their bytes, where there is a first
abbrev pub lesser : Option (List ℕ) → List ℕ → List ℕ
lesser None name = name
lesser (Some best) name = cond (is_lt (slice_cmp nat_cmp name best)) name best

-- the least of best and of the names that stand for the id
abbrev pub least_of : List NamedId → ℕ → Option (List ℕ) → Option (List ℕ)
least_of [] id best = best
least_of (pair ∷ pairs) id best = least_of pairs id (cond (pair.1 == id) (Some (lesser best pair.0)) best)

-- the least name, by its bytes, that stands for the id, if one does
abbrev pub least_name : List NamedId → ℕ → Option (List ℕ)
least_name pairs id = least_of pairs id None

-- the first id of the list that no name stands for, if there is one
abbrev pub first_unnamed : List NamedId → List ℕ → Option ℕ
first_unnamed pairs [] = None
first_unnamed pairs (id ∷ ids) = cond (is_some (least_name pairs id)) (first_unnamed pairs ids) (Some id)

-- the answer is the first of these ids that no name of the map stands for
abbrev pub IsFirstUnnamed : {Z T : Type 0} → HashMap (String Z) SystemId T → List ℕ → Option SystemId → Type 0
IsFirstUnnamed names ids found = option_map (λ id. id.0) found ≡ first_unnamed (named_ids names) ids

-- the map knows one more name, unless that is empty
abbrev pub EntersName : {Z T : Type 0} → (old new : HashMap (String Z) SystemId T) → List ℕ → SystemId → Type 0
EntersName old new name id = (q : List ℕ) → names_of new q ≡ with_name (names_of old) name id.0 q

-- the map knows the name no more
abbrev pub ForgetsName : {Z T : Type 0} → (old new : HashMap (String Z) SystemId T) → List ℕ → Type 0
ForgetsName old new name = (q : List ℕ) → names_of new q ≡ cond (bytes_eq name q) None (names_of old q)
