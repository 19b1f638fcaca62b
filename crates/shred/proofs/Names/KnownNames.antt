-- The pairs of a map of names, and what each name stands for.
use Rattle.std.proofs.Common.{◌≡◌, ℕ, List, Option, Some, None, Contains, refl, sym, ◌∙◌, ap}
use Rattle.std.proofs.lemmas.Map.Entries.{lookup_from_place, place_from_lookup}
use Rattle.std.proofs.lemmas.Option.{slice_get-map, slice_get-get_or}
use Rattle.std.proofs.lemmas.Slice.Eq.{bytes_eq-Decides}
use Rattle.std.specs.HashMap.{HashMap, IsUnique}
use Rattle.std.specs.List.{slice_get}
use Rattle.std.specs.Map.{lookup}
use Rattle.std.specs.Option.{option_map}
use Rattle.std.specs.Str.{bytes_eq}
use Rattle.std.specs.String.{string_bytes, string_eq, string_eq_equiv}
use Rattle.std.specs.declared.string.String.{String}
use Rattle.shred_stage.specs.Names.{AreNames, NamedId, names_of, named_ids}
use Rattle.shred_run.specs.declared.entry.SystemId.{SystemId}
use Rattle.shred.proofs.Planner.Standing.{contains-at}

module _ {Z T : Type 0} (names : HashMap (String Z) SystemId T) where
  abbrev pair : String Z × SystemId → NamedId
  pair e = (string_bytes e.0, e.1.0)

  -- what a name stands for is one of the pairs
  is-pair : (name : List ℕ) (id : ℕ) (found : Option SystemId) → lookup (λ k. bytes_eq name (string_bytes k)) names.entries ≡ found → option_map (λ i. i.0) found ≡ Some id → Contains (named_ids names) (name, id)
  is-pair name id None is e = absurd (let f : None ≡ Some id = e in cc)
  is-pair name id (Some number) is e =
      let (i, key, at, same) = place_from_lookup (λ k. bytes_eq name (string_bytes k)) names.entries number is in
      let one : name ≡ string_bytes key = (bytes_eq-Decides name (string_bytes key)).0 same in
      let two : number.0 ≡ id = (let f : Some number.0 ≡ Some id = e in cc) in
      contains-at (named_ids names) i (name, id) (slice_get-map pair names.entries i ∙ ap (option_map pair) at ∙ ap (λ n. Some (n, number.0)) (sym one) ∙ ap (λ n. Some (name, n)) two)

  -- a name stands for what it is paired with
  stands-for : IsUnique string_eq names → (name : List ℕ) (id : ℕ) (i : ℕ) (found : Option (String Z × SystemId)) → slice_get names.entries i ≡ found → option_map pair found ≡ Some (name, id) → names_of names name ≡ Some id
  stands-for unique name id i None at e = absurd (let f : None ≡ Some (name, id) = e in cc)
  stands-for unique name id i (Some entry) at e =
      let f : Some (pair entry) ≡ Some (name, id) = e in
      let same : pair entry ≡ (name, id) = cc in
      ap (λ n. names_of names n) (sym (ap (λ p. p.0) same)) ∙ ap (option_map (λ i. i.0)) (lookup_from_place string_eq_equiv names.entries i entry.0 entry.1 unique at) ∙ ap (λ p. Some p.1) same

  -- the pairs of a map are the names that it knows
  pub names-known : IsUnique string_eq names → AreNames (named_ids names) (names_of names)
  names-known unique = λ name id. (
    (λ (i, within, is). stands-for unique name id i (slice_get names.entries i) refl (sym (slice_get-map pair names.entries i) ∙ slice_get-get_or (named_ids names) i (name, id) within ∙ ap (λ p. Some p) is)),
    λ e. is-pair name id (lookup (λ k. bytes_eq name (string_bytes k)) names.entries) refl e,
  )
