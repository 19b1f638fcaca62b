-- Names by their places in a map.
use Rattle.std.proofs.Common.{◌≡◌, ℕ, zero, suc, ℤ, Bool, cond, true, false, Option, Some, None, Result, Ok, Err, IfOk, List, [], ◌∷◌, refl, sym, ap, ◌∙◌, arith}
use Rattle.std.specs.Prelude.{Contains, slice_get, is_some}
use Rattle.std.specs.List.{position, push}
use Rattle.std.specs.Map.{keys_of, values_of, lookup}
use Rattle.indexmap.specs.IndexMap.{insert_entry}
use Rattle.std.specs.Option.{ok_or, option_map}
use Rattle.std.specs.Str.{bytes_eq}
use Rattle.std.proofs.lemmas.List.Quantifiers.{position-Some}
use Rattle.std.proofs.lemmas.Option.{slice_get-get_or, slice_get-map}
use Rattle.std.proofs.lemmas.Slice.Eq.{bytes_eq-Decides}
use Rattle.shred_stage.specs.Known.{texts_of}
use denote.Ref.{Bor}

-- the name that is found at a place stands there
pub name-found : (names : List (Bor (List ℕ))) (name : List ℕ) (place : ℕ) → position (λ other. bytes_eq name other.now) names ≡ Some place → slice_get (texts_of names) place ≡ Some name
name-found [] name place found = absurd (cc)
name-found (first ∷ names) name place found =
    let at = position-Some (λ other. bytes_eq name other.now) (first ∷ names) place first found in
    slice_get-map (λ text. text.now) (first ∷ names) place ∙ ap (option_map (λ text. text.now)) (slice_get-get_or (first ∷ names) place first at.0) ∙ ap Some (sym ((bytes_eq-Decides name _).0 at.1))

-- the same of what a look-up answers, where its refusal is an error
pub name-looked_up : {E : Type 0} (names : List (Bor (List ℕ))) (name : List ℕ) (found : Option ℕ) (error : E) (result : Result ℕ E) → found ≡ position (λ other. bytes_eq name other.now) names → result ≡ ok_or found error → IfOk result (λ place. slice_get (texts_of names) place ≡ Some name)
name-looked_up names name None error (Ok place) is e = absurd (cc)
name-looked_up names name None error (Err why) is e = tt
name-looked_up names name (Some at) error (Ok place) is e = name-found names name place (sym is ∙ (let f : Ok place ≡ Ok at = e in cc))
name-looked_up names name (Some at) error (Err why) is e = absurd (cc)

module _ (name : Bor (List ℕ)) (first : ℤ) where
  abbrev is_it : Bor (List ℕ) → Bool
  is_it other = bytes_eq name.now other.now

  lookup-rest : (test : Bool) (v : ℤ) (found : Option ℤ) → cond test (Some v) found ≡ None → (test ≡ false) × (found ≡ None)
  lookup-rest true v found none = absurd (cc)
  lookup-rest false v found none = (refl, none)

  -- a new name goes last
  pub name-inserted : (entries : List (Bor (List ℕ) × ℤ)) → lookup is_it entries ≡ None → insert_entry (λ a b. bytes_eq a.now b.now) entries name first ≡ push entries (name, first)
  name-inserted [] none = refl
  name-inserted (entry ∷ entries) none =
      let rest = lookup-rest (is_it entry.0) entry.1 (lookup is_it entries) none in
      ap (λ t. cond t ((entry.0, first) ∷ entries) (entry ∷ insert_entry (λ a b. bytes_eq a.now b.now) entries name first)) rest.0 ∙ ap (λ es. entry ∷ es) (name-inserted entries rest.1)

  -- a name that is not found is not there
  pub name-absent : (entries : List (Bor (List ℕ) × ℤ)) → lookup is_it entries ≡ None → Contains (texts_of (keys_of entries)) name.now → ⊥
  name-absent [] none (k, below, same) = absurd (omega arith)
  name-absent (entry ∷ entries) none (zero, below, same) =
      let rest = lookup-rest (is_it entry.0) entry.1 (lookup is_it entries) none in
      let it : is_it entry.0 ≡ true = (bytes_eq-Decides name.now entry.0.now).1 (sym same) in
      absurd (cc)
  name-absent (entry ∷ entries) none (suc k, below, same) =
      name-absent entries (lookup-rest (is_it entry.0) entry.1 (lookup is_it entries) none).1 (k, omega (arith, below), same)

texts-push : (entries : List (Bor (List ℕ) × ℤ)) (name : Bor (List ℕ)) (first : ℤ) → texts_of (keys_of (push entries (name, first))) ≡ push (texts_of (keys_of entries)) name.now
texts-push [] name first = refl
texts-push (entry ∷ entries) name first = ap (λ ns. entry.0.now ∷ ns) (texts-push entries name first)

values-push : (entries : List (Bor (List ℕ) × ℤ)) (name : Bor (List ℕ)) (first : ℤ) → values_of (push entries (name, first)) ≡ push (values_of entries) first
values-push [] name first = refl
values-push (entry ∷ entries) name first = ap (λ ns. entry.1 ∷ ns) (values-push entries name first)

-- where a name is not there, it goes last with its value
pub record IsNewName (entries new : List (Bor (List ℕ) × ℤ)) (name : List ℕ) (first : ℤ) : Type 0 where
  pub absent : Contains (texts_of (keys_of entries)) name → ⊥
  pub names : texts_of (keys_of new) ≡ push (texts_of (keys_of entries)) name
  pub values : values_of new ≡ push (values_of entries) first

none-found : (found : Option ℤ) (told : Bool) → told ≡ is_some found → told ≡ false → found ≡ None
none-found None told is isnt = refl
none-found (Some v) told is isnt = absurd (cc)

pub new-name : (entries new : List (Bor (List ℕ) × ℤ)) (name : Bor (List ℕ)) (first : ℤ) (told : Bool) → told ≡ is_some (lookup (λ (other : Bor (List ℕ)). bytes_eq name.now other.now) entries) → told ≡ false → new ≡ insert_entry (λ a b. bytes_eq a.now b.now) entries name first → IsNewName entries new name.now first
new-name entries new name first told is isnt put =
    let none = none-found (lookup (λ (other : Bor (List ℕ)). bytes_eq name.now other.now) entries) told is isnt in
    let last = put ∙ name-inserted name first entries none in record {
      absent = name-absent name first entries none;
      names = ap (λ es. texts_of (keys_of es)) last ∙ texts-push entries name first;
      values = ap values_of last ∙ values-push entries name first;
    }
