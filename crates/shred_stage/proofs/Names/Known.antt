-- Names that are known, and ids without one.
use Rattle.std.proofs.Common.{◌≡◌, ℕ, ◌+◌, Bool, true, false, cond, List, [], ◌∷◌, ◌++◌, take, is_some, subst, Option, Some, None, IsSome, refl, sym, ◌∙◌, ap, ⊎_elim, arith, suc, drop, drop-cons, Bor, add-one}
use Rattle.std.proofs.lemmas.Bool.{cases_eq}
use Rattle.std.proofs.lemmas.Map.Text.{hash_map_updates_text}
use Rattle.std.proofs.lemmas.List.{map-append}
use Rattle.std.proofs.lemmas.Option.{slice_get_within, get_or_from_slice_get}
use Rattle.std.specs.HashMap.{HashMap, UpdatesBy}
use Rattle.std.specs.List.{slice_get, flat_map}
use Rattle.std.specs.Option.{option_map, option_copied}
use Rattle.std.specs.Prelude.{unwrap_or}
use Rattle.std.specs.Str.{bytes_eq}
use Rattle.std.specs.String.{string_bytes, string_eq}
use Rattle.std.specs.declared.string.String.{String}
use Rattle.shred_stage.specs.Known.{Known, KnowsBefore, known_ids, with_name}
use Rattle.shred_run.specs.PlanOf.{numbers_of}
use Rattle.shred_run.proofs.Groups.{read_more}
use Rattle.shred_stage.specs.Names.{names_of, NamedId, least_name, first_unnamed}
use Rattle.shred_run.specs.declared.entry.SystemId.{SystemId}

-- Names that are entered, and taken away again.

cond-map : (b : Bool) (x y : Option SystemId) → option_map (λ id. id.0) (cond b x y) ≡ cond b (option_map (λ id. id.0) x) (option_map (λ id. id.0) y)
cond-map true x y = refl
cond-map false x y = refl

module _ {Z T : Type 0} (m n : HashMap (String Z) SystemId T) where
  names-after : (bs : List ℕ) (w : Option SystemId) → UpdatesBy string_eq (λ k. bytes_eq bs (string_bytes k)) m n w → (q : List ℕ) → names_of n q ≡ cond (bytes_eq bs q) (option_map (λ id. id.0) w) (names_of m q)
  names-after bs w updates q = ap (option_map (λ id. id.0)) (hash_map_updates_text bs m n w updates q) ∙ cond-map (bytes_eq bs q) w _

  -- a name was entered
  pub name_entered : (name : List ℕ) (id : SystemId) (key : String Z) → string_bytes key ≡ name → (name ≡ [] → ⊥) → UpdatesBy string_eq (string_eq key) m n (Some id) → (q : List ℕ) → names_of n q ≡ with_name (names_of m) name id.0 q
  name_entered [] id key is some updates q = absurd (some refl)
  name_entered (b ∷ bs) id key is some updates q = names-after (string_bytes key) (Some id) updates q ∙ ap (λ t. cond (bytes_eq t q) (Some id.0) (names_of m q)) is

  -- a name was taken away
  pub name_forgotten : (name : List ℕ) → UpdatesBy string_eq (λ k. bytes_eq name (string_bytes k)) m n None → (q : List ℕ) → names_of n q ≡ cond (bytes_eq name q) None (names_of m q)
  name_forgotten name updates q = names-after name None updates q

-- one more name is known
pub knows-next : (known : Known) (names : List (List ℕ)) (place : ℕ) (name : List ℕ) → slice_get names place ≡ Some name → KnowsBefore known names place → IsSome (known name) → KnowsBefore known names (place + 1)
knows-next known names place name at before here k other below at_k =
    ⊎_elim
    (λ e. let same : Some other ≡ Some name = sym at_k ∙ ap (slice_get names) e ∙ at in let is : other ≡ name = cc in rw is here)
    (λ ne. before k other (omega (arith, below, ne)) at_k)
    (cases_eq k place)

-- what a look-up says of a name
pub known-some : (found : Option SystemId) (stands : Option ℕ) → is_some found ≡ true → option_map (λ id. id.0) found ≡ stands → IsSome stands
known-some None stands is e = absurd (let f : false ≡ true = is in cc)
known-some (Some id) stands is e = subst IsSome e refl

pub known-number : (found : Option SystemId) (stands : Option ℕ) (id : SystemId) → found ≡ Some id → option_map (λ id. id.0) found ≡ stands → id.0 ≡ unwrap_or stands 0
known-number found stands id is e = ap (λ o. unwrap_or o 0) (ap (option_map (λ (i : SystemId). i.0)) (sym is) ∙ e)

-- one more id was looked up
pub ids-next : (known : Known) (names : List (List ℕ)) (place : ℕ) (name : List ℕ) (ids next : List SystemId) (id : SystemId) → slice_get names place ≡ Some name → numbers_of ids ≡ known_ids known (take place names) → id.0 ≡ unwrap_or (known name) 0
    → next ≡ ids ++ id ∷ [] → numbers_of next ≡ known_ids known (take (place + 1) names)
ids-next known names place name ids next id at before is pushed =
    ap numbers_of pushed ∙ map-append (λ (i : SystemId). i.0) ids (id ∷ []) ∙ ap (λ l. l ++ id.0 ∷ []) before ∙ ap (λ n. known_ids known (take place names) ++ n ∷ []) is
    ∙ sym (read_more (λ name. unwrap_or (known name) 0) names place name (slice_get_within names place name at) (sym (get_or_from_slice_get names place name name at)))

-- How the first id without a name is found.
-- what is left of a list from an item on
rest-from : {X : Type 0} (xs : List X) (i : ℕ) (x : X) → slice_get xs i ≡ Some x → drop i xs ≡ x ∷ drop (i + 1) xs
rest-from xs i x at =
    drop-cons xs i x (slice_get_within xs i x at) ∙ ap (λ y. y ∷ drop (suc i) xs) (get_or_from_slice_get xs i x x at) ∙ ap (λ n. x ∷ drop n xs) (sym (add-one i))

module _ (pairs : List NamedId) where
  first-of : (id : ℕ) (ids : List ℕ) (b : Bool) → is_some (least_name pairs id) ≡ b → first_unnamed pairs (id ∷ ids) ≡ cond b (first_unnamed pairs ids) (Some id)
  first-of id ids b is = ap (λ c. cond c (first_unnamed pairs ids) (Some id)) is

  -- where all of xs have names, the first without is in ys
  unnamed-after : (xs ys : List ℕ) → first_unnamed pairs xs ≡ None → first_unnamed pairs (xs ++ ys) ≡ first_unnamed pairs ys
  unnamed-after [] ys none = refl
  unnamed-after (x ∷ xs) ys none = told (unnamed-after xs ys) (is_some (least_name pairs x)) refl where
    told : (first_unnamed pairs xs ≡ None → first_unnamed pairs (xs ++ ys) ≡ first_unnamed pairs ys) → (b : Bool) → is_some (least_name pairs x) ≡ b → first_unnamed pairs (x ∷ (xs ++ ys)) ≡ first_unnamed pairs ys
    told later true is = first-of x (xs ++ ys) true is ∙ later (sym (first-of x xs true is) ∙ none)
    told later false is = absurd (let f : Some x ≡ None = sym (first-of x xs false is) ∙ none in cc)

  unnamed-within : (xs ys : List ℕ) (n : ℕ) → first_unnamed pairs xs ≡ Some n → first_unnamed pairs (xs ++ ys) ≡ Some n
  unnamed-within [] ys n some = absurd (let f : None ≡ Some n = some in cc)
  unnamed-within (x ∷ xs) ys n some = told (unnamed-within xs ys n) (is_some (least_name pairs x)) refl where
    told : (first_unnamed pairs xs ≡ Some n → first_unnamed pairs (xs ++ ys) ≡ Some n) → (b : Bool) → is_some (least_name pairs x) ≡ b → first_unnamed pairs (x ∷ (xs ++ ys)) ≡ Some n
    told later true is = first-of x (xs ++ ys) true is ∙ later (sym (first-of x xs true is) ∙ some)
    told later false is = first-of x (xs ++ ys) false is ∙ sym (first-of x xs false is) ∙ some

  -- a walk over items with ids, which has come to the item at i
  module _ {X : Type 0} (ids : X → List ℕ) (xs : List X) (i : ℕ) (x : X) (all : Option ℕ) where
    here : slice_get xs i ≡ Some x → first_unnamed pairs (flat_map ids (drop i xs)) ≡ first_unnamed pairs (ids x ++ flat_map ids (drop (i + 1) xs))
    here at = ap (λ ys. first_unnamed pairs (flat_map ids ys)) (rest-from xs i x at)

    pub unnamed-next : slice_get xs i ≡ Some x → first_unnamed pairs (flat_map ids (drop i xs)) ≡ all → None ≡ first_unnamed pairs (ids x) → first_unnamed pairs (flat_map ids (drop (i + 1) xs)) ≡ all
    unnamed-next at before none = sym (unnamed-after (ids x) (flat_map ids (drop (i + 1) xs)) (sym none)) ∙ sym (here at) ∙ before

    pub unnamed-found : (n : ℕ) → slice_get xs i ≡ Some x → first_unnamed pairs (flat_map ids (drop i xs)) ≡ all → Some n ≡ first_unnamed pairs (ids x) → Some n ≡ all
    unnamed-found n at before some = sym (unnamed-within (ids x) (flat_map ids (drop (i + 1) xs)) n (sym some)) ∙ sym (here at) ∙ before

  -- a walk over the ids themselves
  module _ (ids : List ℕ) (i id : ℕ) (all : Option ℕ) where
    this : (b : Bool) → slice_get ids i ≡ Some id → is_some (least_name pairs id) ≡ b → first_unnamed pairs (drop i ids) ≡ cond b (first_unnamed pairs (drop (i + 1) ids)) (Some id)
    this b at is = ap (first_unnamed pairs) (rest-from ids i id at) ∙ first-of id (drop (i + 1) ids) b is

    pub unnamed-passed : slice_get ids i ≡ Some id → first_unnamed pairs (drop i ids) ≡ all → is_some (least_name pairs id) ≡ true → first_unnamed pairs (drop (i + 1) ids) ≡ all
    unnamed-passed at before named = sym (this true at named) ∙ before

    pub unnamed-is : slice_get ids i ≡ Some id → first_unnamed pairs (drop i ids) ≡ all → is_some (least_name pairs id) ≡ false → Some id ≡ all
    unnamed-is at before unnamed = sym (this false at unnamed) ∙ before

-- a look-up that showed nothing
pub none-copied : (found : Option (Bor (List ℕ))) (name : Option (List ℕ)) (b : Bool) → is_some found ≡ b → option_copied found ≡ name → is_some name ≡ b
none-copied None name b is e = ap is_some (sym e) ∙ is
none-copied (Some x) name b is e = ap is_some (sym e) ∙ is
