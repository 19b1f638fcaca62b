-- What follows of marks and paths.
use Rattle.std.proofs.Common.{◌≡◌, ◌<◌, ◌≤◌, ◌+◌, ◌++◌, ◌||◌, ◌==◌, ◌↔◌, ℕ, zero, suc, Bool, true, false, Option, Some, List, [], ◌∷◌, Vec, Contains, length, get_or, slice_get, IsTrue, refl, ap, sym, ◌∙◌, subst, inl, inr, arith}
use Rattle.std.proofs.Math.Bool.{or-true}
use Rattle.std.proofs.lemmas.Bool.{cases_lt, eq-eqb, eqb-true, or_cases}
use Rattle.std.proofs.lemmas.List.{get_or_past}
use Rattle.std.proofs.Math.ListN.{length-append}
use Rattle.std.proofs.lemmas.List.Elements.{All-contains}
use Rattle.std.proofs.lemmas.List.Folds.{Any-from_list_any, list_any-from_Any}
use Rattle.std.proofs.lemmas.Option.{slice_get_past}
use Rattle.std.specs.declared.alloc.Global.{Global}
use Rattle.std.specs.Option.{option_map_or}
use Rattle.plan_engine.specs.declared.declaration.Declaration.{Declaration}
use Rattle.plan_engine.specs.Dependence.{IsRowOf, Rows, TellUpTo, is_marked, is_reached}
use Rattle.plan_engine.specs.Entries.{DependsOn, Leads, NameEarlier, named_by}

pub named-earlier : (entries : List Declaration) → NameEarlier entries → (entry other : ℕ) → Contains (named_by entries entry) other → other < entry
named-earlier entries earlier entry other named = All-contains (λ named. named < entry) (named_by entries entry) other (earlier entry) named

-- a path leads to an earlier entry
pub leads-earlier : (entries : List Declaration) → NameEarlier entries → (path : List ℕ) (from to : ℕ) → Leads entries from path to → to < from
leads-earlier entries earlier [] from to named = named-earlier entries earlier from to named
leads-earlier entries earlier (next ∷ path) from to (named, leads) =
    let one : next < from = named-earlier entries earlier from next named in
    let two : to < next = leads-earlier entries earlier path next to leads in
    omega arith

pub depends-earlier : (entries : List Declaration) → NameEarlier entries → (entry other : ℕ) → DependsOn entries entry other → other < entry
depends-earlier entries earlier entry other (path, leads) = leads-earlier entries earlier path entry other leads

-- what is reached from those that an entry names is what it depends on
pub reached-depends : (entries : List Declaration) → NameEarlier entries → (rows : Rows) (entry other : ℕ) → TellUpTo entries entry rows → is_reached (named_by entries entry) rows other ≡ true → DependsOn entries entry other
reached-depends entries earlier rows entry other told reached =
    let some = Any-from_list_any (λ next. (next == other) || is_marked rows next other) (named_by entries entry) reached in
    let next = some.1 in
    let named : Contains (named_by entries entry) next = (some.0, some.2, some.3) in
    elim (or_cases (next == other) (is_marked rows next other) some.4) [
      | inl same ↦ ([], subst (λ (x : ℕ). Contains (named_by entries entry) x) (eqb-true next other same) named)
      | inr marked ↦ (let depends = (told.marks next other (named-earlier entries earlier entry next named)).0 marked in (next ∷ depends.0, (named, depends.1)))
    ]

pub depends-reached : (entries : List Declaration) → NameEarlier entries → (rows : Rows) (entry other : ℕ) → TellUpTo entries entry rows → DependsOn entries entry other → is_reached (named_by entries entry) rows other ≡ true
depends-reached entries earlier rows entry other told ([], named) =
    list_any-from_Any (λ next. (next == other) || is_marked rows next other) (named_by entries entry)
    (named.0, other, named.1, named.2, ap (λ (b : Bool). b || is_marked rows other other) (eq-eqb other other refl))
depends-reached entries earlier rows entry other told (next ∷ path, (named, leads)) =
    let marked : is_marked rows next other ≡ true = (told.marks next other (named-earlier entries earlier entry next named)).1 (path, leads) in
    list_any-from_Any (λ next. (next == other) || is_marked rows next other) (named_by entries entry)
    (named.0, next, named.1, named.2, ap (λ (b : Bool). (next == other) || b) marked ∙ or-true (next == other))

slice_get-left : {X : Type 0} (xs ys : List X) (k : ℕ) → k < length xs → slice_get (xs ++ ys) k ≡ slice_get xs k
slice_get-left [] ys k within = absurd (omega arith)
slice_get-left (x ∷ xs) ys zero within = refl
slice_get-left (x ∷ xs) ys (suc k) within = slice_get-left xs ys k (omega arith)

slice_get-seam : {X : Type 0} (xs : List X) (y : X) → slice_get (xs ++ y ∷ []) (length xs) ≡ Some y
slice_get-seam [] y = refl
slice_get-seam (x ∷ xs) y = slice_get-seam xs y

-- one more row leaves the marks of those before it
marked-before : (rows : Rows) (row : Vec Bool Global) (entry other : ℕ) → entry < length rows → is_marked (rows ++ row ∷ []) entry other ≡ is_marked rows entry other
marked-before rows row entry other within = ap (λ (found : Option (Vec Bool Global)). option_map_or (λ row. get_or row.items other false) found false) (slice_get-left rows (row ∷ []) entry within)

marked-last : (rows : Rows) (row : Vec Bool Global) (other : ℕ) → is_marked (rows ++ row ∷ []) (length rows) other ≡ get_or row.items other false
marked-last rows row other = ap (λ (found : Option (Vec Bool Global)). option_map_or (λ row. get_or row.items other false) found false) (slice_get-seam rows row)

-- the row of an entry has marks for just those that it depends on
last-tells : (entries : List Declaration) → NameEarlier entries → (rows : Rows) (row : Vec Bool Global) (entry other : ℕ) → TellUpTo entries entry rows → IsRowOf (named_by entries entry) rows row → IsTrue (get_or row.items other false) ↔ DependsOn entries entry other
last-tells entries earlier rows row entry other told is = elim (cases_lt other (length rows)) [
  | inl within ↦ (let marks = is.marks other within in (λ marked. reached-depends entries earlier rows entry other told (sym marks ∙ marked), λ depends. marks ∙ depends-reached entries earlier rows entry other told depends))
  | inr past ↦ (let none : get_or row.items other false ≡ false = get_or_past row.items other false (omega (arith, is.width)) in (λ marked. absurd (cc), λ depends. absurd (let before = depends-earlier entries earlier entry other depends in omega (arith, told.height))))
]

-- with its row the marks go on to the next entry
pub tell-more : (entries : List Declaration) → NameEarlier entries → (rows : Rows) (row : Vec Bool Global) (end : ℕ) → TellUpTo entries end rows → IsRowOf (named_by entries end) rows row → TellUpTo entries (end + 1) (rows ++ row ∷ [])
tell-more entries earlier rows row end told is = record {
  height = length-append rows (row ∷ []) ∙ ap (λ (n : ℕ). n + 1) told.height;
  marks = λ entry other within. elim (cases_lt entry end) [
    | inl before ↦ (let same = marked-before rows row entry other (omega (arith, told.height)) in
        (λ marked. (told.marks entry other before).0 (sym same ∙ marked), λ depends. same ∙ (told.marks entry other before).1 depends))
    | inr after ↦ (let last : length rows ≡ entry = omega (arith, told.height) in
        let row-is = subst (λ (n : ℕ). is_marked (rows ++ row ∷ []) n other ≡ get_or row.items other false) last (marked-last rows row other) in
        let at : end ≡ entry = omega arith in
        let tells = subst (λ (n : ℕ). IsTrue (get_or row.items other false) ↔ DependsOn entries n other) at (last-tells entries earlier rows row end other told is) in
        (λ marked. tells.0 (sym row-is ∙ marked), λ depends. row-is ∙ tells.1 depends))
  ];
}

none-contained : (xs : List ℕ) (x : ℕ) → xs ≡ [] → Contains xs x → ⊥
none-contained xs x none (k, within, is) = omega (arith, ap length none)

-- where there is no entry, no path begins
none-leads : (entries : List Declaration) (from to : ℕ) → length entries ≤ from → (path : List ℕ) → Leads entries from path to → ⊥
none-leads entries from to past [] named = none-contained (named_by entries from) to (ap (λ (found : Option Declaration). option_map_or (λ declaration. declaration.dependencies.items) found []) (slice_get_past entries from past)) named
none-leads entries from to past (next ∷ path) (named, leads) = none-contained (named_by entries from) next (ap (λ (found : Option Declaration). option_map_or (λ declaration. declaration.dependencies.items) found []) (slice_get_past entries from past)) named

-- the marks of all entries tell of each place
pub tell-all : (entries : List Declaration) (rows : Rows) (entry other : ℕ) → TellUpTo entries (length entries) rows → IsTrue (is_marked rows entry other) ↔ DependsOn entries entry other
tell-all entries rows entry other told = elim (cases_lt entry (length entries)) [
  | inl within ↦ told.marks entry other within
  | inr past ↦ (let none : is_marked rows entry other ≡ false = ap (λ (found : Option (Vec Bool Global)). option_map_or (λ row. get_or row.items other false) found false) (slice_get_past rows entry (omega (arith, told.height))) in
      (λ marked. absurd (cc), λ depends. absurd (none-leads entries entry other past depends.0 depends.1)))
]
