-- Accesses that do not conflict.
use Rattle.std.proofs.Common.{◌≡◌, zero, Bool, true, false, ◌||◌, List, [], ◌∷◌, Contains, inl, inr, refl, sym, ◌∙◌, subst, arith}
use Rattle.std.proofs.lemmas.List.Folds.{list_any_at}
use Rattle.shred_model.proofs.Records.Membership.{Contains-later}
use Rattle.shred_model.specs.Access.{Access, Conflicts}
use Rattle.shred_table.specs.declared.id.ResourceId.{ResourceId}
use Rattle.shred_table.specs.Slots.{among}
use Rattle.shred_table.specs.Id.{same_id}
use Rattle.shred_table.proofs.Tables.Ids.{among-true, among-contains}
use Rattle.shred_run.specs.Touching.{share_item, accesses_conflict}

-- whether the id is in either list
abbrev pub declares : Access ResourceId → ResourceId → Bool
declares access id = among access.reads id || among access.writes id

pub by_cases : {C : Type 0} (b : Bool) → (b ≡ true → C) → (b ≡ false → C) → C
by_cases true is is_not = is refl
by_cases false is is_not = is_not refl

pub never : (b : Bool) → (b ≡ true → ⊥) → b ≡ false
never true n = absurd (n refl)
never false n = refl

pub either-true : (a b : Bool) → b ≡ true → (a || b) ≡ true
either-true true b e = refl
either-true false b e = e

pub conflicts-sym : (x y : Access ResourceId) → Conflicts x y → Conflicts y x
conflicts-sym x y (id, inl c) = (id, inr c)
conflicts-sym x y (id, inr c) = (id, inl c)

-- what one writes the other does not declare
pub not-declared : (x y : Access ResourceId) → (Conflicts x y → ⊥) → (id : ResourceId) → among x.writes id ≡ true → declares y id ≡ false
not-declared x y apart id w = at (among y.reads id) (among y.writes id) refl refl where
  at : (r s : Bool) → among y.reads id ≡ r → among y.writes id ≡ s → (r || s) ≡ false
  at true s e f = absurd (apart (id, inl (among-true x.writes id w, inl (among-true y.reads id e))))
  at false true e f = absurd (apart (id, inl (among-true x.writes id w, inr (among-true y.writes id f))))
  at false false e f = refl

-- an id that both lists have, where some is shared
shared : (xs ys : List ResourceId) → share_item same_id xs ys ≡ true → (id : ResourceId) × Contains xs id × Contains ys id
shared [] ys e = absurd (cc)
shared (x ∷ xs) ys e = at (among ys x) refl e (shared xs ys) where
  at : (b : Bool) → among ys x ≡ b → (b || share_item same_id xs ys) ≡ true → (share_item same_id xs ys ≡ true → (id : ResourceId) × Contains xs id × Contains ys id) → (id : ResourceId) × Contains (x ∷ xs) id × Contains ys id
  at true here f rest = (x, (zero, omega arith, refl), among-true ys x here)
  at false here f rest = let found = rest f in (found.0, Contains-later found.0 x xs found.1, found.2)

is-shared : (xs ys : List ResourceId) (id : ResourceId) → Contains xs id → Contains ys id → share_item same_id xs ys ≡ true
is-shared xs ys id (k, below, is) there = list_any_at (λ x. among ys x) xs k id below (subst (λ q. among ys q ≡ true) (sym is) (among-contains ys id there))

-- two accesses conflict where they are told to
pub told-conflict : (x y a b : Access ResourceId) → a ≡ x → b ≡ y → (c : Bool) → c ≡ accesses_conflict same_id a b → c ≡ true → Conflicts x y
told-conflict x y a b ea eb c is told = subst (λ s. Conflicts s y) ea (subst (λ s. Conflicts a s) eb (by_lists (share_item same_id a.writes b.writes) (share_item same_id a.writes b.reads) (share_item same_id a.reads b.writes) refl refl refl (sym is ∙ told))) where
  by_lists : (p q r : Bool) → share_item same_id a.writes b.writes ≡ p → share_item same_id a.writes b.reads ≡ q → share_item same_id a.reads b.writes ≡ r → (p || (q || r)) ≡ true → Conflicts a b
  by_lists true q r e f g all = let s = shared a.writes b.writes e in (s.0, inl (s.1, inr s.2))
  by_lists false true r e f g all = let s = shared a.writes b.reads f in (s.0, inl (s.1, inl s.2))
  by_lists false false true e f g all = let s = shared a.reads b.writes g in (s.0, inr (s.2, inl s.1))
  by_lists false false false e f g all = absurd (cc)

none : (p q r : Bool) → (p || (q || r)) ≡ false → (p ≡ false) × (q ≡ false) × (r ≡ false)
none true q r all = absurd (cc)
none false true r all = absurd (cc)
none false false true all = absurd (cc)
none false false false all = (refl, refl, refl)

lists-apart : (a b : Access ResourceId) → (share_item same_id a.writes b.writes ≡ false) × (share_item same_id a.writes b.reads ≡ false) × (share_item same_id a.reads b.writes ≡ false) → Conflicts a b → ⊥
lists-apart a b apart (id, inl (w, inl r)) = let e = is-shared a.writes b.reads id w r in let f = apart.1 in cc
lists-apart a b apart (id, inl (w, inr v)) = let e = is-shared a.writes b.writes id w v in let f = apart.0 in cc
lists-apart a b apart (id, inr (w, inl r)) = let e = is-shared a.reads b.writes id r w in let f = apart.2 in cc
lists-apart a b apart (id, inr (w, inr v)) = let e = is-shared a.writes b.writes id v w in let f = apart.0 in cc

-- and do not where they are told not to
pub told-apart : (x y a b : Access ResourceId) → a ≡ x → b ≡ y → (c : Bool) → c ≡ accesses_conflict same_id a b → c ≡ false → Conflicts x y → ⊥
told-apart x y a b ea eb c is told conflict =
    lists-apart a b (none (share_item same_id a.writes b.writes) (share_item same_id a.writes b.reads) (share_item same_id a.reads b.writes) (sym is ∙ told))
    (subst (λ s. Conflicts a s) (sym eb) (subst (λ s. Conflicts s y) (sym ea) conflict))
