-- What levels lend, and shelves that stand for them.
use Rattle.std.proofs.Common.{◌≡◌, ℕ, ◌<◌, ◌==◌, ◌++◌, ◌∙◌, Bool, true, false, List, [], ◌∷◌, length, map, refl, sym, ap, subst, arith}
use Rattle.std.proofs.lemmas.Bool.Decides.{nat_tests}
use Rattle.shred_run.specs.OwnSlots.{HasOnlySlots, LiesBefore, lent_before}
use Rattle.shred_table.specs.declared.id.ResourceId.{ResourceId}
use Rattle.shred_table.specs.declared.table.Table.{Table}
use Rattle.shred_table.specs.Shown.{HasOwnSlots, Lent}
use Rattle.shred_world.specs.declared.world.view.Shelf.{Shelf}
use Rattle.shred_world.specs.Views.{lent_slot}
use Rattle.shred_kept.specs.declared.level.Level.{Level}
use Rattle.shred_kept.specs.Levels.{AreExchanged, AreLaid, HasLaid, LaidBefore, Reach, Stand, lent_by, lent_over}

abbrev last_or : {A : Type 0} → A → List A → A
last_or d [] = d
last_or d (x ∷ xs) = last_or x xs

last-end : {A : Type 0} (d : A) (xs : List A) (x : A) → last_or d (xs ++ x ∷ []) ≡ x
last-end d [] x = refl
last-end d (y ∷ ys) x = last-end y ys x

same-last : {A : Type 0} (xs ys : List A) (x y : A) → xs ++ x ∷ [] ≡ ys ++ y ∷ [] → x ≡ y
same-last xs ys x y is = sym (last-end x xs x) ∙ ap (last_or x) is ∙ last-end x ys y

abbrev all_but_last : {A : Type 0} → List A → List A
all_but_last [] = []
all_but_last (x ∷ []) = []
all_but_last (x ∷ y ∷ xs) = x ∷ all_but_last (y ∷ xs)

front-end : {A : Type 0} (xs : List A) (x : A) → all_but_last (xs ++ x ∷ []) ≡ xs
front-end [] x = refl
front-end (y ∷ []) x = refl
front-end (y ∷ z ∷ zs) x = ap (λ ws. y ∷ ws) (front-end (z ∷ zs) x)

same-front : {A : Type 0} (xs ys : List A) (x y : A) → xs ++ x ∷ [] ≡ ys ++ y ∷ [] → xs ≡ ys
same-front xs ys x y is = sym (front-end xs x) ∙ ap all_but_last is ∙ front-end ys y

some-are : (n : ℕ) → 0 < n → (n == 0) ≡ false
some-are n some = grind (arith, nat_tests, some)

module _ {V : Type 0} where
  lent-more : (lent : Lent V) (levels : List (Level V)) (level : Level V) → lent_over lent (levels ++ level ∷ []) ≡ lent_before level.table (lent_over lent levels)
  lent-more lent [] level = refl
  lent-more lent (l ∷ ls) level = lent-more (lent_before l.table lent) ls level

  laid-more : (some : Bool) (lent : Lent V) (levels : List (Level V)) (level : Level V) → AreLaid some lent levels → HasOwnSlots level.ids.items (lent_over lent levels) level.table
      → (some ≡ true → HasOnlySlots level.ids.items level.table) → ((length levels == 0) ≡ false → HasOnlySlots level.ids.items level.table) → AreLaid some lent (levels ++ level ∷ [])
  laid-more some lent [] level laid own only more = (record { own_slots = own; only_own = only }, tt)
  laid-more some lent (l ∷ ls) level laid own only more = (laid.0, laid-more true (lent_before l.table lent) ls level laid.1 own (λ _. more (some-are (length (l ∷ ls)) (omega arith))) (λ _. more (some-are (length (l ∷ ls)) (omega arith))))

  module _ (levels : List (Level V)) (shelf : List (Shelf V)) (stand : Stand levels shelf) where
    shows : lent_slot shelf ≡ lent_by levels
    shows = λ i id. stand.shows id i

    -- what the levels lend, once a table is laid before them
    pub lent-laid : (ids : List ResourceId) (own : Table V) (laid : List (Level V)) → HasLaid levels ids own laid → lent_by laid ≡ lent_before own (lent_slot shelf)
    lent-laid ids own laid (level, is, table, _) =
        ap lent_by is ∙ lent-more (lent_slot []) levels level ∙ ap (λ (t : Table V). lent_before t (lent_by levels)) table ∙ ap (lent_before own) (sym shows)

    -- the table that was laid lies before the shelf
    pub before-laid : (ids : List ResourceId) (own : Table V) (laid : List (Level V)) → LiesBefore ids shelf own → HasLaid levels ids own laid → LaidBefore levels shelf laid
    before-laid ids own laid lies (level, is, table, same) =
        (level, is, subst (λ (t : Table V). LiesBefore level.ids.items shelf t) (sym table) (subst (λ (q : List ResourceId). LiesBefore q shelf own) (sym same) lies))

    -- a shelf of the last level before this one stands for all of them
    pub stand-laid : (laid : List (Level V)) → LaidBefore levels shelf laid → (front : List (Level V)) (last : Level V) → laid ≡ front ++ last ∷ [] → (nearest : List (Shelf V)) → (length nearest == 0) ≡ false
        → ((id : ResourceId) → lent_slot nearest id ≡ lent_before last.table (lent_slot shelf) id) → Stand laid nearest
    stand-laid laid (level, is, lies) front last at nearest some near =
        let same : last ≡ level = same-last front levels last level (sym at ∙ is) in
        let own : HasOwnSlots level.ids.items (lent_by levels) level.table = subst (λ (lent : Lent V). HasOwnSlots level.ids.items lent level.table) shows lies.own_slots in
        let lent : lent_by laid ≡ lent_before level.table (lent_slot shelf) = ap lent_by is ∙ lent-more (lent_slot []) levels level ∙ ap (lent_before level.table) (sym shows) in
        record {
          laid = subst (AreLaid false (lent_slot [])) (sym is) (laid-more false (lent_slot []) levels level stand.laid own (λ no. absurd (cc)) (λ some. lies.only_own (sym stand.some ∙ some)));
          shows = λ id. near id ∙ ap (λ (l : Level V). lent_before l.table (lent_slot shelf) id) same ∙ ap (λ (lent : Lent V). lent id) (sym lent);
          some = ap (λ (ls : List (Level V)). length ls == 0) is ∙ some-more levels level ∙ sym some;
        }
      where
        some-more : (ls : List (Level V)) (l : Level V) → (length (ls ++ l ∷ []) == 0) ≡ false
        some-more [] l = refl
        some-more (x ∷ xs) l = some-are (length (x ∷ (xs ++ l ∷ []))) (omega arith)

    -- the table of the last level lies before the shelf
    pub last-before : (laid : List (Level V)) → LaidBefore levels shelf laid → (front : List (Level V)) (last : Level V) → laid ≡ front ++ last ∷ [] → LiesBefore last.ids.items shelf last.table
    last-before laid (level, is, lies) front last at = subst (λ (l : Level V). LiesBefore l.ids.items shelf l.table) (sym (same-last front levels last level (sym at ∙ is))) lies

  -- the first of the levels that are left lies before the shelf
  pub reach-before : (levels : List (Level V)) (level : Level V) (left : List (Level V)) (shelf : List (Shelf V)) → Reach levels (level ∷ left) shelf → LiesBefore level.ids.items shelf level.table
  reach-before levels level left shelf reach = record { own_slots = reach.left_laid.0.own_slots; only_own = λ some. reach.left_laid.0.only_own refl }

  -- so do those that are left then
  pub reach-more : (levels : List (Level V)) (level : Level V) (left : List (Level V)) (shelf nearest : List (Shelf V)) → Reach levels (level ∷ left) shelf → ((id : ResourceId) → lent_slot nearest id ≡ lent_before level.table (lent_slot shelf) id) → Reach levels left nearest
  reach-more levels level left shelf nearest reach near =
      let same : lent_slot nearest ≡ lent_before level.table (lent_slot shelf) = λ i id. near id i in
      record {
        laid = reach.laid;
        some = reach.some;
        left_laid = subst (λ (lent : Lent V). AreLaid true lent left) (sym same) reach.left_laid.1;
        same = λ id. ap (λ (lent : Lent V). lent_over lent left id) same ∙ reach.same id;
      }

  -- the first of some levels, with nothing behind it
  pub reach-start : (levels : List (Level V)) (level : Level V) (left : List (Level V)) (nearest : List (Shelf V)) → AreLaid false (lent_slot []) levels → levels ≡ level ∷ left → ((id : ResourceId) → lent_slot nearest id ≡ lent_before level.table (lent_slot []) id) → Reach levels left nearest
  reach-start levels level left nearest laid is near =
      let same : lent_slot nearest ≡ lent_before level.table (lent_slot []) = λ i id. near id i in
      let all : AreLaid false (lent_slot []) (level ∷ left) = subst (AreLaid false (lent_slot [])) is laid in
      record {
        laid = laid;
        some = ap (λ (ls : List (Level V)). length ls == 0) is ∙ some-are (length (level ∷ left)) (omega arith);
        left_laid = subst (λ (lent : Lent V). AreLaid true lent left) (sym same) all.1;
        same = λ id. ap (λ (lent : Lent V). lent_over lent left id) same ∙ ap (λ (ls : List (Level V)). lent_by ls id) (sym is);
      }

  -- with none left the shelf stands for the levels
  pub reach-end : {A : Type 0} (f : A → Level V) (levels : List (Level V)) (left : List A) (shelf : List (Shelf V)) → Reach levels (map f left) shelf → length left ≡ 0 → (length shelf == 0) ≡ false → Stand levels shelf
  reach-end f levels [] shelf reach none some = record { laid = reach.laid; shows = reach.same; some = reach.some ∙ sym some }
  reach-end f levels (x ∷ left) shelf reach none some = absurd (omega (arith, none))

  -- there is one more than there were
  pub laid-some : {A : Type 0} (f : A → Level V) (levels : List (Level V)) (ids : List ResourceId) (own : Table V) (laid : List A) → HasLaid levels ids own (map f laid) → 0 < length laid
  laid-some f levels ids own [] (level, is, _, _) = absurd (nothing levels level is)
    where
      nothing : (ls : List (Level V)) (l : Level V) → [] ≡ ls ++ l ∷ [] → ⊥
      nothing [] l same = cc
      nothing (x ∷ xs) l same = cc
  laid-some f levels ids own (x ∷ xs) laid = omega arith

  -- a list of which the last was taken off and put back with another table
  pub exchanged : (old front new : List (Level V)) (level last : Level V) (table left : Table V) → old ≡ front ++ level ∷ [] → new ≡ front ++ last ∷ [] → last ≡ record level { table = table } → left ≡ level.table → AreExchanged old table new left
  exchanged old front new level last table left at now changed went levels ids was (l, is, own, same) =
      let one : level ≡ l = same-last front levels level l (sym at ∙ is) in
      let others : front ≡ levels = same-front front levels level l (sym at ∙ is) in
      ((record level { table = table }, now ∙ ap (λ (x : Level V). front ++ x ∷ []) changed ∙ ap (λ (ls : List (Level V)). ls ++ record level { table = table } ∷ []) others, refl, ap (λ (x : Level V). x.ids.items) one ∙ same), went ∙ ap (λ (x : Level V). x.table) one ∙ own)
