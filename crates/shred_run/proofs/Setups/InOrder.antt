-- Calls of elements in turn, each of which goes through the entries in it, go through all entries in order.
use Rattle.std.proofs.Common.{◌≡◌, ℕ, suc, List, [], ◌∷◌, ◌++◌, map, Option, Ok, Err, refl, sym, ◌∙◌, ap, subst}
use Rattle.std.specs.Result.{MatchResult}
use Rattle.std.specs.List.{AllByRecursion}
use Rattle.std.proofs.Math.Path.{fun_ext}
use Rattle.shred_model.specs.InTurn.{InTurn, AllInTurn}
use Rattle.shred_model.specs.Record.{Agent}
use Rattle.shred_model.specs.Runs.{Answer, first_fault}
use Rattle.shred_model.specs.States.{listed_states}
use Rattle.shred_model.proofs.Joined.FirstFault.{first_fault-assoc}
use Rattle.shred_model.proofs.Records.Framed.{AllByRecursion-append}
use Rattle.shred_run.specs.AdditionOrder.{PlacedEntry, entries_in_each, placed_in}
use Rattle.shred_run.specs.EntrySetups.{DisposedInOrder, SetUpInOrder, told_of}
use Rattle.shred_run.specs.Occupants.{inside_at}
use Rattle.shred_run.proofs.Added.Entries.{each-stands}
use Rattle.shred_run.proofs.Paths.Opened.{EachAt}

-- the entries of elements are those of what is planned of them
pub entries-mapped : {Y X I : Type 0} (f : Y → X) (within : X → List (PlacedEntry I)) (n : ℕ) (ys : List Y) → entries_in_each within n (map f ys) ≡ entries_in_each (λ y. within (f y)) n ys
entries-mapped f within n [] = refl
entries-mapped f within n (y ∷ ys) = ap (λ rest. map (placed_in n) (within (f y)) ++ rest) (entries-mapped f within (suc n) ys)

module _ {I W H G F : Type 0} (told : ℕ → G → F) (Own : W → H → Answer G → W → H → Type 0) where
  module _ (old new : Agent → Option W) where
    -- it stays at the places of these
    abbrev pub Stay : List (PlacedEntry I) → Type 0
    Stay rest = AllByRecursion (λ next. new next.place ≡ old next.place) rest

    -- first some entries, and where they were Done the others
    set_up-append : (first rest : List (PlacedEntry I)) (before middle after : H) (a b : Answer F) → SetUpInOrder told Own old new first before a middle
        → MatchResult a (λ done. SetUpInOrder told Own old new rest middle b after) (λ fault. (b ≡ Err fault) × (after ≡ middle) × Stay rest) → SetUpInOrder told Own old new (first ++ rest) before b after
    set_up-append [] rest before middle after a b (done, same) next =
        subst (λ (m : H). SetUpInOrder told Own old new rest m b after) same
        (subst (λ (c : Answer F). MatchResult c (λ done. SetUpInOrder told Own old new rest middle b after) (λ fault. (b ≡ Err fault) × (after ≡ middle) × Stay rest)) done next)
    set_up-append (placed ∷ first) rest before middle after a b (was, is, Ok done, m, here, there, own, more) next =
        (was, is, Ok done, m, here, there, own, set_up-append first rest m middle after a b more next)
    set_up-append (placed ∷ first) rest before middle after a b (was, is, Err fault, m, here, there, own, (answers, same, stay)) next =
        let ended = subst (λ (c : Answer F). MatchResult c (λ done. SetUpInOrder told Own old new rest middle b after) (λ fault. (b ≡ Err fault) × (after ≡ middle) × Stay rest)) answers next in
        (was, is, Err fault, m, here, there, own, (ended.0, ended.1 ∙ same, AllByRecursion-append (λ next. new next.place ≡ old next.place) first rest stay ended.2))

    -- entries inside the element at a place
    pub set_up-inside : (n : ℕ) (entries : List (PlacedEntry I)) (before after : H) (a : Answer F) → SetUpInOrder told Own (inside_at old n) (inside_at new n) entries before a after → SetUpInOrder told Own old new (map (placed_in n) entries) before a after
    set_up-inside n [] before after a end = end
    set_up-inside n (placed ∷ rest) before after a (was, is, Ok done, m, here, there, own, more) = (was, is, Ok done, m, here, there, own, set_up-inside n rest m after a more)
    set_up-inside n (placed ∷ rest) before after a (was, is, Err fault, m, here, there, own, (answers, same, stay)) = (was, is, Err fault, m, here, there, own, (answers, same, staying rest stay)) where
      staying : (ss : List (PlacedEntry I)) → AllByRecursion (λ next. inside_at new n next.place ≡ inside_at old n next.place) ss → Stay (map (placed_in n) ss)
      staying [] h = tt
      staying (s ∷ ss) h = (h.0, staying ss h.1)

    pub set_up-outside : (n : ℕ) (entries : List (PlacedEntry I)) (before after : H) (a : Answer F) → SetUpInOrder told Own old new (map (placed_in n) entries) before a after → SetUpInOrder told Own (inside_at old n) (inside_at new n) entries before a after
    set_up-outside n [] before after a end = end
    set_up-outside n (placed ∷ rest) before after a (was, is, Ok done, m, here, there, own, more) = (was, is, Ok done, m, here, there, own, set_up-outside n rest m after a more)
    set_up-outside n (placed ∷ rest) before after a (was, is, Err fault, m, here, there, own, (answers, same, stay)) = (was, is, Err fault, m, here, there, own, (answers, same, staying rest stay)) where
      staying : (ss : List (PlacedEntry I)) → Stay (map (placed_in n) ss) → AllByRecursion (λ next. inside_at new n next.place ≡ inside_at old n next.place) ss
      staying [] h = tt
      staying (s ∷ ss) h = (h.0, staying ss h.1)

  module _ {Y : Type 0} (states : Y → Agent → Option W) (within : Y → List (PlacedEntry I)) (One : ℕ → Y → H → Answer F → Y → H → Type 0)
      (one : (n : ℕ) (x y : Y) (h k : H) (a : Answer F) → One n x h a y k → SetUpInOrder told Own (states x) (states y) (within x) h a k) where
    -- what is at each place of each element
    abbrev StandsIn : (Agent → Option W) → ℕ → List Y → Type 0
    StandsIn all n ys = EachAt (λ m y. (path : Agent) → all (m ∷ path) ≡ states y path) n ys

    stays-behind : (old new : Agent → Option W) (n : ℕ) (xs ys : List Y) → ys ≡ xs → StandsIn old n xs → StandsIn new n ys → Stay old new (entries_in_each within n xs)
    stays-behind old new n xs ys same was is = each n xs was (subst (StandsIn new n) same is) where
      one_stays : (m : ℕ) (x : Y) → ((path : Agent) → old (m ∷ path) ≡ states x path) → ((path : Agent) → new (m ∷ path) ≡ states x path) → (ss : List (PlacedEntry I)) → Stay old new (map (placed_in m) ss)
      one_stays m x was is [] = tt
      one_stays m x was is (s ∷ ss) = (is s.place ∙ sym (was s.place), one_stays m x was is ss)

      each : (m : ℕ) (zs : List Y) → StandsIn old m zs → StandsIn new m zs → Stay old new (entries_in_each within m zs)
      each m [] was is = tt
      each m (z ∷ zs) was is = AllByRecursion-append (λ next. new next.place ≡ old next.place) (map (placed_in m) (within z)) (entries_in_each within (suc m) zs) (one_stays m z was.0 is.0 (within z)) (each (suc m) zs was.1 is.1)

    -- all entries of the elements are set up in order
    turns-set_up : (old new : Agent → Option W) (n : ℕ) (xs ys : List Y) (h k : H) (a : Answer F) → StandsIn old n xs → StandsIn new n ys → InTurn One n xs h a ys k → SetUpInOrder told Own old new (entries_in_each within n xs) h a k
    turns-set_up old new n [] [] h k a was is end = end
    turns-set_up old new n [] (y ∷ ys) h k a was is turns = absurd turns
    turns-set_up old new n (x ∷ xs) [] h k a was is turns = absurd turns
    turns-set_up old new n (x ∷ xs) (y ∷ ys) h k a was is (b, m, own, more) =
        let here : SetUpInOrder told Own (states x) (states y) (within x) h b m = one n x y h m b own in
        let inside : SetUpInOrder told Own (inside_at old n) (inside_at new n) (within x) h b m =
        subst (λ (g : Agent → Option W). SetUpInOrder told Own g (inside_at new n) (within x) h b m) (sym (fun_ext was.0)) (subst (λ (g : Agent → Option W). SetUpInOrder told Own (states x) g (within x) h b m) (sym (fun_ext is.0)) here) in
        set_up-append old new (map (placed_in n) (within x)) (entries_in_each within (suc n) xs) h m k b a (set_up-inside old new n (within x) h m b inside)
        (next b (λ turns. turns-set_up old new (suc n) xs ys m k a was.1 is.1 turns) more) where
          next : (c : Answer F) → (InTurn One (suc n) xs m a ys k → SetUpInOrder told Own old new (entries_in_each within (suc n) xs) m a k) → MatchResult c (λ done. InTurn One (suc n) xs m a ys k) (λ fault. (ys ≡ xs) × (k ≡ m) × (a ≡ Err fault))
              → MatchResult c (λ done. SetUpInOrder told Own old new (entries_in_each within (suc n) xs) m a k) (λ fault. (a ≡ Err fault) × (k ≡ m) × Stay old new (entries_in_each within (suc n) xs))
          next (Ok done) go turns = go turns
          next (Err fault) go (same, kept, answers) = (answers, kept, stays-behind old new (suc n) xs ys same was.1 is.1)

    pub all-set_up : (xs ys : List Y) (h k : H) (a : Answer F) → InTurn One 0 xs h a ys k → SetUpInOrder told Own (listed_states states xs) (listed_states states ys) (entries_in_each within 0 xs) h a k
    all-set_up xs ys h k a turns = turns-set_up (listed_states states xs) (listed_states states ys) 0 xs ys h k a (each-stands states xs) (each-stands states ys) turns

-- what is told of faults may be told on
pub set_up-retold : {I W H G F K : Type 0} (told : ℕ → G → F) (other : ℕ → G → K) (tell : Answer F → Answer K) → tell (Ok tt) ≡ Ok tt → ((id : ℕ) (fault : G) → tell (Err (told id fault)) ≡ Err (other id fault))
    → (Own : W → H → Answer G → W → H → Type 0) (old new : Agent → Option W) (entries : List (PlacedEntry I)) (h k : H) (a : Answer F) → SetUpInOrder told Own old new entries h a k → SetUpInOrder other Own old new entries h (tell a) k
set_up-retold told other tell ok err Own old new [] h k a (done, same) = (ap tell done ∙ ok, same)
set_up-retold told other tell ok err Own old new (placed ∷ rest) h k a (was, is, Ok done, m, here, there, own, more) = (was, is, Ok done, m, here, there, own, set_up-retold told other tell ok err Own old new rest m k a more)
set_up-retold told other tell ok err Own old new (placed ∷ rest) h k a (was, is, Err fault, m, here, there, own, (answers, same, stay)) = (was, is, Err fault, m, here, there, own, (ap tell answers ∙ err placed.entry.id fault, same, stay))

module _ {I W H G F : Type 0} (told : ℕ → G → F) (Own : W → H → Answer G → H → Type 0) where
  -- first some entries, and then the others
  disposed-append : (works : Agent → Option W) (first rest : List (PlacedEntry I)) (before middle after : H) (a b : Answer F) → DisposedInOrder told Own works first before a middle → DisposedInOrder told Own works rest middle b after
      → DisposedInOrder told Own works (first ++ rest) before (first_fault a b) after
  disposed-append works [] rest before middle after a b (done, same) next =
      subst (λ (m : H). DisposedInOrder told Own works rest m (first_fault a b) after) same (subst (λ (c : Answer F). DisposedInOrder told Own works rest middle (first_fault c b) after) (sym done) next)
  disposed-append works (placed ∷ first) rest before middle after a b (was, o, others, m, here, own, more, is) next =
      (was, o, first_fault others b, m, here, own, disposed-append works first rest m middle after others b more next, ap (λ (c : Answer F). first_fault c b) is ∙ first_fault-assoc (told_of told placed.entry.id o) others b)

  -- entries inside the element at a place
  disposed-inside : (works : Agent → Option W) (n : ℕ) (entries : List (PlacedEntry I)) (before after : H) (a : Answer F) → DisposedInOrder told Own (inside_at works n) entries before a after → DisposedInOrder told Own works (map (placed_in n) entries) before a after
  disposed-inside works n [] before after a end = end
  disposed-inside works n (placed ∷ rest) before after a (was, o, others, m, here, own, more, is) = (was, o, others, m, here, own, disposed-inside works n rest m after others more, is)

  pub disposed-outside : (works : Agent → Option W) (n : ℕ) (entries : List (PlacedEntry I)) (before after : H) (a : Answer F) → DisposedInOrder told Own works (map (placed_in n) entries) before a after → DisposedInOrder told Own (inside_at works n) entries before a after
  disposed-outside works n [] before after a end = end
  disposed-outside works n (placed ∷ rest) before after a (was, o, others, m, here, own, more, is) = (was, o, others, m, here, own, disposed-outside works n rest m after others more, is)

  module _ {Y : Type 0} (states : Y → Agent → Option W) (within : Y → List (PlacedEntry I)) (One : ℕ → Y → H → Answer F → H → Type 0)
      (one : (n : ℕ) (x : Y) (h k : H) (a : Answer F) → One n x h a k → DisposedInOrder told Own (states x) (within x) h a k) where
    turns-disposed : (works : Agent → Option W) (n : ℕ) (xs : List Y) (h k : H) (a : Answer F) → EachAt (λ m y. (path : Agent) → works (m ∷ path) ≡ states y path) n xs → AllInTurn One n xs h a k → DisposedInOrder told Own works (entries_in_each within n xs) h a k
    turns-disposed works n [] h k a was end = end
    turns-disposed works n (x ∷ xs) h k a was (b, c, m, own, more, is) =
        let inside = subst (λ (g : Agent → Option W). DisposedInOrder told Own g (within x) h b m) (sym (fun_ext was.0)) (one n x h m b own) in
        subst (λ (d : Answer F). DisposedInOrder told Own works (entries_in_each within n (x ∷ xs)) h d k) (sym is)
        (disposed-append works (map (placed_in n) (within x)) (entries_in_each within (suc n) xs) h m k b c (disposed-inside works n (within x) h m b inside) (turns-disposed works (suc n) xs m k c was.1 more))

    -- all entries of the elements are disposed of in order
    pub all-disposed : (xs : List Y) (h k : H) (a : Answer F) → AllInTurn One 0 xs h a k → DisposedInOrder told Own (listed_states states xs) (entries_in_each within 0 xs) h a k
    all-disposed xs h k a turns = turns-disposed (listed_states states xs) 0 xs h k a (each-stands states xs) turns

-- what is told of faults may be told on
pub disposed-retold : {I W H G F K : Type 0} (told : ℕ → G → F) (other : ℕ → G → K) (tell : Answer F → Answer K) → tell (Ok tt) ≡ Ok tt → ((id : ℕ) (fault : G) → tell (Err (told id fault)) ≡ Err (other id fault)) → ((a b : Answer F) → tell (first_fault a b) ≡ first_fault (tell a) (tell b))
    → (Own : W → H → Answer G → H → Type 0) (works : Agent → Option W) (entries : List (PlacedEntry I)) (h k : H) (a : Answer F) → DisposedInOrder told Own works entries h a k → DisposedInOrder other Own works entries h (tell a) k
disposed-retold told other tell ok err join Own works [] h k a (done, same) = (ap tell done ∙ ok, same)
disposed-retold {G = G} {K = K} told other tell ok err join Own works (placed ∷ rest) h k a (was, o, others, m, here, own, more, is) =
    (was, o, tell others, m, here, own, disposed-retold told other tell ok err join Own works rest m k others more, ap tell is ∙ join (told_of told placed.entry.id o) others ∙ ap (λ (c : Answer K). first_fault c (tell others)) (retold o)) where
      retold : (o : Answer G) → tell (told_of told placed.entry.id o) ≡ told_of other placed.entry.id o
      retold (Ok done) = ok
      retold (Err fault) = err placed.entry.id fault
