-- What a view over a table shows of the declared ids.
use Rattle.std.proofs.Common.{◌≡◌, Bool, true, false, ◌&&◌, ◌||◌, Option, Some, None, cond, List, refl, sym, ◌∙◌, ap, ℕ, zero, suc, ◌<◌, ◌≤◌, ◌+◌, [], ◌∷◌, length, get_or, take, arith, IsTrue, add-one}
use Rattle.std.specs.Prelude.{is_some, ◌==◌}
use Rattle.std.proofs.lemmas.Bool.Decides.{nat_tests}
use Rattle.shred_table.specs.declared.id.Kind.{Kind}
use Rattle.shred_table.specs.declared.id.ResourceId.{ResourceId}
use Rattle.shred_table.specs.declared.table.Slot.{Slot}
use Rattle.shred_table.specs.declared.table.Table.{Table}
use Rattle.shred_world.specs.declared.world.view.Shelf.{Shelf}
use Rattle.shred_world.specs.declared.world.view.View.{View}
use Rattle.shred_table.specs.Shown.{Lent, shown, HasOwnSlots, IsSameSlots}
use Rattle.shred_table.specs.Slots.{slot_at, slot_held, or_slot, among, of_kind}
use Rattle.shred_world.specs.Views.{lent_slot, lent_to, shelf_slot, is_whole, is_own, may_read, view_held, declared_held}
use Rattle.shred_run.specs.OwnSlots.{HasOnlySlots, LiesBefore}
use Rattle.shred_run.specs.Steps.{declared_of}
use Rattle.std.specs.Option.{option_map}
use Rattle.shred_table.specs.Parting.{emptied, given, slot_value, IsRoom}
use Rattle.shred_run.specs.Hands.{carried, WriteApart, some_writes}
use Rattle.std.specs.List.{All, AllByRecursion}
use Rattle.std.proofs.lemmas.List.Folds.{list_any_at}
use Rattle.std.proofs.lemmas.List.Elements.{All-from_recursion, All-head, All-tail}
use Rattle.std.proofs.lemmas.Bool.{or_parts, or_from}
use Rattle.shred_model.proofs.Joined.Apart.{AllPairs-head, AllPairs-tail}
use Rattle.shred_table.proofs.Parted.Pairs.{ZipTo}
use Rattle.shred_run.specs.declared.entry.Group.{Group}

module _ {V : Type 0} (kind : V → Kind) (v : View V) (reads writes : List ResourceId) (lent : Lent V) (own : Table V)
    (reads_are : v.reads.now ≡ reads) (writes_are : v.writes.now ≡ writes) (owned_are : v.owned.now ≡ writes) (not_whole : is_whole v ≡ false)
    (shelf_is : (q : ResourceId) → lent_to v q ≡ lent q) (slots_are : (q : ResourceId) → slot_at v.own.now q ≡ slot_at own q) (has : HasOwnSlots writes lent own)
    (own_are : (q : ResourceId) → is_own v q ≡ among writes q) (only : HasOnlySlots writes own) where
  readable : (q : ResourceId) → may_read v q ≡ (among reads q || among writes q)
  readable q = (λ i. among (reads_are i) q || (not_whole i || (among (writes_are i) q && among (owned_are i) q))) ∙ twice (among reads q) (among writes q) where
    twice : (a b : Bool) → (a || (false || (b && b))) ≡ (a || b)
    twice true b = refl
    twice false true = refl
    twice false false = refl

  shows : (q : ResourceId) → view_held kind v q ≡ shown kind lent own q
  shows q = (λ i. slot_held kind q (cond (own_are q i) (slots_are q i) (shelf_is q i))) ∙ behind (among writes q) refl (slot_at own q) refl where
    behind : (b : Bool) → among writes q ≡ b → (o : Option (Slot V)) → slot_at own q ≡ o → slot_held kind q (cond b o (lent q)) ≡ slot_held kind q (or_slot o (lent q))
    behind false e o is = ap (λ (s : Option (Slot V)). slot_held kind q (or_slot s (lent q))) (sym (only q e) ∙ is)
    behind true e (Some s) is = refl
    behind true e None is = ap (slot_held kind q) (sym (has q e is))

  -- over a table and what is lent shared, a view of some ids shows what both show of them
  pub declared_shown : declared_held kind v ≡ declared_of (record { reads = reads; writes = writes }) (shown kind lent own)
  declared_shown = λ i q. cond (readable q i) (shows q i) None

-- the first slot is shown, where the second is none unless there is a first
pub own-first : {V : Type 0} (s l : Option (Slot V)) → (s ≡ None → l ≡ None) → s ≡ or_slot s l
own-first (Some s) l has = refl
own-first None l has = sym (has refl)

-- a table that lies before what is lent shared shows of these ids its slots, and of all others what is lent
pub shown-first : {V : Type 0} (ids : List ResourceId) (own : Table V) (shelf : List (Shelf V)) → LiesBefore ids shelf own → (q : ResourceId)
    → cond ((length shelf == 0) || among ids q) (slot_at own q) (lent_slot shelf q) ≡ or_slot (slot_at own q) (lent_slot shelf q)
shown-first ids own [] before q = own-first (slot_at own q) None (λ none. refl)
shown-first {V} ids own (x ∷ rest) before q =
    let some : (length (x ∷ rest) == 0) ≡ false = grind (arith, nat_tests) in
    ap (λ (b : Bool). cond (b || among ids q) (slot_at own q) (shelf_slot x q)) some ∙ told some (among ids q) refl where
      told : (length (x ∷ rest) == 0) ≡ false → (b : Bool) → among ids q ≡ b → cond b (slot_at own q) (shelf_slot x q) ≡ or_slot (slot_at own q) (shelf_slot x q)
      told some true e = own-first (slot_at own q) (shelf_slot x q) (before.own_slots q e)
      told some false e = ap (λ (s : Option (Slot V)). or_slot s (shelf_slot x q)) (sym (before.only_own some q e))

pub none_of : {A : Type 0} (o : Option A) → is_some o ≡ false → o ≡ None
none_of (Some s) h = absurd (cc)
none_of None h = refl

pub carried-there : {V : Type 0} (b : Bool) (s : Option (Slot V)) → is_some (cond b (carried s) None) ≡ b
carried-there true s = refl
carried-there false s = refl

-- where no slot came or went, each of the ids has its slot still
pub still_has_slots : {V : Type 0} (ids : List ResourceId) (lent : Lent V) (old new : Table V) → ((q : ResourceId) → is_some (slot_at new q) ≡ is_some (slot_at old q)) → HasOwnSlots ids lent old → HasOwnSlots ids lent new
still_has_slots ids lent old new same has q e none = has q e (none_of (slot_at old q) (sym (same q) ∙ ap is_some none))

-- and it has no other slot still
pub still_only_slots : {V : Type 0} (ids : List ResourceId) (old new : Table V) → ((q : ResourceId) → is_some (slot_at new q) ≡ is_some (slot_at old q)) → HasOnlySlots ids old → HasOnlySlots ids new
still_only_slots ids old new same only q out = none_of (slot_at new q) (same q ∙ ap is_some (only q out))

-- and it lies before what is lent shared still
pub still_before : {V : Type 0} (ids : List ResourceId) (shelf : List (Shelf V)) (old new : Table V) → IsSameSlots old new → LiesBefore ids shelf old → LiesBefore ids shelf new
still_before ids shelf old new same before = record { own_slots = still_has_slots ids (lent_slot shelf) old new same before.own_slots; only_own = λ some. still_only_slots ids old new same (before.only_own some) }

-- Slots of hands, as values are moved in and out.
-- room stays while no slot of the table comes or goes
pub room-kept : {V : Type 0} (old new : Table V) → IsSameSlots old new → (ids : List ResourceId) (hand : Table V) → IsRoom old ids hand → IsRoom new ids hand
room-kept {V} old new same ids hand room q = room q ∙ ap (λ s. cond (among ids q) s None) (alike (slot_at old q) (slot_at new q) (same q)) where
  alike : (s t : Option (Slot V)) → is_some t ≡ is_some s → emptied s ≡ emptied t
  alike (Some s) (Some t) e = refl
  alike (Some s) None e = absurd (cc)
  alike None (Some t) e = absurd (cc)
  alike None None e = refl

module _ {V : Type 0} where
  -- a value that is moved into an empty slot
  pub moved-in : (b : Bool) (s h : Option (Slot V)) → h ≡ cond b (Some (record { value = None })) None → cond b (given (slot_value s) h) h ≡ cond b (carried s) None
  moved-in true s h empty = ap (given (slot_value s)) empty ∙ at (slot_value s) where
    at : (o : Option V) → given o (Some (record { value = None })) ≡ Some (record { value = o })
    at (Some v) = refl
    at None = refl
  moved-in false s h empty = empty

  -- a hand with a slot for each id has room where the table has a slot for each
  pub room-of_empty : (b : Bool) (h s : Option (Slot V)) → (b ≡ true → is_some s ≡ true) → h ≡ cond b (Some (record { value = None })) None → h ≡ cond b (emptied s) None
  room-of_empty true h (Some s) there empty = empty
  room-of_empty true h None there empty = absurd (let e = there refl in cc)
  room-of_empty false h s there empty = empty

  module _ (kind : V → Kind) (q : ResourceId) where
    -- a hand's slot holds what the table's held
    pub carried-held : (s : Option (Slot V)) → slot_held kind q s ≡ slot_held kind q (carried s)
    carried-held (Some s) = refl
    carried-held None = refl

    no_kind : (x : Option V) → option_map kind x ≡ None → None ≡ x
    no_kind (Some x) e = absurd (cc)
    no_kind None e = refl

    -- a value that goes back is held as the hand showed it, since where the table has no slot the hand showed nothing
    pub back-held : (h s : Option (Slot V)) → is_some h ≡ true → option_map kind (slot_held kind q h) ≡ option_map kind (slot_held kind q s) → slot_held kind q (given (slot_value h) (emptied s)) ≡ slot_held kind q h
    back-held None s there kinds = absurd (cc)
    back-held (Some h) (Some s) there kinds = at h.value where
      at : (o : Option V) → slot_held kind q (given o (Some (record { value = None }))) ≡ of_kind kind q o
      at (Some v) = refl
      at None = refl
    back-held (Some h) None there kinds = at h.value kinds where
      at : (o : Option V) → option_map kind (of_kind kind q o) ≡ None → slot_held kind q (given o None) ≡ of_kind kind q o
      at (Some v) e = no_kind (of_kind kind q (Some v)) e
      at None e = refl

-- Walks over groups whose values are moved into their hands, and back.
-- an item is as it was, and this held of it
abbrev pub Untouched : {A : Type 0} → (A → Type 0) → A → A → Type 0
Untouched P old new = (new ≡ old) × P old

module _ {A : Type 0} (P : A → Type 0) (R : A → A → Type 0) where
  pub untouched-start : (xs : List A) → All P xs → ZipTo R (Untouched P) 0 xs xs
  untouched-start [] all = tt
  untouched-start (x ∷ xs) all = ((refl, All-head P x xs all), untouched-start xs (All-tail P x xs all))

  pub untouched-length : (i : ℕ) (xs ys : List A) → ZipTo R (Untouched P) i xs ys → length xs ≡ length ys
  untouched-length i [] [] zip = refl
  untouched-length i [] (y ∷ ys) zip = absurd zip
  untouched-length i (x ∷ xs) [] zip = absurd zip
  untouched-length zero (x ∷ xs) (y ∷ ys) zip = ap suc (untouched-length zero xs ys zip.1)
  untouched-length (suc i) (x ∷ xs) (y ∷ ys) zip = ap suc (untouched-length i xs ys zip.1)

not_first : (a b : Bool) → (a && b) ≡ false → b ≡ true → a ≡ false
not_first true b h e = absurd (cc)
not_first false b h e = refl

not_second : (a b : Bool) → (a && b) ≡ false → a ≡ true → b ≡ false
not_second true b h e = h
not_second false b h e = absurd (cc)

-- a hand into which what a group writes was moved has what was there at first
pub carried-now : {V : Type 0} (a w : Bool) (t s h : Option (Slot V)) → (w ≡ true → a ≡ false) → s ≡ cond a (emptied t) t → h ≡ cond w (carried s) None → h ≡ cond w (carried t) None
carried-now a true t s h apart left is = is ∙ ap carried (left ∙ ap (λ (b : Bool). cond b (emptied t) t) (apart refl))
carried-now a false t s h apart left is = is

module _ {V S : Type 0} where
  -- no id is written by both groups
  abbrev Beside : Group V S → Group V S → Type 0
  Beside a b = (q : ResourceId) → (among a.written.items q && among b.written.items q) ≡ false

  -- what a group writes, no group before it writes
  pub written-before : (i : ℕ) (gs : List (Group V S)) (d : Group V S) (q : ResourceId) → WriteApart gs → i < length gs → among (get_or gs i d).written.items q ≡ true → some_writes (take i gs) q ≡ false
  written-before i [] d q apart h w = absurd (omega arith)
  written-before zero (g ∷ gs) d q apart h w = refl
  written-before (suc i) (g ∷ gs) d q apart h w =
      or_from (among g.written.items q) _ (not_first (among g.written.items q) _ (apart 0 (suc i) d (omega arith) (omega arith) q) w) (written-before i gs d q (AllPairs-tail Beside g gs apart) (omega arith) w)

  -- what a group writes, no group after it writes
  written-after : (i : ℕ) (g : Group V S) (gs : List (Group V S)) (q : ResourceId) → AllByRecursion (Beside g) gs → among g.written.items q ≡ true → some_writes (take i gs) q ≡ false
  written-after zero g gs q beside w = refl
  written-after (suc i) g [] q beside w = refl
  written-after (suc i) g (x ∷ gs) q beside w = or_from (among x.written.items q) _ (not_second (among g.written.items q) _ (beside.0 q) w) (written-after i g gs q beside.1 w)

  -- what a group writes, some group writes
  pub written-at : (i : ℕ) (gs : List (Group V S)) (d : Group V S) (q : ResourceId) → i < length gs → among (get_or gs i d).written.items q ≡ true → some_writes gs q ≡ true
  written-at i gs d q h w = list_any_at (λ g. among g.written.items q) gs i d h w

  -- what a map shows once the hands of the first groups are put into it
  abbrev pub joined : ℕ → List (Group V S) → (ResourceId → Option (Slot V)) → ResourceId → Option (Slot V)
  joined zero gs m q = m q
  joined (suc i) [] m q = m q
  joined (suc i) (g ∷ gs) m q = joined i gs (λ r. cond (among g.written.items r) (given (slot_value (slot_at g.hand r)) (m r)) (m r)) q

  joined-suc : (i : ℕ) (gs : List (Group V S)) (m : ResourceId → Option (Slot V)) (d : Group V S) (q : ResourceId) → i < length gs
      → joined (suc i) gs m q ≡ cond (among (get_or gs i d).written.items q) (given (slot_value (slot_at (get_or gs i d).hand q)) (joined i gs m q)) (joined i gs m q)
  joined-suc i [] m d q h = absurd (omega arith)
  joined-suc zero (g ∷ gs) m d q h = refl
  joined-suc (suc i) (g ∷ gs) m d q h = joined-suc i gs (λ r. cond (among g.written.items r) (given (slot_value (slot_at g.hand r)) (m r)) (m r)) d q (omega arith)

  -- one group more
  pub joined-more : (i : ℕ) (gs : List (Group V S)) (m : ResourceId → Option (Slot V)) (d : Group V S) (q : ResourceId) → i < length gs
      → joined (i + 1) gs m q ≡ cond (among (get_or gs i d).written.items q) (given (slot_value (slot_at (get_or gs i d).hand q)) (joined i gs m q)) (joined i gs m q)
  joined-more i gs m d q h = rw add-one (joined-suc i gs m d q h)

  -- what these groups do not write stays
  pub joined-rest : (i : ℕ) (gs : List (Group V S)) (m : ResourceId → Option (Slot V)) (q : ResourceId) → some_writes (take i gs) q ≡ false → joined i gs m q ≡ m q
  joined-rest zero gs m q h = refl
  joined-rest (suc i) [] m q h = refl
  joined-rest (suc i) (g ∷ gs) m q h =
      joined-rest i gs (λ r. cond (among g.written.items r) (given (slot_value (slot_at g.hand r)) (m r)) (m r)) q (or_parts (among g.written.items q) _ h).1 ∙ ap (λ (b : Bool). cond b (given (slot_value (slot_at g.hand q)) (m q)) (m q)) (or_parts (among g.written.items q) _ h).0

  -- what a group does not write stays as it was for those beside it
  joined-same : (g : Group V S) (m k : ResourceId → Option (Slot V)) (gs : List (Group V S)) → AllByRecursion (Beside g) gs → AllByRecursion (λ x. (q : ResourceId) → IsTrue (among x.written.items q) → m q ≡ k q) gs
      → AllByRecursion (λ x. (q : ResourceId) → IsTrue (among x.written.items q) → cond (among g.written.items q) (given (slot_value (slot_at g.hand q)) (m q)) (m q) ≡ k q) gs
  joined-same g m k [] beside same = tt
  joined-same g m k (x ∷ gs) beside same = (
    (λ q w. ap (λ (b : Bool). cond b (given (slot_value (slot_at g.hand q)) (m q)) (m q)) (not_first (among g.written.items q) (among x.written.items q) (beside.0 q) w) ∙ same.0 q w),
    joined-same g m k gs beside.1 same.1,
  )

  joined-each : (i : ℕ) (gs : List (Group V S)) (m k n : ResourceId → Option (Slot V)) → WriteApart gs → length gs ≤ i → AllByRecursion (λ g. (q : ResourceId) → IsTrue (among g.written.items q) → m q ≡ k q) gs → ((q : ResourceId) → n q ≡ joined i gs m q)
      → AllByRecursion (λ g. (q : ResourceId) → IsTrue (among g.written.items q) → n q ≡ given (slot_value (slot_at g.hand q)) (k q)) gs
  joined-each i [] m k n apart h same is = tt
  joined-each zero (g ∷ gs) m k n apart h same is = absurd (omega arith)
  joined-each (suc i) (g ∷ gs) m k n apart h same is = (
    (λ q w. is q ∙ joined-rest i gs (λ r. cond (among g.written.items r) (given (slot_value (slot_at g.hand r)) (m r)) (m r)) q (written-after i g gs q (AllPairs-head Beside g gs apart) w) ∙ ap (λ (b : Bool). cond b (given (slot_value (slot_at g.hand q)) (m q)) (m q)) w ∙ ap (given (slot_value (slot_at g.hand q))) (same.0 q w)),
    joined-each i gs (λ r. cond (among g.written.items r) (given (slot_value (slot_at g.hand r)) (m r)) (m r)) k n (AllPairs-tail Beside g gs apart) (omega arith) (joined-same g m k gs (AllPairs-head Beside g gs apart) same.1) is,
  )

  itself : (gs : List (Group V S)) (m : ResourceId → Option (Slot V)) → AllByRecursion (λ g. (q : ResourceId) → IsTrue (among g.written.items q) → m q ≡ m q) gs
  itself [] m = tt
  itself (g ∷ gs) m = ((λ q w. refl), itself gs m)

  -- each group's hand is there
  pub joined-all : (i : ℕ) (gs : List (Group V S)) (m n : ResourceId → Option (Slot V)) → WriteApart gs → length gs ≤ i → ((q : ResourceId) → n q ≡ joined i gs m q)
      → All (λ g. (q : ResourceId) → IsTrue (among g.written.items q) → n q ≡ given (slot_value (slot_at g.hand q)) (m q)) gs
  joined-all i gs m n apart h is = All-from_recursion (λ g. (q : ResourceId) → IsTrue (among g.written.items q) → n q ≡ given (slot_value (slot_at g.hand q)) (m q)) gs (joined-each i gs m m n apart h (itself gs m) is)
