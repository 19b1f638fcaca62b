-- Groups that run over their hands, and what they leave.
use Rattle.std.proofs.Common.{ℕ, List, [], ◌∷◌, Contains, subst, ◌≡◌, Bool, false, map, refl, zero, suc, ◌<◌, true, ◌&&◌, Option, Some, None, cond, length, get_or, sym, ◌∙◌, ap, inl, inr, arith, append-nil, Ok, Err}
use Rattle.std.specs.List.{AllByRecursion, list_any, All, AllZip, flat_map}
use Rattle.shred_model.specs.Access.{Access, Declares, Conflicts}
use Rattle.shred_model.specs.Plan as model
use Rattle.shred_model.specs.Runs.{Answer, Ran, first_fault}
use Rattle.shred_model.proofs.Records.Framed.{AllByRecursion-same}
use Rattle.shred_model.proofs.Records.Within.{IsWithin, RunsUpToFault-within}
use Rattle.shred_table.specs.declared.id.Kind.{Kind}
use Rattle.shred_table.specs.declared.id.ResourceId.{ResourceId}
use Rattle.shred_run.specs.declared.entry.StageFault.{StageFault}
use Rattle.shred_run.specs.Steps.{Step, Written}
use Rattle.shred_run.specs.Entries.{EntryRun, GroupRun, StageRun, group_states, StageRun}
use Rattle.std.proofs.lemmas.List.Elements.{All-nil, All-cons, All-head, All-tail, Contains-get_or, All-contains}
use Rattle.shred_model.specs.Beside.{AllWent, AreApart, PartsShow, PartsPut, SomeWrites}
use Rattle.std.specs.Prelude.{is_some, ◌==◌, ⊤}
use Rattle.std.specs.Option.{option_map}
use Rattle.std.proofs.lemmas.Bool.Decides.{nat_tests}
use Rattle.std.proofs.lemmas.List.{length-map, get_or-map, get_or_default}
use Rattle.shred_model.specs.Plan.{group_access}
use Rattle.shred_table.specs.declared.table.Slot.{Slot}
use Rattle.shred_table.specs.declared.table.Table.{Table}
use Rattle.shred_table.specs.Parting.{emptied, given, slot_value}
use Rattle.shred_table.specs.Shown.{Lent, shown, HasOwnSlots, IsSameSlots}
use Rattle.shred_table.specs.Slots.{slot_at, slot_held, among, or_slot}
use Rattle.shred_table.proofs.Tables.Ids.{among-true, among-contains, tell_ids}
use Rattle.shred_table.proofs.Parted.Pairs.{zip-get, zip-length}
use Rattle.shred_run.specs.Hands.{KeepsRoom, IsSameButHand, WriteApart, FitsGroup, IsBack, IsMovedOut, carried, is_single, HasPlace, some_writes, IsLeftEmpty, HasEmptyHand}
use Rattle.shred_run.specs.Lanes.{IsReady, GroupWent}
use Rattle.shred_run.specs.OwnLists.{IsEntryOf, IsGroupOf}
use Rattle.shred_run.specs.OwnSlots.{lent_held}
use Rattle.shred_run.specs.PlanOf.{entry_plan, group_plan, groups_plan, group_numbers, numbers_of}
use Rattle.shred_run.specs.declared.entry.GroupEntry.{GroupEntry}
use Rattle.shred_run.specs.declared.entry.Group.{Group}
use Rattle.shred_run.proofs.Runs.Hands.{room-of_empty, carried-held, back-held, carried-there}
use Rattle.shred_run.proofs.Groups.{Contains-flat_map, list_any_decides}
use Rattle.std.proofs.lemmas.List.Folds.{list_any_at, list_any_none}
use Rattle.std.proofs.lemmas.Bool.{cases_order, false_from_ne_true}
use Rattle.shred_model.specs.Record.{Agent}
use Rattle.shred_model.specs.States.{configuration_of, listed_states}
use Rattle.shred_model.proofs.Joined.AllWent.{RanBeside-from_went}
use Rattle.shred_model.proofs.Joined.BesideAsOne.{beside_as_one_thread}
use Rattle.shred_model.proofs.Joined.Ran.{Ran-from_alike, Ran-to_alike, Ran-of_one_thread}
use Rattle.shred_run.specs.Turns.{TookTurn}

-- The records of a group's run keep within the group's access.

module _ {V S E : Type 0} (kind : V → Kind) (step : Step V S E) where
  entry-within : (place : ℕ) (entry : model.PlanEntry ResourceId) (list : List (Written V S E)) (a : Answer (StageFault E)) → EntryRun kind step place entry list a → AllByRecursion (IsWithin entry.access) list
  entry-within place entry list a (r, is, at, one, answer) = AllByRecursion-same (IsWithin entry.access) list (r ∷ []) is (
    record {
      framed = one.frame;
      declared = λ i d. subst (λ (access : Access ResourceId). Declares access i) one.declared d;
      written = λ i w. subst (λ (access : Access ResourceId). Contains access.writes i) one.declared w;
    },
    tt,
  )

  pub group-within : (group : model.Group ResourceId) (list : List (Written V S E)) (a : Answer (StageFault E)) → GroupRun kind step 0 group list a → AllByRecursion (IsWithin (model.group_access group)) list
  group-within group list a run = RunsUpToFault-within (λ (e : model.PlanEntry ResourceId). e.access) (EntryRun kind step) entry-within 0 group list a run

-- Lists that agree item by item.
pub zip-trans : {A B C : Type 0} (P : A → B → Type 0) (Q : B → C → Type 0) (R : A → C → Type 0) → ((x : A) (y : B) (z : C) → P x y → Q y z → R x z) → (xs : List A) (ys : List B) (zs : List C) → AllZip P xs ys → AllZip Q ys zs → AllZip R xs zs
zip-trans P Q R join [] [] [] p q = tt
zip-trans P Q R join [] [] (z ∷ zs) p q = absurd q
zip-trans P Q R join [] (y ∷ ys) zs p q = absurd p
zip-trans P Q R join (x ∷ xs) [] zs p q = absurd p
zip-trans P Q R join (x ∷ xs) (y ∷ ys) [] p q = absurd q
zip-trans P Q R join (x ∷ xs) (y ∷ ys) (z ∷ zs) p q = (join x y z p.0 q.0, zip-trans P Q R join xs ys zs p.1 q.1)

pub zip-weaker : {A B : Type 0} (R Q : A → B → Type 0) → ((x : A) (y : B) → R x y → Q x y) → (xs : List A) (ys : List B) → AllZip R xs ys → AllZip Q xs ys
zip-weaker R Q leads [] [] zip = tt
zip-weaker R Q leads [] (y ∷ ys) zip = absurd zip
zip-weaker R Q leads (x ∷ xs) [] zip = absurd zip
zip-weaker R Q leads (x ∷ xs) (y ∷ ys) zip = (leads x y zip.0, zip-weaker R Q leads xs ys zip.1)

-- what holds of the one list's items holds of the other's
pub zip-all : {A B : Type 0} (R : A → B → Type 0) (P : A → Type 0) (Q : B → Type 0) → ((x : A) (y : B) → R x y → P x → Q y) → (xs : List A) (ys : List B) → AllZip R xs ys → All P xs → All Q ys
zip-all R P Q leads [] [] zip all = All-nil Q
zip-all R P Q leads [] (y ∷ ys) zip all = absurd zip
zip-all R P Q leads (x ∷ xs) [] zip all = absurd zip
zip-all R P Q leads (x ∷ xs) (y ∷ ys) zip all = All-cons Q y ys (leads x y zip.0 (All-head P x xs all)) (zip-all R P Q leads xs ys zip.1 (All-tail P x xs all))

-- and with it what holds of the pairs
pub zip-both : {A B : Type 0} (R : A → B → Type 0) (P : A → Type 0) (Q : A → B → Type 0) → ((x : A) (y : B) → R x y → P x → Q x y) → (xs : List A) (ys : List B) → AllZip R xs ys → All P xs → AllZip Q xs ys
zip-both R P Q leads [] [] zip all = tt
zip-both R P Q leads [] (y ∷ ys) zip all = absurd zip
zip-both R P Q leads (x ∷ xs) [] zip all = absurd zip
zip-both R P Q leads (x ∷ xs) (y ∷ ys) zip all = (leads x y zip.0 (All-head P x xs all), zip-both R P Q leads xs ys zip.1 (All-tail P x xs all))

pub zip-map : {A B X : Type 0} (R : A → B → Type 0) (f : A → X) (h : B → X) → ((x : A) (y : B) → R x y → h y ≡ f x) → (xs : List A) (ys : List B) → AllZip R xs ys → map h ys ≡ map f xs
zip-map R f h same [] [] zip = refl
zip-map R f h same [] (y ∷ ys) zip = absurd zip
zip-map R f h same (x ∷ xs) [] zip = absurd zip
zip-map R f h same (x ∷ xs) (y ∷ ys) zip = let here = same x y zip.0 in let rest = zip-map R f h same xs ys zip.1 in cc

pub zip-any : {A B : Type 0} (R : A → B → Type 0) (p : A → Bool) (q : B → Bool) → ((x : A) (y : B) → R x y → q y ≡ p x) → (xs : List A) (ys : List B) → AllZip R xs ys → list_any q ys ≡ list_any p xs
zip-any R p q same [] [] zip = refl
zip-any R p q same [] (y ∷ ys) zip = absurd zip
zip-any R p q same (x ∷ xs) [] zip = absurd zip
zip-any R p q same (x ∷ xs) (y ∷ ys) zip = let here = same x y zip.0 in let rest = zip-any R p q same xs ys zip.1 in cc

pub went-zip : {A F : Type 0} (Went : A → Answer F → A → Type 0) (xs : List A) (a : Answer F) (ys : List A) → AllWent Went xs a ys → AllZip (λ x y. (b : Answer F) × Went x b y) xs ys
went-zip Went [] a [] went = tt
went-zip Went [] a (y ∷ ys) went = absurd went
went-zip Went (x ∷ xs) a [] went = absurd went
went-zip Went (x ∷ xs) a (y ∷ ys) (b, c, one, rest, is) = ((b, one), went-zip Went xs c ys rest)

-- a list beside what is read of it
pub zip-viewed : {X Y : Type 0} (view : Y → X) (R : X → Y → Type 0) (ys : List Y) → All (λ y. R (view y) y) ys → AllZip R (map view ys) ys
zip-viewed view R [] all = tt
zip-viewed view R (y ∷ ys) all = (All-head (λ z. R (view z) z) y ys all, zip-viewed view R ys (All-tail (λ z. R (view z) z) y ys all))

-- Groups whose written values were moved into their hands, that ran, and whose values were moved back.
not_both : (b c : Bool) → (b ≡ true → c ≡ true → ⊥) → (b && c) ≡ false
not_both true true h = absurd (h refl refl)
not_both true false h = refl
not_both false c h = refl

module _ {V S : Type 0} where
  pub same-then : (x y z : Group V S) → IsSameButHand x y → IsSameButHand y z → IsSameButHand x z
  same-then x y z one two = record { ids = two.ids ∙ one.ids; entries = two.entries ∙ one.entries; written = two.written ∙ one.written }

  pub same-plan : (x y : Group V S) → IsSameButHand x y → group_plan y ≡ group_plan x
  same-plan x y same = ap (λ entries. map entry_plan entries.items) same.entries

  pub same-written : (x y : Group V S) → IsSameButHand x y → (q : ResourceId) → among y.written.items q ≡ among x.written.items q
  same-written x y same q = ap (λ written. among written.items q) same.written

  -- what an entry writes, its group writes
  written_by_group : (x : Group V S) → KeepsRoom x → (k : ℕ) (d : _) → k < length (group_plan x) → (q : ResourceId) → among (get_or (group_plan x) k d).access.writes q ≡ true → among x.written.items q ≡ true
  written_by_group x room k d below q there =
      among-contains x.written.items q (subst (λ (ids : List ResourceId). Contains ids q) (sym room.same_writes)
      (Contains-flat_map (λ e. e.access.writes) (group_plan x) (get_or (group_plan x) k d) q (Contains-get_or (group_plan x) k d below) (among-true (get_or (group_plan x) k d).access.writes q there)))

  pub entry-writes : (x : Group V S) → KeepsRoom x → (k : ℕ) (d : GroupEntry V S) → k < length x.entries.items → (q : ResourceId) → among (get_or x.entries.items k d).writes.items q ≡ true → among x.written.items q ≡ true
  entry-writes x room k d below q there =
      written_by_group x room k (entry_plan d) (rw (length-map x.entries.items entry_plan) below) q (rw (get_or-map entry_plan x.entries.items k d (entry_plan d) below) there)

  single_writes : (entries : List (GroupEntry V S)) (k : ℕ) (d : GroupEntry V S) → k < length entries → (length entries == 1) ≡ true → (q : ResourceId)
      → among (flat_map (λ (e : model.PlanEntry ResourceId). e.access.writes) (map entry_plan entries)) q ≡ among (get_or entries k d).writes.items q
  single_writes [] k d below one q = absurd (omega arith)
  single_writes (e ∷ []) zero d below one q = ap (λ ids. among ids q) (append-nil e.writes.items)
  single_writes (e ∷ []) (suc k) d below one q = absurd (omega arith)
  single_writes (e ∷ f ∷ rest) k d below one q = absurd (grind (arith, nat_tests))

  -- what the only entry of a group writes is what the group writes
  pub single-writes : (x : Group V S) → KeepsRoom x → (k : ℕ) (d : GroupEntry V S) → k < length x.entries.items → is_single x ≡ true → (q : ResourceId) → among (get_or x.entries.items k d).writes.items q ≡ among x.written.items q
  single-writes x room k d below one q = sym (ap (λ ids. among ids q) room.same_writes ∙ single_writes x.entries.items k d below one q)

  -- what a group writes, its access writes
  pub access_writes : (x : Group V S) → KeepsRoom x → (q : ResourceId) → among x.written.items q ≡ true → Contains (group_access (group_plan x)).writes q
  access_writes x room q there = subst (λ (ids : List ResourceId). Contains ids q) room.same_writes (among-true x.written.items q there)

  pub writes_access : (x : Group V S) → KeepsRoom x → (q : ResourceId) → Contains (group_access (group_plan x)).writes q → among x.written.items q ≡ true
  writes_access x room q there = among-contains x.written.items q (subst (λ (ids : List ResourceId). Contains ids q) (sym room.same_writes) there)

  -- two groups of a stage do not conflict
  pub apart-at : (groups : List (Group V S)) → AreApart group_access (groups_plan groups) → (i j : ℕ) (d : Group V S) → i < j → j < length groups
      → Conflicts (group_access (group_plan (get_or groups i d))) (group_access (group_plan (get_or groups j d))) → ⊥
  apart-at groups apart i j d lt below conflict =
      apart i j (group_plan d) lt (rw (length-map groups group_plan) below)
      (rw (get_or-map group_plan groups i d (group_plan d) (omega (arith, lt, below)), get_or-map group_plan groups j d (group_plan d) below) conflict)

  pub write-apart : (groups : List (Group V S)) → All KeepsRoom groups → AreApart group_access (groups_plan groups) → WriteApart groups
  write-apart groups room apart i j d lt below q =
      not_both (among (get_or groups i d).written.items q) (among (get_or groups j d).written.items q) (λ one two.
      apart-at groups apart i j d lt below (q, inl (access_writes (get_or groups i d) (room i d (omega (arith, lt, below))) q one, inr (access_writes (get_or groups j d) (room j d below) q two))))

  -- they may be moved out
  pub out-fits : (groups : List (Group V S)) → All KeepsRoom groups → AreApart group_access (groups_plan groups) → record { apart : WriteApart groups; empty : All HasEmptyHand groups }
  out-fits groups room apart = record { apart = write-apart groups room apart; empty = λ k d below. (room k d below).empty }

  pub write-apart-same : (xs ys : List (Group V S)) → AllZip (λ x y. (q : ResourceId) → among y.written.items q ≡ among x.written.items q) xs ys → length ys ≡ length xs → WriteApart xs → WriteApart ys
  write-apart-same xs ys zip long apart i j d lt below q =
      let Same : Group V S → Group V S → Type 0 = λ x y. (p : ResourceId) → among y.written.items p ≡ among x.written.items p in
      let one = zip-get Same i xs ys d d (omega arith) zip q in
      let two = zip-get Same j xs ys d d (omega arith) zip q in
      rw (one, two) (apart i j d lt (omega arith) q)

module _ {V : Type 0} (before after : Lent V) (taken : ResourceId → Bool) (left : (q : ResourceId) → after q ≡ cond (taken q) (emptied (before q)) (before q)) where
  -- a group whose values were moved out is ready to run
  pub is-ready : {S : Type 0} (own : S → List ResourceId → List ResourceId → Type 0) (x y : Group V S) → KeepsRoom x → IsGroupOf own x → IsMovedOut before x y → IsReady own after y
  is-ready {S} own x y room owns moved = record {
    just_slots = λ q. ap is_some (moved.1 q) ∙ carried-there (among y.written.items q) (before q);
    places = subst (λ (items : List (GroupEntry V S)). All (HasPlace (length items == 1) y.hand) items) (ap (λ entries. entries.items) (sym moved.0.entries)) (λ k d below. at k d below (is_single x) refl);
    own_lists = subst (λ (items : List (GroupEntry V S)). All (IsEntryOf own) items) (ap (λ entries. entries.items) (sym moved.0.entries)) owns;
    own_slots = subst (λ plan. All (λ e. HasOwnSlots e.access.writes after y.hand) plan) (sym (same-plan x y moved.0)) (λ k d below q there none.
        absurd (let e = sym (there_is q (same-written x y moved.0 q ∙ written_by_group x room k d below q there)) ∙ ap is_some none in cc));
  } where
    there_is : (q : ResourceId) → among y.written.items q ≡ true → is_some (slot_at y.hand q) ≡ true
    there_is q there = ap is_some (moved.1 q) ∙ ap (λ (b : Bool). is_some (cond b (carried (before q)) None)) there

    at : (k : ℕ) (d : GroupEntry V S) → k < length x.entries.items → (single : Bool) → is_single x ≡ single → HasPlace single y.hand (get_or x.entries.items k d)
    at k d below true one = λ q out.
        moved.1 q ∙ ap (λ (b : Bool). cond b (carried (before q)) None) (same-written x y moved.0 q ∙ sym (single-writes x room k d below one q) ∙ out)
    at k d below false several = λ q.
        let e = get_or x.entries.items k d in
        room-of_empty (among e.writes.items q) (slot_at e.hand q) (slot_at y.hand q) (λ there. there_is q (same-written x y moved.0 q ∙ entry-writes x room k d below q there)) ((owns k d below).hand q)

  -- after the run, its hand has the slots that it had
  pub fits-after : {S : Type 0} (x y z : Group V S) → IsMovedOut before x y → IsSameSlots y.hand z.hand → z.written ≡ y.written → FitsGroup z
  fits-after x y z moved slots written q =
      slots q ∙ ap is_some (moved.1 q) ∙ carried-there (among y.written.items q) (before q) ∙ ap (λ ids. among ids.items q) (sym written)

  -- a hand into which values were moved, beside what is left, shows what was held, where nobody else took it
  pub hand-shows : (kind : V → Kind) (written : List ResourceId) (hand : Table V) → ((q : ResourceId) → slot_at hand q ≡ cond (among written q) (carried (before q)) None) → (q : ResourceId) → (among written q ≡ false → taken q ≡ false) → lent_held kind before q ≡ shown kind after hand q
  hand-shows kind written hand moved q only = told (among written q) refl where
    told : (b : Bool) → among written q ≡ b → lent_held kind before q ≡ slot_held kind q (or_slot (slot_at hand q) (after q))
    told true e = let is : slot_at hand q ≡ carried (before q) = moved q ∙ ap (λ (b : Bool). cond b (carried (before q)) None) e in rw is (carried-held kind q (before q))
    told false e =
        let is : slot_at hand q ≡ None = moved q ∙ ap (λ (b : Bool). cond b (carried (before q)) None) e in
        rw is (ap (slot_held kind q) (sym (left q ∙ ap (λ (b : Bool). cond b (emptied (before q)) (before q)) (only e))))

  -- where the hand is put back, the table holds what was shown
  pub hand-puts : (kind : V → Kind) (end : Lent V) (hand : Table V) (q : ResourceId) → is_some (slot_at hand q) ≡ true → end q ≡ given (slot_value (slot_at hand q)) (after q) → taken q ≡ true
      → option_map kind (shown kind after hand q) ≡ option_map kind (lent_held kind before q) → lent_held kind end q ≡ shown kind after hand q
  hand-puts kind end hand q some back gone kinds =
      let is : after q ≡ emptied (before q) = left q ∙ ap (λ (b : Bool). cond b (emptied (before q)) (before q)) gone in
      let seen : or_slot (slot_at hand q) (after q) ≡ slot_at hand q = first (slot_at hand q) (after q) some in
      ap (slot_held kind q) (back ∙ ap (given (slot_value (slot_at hand q))) is)
      ∙ back-held kind q (slot_at hand q) (before q) some (sym (ap (λ s. option_map kind (slot_held kind q s)) seen) ∙ kinds) ∙ ap (slot_held kind q) (sym seen) where
        first : (s t : Option (Slot V)) → is_some s ≡ true → or_slot s t ≡ s
        first (Some s) t e = refl
        first None t e = absurd (cc)

  -- a group's moved hand shows what was held, where no other group took it
  pub shows : {S : Type 0} (kind : V → Kind) (x y : Group V S) → IsMovedOut before x y → (q : ResourceId) → (among y.written.items q ≡ false → taken q ≡ false) → lent_held kind before q ≡ shown kind after y.hand q
  shows kind x y moved q only = hand-shows kind y.written.items y.hand moved.1 q only

  -- where a group's hand is put back, the table holds what was shown
  pub puts : {S : Type 0} (kind : V → Kind) (end : Lent V) (z : Group V S) → FitsGroup z → IsBack after end z → (q : ResourceId) → among z.written.items q ≡ true → taken q ≡ true
      → option_map kind (shown kind after z.hand q) ≡ option_map kind (lent_held kind before q) → lent_held kind end q ≡ shown kind after z.hand q
  puts kind end z fit back q there gone kinds = hand-puts kind end z.hand q (fit q ∙ there) (back q there) gone kinds

-- Groups that ran beside each other over their hands leave what they leave one after the other.
pub zip-states : {V S : Type 0} (xs ys : List (Group V S)) → AllZip (λ x y. (p : Agent) → group_states y p ≡ group_states x p) xs ys → (p : Agent) → listed_states group_states ys p ≡ listed_states group_states xs p
zip-states xs ys zip [] = refl
zip-states [] [] zip (n ∷ p) = refl
zip-states [] (y ∷ ys) zip (n ∷ p) = absurd zip
zip-states (x ∷ xs) [] zip (n ∷ p) = absurd zip
zip-states (x ∷ xs) (y ∷ ys) zip (zero ∷ p) = zip.0 p
zip-states (x ∷ xs) (y ∷ ys) zip (suc n ∷ p) = zip-states xs ys zip.1 (n ∷ p)

module _ {V S : Type 0} where
  states-left : (x y : Group V S) → IsSameButHand x y → (p : Agent) → group_states y p ≡ group_states x p
  states-left x y same p = ap (λ entries. group_states (record x { entries = entries }) p) same.entries

  pub left-states : (xs ys : List (Group V S)) → AllZip IsLeftEmpty xs ys → (p : Agent) → listed_states group_states ys p ≡ listed_states group_states xs p
  left-states xs ys zip = zip-states xs ys (zip-both IsLeftEmpty (λ x. ⊤) (λ x y. (p : Agent) → group_states y p ≡ group_states x p) (λ x y s any. states-left x y s.0) xs ys zip (λ k d below. tt))

  pub own-left : (own : S → List ResourceId → List ResourceId → Type 0) (x y : Group V S) → IsLeftEmpty x y → IsGroupOf own x → IsGroupOf own y
  own-left own x y s owns = subst (λ (items : List (GroupEntry V S)). All (IsEntryOf own) items) (ap (λ entries. entries.items) (sym s.0.entries)) owns

  pub room-left : (x y : Group V S) → IsLeftEmpty x y → x.written.items ≡ (group_access (group_plan x)).writes → KeepsRoom y
  room-left x y s says = record { same_writes = ap (λ written. written.items) s.0.written ∙ says ∙ ap (λ g. (group_access g).writes) (sym (same-plan x y s.0)); empty = s.1 }

  -- what a group reads, and does not write, no group writes
  alone-at : (groups : List (Group V S)) → All KeepsRoom groups → AreApart group_access (groups_plan groups) → (k : ℕ) (d : Group V S) → k < length groups → (i : ResourceId) → Declares (group_access (group_plan (get_or groups k d))) i
      → among (get_or groups k d).written.items i ≡ false → some_writes groups i ≡ false
  alone-at groups room apart k d below i declared out = list_any_none (λ g. among g.written.items i) groups (λ j e within. rw (get_or_default groups j e d within) (told j within (among (get_or groups j d).written.items i) refl)) where
    told : (j : ℕ) → j < length groups → (b : Bool) → among (get_or groups j d).written.items i ≡ b → among (get_or groups j d).written.items i ≡ false
    told j within false e = e
    told j within true e = elim (cases_order j k) [
      | inl same ↦ absurd (let f : true ≡ false = sym e ∙ ap (λ n. among (get_or groups n d).written.items i) same ∙ out in cc)
      | inr r ↦ elim r [
        | inl lt ↦ absurd (apart-at groups apart j k d lt below (i, inl (access_writes (get_or groups j d) (room j d within) i e, declared)))
        | inr gt ↦ absurd (apart-at groups apart k j d gt within (i, inr (access_writes (get_or groups j d) (room j d within) i e, declared)))
      ]
    ]

  abbrev Alone : List (Group V S) → Group V S → Type 0
  Alone groups x = (i : ResourceId) → Declares (group_access (group_plan x)) i → among x.written.items i ≡ false → some_writes groups i ≡ false

  -- where some group writes an id, so says its plan
  some-writes : (groups : List (Group V S)) → All KeepsRoom groups → (i : ResourceId) → some_writes groups i ≡ true → SomeWrites group_access (groups_plan groups) i
  some-writes groups room i e =
      let some = (list_any_decides (λ g. among g.written.items i) (λ g. among g.written.items i ≡ true) (λ g. (λ h. h, λ h. h)) groups).0 e in
      let k = some.1.0 in
      (k, group_plan some.0, rw (length-map groups group_plan) some.1.1, get_or-map group_plan groups k some.0 (group_plan some.0) some.1.1 ∙ ap group_plan some.1.2, access_writes some.0 (All-contains KeepsRoom groups some.0 room some.1) i some.2)

-- groups whose values were moved out are ready to run
pub ready-all : {V S : Type 0} (own : S → List ResourceId → List ResourceId → Type 0) (before after : Lent V) (start out : List (Group V S)) → All KeepsRoom start → All (IsGroupOf own) start → AllZip (IsMovedOut before) start out
    → ((q : ResourceId) → after q ≡ cond (some_writes start q) (emptied (before q)) (before q)) → All (IsReady own after) out
ready-all own before after start out room owns moved left =
    zip-all (IsMovedOut before) (λ x. KeepsRoom x × IsGroupOf own x) (IsReady own after) (λ x y m h. is-ready before after (some_writes start) left own x y h.0 h.1 m) start out moved
    (λ k d below. (room k d below, owns k d below))

module _ {V S E : Type 0} (kind : V → Kind) (step : Step V S E) (own : S → List ResourceId → List ResourceId → Type 0) (before after : Lent V) (start out ran : List (Group V S)) (a : Answer (StageFault E))
    (apart : AreApart group_access (groups_plan start)) (room : All KeepsRoom start) (moved : AllZip (IsMovedOut before) start out)
    (left : (q : ResourceId) → after q ≡ cond (some_writes start q) (emptied (before q)) (before q))
    (went : AllWent (GroupWent kind step own after) out a ran) where
  abbrev Seen : Group V S → ResourceId → Option V
  Seen g = shown kind after g.hand

  -- how a group began and ended
  abbrev Ended : Group V S → Group V S → Type 0
  Ended x z = (y : Group V S) × IsMovedOut before x y × (b : Answer (StageFault E)) × GroupWent kind step own after y b z

  ended : AllZip Ended start ran
  ended = zip-trans (IsMovedOut before) (λ y z. (b : Answer (StageFault E)) × GroupWent kind step own after y b z) Ended (λ x y z one two. (y, one, two.0, two.1)) start out ran moved (went-zip (GroupWent kind step own after) out a ran went)

  plans : map group_plan out ≡ groups_plan start
  plans = zip-map (IsMovedOut before) group_plan group_plan (λ x y m. same-plan x y m.0) start out moved

  pub wrote : (q : ResourceId) → some_writes ran q ≡ some_writes start q
  wrote q = zip-any Ended (λ x. among x.written.items q) (λ z. among z.written.items q) (λ x z e. ap (λ written. among written.items q) e.3.written ∙ same-written x e.0 e.1.0 q) start ran ended

  show : PartsShow group_access Seen (map group_plan out) out (lent_held kind before)
  show = zip-viewed group_plan (λ x p. (i : ResourceId) → Declares (group_access x) i → lent_held kind before i ≡ Seen p i) out
      (zip-all (IsMovedOut before) (Alone start) (λ y. (i : ResourceId) → Declares (group_access (group_plan y)) i → lent_held kind before i ≡ Seen y i)
      (λ x y m only i declared. shows before after (some_writes start) left kind x y m i (λ none. only i (subst (λ (g : model.Group ResourceId). Declares (group_access g) i) (same-plan x y m.0) declared) (sym (same-written x y m.0 i) ∙ none)))
      start out moved (λ k d below. alone-at start room apart k d below))

  -- The hand of a group that ran fits, its plan says what it writes, and the kinds of what it shows are those of what was held.
  record FitsStill (z : Group V S) : Type 0 where
    fit : FitsGroup z
    its_writes : (i : ResourceId) → Contains (group_access (group_plan z)).writes i → among z.written.items i ≡ true
    its_kinds : (i : ResourceId) → among z.written.items i ≡ true → option_map kind (Seen z i) ≡ option_map kind (lent_held kind before i)

  fits : All FitsStill ran
  fits = zip-all Ended KeepsRoom FitsStill (λ x z e keeps. record {
    fit = fits-after before after (some_writes start) left x e.0 z e.1 e.3.slots e.3.written;
    its_writes = λ i w. ap (λ written. among written.items i) e.3.written ∙ same-written x e.0 e.1.0 i ∙ writes_access x keeps i (subst (λ (g : model.Group ResourceId). Contains (group_access g).writes i) (e.3.plan ∙ same-plan x e.0 e.1.0) w);
    its_kinds = λ i w. e.3.kinds i ∙ ap (option_map kind) (sym (shows before after (some_writes start) left kind x e.0 e.1 i (λ none. absurd (let f : true ≡ false = sym w ∙ ap (λ written. among written.items i) e.3.written ∙ none in cc))));
  }) start ran ended room

  -- they may be moved back
  pub forked-back : record { apart : WriteApart ran; fit : All FitsGroup ran }
  forked-back =
      let Same : Group V S → Group V S → Type 0 = λ x z. (q : ResourceId) → among z.written.items q ≡ among x.written.items q in
      let same : AllZip Same start ran = zip-both Ended KeepsRoom Same (λ x z e keeps q. ap (λ written. among written.items q) e.3.written ∙ same-written x e.0 e.1.0 q) start ran ended room in
      record { apart = write-apart-same start ran same (sym (zip-length Same start ran same)) (write-apart start room apart); fit = λ k d below. (fits k d below).fit }

  module _ (end : Lent V) (back : All (IsBack after end) ran) (others : (q : ResourceId) → some_writes ran q ≡ false → end q ≡ after q) where
    -- the table holds again what a group's hand showed
    put-at : (k : ℕ) (d : Group V S) → k < length ran → (i : ResourceId) → among (get_or ran k d).written.items i ≡ true → lent_held kind end i ≡ Seen (get_or ran k d) i
    put-at k d below i there =
        let still = fits k d below in
        puts before after (some_writes start) left kind end (get_or ran k d) still.fit (back k d below) i there (sym (wrote i) ∙ list_any_at (λ g. among g.written.items i) ran k d below there) (still.its_kinds i there)

    put : PartsPut group_access Seen (map group_plan ran) ran (lent_held kind end)
    put = zip-viewed group_plan (λ x p. (i : ResourceId) → Contains (group_access x).writes i → lent_held kind end i ≡ Seen p i) ran
        (λ k d below i w. put-at k d below i ((fits k d below).its_writes i w))

    unwritten : (i : ResourceId) → some_writes start i ≡ false → lent_held kind end i ≡ lent_held kind before i
    unwritten i none = ap (slot_held kind i) (others i (wrote i ∙ none) ∙ left i ∙ ap (λ (b : Bool). cond b (emptied (before i)) (before i)) none)

    rest : (i : ResourceId) → (SomeWrites group_access (map group_plan out) i → ⊥) → lent_held kind end i ≡ lent_held kind before i
    rest i none = unwritten i (false_from_ne_true (some_writes start i) (λ e. none (subst (λ (p : List (model.Group ResourceId)). SomeWrites group_access p i) (sym plans) (some-writes start room i e))))

    -- the groups' runs are those of one thread
    forked-ran : Ran (StageRun kind step (groups_plan start)) (configuration_of (listed_states group_states start) (lent_held kind before)) a (configuration_of (listed_states group_states ran) (lent_held kind end))
    forked-ran =
        let Run = λ (x : model.Group ResourceId) (list : List (Written V S E)) (b : Answer (StageFault E)). GroupRun kind step 0 x list b in
        let leaves = beside_as_one_thread tell_ids Run group_plan group_states Seen group_access (group-within kind step) out out a ran ran (lent_held kind before) (lent_held kind end)
        (RanBeside-from_went Run group_plan group_states Seen (GroupWent kind step own after) (λ y b z w. (w.ran, w.plan)) out a ran went)
        (subst (λ (p : List (model.Group ResourceId)). AreApart group_access p) (sym plans) apart) show put rest in
        let one = Ran-of_one_thread (λ list b. StageRun kind step (map group_plan out) list b) (configuration_of (listed_states group_states out) (lent_held kind before)) a (configuration_of (listed_states group_states ran) (lent_held kind end)) leaves in
        Ran-from_alike (StageRun kind step (groups_plan start)) (configuration_of (listed_states group_states out) (lent_held kind before)) a (configuration_of (listed_states group_states ran) (lent_held kind end)) (configuration_of (listed_states group_states start) (lent_held kind before))
        (record { values = λ i. refl; states = zip-states start out (zip-both (IsMovedOut before) (λ x. ⊤) (λ x y. (p : Agent) → group_states y p ≡ group_states x p) (λ x y m any. states-left x y m.0) start out moved (λ k d below. tt)) })
        (subst (λ (p : List (model.Group ResourceId)). Ran (StageRun kind step p) (configuration_of (listed_states group_states out) (lent_held kind before)) a (configuration_of (listed_states group_states ran) (lent_held kind end))) plans one)

    -- the kinds of the held values are as before
    forked-kinds : (i : ResourceId) → option_map kind (lent_held kind end i) ≡ option_map kind (lent_held kind before i)
    forked-kinds i = told (some_writes ran i) refl where
      told : (b : Bool) → some_writes ran i ≡ b → option_map kind (lent_held kind end i) ≡ option_map kind (lent_held kind before i)
      told false e = ap (option_map kind) (unwritten i (sym (wrote i) ∙ e))
      told true e =
          let some = (list_any_decides (λ g. among g.written.items i) (λ g. among g.written.items i ≡ true) (λ g. (λ h. h, λ h. h)) ran).0 e in
          All-contains (λ z. (q : ResourceId) → among z.written.items q ≡ true → option_map kind (lent_held kind end q) ≡ option_map kind (lent_held kind before q)) ran some.0 each some.1 i some.2
        where
          each : All (λ z. (q : ResourceId) → among z.written.items q ≡ true → option_map kind (lent_held kind end q) ≡ option_map kind (lent_held kind before q)) ran
          each k d below q w = ap (option_map kind) (put-at k d below q w) ∙ (fits k d below).its_kinds q w

    module _ (done : List (Group V S)) (spare : AllZip IsLeftEmpty ran done) where
      -- the groups' runs, up to where their hands are spare again
      forked-all : Ran (StageRun kind step (groups_plan start)) (configuration_of (listed_states group_states start) (lent_held kind before)) a (configuration_of (listed_states group_states done) (lent_held kind end))
      forked-all = Ran-to_alike (StageRun kind step (groups_plan start)) (configuration_of (listed_states group_states start) (lent_held kind before)) a (configuration_of (listed_states group_states ran) (lent_held kind end)) (configuration_of (listed_states group_states done) (lent_held kind end))
          (record { values = λ i. refl; states = left-states ran done spare }) forked-ran

      -- the groups took their turn, from the moving out of what they write to where all is back
      pub turn-taken : TookTurn kind step own start (lent_held kind before) a done (lent_held kind end)
      turn-taken = record {
        ran = forked-all;
        plan = zip-map IsLeftEmpty group_plan group_plan (λ z w s. same-plan z w s.0) ran done spare ∙ zip-map Ended group_plan group_plan (λ x z e. e.3.plan ∙ same-plan x e.0 e.1.0) start ran ended;
        own_lists = zip-all IsLeftEmpty (IsGroupOf own) (IsGroupOf own) (own-left own) ran done spare (zip-all Ended KeepsRoom (IsGroupOf own) (λ x z e keeps. e.3.own_lists) start ran ended room);
        ids = zip-map IsLeftEmpty group_numbers group_numbers (λ z w s. ap (λ ids. numbers_of ids.items) s.0.ids) ran done spare
            ∙ zip-map Ended group_numbers group_numbers (λ x z e. ap (λ ids. numbers_of ids.items) (e.3.ids ∙ e.1.0.ids)) start ran ended;
        room = zip-all IsLeftEmpty (λ z. z.written.items ≡ (group_access (group_plan z)).writes) KeepsRoom room-left ran done spare
            (zip-all Ended KeepsRoom (λ z. z.written.items ≡ (group_access (group_plan z)).writes) (λ x z e keeps.
            ap (λ written. written.items) (e.3.written ∙ e.1.0.written) ∙ keeps.same_writes ∙ ap (λ g. (group_access g).writes) (sym (e.3.plan ∙ same-plan x e.0 e.1.0))) start ran ended room);
        kinds = forked-kinds;
      }

-- A group that ran alone, over what is held, leaves what its stage leaves.
module _ {V S E : Type 0} (kind : V → Kind) (step : Step V S E) (x y : Group V S) (before after : ResourceId → Option V) (a : Answer (StageFault E)) (plan : group_plan y ≡ group_plan x)
    (ran : Ran (GroupRun kind step 0 (group_plan x)) (configuration_of (group_states x) before) a (configuration_of (group_states y) after))
    (frame : (i : ResourceId) → (Contains (group_access (group_plan x)).writes i → ⊥) → after i ≡ before i) where
  first : (b : Answer (StageFault E)) → b ≡ first_fault b (Ok tt)
  first (Ok done) = refl
  first (Err fault) = refl

  pub stage-of_one : Ran (StageRun kind step (groups_plan (x ∷ []))) (configuration_of (listed_states group_states (x ∷ [])) before) a (configuration_of (listed_states group_states (y ∷ [])) after)
  stage-of_one =
      let Run = λ (p : model.Group ResourceId) (list : List (Written V S E)) (b : Answer (StageFault E)). GroupRun kind step 0 p list b in
      let leaves = beside_as_one_thread tell_ids Run group_plan group_states (λ (values : ResourceId → Option V). values) group_access (group-within kind step) (x ∷ []) (before ∷ []) a (y ∷ []) (after ∷ []) before after
      (a, Ok tt, ran, plan, refl, first a) (λ i j d lt below. absurd (omega (arith, lt, below))) ((λ i d. refl), tt) ((λ i w. refl), tt) (λ i none. frame i (λ w. none (0, group_plan x, omega arith, refl, w))) in
      Ran-of_one_thread (λ list b. StageRun kind step (groups_plan (x ∷ [])) list b) (configuration_of (listed_states group_states (x ∷ [])) before) a (configuration_of (listed_states group_states (y ∷ [])) after) leaves
