-- Entries in the circle: one by one, and as a group runs them.
use Rattle.std.proofs.Common.{◌≡◌, Bool, true, false, cond, ◌||◌, [], Option, None, inl, inr, refl, ap, ℕ, Some, List, set, sym, subst, ◌<◌, length, map, get_or, arith, ◌≤◌, ◌+◌, Ok, Err, ◌∙◌, subst₂}
use Rattle.std.specs.Option.{option_map}
use Rattle.shred_model.specs.Access.{Access, Declares}
use Rattle.shred_model.specs.Runs.{Answer, Ran}
use Rattle.shred_model.specs.Plan as model
use Rattle.shred_model.specs.States.{own_state, configuration_of, listed_states}
use Rattle.shred_model.proofs.Joined.Ran.{Ran-one, Goes-alone}
use Rattle.shred_table.specs.declared.id.Kind.{Kind}
use Rattle.shred_table.specs.declared.id.ResourceId.{ResourceId}
use Rattle.shred_table.specs.Slots.{among, slot_at}
use Rattle.shred_table.proofs.Tables.Ids.{among-contains, among-false}
use Rattle.shred_world.specs.Worked.{Held}
use Rattle.shred_run.specs.declared.entry.StageFault.{StageFault}
use Rattle.shred_run.specs.Steps.{Outcome, Step, Written, IsStep, declared_of}
use Rattle.shred_run.specs.Entries.{entry_answer, EntryRun, GroupRun, entry_states}
use Rattle.std.specs.Prelude.{is_some}
use Rattle.std.specs.List.{All}
use Rattle.std.proofs.lemmas.List.Elements.{All-set, All-weaker}
use Rattle.shred_table.specs.declared.table.Table.{Table}
use Rattle.shred_table.specs.declared.table.Slot.{Slot}
use Rattle.shred_table.specs.Shown.{IsSameSlots, Lent, HasOwnSlots, shown}
use Rattle.shred_run.specs.declared.entry.GroupEntry.{GroupEntry}
use Rattle.shred_run.specs.Hands.{HasPlace, HasEntryRoom, is_single}
use Rattle.shred_run.proofs.Runs.Hands.{room-kept, none_of}
use Rattle.shred_run.specs.OwnSlots.{HasOnlySlots, HasGroupSlots}
use Rattle.std.proofs.lemmas.List.{length-map, get_or-map}
use Rattle.std.proofs.Math.Seq.{map-set_same}
use Rattle.shred_model.proofs.Joined.UpToFault.{SoFar, SoFar-end, SoFar-fault, SoFar-more, SoFar-start}
use Rattle.shred_run.specs.declared.entry.Group.{Group}
use Rattle.shred_run.specs.declared.entry.StageFault.TheVariants.{System}
use Rattle.shred_run.specs.declared.system.Fault.{Fault}
use Rattle.shred_run.specs.Lanes.{GroupWent, IsReady}
use Rattle.shred_run.specs.OwnLists.{IsEntryOf}
use Rattle.shred_run.specs.PlanOf.{entry_plan}
use Rattle.shred_run.specs.Steppers.{IsStepBy}

-- The step of an entry's work, as a record.

-- under a declared id, the declared values are those that are held
pub declared_of-declared : {V : Type 0} (a : Access ResourceId) (held : Held V) (id : ResourceId) → Declares a id → held id ≡ declared_of a held id
declared_of-declared a held id (inl r) = rw (among-contains a.reads id r) refl
declared_of-declared a held id (inr w) = rw (among-contains a.writes id w) (either (among a.reads id)) where
  either : (b : Bool) → held id ≡ cond (b || true) (held id) None
  either true = refl
  either false = refl

-- under any other id, there is none
pub declared_of-other : {V : Type 0} (a : Access ResourceId) (held : Held V) (id : ResourceId) → (Declares a id → ⊥) → declared_of a held id ≡ None
declared_of-other a held id out = rw (among-false a.reads id (λ r. out (inl r)), among-false a.writes id (λ w. out (inr w))) refl

module _ {V S E : Type 0} (kind : V → Kind) (step : Step V S E) (entry : model.PlanEntry ResourceId) (s t : S) (x y : Held V) (o : Outcome E)
    (lies : step s (declared_of entry.access x) o t (declared_of entry.access y))
    (kinds : (id : ResourceId) → option_map kind (y id) ≡ option_map kind (x id))
    (frame : (id : ResourceId) → among entry.access.writes id ≡ false → y id ≡ x id) where
  written : Written V S E
  written = record { agent = []; access = entry.access; before = s; seen = declared_of entry.access x; outcome = o; after = t; left = declared_of entry.access y }

  is_step : IsStep kind step entry.access written
  unfolding written
  is_step = record {
    declared = refl;
    lies = lies;
    sees_only = declared_of-other entry.access x;
    keeps_kinds = λ id. kept id (among entry.access.reads id || among entry.access.writes id);
    frame = λ id out. ap (λ (v : Option V). cond (among entry.access.reads id || among entry.access.writes id) v None) (frame id (among-false entry.access.writes id out));
  } where
    kept : (id : ResourceId) (b : Bool) → option_map kind (cond b (y id) None) ≡ option_map kind (cond b (x id) None)
    kept id true = kinds id
    kept id false = refl

  -- a step of the system over the held values is a run of its entry
  pub step-ran : (a : Answer (StageFault E)) → a ≡ entry_answer entry.id o → Ran (EntryRun kind step 0 entry) (configuration_of (own_state s) x) a (configuration_of (own_state t) y)
  unfolding written
  step-ran a is = Ran-one (EntryRun kind step 0 entry) (configuration_of (own_state s) x) a (configuration_of (own_state t) y) written (written, refl, refl, is_step, is)
      (Goes-alone written x y refl (declared_of-declared entry.access x) (declared_of-declared entry.access y) (λ id out. frame id (among-false entry.access.writes id (λ w. out (inr w)))))

-- Entries keep their places as they run.
module _ {V S : Type 0} (old new : Table V) (same : IsSameSlots old new) where
  -- an entry keeps its place while no slot comes or goes
  pub place-kept : (single : Bool) (entry : GroupEntry V S) → HasPlace single old entry → HasPlace single new entry
  place-kept true entry only = λ id out. none_of (slot_at new id) (same id ∙ ap is_some (only id out))
  place-kept false entry room = room-kept old new same entry.writes.items entry.hand room

  -- one entry has its place again, and the others have theirs still
  pub places-set : (single : Bool) (entries : List (GroupEntry V S)) (i : ℕ) (entry : GroupEntry V S) → HasPlace single new entry → All (HasPlace single old) entries → All (HasPlace single new) (set entries i entry)
  places-set single entries i entry here all = All-set (HasPlace single new) entries i entry here (All-weaker (HasPlace single old) (HasPlace single new) (place-kept single) entries all)

-- The place of an entry, where it is its group's only one and where it is not.
module _ {V S : Type 0} where
  -- the place of a group's only entry is a table that has no slots but its own
  pub place_single : (single : Bool) (table : Table V) (entry : GroupEntry V S) → single ≡ true → HasPlace single table entry → HasOnlySlots entry.writes.items table
  place_single single table entry is = subst (λ (b : Bool). HasPlace b table entry) is

  -- the place of one entry of several is room in its hand
  pub place_several : (single : Bool) (table : Table V) (entry : GroupEntry V S) → single ≡ false → HasPlace single table entry → HasEntryRoom table entry
  place_several single table entry is = subst (λ (b : Bool). HasPlace b table entry) is

  -- and where it has room in its hand, it has its place
  pub several_place : (single : Bool) (table : Table V) (entry : GroupEntry V S) → single ≡ false → HasEntryRoom table entry → HasPlace single table entry
  several_place single table entry is = subst (λ (b : Bool). HasPlace b table entry) (sym is)

  -- a group's only entry keeps its place where slots and written ids stay
  pub single_place : (single : Bool) (old new : Table V) (was entry : GroupEntry V S) → single ≡ true → IsSameSlots old new → entry.writes ≡ was.writes → HasPlace single old was → HasPlace single new entry
  single_place single old new was entry is same writes here =
      subst (λ (b : Bool). HasPlace b new entry) (sym is)
      (subst (λ writes. HasOnlySlots writes.items new) (sym writes) (place-kept old new same true was (subst (λ (b : Bool). HasPlace b old was) is here)))

-- Tables keep the slots that a plan writes while no slot comes or goes.
none_before : {V : Type 0} (old new : Option (Slot V)) → is_some new ≡ is_some old → new ≡ None → old ≡ None
none_before None new same none = refl
none_before (Some s) None same none = absurd (cc)
none_before (Some s) (Some t) same none = absurd (cc)

own_slots-kept : {V : Type 0} (lent : Lent V) (old new : Table V) → IsSameSlots old new → (ids : List ResourceId) → HasOwnSlots ids lent old → HasOwnSlots ids lent new
own_slots-kept lent old new same ids has id there none = has id there (none_before (slot_at old id) (slot_at new id) (same id) none)

-- the item at i of a list that is planned as another one was
planned_here : {X Y : Type 0} (view : X → Y) (P : Y → Type 0) (now old : List X) (i : ℕ) (x : X) → i < length now → map view now ≡ map view old → All P (map view old) → P (view (get_or now i x))
planned_here {X} {Y} view P now old i x below same all =
    let each : All P (map view now) = subst (λ (ys : List Y). All P ys) (sym same) all in
    subst P (get_or-map view now i x (view x) below) (each i (view x) (let e = length-map now view in omega arith))

-- an entry's written slots, after other entries ran
pub own_slots-here : {V X : Type 0} (view : X → model.PlanEntry ResourceId) (lent : Lent V) (old new : Table V) (now before : List X) (i : ℕ) (x : X) → i < length now → map view now ≡ map view before → IsSameSlots old new
    → HasGroupSlots lent old (map view before) → HasOwnSlots (view (get_or now i x)).access.writes lent new
own_slots-here view lent old new now before i x below same slots has =
    own_slots-kept lent old new slots (view (get_or now i x)).access.writes (planned_here view (λ e. HasOwnSlots e.access.writes lent old) now before i x below same has)

-- The entries of a group, as they run in order up to the first that is not Done.
module _ {V X E : Type 0} (kind : V → Kind) (own : X → List ResourceId → List ResourceId → Type 0) (step : Step V X E) (lent : Lent V) (single : Bool) (start : List (GroupEntry V X)) (before : Table V) where
  -- Those before place n ran and were Done; beside what stands in them and the values in the table, all stayed.
  pub record EntriesRan (n : ℕ) (entries : List (GroupEntry V X)) (now : Table V) : Type 0 where
    pub plan : map entry_plan entries ≡ map entry_plan start
    pub kinds : (id : ResourceId) → option_map kind (shown kind lent now id) ≡ option_map kind (shown kind lent before id)
    pub slots : IsSameSlots before now
    pub own_lists : All (IsEntryOf own) entries
    pub places : All (HasPlace single now) entries
    pub ran : SoFar (EntryRun kind step) n (map entry_plan start) (configuration_of (listed_states entry_states start) (shown kind lent before)) (configuration_of (listed_states entry_states entries) (shown kind lent now))

module _ {V X E : Type 0} {kind : V → Kind} {own : X → List ResourceId → List ResourceId → Type 0} {step : Step V X E} {lent : Lent V} {single : Bool} {start : List (GroupEntry V X)} {before : Table V} {n : ℕ} {entries : List (GroupEntry V X)} {now : Table V}
    (so_far : EntriesRan kind own step lent single start before n entries now) (d : GroupEntry V X) (below : n < length entries) {outcome : Outcome E} (new : GroupEntry V X) (after : Table V)
    (stepped : IsStepBy kind own step (get_or entries n d).reads.items (get_or entries n d).writes.items lent (get_or entries n d).work now outcome new.work after) (plan : entry_plan new ≡ entry_plan (get_or entries n d)) where
  set-plan : map entry_plan (set entries n new) ≡ map entry_plan start
  set-plan = map-set_same entry_plan entries n new d plan ∙ so_far.plan

  entry-ran : (a : Answer (StageFault E)) → a ≡ entry_answer (get_or entries n d).id.0 outcome → Ran (EntryRun kind step 0 (entry_plan (get_or entries n d))) (configuration_of (entry_states (get_or entries n d)) (shown kind lent now)) a (configuration_of (entry_states new) (shown kind lent after))
  entry-ran a is = step-ran kind step (entry_plan (get_or entries n d)) (get_or entries n d).work new.work (shown kind lent now) (shown kind lent after) outcome stepped.lies stepped.kinds stepped.frame a is

  -- one more ran, and was Done
  pub entries-more : IsEntryOf own new → HasPlace single after new → outcome ≡ Ok tt → EntriesRan kind own step lent single start before (n + 1) (set entries n new) after
  entries-more owns place done = record {
    plan = set-plan;
    kinds = λ id. stepped.kinds id ∙ so_far.kinds id;
    slots = λ id. stepped.slots id ∙ so_far.slots id;
    own_lists = All-set (IsEntryOf own) entries n new owns so_far.own_lists;
    places = places-set now after stepped.slots single entries n new place so_far.places;
    ran = SoFar-more (EntryRun kind step) entry_plan entry_states entries (shown kind lent now) so_far.plan so_far.ran d new (shown kind lent after) below (entry-ran (Ok tt) (ap (entry_answer (get_or entries n d).id.0) (sym done)));
  }

  -- a fault of an entry ends the run of all
  pub entries-fault : (fault : Fault E) → outcome ≡ Err fault → Ran (GroupRun kind step 0 (map entry_plan start)) (configuration_of (listed_states entry_states start) (shown kind lent before)) (Err (System new.id fault)) (configuration_of (listed_states entry_states (set entries n new)) (shown kind lent after))
  entries-fault fault is = SoFar-fault (EntryRun kind step) entry_plan entry_states entries (shown kind lent now) so_far.plan so_far.ran d new (shown kind lent after) below (System new.id fault)
      (entry-ran (Err (System new.id fault)) ((λ i. Err (System (record { 0 = (plan i).id }) fault)) ∙ ap (entry_answer (get_or entries n d).id.0) (sym is)))

module _ {V X E : Type 0} {kind : V → Kind} {own : X → List ResourceId → List ResourceId → Type 0} {step : Step V X E} {lent : Lent V} {single : Bool} {start : List (GroupEntry V X)} (group : Group V X) (ready : IsReady own lent group) (was : start ≡ group.entries.items) where
  -- before the first, none ran
  pub entries-start : single ≡ is_single group → EntriesRan kind own step lent single start group.hand 0 start group.hand
  entries-start one = record {
    plan = refl;
    kinds = λ id. refl;
    slots = λ id. refl;
    own_lists = subst (All (IsEntryOf own)) (sym was) ready.own_lists;
    places = subst₂ (λ (b : Bool) (xs : List (GroupEntry V X)). All (HasPlace b group.hand) xs) (sym one) (sym was) ready.places;
    ran = SoFar-start (EntryRun kind step) (map entry_plan start) (configuration_of (listed_states entry_states start) (shown kind lent group.hand));
  }

  module _ {n : ℕ} {entries : List (GroupEntry V X)} {now : Table V} (so_far : EntriesRan kind own step lent single start group.hand n entries now) where
    -- the next has the slots of what it writes
    pub entry-slots : (d : GroupEntry V X) → n < length entries → HasOwnSlots (get_or entries n d).writes.items lent now
    entry-slots d below = own_slots-here entry_plan lent group.hand now entries start n d below so_far.plan so_far.slots (subst (λ (xs : List (GroupEntry V X)). HasGroupSlots lent group.hand (map entry_plan xs)) (sym was) ready.own_slots)

    module _ (new : Group V X) (ids : new.ids ≡ group.ids) (written : new.written ≡ group.written) where
      went : {answer : Answer (StageFault E)} (last : List (GroupEntry V X)) (end : Table V) → new.entries.items ≡ last → new.hand ≡ end
          → Ran (GroupRun kind step 0 (map entry_plan start)) (configuration_of (listed_states entry_states start) (shown kind lent group.hand)) answer (configuration_of (listed_states entry_states last) (shown kind lent end))
          → map entry_plan last ≡ map entry_plan start → All (IsEntryOf own) last → ((id : ResourceId) → option_map kind (shown kind lent end id) ≡ option_map kind (shown kind lent group.hand id)) → IsSameSlots group.hand end → GroupWent kind step own lent group answer new
      went {answer} last end items hand ran plan owns kinds slots = record {
        ran = subst (λ (xs : List (GroupEntry V X)). Ran (GroupRun kind step 0 (map entry_plan xs)) (configuration_of (listed_states entry_states xs) (shown kind lent group.hand)) answer (configuration_of (listed_states entry_states new.entries.items) (shown kind lent new.hand))) was
            (subst₂ (λ (xs : List (GroupEntry V X)) (h : Table V). Ran (GroupRun kind step 0 (map entry_plan start)) (configuration_of (listed_states entry_states start) (shown kind lent group.hand)) answer (configuration_of (listed_states entry_states xs) (shown kind lent h))) (sym items) (sym hand) ran);
        plan = ap (map entry_plan) items ∙ plan ∙ ap (map entry_plan) was;
        own_lists = subst (All (IsEntryOf own)) (sym items) owns;
        ids = ids;
        written = written;
        kinds = λ id. ap (λ (h : Table V). option_map kind (shown kind lent h id)) hand ∙ kinds id;
        slots = λ id. ap (λ (h : Table V). is_some (slot_at h id)) hand ∙ slots id;
      }

      -- past the last, the group is Done
      pub group-done : new.entries.items ≡ entries → new.hand ≡ now → length entries ≤ n → GroupWent kind step own lent group (Ok tt) new
      group-done items hand past = went entries now items hand (SoFar-end (EntryRun kind step) entry_plan entry_states entries (shown kind lent now) so_far.plan so_far.ran past) so_far.plan so_far.own_lists so_far.kinds so_far.slots

      -- a fault of the next ends it
      pub group-faulted : (d : GroupEntry V X) → n < length entries → {outcome : Outcome E} (entry : GroupEntry V X) (after : Table V)
          → IsStepBy kind own step (get_or entries n d).reads.items (get_or entries n d).writes.items lent (get_or entries n d).work now outcome entry.work after → entry_plan entry ≡ entry_plan (get_or entries n d) → IsEntryOf own entry
          → (fault : Fault E) → outcome ≡ Err fault → new.entries.items ≡ set entries n entry → new.hand ≡ after → GroupWent kind step own lent group (Err (System entry.id fault)) new
      group-faulted d below entry after stepped plan owns fault is items hand = went (set entries n entry) after items hand (entries-fault so_far d below entry after stepped plan fault is) (set-plan so_far d below entry after stepped plan)
          (All-set (IsEntryOf own) entries n entry owns so_far.own_lists) (λ id. stepped.kinds id ∙ so_far.kinds id) (λ id. stepped.slots id ∙ so_far.slots id)
