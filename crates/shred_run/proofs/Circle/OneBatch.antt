-- A batch that is alone in its stage, over a table with nothing lent behind it.
use Rattle.std.proofs.Common.{◌≡◌, true, false, [], ◌∷◌, refl, ap, List, set, sym, subst, subst₂, length, map, get_or, arith, Ok, Err, ◌∙◌}
use Rattle.std.specs.List.{All}
use Rattle.std.proofs.lemmas.Bool.{false_from_ne_true, or_parts}
use Rattle.std.proofs.lemmas.Bool.Decides.{nat_tests}
use Rattle.std.proofs.lemmas.List.Elements.{All-cons, All-nil}
use Rattle.shred_model.specs.Runs.{Answer, Ran}
use Rattle.shred_model.specs.States.{configuration_of, listed_states}
use Rattle.shred_model.proofs.Joined.UpToFault.{SoFar-end, SoFar-fault, SoFar-more, SoFar-start}
use Rattle.shred_table.specs.declared.id.Kind.{Kind}
use Rattle.shred_table.specs.declared.id.ResourceId.{ResourceId}
use Rattle.shred_table.specs.declared.table.Table.{Table}
use Rattle.shred_table.specs.Shown.{Lent, shown}
use Rattle.shred_table.specs.Slots.{among}
use Rattle.shred_world.specs.Views.{lent_slot}
use Rattle.shred_world.specs.declared.world.view.Shelf.{Shelf}
use Rattle.shred_run.specs.declared.entry.Group.{Group}
use Rattle.shred_run.specs.declared.entry.GroupEntry.{GroupEntry}
use Rattle.shred_run.specs.declared.entry.StageFault.{StageFault}
use Rattle.shred_run.specs.declared.entry.StageFault.TheVariants.{System}
use Rattle.shred_run.specs.declared.work.Work.{Work}
use Rattle.shred_run.specs.Entries.{entry_answer, EntryRun, GroupRun, entry_states, group_states}
use Rattle.shred_run.specs.Hands.{is_single, KeepsRoom}
use Rattle.shred_run.specs.Lanes.{GroupWent}
use Rattle.shred_run.specs.OneBatch.{is_lone_batch, is_one_batch}
use Rattle.shred_run.specs.OwnLists.{IsEntryOf, IsGroupOf}
use Rattle.shred_run.specs.PlanOf.{entry_plan, group_plan, numbers_of}
use Rattle.shred_run.specs.Steppers.{IsStepBy}
use Rattle.shred_run.specs.Steps.{Outcome, Step}
use Rattle.shred_run.specs.TurnsOver.{TookTurnOver}
use Rattle.shred_run.proofs.Circle.Entries.{step-ran}
use Rattle.shred_run.proofs.Groups.{room-kept}
use Rattle.shred_run.proofs.Runs.Forked.{access_writes, stage-of_one, single-writes}

-- the entry that the list has, where there is one
pub one-entry : {V S B : Type 0} (entries : List (GroupEntry V (Work S B))) → is_one_batch entries ≡ true → (entry : GroupEntry V (Work S B)) → entry ≡ get_or entries 0 entry → entries ≡ entry ∷ []
one-entry [] one entry at = absurd (cc)
one-entry (e ∷ []) one entry at = ap (λ (x : GroupEntry _ _). x ∷ []) (sym at)
one-entry (e ∷ f ∷ rest) one entry at = absurd (cc)

one-group : {V S B : Type 0} (groups : List (Group V (Work S B))) → is_lone_batch groups ≡ true → (group : Group V (Work S B)) → group ≡ get_or groups 0 group → groups ≡ group ∷ []
one-group [] one group at = absurd (cc)
one-group (g ∷ []) one group at = ap (λ (x : Group _ _). x ∷ []) (sym at)
one-group (g ∷ h ∷ rest) one group at = absurd (cc)

none-lent : {V : Type 0} (shelf : List (Shelf V)) → length shelf ≡ 0 → shelf ≡ []
none-lent [] none = refl
none-lent (x ∷ rest) none = absurd (omega (arith, none))

-- what the group did alone, the groups did, of which it is the only one
pub took-of_one : {V S B E : Type 0} {kind : V → Kind} {own : Work S B → List ResourceId → List ResourceId → Type 0} {step : Step V (Work S B) E} (groups : List (Group V (Work S B))) → is_lone_batch groups ≡ true → (group : Group V (Work S B)) → group ≡ get_or groups 0 group
    → (shelf : List (Shelf V)) → length shelf ≡ 0 → (before : Table V) (answer : Answer (StageFault E)) (new : Group V (Work S B)) (after : Table V)
    → TookTurnOver kind own step (lent_slot []) (group ∷ []) before answer (new ∷ []) after → TookTurnOver kind own step (lent_slot shelf) groups before answer (set groups 0 new) after
took-of_one {V} {S} {B} {E} {kind} {own} {step} groups lone group at shelf none before answer new after took =
    subst (λ (shelf : List (Shelf V)). TookTurnOver kind own step (lent_slot shelf) groups before answer (set groups 0 new) after) (sym (none-lent shelf none))
    (subst (λ (groups : List (Group V (Work S B))). TookTurnOver kind own step (lent_slot []) groups before answer (set groups 0 new) after) (sym (one-group groups lone group at)) took)

-- The step of the only entry of a group.
module _ {V X E : Type 0} {kind : V → Kind} {own : X → List ResourceId → List ResourceId → Type 0} {step : Step V X E} {lent : Lent V} (group new : Group V X) (entry : GroupEntry V X) (left : X) (was : group.entries.items ≡ entry ∷ []) (items : new.entries.items ≡ record entry { work = left } ∷ [])
    (before : Table V) (outcome : Outcome E) (after : Table V) (stepped : IsStepBy kind own step entry.reads.items entry.writes.items lent entry.work before outcome left after) where
  abbrev ended : GroupEntry V X
  ended = record entry { work = left }

  abbrev OneRan : Answer (StageFault E) → Type 0
  OneRan answer = Ran (GroupRun kind step 0 (entry_plan entry ∷ [])) (configuration_of (listed_states entry_states (entry ∷ [])) (shown kind lent before)) answer (configuration_of (listed_states entry_states (ended ∷ [])) (shown kind lent after))

  entry-ran : (a : Answer (StageFault E)) → a ≡ entry_answer entry.id.0 outcome → Ran (EntryRun kind step 0 (entry_plan entry)) (configuration_of (entry_states entry) (shown kind lent before)) a (configuration_of (entry_states ended) (shown kind lent after))
  entry-ran a same = step-ran kind step (entry_plan entry) entry.work left (shown kind lent before) (shown kind lent after) outcome stepped.lies stepped.kinds stepped.frame a same

  one-ran : (o : Outcome E) → outcome ≡ o → OneRan (entry_answer entry.id.0 o)
  one-ran (Ok done) is =
      SoFar-end (EntryRun kind step) entry_plan entry_states (ended ∷ []) (shown kind lent after) refl
      (SoFar-more (EntryRun kind step) entry_plan entry_states (entry ∷ []) (shown kind lent before) refl
      (SoFar-start (EntryRun kind step) (entry_plan entry ∷ []) (configuration_of (listed_states entry_states (entry ∷ [])) (shown kind lent before))) entry ended (shown kind lent after) (omega arith) (entry-ran (Ok tt) (ap (entry_answer entry.id.0) (sym is)))) (omega arith)
  one-ran (Err fault) is =
      SoFar-fault (EntryRun kind step) entry_plan entry_states (entry ∷ []) (shown kind lent before) refl
      (SoFar-start (EntryRun kind step) (entry_plan entry ∷ []) (configuration_of (listed_states entry_states (entry ∷ [])) (shown kind lent before))) entry ended (shown kind lent after) (omega arith) (System entry.id fault) (entry-ran (Err (System entry.id fault)) (ap (entry_answer entry.id.0) (sym is)))

  same-plan : group_plan new ≡ group_plan group
  same-plan = ap (map entry_plan) items ∙ sym (ap (map entry_plan) was)

  here : get_or group.entries.items 0 entry ≡ entry
  here = ap (λ (xs : List (GroupEntry V X)). get_or xs 0 entry) was

  long : length group.entries.items ≡ 1
  long = ap (λ (xs : List (GroupEntry V X)). length xs) was

  -- the group took the turn of all groups
  pub one-took : (answer : Answer (StageFault E)) → answer ≡ entry_answer entry.id.0 outcome → IsGroupOf own group → KeepsRoom group → new.ids ≡ group.ids → new.written ≡ group.written → new.hand ≡ group.hand → TookTurnOver kind own step lent (group ∷ []) before answer (new ∷ []) after
  one-took answer is owns room ids written hand =
      let framed : (id : ResourceId) → among group.written.items id ≡ false → shown kind lent after id ≡ shown kind lent before id =
      let length_is = long in
      let one : is_single group ≡ true = grind (arith, nat_tests, length_is) in
      λ id out. stepped.frame id ((λ i. among (sym here i).writes.items id) ∙ single-writes group room 0 entry (omega (arith, length_is)) one id ∙ out) in
      let ran : Ran (GroupRun kind step 0 (group_plan group)) (configuration_of (group_states group) (shown kind lent before)) answer (configuration_of (group_states new) (shown kind lent after)) =
      subst₂ (λ (xs ys : List (GroupEntry V X)). Ran (GroupRun kind step 0 (map entry_plan xs)) (configuration_of (listed_states entry_states xs) (shown kind lent before)) answer (configuration_of (listed_states entry_states ys) (shown kind lent after))) (sym was) (sym items)
      (subst OneRan (sym is) (one-ran outcome refl)) in
      let own_entry : IsEntryOf own ended = record { lists = stepped.own_lists; hand = (subst (IsEntryOf own) here (owns 0 entry (let length_is = long in omega (arith, length_is)))).hand } in
      record {
        took = record {
          ran = stage-of_one kind step group new (shown kind lent before) (shown kind lent after) answer same-plan ran (λ id none. framed id (false_from_ne_true (among group.written.items id) (λ e. none (access_writes group room id e))));
          plan = λ i. same-plan i ∷ [];
          own_lists = All-cons (IsGroupOf own) new [] (subst (All (IsEntryOf own)) (sym items) (All-cons (IsEntryOf own) ended [] own_entry (All-nil (IsEntryOf own)))) (All-nil (IsGroupOf own));
          ids = λ i. numbers_of (ids i).items ∷ [];
          room = All-cons KeepsRoom new [] (room-kept group new same-plan written hand room) (All-nil KeepsRoom);
          kinds = stepped.kinds;
        };
        slots = stepped.slots;
        others = λ id none. framed id ((or_parts (among group.written.items id) false none).0);
      }

-- The step of the only entry of a group over the group's own table.
module _ {V X E : Type 0} {kind : V → Kind} {own : X → List ResourceId → List ResourceId → Type 0} {step : Step V X E} {lent : Lent V} (group new : Group V X) (entry : GroupEntry V X) (left : X) (was : group.entries.items ≡ entry ∷ []) (items : new.entries.items ≡ record entry { work = left } ∷ [])
    (outcome : Outcome E) (stepped : IsStepBy kind own step entry.reads.items entry.writes.items lent entry.work group.hand outcome left new.hand) where
  -- the group ran
  pub one-went : (answer : Answer (StageFault E)) → answer ≡ entry_answer entry.id.0 outcome → IsGroupOf own group → new.ids ≡ group.ids → new.written ≡ group.written → GroupWent kind step own lent group answer new
  one-went answer is owns ids written =
      let one = one-ran group new entry left was items group.hand outcome new.hand stepped outcome refl in
      let length_is = long group new entry left was items group.hand outcome new.hand stepped in
      let own_entry : IsEntryOf own (record entry { work = left }) = record { lists = stepped.own_lists; hand = (subst (IsEntryOf own) (here group new entry left was items group.hand outcome new.hand stepped) (owns 0 entry (omega (arith, length_is)))).hand } in
      record {
        ran = subst₂ (λ (xs ys : List (GroupEntry V X)). Ran (GroupRun kind step 0 (map entry_plan xs)) (configuration_of (listed_states entry_states xs) (shown kind lent group.hand)) answer (configuration_of (listed_states entry_states ys) (shown kind lent new.hand))) (sym was) (sym items)
            (subst (OneRan group new entry left was items group.hand outcome new.hand stepped) (sym is) one);
        plan = same-plan group new entry left was items group.hand outcome new.hand stepped;
        own_lists = subst (All (IsEntryOf own)) (sym items) (All-cons (IsEntryOf own) (record entry { work = left }) [] own_entry (All-nil (IsEntryOf own)));
        ids = ids;
        written = written;
        kinds = stepped.kinds;
        slots = stepped.slots;
      }
