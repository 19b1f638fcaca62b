-- What lanes ask, and what a batch asks that is alone in its group.
use Rattle.std.proofs.Common.{◌≡◌, ◌==◌, ◌∙◌, ◌&&◌, Bool, true, false, IsTrue, cond, Some, None, Option, List, [], ◌∷◌, length, map, get_or, refl, sym, ap, subst, arith}
use Rattle.std.specs.Prelude.{is_some}
use Rattle.shred_run.specs.declared.entry.Group.{Group}
use Rattle.shred_run.specs.declared.entry.GroupEntry.{GroupEntry}
use Rattle.shred_run.specs.declared.work.Work.{Work}
use Rattle.shred_run.specs.Hands.{HasPlace}
use Rattle.shred_run.specs.Lanes.{IsReady}
use Rattle.shred_run.specs.OneBatch.{is_batch, is_one_batch}
use Rattle.shred_run.specs.OwnLists.{IsEntryOf}
use Rattle.shred_run.specs.OwnSlots.{HasJustSlots, HasOnlySlots, LiesBefore, lent_before}
use Rattle.shred_run.specs.PlanOf.{entry_plan}
use Rattle.shred_run.proofs.Circle.Tiers.{emptied-is}
use Rattle.shred_run.proofs.Runs.Hands.{none_of}
use Rattle.shred_table.specs.declared.id.ResourceId.{ResourceId}
use Rattle.shred_table.specs.declared.table.Slot.{Slot}
use Rattle.shred_table.specs.declared.table.Table.{Table}
use Rattle.shred_table.specs.Parting.{AreEmpty, FitsJust, emptied}
use Rattle.shred_table.specs.Shown.{HasOwnSlots, IsSameSlots, Lent}
use Rattle.shred_table.specs.Slots.{among, or_slot, slot_at}
use Rattle.shred_world.specs.declared.world.view.Shelf.{Shelf}
use Rattle.shred_world.specs.Views.{lent_slot}
use Rattle.shred_kept.specs.declared.level.Level.{Level}
use Rattle.shred_kept.specs.Lanes.{AreReadyOver, IsLaneReady}
use Rattle.shred_kept.specs.Levels.{Stand, lent_by}

module _ {V X : Type 0} (own : X → List ResourceId → List ResourceId → Type 0) where
  -- groups that are ready to run over the shelf are ready to run over the levels for which it stands
  pub ready-over : (levels : List (Level V)) (shelf : List (Shelf V)) (groups : List (Group V X)) → Stand levels shelf → AreReadyOver own (lent_slot shelf) groups → AreReadyOver own (lent_by levels) groups
  ready-over levels shelf groups stand = subst (λ (lent : Lent V). AreReadyOver own lent groups) (λ i id. stand.shows id i)

  -- so it is the other way round
  pub ready-before : (levels : List (Level V)) (shelf : List (Shelf V)) (groups : List (Group V X)) → Stand levels shelf → AreReadyOver own (lent_by levels) groups → AreReadyOver own (lent_slot shelf) groups
  ready-before levels shelf groups stand = subst (λ (lent : Lent V). AreReadyOver own lent groups) (λ i id. sym (stand.shows id) i)

  -- so a lane of them is ready
  pub lane-ready : (levels : List (Level V)) (shelf : List (Shelf V)) (groups : List (Group V X)) → Stand levels shelf → (length shelf == 0) ≡ false → AreReadyOver own (lent_slot shelf) groups → IsLaneReady own levels groups
  lane-ready levels shelf groups stand some ready = record {
    some = stand.some ∙ some;
    laid = stand.laid;
    ready = ready-over levels shelf groups stand ready;
  }

  module _ (shelf : List (Shelf V)) (group : Group V X) (entry : GroupEntry V X) (was : group.entries.items ≡ entry ∷ []) (ready : IsReady own (lent_slot shelf) group) where
    -- the only entry of a group has its lists
    pub one-lists : own entry.work entry.reads.items entry.writes.items
    one-lists = (subst (λ (xs : List (GroupEntry V X)). IsEntryOf own (get_or xs 0 entry)) was (ready.own_lists 0 entry (omega (arith, ap length was)))).lists

    -- the group's hand lies before the shelf for it
    pub one-before : LiesBefore entry.writes.items shelf group.hand
    one-before = record {
      own_slots = subst (λ (xs : List (GroupEntry V X)). HasOwnSlots (get_or (map entry_plan xs) 0 (entry_plan entry)).access.writes (lent_slot shelf) group.hand) was
          (ready.own_slots 0 (entry_plan entry) (omega (arith, ap (λ xs. length (map entry_plan xs)) was)));
      only_own = λ _. subst (λ (xs : List (GroupEntry V X)). HasPlace (length xs == 1) group.hand (get_or xs 0 entry)) was (ready.places 0 entry (omega (arith, ap length was)));
    }

-- the only entry of a group of one batch is a batch
pub one-batch : {V S B : Type 0} (entries : List (GroupEntry V (Work S B))) (entry : GroupEntry V (Work S B)) → entries ≡ entry ∷ [] → is_one_batch entries ≡ true → is_batch entry.work ≡ true
one-batch entries entry was one = sym (ap is_one_batch was) ∙ one

-- An entry's own hand, into which what it writes was moved out of the group's.
module _ {V : Type 0} (writes : List ResourceId) (own after hand : Table V) (taken : (q : ResourceId) → slot_at hand q ≡ cond (among writes q) (slot_at own q) None) (left : (q : ResourceId) → slot_at after q ≡ cond (among writes q) (emptied (slot_at own q)) (slot_at own q)) where
  same-slots : IsSameSlots own after
  same-slots q = ap is_some (left q) ∙ emptied-is (among writes q) (slot_at own q)

  -- it has the slots that are lent behind it
  pub hand-slots : (lent : Lent V) → HasOwnSlots writes lent own → HasOwnSlots writes (lent_before after lent) hand
  hand-slots lent has id there none =
      let here : slot_at own id ≡ None = sym (taken id ∙ ap (λ (b : Bool). cond b (slot_at own id) None) there) ∙ none in
      let out : slot_at after id ≡ None = none_of (slot_at after id) (same-slots id ∙ ap is_some here) in
      ap (λ (s : Option (Slot V)). or_slot s (lent id)) out ∙ has id there here

  -- and no others
  pub hand-only : HasOnlySlots writes hand
  hand-only id out = taken id ∙ ap (λ (b : Bool). cond b (slot_at own id) None) out

  -- the group's hand lies before the shelf still
  pub hand-lies : (ids : List ResourceId) (shelf : List (Shelf V)) → HasJustSlots ids own → LiesBefore ids shelf after
  hand-lies ids shelf just = record {
    own_slots = λ id there none. absurd (let no : true ≡ false = sym (same-slots id ∙ just id ∙ there) ∙ ap is_some none in cc);
    only_own = λ some id out. none_of (slot_at after id) (same-slots id ∙ just id ∙ out);
  }

  module _ (ran : Table V) (same : IsSameSlots hand ran) where
    -- what the hand has after a step fits the slots that it came from
    pub hand-fits : FitsJust writes (slot_at after) ran
    hand-fits q = same q ∙ ap is_some (taken q) ∙ carried (among writes q) (slot_at own q) ∙ ap (λ (b : Bool). among writes q && b) (sym (same-slots q)) where
      carried : (b : Bool) (s : Option (Slot V)) → is_some (cond b s None) ≡ (b && is_some s)
      carried true s = refl
      carried false s = refl

  -- which are empty
  pub hand-left : AreEmpty (among writes) after
  hand-left q there = left q ∙ stays (among writes q) (slot_at own q) there ∙ ap emptied (sym (left q)) where
    stays : (b : Bool) (s : Option (Slot V)) → IsTrue b → cond b (emptied s) s ≡ emptied (cond b (emptied s) s)
    stays true (Some s) there = refl
    stays true None there = refl
    stays false s there = absurd (let no : false ≡ true = there in cc)
