-- The rounds of a batch.
use Rattle.std.specs.Prelude.{List, Result}
use Rattle.std.proofs.Common.{◌≡◌, ℕ, zero, suc, Bool, true, false, Ok, Err, refl, sym, ◌∙◌, ap, subst, subst₂}
use Rattle.std.proofs.lemmas.Bool.{false_from_ne_true, false≢true}
use Rattle.shred_model.specs.Access.{Access}
use Rattle.shred_model.specs.Runs.{Answer}
use Rattle.shred_table.specs.declared.id.Kind.{Kind}
use Rattle.shred_table.specs.declared.id.ResourceId.{ResourceId}
use Rattle.shred_world.specs.Worked.{Held}
use Rattle.shred_run.specs.declared.entry.StageFault.{StageFault}
use Rattle.shred_run.specs.declared.system.Fault.{Fault}
use Rattle.shred_run.specs.Steps.{Outcome, Step}
use Rattle.shred_table.specs.declared.table.Table.{Table}
use Rattle.shred_table.specs.Shown.{shown, IsSameSlots}
use Rattle.shred_table.specs.Slots.{among}
use Rattle.shred_world.specs.Views.{lent_slot}
use Rattle.shred_run.specs.Controls.{Control}
use Rattle.shred_run.specs.KeptControllers.{control_access, IsOwnControl}
use Rattle.shred_run.specs.Parts.{KeepsLoan, KeepsParts, KeepsTiers, ArePartsWithin}
use Rattle.shred_run.specs.declared.control.KeptController.{KeptController}
use Rattle.shred_run.specs.declared.loan.Loan.{Loan}
use Rattle.shred_run.specs.declared.work.Tier.{Tier}
use Rattle.shred_run.proofs.Circle.Tiers.{keeps-more, keeps-all}
use Rattle.shred_run.specs.Rounds.{IsControlOver, Rounds, BatchRun, fault_within}
use Rattle.shred_run.specs.Works.{InnerRun, IsBatchWithin}
use Rattle.shred_run.specs.declared.work.Batch.{Batch}
use Rattle.shred_run.specs.BatchRuns.{RanAsBatch}

-- What a batch's rounds keep, and what a call of its controller and a run of its inner plan do.

module _ {V C P E : Type 0} (kind : V → Kind) (asks : Control V C Bool E) (access : Access ResourceId) (Inner : P → Held V → Answer (StageFault E) → P → Held V → Type 0)
    {K : Type 0} (view : P → K) (kept : (p : P) (m : Held V) (a : Answer (StageFault E)) (r : P) (l : Held V) → Inner p m a r l → view r ≡ view p) where
  rounds_keep : (left : ℕ) (c : C) (p : P) (m : Held V) (o : Outcome E) (d : C) (q : P) (n : Held V) → Rounds kind asks access Inner left c p m o d q n → view q ≡ view p
  rounds_keep zero c p m o d q n (is, one, same, two) = ap view same
  rounds_keep (suc more) c p m o d q n (Ok true, e, k, one, (Ok tt, r, l, inner, rest)) = rounds_keep more e r l o d q n rest ∙ kept p k (Ok tt) r l inner
  rounds_keep (suc more) c p m o d q n (Ok true, e, k, one, (Err fault, r, l, inner, (is, two, same, three))) = ap view same ∙ kept p k (Err fault) r l inner
  rounds_keep (suc more) c p m o d q n (Ok false, e, k, one, (is, two, same, three)) = ap view same
  rounds_keep (suc more) c p m o d q n (Err fault, e, k, one, (is, two, same, three)) = ap view same

  -- what each run of the inner plan keeps of it, the batch's run keeps
  pub batch_keeps : (begins : Control V C ℕ E) (c : C) (p : P) (m : Held V) (o : Outcome E) (d : C) (q : P) (n : Held V) → BatchRun kind asks access Inner begins c p m o d q n → view q ≡ view p
  batch_keeps begins c p m o d q n (Ok most, e, k, one, rest) = rounds_keep most e p k o d q n rest
  batch_keeps begins c p m o d q n (Err fault, e, k, one, (is, two, same, three)) = ap view same

module _ {V X C E : Type 0} (loan : Loan V) (kind : V → Kind) (own : X → List ResourceId → List ResourceId → Type 0) (control_reads control_writes : C → List ResourceId)
    (start : KeptController V C) (tiers : List (Tier V X)) (before : Table V) (writes_within : (id : ResourceId) → among start.writes.items id ≡ true → among loan.writes.now id ≡ true)
    (control : KeptController V C) (mids : List (Tier V X)) (mid : Table V) (kept : KeepsParts kind own loan control_reads control_writes start tiers before control mids mid)
    {A : Type 0} (asks : Control V C A E) (answer : Result A (Fault E)) (new : KeptController V C) (after : Table V)
    (one : IsControlOver kind asks (control_access start) control.controller (shown kind (lent_slot loan.shelf.now) mid) answer new.controller (shown kind (lent_slot loan.shelf.now) after))
    (slots : IsSameSlots mid after) (own_lists : IsOwnControl control_reads control_writes new) (access : control_access new ≡ control_access control) where
  -- what the call keeps of the table
  asked : KeepsLoan kind loan mid after
  asked = record { kinds = one.keeps_kinds; slots = slots; frame = λ id out. one.frame id (false_from_ne_true (among start.writes.items id) (λ e. false≢true (sym out ∙ writes_within id e))) }

  -- what it keeps of the parts
  pub parts-asked : KeepsParts kind own loan control_reads control_writes start tiers before new mids after
  parts-asked = record {
    access = access ∙ kept.access;
    own_lists = own_lists;
    tiers = record { plan = kept.tiers.plan; within = kept.tiers.within; keeps = keeps-more loan kind before mid after asked kept.tiers.keeps };
  }

  -- what the call and a run of the tiers keep
  pub parts-more : (left : List (Tier V X)) (end : Table V) → KeepsTiers kind own loan mids after left end → KeepsParts kind own loan control_reads control_writes start tiers before new left end
  parts-more left end more = record {
    access = access ∙ kept.access;
    own_lists = own_lists;
    tiers = record { plan = more.plan ∙ kept.tiers.plan; within = more.within; keeps = keeps-more loan kind before after end more.keeps (keeps-more loan kind before mid after asked kept.tiers.keeps) };
  }

-- The rounds of a batch, as they follow each other while the controller says yes.
module _ {V X C E : Type 0} (kind : V → Kind) (own : X → List ResourceId → List ResourceId → Type 0) (step : Step V X E) (loan : Loan V) (reads writes : C → List ResourceId) (asks : Control V C Bool E)
    (most : ℕ) (start : KeptController V C) (held : List (Tier V X)) (before : Table V) where
  -- so many rounds at most, from there on
  abbrev pub RoundsFrom : ℕ → KeptController V C → List (Tier V X) → Table V → Outcome E → C → List (Tier V X) → Held V → Type 0
  RoundsFrom left control tiers now = Rounds kind asks (control_access start) (InnerRun kind step) left control.controller tiers (shown kind (lent_slot loan.shelf.now) now)

  -- So many are left: with whatever they turn out to be, they are rounds from the start on.
  pub record RoundsRan (left : ℕ) (control : KeptController V C) (tiers : List (Tier V X)) (now : Table V) : Type 0 where
    pub kept : KeepsParts kind own loan reads writes start held before control tiers now
    pub ran : (outcome : Outcome E) (d : C) (q : List (Tier V X)) (n : Held V) → RoundsFrom left control tiers now outcome d q n → RoundsFrom most start held before outcome d q n

  pub rounds-start : ArePartsWithin own loan reads writes start held → {left : ℕ} → left ≡ most → RoundsRan left start held before
  rounds-start parts same = record {
    kept = record { access = refl; own_lists = parts.own_lists; tiers = record { plan = refl; within = parts.within; keeps = keeps-all loan kind before } };
    ran = λ outcome d q n rest. subst (λ left. RoundsFrom left start held before outcome d q n) same rest;
  }

module _ {V X C E : Type 0} {kind : V → Kind} {own : X → List ResourceId → List ResourceId → Type 0} {step : Step V X E} {loan : Loan V} {reads writes : C → List ResourceId} {asks : Control V C Bool E}
    {most : ℕ} {start : KeptController V C} {held : List (Tier V X)} {before : Table V} (parts : ArePartsWithin own loan reads writes start held)
    {left : ℕ} {control : KeptController V C} {tiers : List (Tier V X)} {now : Table V} (so_far : RoundsRan kind own step loan reads writes asks most start held before left control tiers now) where
  abbrev seen : Table V → Held V
  seen own = shown kind (lent_slot loan.shelf.now) own

  abbrev Ended : Outcome E → KeptController V C → List (Tier V X) → Table V → Type 0
  Ended outcome new last end = RoundsFrom kind own step loan reads writes asks most start held before most start held before outcome new.controller last (seen end)

  -- what the rounds did, and what they kept
  abbrev Done : Outcome E → KeptController V C → List (Tier V X) → Table V → Type 0
  Done outcome new last end = record { ran : Ended outcome new last end; kept : KeepsParts kind own loan reads writes start held before new last end }

  -- none is left
  pub rounds-end : left ≡ 0 → Done (Ok tt) control tiers now
  rounds-end none = record { kept = so_far.kept; ran = so_far.ran (Ok tt) control.controller tiers (seen now) (subst (λ n. Rounds kind asks (control_access start) (InnerRun kind step) n control.controller tiers (seen now) (Ok tt) control.controller tiers (seen now)) (sym none) (refl, refl, refl, refl)) }

  module _ (more : ℕ) (is : left ≡ suc more) {says : Result Bool (Fault E)} (new : KeptController V C) (after : Table V) (asked : IsControlOver kind asks (control_access control) control.controller (seen now) says new.controller (seen after))
      (slots : IsSameSlots now after) (owns : IsOwnControl reads writes new) (access : control_access new ≡ control_access control) where
    one : IsControlOver kind asks (control_access start) control.controller (seen now) says new.controller (seen after)
    one = subst (λ (access : Access ResourceId). IsControlOver kind asks access control.controller (seen now) says new.controller (seen after)) so_far.kept.access asked

    said : {answer : Result Bool (Fault E)} → says ≡ answer → IsControlOver kind asks (control_access start) control.controller (seen now) answer new.controller (seen after)
    said same = subst (λ answer. IsControlOver kind asks (control_access start) control.controller (seen now) answer new.controller (seen after)) same one

    -- what there is from there on is there from the start on
    from-start : (outcome : Outcome E) (d : C) (q : List (Tier V X)) (n : Held V) → Rounds kind asks (control_access start) (InnerRun kind step) (suc more) control.controller tiers (seen now) outcome d q n → RoundsFrom kind own step loan reads writes asks most start held before most start held before outcome d q n
    from-start outcome d q n rounds = so_far.ran outcome d q n (subst (λ s. Rounds kind asks (control_access start) (InnerRun kind step) s control.controller tiers (seen now) outcome d q n) (sym is) rounds)

    -- what the call keeps
    rounds-asked : KeepsParts kind own loan reads writes start held before new tiers after
    rounds-asked = parts-asked loan kind own reads writes start held before parts.writes_within control tiers now so_far.kept asks says new after one slots owns access

    -- on no they end
    pub rounds-no : says ≡ Ok false → Done (Ok tt) new tiers after
    rounds-no no_more = record { kept = rounds-asked; ran = from-start (Ok tt) new.controller tiers (seen after) (Ok false, new.controller, seen after, said no_more, (refl, refl, refl, refl)) }

    -- a fault of the controller ends them
    pub rounds-fault : (fault : Fault E) → says ≡ Err fault → Done (Err fault) new tiers after
    rounds-fault fault same = record { kept = rounds-asked; ran = from-start (Err fault) new.controller tiers (seen after) (Err fault, new.controller, seen after, said same, (refl, refl, refl, refl)) }

    module _ (goes : says ≡ Ok true) {answer : Answer (StageFault E)} {last : List (Tier V X)} (end : Table V) (inner : InnerRun kind step tiers (seen after) answer last (seen end)) (kept : KeepsTiers kind own loan tiers after last end) where
      answered : {a : Answer (StageFault E)} → answer ≡ a → InnerRun kind step tiers (seen after) a last (seen end)
      answered same = subst (λ a. InnerRun kind step tiers (seen after) a last (seen end)) same inner

      -- what the call and the round keep
      rounds-more : KeepsParts kind own loan reads writes start held before new last end
      rounds-more = parts-more loan kind own reads writes start held before parts.writes_within control tiers now so_far.kept asks says new after one slots owns access last end kept

      -- a fault of the inner plan ends them
      pub rounds-inner_fault : (fault : StageFault E) → answer ≡ Err fault → {told : Fault E} → told ≡ fault_within fault → Done (Err told) new last end
      rounds-inner_fault fault same {told} is_told = record { kept = rounds-more; ran = from-start (Err told) new.controller last (seen end) (Ok true, new.controller, seen after, said goes, (Err fault, last, seen end, answered same, (ap Err is_told, refl, refl, refl))) }

      -- a round that is Done leaves one less
      pub rounds-next : answer ≡ Ok tt → RoundsRan kind own step loan reads writes asks most start held before more new last end
      rounds-next same = record {
        kept = rounds-more;
        ran = λ outcome d q n rest. from-start outcome d q n (Ok true, new.controller, seen after, said goes, (Ok tt, last, seen end, answered same, rest));
      }

-- Runs of batches, of what their controllers' first call, and the rounds after it, do.
module _ {V X C : Type 0} {own : X → List ResourceId → List ResourceId → Type 0} (loan : Loan V) {reads writes : C → List ResourceId} {old : Batch V C X} (within : IsBatchWithin reads writes own loan.reads.now loan.writes.now old) where
  -- a batch of the same depth, whose parts ran and stayed
  ran-as-batch : {E : Type 0} {kind : V → Kind} {step : Step V X E} {begins : Control V C ℕ E} {asks : Control V C Bool E} {before : Table V} {outcome : Outcome E} {new : Batch V C X} {after : Table V} → new.depth ≡ old.depth
      → BatchRun kind asks (control_access old.control) (InnerRun kind step) begins old.control.controller old.tiers.items (shown kind (lent_slot loan.shelf.now) before) outcome new.control.controller new.tiers.items (shown kind (lent_slot loan.shelf.now) after)
      → KeepsParts kind own loan reads writes old.control old.tiers.items before new.control new.tiers.items after
      → RanAsBatch kind own step reads writes begins asks loan.reads.now loan.writes.now (lent_slot loan.shelf.now) old before outcome new after
  ran-as-batch depth run kept = record {
    run = run;
    same_access = kept.access;
    same_plan = kept.tiers.plan;
    same_depth = depth;
    kinds = kept.tiers.keeps.kinds;
    slots = kept.tiers.keeps.slots;
    frame = kept.tiers.keeps.frame;
    within = record {
      control = kept.own_lists;
      reads_within = λ id some. within.reads_within id (ap (λ (access : Access ResourceId). among access.reads id) (sym kept.access) ∙ some);
      writes_within = λ id some. within.writes_within id (ap (λ (access : Access ResourceId). among access.writes id) (sym kept.access) ∙ some);
      tiers = kept.tiers.within;
    };
  }

  -- the batch's parts, once it began
  pub parts-begun : (control : KeptController V C) → IsOwnControl reads writes control → control_access control ≡ control_access old.control → {tiers : List (Tier V X)} → tiers ≡ old.tiers.items → ArePartsWithin own loan reads writes control tiers
  parts-begun control owns access is = subst (ArePartsWithin own loan reads writes control) (sym is)
      (record { own_lists = owns; writes_within = λ id some. within.writes_within id (ap (λ (access : Access ResourceId). among access.writes id) (sym access) ∙ some); within = within.tiers })

  module _ {E : Type 0} {kind : V → Kind} {begins : Control V C ℕ E} (before : Table V) {bound : Result ℕ (Fault E)} (control : KeptController V C) (mid : Table V) (began : IsControlOver kind begins (control_access old.control) old.control.controller (shown kind (lent_slot loan.shelf.now) before) bound control.controller (shown kind (lent_slot loan.shelf.now) mid))
      (slots : IsSameSlots before mid) (owns : IsOwnControl reads writes control) (access : control_access control ≡ control_access old.control) where
    begun : {answer : Result ℕ (Fault E)} → bound ≡ answer → IsControlOver kind begins (control_access old.control) old.control.controller (shown kind (lent_slot loan.shelf.now) before) answer control.controller (shown kind (lent_slot loan.shelf.now) mid)
    begun same = subst (λ answer. IsControlOver kind begins (control_access old.control) old.control.controller (shown kind (lent_slot loan.shelf.now) before) answer control.controller (shown kind (lent_slot loan.shelf.now) mid)) same began

    begin-kept : KeepsParts kind own loan reads writes old.control old.tiers.items before control old.tiers.items mid
    begin-kept = parts-asked loan kind own reads writes old.control old.tiers.items before within.writes_within old.control old.tiers.items before
        (record { access = refl; own_lists = within.control; tiers = record { plan = refl; within = within.tiers; keeps = keeps-all loan kind before } }) begins bound control mid began slots owns access

    module _ {step : Step V X E} {asks : Control V C Bool E} where
      -- the rounds follow that the controller names
      pub batch-ran : (most : ℕ) → bound ≡ Ok most → {tiers left : List (Tier V X)} {last : KeptController V C} {end : Table V} {outcome : Outcome E} {new : Batch V C X} → tiers ≡ old.tiers.items
          → Rounds kind asks (control_access control) (InnerRun kind step) most control.controller tiers (shown kind (lent_slot loan.shelf.now) mid) outcome last.controller left (shown kind (lent_slot loan.shelf.now) end)
          → KeepsParts kind own loan reads writes control tiers mid last left end → new.control ≡ last → new.tiers.items ≡ left → new.depth ≡ old.depth
          → RanAsBatch kind own step reads writes begins asks loan.reads.now loan.writes.now (lent_slot loan.shelf.now) old before outcome new end
      batch-ran most same {tiers} {left} {last} {end} {outcome} {new} was rounds kept is put depth =
          let seen = shown kind (lent_slot loan.shelf.now) in
          let first = subst (λ (from : List (Tier V X)). Rounds kind asks (control_access old.control) (InnerRun kind step) most control.controller from (seen mid) outcome last.controller left (seen end)) was
          (subst (λ (access : Access ResourceId). Rounds kind asks access (InnerRun kind step) most control.controller tiers (seen mid) outcome last.controller left (seen end)) access rounds) in
          let then = subst (λ (from : List (Tier V X)). KeepsParts kind own loan reads writes control from mid last left end) was kept in
          let all : KeepsParts kind own loan reads writes old.control old.tiers.items before last left end = record {
            access = then.access ∙ access;
            own_lists = then.own_lists;
            tiers = record { plan = then.tiers.plan; within = then.tiers.within; keeps = keeps-more loan kind before mid end then.tiers.keeps begin-kept.tiers.keeps };
          } in
          ran-as-batch depth
          (Ok most, control.controller, seen mid, begun same, subst₂ (λ (kept : KeptController V C) (to : List (Tier V X)). Rounds kind asks (control_access old.control) (InnerRun kind step) most control.controller old.tiers.items (seen mid) outcome kept.controller to (seen end)) (sym is) (sym put) first)
          (subst₂ (λ (kept : KeptController V C) (to : List (Tier V X)). KeepsParts kind own loan reads writes old.control old.tiers.items before kept to end) (sym is) (sym put) all)
