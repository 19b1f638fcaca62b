-- A dispatch of systems that each add 1 to a count of their own.
use Rattle.std.proofs.Common.{◌≡◌, ◌≢◌, ℕ, zero, suc, ◌+◌, ◌<◌, ◌≤◌, ◌&&◌, ◌==◌, Bool, false, cond, nat_lt, nat_le, ℤ, pos, List, [], ◌∷◌, ◌++◌, Some, Result, Ok, Err, inl, inr, refl, sym, ap, subst, ◌∙◌, arith}
use Rattle.std.specs.Int.{w64, int_wrap, int_wrapping_add}
use Rattle.std.specs.Prelude.{is_err, OnOk}
use Rattle.std.specs.List.{AllZip, Contains}
use Rattle.std.proofs.lemmas.Bool.Decides.{nat_tests}
use Rattle.shred_model.specs.Access.{Declares}
use Rattle.shred_model.specs.Plan.{PlanEntry, Plan}
use Rattle.shred_model.proofs.Records.Membership.{is_contained, is_declared}
use Rattle.shred_table.specs.declared.id.ResourceId.{ResourceId}
use Rattle.shred_world.specs.declared.world.view.DataError.{DataError}
use Rattle.shred_table.proofs.Tables.Ids.{tell_ids}
use Rattle.shred_stage.specs.Placement.{IsPlaced}
use Rattle.shred_stage.specs.Situations.{dispatch_answer}
use Rattle.shred_run.specs.declared.no_batch.NoBatch.{NoBatch}
use Rattle.shred_run.specs.Controls.{Refuses}
use Rattle.shred_run.specs.declared.system.Fault.{Fault}
use Rattle.shred_run.specs.declared.system.Fault.TheVariants.{OutOfMemory}
use Rattle.shred_run.specs.Depths.{Declared, Related, relations_of}
use Rattle.shred_run.specs.Dispatched.{Dispatched, Situation, configuration_in, occupants_of}
use Rattle.shred_run.specs.NestedRecords.{NestedRecord}
use Rattle.shred_run.specs.Steps.{Step}
use Rattle.shredmeasure.specs.Entries.{entries_of_plan}
use Rattle.shred.specs.declared.plain.Plain.{Plain}
use Rattle.shred_table.specs.declared.only.Only.{Only}
use Rattle.shredmeasure.specs.declared.adder.AddOne.{AddOne}
use Rattle.shredmeasure.specs.Adders.{HasOneForEach, occurrences}
use Rattle.shredmeasure.specs.Adds.{adds_one, IsOneMore}
use Rattle.shredmeasure.specs.Counts.{kind_of, count_id, count_value, number_of}
use Rattle.shredmeasure.specs.Measured.{IsCountedOnce}
use Rattle.shredmeasure.proofs.Counted.{counted as stepped, steps_on}
use Rattle.shred_orders.proofs.DoneSteps.{any-alone, plan-done}
use Rattle.shred_orders.specs.EntryPaths.{entries_with_paths}
use Rattle.shredmeasure.proofs.Done.{IsDoneStep, each-of, plan-steps}
use Rattle.shredmeasure.proofs.Inserted.{placed_one}
use Rattle.shredmeasure.proofs.Wraps.{one_more_time, other_number}

swap_sum : (a b c d : ℕ) → d ≡ b + c → a + d ≡ b + (a + c)
swap_sum a b c d e = omega arith

module _ {X : Type 0} (R : ℕ → X → Type 0) (m : ℕ) (x : X) (fits : R m x) where
  zip_more : (ns : List ℕ) (before after : List X) → AllZip R ns (before ++ after) → (ms : List ℕ) × AllZip R ms (before ++ x ∷ after) × ((k : ℕ) → occurrences k ms ≡ cond (m == k) 1 0 + occurrences k ns)
  zip_more ns [] after zip = (m ∷ ns, (fits, zip), λ k. refl)
  zip_more [] (y ∷ before) after zip = absurd zip
  zip_more (n ∷ ns) (y ∷ before) after zip = let more = zip_more ns before after zip.1 in
      (n ∷ more.0, (zip.0, more.1), λ k. swap_sum (cond (n == k) 1 0) (cond (m == k) 1 0) (occurrences k ns) (occurrences k more.0) (more.2 k))

next_once : (most k : ℕ) → cond (most + 1 == k) 1 0 + cond (nat_lt 0 k && nat_le k most) 1 0 ≡ cond (nat_lt 0 k && nat_le k (most + 1)) 1 0
next_once most k = grind (arith, nat_tests)

-- one more system was placed, with the next number
pub one_for_next : (most : ℕ) (plan placed : Plan ResourceId) (barrier start : ℕ) (dependencies : List ℕ) (entry : PlanEntry ResourceId) → HasOneForEach most plan → entry.access.writes ≡ count_id (most + 1) ∷ [] → IsPlaced plan barrier start dependencies entry placed → HasOneForEach (most + 1) placed
one_for_next most plan placed barrier start dependencies entry have writes is_placed =
    let Writes : ℕ → PlanEntry ResourceId → Type 0 = λ number e. e.access.writes ≡ count_id number ∷ [] in
    let one = placed_one plan placed barrier start dependencies entry is_placed in
    let more = zip_more Writes (most + 1) entry writes have.numbers one.before one.after (subst (λ (es : List (PlanEntry ResourceId)). AllZip Writes have.numbers es) one.old_is have.entries) in
    record {
      numbers = more.0;
      entries = subst (λ (es : List (PlanEntry ResourceId)). AllZip Writes more.0 es) (sym one.new_is) more.1;
      once = λ k. more.2 k ∙ ap (λ n. cond (most + 1 == k) 1 0 + n) (have.once k) ∙ next_once most k;
    }

-- the step of the system that is dispatched
abbrev adds : Step (Only ℤ) (Plain AddOne) DataError
adds before seen outcome after left = adds_one before.0 seen outcome after.0 left

-- the lists that they declare
abbrev lists : Declared (Plain AddOne) (NoBatch DataError)
lists = record { reads = λ system. count_id 0 ∷ []; writes = λ system. count_id system.0.number ∷ []; control_reads = λ none. []; control_writes = λ none. [] }

-- the relations of the systems that are dispatched, and of the controllers, of which none begins
abbrev related : Related (Only ℤ) (Plain AddOne) (NoBatch DataError) DataError
related = relations_of lists adds Refuses Refuses

-- a record of such a dispatch
abbrev Added : Type 0
Added = NestedRecord (Only ℤ) (Plain AddOne) (NoBatch DataError) DataError

-- a Done step of a system that writes the count of this number alone
record Made (number : ℕ) (r : Added) : Type 0 where
  pub entry : PlanEntry ResourceId
  pub writes : entry.access.writes ≡ count_id number ∷ []
  pub step : IsDoneStep kind_of related.steps entry r

all_made : (ns : List ℕ) (entries : List (PlanEntry ResourceId)) (rs : List Added) → AllZip (λ number entry. entry.access.writes ≡ count_id number ∷ []) ns entries → AllZip (IsDoneStep kind_of related.steps) entries rs → AllZip Made ns rs
all_made [] [] [] writes made = tt
all_made [] [] (r ∷ rs) writes made = absurd made
all_made [] (e ∷ es) rs writes made = absurd writes
all_made (n ∷ ns) [] rs writes made = absurd writes
all_made (n ∷ ns) (e ∷ es) [] writes made = absurd made
all_made (n ∷ ns) (e ∷ es) (r ∷ rs) writes made = (record { entry = e; writes = writes.0; step = made.0 }, all_made ns es rs writes.1 made.1)

-- one more in the count
abbrev more : Only ℤ → Only ℤ
more value = count_value (int_wrapping_add w64 value.0 (pos 1))

only : (id q : ResourceId) → Contains (id ∷ []) q → id ≡ q
only id q (zero, below, is) = is
only id q (suc k, below, is) = absurd (omega arith)

-- a written id is that of the number
written : (number : ℕ) (r : Added) (id : ResourceId) → Made number r → Contains r.access.writes id → count_id number ≡ id
written number r id made has = only (count_id number) id (subst (λ (ids : List ResourceId). Contains ids id) ((λ i. (made.step.1.declared i).writes) ∙ made.writes) has)

-- the id of the count of the system's own number
abbrev own_id : (number : ℕ) (r : Added) → Made number r → ResourceId
own_id number r made = count_id made.step.1.lies.0.0.number

one_of : (number : ℕ) (r : Added) (made : Made number r) → IsOneMore (r.seen (own_id number r made)) (r.left (own_id number r made))
one_of number r made = made.step.1.lies.4.0.1

-- where the step is Done, the system's own number is that of its count
own_number : (number : ℕ) (r : Added) (made : Made number r) → number ≡ made.step.1.lies.0.0.number
own_number number r made =
    let one = one_of number r made in
    let own = own_id number r made in
    elim (is_contained tell_ids r.access.writes own) [
      | inl has ↦ ap (λ (id : ResourceId). id.dynamic_id) (written number r own made has)
      | inr out ↦ absurd (other_number one.0 (ap number_of (sym one.2 ∙ made.step.1.frame own out ∙ one.1)))
    ]

hit : (k : ℕ) (r : Added) → Made k r → Declares r.access (count_id k) × ((v : Only ℤ) → r.seen (count_id k) ≡ Some v → r.left (count_id k) ≡ Some (more v))
hit k r made =
    let there : IsOneMore (r.seen (count_id k)) (r.left (count_id k)) = subst (λ (n : ℕ). IsOneMore (r.seen (count_id n)) (r.left (count_id n))) (sym (own_number k r made)) (one_of k r made) in (
      inr (subst (λ (ids : List ResourceId). Contains ids (count_id k)) (sym ((λ i. (made.step.1.declared i).writes) ∙ made.writes)) (0, omega arith, refl)),
      λ v seen. there.2 ∙ (let same : count_value there.0 ≡ v = (let before = there.1 in cc) in ap (λ w. Some (more w)) same),
    )

miss : (k n : ℕ) (r : Added) → n ≢ k → Made n r → Declares r.access (count_id k) → r.left (count_id k) ≡ r.seen (count_id k)
miss k n r other made declared = made.step.1.frame (count_id k) (λ has. other (ap (λ (id : ResourceId). id.dynamic_id) (written n r (count_id k) made has)))

-- a plan of these systems, with them, and the counts of a world
abbrev Adding : Type 0
Adding = Situation (Only ℤ) (Plain AddOne) (NoBatch DataError)

never_begins : {E : Type 0} (most : ℕ) (said : Result ℕ (Fault E)) → said ≡ Err OutOfMemory → said ≡ Ok most → ⊥
never_begins most said refused says = absurd (let same : Err OutOfMemory ≡ Ok most = sym refused ∙ says in cc)

-- where a dispatch is Done, each count from 1 to the number of systems is one more
dispatched_one_more : (most : ℕ) (before after : Adding) (k : ℕ) (number : ℤ) → HasOneForEach most before.plan → 0 < k → k ≤ most
    → Dispatched kind_of related dispatch_answer before (Ok tt) after → before.values (count_id k) ≡ Some (count_value number) → after.values (count_id k) ≡ Some (count_value (int_wrapping_add w64 number (pos 1)))
dispatched_one_more most before after k number have above below ran here =
    let alone = each-of (λ found. any-alone kind_of related (λ c d seen left most begins. never_begins most (Ok most) begins.0.refused refl) (occupants_of before found.0)) (entries_with_paths before.plan) in
    let done = plan-done kind_of related ran.run.0 (occupants_of before) before.plan ran.list ran.run.1 alone in
    stepped Made more (count_id k) k (hit k) (miss k) (λ r. is_declared tell_ids r.access (count_id k)) have.numbers ran.list (configuration_in before) (configuration_in after) (count_value number)
    (all_made have.numbers (entries_of_plan before.plan) ran.list have.entries (plan-steps kind_of related.steps before.plan ran.list done)) ran.replays here
    ∙ (let once : occurrences k have.numbers ≡ 1 = have.once k ∙ grind (arith, nat_tests) in ap (λ m. Some (steps_on more m (count_value number))) once)

-- what is said of an answer that is no error
pub on_ok : {T E P : Type 0} {failed : Bool} (result : Result T E) → failed ≡ is_err result → failed ≡ false → OnOk result P → P
on_ok (Ok value) is none h = h
on_ok (Err error) is none h = absurd (cc)

-- one more dispatch that is Done leaves a plan with one system for each count, and each count one more
pub dispatched_again : (before after : Adding) → Dispatched kind_of related dispatch_answer before (Ok tt) after → IsCountedOnce before.plan before.values after.plan after.values
dispatched_again before after ran most times (have, counts) = (
  subst (λ (p : Plan ResourceId). HasOneForEach most p) (sym ran.plan) have,
  λ k above below. dispatched_one_more most before after k (int_wrap w64 (pos times)) have above below ran (counts k above below) ∙ ap (λ n. Some (count_value n)) (one_more_time times),
)
