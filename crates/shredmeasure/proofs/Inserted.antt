-- The entries of a plan, in order, and one more among them.
use Rattle.std.proofs.Common.{◌≡◌, ℕ, zero, suc, List, [], ◌∷◌, ◌++◌, Some, refl, sym, ap, subst, ◌∙◌, append_assoc, append-nil}
use Rattle.std.specs.List.{slice_get, slice_set, flat_map}
use Rattle.shred_model.specs.Plan.{PlanEntry, Plan}
use Rattle.shred_stage.specs.Placement.{IsPlaced, in_new_group, at_end_of_group, in_new_stage}
use Rattle.shredmeasure.specs.Entries.{entries_of_stage, entries_of_plan}

-- one more stands somewhere in the list
pub record HasOneMore {X : Type 0} (x : X) (old new : List X) : Type 0 where
  pub before : List X
  pub after : List X
  pub old_is : old ≡ before ++ after
  pub new_is : new ≡ before ++ x ∷ after

module _ {X : Type 0} (x : X) where
  at_end : (old : List X) → HasOneMore x old (old ++ x ∷ [])
  at_end old = record { before = old; after = []; old_is = sym (append-nil old); new_is = refl }

  more_after : (old new rest : List X) → HasOneMore x old new → HasOneMore x (old ++ rest) (new ++ rest)
  more_after old new rest one = record {
    before = one.before;
    after = one.after ++ rest;
    old_is = ap (λ l. l ++ rest) one.old_is ∙ append_assoc one.before one.after rest;
    new_is = ap (λ l. l ++ rest) one.new_is ∙ append_assoc one.before (x ∷ one.after) rest;
  }

  more_before : (first old new : List X) → HasOneMore x old new → HasOneMore x (first ++ old) (first ++ new)
  more_before first old new one = record {
    before = first ++ one.before;
    after = one.after;
    old_is = ap (λ l. first ++ l) one.old_is ∙ sym (append_assoc first one.before one.after);
    new_is = ap (λ l. first ++ l) one.new_is ∙ sym (append_assoc first one.before (x ∷ one.after));
  }

  -- one more in what one element gives is one more in what all give
  set_one : {Y : Type 0} (f : Y → List X) (ys : List Y) (k : ℕ) (y z : Y) → slice_get ys k ≡ Some y → HasOneMore x (f y) (f z) → HasOneMore x (flat_map f ys) (flat_map f (slice_set ys k z))
  set_one f [] k y z at one = absurd (cc)
  set_one {Y = Y} f (w ∷ ys) zero y z at one = more_after (f w) (f z) (flat_map f ys) (let same : y ≡ w = cc in subst (λ (v : Y). HasOneMore x (f v) (f z)) same one)
  set_one f (w ∷ ys) (suc k) y z at one = more_before (f w) (flat_map f ys) (flat_map f (slice_set ys k z)) (set_one f ys k y z at one)

  -- and so is an element at the end that gives just one
  push_one : {Y : Type 0} (f : Y → List X) (ys : List Y) (z : Y) → f z ≡ x ∷ [] → HasOneMore x (flat_map f ys) (flat_map f (ys ++ z ∷ []))
  push_one f [] z is = record { before = []; after = []; old_is = refl; new_is = ap (λ l. l ++ []) is }
  push_one f (y ∷ ys) z is = more_before (f y) (flat_map f ys) (flat_map f (ys ++ z ∷ [])) (push_one f ys z is)

-- where an entry is placed, it is one more entry of the plan
pub placed_one : {I : Type 0} (plan placed : Plan I) (barrier start : ℕ) (dependencies : List ℕ) (entry : PlanEntry I) → IsPlaced plan barrier start dependencies entry placed → HasOneMore entry (entries_of_plan plan) (entries_of_plan placed)
placed_one plan placed barrier start dependencies entry (in_new_group k stage from at none admits is) =
    subst (λ p. HasOneMore entry (entries_of_plan plan) (entries_of_plan p)) (sym is) (set_one entry entries_of_stage plan k stage (stage ++ (entry ∷ []) ∷ []) at (push_one entry (λ group. group) stage (entry ∷ []) refl))
placed_one plan placed barrier start dependencies entry (at_end_of_group k g stage group from at none admits is) =
    subst (λ p. HasOneMore entry (entries_of_plan plan) (entries_of_plan p)) (sym is)
    (set_one entry entries_of_stage plan k stage (slice_set stage g (group ++ entry ∷ [])) at (set_one entry (λ group. group) stage g group (group ++ entry ∷ []) admits.stands (at_end entry group)))
placed_one plan placed barrier start dependencies entry (in_new_stage none is) =
    subst (λ p. HasOneMore entry (entries_of_plan plan) (entries_of_plan p)) (sym is) (push_one entry entries_of_stage plan ((entry ∷ []) ∷ []) refl)
