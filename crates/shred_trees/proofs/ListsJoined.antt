-- Lists that are joined, and runs over what more lists declare.
use Rattle.std.proofs.Common.{◌≡◌, Bool, true, false, ◌||◌, None, cond, List, [], ◌∷◌, ◌++◌, refl, sym, ◌∙◌, ap}
use Rattle.shred_model.specs.Access.{Access}
use Rattle.shred_table.specs.declared.id.Kind.{Kind}
use Rattle.shred_table.specs.declared.id.ResourceId.{ResourceId}
use Rattle.shred_table.specs.Id.{same_id}
use Rattle.shred_table.specs.Slots.{among}
use Rattle.shred_world.specs.declared.world.view.View.{View}
use Rattle.shred_world.specs.Worked.{Held}
use Rattle.shred_run.specs.Steps.{Outcome, declared_of}
use Rattle.shred_trees.specs.Pieces.{Within}
use Rattle.shred_trees.specs.TreeViews.{Covers}
use Rattle.shred_trees.specs.Trees.{Trees, IsRun}
use Rattle.shred_trees.proofs.Apart.{declares, either-true}
use Rattle.shred_trees.proofs.Beside.{run-moved}

or-assoc : (a b c : Bool) → ((a || b) || c) ≡ (a || (b || c))
or-assoc true b c = refl
or-assoc false b c = refl

among-append : (xs ys : List ResourceId) (id : ResourceId) → among (xs ++ ys) id ≡ (among xs id || among ys id)
among-append [] ys id = refl
among-append (x ∷ xs) ys id = ap (λ (c : Bool). same_id x id || c) (among-append xs ys id) ∙ sym (or-assoc (same_id x id) (among xs id) (among ys id))

left-true : (a b : Bool) → a ≡ true → (a || b) ≡ true
left-true true b e = refl
left-true false b e = absurd (cc)

left-false : (a b : Bool) → (a || b) ≡ false → a ≡ false
left-false true b e = absurd (cc)
left-false false b e = refl

right-false : (a b : Bool) → (a || b) ≡ false → b ≡ false
right-false true b e = absurd (cc)
right-false false b e = e

pub in-left : (xs ys : List ResourceId) → Within xs (xs ++ ys)
in-left xs ys id e = among-append xs ys id ∙ left-true (among xs id) (among ys id) e

pub in-right : (xs ys : List ResourceId) → Within ys (xs ++ ys)
in-right xs ys id e = among-append xs ys id ∙ either-true (among xs id) (among ys id) e

pub out-left : (xs ys : List ResourceId) (id : ResourceId) → among (xs ++ ys) id ≡ false → among xs id ≡ false
out-left xs ys id e = left-false (among xs id) (among ys id) (sym (among-append xs ys id) ∙ e)

pub out-right : (xs ys : List ResourceId) (id : ResourceId) → among (xs ++ ys) id ≡ false → among ys id ≡ false
out-right xs ys id e = right-false (among xs id) (among ys id) (sym (among-append xs ys id) ∙ e)

either-or : (a b c d : Bool) → (a ≡ true → c ≡ true) → (b ≡ true → d ≡ true) → (a || b) ≡ true → (c || d) ≡ true
either-or true b c d f g e = left-true c d (f refl)
either-or false b c d f g e = either-true c d (g e)

-- what lists declare, lists that they are within declare too
pub declares-within : (r w : List ResourceId) (more : Access ResourceId) → Within r more.reads → Within w more.writes → (id : ResourceId) → declares (record { reads = r; writes = w }) id ≡ true → declares more id ≡ true
declares-within r w more in-reads in-writes id = either-or (among r id) (among w id) (among more.reads id) (among more.writes id) (in-reads id) (in-writes id)

-- a run over all is a run over what more lists declare
pub restrict : {V T E : Type 0} (kind : V → Kind) (trees : Trees V T E) (more : Access ResourceId) (old new : T) (before after : Held V) (o : Outcome E) → Within (trees.reads old) more.reads → Within (trees.writes old) more.writes
    → IsRun kind trees old before o new after → IsRun kind trees old (declared_of more before) o new (declared_of more after)
restrict {V} kind trees more old new before after o in-reads in-writes run =
    let within = declares-within (trees.reads old) (trees.writes old) more in-reads in-writes in
    run-moved kind trees old new o before after (declared_of more before) (declared_of more after)
    (λ id d. sym (ap (λ (c : Bool). cond c (before id) None) (within id d)))
    (λ id w. ap (λ (c : Bool). cond c (after id) None) (within id (either-true (among (trees.reads old) id) (among (trees.writes old) id) w)))
    (λ id w i. cond (declares more id) (run.frame id w i) None)
    run
