-- Views of all that a table holds, and bundles that are taken of them.
use Rattle.std.proofs.Common.{◌≡◌, Bool, true, false, ◌||◌, List, [], ◌∷◌, subst, refl, sym, ◌∙◌}
use Rattle.std.specs.Prelude.{Option, Some, None, Result, Ok, Err, OnErr}
use Rattle.shred_table.specs.declared.id.ResourceId.{ResourceId}
use Rattle.shred_world.specs.Bundles.{Part, moved_for, after_moved, after_part, after_parts, moved_at, moved_parts, bundle_refusal, ids_of, AreAllOut}
use Rattle.shred_world.specs.Grants.{Grant, map_grant, Moved}
use Rattle.shred_table.specs.Id.{same_id}
use Rattle.shred_table.specs.Slots.{among}
use Rattle.shred_world.proofs.Bundles.Parts.{moved_are_out}

or_true : (b : Bool) → (b || true) ≡ true
or_true true = refl
or_true false = refl

or_false : (b : Bool) → (b || false) ≡ b
or_false true = refl
or_false false = refl

or_swap : (a b c : Bool) → (a || (b || c)) ≡ ((b || a) || c)
or_swap true true c = refl
or_swap true false c = refl
or_swap false true c = refl
or_swap false false c = refl

-- what follows from a fact, where there is an error
pub OnErr-map : {X E P Q : Type 0} (r : Result X E) → (P → Q) → OnErr r P → OnErr r Q
OnErr-map (Ok x) f h = tt
OnErr-map (Err e) f h = f h

-- after the parts what was out before is out, and what was moved out for them
out_after : {V : Type 0} (g : Grant V) (ps : List Part) (q : ResourceId) → (after_parts g ps).out q ≡ (among (ids_of (moved_parts g ps)) q || g.out q)
out_after g [] q = refl
out_after {V} g (p ∷ ps) q = out_after (after_part g p) ps q ∙ at (moved_for g p) (moved_parts (after_part g p) ps) where
  at : (o : Option V) (ms : Moved V) → (among (ids_of ms) q || (after_moved g p.id o).out q) ≡ (among (ids_of (moved_at p.id o ms)) q || g.out q)
  at (Some v) ms = or_swap (among (ids_of ms) q) (same_id p.id q) (g.out q)
  at None ms = refl

-- of a map, just what was moved out for the parts is out
pub all_moved_out : {V : Type 0} (m : ResourceId → Option V) (g : Grant V) (ps : List Part) (ms : Moved V) → g ≡ after_parts (map_grant m) ps → ms ≡ moved_parts (map_grant m) ps → bundle_refusal (map_grant m) ps ≡ None → AreAllOut g.out (ids_of ms)
all_moved_out {V} m g ps ms taken moved passed = subst (λ (h : Grant V). AreAllOut h.out (ids_of ms)) (sym taken) (subst (λ ns. AreAllOut (after_parts (map_grant m) ps).out (ids_of ns)) (sym moved) (
  moved_are_out (map_grant m) ps passed,
  λ q. out_after (map_grant m) ps q ∙ or_false (among (ids_of (moved_parts (map_grant m) ps)) q),
))
