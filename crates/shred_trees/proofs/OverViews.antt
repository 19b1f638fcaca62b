-- Runs over views are runs over what the views show.
use Rattle.std.proofs.Common.{◌≡◌, true, Some, None, Option, cond, refl, ◌∙◌, subst}
use Rattle.std.specs.Prelude.{is_some}
use Rattle.std.specs.Option.{option_map}
use Rattle.shred_table.specs.declared.id.Kind.{Kind}
use Rattle.shred_table.specs.declared.id.ResourceId.{ResourceId}
use Rattle.shred_world.specs.declared.world.view.View.{View}
use Rattle.shred_table.specs.declared.table.Table.{Table}
use Rattle.shred_table.specs.Listed.{listed_at}
use Rattle.shred_table.specs.Slots.{held, slot_at, slot_held, slots_of}
use Rattle.shred_world.specs.Views.{view_held, view_slot, is_own, lent_to, IsSameView}
use Rattle.shred_world.specs.Worked.{Held}
use Rattle.shred_world.proofs.Views.HeldKinds.{slot_held-same_kind}
use Rattle.shred_run.specs.Steps.{Outcome}
use Rattle.shred_trees.specs.Trees.{Trees, IsRun}
use Rattle.shred_trees.specs.TreeViews.{RanOver}

pub same-view-again : {V : Type 0} (u v w : View V) → IsSameView u v → IsSameView v w → IsSameView u w
same-view-again u v w one two = record {
  reads = two.reads ∙ one.reads;
  writes = two.writes ∙ one.writes;
  owned = two.owned ∙ one.owned;
  shelf = λ q. two.shelf q ∙ one.shelf q;
  own = λ q. two.own q ∙ one.own q;
  whole = two.whole ∙ one.whole;
  table = two.table ∙ one.table;
  slots = λ q. two.slots q ∙ one.slots q;
  others = λ q other. two.others q (one.own q ∙ other) ∙ one.others q other;
  out = λ q. two.out q ∙ one.out q;
}

same_some : {V K : Type 0} (f : V → K) (x y : Option V) → option_map f x ≡ option_map f y → is_some x ≡ is_some y
same_some f (Some x) (Some y) e = refl
same_some f (Some x) None e = absurd (cc)
same_some f None (Some y) e = absurd (cc)
same_some f None None e = refl

module _ {V T E : Type 0} (kind : V → Kind) (trees : Trees V T E) (old new : T) (outcome : Outcome E) (before after : View V) where
  pub run-of : RanOver kind trees old before outcome new after → IsRun kind trees old (view_held kind before) outcome new (view_held kind after)
  run-of ran = record {
    lies = ran.lies;
    frame = ran.frame;
    keeps_kinds = λ id. slot_held-same_kind kind id (view_slot after id) (view_slot before id) (ran.ids id);
    same_reads = ran.same_reads;
    same_writes = ran.same_writes;
  }

  pub ran-of : IsRun kind trees old (view_held kind before) outcome new (view_held kind after) → IsSameView before after → RanOver kind trees old before outcome new after
  ran-of run view = record {
    lies = run.lies;
    frame = run.frame;
    ids = λ id. same_some kind (view_held kind after id) (view_held kind before id) (run.keeps_kinds id);
    view = view;
    same_reads = run.same_reads;
    same_writes = run.same_writes;
  }

  -- a run over a view whose ids are all its own is one over its table
  pub table-run : (table : Table V) → ((q : ResourceId) → is_own before q ≡ true) → slots_of before.own.now ≡ slots_of table → RanOver kind trees old before outcome new after → IsRun kind trees old (held kind table) outcome new (held kind after.own.now)
  table-run table own slots ran =
      let seen : view_held kind before ≡ held kind table = (λ i q. slot_held kind q (cond (own q i) (listed_at (slots i) q) (lent_to before q))) in
      let left : view_held kind after ≡ held kind after.own.now = (λ i q. slot_held kind q (cond ((ran.view.own q ∙ own q) i) (slot_at after.own.now q) (lent_to after q))) in
      subst (λ (s : Held V). IsRun kind trees old s outcome new (held kind after.own.now)) seen (subst (λ (l : Held V). IsRun kind trees old (view_held kind before) outcome new l) left (run-of ran))
