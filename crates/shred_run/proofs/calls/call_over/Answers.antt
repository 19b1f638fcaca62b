use Rattle.std.proofs.Common.{◌≡◌, Bool, false, ◌||◌, length, sym, subst, ap, ◌∙◌, rules}
use Rattle.std.specs.Prelude.{is_some, ◌==◌}
use Rattle.shred_run.specs.Steps.{declared_of}
use Rattle.shred_run.proofs.Runs.Hands.{declared_shown, still_has_slots, still_only_slots}
use Rattle.shred_table.specs.Shown.{shown}
use Rattle.shred_table.specs.Listed.{listed_at}
use Rattle.shred_table.specs.Slots.{among, slot_at}
use Rattle.shred_world.specs.Views.{behind_slot, lent_slot, none_behind, is_own, declared_held}
use Rattle.shred_run.proofs.calls.call_over.Goals as goal

pub returns : goal.returns
returns g c =
    let kind = g.V.ResourceValue.kind_of in
    let v = c.over-view.result in
    let w = c.call.new.view in
    let own = c.args.own.now in
    let reads = c.args.loan.now.reads.now in
    let writes = c.args.loan.now.writes.now in
    let lent = lent_slot c.args.loan.now.shelf.now in
    let made = c.over-view.ensures in
    let same = c.call.ensures.view in
    let tie : c.own-1.given.0 ≡ w.own.now = c.own-1.given.1 (sym (c.call.ensures.table ∙ made.name)) in
    let slots : (q : _) → slot_at v.own.now q ≡ slot_at own q = λ q i. listed_at (made.slots i) q in
    let kept : (q : _) → is_some (slot_at c.own-1.given.0 q) ≡ is_some (slot_at own q) = λ q. (λ i. is_some (slot_at (tie i) q)) ∙ same.slots q ∙ ap is_some (slots q) in
    let some : (length c.args.loan.now.shelf.now == 0) ≡ false = c.requires.behind in
    let own_are : (q : _) → is_own v q ≡ among writes q = λ q. (λ i. none_behind (made.base i) (made.shelf i) || among (made.owned i) q) ∙ ap (λ (b : Bool). b || among writes q) some in
    let before = declared_shown kind v reads writes lent own made.reads made.writes made.owned made.not_whole (λ q i. behind_slot (made.base i) (made.shelf i) q) slots c.requires.has.own_slots own_are (c.requires.has.only_own some) in
    let after = declared_shown kind w reads writes lent c.own-1.given.0 (same.reads ∙ made.reads) (same.writes ∙ made.writes) (same.owned ∙ made.owned) (same.whole ∙ made.not_whole)
    (λ q. same.shelf q ∙ (λ i. behind_slot (made.base i) (made.shelf i) q)) (λ q i. slot_at (sym tie i) q) (still_has_slots writes lent own c.own-1.given.0 kept c.requires.has.own_slots)
    (λ q. same.own q ∙ own_are q) (still_only_slots writes own c.own-1.given.0 kept (c.requires.has.only_own some)) in
    record {
      lies = subst (λ seen. g.K.Call.does c.args.on.now seen c.call.result c.call.new.on (declared_of (record { reads = reads; writes = writes }) (shown kind lent c.own-1.given.0))) before
          (subst (λ left. g.K.Call.does c.args.on.now (declared_held kind v) c.call.result c.call.new.on left) after c.call.ensures.does);
      kinds = search rules;
      slots = search rules;
      frame = search rules;
      own_lists = search rules;
    }
