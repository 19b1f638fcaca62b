use Rattle.std.proofs.Common.{◌≡◌, List, sym, ◌∙◌, ap, subst}
use Rattle.std.specs.Option.{option_map}
use Rattle.shred_table.specs.declared.id.ResourceId.{ResourceId}
use Rattle.shred_table.specs.Shown.{shown}
use Rattle.shred_table.specs.Slots.{slot_at, held, among}
use Rattle.shred_run.specs.Steps.{declared_of}
use Rattle.shred_run.proofs.Runs.Handed.{home-slots, shows-held, held-shows}
use Rattle.shred_run.proofs.alone.step_in.Goals as goal

pub returns-clause-step : goal.returns-clause-step
returns-clause-step g c =
    let kind = g.V.ResourceValue.kind_of in
    let room = c.args.room.now in
    let writes = room.writes.items in
    let from = rw c.as_slice.ensures.value at c.move_each.ensures.from in
    let to = rw c.as_slice.ensures.value at c.move_each.ensures.to in
    let back = rw c.as_slice-4.ensures.value at c.move_home.ensures.to in
    let ran = c.step_before-outcome in
    let r : c.as_slice-2.result.now ≡ g.S.System.reads c.args.system.now = c.as_slice-2.ensures.value ∙ c.requires.reads in
    let w : c.as_slice-3.result.now ≡ g.S.System.writes c.args.system.now = c.as_slice-3.ensures.value ∙ c.requires.writes in
    let shows = shows-held (slot_at c.args.table.now) (slot_at c.move_each.new.from) writes room.hand c.move_each.new.to c.requires.hand from to kind in
    let ends = held-shows (slot_at c.args.table.now) (slot_at c.move_each.new.from) writes room.hand c.move_each.new.to c.requires.hand from to ran.new.hand (slot_at c.move_home.new.to) ran.ensures.slots back kind ran.ensures.kinds in
    let seen = declared_of (record { reads = c.as_slice-2.result.now; writes = c.as_slice-3.result.now }) (shown kind (slot_at c.move_each.new.from) c.move_each.new.to) in
    record {
      lies = subst (λ seen. g.S.System.step c.args.system.now seen ran.result ran.new.system (declared_of (record { reads = g.S.System.reads c.args.system.now; writes = g.S.System.writes c.args.system.now }) (held kind c.move_home.new.to)))
          (λ i. declared_of (record { reads = r i; writes = w i }) (λ q. shows q i))
          (subst (λ left. g.S.System.step c.args.system.now seen ran.result ran.new.system left) (λ i. declared_of (record { reads = r i; writes = w i }) (λ q. ends q i)) ran.ensures.lies.0);
      frame = λ q out. sym (ends q) ∙ ran.ensures.frame q (ap (λ (ids : List ResourceId). among ids q) w ∙ out) ∙ shows q;
      keeps_kinds = λ q. ap (option_map kind) (sym (ends q)) ∙ ran.ensures.kinds q ∙ ap (option_map kind) (shows q);
    }

pub returns-clause-slots : goal.returns-clause-slots
returns-clause-slots g c = λ q. home-slots _ _ (slot_at c.args.table.now q) (slot_at c.move_each.new.from q) (slot_at c.move_home.new.to q) _ (c.move_each.ensures.from q) (c.move_home.ensures.to q)
