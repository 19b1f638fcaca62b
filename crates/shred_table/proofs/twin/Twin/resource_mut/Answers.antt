use Rattle.std.proofs.Common.{◌≡◌, IsTrue, true, refl, sym, ◌∙◌, ap, rules}
use Rattle.std.specs.Prelude.{is_some}
use Rattle.shred_table.specs.AsOne.{as_one}
use Rattle.shred_table.specs.Slots.{slot_at, slot_held}
use Rattle.shred_table.specs.Twins.{twin_slot}
use Rattle.shred_table.proofs.Tables.AsOne.{both-hand, covers-lent, one-written, IfNone-map}
use Rattle.shred_table.proofs.Tables.Held.{OnSome-map, IfSome-map}
use Rattle.shred_table.proofs.twin.Twin.resource_mut.Goals as goal

pub returns : goal.returns
returns g c =
    let kind = g.V.ResourceValue.kind_of in
    let id = c.args.id in
    let old = c.args.self.now in
    let now = c.bring.new.self in
    let yes : IsTrue c.bring.result = search rules in
    let both : is_some (twin_slot old id) ≡ true = sym c.bring.ensures.both ∙ yes in
    let there = both-hand (slot_at now.table id) (slot_at now.hand id) (ap is_some (c.bring.ensures.same id) ∙ both) in
    let here = c.bring.ensures.here yes in (
      (
        refl,
        (λ w. OnSome-map c.resource_mut.result
            (λ ends. (
              one-written (slot_at old.table) (slot_at old.hand) (slot_at now.table) (slot_at now.hand) (slot_at (c.resource_mut.follows.lender w)) id (g.R.Resource.wrapped w) c.bring.ensures.same both ends,
              λ settled. let s = c.bring.ensures.settled settled in (s.0, covers-lent (slot_at now.table) (slot_at (c.resource_mut.follows.lender w)) (slot_at now.hand) id _ there ends s.1),
            ))
            (c.resource_mut.follows.holds w).0),
        ((λ q. ap (λ o. as_one o (slot_at now.hand q)) (c.resource_mut.follows.holds-at-none.0 q) ∙ c.bring.ensures.same q), λ settled. let s = c.bring.ensures.settled settled in (s.0, λ q some. s.1 q (sym (ap is_some (c.resource_mut.follows.holds-at-none.0 q)) ∙ some))),
      ),
      record {
        shown = IfSome-map c.resource_mut.result (λ r e. sym here ∙ e) c.resource_mut.ensures.shown;
        missing = λ same. IfNone-map c.resource_mut.result (λ none. ap (slot_held kind id) (sym here) ∙ none) (c.resource_mut.ensures.missing same);
        written = tt;
      },
    )
