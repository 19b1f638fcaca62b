use Rattle.std.proofs.Common.{◌&&◌, Bool, cond, List, sym, subst, ◌∙◌, ap}
use Rattle.std.specs.Prelude.{is_some}
use Rattle.std.specs.List.{AllZip}
use Rattle.shred_table.specs.declared.table.Table.{Table}
use Rattle.shred_table.specs.Parts.{Pair, written_by, HoldsSameIds, HoldsIdsOf, Fits, IsHandOf, IsJoined}
use Rattle.shred_table.specs.Slots.{slot_at}
use Rattle.shred_world.specs.Views.{lent_to, view_slot}
use Rattle.shred_world.specs.Worked.{IsWorkedEach}
use Rattle.shred_world.proofs.Parted.Beside.{held-kept, same-again}
use Rattle.shred_world.proofs.Parted.Hands.{fit-again}
use Rattle.shred_world.proofs.Views.Refusals.{written-own}
use Rattle.shred_world.proofs.Bundles.Worked.{worked-apart, each-slots, each-ids, each-given_back}
use Rattle.shred_world.proofs.world.view.View.part_each.Goals as goal

pub work_parted-requires-clause-hands : goal.work_parted-requires-clause-hands
work_parted-requires-clause-hands g c =
    subst (λ (ps : List Pair). AllZip (IsHandOf (view_slot c.part.new.self)) ps c.in-Ok.parts.hands.items) (sym c.in-Ok.ensures.parted.pairs)
    c.in-Ok.ensures.parted.of_pairs

pub work_parted-requires-clause-lender : goal.work_parted-requires-clause-lender
work_parted-requires-clause-lender g c = sym c.in-Ok.ensures.parted.lender

pub join-requires : goal.join-requires
join-requires g c =
    record {
      lender = (sym (c.work_parted.ensures.lender ∙ c.in-Ok.ensures.parted.lender));
      out = (λ q. c.in-Ok.ensures.out q
          ∙ ap (λ (b : Bool). written_by c.args.pairs.now q && b) (sym (c.in-Ok.ensures.loan.slots q))
          ∙ ap (λ (ps : List Pair). written_by ps q && is_some (slot_at c.part.new.self.own.now q)) (sym (c.work_parted.ensures.pairs ∙ c.in-Ok.ensures.parted.pairs)));
      given_back = (each-given_back g.V.ResourceValue.kind_of g.W.ViewWork.works (view_slot c.part.new.self) c.in-Ok.parts.pairs.now c.in-Ok.parts.hands.items c.args.work.now c.work_parted.new.parts.hands.items c.work_parted.new.work c.work_parted.ensures.worked);
      fit = (let hands = c.in-Ok.parts.hands.items in
          let left = c.work_parted.new.parts.hands.items in
          subst (λ (ps : List Pair). AllZip (Fits c.part.new.self.own.now) ps left) (sym (c.work_parted.ensures.pairs ∙ c.in-Ok.ensures.parted.pairs))
          (fit-again c.args.pairs.now c.part.new.self.own.now hands left c.in-Ok.ensures.parted.fit
          (each-slots g.V.ResourceValue.kind_of g.W.ViewWork.works (view_slot c.part.new.self) c.in-Ok.parts.pairs.now hands c.args.work.now left c.work_parted.new.work c.work_parted.ensures.worked)));
      kept = (let kind = g.V.ResourceValue.kind_of in
          let left = c.work_parted.new.parts.hands.items in
          subst (λ (was : List (Table g.row.V.Denot)). AllZip (HoldsSameIds kind) was left) (sym (c.work_parted.ensures.parted ∙ c.in-Ok.ensures.parted.parted))
          (each-ids kind g.W.ViewWork.works (view_slot c.part.new.self) c.in-Ok.parts.pairs.now c.in-Ok.parts.hands.items c.args.work.now left c.work_parted.new.work c.work_parted.ensures.worked));
    }

pub returns-clause-same : goal.returns-clause-same
returns-clause-same g c = same-again c.args.self.now c.part.new.self c.join.new.lender c.in-Ok.ensures.loan c.join.ensures.loan c.requires.nothing_out c.join.ensures.nothing_out

pub returns-clause-worked : goal.returns-clause-worked
returns-clause-worked g c =
    let kind = g.V.ResourceValue.kind_of in
    let works = g.W.ViewWork.works in
    let pairs = c.args.pairs.now in
    let was = c.args.self.now in
    let now = c.part.new.self in
    let new = c.join.new.lender in
    let hands = c.in-Ok.parts.hands.items in
    let left = c.work_parted.new.parts.hands.items in
    worked-apart kind works (view_slot now) (view_slot was) (view_slot new) new.own.now pairs hands c.args.work.now left c.work_parted.new.work
    c.in-Ok.ensures.parted.shown
    (subst (λ (ps : List Pair). AllZip (IsJoined new.own.now) ps left) (c.work_parted.ensures.pairs ∙ c.in-Ok.ensures.parted.pairs) c.join.ensures.joined.joined)
    (λ i d below q w. ap (λ (b : Bool). cond b (slot_at new.own.now q) (lent_to new q)) (c.join.ensures.loan.own q ∙ c.in-Ok.ensures.loan.own q ∙ written-own was q (c.requires.writes_within i d below q w)))
    (subst (λ (ps : List Pair). IsWorkedEach kind works (view_slot now) ps hands c.args.work.now left c.work_parted.new.work) c.in-Ok.ensures.parted.pairs c.work_parted.ensures.worked)

pub returns-clause-ids : goal.returns-clause-ids
returns-clause-ids g c =
    let kind = g.V.ResourceValue.kind_of in
    let now = c.part.new.self in
    let new = c.join.new.lender in
    let hands = c.in-Ok.parts.hands.items in
    let same = c.work_parted.ensures.pairs ∙ c.in-Ok.ensures.parted.pairs in
    let ids = subst (λ (ps : List Pair). AllZip (HoldsIdsOf kind new.own.now) ps hands) same
    (subst (λ (was : List (Table g.row.V.Denot)). AllZip (HoldsIdsOf kind new.own.now) c.work_parted.new.parts.pairs.now was) (c.work_parted.ensures.parted ∙ c.in-Ok.ensures.parted.parted) c.join.ensures.joined.ids) in
    held-kept kind c.args.self.now now new c.args.pairs.now hands c.in-Ok.ensures.loan c.join.ensures.loan c.in-Ok.ensures.parted.hands ids c.in-Ok.ensures.parted.left
    (λ q out. c.join.ensures.joined.rest q (ap (λ (ps : List Pair). written_by ps q) same ∙ out))
