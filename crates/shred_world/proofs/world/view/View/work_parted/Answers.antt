use Rattle.std.proofs.Common.{◌≡◌, List, length, sym, subst, ◌∙◌, ap, arith}
use Rattle.std.specs.List.{AllZip}
use Rattle.shred_table.specs.declared.table.Table.{Table}
use Rattle.shred_world.specs.Beside.{lent_behind}
use Rattle.shred_table.specs.Parts.{Pair, IsHandOf}
use Rattle.shred_table.specs.Shown.{Lent, IsSameSlots}
use Rattle.shred_world.specs.Views.{view_slot}
use Rattle.shred_world.specs.Worked.{IsWorkedEach}
use Rattle.shred_table.proofs.Parted.Pairs.{zip-length, written-over}
use Rattle.shred_world.proofs.Bundles.Worked.{each-slots}
use Rattle.shred_world.proofs.world.view.View.work_parted.Goals as goal

pub work_over_each-requires : goal.work_over_each-requires
work_over_each-requires g c =
    let pairs = c.args.parts.now.pairs.now in
    let was = c.args.parts.now.hands.items in
    let over : AllZip (IsHandOf (lent_behind c.behind-behind.result)) pairs was =
    subst (λ (behind : Lent g.row.V.Denot). AllZip (IsHandOf behind) pairs was) (λ i q. sym (c.behind-behind.ensures.shelf q) i) c.requires.hands in (
      omega arith,
      subst (λ (hs : List (Table g.row.V.Denot)). AllZip (IsHandOf (lent_behind c.behind-behind.result)) c.behind-behind.result.pairs.now hs) (sym c.as_mut_slice.ensures.value)
          (subst (λ (ps : List Pair). AllZip (IsHandOf (lent_behind c.behind-behind.result)) ps was) (sym c.behind-behind.ensures.pairs) over),
    )

pub returns-clause-worked : goal.returns-clause-worked
returns-clause-worked g c =
    let kind = g.V.ResourceValue.kind_of in
    let works = g.W.ViewWork.works in
    let pairs = c.args.parts.now.pairs.now in
    let was = c.args.parts.now.hands.items in
    let now = c.work_over_each.new.hands in
    let behind : Lent g.row.V.Denot = view_slot c.args.self.now in
    let over : IsWorkedEach kind works (lent_behind c.behind-behind.result) pairs c.as_mut_slice.result.now c.args.work.now now c.work_over_each.new.work =
    subst (λ (ps : List Pair). IsWorkedEach kind works (lent_behind c.behind-behind.result) ps c.as_mut_slice.result.now c.args.work.now now c.work_over_each.new.work) c.behind-behind.ensures.pairs c.work_over_each.ensures in
    let shown : IsWorkedEach kind works behind pairs c.as_mut_slice.result.now c.args.work.now now c.work_over_each.new.work =
    subst (λ (behind : Lent g.row.V.Denot). IsWorkedEach kind works behind pairs c.as_mut_slice.result.now c.args.work.now now c.work_over_each.new.work) (λ i q. c.behind-behind.ensures.shelf q i) over in
    let each : IsWorkedEach kind works behind pairs was c.args.work.now now c.work_over_each.new.work =
    subst (λ (hs : List (Table g.row.V.Denot)). IsWorkedEach kind works behind pairs hs c.args.work.now now c.work_over_each.new.work) c.as_mut_slice.ensures.value shown in
    let same : length was ≡ length now = zip-length IsSameSlots was now (each-slots kind works behind pairs was c.args.work.now now c.work_over_each.new.work each) in
    subst (λ (hs : List (Table g.row.V.Denot)). IsWorkedEach kind works behind pairs was c.args.work.now hs c.work_over_each.new.work)
    (sym (written-over c.args.parts.now.hands.len was now (sym c.as_mut_slice.ensures.len ∙ ap length c.as_mut_slice.ensures.value) (sym same))) each
