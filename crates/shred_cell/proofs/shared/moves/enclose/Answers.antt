use Rattle.std.proofs.Common.{slice_index_or, take, ◌∙◌, ap, arith}
use Rattle.shred_table.specs.declared.id.ResourceId.{ResourceId}
use Rattle.shred_table.specs.Parting.{emptied, given}
use Rattle.shred_table.specs.Slots.{slot_at, among}
use Rattle.shred_table.proofs.Tables.Slots.{same_id-true}
use Rattle.shred_table.proofs.Tables.Moves.{cond-more, cond-all, with_at-here, with_at-there, left-more}
use Rattle.shred_cell.specs.Shared.{cell_of}
use Rattle.shred_cell.proofs.Enclosed.{cell-more}
use Rattle.shred_cell.proofs.shared.moves.enclose.Goals as goal

pub loop-id-preserved : goal.loop-id-preserved
loop-id-preserved g c =
    let kind = g.V.ResourceValue.kind_of in
    let ids = c.args.ids.now in
    let k = c.loop-id.id-index in
    let d : ResourceId = record { kind = record { 0 = 0 }; dynamic_id = 0 } in
    let id = slice_index_or ids k d in
    let from = slot_at c.loop-id.table in
    let to = slot_at c.loop-id.cells in
    let first = slot_at c.args.table.now in
    record {
      table = cond-more (λ q. emptied (first q)) first k ids d c.loop-id-test.true from (slot_at c.enclose_one.new.table)
          (λ q e. c.enclose_one.ensures.table q ∙ with_at-here from id _ q e ∙ ap (λ (x : ResourceId). emptied (from x)) (same_id-true id q e) ∙ left-more (among (take k ids) q) (from q) (first q) (c.loop-id.invariant.table q))
          (λ q e. c.enclose_one.ensures.table q ∙ with_at-there from id _ q e)
          c.loop-id.invariant.table;
      cells = cond-more (λ q. given (cell_of kind q (first q)) (slot_at c.args.cells.now q)) (slot_at c.args.cells.now) k ids d c.loop-id-test.true to (slot_at c.enclose_one.new.cells)
          (λ q e.
          c.enclose_one.ensures.cells q ∙ with_at-here to id _ q e ∙ ap (λ (x : ResourceId). given (cell_of kind x (from x)) (to x)) (same_id-true id q e)
          ∙ cell-more kind q (among (take k ids) q) (from q) (first q) (to q) (slot_at c.args.cells.now q) (c.loop-id.invariant.table q) (c.loop-id.invariant.cells q))
          (λ q e. c.enclose_one.ensures.cells q ∙ with_at-there to id _ q e)
          c.loop-id.invariant.cells;
    }

pub returns-clause-table : goal.returns-clause-table
returns-clause-table g c = cond-all (λ q. emptied (slot_at c.args.table.now q)) (slot_at c.args.table.now) (slot_at c.loop-id.table) c.loop-id.id-index c.args.ids.now (omega arith) c.loop-id.invariant.table

pub returns-clause-cells : goal.returns-clause-cells
returns-clause-cells g c = cond-all (λ q. given (cell_of g.V.ResourceValue.kind_of q (slot_at c.args.table.now q)) (slot_at c.args.cells.now q)) (slot_at c.args.cells.now) (slot_at c.loop-id.cells) c.loop-id.id-index c.args.ids.now (omega arith) c.loop-id.invariant.cells
