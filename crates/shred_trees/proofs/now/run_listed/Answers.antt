use Rattle.std.proofs.Common.{List, [], ◌∷◌, inl, sym, ◌∙◌, ap, subst}
use Rattle.std.specs.Prelude.{IsTrue}
use Rattle.std.specs.List.{AllZip}
use Rattle.shred_table.specs.declared.id.ResourceId.{ResourceId}
use Rattle.shred_table.specs.Parts.{Pair, writes_of, written_by, IsJoined}
use Rattle.shred_table.specs.Slots.{among}
use Rattle.shred_world.specs.Views.{may_write, view_slot}
use Rattle.shred_world.proofs.Parted.Beside.{same-again}
use Rattle.shred_trees.specs.Leaves.{exact_trees, system_trees}
use Rattle.shred_trees.specs.Parted.{OneRan}
use Rattle.shred_trees.proofs.Joined.{one-all, one-joined}
use Rattle.shred_trees.proofs.OverViews.{ran-of}
use Rattle.shred_trees.proofs.now.run_listed.Goals as goal

pub returns : goal.returns
returns g c =
    let kind = g.V.ResourceValue.kind_of in
    let trees = exact_trees g.S.System.step g.S.System.sets_up g.S.System.reads g.S.System.writes in
    let pairs : List Pair = c.pair.result ∷ [] in
    let now = c.part.new.self in
    let new = c.join.new.lender in
    let ran = c.run_part-outcome in
    let same = ran.ensures.pairs ∙ c.in-Ok.ensures.parted.pairs in
    let run = one-joined {E = g.row.S-Error.Denot} kind trees c.args.system.now ran.new.system ran.result c.args.view.now now new c.in-Ok.ensures.loan c.join.ensures.loan pairs c.in-Ok.parts.hands.items ran.new.parts.hands.items
    (record { reads = c.pair.ensures.reads ∙ c.requires.reads; writes = c.pair.ensures.writes ∙ c.requires.writes })
    (subst (λ (ps : List Pair). OneRan kind trees (view_slot now) ps c.args.system.now c.in-Ok.parts.hands.items ran.result ran.new.system ran.new.parts.hands.items) c.in-Ok.ensures.parted.pairs ran.ensures.ran)
    (one-all (λ (p : Pair). (q : ResourceId) → IsTrue (among (writes_of p) q) → IsTrue (may_write c.args.view.now q)) c.pair.result
    (λ q w. c.requires.covered.writes_within q (ap (λ (ids : List ResourceId). among ids q) (sym (c.pair.ensures.writes ∙ c.requires.writes)) ∙ w)))
    c.in-Ok.ensures.parted.shown
    (subst (λ (ps : List Pair). AllZip (IsJoined new.own.now) ps ran.new.parts.hands.items) same c.join.ensures.joined.joined)
    c.in-Ok.ensures.parted.left
    (λ q out. c.join.ensures.joined.rest q (ap (λ (ps : List Pair). written_by ps q) same ∙ out)) in
    ran-of {E = g.row.S-Error.Denot} kind (system_trees g.S.System.step g.S.System.sets_up g.S.System.reads g.S.System.writes) c.args.system.now ran.new.system ran.result c.args.view.now new
    (record { lies = inl run.lies; frame = run.frame; keeps_kinds = run.keeps_kinds; same_reads = run.same_reads; same_writes = run.same_writes })
    (same-again c.args.view.now now new c.in-Ok.ensures.loan c.join.ensures.loan c.requires.covered.nothing_out c.join.ensures.nothing_out)
