use Rattle.std.proofs.Common.{◌<◌, ℕ, List, [], get_or, length, arith}
use Rattle.shred_stage.specs.Known.{texts_of}
use Rattle.shred_stage.specs.Names.{names_of}
use Rattle.shred_stage.proofs.Names.Known.{known-some, knows-next}
use Rattle.shred_stage.proofs.Planner.Spots.{mapped_at}
use Rattle.shred_stage.proofs.known_names.first_unknown.Goals as goal
use denote.Ref.{Bor}
use Rattle.std.proofs.lemmas.List.{length-map}
use Rattle.std.proofs.lemmas.Option.{slice_get_within}

pub loop-place-preserved : goal.loop-place-preserved
loop-place-preserved c =
    let wanted = c.args.wanted.now in
    let place = c.loop-place.place in
    let known = names_of c.args.names.now in
    let name = (get_or wanted place (record { ref_ptr = (0, 0); now = [] })).now in
    let at = mapped_at (λ (t : Bor (List ℕ)). t.now) wanted place (record { ref_ptr = (0, 0); now = [] }) c.loop-place-test.true in
    knows-next known (texts_of wanted) place name at c.loop-place.invariant (known-some c.id_of.result (known name) c.if-is_none.ensures c.id_of.ensures)

pub returns : goal.returns
returns c = λ k name at.
    let within : k < length (texts_of c.args.wanted.now) = slice_get_within (texts_of c.args.wanted.now) k name at in
    c.loop-place.invariant k name (omega (arith, within, length-map c.args.wanted.now (λ (t : Bor (List ℕ)). t.now), c.loop-place-test.false)) at
