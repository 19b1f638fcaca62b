use Rattle.std.proofs.Common.{◌≡◌, ◌∙◌, ℕ, List, [], IsSome, None, ap, get_or, subst, sym}
use Rattle.std.proofs.lemmas.Bool.{false≢true}
use Rattle.std.specs.Option.{option_map}
use Rattle.shred_run.specs.declared.entry.SystemId.{SystemId}
use Rattle.shred_stage.specs.Known.{texts_of}
use Rattle.shred_stage.specs.Names.{names_of}
use Rattle.shred_stage.proofs.Names.Known.{known-number, ids-next}
use Rattle.shred_stage.proofs.Planner.Spots.{mapped_at}
use Rattle.shred_stage.proofs.known_names.ids_of.Goals as goal
use denote.Ref.{Bor}

pub loop-place-preserved : goal.loop-place-preserved
loop-place-preserved c =
    let wanted = c.args.wanted.now in
    let place = c.loop-place.place in
    let known = names_of c.args.names.now in
    let name = (get_or wanted place (record { ref_ptr = (0, 0); now = [] })).now in
    let at = mapped_at (λ (t : Bor (List ℕ)). t.now) wanted place (record { ref_ptr = (0, 0); now = [] }) c.loop-place-test.true in
    ids-next known (texts_of wanted) place name c.loop-place.ids.items c.push.new.self.items c.in-Some.id at c.loop-place.invariant (known-number c.id_of.result (known name) c.in-Some.id c.in-Some.is c.id_of.ensures)
    c.in_ok-push.ensures.items

pub unreachable-requires : goal.unreachable-requires
unreachable-requires c =
    let wanted = c.args.wanted.now in
    let place = c.loop-place.place in
    let known = names_of c.args.names.now in
    let none : Bor (List ℕ) = record { ref_ptr = (0, 0); now = [] } in
    let name = (get_or wanted place none).now in
    let at = mapped_at (λ (t : Bor (List ℕ)). t.now) wanted place none c.loop-place-test.true in
    let told : None ≡ known name = ap (option_map (λ (i : SystemId). i.0)) (sym c.in_default.is) ∙ c.id_of.ensures in
    false≢true (subst IsSome (sym told) (c.requires.known place name at))
