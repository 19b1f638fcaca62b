use Rattle.std.proofs.Common.{◌≡◌, ℕ, [], map, IsTrue, sym, ◌∙◌, ap}
use Rattle.shred_table.specs.Slots.{among}
use Rattle.shred_world.specs.Views.{may_write}
use Rattle.script_text.specs.Declares.{places_written}
use Rattle.script_text.specs.Place.{id_at}
use Rattle.script_engine.proofs.Declares.{among-places, each-step}
use Rattle.script_engine.proofs.system.ScriptSystemSystemValue.run.Goals as goal

pub run_declared-requires-clause-writes : goal.run_declared-requires-clause-writes
run_declared-requires-clause-writes c =
    let declared : c.args.self.now.declared.written.items ≡ places_written [] c.as_slice.result.now = c.args.self.now.written_by_steps ∙ ap (places_written []) (sym c.as_slice.ensures.value) in
    each-step (λ (place : ℕ). IsTrue (may_write c.args.view.now (id_at place))) c.as_slice.result.now
    (λ place has. c.requires.lent.may_write (id_at place) ∙ (λ i. among (map id_at (declared i)) (id_at place)) ∙ among-places (places_written [] c.as_slice.result.now) place ∙ has)
