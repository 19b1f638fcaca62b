use Rattle.std.proofs.Common.{ap, w64, to_z, of_z}
use Rattle.shred.specs.AsyncDispatchers.{state_of}
use Rattle.shred_world.specs.Worlds.{world_held}
use Rattle.example_systems.specs.OneSystem.{count_at}
use Rattle.example_systems.proofs.Single.{was_ok}
use Rattle.test_async.specs.Meanwhile.{kind_of}
use Rattle.test_async.proofs.SevenShown.{is-seven, seven-shown}
use Rattle.test_async.proofs.meanwhile.count_and_look.Goals as goal

pub returns-in-Ok-clause-count : goal.returns-in-Ok-clause-count
returns-in-Ok-clause-count g c =
    let seven = seven-shown _ (λ world. world_held kind_of world.now) (state_of kind_of c.in_ok-dispatcher.dispatcher) (state_of kind_of c.dispatch.new.self) (state_of kind_of c.wait.new.self) c.in-Ok.ensures.shown.0 c.dispatch.result c.wait.result c.in-Ok.world
    c.in_ok-dispatcher.ensures (was_ok c.dispatch.result c.in_ok-ok.field-0 c.in_ok-ok.ensures.value) c.dispatch.ensures (was_ok c.wait.result c.in_ok-ok-2.field-0 c.in_ok-ok-2.ensures.value) c.wait.ensures c.in-Ok.ensures.shown.1 in
    ap (λ z. to_z w64 (of_z w64 z)) (is-seven (world_held kind_of c.in-Ok.world.now count_at) c.in_ok-count_in-in-Ok.field-0 seven c.in_ok-count_in-in-Ok.ensures)
