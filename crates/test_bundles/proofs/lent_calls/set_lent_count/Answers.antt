use Rattle.std.proofs.Common.{sym, ap, ◌∙◌}
use Rattle.shred_table.specs.Id.{id_of}
use Rattle.shred_world.specs.Grants.{Grant}
use Rattle.shred_table.specs.Slots.{with_at}
use Rattle.shred_world.specs.Worlds.{world_held}
use Rattle.test_values.specs.Values.{kind_of, count_kind}
use Rattle.test_values.specs.declared.values.Value.{Value}
use Rattle.test_values.specs.declared.values.Value.TheVariants.{Count as counted}
use Rattle.std.specs.Prelude.{true, false, Some}
use Rattle.test_values.proofs.GivenBack.{held-given}
use Rattle.test_bundles.proofs.lent_calls.set_lent_count.Goals as goal

pub returns-in-Ok-clause-ok : goal.returns-in-Ok-clause-ok
returns-in-Ok-clause-ok c =
    let is = c.in-Ok.ensures in λ q.
    ap (λ w. world_held kind_of w q) (c.world-1.given.1 (sym is.name))
    ∙ ap (λ held. held q) c.give_back.ensures
    ∙ ap (λ (h : Grant Value). with_at h.held (id_of count_kind 0) (Some (counted c.args.count)) q) is.left
    ∙ held-given (world_held kind_of c.args.world.now) (record { kind = count_kind; id = id_of count_kind 0; is_written = true; may_be_absent = false }) (counted c.args.count) q
