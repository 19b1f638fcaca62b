use Rattle.std.proofs.Common.{◌≡◌, List, Option, None, get_or, sym, ap, ◌∙◌}
use Rattle.std.specs.Prelude.{true, false, Some, is_some, pos}
use Rattle.std.specs.Int.{int_wrapping_add}
use Rattle.std.proofs.Common.{w64}
use Rattle.shred_table.specs.Id.{id_of}
use Rattle.shred_table.specs.Slots.{with_at}
use Rattle.shred_world.specs.Bundles.{Part}
use Rattle.shred_world.specs.Grants.{Grant}
use Rattle.shred_world.specs.Worlds.{local_held, local_slot}
use Rattle.shred_world.proofs.Views.HeldKinds.{slot_held-same_kind}
use Rattle.shred_world.proofs.Views.KeptIds.{ids-kept}
use Rattle.test_values.specs.Values.{kind_of, count_kind}
use Rattle.test_values.specs.declared.values.Value.{Value}
use Rattle.test_values.specs.declared.values.Value.TheVariants.{Count as counted}
use Rattle.test_values.proofs.GivenBack.{held-given}
use Rattle.test_dispatch.proofs.locals.bundle.TakesBundleRunNowValue.run_now.Goals as goal

pub returns-in-Ok-clause-kinds : goal.returns-in-Ok-clause-kinds
returns-in-Ok-clause-kinds g c =
    let is = c.in-Ok.ensures in
    let before = local_held kind_of c.args.world.now in
    let count = id_of count_kind 0 in
    let there : is_some (before count) ≡ true = sym (ap (λ (l : List (Option Value)). is_some (get_or l 0 None)) is.taken.1) in
    let part : Part = record { kind = count_kind; id = count; is_written = true; may_be_absent = false } in
    let v : Value = counted (record { 0 = int_wrapping_add w64 c.deref-in-Ok.result.now.0 (pos 1) }) in
    λ q. slot_held-same_kind kind_of q (local_slot c.world-1.given.0 q) (local_slot c.args.world.now q)
    (ids-kept before (local_held kind_of c.world-1.given.0) count v there
    (λ p. ap (λ w. local_held kind_of w p) (c.world-1.given.1 (sym is.name))
    ∙ ap (λ held. held p) c.give_back.ensures
    ∙ ap (λ (h : Grant Value). with_at h.held count (Some v) p) is.left
    ∙ held-given before part v p) q)
