use Rattle.std.proofs.Common.{◌≡◌, ◌+◌, ◌∙◌, ℕ, List, [], ap, sym, subst, Option, Some, slice_get}
use Rattle.std.proofs.lemmas.Option.{slice_get-get_or}
use Rattle.std.specs.Option.{option_map_or}
use Rattle.plan_engine.specs.declared.declaration.Declaration.{Declaration}
use Rattle.plan_engine.specs.Dependence.{IsRowOf, Rows, TellUpTo}
use Rattle.plan_engine.specs.Entries.{named_by}
use Rattle.plan_engine.proofs.Depending.{tell-more}
use Rattle.plan_engine.proofs.dependence.dependence.Goals as goal

pub loop-entry-preserved : goal.loop-entry-preserved
loop-entry-preserved c =
    let entries = c.args.entries.now in
    let place = c.loop-entry.entry-index in
    let entry = c.entry-item.result in
    let found : slice_get entries place ≡ Some entry = slice_get-get_or entries place entry c.loop-entry-test.true ∙ ap Some (sym c.entry-item.is) in
    let named : entry.dependencies.items ≡ named_by entries place = ap (λ (found : Option Declaration). option_map_or (λ declaration. declaration.dependencies.items) found []) (sym found) in
    let row = c.in_ok-row.row in
    let of-slices = c.in_ok-row.ensures in
    let of-rows = subst (λ (rows : Rows). IsRowOf c.as_slice.result.now rows row) c.as_slice-in-loop-entry.ensures.value of-slices in
    let is = subst (λ (named : List ℕ). IsRowOf named c.loop-entry.rows.items row) (c.as_slice.ensures.value ∙ named) of-rows in
    subst (λ (rows : Rows). TellUpTo entries (place + 1) rows) (sym c.in_ok-push.ensures.items) (tell-more entries c.requires c.loop-entry.rows.items row place c.loop-entry.invariant is)
