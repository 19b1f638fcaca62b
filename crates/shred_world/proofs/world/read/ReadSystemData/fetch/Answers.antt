use Rattle.std.proofs.Common.{Bool, true, None, inl, sym, ◌∙◌, ap, rules}
use Rattle.std.specs.Prelude.{is_some}
use Rattle.std.specs.Result.{result_err}
use Rattle.shred_table.specs.declared.id.ResourceId.{ResourceId}
use Rattle.shred_table.specs.Id.{id_of}
use Rattle.shred_world.specs.Bundles.{or_refusal}
use Rattle.shred_world.specs.Views.{is_out, may_read, refusal, view_held}
use Rattle.shred_world.proofs.Views.Refusals.{refusal-before}
use Rattle.shred_world.proofs.world.read.ReadSystemData.fetch.Goals as goal

pub returns-in-Err-clause-refused : goal.returns-in-Err-clause-refused
returns-in-Err-clause-refused g c =
    let KIND = g.T.Resource.KIND in
    let v = c.args.view.now in
    let i = c.new-id.result in
    let told = sym (ap (λ (x : ResourceId). refusal KIND x (may_read v x) (is_out v x) true) c.new-id.ensures) ∙ sym (ap (λ (b : Bool). refusal KIND i b (is_out v i) true) c.may_read.ensures) ∙ sym c.test.ensures ∙ ap result_err c.in-Err.is in
    inl (ap (λ r. or_refusal r None) (refusal-before KIND (id_of KIND 0) (may_read v (id_of KIND 0)) (is_out v (id_of KIND 0)) (is_some (view_held g.V.ResourceValue.kind_of v (id_of KIND 0))) c.in-Err.error told))

pub returns-in-Some-clause-passed : goal.returns-in-Some-clause-passed
returns-in-Some-clause-passed g c = search rules

pub returns-in-None-clause-refused : goal.returns-in-None-clause-refused
returns-in-None-clause-refused g c = search rules

pub returns-in-Some-clause-loan : goal.returns-in-Some-clause-loan
returns-in-Some-clause-loan g c = c.hand_out.ensures.loan

pub returns-in-None-clause-loan : goal.returns-in-None-clause-loan
returns-in-None-clause-loan g c = c.hand_out.ensures.loan

pub returns-in_err-resource-clause-loan : goal.returns-in_err-resource-clause-loan
returns-in_err-resource-clause-loan g c = c.hand_out.ensures.loan
