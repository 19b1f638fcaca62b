use Rattle.std.proofs.Common.{rules, ap, subst, sym}
use Rattle.shred.specs.Builders.{built, builder_pairs}
use Rattle.example_systems.specs.PlanTexts.{HasThree, IsTextOf}
use Rattle.example_systems.proofs.Single.{if_ok}
use Rattle.example_systems.proofs.Answered.{taken-then}
use Rattle.example_systems.proofs.plan_text.text_of_three.Goals as goal

pub returns : goal.returns
returns c =
    let builder = c.in_ok-builder.builder in
    let three = if_ok (λ builder. HasThree (built builder)) c.plan_of_three.result builder c.in_ok-builder.ensures.value c.plan_of_three.ensures in
    let told : IsTextOf (builder_pairs builder) (built builder).plan c.in_ok-ok.field-0.items = search rules in
    taken-then c.from_utf8.result c.ok-3.result c.ok-3.ensures.value (λ text same. record {
      plan = built builder;
      three = three;
      names = builder_pairs builder;
      known = c.text_of.ensures.names;
      is_text = subst (IsTextOf (builder_pairs builder) (built builder).plan) (ap (λ bytes. bytes.items) (sym same)) told;
    })
    c.from_utf8.ensures.ok
