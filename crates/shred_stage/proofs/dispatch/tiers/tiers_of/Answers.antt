use Rattle.std.specs.Prelude.{None}
use Rattle.std.proofs.Common.{◌≡◌, ◌∷◌, [], ◌++◌, length, sym, ◌∙◌, ap, subst, arith, append_assoc}
use Rattle.std.specs.Vec.Iter.{into_iter_items}
use Rattle.std.proofs.lemmas.List.{length-map, map-append}
use Rattle.std.proofs.lemmas.List.Elements.{All-push}
use Rattle.std.specs.List.{All}
use Rattle.shred_run.specs.Works.{tier_plan, tier_states, tiers_plan}
use Rattle.shred_stage.specs.Inner.{tiers_states}
use Rattle.shred_stage.specs.Plans.{stage_states}
use Rattle.shred_stage.specs.StagePlan.{plan_of, stage_plan}
use Rattle.shred_run.specs.Batches.{IsTierOf}
use Rattle.shred_stage.proofs.Planner.EntriesAt.{listed-pushed}
use Rattle.shred_stage.proofs.dispatch.tiers.tiers_of.Goals as goal
use Rattle.shred_run.specs.Rules.{RuleOwns}
use Rattle.shred_run.specs.Depths.{lists_of}

pub loop-stage-preserved : goal.loop-stage-preserved
loop-stage-preserved g c =
    let at = c.loop-stage in
    let tier = c.into_tier.result in
    let steps : into_iter_items at.stage-iterator ≡ c.in-Some.stage ∷ into_iter_items c.next.new.self = c.in-Some.ensures.steps.0 in
    let pushed : c.push_or_drop.new.items.items ≡ at.tiers.items ++ tier ∷ [] = c.in_ok-push_or_drop.ensures.ok in
    let long : length at.tiers.items ≡ length at.yielded = sym (length-map at.tiers.items tier_plan) ∙ ap length at.invariant.plan ∙ length-map at.yielded stage_plan in
    record {
      all = append_assoc at.yielded (c.in-Some.stage ∷ []) _ ∙ rw (← steps) at.invariant.all;
      long = let was = at.invariant.long in let gone = c.in-Some.ensures.steps.1 in let short = ap length steps in omega arith;
      plan = ap tiers_plan pushed ∙ map-append tier_plan at.tiers.items (tier ∷ []) ∙ ap (λ plan. plan ++ tier_plan tier ∷ []) at.invariant.plan ∙ ap (λ one. plan_of at.yielded ++ one ∷ []) c.into_tier.ensures.plan ∙ sym (map-append stage_plan at.yielded (c.in-Some.stage ∷ []));
      states = λ path. ap (λ tiers. tiers_states tiers path) pushed ∙ listed-pushed tier_states stage_states at.tiers.items at.yielded long at.invariant.states tier c.in-Some.stage c.into_tier.ensures.states path;
      own = subst (All (IsTierOf (RuleOwns (lists_of g.S.System g.C.BatchController) None))) (sym pushed) (All-push (IsTierOf (RuleOwns (lists_of g.S.System g.C.BatchController) None)) at.tiers.items tier at.invariant.own c.into_tier.ensures.own);
    }
