-- Reports of plans, one after another.
use Rattle.std.proofs.Common.{◌≡◌, ◌+◌, ◌++◌, ◌<◌, ◌∙◌, ℕ, List, [], ◌∷◌, ap, append-nil, append_assoc, arith, get_or, length, refl, subst, sym, take}
use Rattle.std.proofs.lemmas.List.{length-take-le, take_more}
use Rattle.std.specs.String.{string_bytes}
use Rattle.std.specs.declared.alloc.Global.{Global}
use Rattle.std.specs.declared.string.String.{String}
use Rattle.plan_engine.specs.Reports.{AreReported, IsPlanReport, PutsPlanReport}
use Rattle.plan_engine.specs.Shorter.{PutsShorter}
use Rattle.plan_engine.specs.Times.{AreTimesOf}
use Rattle.plan_engine.specs.TimesText.{PutsBehind, times_lines}
use Rattle.plan_engine.specs.declared.attempts.Attempt.{Attempt}
use Rattle.plan_engine.specs.declared.plans.Plan.{Plan}
use Rattle.plan_engine.specs.declared.times.PlanTimes.{PlanTimes}
use denote.Ref.{Bor}

-- the lines of a plan's times, and then the line of what would shorten its path
pub plan-report : (resources : List (Bor (List ℕ))) (attempts : List Attempt) (place : ℕ) (plan : Plan) (times : PlanTimes) (old between new : String Global) → AreTimesOf plan times → PutsBehind old between (times_lines plan times) → PutsShorter resources attempts place times.path_time between new → PutsPlanReport resources attempts place plan old new
plan-report resources attempts place plan times old between new are first (line, shorter, last) =
    let lines = times_lines plan times in
    (lines ++ line, (times, are, (line, shorter, refl)), last ∙ ap (λ (t : List ℕ). t ++ line) first ∙ append_assoc (string_bytes old) lines line)

-- one more plan
report-push : (resources : List (Bor (List ℕ))) (attempts : List Attempt) (place : ℕ) (plans : List Plan) (text : List ℕ) (n : ℕ) (plan : Plan) (more : List ℕ) → n ≡ place + length plans → AreReported resources attempts place plans text → IsPlanReport resources attempts n plan more → AreReported resources attempts place (plans ++ plan ∷ []) (text ++ more)
report-push resources attempts place [] text n plan more at none is =
    let same : n ≡ place = omega (arith, at) in
    (more, [], subst (λ (k : ℕ). IsPlanReport resources attempts k plan more) same is, refl, ap (λ (t : List ℕ). t ++ more) none ∙ sym (append-nil more))
report-push resources attempts place (one ∷ plans) text n plan more at (first, rest, is-first, others, joined) is =
    (first, rest ++ more, is-first, report-push resources attempts (place + 1) plans rest n plan more (omega (arith, at)) others is, ap (λ (t : List ℕ). t ++ more) joined ∙ append_assoc first rest more)

-- one more plan, which stands at this place
pub report-more : (resources : List (Bor (List ℕ))) (attempts : List Attempt) (plans : List Plan) (text new : List ℕ) (i : ℕ) (plan : Plan) (more : List ℕ) → i < length plans → plan ≡ get_or plans i plan → AreReported resources attempts 0 (take i plans) text → IsPlanReport resources attempts i plan more → new ≡ text ++ more → AreReported resources attempts 0 (take (i + 1) plans) new
report-more resources attempts plans text new i plan more within is told holds put =
    let taken : take (i + 1) plans ≡ take i plans ++ plan ∷ [] = take_more plans i plan within ∙ ap (λ (last : Plan). take i plans ++ last ∷ []) (sym is) in
    let at : length (take i plans) ≡ i = length-take-le i plans (omega arith) in
    subst (λ (t : List ℕ). AreReported resources attempts 0 (take (i + 1) plans) t) (sym put)
    (subst (λ (all : List Plan). AreReported resources attempts 0 all (text ++ more)) (sym taken) (report-push resources attempts 0 (take i plans) text i plan more (omega (arith, at)) told holds))
