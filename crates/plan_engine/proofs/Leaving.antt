-- Lines without one declaration, one after another.
use Rattle.std.proofs.Common.{◌≡◌, ◌+◌, ◌++◌, ◌<◌, ◌∙◌, ℕ, List, [], ◌∷◌, ap, arith, get_or, length, refl, subst, sym, take}
use Rattle.std.proofs.lemmas.List.{length-take-le, take_more}
use Rattle.script_text.specs.declared.script.PlanLine.{PlanLine}
use Rattle.plan_engine.specs.Without.{AreWithout, IsLineWithout, left_out_at}
use Rattle.plan_engine.specs.declared.claims.Claim.{Claim}

-- one more line
without-push : (claim : Claim) (place : ℕ) (lines others : List PlanLine) (n : ℕ) (line other : PlanLine) → n ≡ place + length lines → AreWithout claim place lines others → IsLineWithout (left_out_at claim n) line other → AreWithout claim place (lines ++ line ∷ []) (others ++ other ∷ [])
without-push claim place [] others n line other at none is =
    let same : n ≡ place = omega (arith, at) in
    subst (λ (all : List PlanLine). AreWithout claim place (line ∷ []) (all ++ other ∷ [])) (sym none) (subst (λ (k : ℕ). IsLineWithout (left_out_at claim k) line other) same is, refl)
without-push claim place (first ∷ lines) [] n line other at none is = absurd none
without-push claim place (first ∷ lines) (one ∷ others) n line other at (holds, all) is = (holds, without-push claim (place + 1) lines others n line other (omega (arith, at)) all is)

-- one more line, which stands at this place
pub without-more : (claim : Claim) (lines others more : List PlanLine) (i : ℕ) (line other : PlanLine) → i < length lines → line ≡ get_or lines i line → AreWithout claim 0 (take i lines) others → IsLineWithout (left_out_at claim i) line other → more ≡ others ++ other ∷ [] → AreWithout claim 0 (take (i + 1) lines) more
without-more claim lines others more i line other within is all holds pushed =
    let taken : take (i + 1) lines ≡ take i lines ++ line ∷ [] = take_more lines i line within ∙ ap (λ (last : PlanLine). take i lines ++ last ∷ []) (sym is) in
    let at : length (take i lines) ≡ i = length-take-le i lines (omega arith) in
    subst (λ (all : List PlanLine). AreWithout claim 0 (take (i + 1) lines) all) (sym pushed)
    (subst (λ (all : List PlanLine). AreWithout claim 0 all (others ++ other ∷ [])) (sym taken) (without-push claim 0 (take i lines) others i line other (omega (arith, at)) all holds))
