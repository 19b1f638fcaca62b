-- A table of cases, of which one more was run.
use Rattle.std.proofs.Common.{◌≡◌, ◌<◌, ◌+◌, ℕ, suc, Bool, true, false, List, [], ◌∷◌, ◌++◌, length, take, get_or, refl, ap, sym, subst, ◌∙◌, append_assoc, append-nil, arith}
use Rattle.std.proofs.lemmas.List.{take_more}
use Rattle.std.specs.List.{AllZip}
use Rattle.script_text.specs.Texts.{line_of}
use Rattle.script_engine.specs.Tables.{IsVerdict, matching_of, verdict_lines, verdict_text}
use Rattle.script_engine.specs.declared.cases.Case.{Case}

-- of each case there is a verdict
pub verdicts-more : (cases : List Case) (verdicts : List Bool) (case : Case) (verdict : Bool) → AllZip IsVerdict cases verdicts → IsVerdict case verdict → AllZip IsVerdict (cases ++ case ∷ []) (verdicts ++ verdict ∷ [])
verdicts-more [] [] case verdict are one = (one, tt)
verdicts-more [] (v ∷ vs) case verdict are one = absurd are
verdicts-more (c ∷ cs) [] case verdict are one = absurd are
verdicts-more (c ∷ cs) (v ∷ vs) case verdict are one = (are.0, verdicts-more cs vs case verdict are.1 one)

-- the line of one more case stands behind those of the others
pub lines-more : (cases : List Case) (verdicts : List Bool) (case : Case) (verdict : Bool) → AllZip IsVerdict cases verdicts → verdict_lines (cases ++ case ∷ []) (verdicts ++ verdict ∷ []) ≡ verdict_lines cases verdicts ++ line_of (verdict_text case verdict)
lines-more [] [] case verdict are = append-nil (line_of (verdict_text case verdict))
lines-more [] (v ∷ vs) case verdict are = absurd are
lines-more (c ∷ cs) [] case verdict are = absurd are
lines-more (c ∷ cs) (v ∷ vs) case verdict are = ap (λ rest. line_of (verdict_text c v) ++ rest) (lines-more cs vs case verdict are.1) ∙ sym (append_assoc (line_of (verdict_text c v)) (verdict_lines cs vs) (line_of (verdict_text case verdict)))

count-more : (verdicts : List Bool) → matching_of (verdicts ++ true ∷ []) ≡ suc (matching_of verdicts)
count-more [] = refl
count-more (true ∷ vs) = ap suc (count-more vs)
count-more (false ∷ vs) = count-more vs

count-stays : (verdicts : List Bool) → matching_of (verdicts ++ false ∷ []) ≡ matching_of verdicts
count-stays [] = refl
count-stays (true ∷ vs) = ap suc (count-stays vs)
count-stays (false ∷ vs) = count-stays vs

-- one more that ended as it is to is counted
pub counted : (verdicts : List Bool) (verdict : Bool) (matching new : ℕ) → verdict ≡ true → new ≡ matching + 1 → matching ≡ matching_of verdicts → new ≡ matching_of (verdicts ++ verdict ∷ [])
counted verdicts verdict matching new is next same =
    let one : matching + 1 ≡ suc matching = omega arith in
    next ∙ one ∙ ap suc same ∙ sym (count-more verdicts) ∙ ap (λ v. matching_of (verdicts ++ v ∷ [])) (sym is)

-- and one that did not is not
pub not-counted : (verdicts : List Bool) (verdict : Bool) (matching new : ℕ) → verdict ≡ false → new ≡ matching → matching ≡ matching_of verdicts → new ≡ matching_of (verdicts ++ verdict ∷ [])
not-counted verdicts verdict matching new is next same = next ∙ same ∙ sym (count-stays verdicts) ∙ ap (λ v. matching_of (verdicts ++ v ∷ [])) (sym is)

-- of the cases up to this one
module _ (cases : List Case) (index : ℕ) (default : Case) (below : index < length cases) (verdicts : List Bool) (verdict : Bool) (are : AllZip IsVerdict (take index cases) verdicts) where
  pub are-next : IsVerdict (get_or cases index default) verdict → AllZip IsVerdict (take (index + 1) cases) (verdicts ++ verdict ∷ [])
  are-next one = subst (λ (met : List Case). AllZip IsVerdict met (verdicts ++ verdict ∷ [])) (sym (take_more cases index default below)) (verdicts-more (take index cases) verdicts (get_or cases index default) verdict are one)

  pub lines-next : verdict_lines (take index cases) verdicts ++ line_of (verdict_text (get_or cases index default) verdict) ≡ verdict_lines (take (index + 1) cases) (verdicts ++ verdict ∷ [])
  lines-next = sym (ap (λ (met : List Case). verdict_lines met (verdicts ++ verdict ∷ [])) (take_more cases index default below) ∙ lines-more (take index cases) verdicts (get_or cases index default) verdict are)
