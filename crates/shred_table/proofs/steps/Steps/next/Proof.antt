use Rattle.shred_table.proofs.Walks.{◌+◌, [], ◌∷◌, refl, proved, Fml, ftrue, named, Val, vstruct, vcons, vnil, ‵, raw, ◌⊛◌, ◌$◌, ◌∵◌, !, qed, done, move, keep, use0, split, join, suffices, enter, no_more, and_then, returns, alloc_all, pass_all, free_all, look_at, get, sets, agg, yes, RefOf, shr_vals, shr_Tells, makes_shadow, alive, owns, types_at, plain, nothing, Stays, walk_of, says, stay_dropped, Goes-dropped, ends_at}
use Rattle.shred_table.specs.contracts.steps.Steps.next as f
use Rattle.shred_table.specs.contracts.steps.Steps.{the_row as R}
use Rattle.shred_table.proofs.steps.Steps.next.Statement.{statement}
use Rattle.shred_table.proofs.steps.Steps.next.Code as code

pub next_spec : {M : Type 1} → statement M
next_spec 𝓤 𝓛 𝓜 𝓡 wired =
    let arg = RefOf (0 ∷ []) tt (plain (λ _. R)) (λ _. tt) in let stayed : Stays f.ended.signature.params f.ended.kept = (stay_dropped arg yes, tt) in
    let c = f.clauses 𝓛 𝓜.mem 𝓡.returns in let W = walk_of 𝓛 f.ended stayed c in
    proved 𝓛 f.ended stayed c 𝓜 𝓡 (Goes-dropped 𝓛 1 arg yes (λ κs x w. refl), tt)
    f.Key.name code.function (code.unfolded 𝓤 𝓛.H 𝓜 𝓡 wired)
    (λ κs. (shr_vals, tt)) (λ κs. (shr_Tells (named 0) κs.0 R, tt)) (λ κs qs bounds a _ are.
    let made : R.Denot = record { marker = record {}; count = a.0.now.count + 1 } in
    let v : Val = vstruct (vcons (vstruct vnil) vnil) in
    let F : Fml = R.own_val made (v ∷ []) in
    let y : W.Ghost = ((κs, qs, bounds, a, (shr_vals a.0, tt)), tt) in
    qed 𝓛 ((raw (alive 𝓛 f.signature κs qs) ⊛ ‵ (owns (types_at f.signature.params κs) a y.0.4)) ∷ ‵ ftrue ∷ []) ∵ split ! $ keep ! (0 ∷ []) $
    enter ! _ _ _ _ _ $ alloc_all ! (λ l. pass_all ! refl ((tt, tt), tt) $
    sets ! (agg ! (no_more !)) refl (tt, tt) $ sets ! (agg ! (and_then ! (get ! refl) (no_more !))) refl (tt, (tt, tt)) $
    returns ! (look_at ! 0 refl) $ free_all ! refl $
    suffices ! _ (ends_at 𝓛 f.ended stayed c y v made (tt, tt) (tt, tt)) $ says ! refl $
    use0 𝓛 (‵ F) (makes_shadow 𝓛 F ((λ vss. (tt, ((λ uss. (tt, tt)), tt))), tt) (((vstruct vnil ∷ [], tt), (refl, ((tt, (refl, tt)), tt))), tt)) $
    nothing ! $ nothing ! $ join ! $ move ! (2 ∷ 0 ∷ 1 ∷ []) $ done !))
