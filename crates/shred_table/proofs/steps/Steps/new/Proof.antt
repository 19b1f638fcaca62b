use Rattle.shred_table.proofs.Walks.{[], ◌∷◌, refl, proved, Fml, ftrue, Val, vstruct, vcons, vnil, ‵, raw, ◌$◌, ◌∵◌, !, qed, done, drop, use0, suffices, enter, no_more, and_then, returns, alloc_all, pass_all, free_all, look_at, get, sets, agg, makes_shadow, nothing, on_entry, walk_of, says, ends_at}
use Rattle.shred_table.specs.contracts.steps.Steps.new as f
use Rattle.shred_table.specs.contracts.steps.Steps.{the_row as R}
use Rattle.shred_table.proofs.steps.Steps.new.Statement.{statement}
use Rattle.shred_table.proofs.steps.Steps.new.Code as code

pub new_spec : {M : Type 1} → statement M
new_spec 𝓤 𝓛 𝓜 𝓡 wired =
    let c = f.clauses 𝓛 𝓜.mem 𝓡.returns in let W = walk_of 𝓛 f.ended tt c in
    proved 𝓛 f.ended tt c 𝓜 𝓡 tt
    f.Key.name code.function (code.unfolded 𝓤 𝓛.H 𝓜 𝓡 wired)
    (λ κs. tt) (λ κs. tt) (λ κs qs bounds a _ are.
    let made : R.Denot = record { marker = record {}; count = 0 } in
    let v : Val = vstruct (vcons (vstruct vnil) vnil) in
    let F : Fml = R.own_val made (v ∷ []) in
    let y : W.Ghost = ((κs, qs, bounds, a, tt), tt) in
    qed 𝓛 (raw (on_entry 𝓛 f.signature κs qs a y.0.4) ∷ ‵ ftrue ∷ []) ∵ drop ! $ drop ! $
    enter ! _ _ _ _ _ $ alloc_all ! (λ l. pass_all ! refl tt $
    sets ! (agg ! (no_more !)) refl (tt, tt) $ sets ! (agg ! (and_then ! (get ! refl) (no_more !))) refl (tt, (tt, tt)) $
    returns ! (look_at ! 0 refl) $ free_all ! refl $
    suffices ! _ (ends_at 𝓛 f.ended tt c y v made tt tt) $ says ! refl $
    use0 𝓛 (‵ F) (makes_shadow 𝓛 F ((λ vss. (tt, ((λ uss. (tt, tt)), tt))), tt) (((vstruct vnil ∷ [], tt), (refl, ((tt, (refl, tt)), tt))), tt)) $
    nothing ! $ nothing ! $ done !))
