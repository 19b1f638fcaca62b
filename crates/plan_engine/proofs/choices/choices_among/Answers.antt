use Rattle.std.proofs.Common.{◌≡◌, ◌+◌, ◌-◌, arith, length, length-drop, take, get_or, List, [], ◌++◌, append_assoc, append-nil, refl, sym, ap, ◌∙◌, subst, drop, ℕ}
use Rattle.std.proofs.lemmas.List.{drop_all, take_all}
use Rattle.plan_engine.proofs.Picking.{picks-next}
use Rattle.plan_engine.specs.declared.choices.Choice.{Choice}
use Rattle.plan_engine.specs.Choices.{IsChoice, Picks, later_pairs, pairs_with}
use Rattle.plan_engine.proofs.choices.choices_among.Goals as goal

pub loop-place-preserved : goal.loop-place-preserved
loop-place-preserved c = λ behind picks.
    let entries = c.args.entries.now in
    let plan = c.args.plan.now in
    let before = c.loop-place.choices.items in
    let more = c.in_ok-more.more.items in
    let rest : take (length plan - (c.loop-place.place + 1)) (drop (c.loop-place.place + 1) plan) ≡ drop (c.loop-place.place + 1) plan = take_all (length plan - (c.loop-place.place + 1)) (drop (c.loop-place.place + 1) plan) (omega (arith, length-drop (c.loop-place.place + 1) plan)) in
    let with-rest = subst (λ (rest : List ℕ). Picks (IsChoice entries) (pairs_with (get_or plan c.loop-place.place 0) rest) more) rest c.in_ok-more.ensures in
    let on = c.loop-place.invariant (more ++ behind) (picks-next (IsChoice entries) plan c.loop-place.place more behind c.loop-place-test.true with-rest picks) in
    let is : before ++ (more ++ behind) ≡ c.append.new.self.items ++ behind = sym (append_assoc before more behind) ∙ ap (λ choices. choices ++ behind) (sym c.in_ok-append.ensures.items) in
    subst (λ (choices : List Choice). Picks (IsChoice entries) (later_pairs plan) choices) is on

pub returns : goal.returns
returns c =
    let entries = c.args.entries.now in
    let plan = c.args.plan.now in
    let none : drop c.loop-place.place plan ≡ [] = drop_all c.loop-place.place plan c.loop-place-test.false in
    let whole = c.loop-place.invariant [] (subst (λ (places : List ℕ). Picks (IsChoice entries) (later_pairs places) []) (sym none) refl) in
    subst (λ (choices : List Choice). Picks (IsChoice entries) (later_pairs plan) choices) (append-nil c.loop-place.choices.items) whole
