use Rattle.std.proofs.Common.{◌≡◌, ◌<◌, length, take, arith, ap, subst, ℕ, List, All}
use Rattle.std.proofs.lemmas.List.{take_all}
use Rattle.std.proofs.lemmas.List.Elements.{All-more}
use Rattle.shred_model.specs.Access.{Declares}
use Rattle.plan_engine.specs.Entries.{access_of}
use Rattle.plan_engine.proofs.Declaring.{written-by_none}
use Rattle.plan_engine.proofs.declaration.Declaration.writes_of.Goals as goal

pub loop-place-preserved : goal.loop-place-preserved
loop-place-preserved c =
    let is = c.deref-place-items.ensures.value in
    let told = rw is at c.declares.ensures in
    let within : c.loop-place.place-index < length c.args.self.now.writes.items = omega (arith, ap length is) in
    All-more (λ place. ¬ Declares (access_of c.args.other.now) place) c.args.self.now.writes.items c.loop-place.place-index 0 within c.loop-place.invariant
    (λ declared. let yes = told.1 declared in let no = c.if-declares.false in cc)

pub returns : goal.returns
returns c =
    let whole : take c.loop-place.place-index c.args.self.now.writes.items ≡ c.args.self.now.writes.items = take_all c.loop-place.place-index c.args.self.now.writes.items (omega (arith, ap length c.deref-place-items.ensures.value)) in
    let none = subst (λ (places : List ℕ). All (λ place. ¬ Declares (access_of c.args.other.now) place) places) whole c.loop-place.invariant in
    (λ yes. absurd (cc), λ writes. absurd (written-by_none (access_of c.args.self.now) (access_of c.args.other.now) none writes))
