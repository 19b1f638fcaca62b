use Rattle.std.proofs.Common.{rules, ◌≡◌, refl, sym, ◌∙◌, subst, Option, Some, IsSome}
use Rattle.shred_hatch.proofs.Moves.{collects}
use Rattle.shred_hatch.proofs.Slots.{has_slot, in_slot, now_in_slot, one_sent}
use Rattle.shred_hatch.proofs.caller.collect.Goals as goal

pub load-requires : goal.load-requires
load-requires g c = (search rules, search rules, collects g.J.Job.ready g.J.Job.ran _ _ _ c.requires.seat.0 (c.loop.invariant.1 ∙ c.requires.seat.1))

pub exchange-requires : goal.exchange-requires
exchange-requires g c =
    let got = (c.load.ensures.2 c.requires.seat.0 (c.loop.invariant.1 ∙ c.requires.seat.1)).0 (search rules) in
    (search rules, (Some got.0, has_slot _ _ _ got.1))

pub unwrap-requires : goal.unwrap-requires
unwrap-requires g c =
    let got = (c.load.ensures.2 c.requires.seat.0 (c.loop.invariant.1 ∙ c.requires.seat.1)).0 (search rules) in
    let there : c.exchange.result ≡ Some got.0 = in_slot _ _ _ _ got.1 c.exchange.ensures.2 in
    subst (λ (z : Option g.row.J.Denot). IsSome z) (sym there) refl

pub returns-then-load-eq0-clause-seat : goal.returns-then-load-eq0-clause-seat
returns-then-load-eq0-clause-seat g c =
    let got = (c.load.ensures.2 c.requires.seat.0 (c.loop.invariant.1 ∙ c.requires.seat.1)).0 (search rules) in
    now_in_slot _ _ _ _ _ got.1 c.exchange.ensures.3

pub returns-then-load-eq0-clause-ran : goal.returns-then-load-eq0-clause-ran
returns-then-load-eq0-clause-ran g c = λ x is.
    let got = (c.load.ensures.2 c.requires.seat.0 (c.loop.invariant.1 ∙ c.requires.seat.1)).0 (search rules) in
    let there : Some c.unwrap.result ≡ Some got.0 = sym c.unwrap.ensures ∙ in_slot _ _ _ _ got.1 c.exchange.ensures.2 in
    let back : got.0 ≡ c.unwrap.result = cc in
    let same : c.requires.seat.0 ≡ x = one_sent _ _ _ c.requires.seat.1 is in
    subst (λ (v : g.row.J.Denot). g.J.Job.ran v c.unwrap.result) same (subst (λ (v : g.row.J.Denot). g.J.Job.ran c.requires.seat.0 v) back got.2)

pub loop-preserved : goal.loop-preserved
loop-preserved g c = (search rules, (c.load.ensures.2 c.requires.seat.0 (c.loop.invariant.1 ∙ c.requires.seat.1)).1 (search rules) ∙ sym c.requires.seat.1)
