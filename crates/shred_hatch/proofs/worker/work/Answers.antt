use Rattle.std.proofs.Common.{rules, ◌≡◌, sym, ◌∙◌, subst, Some}
use Rattle.shred_hatch.proofs.Moves.{finishes}
use Rattle.shred_hatch.proofs.Slots.{has_slot, in_slot, now_in_slot}
use Rattle.shred_hatch.proofs.worker.work.Goals as goal

pub exchange-requires : goal.exchange-requires
exchange-requires g c = (search rules, (Some c.requires.seat.0, has_slot _ _ _ c.requires.seat.1))

pub store-requires : goal.store-requires
store-requires g c =
    let x = c.requires.seat.0 in
    let was : c.exchange.result ≡ Some x = in_slot _ _ _ _ c.requires.seat.1 c.exchange.ensures.2 in
    let got : Some c.unwrap-job.result ≡ Some x = sym c.unwrap-job.ensures ∙ was in
    let same : c.unwrap-job.result ≡ x = cc in
    let out = now_in_slot _ _ _ _ _ c.requires.seat.1 c.exchange.ensures.3 in
    let in_again = now_in_slot _ _ _ _ _ out c.exchange-2.ensures.3 in
    (search rules, search rules, finishes g.J.Job.ready g.J.Job.ran _ _ _ x c.run_once-done.result in_again (subst (λ v. g.J.Job.ran v c.run_once-done.result) same c.run_once-done.ensures))
