use Rattle.std.proofs.Common.{◌≡◌, ◌&&◌, true, false, is_ok, ap, sym, ◌∙◌}
use Rattle.std.specs.Prelude.{slice_index_or}
use Rattle.shred.specs.Dispatchers.{dispatcher_locals}
use Rattle.example_systems.proofs.Adds.{allow-one-end, done-answer, now-adds}
use Rattle.example_systems.proofs.same_end.both_added.Goals as goal

pub returns-then-is_ok-clause-ran : goal.returns-then-is_ok-clause-ran
returns-then-is_ok-clause-ran g c =
    let done : is_ok c.dispatch_alike-one.result.0 ≡ true = sym c.is_ok.ensures.value ∙ c.if-is_ok.true in
    record {
      answer = c.dispatch_alike-one.result.0;
      its = c.dispatch_alike-one.result.1;
      ran = c.dispatch_alike-one.ensures.ran;
      other_ran = c.dispatch_alike-one.ensures.other_ran;
      told = c.is_ok-then-is_ok.ensures.value ∙ sym (ap (λ b. b && is_ok c.dispatch_alike-one.result.1) done);
    }

pub returns-else-is_ok-clause-ran : goal.returns-else-is_ok-clause-ran
returns-else-is_ok-clause-ran g c =
    let refused : is_ok c.dispatch_alike-one.result.0 ≡ false = sym c.is_ok.ensures.value ∙ c.if-is_ok.false in
    record {
      answer = c.dispatch_alike-one.result.0;
      its = c.dispatch_alike-one.result.1;
      ran = c.dispatch_alike-one.ensures.ran;
      other_ran = c.dispatch_alike-one.ensures.other_ran;
      told = c.if-is_ok.false ∙ sym (ap (λ b. b && is_ok c.dispatch_alike-one.result.1) refused);
    }

pub returns-then-is_ok-clause-alike : goal.returns-then-is_ok-clause-alike
returns-then-is_ok-clause-alike g c both same =
    let ended = c.dispatch_alike-one.ensures.alike_done same allow-one-end (λ k d below. now-adds (slice_index_or (dispatcher_locals c.args.first.now) k d))
    (done-answer c.dispatch_alike-one.result.0 (sym c.is_ok.ensures.value ∙ c.if-is_ok.true)) (done-answer c.dispatch_alike-one.result.1 (sym c.is_ok-then-is_ok.ensures.value ∙ both)) in
    ended.same_whole
