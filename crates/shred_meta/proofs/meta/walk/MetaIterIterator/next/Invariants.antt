use Rattle.std.proofs.Common.{◌≡◌, ◌+◌, length}
use Rattle.shred_meta.specs.MetaWalks.{left_to_read}
use Rattle.shred_meta.proofs.meta.walk.MetaIterIterator.next.Given as goal

abbrev pub invariant-loop : goal.invariant-loop
invariant-loop g l = let kind = g.V.ResourceValue.kind_of in record {
  world : l.self.world.now ≡ l.initial.self.world.now;
  left : length l.self.kinds.now + l.counter ≡ length l.initial.self.kinds.now;
  same : left_to_read kind l.self ≡ left_to_read kind l.initial.self;
}
