use Rattle.std.proofs.Common.{rules}
use Rattle.std.proofs.lemmas.List.Sorted.{answers_always}
use Rattle.shredstore.proofs.Place.{searched}
use Rattle.shredstore.proofs.rows.Rows.place.Goals as goal

-- the closure gives a row's entity, and the slice is the rows
pub returns : goal.returns
returns c =
    let facts = c.binary_search_by_key.ensures in
    let by_entity = facts.position (λ row. row.0) (answers_always _ _ _ (λ f a r g called. search rules)) in
    rw (← c.self.view_is, ← c.deref.ensures.value) (searched _ (rw c.deref.ensures.value c.self.invariant) c.args.entity _ facts.bound by_entity)
