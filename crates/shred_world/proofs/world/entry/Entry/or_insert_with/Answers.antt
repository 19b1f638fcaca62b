use Rattle.std.proofs.Common.{Some, refl, ◌∙◌}
use Rattle.std.specs.Prelude.{IfOk, Result, Ok, Err}
use Rattle.shred_table.specs.Id.{id_of}
use Rattle.shred_world.specs.Entries.{entry_world}
use Rattle.shred_world.specs.Worlds.{world_held}
use Rattle.shred_world.proofs.Views.Filled.{filled-some, filled-with, kept-or-made, never-missing, never-refused}
use Rattle.shred_world.proofs.world.entry.Entry.or_insert_with.Goals as goal

follows_ok : {A E : Type 0} {P Q : A → Type 0} (r : Result A E) → ((x : A) → P x → Q x) → IfOk r P → IfOk r Q
follows_ok (Ok x) f p = f x p
follows_ok (Err e) f p = tt

pub returns : goal.returns
returns g c =
    let kind = g.V.ResourceValue.kind_of in
    let wrapped = g.R.Resource.wrapped in
    let id = id_of g.R.Resource.KIND 0 in
    let before = world_held kind (entry_world c.args.self) in
    let after = world_held kind c.fill.new.self in
    let filled = rw c.new.ensures at c.in_default.ensures.ok in
    let some = filled-some wrapped _ id before after filled in (
      (refl, (λ w ok q. c.fetch_mut.follows.holds w ok q ∙ filled-with wrapped _ id before after filled (Some (wrapped w)) q), never-missing _ _ c.fetch_mut.result (after id) some c.fetch_mut.ensures.missing),
      record {
        shown = follows_ok c.fetch_mut.result (λ r there. kept-or-made wrapped _ id before after g.met.R.Resource.wrapped_once filled r.now there) c.fetch_mut.ensures.shown;
        out_of_memory = never-refused _ _ c.fetch_mut.result (after id) some c.fetch_mut.ensures.missing;
        written = tt;
      },
    )
