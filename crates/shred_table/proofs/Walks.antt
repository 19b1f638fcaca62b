-- What the proofs by hand cite.
pub use Rattle.std.proofs.Common.{◌+◌, [], ◌∷◌, refl}
pub use Rattle.std.proofs.raw_atomic.Walks.{proved}
pub use base.Fml.{Fml, ftrue}
pub use mir.Syntax.{named}
pub use mir.Val.{Val, vstruct, vcons, vnil}
pub use types.Kit.{‵, raw, ◌⊛◌, ◌$◌, ◌∵◌, !, qed, done, move, keep, drop, use0, split, join, suffices}
pub use types.Run.{enter, no_more, and_then, returns}
pub use types.ByLocal.{alloc_all, pass_all, free_all, look_at, get, sets}
pub use types.Part.{agg}
pub use denote.Exit.{yes}
pub use denote.Ref.{shr_vals, shr_Tells}
pub use denote.Builtin.{RefOf}
pub use denote.RattleType.{owns}
pub use denote.Shadow.{makes_shadow}
pub use denote.Signature.{plain, types_at}
pub use denote.Steps.{nothing}
pub use denote.Triple.Entry.{alive, on_entry}
pub use denote.Triple.Walked.{Stays, walk_of, says, stay_dropped, Goes-dropped, ends_at}
