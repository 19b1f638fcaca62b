-- Two bundles, one after the other: what the parts of both show, move out and give back.
use Rattle.std.proofs.Common.{◌≡◌, Bool, Option, None, List, ◌++◌, inl, subst, sym, ◌∙◌, ap}
use Rattle.std.specs.Prelude.{Result, Ok}
use Rattle.shred_table.specs.declared.id.ResourceId.{ResourceId}
use Rattle.shred_world.specs.declared.world.WorldError.{WorldError}
use Rattle.shred_world.specs.declared.world.view.DataError.{DataError}
use Rattle.shred_world.specs.Bundles.{Part, after_parts, or_refusal, bundle_refusal, shown_parts, moved_parts, ids_of, AreOut, IsRefused, Setup, SetupBoth}
use Rattle.shred_world.specs.Grants.{Grant, Moved, given_back}
use Rattle.shred_world.proofs.Bundles.Parts.{after_append, refusal_append, shown_append, moved_append, given_append, ids_append, out_later, out_earlier, refused_second, taken_are_out, taken_as_before}

module _ {V : Type 0} where
  -- what the last one meets is the grant after the first
  pub passed_both : (g h : Grant V) (ps qs : List Part) → h ≡ after_parts g ps → bundle_refusal g ps ≡ None → bundle_refusal h qs ≡ None → bundle_refusal g (ps ++ qs) ≡ None
  passed_both g h ps qs taken first last = refusal_append g ps qs ∙ (λ i. or_refusal (first i) (bundle_refusal (sym taken i) qs)) ∙ last

  pub shown_both : (g h : Grant V) (ps qs : List Part) (os us : List (Option V)) → h ≡ after_parts g ps → os ≡ shown_parts g ps → us ≡ shown_parts h qs → os ++ us ≡ shown_parts g (ps ++ qs)
  shown_both g h ps qs os us taken first last = (λ i. first i ++ (last ∙ ap (λ k. shown_parts k qs) taken) i) ∙ sym (shown_append g ps qs)

  pub moved_both : (g h : Grant V) (ps qs : List Part) (ms ns : Moved V) → h ≡ after_parts g ps → ms ≡ moved_parts g ps → ns ≡ moved_parts h qs → ms ++ ns ≡ moved_parts g (ps ++ qs)
  moved_both g h ps qs ms ns taken first last = (λ i. first i ++ (last ∙ ap (λ k. moved_parts k qs) taken) i) ∙ sym (moved_append g ps qs)

  pub taken_both : (g h k : Grant V) (ps qs : List Part) → h ≡ after_parts g ps → k ≡ after_parts h qs → k ≡ after_parts g (ps ++ qs)
  taken_both g h k ps qs first last = last ∙ ap (λ m. after_parts m qs) first ∙ sym (after_append g ps qs)

  pub refused_last : (g h : Grant V) (ps qs : List Part) (e : DataError) → h ≡ after_parts g ps → bundle_refusal g ps ≡ None → IsRefused h qs e → IsRefused g (ps ++ qs) e
  refused_last g h ps qs e taken first last = refused_second g ps qs e first (subst (λ k. IsRefused k qs e) taken last)

  -- the last one is refused: what the first moved out is out, and once it is given back all is as before
  pub out_again : (g h k : Grant V) (ps : List Part) (ms : Moved V) → h ≡ after_parts g ps → ms ≡ moved_parts g ps → bundle_refusal g ps ≡ None → k ≡ h → AreOut k.out (ids_of ms)
  out_again g h k ps ms taken moved first same = taken_are_out g k ps ms (same ∙ taken) moved first

  pub given_again : (g h k l : Grant V) (ps : List Part) (ms : Moved V) → h ≡ after_parts g ps → ms ≡ moved_parts g ps → bundle_refusal g ps ≡ None → k ≡ h → l ≡ given_back k ms → l ≡ g
  given_again g h k l ps ms taken moved first same returned = returned ∙ taken_as_before g k ps ms (same ∙ taken) moved first

  -- two bundles are given back, the last one first
  pub out_last : (is_out : ResourceId → Bool) (ms ns : Moved V) → AreOut is_out (ids_of (ms ++ ns)) → AreOut is_out (ids_of ns)
  out_last is_out ms ns out = out_later is_out (ids_of ms) (ids_of ns) (subst (AreOut is_out) (ids_append ms ns) out)

  pub out_first : (g h : Grant V) (ms ns : Moved V) → h ≡ given_back g ns → AreOut g.out (ids_of (ms ++ ns)) → AreOut h.out (ids_of ms)
  out_first g h ms ns returned out = subst (λ (k : Grant V). AreOut k.out (ids_of ms)) (sym returned) (out_earlier g (ids_of ms) ns (subst (AreOut g.out) (ids_append ms ns) out))

  pub given_both : (g h k : Grant V) (ms ns : Moved V) → h ≡ given_back g ns → k ≡ given_back h ms → k ≡ given_back g (ms ++ ns)
  given_both g h k ms ns last first = first ∙ ap (λ m. given_back m ms) last ∙ sym (given_append g ms ns)

  -- the first setup did its work, and then the last
  pub setup_both : (First Last : Setup V) (before middle after : ResourceId → Option V) (done answer : Result (Unit {0}) WorldError) → done ≡ Ok tt → First before done middle → Last middle answer after → SetupBoth First Last before answer after
  setup_both First Last before middle after done answer is first last = inl (middle, subst (λ r. First before r middle) is first, last)
