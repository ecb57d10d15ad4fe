-- A cut of a host's frame, as an act of the link.
use Rattle.std.proofs.Common.{◌≡◌, ℕ, List, Result, Ok, Err, OnOk, OnErr, refl, sym, ap, ◌∙◌}
use Rattle.sim_link.specs.Cuts.{first_fragment, second_fragment}
use Rattle.sim_link.specs.Port.{added}
use Rattle.lan.specs.Worlds.AtLink.Kinds.{Kind}
use Rattle.lan.specs.Worlds.AtLink.Kinds.Kind.{OfLink}
use Rattle.lan.specs.Worlds.AtLink.Kinds.LinkAct.{Cuts}
use Rattle.lan.specs.declared.at_link.history.event.Side.{Side}
use Rattle.lan.specs.declared.at_link.history.event.Side.TheVariants.{A, B}
use Rattle.lan.specs.Worlds.AtLink.Linking.{frame_at, linked_by}
use Rattle.lan.specs.Worlds.AtLink.Origins.{medium_of, cut}
use Rattle.lan.specs.Worlds.AtLink.Node.{NodeValue, Nodes, with_link}

abbrev pub IsCut : NodeValue → ℕ → ℕ → NodeValue → Type 0
IsCut s k at s' = s' ≡ with_link s (added (added s.link (first_fragment (medium_of s) (frame_at s k) at)) (second_fragment (medium_of s) (frame_at s k) at))

module _ {X E : Type 0} where
  pub still : {V : Type 0} (r : Result X E) (v : V) → OnErr r (v ≡ v)
  still (Ok x) v = tt
  still (Err e) v = refl

  pub cut_a : (r : Result X E) (a a' b : NodeValue) (k at : ℕ) (side : Side) → side ≡ A → OnOk r (IsCut a k at a') →
      OnOk r (record { a = a'; b = b } ≡ cut (record { a = a; b = b }) side k at)
  cut_a (Ok x) a a' b k at side on is =
      ap (λ (s : NodeValue). let w : Nodes = record { a = s; b = b } in w) is ∙ ap (λ (s : Side). cut (record { a = a; b = b }) s k at) (sym on)
  cut_a (Err e) a a' b k at side on is = tt

  pub cut_b : (r : Result X E) (a b b' : NodeValue) (k at : ℕ) (side : Side) → side ≡ B → OnOk r (IsCut b k at b') →
      OnOk r (record { a = a; b = b' } ≡ cut (record { a = a; b = b }) side k at)
  cut_b (Ok x) a b b' k at side on is =
      ap (λ (s : NodeValue). let w : Nodes = record { a = a; b = s } in w) is ∙ ap (λ (s : Side). cut (record { a = a; b = b }) s k at) (sym on)
  cut_b (Err e) a b b' k at side on is = tt

  pub with_fragments : (r : Result X E) (s s' : NodeValue) (one x two y : List ℕ) → one ≡ x → two ≡ y →
      OnOk r (s' ≡ with_link s (added (added s.link one) two)) → OnOk r (s' ≡ with_link s (added (added s.link x) y))
  with_fragments (Ok ok) s s' one x two y first second is =
      is ∙ ap (λ (f : List ℕ). with_link s (added (added s.link f) two)) first ∙ ap (λ (g : List ℕ). with_link s (added (added s.link x) g)) second
  with_fragments (Err e) s s' one x two y first second is = tt

  pub cut_linked : (r : Result X E) (hosts new : Nodes) (from : Side) (k at : ℕ) (kind : Kind) → kind ≡ OfLink (Cuts from k at) →
      OnOk r (new ≡ cut hosts from k at) → OnOk r (new ≡ linked_by hosts kind)
  cut_linked (Ok x) hosts new from k at kind is cuts = cuts ∙ ap (linked_by hosts) (sym is)
  cut_linked (Err e) hosts new from k at kind is cuts = tt
