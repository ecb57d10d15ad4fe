-- What a list of touches makes of a port.
use Rattle.std.proofs.Common.{◌≡◌, ℕ, ◌+◌, ◌-◌, ℤ, true, false, List, [], ◌∷◌, ◌++◌, length, Some, None, refl, sym, ap, ◌∙◌, append_assoc, append-nil, arith}
use Rattle.iface_egress.specs.Departure.{Departure}
use Rattle.iface_egress.specs.IsTransmitted.{frame_of}
use Rattle.interface.specs.Touches.{Touch, Looks, Leave, Sends, departed, Does, DoesAll}
use Rattle.iface_tables.specs.Inner.{InnerValue}
use Rattle.lan.specs.Worlds.AtLink.Port.{PortValue, PortMove}
use Rattle.lan.specs.Worlds.Hosts.Machine.{frames_of}

-- the frames that were found, the oldest first
abbrev pub looked : List Touch → List (List ℕ)
looked [] = []
looked (Looks None ∷ ts) = looked ts
looked (Looks (Some frame) ∷ ts) = looked ts ++ frame ∷ []
looked (Leave given ∷ ts) = looked ts
looked (Sends d taken ∷ ts) = looked ts

module _ (i : InnerValue) where
  -- what was found waited first, and what was sent stands last
  pub record IsPath (ts : List Touch) (p p' : PortValue) : Type 0 where
    pub waiting : p.link.waiting ≡ looked ts ++ p'.link.waiting
    pub sent : p'.link.sent ≡ p.link.sent ++ frames_of i (departed ts)
    pub room : p'.link.room ≡ p.link.room - length (departed ts)
    pub capabilities : p'.link.capabilities ≡ p.link.capabilities

  abbrev By : ℤ → Touch → PortValue → PortValue → Type 0
  By t x p p' = Does PortMove t i.hardware i.checksums x p p'

  same_path : (ts : List Touch) (p q : PortValue) → q ≡ p → IsPath ts p p → IsPath ts p q
  same_path ts p q is path = record {
    waiting = path.waiting ∙ ap (λ (x : PortValue). looked ts ++ x.link.waiting) (sym is);
    sent = ap (λ (x : PortValue). x.link.sent) is ∙ path.sent;
    room = ap (λ (x : PortValue). x.link.room) is ∙ path.room;
    capabilities = ap (λ (x : PortValue). x.link.capabilities) is ∙ path.capabilities;
  }

  -- a touch that finds and sends nothing
  still : (ts us : List Touch) (p q r : PortValue) → r.link.waiting ≡ q.link.waiting → r.link.sent ≡ q.link.sent → r.link.room ≡ q.link.room →
      r.link.capabilities ≡ q.link.capabilities
      → looked us ≡ looked ts → departed us ≡ departed ts → IsPath ts p q → IsPath us p r
  still ts us p q r waiting sent room capabilities looks departs path = record {
    waiting = path.waiting ∙ ap (λ (xs : List (List ℕ)). xs ++ q.link.waiting) (sym looks) ∙ ap (λ (xs : List (List ℕ)). looked us ++ xs) (sym waiting);
    sent = sent ∙ path.sent ∙ ap (λ (ds : List Departure). p.link.sent ++ frames_of i ds) (sym departs);
    room = room ∙ path.room ∙ ap (λ (ds : List Departure). p.link.room - length ds) (sym departs);
    capabilities = capabilities ∙ path.capabilities;
  }

  one_less : (a n : ℕ) → (a - n) - 1 ≡ a - (n + 1)
  one_less a n = omega arith

  one_more : (ds : List Departure) (d : Departure) → length ds + 1 ≡ length (d ∷ ds)
  one_more ds d = omega arith

  further : (t : ℤ) (x : Touch) (ts : List Touch) (p q r : PortValue) → IsPath ts p q → By t x q r → IsPath (x ∷ ts) p r
  further t (Looks None) ts p q r path step =
      let same = step.0 in
      still ts (Looks None ∷ ts) p q r (ap (λ (x : PortValue). x.link.waiting) same) (ap (λ (x : PortValue). x.link.sent) same)
      (ap (λ (x : PortValue). x.link.room) same)
      (ap (λ (x : PortValue). x.link.capabilities) same) refl refl path
  further t (Looks (Some frame)) ts p q r path step =
      let same = step.1 in
      record {
        waiting =
            path.waiting ∙ ap (λ (x : PortValue). looked ts ++ x.link.waiting) same ∙ sym (append_assoc (looked ts) (frame ∷ []) r.link.waiting);
        sent = sym (ap (λ (x : PortValue). x.link.sent) same) ∙ path.sent;
        room = sym (ap (λ (x : PortValue). x.link.room) same) ∙ path.room;
        capabilities = sym (ap (λ (x : PortValue). x.link.capabilities) same) ∙ path.capabilities;
      }
  further t (Leave given) ts p q r path step =
      let same = step.0 in
      still ts (Leave given ∷ ts) p q r (ap (λ (x : PortValue). x.link.waiting) same) (ap (λ (x : PortValue). x.link.sent) same)
      (ap (λ (x : PortValue). x.link.room) same)
      (ap (λ (x : PortValue). x.link.capabilities) same) refl refl path
  further t (Sends d true) ts p q r path step =
      let same = step.0 in
      record {
        waiting = path.waiting ∙ ap (λ (xs : List (List ℕ)). looked ts ++ xs) (sym (ap (λ (x : PortValue). x.link.waiting) same));
        sent =
            ap (λ (x : PortValue). x.link.sent) same ∙ ap (λ (xs : List (List ℕ)). xs ++ frame_of i d ∷ []) path.sent
            ∙ append_assoc p.link.sent (frames_of i (departed ts)) (frame_of i d ∷ []);
        room =
            ap (λ (x : PortValue). x.link.room) same ∙ ap (λ (n : ℕ). n - 1) path.room ∙ one_less p.link.room (length (departed ts))
            ∙ ap (λ (n : ℕ). p.link.room - n) (one_more (departed ts) d);
        capabilities = ap (λ (x : PortValue). x.link.capabilities) same ∙ path.capabilities;
      }
  further t (Sends d false) ts p q r path step =
      let same = step.0 in
      still ts (Sends d false ∷ ts) p q r (ap (λ (x : PortValue). x.link.waiting) same) (ap (λ (x : PortValue). x.link.sent) same)
      (ap (λ (x : PortValue). x.link.room) same)
      (ap (λ (x : PortValue). x.link.capabilities) same) refl refl path

  no_less : (a : ℕ) → a ≡ a - 0
  no_less a = omega arith

  pub path_of : (t : ℤ) (ts : List Touch) (p p' : PortValue) → DoesAll PortMove t i.hardware i.checksums ts p p' → IsPath ts p p'
  path_of t [] p p' is =
      same_path [] p p' is (record { waiting = refl; sent = sym (append-nil p.link.sent); room = no_less p.link.room; capabilities = refl })
  path_of t (x ∷ ts) p p' steps = further t x ts p steps.0 p' (path_of t ts p steps.0 steps.1) steps.2
