-- A segment that a socket accepts comes from its peer, or it is a reset.
use Rattle.std.proofs.Common.{◌≡◌, ◌≢◌, ◌⊎◌, inl, inr, ℕ, ◌==◌, ◌&&◌, ◌||◌, Bool, true, false, List, [], ◌∷◌, Option, Some, None, is_some, refl, sym, ap, ◌∙◌}
use Rattle.std.proofs.Common.{subst, eq-eqb}
use Rattle.std.proofs.lemmas.Bool.{eqb-true, and_parts}
use Rattle.ip_wire.specs.Ip.{source_of, destination_of}
use Rattle.ip_wire.specs.IpRepr.{IpRepr}
use Rattle.ip_wire.specs.TcpHeader.{TcpHeader}
use Rattle.tcp_refinement.specs.Segment.Control.{Rst}
use Rattle.tcp_refinement.specs.Endpoints.{IsFor, HasPorts, IsToward, CameBetween}
use Rattle.tcp_refinement.specs.Host.{Made, made_of, source_port, destination_port}
use Rattle.tcp_refinement.specs.Tie.{control_of, segment_of}
use Rattle.tcp_block.specs.FourTuple.{FourTuple}
use Rattle.tcp_block.specs.Controls.{is_rst}
use Rattle.tcp_block.specs.States.{is_listening}
use Rattle.tcp_block.specs.Value.{TcpValue}
use Rattle.ip_wire.specs.TcpControl.{TcpControl}
use Rattle.ip_wire.specs.TcpControl.TheVariants as Bits
use Rattle.lan.specs.declared.at_link.history.event.Side.{Side}
use Rattle.lan.specs.declared.at_link.history.record.Opening.{Opening}
use Rattle.lan.specs.Worlds.AtLink.Kinds.{other}
use Rattle.lan.specs.Worlds.AtLink.History.{Entry, opening}
use Rattle.lan.specs.Worlds.AtLink.PeerSides.{names_port, are_paired, ArePartners}
use Rattle.lan.specs.Worlds.AtLink.Tables.{Slots, AreAllowed}
use Rattle.lan.proofs.Worlds.AtLink.CallLemmas.{other_twice}
use Rattle.lan.proofs.Worlds.AtLink.PeerSideLemmas.{opened_apart, AreApart, one_peer_side}
use Rattle.lan.proofs.Worlds.AtLink.StreamInvariant.{ports_of, ConnectsTo, SpeaksWith, TcpOk, WasSent, SegmentOk}

-- a segment that comes
abbrev pub come : IpRepr → TcpHeader → List ℕ → Made
come ip header bytes = made_of (source_of ip) (destination_of ip) header bytes

pub same_opening : (o p : Opening) → Some o ≡ Some p → o ≡ p
same_opening o p e = cc

same_port : (m n : ℕ) → Some m ≡ Some n → m ≡ n
same_port m n e = cc

-- a segment that isn't a reset
not_rst : (control : TcpControl) (header : TcpHeader) (bytes : List ℕ) → header.control ≡ control → is_rst control ≡ false →
    (segment_of header bytes).control ≢ Rst
not_rst Bits.Rst header bytes e n rst = absurd (cc)
not_rst control header bytes e n rst = absurd (let clash : control_of control ≡ Rst = sym (ap control_of e) ∙ rst in cc)

paired_by : (o p : Opening) (r : ℕ) → o.remote ≡ Some r → r ≡ p.local → names_port p.remote o.local ≡ true → are_paired o p ≡ true
paired_by o p r e local named =
    ap (λ (x : Option ℕ). (is_some x || is_some p.remote) && (names_port x p.local && names_port p.remote o.local)) e
    ∙ ap (λ (t : Bool). (r == p.local) && t) named ∙ ap (λ (t : Bool). t && true) (eq-eqb r p.local local)

names_to : (h : List Entry) (side : Side) (p : Opening) (port : ℕ) → SpeaksWith h side p port → names_port p.remote port ≡ true
names_to h side p port (inl to) = ap (λ (x : Option ℕ). names_port x port) to ∙ eq-eqb port port refl
names_to h side p port (inr none) = ap (λ (x : Option ℕ). names_port x port) none.0

listens_paired : (o p : Opening) → o.remote ≡ None → p.remote ≡ Some o.local → are_paired o p ≡ true
listens_paired o p none e =
    ap (λ (x : Option ℕ). (is_some x || is_some p.remote) && (names_port x p.local && names_port p.remote o.local)) none
    ∙ ap (λ (y : Option ℕ). is_some y && names_port y o.local) e ∙ eq-eqb o.local o.local refl

module _ (h : List Entry) (side : Side) (i : ℕ) (o : Opening) (opened : opening h side i ≡ Some o) where
  -- a socket that calls this one's port is its peer
  pub caller_is_peer_side : (port : ℕ) → o.remote ≡ None → (c : ConnectsTo h (other side) port o.local) → ArePartners h side i c.slot
  caller_is_peer_side port none c =
      record { one = o; another = c.by; opened = opened; peer_side_opened = c.opened; paired = listens_paired o c.by none c.to }

  -- the peer's local port is the one that it speaks with
  pub peer_side_port : (slots : Slots) → AreAllowed slots h → (j port : ℕ) → (a : ArePartners h side i j) → SpeaksWith h side o port → a.another.local ≡ port
  peer_side_port slots allowed j port a (inl to) = named a.another.local (same_opening a.one o (sym a.opened ∙ opened)) where
    named : (local : ℕ) → a.one ≡ o → a.another.local ≡ port
    named local same = by a.another.remote a.paired where
      remote : a.one.remote ≡ Some port
      remote = ap (λ (o : Opening). o.remote) same ∙ to

      by : (r : Option ℕ) → are_paired a.one a.another ≡ true → a.another.local ≡ port
      by r paired =
          let flat : ((port == a.another.local) && names_port a.another.remote a.one.local) ≡ true =
          sym (ap (λ (x : Option ℕ). (is_some x || is_some a.another.remote) && (names_port x a.another.local && names_port a.another.remote a.one.local))
          remote) ∙ paired in
          sym (eqb-true port a.another.local (and_parts (port == a.another.local) (names_port a.another.remote a.one.local) flat).0)
  peer_side_port slots allowed j port a (inr calls) =
      let b = caller_is_peer_side port calls.0 calls.1 in
      let one : j ≡ calls.1.slot = one_peer_side slots h side i j calls.1.slot allowed a b in
      let same = same_opening a.another calls.1.by (sym a.peer_side_opened ∙ ap (λ (j : ℕ). opening h (other side) j) one ∙ calls.1.opened) in
      ap (λ (o : Opening). o.local) same ∙ calls.1.from

  -- the sender of a segment to this port is the peer
  pub sender_is_peer_side :
      (x : Made) → destination_port x ≡ o.local → SpeaksWith h side o (source_port x) → (s : WasSent h (other side) x) → (j : ℕ) × ArePartners h side i j
  sender_is_peer_side x to (inr calls) s = (calls.1.slot, caller_is_peer_side (source_port x) calls.0 calls.1)
  sender_is_peer_side x to (inl remote) s = (
    s.slot,
    record {
      one = o;
      another = s.by;
      opened = opened;
      peer_side_opened = s.opened;
      paired = paired_by o s.by (source_port x) remote (sym s.from) (names_to h (other side) s.by o.local (subst (SpeaksWith h (other side) s.by) to s.to));
    },
  )

  -- what an accepted segment tells
  pub accepted_speaks :
      (slots : Slots) → AreAllowed slots h → (made : List Made) (v : TcpValue) (ip : IpRepr) (header : TcpHeader) (bytes : List ℕ)
      → TcpOk h side made i v → IsFor v.tcb ip header → SegmentOk h (other side) (come ip header bytes) → (header.dst_port ≡ o.local) ×
      SpeaksWith h side o header.src_port
  accepted_speaks slots allowed made v ip header bytes k is_for ok = by (is_listening v.tcb.state) refl ok where
    has : HasPorts (ports_of o) v.tcb
    has = k.ports o opened

    called : o.remote ≡ None → header.dst_port ≡ o.local → WasSent h (other side) (come ip header bytes) → SpeaksWith h side o header.src_port
    called none to s = by_sender s.to where
      by_sender : SpeaksWith h (other side) s.by header.dst_port → SpeaksWith h side o header.src_port
      by_sender (inl remote) = inr (none, record { slot = s.slot; by = s.by; opened = s.opened; from = s.from; to = remote ∙ ap (λ (n : ℕ). Some n) to })
      by_sender (inr calls) = absurd
          (clash (opened_apart slots h side calls.1.slot i calls.1.by o allowed
          (subst (λ (t : Side). opening h t calls.1.slot ≡ Some calls.1.by) (other_twice side) calls.1.opened) opened)) where
            clash : (calls.1.slot ≡ i) ⊎ AreApart calls.1.by o → ⊥
            clash (inl same) =
                let one = same_opening calls.1.by o (sym (subst (λ (t : Side). opening h t calls.1.slot ≡ Some calls.1.by) (other_twice side) calls.1.opened) ∙
                ap (λ (i : ℕ). opening h side i) same ∙ opened) in
                let none' : Some s.by.local ≡ None = sym calls.1.to ∙ ap (λ (o : Opening). o.remote) one ∙ none in
                cc
            clash (inr apart) = apart.local (calls.1.from ∙ to)

    by : (t : Bool) → is_listening v.tcb.state ≡ t → SegmentOk h (other side) (come ip header bytes) → (header.dst_port ≡ o.local) ×
        SpeaksWith h side o header.src_port
    by true e (inl rst) = absurd (not_rst header.control header bytes refl (is_for.listening e).2 rst)
    by true e (inr s) =
        let to : header.dst_port ≡ o.local = (is_for.listening e).0 ∙ (has.listening e).0 in
        (to, called (has.listening e).1 to s)
    by false e ok =
        let c = is_for.connected e in
        let came = c.2 in
        let ends = has.pair c.0 c.1 in
        (came.destination_port ∙ ends.0, subst (SpeaksWith h side o) (sym came.source_port) (k.heard o opened c.0 c.1))
