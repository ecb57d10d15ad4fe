-- A call of one TCP socket: what it leaves, and the step of an opening.
use Rattle.std.proofs.Common.{◌≡◌, ◌≢◌, ◌⊎◌, inl, inr, ℕ, ◌||◌, Bool, true, false, List, [], ◌∷◌, ◌++◌, Option, Some, None, refl, sym, ap, ◌∙◌, subst}
use Rattle.std.proofs.Common.{append-nil}
use Rattle.std.proofs.lemmas.Bool.{ne_eqb}
use Rattle.std.specs.List.{AllByRecursion}
use Rattle.tcp_refinement.specs.Alone.{AreResets}
use Rattle.tcp_refinement.specs.Segment.{Segment}
use Rattle.tcp_refinement.specs.Segment.Control.{Rst}
use Rattle.tcp_refinement.specs.Endpoints.{HasPorts}
use Rattle.tcp_refinement.specs.Host.{Made, source_port, seen_of, sent_from, past_at}
use Rattle.tcp_refinement.specs.Promises.{KeepsAlone}
use Rattle.tcp_refinement.specs.Tie.{Past, Keeps, no_past}
use Rattle.tcp_refinement.proofs.AloneLaws.{stays_alone}
use Rattle.tcp_refinement.proofs.HostLaws.{resets_from}
use Rattle.tcp_refinement.proofs.PromiseLemmas.{alone_initial, peer_side_comes, keeps_turned}
use Rattle.tcp_block.specs.FourTuple.{FourTuple}
use Rattle.tcp_block.specs.State.{State}
use Rattle.tcp_block.specs.Value.{TcpValue}
use Rattle.lan.specs.declared.at_link.history.answer.Answer.{Answer}
use Rattle.lan.specs.declared.at_link.history.event.Side.{Side}
use Rattle.lan.specs.declared.at_link.history.record.Opening.{Opening}
use Rattle.lan.specs.Worlds.AtLink.Call.{SocketCall}
use Rattle.lan.specs.Worlds.AtLink.Kinds.{other, kind_of, calls}
use Rattle.lan.specs.Worlds.AtLink.History.{Entry, first_of, opening_by, bytes_written, bytes_read, closes, opening, written, read, is_closed_by}
use Rattle.lan.specs.Worlds.AtLink.PeerSides.{ArePartners}
use Rattle.lan.specs.Worlds.AtLink.Tables.{Slots, AreAllowed}
use Rattle.lan.proofs.Worlds.AtLink.CallLemmas.{other_twice, call_here, call_at_other_side, call_at_other_slot}
use Rattle.lan.proofs.Worlds.AtLink.PeerSideLemmas.{MayOpen, AreApart, apart_from_opened, opened_apart, opening_stays, one_peer_side, peer_sides_turned}
use Rattle.lan.specs.Worlds.AtLink.Parties.{Party, socket_at}
use Rattle.lan.specs.Worlds.AtLink.Parties.Socket.{Tcp}
use Rattle.lan.specs.Worlds.AtLink.Moves.{with_socket}
use Rattle.lan.proofs.Worlds.AtLink.Lists.{Each}
use Rattle.lan.specs.Worlds.AtLink.Paired.{way_of, way_by, told}
use Rattle.lan.proofs.Worlds.AtLink.StreamInvariant.{ports_of, IsUntouched, SpeaksWith, TcpOk, SegmentOk, StreamsOk, PairsOk}
use Rattle.lan.proofs.Worlds.AtLink.HostSteps.{past, or_false, told_left, opening_left, speaks_stay, segments_stay, peer_sides_stay, HostSteps}
use Rattle.lan.proofs.Worlds.AtLink.Exchange.{Leaves, exchange_opened, exchange_untouched}

-- the past after a call
abbrev pub told_with : List Entry → Side → ℕ → SocketCall → Answer → Option State → Past
told_with h side i call answer found = record {
  opening = way_by (first_of (opening h side i) (opening_by (Some call) answer));
  written = written h side i ++ bytes_written (Some call) answer;
  read = read h side i ++ bytes_read (Some call) answer;
  closed = is_closed_by h side i || closes (Some call) found;
  sent = [];
}

pub or_true : (t : Bool) → (t || true) ≡ true
or_true true = refl
or_true false = refl

-- what a call adds to it
pub told_parts :
    (h : List Entry) (side : Side) (i : ℕ) (call : SocketCall) (answer : Answer) (found : Option State) (w r : List ℕ) (c : Bool)
    → first_of (opening h side i) (opening_by (Some call) answer) ≡ opening h side i → bytes_written (Some call) answer ≡ w →
    bytes_read (Some call) answer ≡ r → closes (Some call) found ≡ c
    → told_with h side i call answer found ≡ past (way_by (opening h side i)) (written h side i ++ w) (read h side i ++ r) (is_closed_by h side i || c)
told_parts h side i call answer found w r c is_o is_w is_r is_c =
    ap (λ (x : Option Opening). past (way_by x) (written h side i ++ bytes_written (Some call) answer) (read h side i ++
    bytes_read (Some call) answer) (is_closed_by h side i || closes (Some call) found)) is_o
    ∙ ap (λ (x : List ℕ). past (way_by (opening h side i)) (written h side i ++ x) (read h side i ++
    bytes_read (Some call) answer) (is_closed_by h side i || closes (Some call) found)) is_w
    ∙ ap (λ (x : List ℕ). past (way_by (opening h side i)) (written h side i ++ w) (read h side i ++
    x) (is_closed_by h side i || closes (Some call) found)) is_r
    ∙ ap (λ (x : Bool). past (way_by (opening h side i)) (written h side i ++ w) (read h side i ++ r) (is_closed_by h side i || x)) is_c

-- a call that adds nothing
pub told_plain :
    (h : List Entry) (side : Side) (i : ℕ) (call : SocketCall) (answer : Answer) (found : Option State)
    → first_of (opening h side i) (opening_by (Some call) answer) ≡ opening h side i → bytes_written (Some call) answer ≡ [] →
    bytes_read (Some call) answer ≡ [] → closes (Some call) found ≡ false
    → told_with h side i call answer found ≡ told h side i
told_plain h side i call answer found o w r c =
    told_parts h side i call answer found [] [] false o w r c
    ∙ ap (λ (x : List ℕ). past (way_by (opening h side i)) x (read h side i ++ []) (is_closed_by h side i || false)) (append-nil (written h side i))
    ∙ ap (λ (x : List ℕ). past (way_by (opening h side i)) (written h side i) x (is_closed_by h side i || false)) (append-nil (read h side i))
    ∙ ap (λ (x : Bool). past (way_by (opening h side i)) (written h side i) (read h side i) x) (or_false (is_closed_by h side i))

-- a call of a socket leaves the others
pub leaves_call : (h : List Entry) (e : Entry) (side : Side) (at : ℕ) (call : SocketCall) → kind_of e.event ≡ calls side at call → Leaves h (e ∷ h) side at
leaves_call h e side at call kind = record {
  stay = λ s i o opened. opening_stays h e s i o opened;
  near = λ i apart.
      let none = call_at_other_slot e side at i call kind (ne_eqb at i (λ same. apart (sym same))) in
      (opening_left h e side i none, told_left h e side i none);
  far = λ j.
      let none = call_at_other_side e side at j call kind in
      (opening_left h e (other side) j none, told_left h e (other side) j none);
}

module _
    (slots : Slots) (h : List Entry) (e : Entry) (side : Side) (p q : Party) (at : ℕ) (v : TcpValue) (call : SocketCall)
    (kind : kind_of e.event ≡ calls side at call) (allowed : AreAllowed slots (e ∷ h))
    (is : socket_at p at ≡ Some (Tcp v)) (k : StreamsOk h side p) (far : StreamsOk h (other side) q) (pairs : PairsOk h side p q) where
  abbrev pub ok : TcpOk h side p.segments at v
  ok = k.sockets at v is

  leaves : Leaves h (e ∷ h) side at
  leaves = leaves_call h e side at call kind

  pub told_after : (answer : Answer) (found : Option State) → e.answer ≡ answer → e.found ≡ found → told (e ∷ h) side at ≡ told_with h side at call answer found
  told_after answer found answered found_is =
      ap (λ (c : Option SocketCall). past (way_by (first_of (opening h side at) (opening_by c e.answer))) (written h side at ++
      bytes_written c e.answer) (read h side at ++ bytes_read c e.answer) (is_closed_by h side at || closes c e.found)) (call_here e side at call kind)
      ∙ ap (λ (a : Answer). told_with h side at call a e.found) answered
      ∙ ap (λ (f : Option State). told_with h side at call answer f) found_is

  made_after : Each (SegmentOk (e ∷ h) side) p.segments
  made_after = segments_stay h (e ∷ h) side p.segments leaves.stay k.made

  -- a call of an opened socket that keeps the invariant alongside any peer
  pub called_opened :
      (o : Opening) (new : TcpValue) → opening h side at ≡ Some o → HasPorts (ports_of o) new.tcb
      → ((pair : FourTuple) → new.tcb.names.pair ≡ Some pair → v.tcb.names.pair ≡ Some pair)
      → ((w : TcpValue) (b : Past) → Keeps v (past_at o.local p.segments (told h side at)) w b →
      Keeps new (past_at o.local p.segments (told (e ∷ h) side at)) w b)
      → HostSteps h (e ∷ h) side p (with_socket p at (Tcp new)) q
  called_opened o new opened ports named keeps =
      exchange_opened h (e ∷ h) side p q at leaves made_after o p.segments new (opening_stays h e side at o opened) (inl refl) apart (record {
        ports = ports;
        heard = λ pair is_pair. speaks_stay h (e ∷ h) side o pair.remote_port leaves.stay (ok.heard o opened pair (named pair is_pair));
        alone = λ lone.
            stays_alone v new (past_at o.local p.segments (told h side at)) (past_at o.local p.segments (told (e ∷ h) side at))
            (ok.alone o opened (λ j a. lone j (peer_sides_stay h (e ∷ h) side at j leaves.stay a))) keeps;
        pair = λ j w a is_w. keeps w (past_at a.another.local q.segments (told h (other side) j)) (before j w a is_w);
      })
    where
      apart : (i : ℕ) (one : Opening) → i ≢ at → opening h side i ≡ Some one → one.local ≢ o.local
      apart i one differs is_one = by (opened_apart slots h side i at one o allowed.1 is_one opened) where
        by : (i ≡ at) ⊎ AreApart one o → one.local ≢ o.local
        by (inl same) = absurd (differs same)
        by (inr a) = a.local

      before :
          (j : ℕ) (w : TcpValue) (a : ArePartners (e ∷ h) side at j) → socket_at q j ≡ Some (Tcp w)
          → Keeps v (past_at o.local p.segments (told h side at)) w (past_at a.another.local q.segments (told h (other side) j))
      before j w a is_w =
          let one : a.one ≡ o = same (sym a.opened ∙ opening_stays h e side at o opened) in
          let b : ArePartners h side at j = record {
            one = a.one;
            another = a.another;
            opened = opened ∙ ap (λ (o : Opening). Some o) (sym one);
            peer_side_opened = sym (leaves.far j).0 ∙ a.peer_side_opened;
            paired = a.paired;
          } in
          subst (λ (o : Opening). Keeps v (past_at o.local p.segments (told h side at)) w (past_at a.another.local q.segments (told h (other side) j))) one
          (pairs at j v w b is is_w)
        where
          same : {x y : Opening} → Some x ≡ Some y → x ≡ y
          same e = cc

  -- a call that opens nothing, of a socket that wasn't opened
  pub called_untouched : (new : TcpValue) → opening h side at ≡ None → opening_by (Some call) e.answer ≡ None → IsUntouched (e ∷ h) side at new →
      HostSteps h (e ∷ h) side p (with_socket p at (Tcp new)) q
  called_untouched new none opens_none u =
      exchange_untouched h (e ∷ h) side p q at leaves made_after new
      (ap (λ (c : Option SocketCall). first_of (opening h side at) (opening_by c e.answer)) (call_here e side at call kind) ∙
      ap (λ (x : Option Opening). first_of x (opening_by (Some call) e.answer)) none ∙ opens_none)
      u

  -- THE OPENING

  all_resets : (o : Opening) → MayOpen slots h side at o → (xs : List Made) → Each (SegmentOk h side) xs →
      AllByRecursion (λ x. source_port x ≡ o.local → (seen_of x).control ≡ Rst) xs
  all_resets o may [] all = tt
  all_resets o may (x ∷ xs) all = (by all.0, all_resets o may xs all.1) where
    by : SegmentOk h side x → source_port x ≡ o.local → (seen_of x).control ≡ Rst
    by (inl rst) from = rst
    by (inr s) from = absurd ((apart_from_opened slots h side at s.slot o s.by allowed.1 may s.opened).local (sym from ∙ sym s.from))

  pub called_opens :
      (o : Opening) (new : TcpValue) → MayOpen slots h side at o → opening_by (Some call) e.answer ≡ Some o
      → bytes_written (Some call) e.answer ≡ [] → bytes_read (Some call) e.answer ≡ [] → closes (Some call) e.found ≡ false
      → HasPorts (ports_of o) new.tcb → ((pair : FourTuple) → new.tcb.names.pair ≡ Some pair → SpeaksWith (e ∷ h) side o pair.remote_port)
      → ((rs : List Segment) (w : TcpValue) (b : Past) → Keeps v (no_past rs) w b → Keeps new (record (no_past rs) { opening = way_of o.remote }) w b)
      → HostSteps h (e ∷ h) side p (with_socket p at (Tcp new)) q
  called_opens o new may opens no_bytes no_read no_close ports heard keeps =
      exchange_opened h (e ∷ h) side p q at leaves made_after o p.segments new opened_now (inl refl)
      (λ i one differs is_one same. (apart_from_opened slots h side at i o one allowed.1 may is_one).local (sym same))
      (record { ports = ports; heard = heard; alone = λ lone. alone_now; pair = λ j w a is_w. pair_now j w a is_w })
    where
      u : IsUntouched h side at v
      u = ok.untouched may.first

      opened_now : opening (e ∷ h) side at ≡ Some o
      opened_now =
          ap (λ (c : Option SocketCall). first_of (opening h side at) (opening_by c e.answer)) (call_here e side at call kind)
          ∙ ap (λ (x : Option Opening). first_of x (opening_by (Some call) e.answer)) may.first ∙ opens

      -- nothing but the opening was seen
      told_now : told (e ∷ h) side at ≡ record (no_past []) { opening = way_of o.remote }
      told_now =
          told_after e.answer e.found refl refl
          ∙ ap (λ (x : Option Opening). past (way_by x) (written h side at ++ bytes_written (Some call) e.answer) (read h side at ++
          bytes_read (Some call) e.answer) (is_closed_by h side at || closes (Some call) e.found))
          (ap (λ (x : Option Opening). first_of x (opening_by (Some call) e.answer)) may.first ∙ opens)
          ∙ ap (λ (x : List ℕ). past (way_of o.remote) x (read h side at ++
          bytes_read (Some call) e.answer) (is_closed_by h side at || closes (Some call) e.found))
          (ap (λ (b : List ℕ). written h side at ++ b) no_bytes ∙ append-nil (written h side at) ∙ ap (λ (t : Past). t.written) u.nothing)
          ∙ ap (λ (x : List ℕ). past (way_of o.remote) [] x (is_closed_by h side at || closes (Some call) e.found))
          (ap (λ (b : List ℕ). read h side at ++ b) no_read ∙ append-nil (read h side at) ∙ ap (λ (t : Past). t.read) u.nothing)
          ∙ ap (λ (x : Bool). past (way_of o.remote) [] [] x)
          (ap (λ (b : Bool). is_closed_by h side at || b) no_close ∙ or_false (is_closed_by h side at) ∙ ap (λ (t : Past). t.closed) u.nothing)

      resets : AreResets (sent_from o.local p.segments)
      resets = resets_from o.local p.segments (all_resets o may p.segments k.made)

      alone_now : KeepsAlone new (past_at o.local p.segments (told (e ∷ h) side at))
      alone_now =
          subst (λ (t : Past). KeepsAlone new (past_at o.local p.segments t)) (sym told_now)
          (stays_alone v new (no_past (sent_from o.local p.segments)) (record (no_past (sent_from o.local p.segments)) { opening = way_of o.remote })
          (alone_initial v (sent_from o.local p.segments) u.initial resets) (λ w b kept. keeps (sent_from o.local p.segments) w b kept))

      -- the peer had none before
      was_lone : (j : ℕ) → ArePartners (e ∷ h) side at j → (i : ℕ) → ¬ (ArePartners h (other side) j i)
      was_lone j a i b =
          let b' : ArePartners (e ∷ h) (other side) j i = peer_sides_stay h (e ∷ h) (other side) j i leaves.stay b in
          let a' : ArePartners (e ∷ h) (other side) j at = peer_sides_turned (e ∷ h) side at j a in
          let same : i ≡ at = one_peer_side slots (e ∷ h) (other side) j i at allowed b' a' in
          let opened_before : opening h side at ≡ Some b.another =
          ap (λ (i : ℕ). opening h side i) (sym same) ∙ ap (λ (s : Side). opening h s i) (sym (other_twice side)) ∙ b.peer_side_opened in
          let clash : None ≡ Some b.another = sym may.first ∙ opened_before in
          cc

      pair_now :
          (j : ℕ) (w : TcpValue) (a : ArePartners (e ∷ h) side at j) → socket_at q j ≡ Some (Tcp w)
          → Keeps new (past_at o.local p.segments (told (e ∷ h) side at)) w (past_at a.another.local q.segments (told h (other side) j))
      pair_now j w a is_w =
          let was = (far.sockets j w is_w).alone a.another (sym (leaves.far j).0 ∙ a.peer_side_opened) (was_lone j a) in
          let beside = peer_side_comes w v (past_at a.another.local q.segments (told h (other side) j)) (sent_from o.local p.segments) was u.initial resets in
          let turned = keeps_turned w v (past_at a.another.local q.segments (told h (other side) j)) (no_past (sent_from o.local p.segments)) beside in
          subst (λ (t : Past). Keeps new (past_at o.local p.segments t) w (past_at a.another.local q.segments (told h (other side) j))) (sym told_now)
          (keeps (sent_from o.local p.segments) w (past_at a.another.local q.segments (told h (other side) j)) turned)
