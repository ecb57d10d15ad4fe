-- A step of one host keeps what is kept of both hosts' streams, where it keeps it of each socket.
use Rattle.std.proofs.Common.{◌≡◌, ◌⊎◌, inl, inr, ℕ, ◌||◌, Bool, true, false, List, [], ◌∷◌, ◌++◌, Option, Some, None, refl, sym, ap, ◌∙◌, subst}
use Rattle.std.proofs.Common.{append-nil}
use Rattle.tcp_refinement.specs.Side as Law
use Rattle.tcp_refinement.specs.Host.{Made, destination_port, past_at}
use Rattle.tcp_refinement.specs.Promises.{KeepsAlone}
use Rattle.tcp_refinement.specs.Tie.{Past, Keeps}
use Rattle.tcp_refinement.proofs.AloneLaws.{stays_alone}
use Rattle.tcp_block.specs.Value.{TcpValue}
use Rattle.lan.specs.declared.at_link.history.event.Side.{Side}
use Rattle.lan.specs.declared.at_link.history.record.Opening.{Opening}
use Rattle.lan.specs.Worlds.AtLink.Kinds.{other}
use Rattle.lan.specs.Worlds.AtLink.Call.{SocketCall}
use Rattle.lan.specs.Worlds.AtLink.History.{Entry, call_of, first_of, opening_by, bytes_written, bytes_read, closes, opening, written, read, is_closed_by}
use Rattle.lan.specs.Worlds.AtLink.PeerSides.{ArePartners}
use Rattle.lan.proofs.Worlds.AtLink.TableLemmas.{first_of-none}
use Rattle.lan.specs.Worlds.AtLink.Parties.{Party, socket_at}
use Rattle.lan.specs.Worlds.AtLink.Parties.Socket.{Tcp}
use Rattle.lan.proofs.Worlds.AtLink.Lists.{Each, each_of}
use Rattle.lan.specs.Worlds.AtLink.Paired.{way_by, told}
use Rattle.lan.proofs.Worlds.AtLink.StreamInvariant.{ConnectsTo, SpeaksWith, TcpOk, SegmentOk, StreamsOk, PairsOk}

-- WHAT STAYS

abbrev pub past : Law.Opening → List ℕ → List ℕ → Bool → Past
past way written read closed = record { opening = way; written = written; read = read; closed = closed; sent = [] }

pub or_false : (t : Bool) → (t || false) ≡ t
or_false true = refl
or_false false = refl

-- an entry that is no call of the socket adds nothing to its past
pub told_left : (h : List Entry) (e : Entry) (side : Side) (i : ℕ) → call_of e side i ≡ None → told (e ∷ h) side i ≡ told h side i
told_left h e side i none =
    ap (λ (call : Option SocketCall). past (way_by (first_of (opening h side i) (opening_by call e.answer))) (written h side i ++
    bytes_written call e.answer) (read h side i ++ bytes_read call e.answer) (is_closed_by h side i || closes call e.found)) none
    ∙ ap (λ (o : Option Opening). past (way_by o) (written h side i ++ []) (read h side i ++ []) (is_closed_by h side i || false))
    (first_of-none (opening h side i))
    ∙ ap (λ (w : List ℕ). past (way_by (opening h side i)) w (read h side i ++ []) (is_closed_by h side i || false)) (append-nil (written h side i))
    ∙ ap (λ (r : List ℕ). past (way_by (opening h side i)) (written h side i) r (is_closed_by h side i || false)) (append-nil (read h side i))
    ∙ ap (λ (c : Bool). past (way_by (opening h side i)) (written h side i) (read h side i) c) (or_false (is_closed_by h side i))

pub opening_left : (h : List Entry) (e : Entry) (side : Side) (i : ℕ) → call_of e side i ≡ None → opening (e ∷ h) side i ≡ opening h side i
opening_left h e side i none = ap (λ (call : Option SocketCall). first_of (opening h side i) (opening_by call e.answer)) none ∙ first_of-none (opening h side i)

-- openings stay, from one history to a longer one
abbrev pub Stay : List Entry → List Entry → Type 0
Stay h h' = (s : Side) (i : ℕ) (o : Opening) → opening h s i ≡ Some o → opening h' s i ≡ Some o

calls_stay : (h h' : List Entry) (side : Side) (port target : ℕ) → Stay h h' → ConnectsTo h side port target → ConnectsTo h' side port target
calls_stay h h' side port target stay c = record { slot = c.slot; by = c.by; opened = stay side c.slot c.by c.opened; from = c.from; to = c.to }

pub speaks_stay : (h h' : List Entry) (side : Side) (o : Opening) (port : ℕ) → Stay h h' → SpeaksWith h side o port → SpeaksWith h' side o port
speaks_stay h h' side o port stay (inl to) = inl to
speaks_stay h h' side o port stay (inr calls) = inr (calls.0, calls_stay h h' (other side) port o.local stay calls.1)

pub segment_stays : (h h' : List Entry) (side : Side) → Stay h h' → (x : Made) → SegmentOk h side x → SegmentOk h' side x
segment_stays h h' side stay x (inl rst) = inl rst
segment_stays h h' side stay x (inr s) =
    inr (record {
      slot = s.slot;
      by = s.by;
      opened = stay side s.slot s.by s.opened;
      from = s.from;
      to =
          speaks_stay h h' side s.by (destination_port x) stay s.to;
    })

pub segments_stay : (h h' : List Entry) (side : Side) (xs : List Made) → Stay h h' → Each (SegmentOk h side) xs → Each (SegmentOk h' side) xs
segments_stay h h' side xs stay all = each_of (SegmentOk h side) (SegmentOk h' side) xs (segment_stays h h' side stay) all

pub peer_sides_stay : (h h' : List Entry) (side : Side) (i j : ℕ) → Stay h h' → ArePartners h side i j → ArePartners h' side i j
peer_sides_stay h h' side i j stay a = record {
  one = a.one;
  another = a.another;
  opened = stay side i a.one a.opened;
  peer_side_opened = stay (other side) j a.another a.peer_side_opened;
  paired = a.paired;
}

-- A STEP

-- the segments that are made besides leave the invariant of a socket at this port
abbrev pub KeepAt : List Made → List Made → ℕ → Type 0
KeepAt made made' port = (v w : TcpValue) (p q : Past) → Keeps v (past_at port made p) w q → Keeps v (past_at port made' p) w q

-- a socket that the step leaves
pub record IsKept (h h' : List Entry) (side : Side) (p p' : Party) (i : ℕ) (v : TcpValue) : Type 0 where
  pub was : socket_at p i ≡ Some (Tcp v)
  pub same : opening h' side i ≡ opening h side i
  pub told_same : told h' side i ≡ told h side i
  pub keeps : (o : Opening) → opening h side i ≡ Some o → KeepAt p.segments p'.segments o.local

-- a socket that it exchanges
pub record IsExchanged (h h' : List Entry) (side : Side) (p' q : Party) (i : ℕ) (v : TcpValue) : Type 0 where
  pub ok : TcpOk h' side p'.segments i v
  pub pair :
      (j : ℕ) (w : TcpValue) (a : ArePartners h' side i j) → socket_at q j ≡ Some (Tcp w)
      → Keeps v (past_at a.one.local p'.segments (told h' side i)) w (past_at a.another.local q.segments (told h (other side) j))

pub record HostSteps (h h' : List Entry) (side : Side) (p p' q : Party) : Type 0 where
  pub stay : Stay h h'
  pub far : (j : ℕ) → opening h' (other side) j ≡ opening h (other side) j
  pub told_far : (j : ℕ) → told h' (other side) j ≡ told h (other side) j
  pub made : Each (SegmentOk h' side) p'.segments
  pub sockets : (i : ℕ) (v : TcpValue) → socket_at p' i ≡ Some (Tcp v) → IsExchanged h h' side p' q i v ⊎ IsKept h h' side p p' i v

module _ (h h' : List Entry) (side : Side) (p p' q : Party) (steps : HostSteps h h' side p p' q) where
  kept_ok : (i : ℕ) (v : TcpValue) → IsKept h h' side p p' i v → TcpOk h side p.segments i v → TcpOk h' side p'.segments i v
  kept_ok i v kept k = record {
    untouched = λ none.
        let u = k.untouched (sym kept.same ∙ none) in
        record { initial = u.initial; nameless = u.nameless; nothing = kept.told_same ∙ u.nothing };
    ports = λ o opened. k.ports o (sym kept.same ∙ opened);
    heard = λ o opened pair named. speaks_stay h h' side o pair.remote_port steps.stay (k.heard o (sym kept.same ∙ opened) pair named);
    alone = λ o opened lone.
        let before = sym kept.same ∙ opened in
        let was = k.alone o before (λ j a. lone j (peer_sides_stay h h' side i j steps.stay a)) in
        subst (λ (past : Past). KeepsAlone v (past_at o.local p'.segments past)) (sym kept.told_same)
        (stays_alone v v (past_at o.local p.segments (told h side i)) (past_at o.local p'.segments (told h side i)) was
        (λ w q keeps. kept.keeps o before v w (told h side i) q keeps));
  }

  pub streams_step : StreamsOk h side p → StreamsOk h' side p'
  streams_step k = record { sockets = λ i v is. by i v (steps.sockets i v is); made = steps.made } where
    by : (i : ℕ) (v : TcpValue) → IsExchanged h h' side p' q i v ⊎ IsKept h h' side p p' i v → TcpOk h' side p'.segments i v
    by i v (inl exchanged) = exchanged.ok
    by i v (inr kept) = kept_ok i v kept (k.sockets i v kept.was)

  -- the host that rests
  pub streams_far : StreamsOk h (other side) q → StreamsOk h' (other side) q
  streams_far k = record { sockets = λ j w is. by j w (k.sockets j w is); made = segments_stay h h' (other side) q.segments steps.stay k.made } where
    by : (j : ℕ) (w : TcpValue) → TcpOk h (other side) q.segments j w → TcpOk h' (other side) q.segments j w
    by j w k = record {
      untouched = λ none.
          let u = k.untouched (sym (steps.far j) ∙ none) in
          record { initial = u.initial; nameless = u.nameless; nothing = steps.told_far j ∙ u.nothing };
      ports = λ o opened. k.ports o (sym (steps.far j) ∙ opened);
      heard = λ o opened pair named. speaks_stay h h' (other side) o pair.remote_port steps.stay (k.heard o (sym (steps.far j) ∙ opened) pair named);
      alone = λ o opened lone.
          subst (λ (past : Past). KeepsAlone w (past_at o.local q.segments past)) (sym (steps.told_far j))
          (k.alone o (sym (steps.far j) ∙ opened) (λ i a. lone i (peer_sides_stay h h' (other side) j i steps.stay a)));
    }

  pub pairs_step : PairsOk h side p q → PairsOk h' side p' q
  pairs_step k = λ i j v w a is_v is_w.
      subst (λ (past : Past). Keeps v (past_at a.one.local p'.segments (told h' side i)) w (past_at a.another.local q.segments past)) (sym (steps.told_far j))
      (by i j v w a is_w (steps.sockets i v is_v))
    where
      by : (i j : ℕ) (v w : TcpValue) (a : ArePartners h' side i j) → socket_at q j ≡ Some (Tcp w) → IsExchanged h h' side p' q i v ⊎ IsKept h h' side p p' i v
          → Keeps v (past_at a.one.local p'.segments (told h' side i)) w (past_at a.another.local q.segments (told h (other side) j))
      by i j v w a is_w (inl exchanged) = exchanged.pair j w a is_w
      by i j v w a is_w (inr kept) =
          let opened : opening h side i ≡ Some a.one = sym kept.same ∙ a.opened in
          let b : ArePartners h side i j =
          record { one = a.one; another = a.another; opened = opened; peer_side_opened = sym (steps.far j) ∙ a.peer_side_opened; paired = a.paired } in
          subst (λ (past : Past). Keeps v (past_at a.one.local p'.segments past) w (past_at a.another.local q.segments (told h (other side) j)))
          (sym kept.told_same)
          (kept.keeps a.one opened v w (told h side i) (past_at a.another.local q.segments (told h (other side) j)) (k i j v w b kept.was is_w))
