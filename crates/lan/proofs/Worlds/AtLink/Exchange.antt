-- A step of one host that exchanges one socket, or none of TCP.
use Rattle.std.proofs.Common.{◌≡◌, ◌≢◌, ◌⊎◌, inl, inr, ℕ, List, [], ◌∷◌, ◌++◌, Some, None, refl, sym, ◌∙◌, subst}
use Rattle.tcp_refinement.specs.Segment.Control.{Rst}
use Rattle.tcp_refinement.specs.Endpoints.{HasPorts}
use Rattle.tcp_refinement.specs.Host.{Made, source_port, destination_port, seen_of, past_at}
use Rattle.tcp_refinement.specs.Promises.{KeepsAlone}
use Rattle.tcp_refinement.specs.Tie.{Keeps}
use Rattle.tcp_refinement.proofs.HostLaws.{keeps_made_elsewhere, keeps_made_reset}
use Rattle.tcp_block.specs.FourTuple.{FourTuple}
use Rattle.tcp_block.specs.Value.{TcpValue}
use Rattle.lan.specs.declared.at_link.history.event.Side.{Side}
use Rattle.lan.specs.declared.at_link.history.record.Opening.{Opening}
use Rattle.lan.specs.Worlds.AtLink.Kinds.{other}
use Rattle.lan.specs.Worlds.AtLink.History.{Entry, opening}
use Rattle.lan.specs.Worlds.AtLink.PeerSides.{ArePartners}
use Rattle.lan.specs.Worlds.AtLink.Parties.{Socket, Datagram, Party, socket_at}
use Rattle.lan.specs.Worlds.AtLink.Parties.Socket.{Tcp}
use Rattle.lan.specs.Worlds.AtLink.Moves.{with_socket}
use Rattle.lan.proofs.Worlds.AtLink.Lists.{Each, each_append}
use Rattle.lan.proofs.Worlds.AtLink.Slots.{socket_cases}
use Rattle.lan.proofs.Worlds.AtLink.Speaking.{same_opening}
use Rattle.lan.specs.Worlds.AtLink.Paired.{told}
use Rattle.lan.proofs.Worlds.AtLink.StreamInvariant.{ports_of, IsUntouched, SpeaksWith, TcpOk, SegmentOk}
use Rattle.lan.proofs.Worlds.AtLink.HostSteps.{Stay, KeepAt, IsKept, IsExchanged, HostSteps}

pub same_tcp : (v w : TcpValue) → Tcp v ≡ Tcp w → v ≡ w
same_tcp v w e = cc

-- one segment more, or none, from the socket's port to one that it speaks with
abbrev pub IsMore : List Entry → Side → Opening → List Made → List Made → Type 0
IsMore h side o made made' =
    (made' ≡ made) ⊎ ((x : Made) × (made' ≡ made ++ x ∷ []) × (source_port x ≡ o.local) × SpeaksWith h side o (destination_port x))

more_made : (h : List Entry) (side : Side) (at : ℕ) (o : Opening) (made made' : List Made) → opening h side at ≡ Some o → IsMore h side o made made' →
    Each (SegmentOk h side) made → Each (SegmentOk h side) made'
more_made h side at o made made' opened (inl same) all = subst (Each (SegmentOk h side)) (sym same) all
more_made h side at o made made' opened (inr more) all =
    subst (Each (SegmentOk h side)) (sym more.1)
    (each_append (SegmentOk h side) made (more.0 ∷ []) all (inr (record { slot = at; by = o; opened = opened; from = sym more.2; to = more.3 }), tt))

pub keep_same : (made : List Made) (port : ℕ) → KeepAt made made port
keep_same made port = λ v w p q k. k

more_keeps : (h : List Entry) (side : Side) (o : Opening) (made made' : List Made) (port : ℕ) → IsMore h side o made made' → port ≢ o.local →
    KeepAt made made' port
more_keeps h side o made made' port (inl same) apart v w p q k = subst (λ (m : List Made). Keeps v (past_at port m p) w q) (sym same) k
more_keeps h side o made made' port (inr more) apart v w p q k =
    subst (λ (m : List Made). Keeps v (past_at port m p) w q) (sym more.1)
    (keeps_made_elsewhere v w p q port made more.0 k (λ same. apart (sym same ∙ more.2)))

-- what the step leaves of the histories
pub record Leaves (h h' : List Entry) (side : Side) (at : ℕ) : Type 0 where
  pub stay : Stay h h'
  pub near : (i : ℕ) → i ≢ at → (opening h' side i ≡ opening h side i) × (told h' side i ≡ told h side i)
  pub far : (j : ℕ) → (opening h' (other side) j ≡ opening h (other side) j) × (told h' (other side) j ≡ told h (other side) j)

pub leaves_all : (h : List Entry) (side : Side) (at : ℕ) → Leaves h h side at
leaves_all h side at = record { stay = λ s i o e. e; near = λ i apart. (refl, refl); far = λ j. (refl, refl) }

-- what it makes of an opened socket
pub record Exchanges (h h' : List Entry) (side : Side) (q : Party) (at : ℕ) (o : Opening) (made' : List Made) (new : TcpValue) : Type 0 where
  pub ports : HasPorts (ports_of o) new.tcb
  pub heard : (pair : FourTuple) → new.tcb.names.pair ≡ Some pair → SpeaksWith h' side o pair.remote_port
  pub alone : ((j : ℕ) → ¬ (ArePartners h' side at j)) → KeepsAlone new (past_at o.local made' (told h' side at))
  pub pair :
      (j : ℕ) (w : TcpValue) (a : ArePartners h' side at j) → socket_at q j ≡ Some (Tcp w)
      → Keeps new (past_at o.local made' (told h' side at)) w (past_at a.another.local q.segments (told h (other side) j))

module _ (h h' : List Entry) (side : Side) (p q : Party) (at : ℕ) (leaves : Leaves h h' side at) (made : Each (SegmentOk h' side) p.segments) where
  abbrev pub after_with : List Made → Socket → Party
  after_with made' new = record (with_socket p at new) { segments = made' }

  pub exchange_opened :
      (o : Opening) (made' : List Made) (new : TcpValue) → opening h' side at ≡ Some o → IsMore h' side o p.segments made'
      → ((i : ℕ) (other_one : Opening) → i ≢ at → opening h side i ≡ Some other_one → other_one.local ≢ o.local)
      → Exchanges h h' side q at o made' new → HostSteps h h' side p (after_with made' (Tcp new)) q
  exchange_opened o made' new opened more apart x = record {
    stay = leaves.stay;
    far = λ j. (leaves.far j).0;
    told_far = λ j. (leaves.far j).1;
    made = more_made h' side at o p.segments made' opened more made;
    sockets = λ i v is. by i v (socket_cases p at (Tcp new) i (Tcp v) is);
  } where
    ok : TcpOk h' side made' at new
    ok = record {
      untouched = λ none. absurd (let clash : None ≡ Some o = sym none ∙ opened in cc);
      ports = λ o' opened'. subst (λ (o : Opening). HasPorts (ports_of o) new.tcb) (same_opening o o' (sym opened ∙ opened')) x.ports;
      heard = λ o' opened' pair named. subst (λ (o : Opening). SpeaksWith h' side o pair.remote_port) (same_opening o o' (sym opened ∙ opened'))
          (x.heard pair named);
      alone = λ o' opened' lone. subst (λ (o : Opening). KeepsAlone new (past_at o.local made' (told h' side at))) (same_opening o o' (sym opened ∙ opened'))
          (x.alone lone);
    }

    exchanged : IsExchanged h h' side (after_with made' (Tcp new)) q at new
    exchanged = record {
      ok = ok;
      pair = λ j w a is_w.
          subst (λ (o : Opening). Keeps new (past_at o.local made' (told h' side at)) w (past_at a.another.local q.segments (told h (other side) j)))
          (same_opening o a.one (sym opened ∙ a.opened)) (x.pair j w a is_w);
    }

    by : (i : ℕ) (v : TcpValue) → ((i ≡ at) × (Tcp new ≡ Tcp v)) ⊎ ((i ≢ at) × (socket_at p i ≡ Some (Tcp v)))
        → IsExchanged h h' side (after_with made' (Tcp new)) q i v ⊎ IsKept h h' side p (after_with made' (Tcp new)) i v
    by i v (inl here) =
        inl (subst (λ (i : ℕ). IsExchanged h h' side (after_with made' (Tcp new)) q i v) (sym here.0)
        (subst (IsExchanged h h' side (after_with made' (Tcp new)) q at) (same_tcp new v here.1) exchanged))
    by i v (inr there) =
        inr (record {
          was = there.1;
          same = (leaves.near i there.0).0;
          told_same = (leaves.near i there.0).1;
          keeps = λ one is. more_keeps h' side o p.segments made' one.local more (apart i one there.0 is);
        })

  pub exchange_untouched : (new : TcpValue) → opening h' side at ≡ None → IsUntouched h' side at new → HostSteps h h' side p (after_with p.segments (Tcp new)) q
  exchange_untouched new unopened u = record {
    stay = leaves.stay;
    far = λ j. (leaves.far j).0;
    told_far = λ j. (leaves.far j).1;
    made = made;
    sockets = λ i v is. by i v (socket_cases p at (Tcp new) i (Tcp v) is);
  } where
    not_opened : {X : Type 0} → (o : Opening) → opening h' side at ≡ Some o → X
    not_opened o opened = absurd (let clash : None ≡ Some o = sym unopened ∙ opened in cc)

    exchanged : IsExchanged h h' side (after_with p.segments (Tcp new)) q at new
    exchanged = record {
      ok = record {
        untouched = λ none. u;
        ports = λ o opened. not_opened o opened;
        heard = λ o opened pair named. not_opened o opened;
        alone = λ o opened lone. not_opened o opened;
      };
      pair = λ j w a is_w. not_opened a.one a.opened;
    }

    by : (i : ℕ) (v : TcpValue) → ((i ≡ at) × (Tcp new ≡ Tcp v)) ⊎ ((i ≢ at) × (socket_at p i ≡ Some (Tcp v)))
        → IsExchanged h h' side (after_with p.segments (Tcp new)) q i v ⊎ IsKept h h' side p (after_with p.segments (Tcp new)) i v
    by i v (inl here) =
        inl (subst (λ (i : ℕ). IsExchanged h h' side (after_with p.segments (Tcp new)) q i v) (sym here.0)
        (subst (IsExchanged h h' side (after_with p.segments (Tcp new)) q at) (same_tcp new v here.1) exchanged))
    by i v (inr there) =
        inr (record {
          was = there.1;
          same = (leaves.near i there.0).0;
          told_same = (leaves.near i there.0).1;
          keeps =
              λ one is. keep_same p.segments one.local;
        })

  -- a socket that isn't of TCP is exchanged for another that isn't
  pub exchange_other : (more : List Datagram) (new : Socket) → ((v : TcpValue) → new ≢ Tcp v) →
      HostSteps h h' side p (record (with_socket p at new) { datagrams = more }) q
  exchange_other more new no_tcp = record {
    stay = leaves.stay;
    far = λ j. (leaves.far j).0;
    told_far = λ j. (leaves.far j).1;
    made = made;
    sockets = λ i v is. by i v (socket_cases p at new i (Tcp v) is);
  } where
    by : (i : ℕ) (v : TcpValue) → ((i ≡ at) × (new ≡ Tcp v)) ⊎ ((i ≢ at) × (socket_at p i ≡ Some (Tcp v)))
        → IsExchanged h h' side (record (with_socket p at new) { datagrams = more }) q i v ⊎
        IsKept h h' side p (record (with_socket p at new) { datagrams = more }) i v
    by i v (inl here) = absurd (no_tcp v here.1)
    by i v (inr there) =
        inr (record {
          was = there.1;
          same = (leaves.near i there.0).0;
          told_same = (leaves.near i there.0).1;
          keeps =
              λ one is. keep_same p.segments one.local;
        })

-- no socket changes: the history has more, or the host makes a reset
pub all_kept :
    (h h' : List Entry) (side : Side) (p q : Party) (made' : List Made) → Stay h h'
    → ((s : Side) (i : ℕ) → (opening h' s i ≡ opening h s i) × (told h' s i ≡ told h s i))
    → Each (SegmentOk h' side) made' → ((port : ℕ) → KeepAt p.segments made' port) → HostSteps h h' side p (record p { segments = made' }) q
all_kept h h' side p q made' stay same made keeps = record {
  stay = stay;
  far = λ j. (same (other side) j).0;
  told_far = λ j. (same (other side) j).1;
  made = made;
  sockets = λ i v is. inr (record { was = is; same = (same side i).0; told_same = (same side i).1; keeps = λ o opened. keeps o.local });
}

pub reset_made : (h : List Entry) (side : Side) (p q : Party) (x : Made) → (seen_of x).control ≡ Rst → Each (SegmentOk h side) p.segments →
    HostSteps h h side p (record p { segments = p.segments ++ x ∷ [] }) q
reset_made h side p q x rst made =
    all_kept h h side p q (p.segments ++ x ∷ []) (λ s i o e. e) (λ s i. (refl, refl)) (each_append (SegmentOk h side) p.segments (x ∷ []) made (inl rst, tt))
    (λ port v w past other k. keeps_made_reset v w past other port p.segments x k rst)
