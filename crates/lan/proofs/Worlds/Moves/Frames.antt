-- Frames that are taken and sent in a poll, the oldest first: each segment that one brings comes by a move, and each that a socket offers goes in one.
use Rattle.std.proofs.Common.{◌≡◌, ◌⊎◌, inl, inr, ℕ, ℤ, true, false, List, [], ◌∷◌, ◌++◌, append-nil, Option, Some, None, IfSome, sym, ap, ◌∙◌, subst, append_assoc}
use Rattle.std.specs.List.{AllByRecursion}
use Rattle.wire_tcp.specs.declared.header.TcpHeader.{TcpHeader}
use Rattle.sim_link.specs.Device.{Move, Took, Empty, Allowed, Emitted, Denied}
use Rattle.sockets.specs.Context.{ContextValue}
use Rattle.sockets.specs.Packet.{PacketValue, PayloadValue, ControlV4, ControlV6, Bytes, Datagram, Segment}
use Rattle.sockets.specs.declared.socket.Socket.{Socket}
use Rattle.sockets.specs.declared.socket.Socket.TheVariants as Is
use Rattle.tcp_block.specs.Arrival.{arrives}
use Rattle.tcp_block.specs.Offers.{offer_of, offered_packet}
use Rattle.interface.specs.Ingress.{is_solicitation, is_read}
use Rattle.interface.specs.IpRepr.{IpRepr}
use Rattle.interface.specs.IpRepr.TheVariants as Ip
use Rattle.interface.specs.Serve.{sourced}
use Rattle.iface_egress.specs.Departure.{Whole}
use Rattle.iface_egress.specs.Fragments.{departure_from}
use Rattle.iface_egress.specs.IsTransmitted.{cut_of, frame_of, numbered}
use Rattle.iface_egress.specs.Plan.{plan_of}
use Rattle.iface_egress.specs.declared.plan.Plan.{Plan}
use Rattle.iface_egress.specs.declared.plan.Plan.TheVariants as Way
use Rattle.iface_ingress.specs.HardwareAddress.{HardwareAddress}
use Rattle.iface_ingress.specs.IpAddress.{IpAddress}
use Rattle.iface_ingress.specs.Arrives.{whole_arrived}
use Rattle.iface_ingress.specs.Delivered.{packet_by}
use Rattle.iface_ingress.specs.Incoming.{IncomingValue, Arp, Ip4, Ip6}
use Rattle.iface_tables.specs.Inner.{InnerValue}
use Rattle.lan.specs.Worlds.AtLink.Side.{Side}
use Rattle.lan.specs.Worlds.AtLink.Moves as Moves
use Rattle.lan.specs.Worlds.AtLink.Moves.{Step}
use Rattle.lan.specs.Worlds.AtLink.Moves.Move.{Invokes, Passes, Offers, Gives, Takes, Receives, Resets, Changes}
use Rattle.lan.specs.Worlds.AtLink.Parties.{Net}
use Rattle.lan.specs.Worlds.Moves.ReceivedFrames.{AreMoved, BringsIn, ComesIn, ArrivesNext, IfSegment, IsMoved}
use Rattle.lan.specs.Worlds.Moves.Answered.{AnswerLeft, HasAnswered, WasSentAsPlanned}
use Rattle.lan.specs.Worlds.Moves.WasSent.{HasLeft, IsGone, LeftFrom, WasSentBy}
use Rattle.lan.proofs.Worlds.Moves.Slots.{get_more}

-- the frames that a host took in a poll so far, and those that its device took of it
pub record Frames : Type 0 where
  pub taken : List (List ℕ)
  pub gone : List (List ℕ)

abbrev pub no_frames : Frames
no_frames = record { taken = []; gone = [] }

abbrev pub and_taken : Frames → List ℕ → Frames
and_taken F frame = record F { taken = F.taken ++ frame ∷ [] }

abbrev pub and_gone : Frames → List (List ℕ) → Frames
and_gone F more = record F { gone = F.gone ++ more }

-- DEVICES: which frames were taken and sent, the oldest first, so that it came to be this device

-- no frame is taken
abbrev pub IsNoTake : Move → Type 0
IsNoTake (Took t frame) = ⊥
IsNoTake move = Unit {0}

-- and none is sent
abbrev pub IsNoFrame : Move → Type 0
IsNoFrame (Took t frame) = ⊥
IsNoFrame (Emitted frame) = ⊥
IsNoFrame move = Unit {0}

pub record IsTaking {D : Type 0} (moves : D → Move → D → Type 0) (Taken : Frames → D → Type 0) : Type 0 where
  pub takes : (old new : D) (t : ℤ) (frame : List ℕ) (F : Frames) → moves old (Took t frame) new → Taken F old → Taken (and_taken F frame) new
  pub sends : (old new : D) (frame : List ℕ) (F : Frames) → moves old (Emitted frame) new → Taken F old → Taken (and_gone F (frame ∷ [])) new
  pub rests : (old new : D) (m : Move) (F : Frames) → IsNoFrame m → moves old m new → Taken F old → Taken F new

-- it came to be this device, as more frames were sent
pub record Sent {D : Type 0} (Taken : Frames → D → Type 0) (F : Frames) (d : D) : Type 0 where
  pub more : List (List ℕ)
  pub taken : Taken (and_gone F more) d

module _ {D : Type 0} (moves : D → Move → D → Type 0) (Taken : Frames → D → Type 0) (taking : IsTaking moves Taken) (F : Frames) where
  pub none_sent : (d : D) → Taken F d → Sent Taken F d
  none_sent d taken = record { more = []; taken = subst (λ (xs : List (List ℕ)). Taken (record F { gone = xs }) d) (sym (append-nil F.gone)) taken }

  still_sent : (old new : D) (m : Move) → IsNoFrame m → moves old m new → Sent Taken F old → Sent Taken F new
  still_sent old new m none moved s = record { more = s.more; taken = taking.rests old new m (and_gone F s.more) none moved s.taken }

  pub sent_on : (old new : D) (m : Move) → IsNoTake m → moves old m new → Sent Taken F old → Sent Taken F new
  sent_on old new (Took t frame) none moved s = absurd none
  sent_on old new (Empty t) none moved s = still_sent old new (Empty t) tt moved s
  sent_on old new (Allowed t leave) none moved s = still_sent old new (Allowed t leave) tt moved s
  sent_on old new (Emitted frame) none moved s = record {
    more = s.more ++ frame ∷ [];
    taken = subst (λ (xs : List (List ℕ)). Taken (record F { gone = xs }) new) (append_assoc F.gone s.more (frame ∷ []))
        (taking.sends old new frame (and_gone F s.more) moved s.taken);
  }
  sent_on old new (Denied len) none moved s = still_sent old new (Denied len) tt moved s

module _ (side : Side) (i0 : InnerValue) (t : ℤ) (net : Net) where
  -- MORE STEPS

  next_on : (at : ℕ) (ip : IpRepr) (header : TcpHeader) (bytes : List ℕ) (steps more : List Step) → ArrivesNext side i0 t net at ip header bytes steps →
      ArrivesNext side i0 t net at ip header bytes (steps ++ more)
  next_on at ip header bytes steps more c = record {
    cx = c.cx;
    v = c.v;
    more = c.more ++ more;
    are = ap (λ (xs : List Step). xs ++ more) c.are;
    instant = c.instant;
  }

  comes_on : (ip : IpRepr) (header : TcpHeader) (bytes : List ℕ) (steps more : List Step) → ComesIn side i0 t net ip header bytes steps →
      ComesIn side i0 t net ip header bytes (steps ++ more)
  comes_on ip header bytes steps more c = record {
    before = c.before;
    following = c.following ++ more;
    are = ap (λ (xs : List Step). xs ++ more) c.are ∙ append_assoc c.before c.following more;
    slots = c.slots;
    sockets = c.sockets;
    comes = λ at named there. next_on at ip header bytes c.following more (c.comes at named there);
  }

  if_on : (ip : IpRepr) (carried : Option PayloadValue) (steps more : List Step) → IfSegment side i0 t net ip carried steps → IfSegment side i0 t net ip carried (steps ++ more)
  if_on ip (Some (Segment header bytes)) steps more c = comes_on ip header bytes steps more c
  if_on ip (Some (ControlV4 message bytes)) steps more c = tt
  if_on ip (Some (ControlV6 message bytes)) steps more c = tt
  if_on ip (Some (Bytes bytes)) steps more c = tt
  if_on ip (Some (Datagram udp bytes)) steps more c = tt
  if_on ip None steps more c = tt

  brings_on : (i : InnerValue) (content : Option IncomingValue) (steps more : List Step) → BringsIn side i0 t net i content steps → BringsIn side i0 t net i content (steps ++ more)
  brings_on i None steps more c = tt
  brings_on i (Some (Arp link packet)) steps more c = tt
  brings_on i (Some (Ip4 link header fragment payload)) steps more c =
      λ ours. ((c ours).0, (c ours).1, if_on (Ip.Ipv4 header) (c ours).0 steps more (c ours).2)
  brings_on i (Some (Ip6 link header payload)) steps more c =
      λ ours. ((c ours).0, (c ours).1, if_on (Ip.Ipv6 header) (c ours).0 steps more (c ours).2)

  moved_on : (frame : List ℕ) (steps more : List Step) → IsMoved side i0 t net frame steps → IsMoved side i0 t net frame (steps ++ more)
  moved_on frame steps more m = record {
    i = m.i;
    settings = m.settings;
    instant = m.instant;
    timeout = m.timeout;
    assemblers = m.assemblers;
    content = m.content;
    is = m.is;
    brings = brings_on m.i (whole_arrived m.i m.timeout m.assemblers m.content) steps more m.brings;
  }

  pub all_moved_on : (frames : List (List ℕ)) (steps more : List Step) → AreMoved side i0 t net frames steps → AreMoved side i0 t net frames (steps ++ more)
  all_moved_on [] steps more all = tt
  all_moved_on (frame ∷ frames) steps more all = ((λ read. moved_on frame steps more (all.0 read)), all_moved_on frames steps more all.1)

  -- one frame more
  pub one_moved : (frames : List (List ℕ)) (frame : List ℕ) (steps : List Step) → AreMoved side i0 t net frames steps → (is_read frame ≡ true → IsMoved side i0 t net frame steps) →
      AreMoved side i0 t net (frames ++ frame ∷ []) steps
  one_moved [] frame steps all one = (one, tt)
  one_moved (first ∷ frames) frame steps all one = (all.0, one_moved frames frame steps all.1 one)

-- WHAT WENT

module _ (i0 : InnerValue) (t : ℤ) where
  -- as each of these moves says
  abbrev pub HaveLeft : Type 0 → (IpAddress → HardwareAddress → Type 0) → List (List ℕ) → List Step → Type 0
  HaveLeft C N gone steps = AllByRecursion (λ step. HasLeft i0 t C N gone step.move) steps

  pub left-append : (C : Type 0) (N : IpAddress → HardwareAddress → Type 0) (gone : List (List ℕ)) (steps more : List Step) → HaveLeft C N gone steps → HaveLeft C N gone more
      → HaveLeft C N gone (steps ++ more)
  left-append C N gone [] more first second = second
  left-append C N gone (step ∷ steps) more first second = (first.0, left-append C N gone steps more first.1 second)

  -- under a narrower condition, as these frames are among those
  module _ (C C' : Type 0) (N N' : IpAddress → HardwareAddress → Type 0) (gone gone' : List (List ℕ)) (back : C' → C)
      (knew : (remote : IpAddress) (to : HardwareAddress) → N' remote to → N remote to) (among : (frame : List ℕ) → IsGone gone frame → IsGone gone' frame) where
    still_was_sent : (i : InnerValue) (p : PacketValue) (plan : Plan) → WasSentBy gone i p plan → WasSentBy gone' i p plan
    still_was_sent i p (Way.Go to) was_sent = among (frame_of i (Whole to (numbered i p))) was_sent
    still_was_sent i p (Way.Cut to) was_sent = among (frame_of i (departure_from i (cut_of i to p))) was_sent
    still_was_sent i p Way.Drop was_sent = tt
    still_was_sent i p Way.NoRoute was_sent = was_sent
    still_was_sent i p Way.Wait was_sent = was_sent
    still_was_sent i p Way.Busy was_sent = was_sent
    still_was_sent i p (Way.Ask question) was_sent = was_sent

    still_from : (cx : ContextValue) (s : Socket) (from : IpAddress) (p : PacketValue) → LeftFrom i0 t C N gone cx s from p → LeftFrom i0 t C' N' gone' cx s from p
    still_from cx s from p l = record {
      i = l.i;
      settings = l.settings;
      instant = l.instant;
      ident = l.ident;
      paths = λ c. l.paths (back c);
      hop_limit = λ remote to n. l.hop_limit remote to (knew remote to n);
      shown = l.shown;
      formed = l.formed;
      wide = l.wide;
      source = l.source;
      leaving_formed = l.leaving_formed;
      busy = l.busy;
      was_sent = still_was_sent l.i (sourced l.i p) (plan_of l.i l.busy (sourced l.i p).header) l.was_sent;
    }

    still_offered : (cx : ContextValue) (s : Socket) (from : IpAddress) (o : Option PacketValue) → IfSome o (λ p. LeftFrom i0 t C N gone cx s from p) →
        IfSome o (λ p. LeftFrom i0 t C' N' gone' cx s from p)
    still_offered cx s from None left = tt
    still_offered cx s from (Some p) left = still_from cx s from p left

    still_left : (move : Moves.Move) → HasLeft i0 t C N gone move → HasLeft i0 t C' N' gone' move
    still_left (Offers at cx v from true) left = still_offered cx (Is.Tcp v) from (offered_packet (offer_of cx v).socket) left
    still_left (Offers at cx v from false) left = tt
    still_left (Invokes at cx old entry call new) left = tt
    still_left (Passes entry) left = tt
    still_left (Gives at cx v answer new sent) left = tt
    still_left (Takes at cx v ip header bytes) left = tt
    still_left (Receives at cx v ip udp bytes) left = tt
    still_left (Resets x) left = tt
    still_left (Changes at old new) left = tt

    all_left : (steps : List Step) → HaveLeft C N gone steps → HaveLeft C' N' gone' steps
    all_left [] left = tt
    all_left (step ∷ steps) left = (still_left step.move left.0, all_left steps left.1)

  pub left_narrowed : (C C' : Type 0) (N N' : IpAddress → HardwareAddress → Type 0) (gone : List (List ℕ)) → (C' → C)
      → ((remote : IpAddress) (to : HardwareAddress) → N' remote to → N remote to) → (steps : List Step) → HaveLeft C N gone steps → HaveLeft C' N' gone steps
  left_narrowed C C' N N' gone back knew steps left = all_left C C' N N' gone gone back knew (λ frame is. is) steps left

  -- as more frames went
  pub left_more : (C : Type 0) (N : IpAddress → HardwareAddress → Type 0) (gone more : List (List ℕ)) (steps : List Step) → HaveLeft C N gone steps →
      HaveLeft C N (gone ++ more) steps
  left_more C N gone more steps left =
      all_left C C N N gone (gone ++ more) (λ c. c) (λ remote to n. n) (λ frame is. (is.0, get_more gone more is.0 frame is.1)) steps left

-- WHAT WAS ANSWERED

module _ (i0 : InnerValue) where
  abbrev pub HaveAnswered : (IpAddress → HardwareAddress → Type 0) → List (List ℕ) → List Step → Type 0
  HaveAnswered N gone steps = AllByRecursion (λ step. HasAnswered i0 N gone step.move) steps

  pub answered-append : (N : IpAddress → HardwareAddress → Type 0) (gone : List (List ℕ)) (steps more : List Step) → HaveAnswered N gone steps
      → HaveAnswered N gone more → HaveAnswered N gone (steps ++ more)
  answered-append N gone [] more first second = second
  answered-append N gone (step ∷ steps) more first second = (first.0, answered-append N gone steps more first.1 second)

  module _ (N N' : IpAddress → HardwareAddress → Type 0) (knew : (remote : IpAddress) (to : HardwareAddress) → N' remote to → N remote to)
      (gone gone' : List (List ℕ)) (among : (frame : List ℕ) → IsGone gone frame → IsGone gone' frame) where
    still_as_planned : (i : InnerValue) (p : PacketValue) (plan : Plan) → WasSentAsPlanned i0 N gone i p plan → WasSentAsPlanned i0 N' gone' i p plan
    still_as_planned i p plan w = record {
      formed = w.formed;
      wide = w.wide;
      was_sent = λ to is. among (frame_of i (Whole to (numbered i p))) (w.was_sent to is);
    }

    still_what : (i : InnerValue) (p : PacketValue) (plan : Plan) → (is_solicitation plan ≡ true) ⊎ WasSentAsPlanned i0 N gone i p plan →
        (is_solicitation plan ≡ true) ⊎ WasSentAsPlanned i0 N' gone' i p plan
    still_what i p plan (inl asks) = inl asks
    still_what i p plan (inr was_sent) = inr (still_as_planned i p plan was_sent)

    still_answered : (o : Option PacketValue) → IfSome o (AnswerLeft i0 N gone) → IfSome o (AnswerLeft i0 N' gone')
    still_answered None left = tt
    still_answered (Some p) left = record {
      i = left.i;
      settings = left.settings;
      ident = left.ident;
      hop_limit = λ remote to n. left.hop_limit remote to (knew remote to n);
      busy = left.busy;
      what = still_what left.i p (plan_of left.i left.busy p.header) left.what;
    }

    still_so : (move : Moves.Move) → HasAnswered i0 N gone move → HasAnswered i0 N' gone' move
    still_so (Takes at cx v ip header bytes) left = still_answered (packet_by (arrives cx v ip header bytes).answer) left
    still_so (Offers at cx v from sent) left = tt
    still_so (Invokes at cx old entry call new) left = tt
    still_so (Passes entry) left = tt
    still_so (Gives at cx v answer new sent) left = tt
    still_so (Receives at cx v ip udp bytes) left = tt
    still_so (Resets x) left = tt
    still_so (Changes at old new) left = tt

    all_answered : (steps : List Step) → HaveAnswered N gone steps → HaveAnswered N' gone' steps
    all_answered [] left = tt
    all_answered (step ∷ steps) left = (still_so step.move left.0, all_answered steps left.1)

  -- under a narrower condition
  pub answered_narrowed : (N N' : IpAddress → HardwareAddress → Type 0) (gone : List (List ℕ))
      → ((remote : IpAddress) (to : HardwareAddress) → N' remote to → N remote to) → (steps : List Step) → HaveAnswered N gone steps → HaveAnswered N' gone steps
  answered_narrowed N N' gone knew steps answered = all_answered N N' knew gone gone (λ frame is. is) steps answered

  -- as more frames went
  pub answered_more : (N : IpAddress → HardwareAddress → Type 0) (gone more : List (List ℕ)) (steps : List Step) → HaveAnswered N gone steps →
      HaveAnswered N (gone ++ more) steps
  answered_more N gone more steps answered =
      all_answered N N (λ remote to n. n) gone (gone ++ more) (λ frame is. (is.0, get_more gone more is.0 frame is.1)) steps answered
