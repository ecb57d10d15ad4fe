-- Over a link that brings what is sent, and where hosts are polled, each segment that the socket of an end sends comes to the other end in time.
use Rattle.std.proofs.Common.{◌≡◌, ◌≢◌, ℕ, Bool, true, false, ℤ, List, [], ◌∷◌, Option, Some}
use Rattle.std.proofs.Common.{refl, sym, ap, ◌∙◌, subst}
use Rattle.std.specs.Prelude.{slice_get}
use Rattle.std.specs.List.{AllByRecursion}
use Rattle.wire_ip.specs.Ip.{destination_of, source_of}
use Rattle.tcp_state.specs.Endpoints.{remote_of}
use Rattle.tcp_state.specs.States.{is_listening}
use Rattle.ip_wire.specs.HardwareAddress.{HardwareAddress}
use Rattle.ip_wire.specs.IpAddress.{IpAddress}
use Rattle.tcp_state.specs.declared.endpoints.FourTuple.{FourTuple}
use Rattle.tcp_state.specs.declared.state.State.{State as TcpState}
use Rattle.tcp_state.specs.declared.state.State.TheVariants as In
use Rattle.tcp_block.specs.Arrival.{arrives}
use Rattle.tcp_block.specs.Offers.{offer_of, offered_packet}
use Rattle.tcp_block.specs.Reply.{Reply}
use Rattle.tcp_block.specs.Value.{TcpValue}
use Rattle.tcp_liveness.specs.Arrivals.{is_synchronized}
use Rattle.tcp_liveness.specs.Sent.{is_early}
use Rattle.tcp_refinement.specs.Host.{Made, made_of}
use Rattle.iface_ingress.specs.Delivered.{packet_by}
use Rattle.iface_ingress.specs.Socket.TheVariants as Kind
use Rattle.iface_tables.specs.Inner.{InnerValue}
use Rattle.lan.specs.declared.at_link.history.event.Side.{Side}
use Rattle.lan.specs.Worlds.AtLink.Happening.{sent_in}
use Rattle.lan.specs.Worlds.AtLink.History.{Entry}
use Rattle.lan.specs.Worlds.AtLink.Kinds.{other}
use Rattle.lan.specs.Worlds.AtLink.Moves.{IsRun, May, Move, Step, after, run}
use Rattle.lan.specs.Worlds.AtLink.Moves.Move.{Invokes, Passes, Offers, Gives, Takes, Receives, Resets, Changes}
use Rattle.lan.specs.Worlds.AtLink.Paired.{Seat}
use Rattle.lan.specs.Worlds.AtLink.Parties.{Net, party, socket_at}
use Rattle.lan.specs.Worlds.AtLink.Parties.Socket.{Tcp}
use Rattle.lan.specs.Worlds.AtLink.Tables.{Slots}
use Rattle.lan.specs.Worlds.Moves.Answered.{AnswerLeft, HasAnswered}
use Rattle.lan.specs.Worlds.Moves.WasSent.{HasLeft, LeftFrom}
use Rattle.lan.proofs.Worlds.AtLink.Runs.{Kept, step_by}
use Rattle.lan.proofs.Worlds.Moves.Calls.{names}
use Rattle.lan.proofs.Worlds.Moves.Offering.{some_so}
use Rattle.proof_stack.specs.Progress.Events.{IsOfPoll}
use Rattle.proof_stack.proofs.EventCarried.{WentIn}
use Rattle.proof_stack.proofs.EventFrames.{IsFrameOf}
use Rattle.proof_stack.proofs.EventHeard.{GoesIn, IsReadyHost, answer, answer_goes, offer_goes, p, packet_is}
use Rattle.proof_stack.proofs.EventMade.{AreOpened, IsNoReset, Makes, are_opened_then, new_of}
use Rattle.proof_stack.proofs.EventNamed.{Its, IsOurs, Stands, named_yet, ours_then, same_tcp}
use Rattle.proof_stack.proofs.EventSlots.{Later, step_moved}

clash : {X : Type 0} → true ≡ false → X
clash {X} e = absurd cc

late_not : (v : TcpValue) → is_early v.tcb.state ≡ false → is_listening v.tcb.state ≡ false
late_not v late = by v.tcb.state late where
  by : (state : TcpState) → is_early state ≡ false → is_listening state ≡ false
  by In.Listen late = clash late
  by other late = refl

-- A STEP THAT BRINGS A SEGMENT

abbrev pub IsBroughtBy : ℕ → Made → Move → Type 0
IsBroughtBy slot x (Takes at cx v ip header bytes) = (at ≡ slot) × (x ≡ made_of (source_of ip) (destination_of ip) header bytes)
IsBroughtBy slot x move = ⊥

abbrev pub Brings : (Side → ℕ) → Side → Made → Step → Type 0
Brings slots side x step = (step.side ≡ other side) × IsBroughtBy (slots (other side)) x step.move

-- a move of a poll is no reset
pub poll_quiet : (e : Entry) (t : ℤ) (move : Move) → IsOfPoll e t move → IsNoReset move
poll_quiet e t (Offers at cx v from sent) of = tt
poll_quiet e t (Takes at cx v ip header bytes) of = tt
poll_quiet e t (Gives at cx v given new sent) of = tt
poll_quiet e t (Receives at cx v ip udp bytes) of = tt
poll_quiet e t (Passes entry) of = tt
poll_quiet e t (Invokes at cx old entry call new) of = absurd of
poll_quiet e t (Resets x) of = absurd of
poll_quiet e t (Changes at old new) of = absurd of

-- A POLL

module _ (ports : Side → ℕ → ℕ) (pls : Slots) (of_names : pls.names ≡ names) (seats : Side → Seat) (pairs : Side → FourTuple) (own : Side → HardwareAddress)
    (e : Entry) (t : ℤ) (side : Side) (i0 : InnerValue) (K : Type 0) (N : IpAddress → HardwareAddress → Type 0) (gone : List (List ℕ))
    (knows : N (remote_of (pairs side).addresses) (own (other side))) (ready : IsReadyHost i0 (pairs side) (own side)) (local : (pairs side).local_port ≢ 0)
    (remote : (pairs side).remote_port ≢ 0) (w : TcpValue) (still : is_synchronized w.tcb.state ≡ true) where
  abbrev slot : ℕ
  slot = (seats side).slot

  abbrev AreIts : List Step → Type 0
  AreIts steps = AllByRecursion (Its e t side slot (pairs side) w still) steps

  abbrev StandsAt : Net → TcpValue → Type 0
  StandsAt net v = Stands e t side slot (pairs side) w still net v

  abbrev IsOur : TcpValue → Type 0
  IsOur v = IsOurs e t side slot (pairs side) w still v

  -- what the socket makes goes
  made_goes : (net : Net) (move : Move) (v : TcpValue) → StandsAt net v → v.tcb.names.pair ≡ Some (pairs side) → is_early v.tcb.state ≡ false
      → May names net side move → HasLeft i0 t K N gone move → HasAnswered i0 N gone move → (x : Made) → Makes slot x move
      → GoesIn i0 t K N gone (pairs side) (own side) (own (other side)) knows ready local remote x
  made_goes net (Offers at cx u from true) v stands named late may left answered x (here, o, offered, is) =
      let same : v ≡ u = same_tcp v u (sym stands ∙ subst (λ (n : ℕ). socket_at (party net side) n ≡ Some (Tcp u)) here may.0) in
      let its : u.tcb.names.pair ≡ Some (pairs side) = subst (λ (y : TcpValue). y.tcb.names.pair ≡ Some (pairs side)) same named in
      offer_goes i0 t K N gone (pairs side) (own side) (own (other side)) knows ready local remote cx u from o offered its
      (some_so (offered_packet (offer_of cx u).socket) (LeftFrom i0 t K N gone cx (Kind.Tcp u) from)
      (p i0 t K N gone (pairs side) (own side) (own (other side)) knows ready local remote cx u from o offered its)
      (packet_is i0 t K N gone (pairs side) (own side) (own (other side)) knows ready local remote cx u from o offered its) left) x is
  made_goes net (Takes at cx u ip header bytes) v stands named late may left answered x (here, reply, answers, is) =
      let same : v ≡ u = same_tcp v u (sym stands ∙ subst (λ (n : ℕ). socket_at (party net side) n ≡ Some (Tcp u)) here may.0) in
      let its : u.tcb.names.pair ≡ Some (pairs side) = subst (λ (y : TcpValue). y.tcb.names.pair ≡ Some (pairs side)) same named in
      let late_u : is_early u.tcb.state ≡ false = subst (λ (y : TcpValue). is_early y.tcb.state ≡ false) same late in
      answer_goes i0 t K N gone (pairs side) (own side) (own (other side)) knows ready local remote cx u ip header bytes reply answers its (late_not u late_u) may.1
      (some_so (packet_by (arrives cx u ip header bytes).answer) (AnswerLeft i0 N gone)
      (answer i0 t K N gone (pairs side) (own side) (own (other side)) knows ready local remote cx u ip header bytes reply answers its (late_not u late_u) may.1)
      (ap (λ (a : Option Reply). packet_by a) answers) answered) x is
  made_goes net (Offers at cx u from false) v stands named late may left answered x makes = absurd makes
  made_goes net (Invokes at cx old entry call new) v stands named late may left answered x makes = absurd makes
  made_goes net (Passes entry) v stands named late may left answered x makes = absurd makes
  made_goes net (Gives at cx u given new sent) v stands named late may left answered x makes = absurd makes
  made_goes net (Receives at cx u ip udp bytes) v stands named late may left answered x makes = absurd makes
  made_goes net (Resets y) v stands named late may left answered x makes = absurd makes
  made_goes net (Changes at old new) v stands named late may left answered x makes = absurd makes

  -- in which frame, of which side
  abbrev Goes : Side → List ℕ → Type 0
  Goes s frame = (s ≡ side) × ((n : ℕ) × (slice_get gone n ≡ Some frame))

  abbrev Went : Net → List Step → Type 0
  Went net steps = WentIn (λ s x step. Brings (λ y. (seats y).slot) s x step) (λ s x frame. IsFrameOf (pairs s) (own s) (own (other s)) x frame) (sent_in seats) Goes net steps

  pub went : (steps : List Step) (net : Net) (v : TcpValue) → Kept ports pls net → AreOpened ports pls seats net → AreIts steps → IsRun names net steps
      → AllByRecursion (λ step. HasLeft i0 t K N gone step.move) steps → AllByRecursion (λ step. HasAnswered i0 N gone step.move) steps
      → StandsAt net v → is_early v.tcb.state ≡ false → IsOur v → StandsAt (run net steps) w → Went net steps
  went [] net v kept opened all may left answered stands late ours ends = tt
  went (step ∷ steps) net v kept opened all may left answered stands late ours ends =
      let mays : May pls.names net step.side step.move = subst (λ (ns : List ℕ → Bool). May ns net step.side step.move) (sym of_names) may.0 in
      let quiet : IsNoReset step.move = poll_quiet e t step.move all.0.1 in
      let one : Later e t side slot (party (after net step) side) v =
      step_moved e t side slot net step.side step.move all.0.0 all.0.1 may.0 v stands late in
      let named = named_yet e t side slot (pairs side) w still net (step ∷ steps) v all may stands late ends ours in (
        λ s k new. (
            let (its, x, is, makes) = new_of ports pls seats net kept opened step.side step.move mays quiet s k new.0 new.1 in
            let here : s ≡ side = its ∙ all.0.0 in
            let makes_here : Makes slot x step.move = subst (λ (y : Side). Makes (seats y).slot x step.move) all.0.0 makes in
            let may_here : May names net side step.move = subst (λ (y : Side). May names net y step.move) all.0.0 may.0 in
            let goes = made_goes net step.move v stands named late may_here left.0 answered.0 x makes_here in (
              x,
              goes.0,
              is,
              subst (λ (y : Side). IsFrameOf (pairs y) (own y) (own (other y)) x goes.0) (sym here) goes.1,
              (here, goes.2),
            )),
        went steps (after net step) one.new (step_by ports pls net step.side step.move kept mays)
            (are_opened_then ports pls seats net kept opened step.side step.move mays quiet) all.1 may.1 left.1 answered.1 one.stands one.stays.late
            (ours_then e t side slot (pairs side) w still v one.new one.stays ours) ends,
      )
