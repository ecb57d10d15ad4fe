-- What services leave as it was: what users wrote and read, leave to send that is there after them, and connections.
use Rattle.std.proofs.Common.{◌≡◌, ℕ, ◌+◌, ◌-◌, ◌<◌, ℤ, Bool, true, false, ◌&&◌, List, [], ◌∷◌, ◌++◌, length, Option, Some, None, IsTrue, refl, sym, ap, ◌∙◌, subst, arith}
use Rattle.std.specs.Prelude.{nat_lt, slice_index_or}
use Rattle.std.specs.List.{AllByRecursion}
use Rattle.net_base.specs.Device.{gives_tokens}
use Rattle.tcp_block.specs.State.{State}
use Rattle.tcp_block.specs.Value.{TcpValue, room_of}
use Rattle.tcp_liveness.specs.Arrivals.{is_synchronized}
use Rattle.tcp_liveness.specs.Pair.{HasStream}
use Rattle.tcp_refinement.specs.Tie.{Past}
use Rattle.lan.specs.declared.at_link.history.answer.Answer.{Answer}
use Rattle.lan.specs.declared.at_link.history.event.Event.{Event}
use Rattle.lan.specs.declared.at_link.history.event.Event.TheVariants as E
use Rattle.lan.specs.declared.at_link.history.event.Side.{Side}
use Rattle.lan.specs.declared.at_link.history.event.Side.TheVariants.{A, B}
use Rattle.lan.specs.Worlds.AtLink.History.{Entry, call_in, read, written}
use Rattle.lan.specs.Worlds.AtLink.Kinds.{Delivered, kind_of, other}
use Rattle.lan.specs.Worlds.AtLink.Moves.{IsRun, Step, run}
use Rattle.lan.specs.Worlds.AtLink.Origins.{handed}
use Rattle.lan.specs.Worlds.AtLink.Paired.{told}
use Rattle.lan.specs.Worlds.AtLink.Parties.{Net, Socket, party, socket_at}
use Rattle.lan.specs.Worlds.AtLink.Parties.Socket.{Icmp, Raw, Tcp, Udp}
use Rattle.lan.specs.Worlds.AtLink.Runs.{AreAlone, Starts}
use Rattle.lan.specs.Worlds.AtLink.Node.{NodeValue, Nodes, node}
use Rattle.lan.specs.Worlds.AtLink.Steps.{Happens}
use Rattle.lan.specs.Worlds.Moves.Follows.{IsNetOf, sockets_of}
use Rattle.lan.specs.Worlds.Settling.{IsService}
use Rattle.lan.specs.Worlds.Still.{StillRun}
use Rattle.lan.proofs.Worlds.Alone.{alone_at}
use Rattle.lan.proofs.Worlds.AtLink.HostSteps.{told_left}
use Rattle.lan.proofs.Worlds.Hosts.Polling.{polled}
use Rattle.lan.proofs.Worlds.Moves.Calls.{names}
use Rattle.lan.proofs.Worlds.Moves.Nets.{either_side}
use Rattle.sim_link.specs.Port.{LinkEnd, has_tx_token}
use Rattle.proof_stack.specs.Progress.Ends.{AreThroughout}
use Rattle.proof_stack.specs.Progress.Events.{AreOfEvent, MoveBy, shown_in, untimed}
use Rattle.proof_stack.specs.Progress.Moving.{IsTcp}
use Rattle.proof_stack.specs.Progress.Reach.{hosts_before}
use Rattle.proof_stack.specs.Progress.Serving.{GiveTxToken, GivesTxToken, IsAtHost, KeepsStreamBy}
use Rattle.proof_stack.specs.Progress.Unread.{HasRoomForAll, HasRoomThroughout}
use Rattle.proof_stack.proofs.EventFacts.{both_now, net_at}
use Rattle.proof_stack.proofs.EventSlots.{all_moved, at_net}
use Rattle.proof_stack.proofs.Polls.Connected.{StaysLate, then_late}

abbrev pub AreServices : List Entry → Type 0
AreServices more = AllByRecursion (λ e. IsService e.event) more

-- WHAT A HISTORY TELLS

service_none : (event : Event) (side : Side) (i : ℕ) → IsService event → call_in (kind_of event) side i ≡ None
service_none (E.Poll s t budget) side i is = refl
service_none (E.PollAt s t) side i is = refl
service_none (E.Deliver from k padding) side i is = refl
service_none event side i is = absurd is

pub told_stays : (past more : List Entry) (side : Side) (i : ℕ) → AreServices more → told (more ++ past) side i ≡ told past side i
told_stays past [] side i are = refl
told_stays past (e ∷ more) side i are = told_left (more ++ past) e side i (service_none e.event side i are.0) ∙ told_stays past more side i are.1

pub streams_stay : (past more : List Entry) (side : Side) (slot : ℕ) → AreServices more → HasStream (told past side slot) → KeepsStreamBy slot side past more
streams_stay past [] side slot are stream = stream
streams_stay past (e ∷ more) side slot are stream = (
  streams_stay past more side slot are.1 stream,
  subst (λ (x : Past). HasStream x) (sym (told_stays past (e ∷ more) side slot are)) stream,
)

-- LEAVE

abbrev pub HaveLeave : Nodes → Type 0
HaveLeave hosts = (s : Side) → IsTrue (has_tx_token (node hosts s).link)

both_parts : (a b a' b' : Bool) → (a && b) ≡ true → (a ≡ true → a' ≡ true) → b' ≡ b → (a' && b') ≡ true
both_parts true true a' b' is by same = subst (λ (x : Bool). (x && b') ≡ true) (sym (by refl)) same
both_parts true false a' b' is by same = absurd (cc)
both_parts false b a' b' is by same = absurd (cc)

some_room : (room gone left : ℕ) → left ≡ room - gone → nat_lt 0 left ≡ true → nat_lt 0 room ≡ true
some_room room gone left is some = grind (arith, is, some)

leave_before : (old new : LinkEnd) (gone : ℕ) → new.room ≡ old.room - gone → new.refusals ≡ old.refusals → IsTrue (has_tx_token new) → IsTrue (has_tx_token old)
leave_before old new gone room refusals given =
    both_parts (nat_lt 0 new.room) (gives_tokens new.refusals) (nat_lt 0 old.room) (gives_tokens old.refusals) given
    (some_room old.room gone new.room room) (ap gives_tokens (sym refusals))

handed_leave : (old : Nodes) (from : Side) (k : ℕ) (padding : List ℕ) (s : Side) → IsTrue (has_tx_token (node (handed old (Delivered from k padding)) s).link)
    → IsTrue (has_tx_token (node old s).link)
handed_leave old A k padding A given = given
handed_leave old A k padding B given = given
handed_leave old B k padding A given = given
handed_leave old B k padding B given = given

back : (old new : Nodes) (event : Event) (answer : Answer) (found : Option State) → IsService event → AreAlone old → Happens old (kind_of event) answer found new
    → HaveLeave new → HaveLeave old
back old new (E.Poll side t budget) answer found is alone happens leave =
    let at = happens.acts.1 in
    let it = polled (node old side) (node new side) t budget happens.acts.0 at in
    either_side side (λ s. IsTrue (has_tx_token (node old s).link))
    (leave_before (node old side).link (node new side).link _ it.room (at.none_denied (alone_at old alone side)) (leave side))
    (subst (λ (x : NodeValue). IsTrue (has_tx_token x.link)) happens.rests (leave (other side)))
back old new (E.PollAt side t) answer found is alone happens leave =
    either_side side (λ s. IsTrue (has_tx_token (node old s).link))
    (subst (λ (x : NodeValue). IsTrue (has_tx_token x.link)) happens.acts.2 (leave side))
    (subst (λ (x : NodeValue). IsTrue (has_tx_token x.link)) happens.rests (leave (other side)))
back old new (E.Deliver from k padding) answer found is alone happens leave =
    λ s. handed_leave old from k padding s (subst (λ (x : Nodes). IsTrue (has_tx_token (node x s).link)) happens.2 (leave s))
back old new event answer found is alone happens leave = absurd is

gives : (hosts : Nodes) (event : Event) → IsService event → HaveLeave hosts → GivesTxToken (kind_of event) hosts
gives hosts (E.Poll side t budget) is leave = leave side
gives hosts (E.PollAt side t) is leave = tt
gives hosts (E.Deliver from k padding) is leave = tt
gives hosts event is leave = absurd is

pub leave_throughout : (starts : Starts) (past more : List Entry) (hosts : Nodes) (still : StillRun starts (more ++ past) hosts) → AreServices more
    → HaveLeave hosts → GiveTxToken starts past more hosts still
leave_throughout starts past [] hosts still are leave = tt
leave_throughout starts past (e ∷ more) hosts still are leave = (
  leave_throughout starts past more still.0 still.1 are.1 (back still.0 hosts e.event e.answer e.found are.0 still.2.alone still.2.happens leave),
  gives hosts e.event are.0 leave,
)

-- CONNECTIONS

pub at_host : (net : Net) (hosts : Nodes) (history : List Entry) → IsNetOf net hosts history → (side : Side) (slot : ℕ) (v : TcpValue) (P : TcpValue → Type 0)
    → socket_at (party net side) slot ≡ Some (Tcp v) → P v → IsAtHost slot (node hosts side) P
at_host net hosts history of side slot v P stands is =
    subst (λ (o : Option Socket). IsTcp o P) (sym stands ∙ ap (λ (ss : List (Option Socket)). slice_index_or ss slot None) (of.sockets side)) is

module _ (slots : Side → ℕ) (was : Side → TcpValue) where
  -- each socket is past its opening, with the timestamps and the receive buffer that it had
  abbrev pub Stays : Side → TcpValue → Type 0
  Stays s w = StaysLate (was s) w

  abbrev At : Nodes → Side → Type 0
  At hosts s = IsAtHost (slots s) (node hosts s) (Stays s)

  handed_at : (old : Nodes) (from : Side) (k : ℕ) (padding : List ℕ) (s : Side) → At old s → At (handed old (Delivered from k padding)) s
  handed_at old A k padding A is = is
  handed_at old A k padding B is = is
  handed_at old B k padding A is = is
  handed_at old B k padding B is = is

  by_event : (e : Entry) (event : Event) (history : List Entry) (old new : Nodes) (net : Net) (steps : List Step) (shown : Side → ℤ) → IsService event
      → AreOfEvent e (kind_of event) shown steps → Happens old (kind_of event) e.answer e.found new → IsRun names net steps → IsNetOf net old history
      → IsNetOf (run net steps) new (e ∷ history) → ((s : Side) → At old s) → (s : Side) → At new s
  by_event e (E.Poll side t budget) history old new net steps shown is are happens may of ends both =
      let it = at_net net old history side (slots side) (Stays side) of (both side) in
      let then_it = all_moved e t side (slots side) steps net it.0 are may it.1 it.2.late in
      either_side side (At new)
      (at_host (run net steps) new (e ∷ history) ends side (slots side) then_it.new (Stays side) then_it.stands
      (then_late (was side) it.0 then_it.new it.2 then_it.stays))
      (subst (λ (x : NodeValue). IsAtHost (slots (other side)) x (Stays (other side))) (sym happens.rests) (both (other side)))
  by_event e (E.PollAt side t) history old new net steps shown is are happens may of ends both =
      either_side side (At new) (subst (λ (x : NodeValue). IsAtHost (slots side) x (Stays side)) (sym happens.acts.2) (both side))
      (subst (λ (x : NodeValue). IsAtHost (slots (other side)) x (Stays (other side))) (sym happens.rests) (both (other side)))
  by_event e (E.Deliver from k padding) history old new net steps shown is are happens may of ends both =
      λ s. subst (λ (x : Nodes). At x s) (sym happens.2) (handed_at old from k padding s (both s))
  by_event e event history old new net steps shown is are happens may of ends both = absurd is

  pub stay_throughout : (starts : Starts) (net : Net) (past more : List Entry) (hosts : Nodes) (still : StillRun starts (more ++ past) hosts)
      (moves : List (ℤ × Step)) → MoveBy starts net past more hosts still moves → AreServices more
      → ((s : Side) → At (hosts_before starts past more hosts still) s) → AreThroughout Stays starts slots past more hosts still
  stay_throughout starts net past [] hosts still moves by are first = first
  stay_throughout starts net past (e ∷ more) hosts still moves (before, these, is, by, happens) are first =
      let so_far = stay_throughout starts net past more still.0 still.1 before by are.1 first in (
        so_far,
        by_event e e.event (more ++ past) still.0 hosts (run net (untimed before)) these (shown_in starts (more ++ past)) are.0 happens.are still.2.happens happens.may
            (net_at starts net past more still.0 still.1 before by) happens.of (both_now Stays starts slots past more still.0 still.1 so_far),
      )

-- both at once

tcp_both : (P Q R : TcpValue → Type 0) → ((v : TcpValue) → P v → Q v → R v) → (o : Option Socket) → IsTcp o P → IsTcp o Q → IsTcp o R
tcp_both P Q R by None p q = absurd p
tcp_both P Q R by (Some (Tcp v)) p q = by v p q
tcp_both P Q R by (Some (Udp v)) p q = absurd p
tcp_both P Q R by (Some Icmp) p q = absurd p
tcp_both P Q R by (Some Raw) p q = absurd p

pub both_throughout : (P Q R : Side → TcpValue → Type 0) → ((s : Side) (v : TcpValue) → P s v → Q s v → R s v) → (starts : Starts) (slots : Side → ℕ)
    (past more : List Entry) (hosts : Nodes) (still : StillRun starts (more ++ past) hosts) → AreThroughout P starts slots past more hosts still
    → AreThroughout Q starts slots past more hosts still → AreThroughout R starts slots past more hosts still
both_throughout P Q R by starts slots past [] hosts still p q =
    λ s. tcp_both (P s) (Q s) (R s) (by s) (slice_index_or (sockets_of (node hosts s).slots) (slots s) None) (p s) (q s)
both_throughout P Q R by starts slots past (e ∷ more) hosts still p q = (
  both_throughout P Q R by starts slots past more still.0 still.1 p.0 q.0,
  λ s. tcp_both (P s) (Q s) (R s) (by s) (slice_index_or (sockets_of (node hosts s).slots) (slots s) None) (p.1 s) (q.1 s),
)

-- ROOM

abbrev pub Sized : (Side → ℕ) → Side → TcpValue → Type 0
Sized rooms s v = (is_synchronized v.tcb.state ≡ true) × (room_of v.received ≡ rooms s)

module _ (starts : Starts) (slots : Side → ℕ) (side : Side) (rooms : Side → ℕ) (past : List Entry)
    (first : length (written past (other side) (slots (other side))) < length (read past side (slots side)) + rooms side) where
  now_room : (more : List Entry) → AreServices more → (v : TcpValue) → Sized rooms side v → Unit {0} → HasRoomForAll (more ++ past) slots side v
  now_room more are v sized any =
      let wrote = ap (λ (x : Past). length x.written) (told_stays past more (other side) (slots (other side)) are) in
      let came = ap (λ (x : Past). length x.read) (told_stays past more side (slots side) are) in
      let room = sized.1 in
      (sized.0, omega (arith, wrote, came, room, first))

  at_slot : (o : Option Socket) (P : TcpValue → Type 0) → IsTcp o (Sized rooms side) → ((v : TcpValue) → Sized rooms side v → P v) → IsTcp o P
  at_slot o P is by = tcp_both (Sized rooms side) (Sized rooms side) P (λ v one two. by v one) o is is

  pub room_throughout : (more : List Entry) (hosts : Nodes) (still : StillRun starts (more ++ past) hosts) → AreServices more
      → AreThroughout (Sized rooms) starts slots past more hosts still → HasRoomThroughout starts slots side past more hosts still
  room_throughout [] hosts still are sized =
      at_slot (slice_index_or (sockets_of (node hosts side).slots) (slots side) None) (HasRoomForAll past slots side) (sized side)
      (λ v is. now_room [] tt v is tt)
  room_throughout (e ∷ more) hosts still are sized = (
    room_throughout more still.0 still.1 are.1 sized.0,
    at_slot (slice_index_or (sockets_of (node hosts side).slots) (slots side) None) (HasRoomForAll (e ∷ more ++ past) slots side) (sized.1 side)
        (λ v is. now_room (e ∷ more) are v is tt),
  )
