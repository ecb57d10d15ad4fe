-- A host's turns: what one makes of it, what is written, and how a run of turns ends.
use Rattle.std.specs.Prelude.{◌≡◌, ℕ, ◌-◌, ◌^◌, ℤ, pos, Bool, List, [], ◌∷◌, ◌++◌, length, map, vec_len, Option, None, Some, Result, Ok, Err, IfSome, ⊤}
use Rattle.interface.specs.Host.{host_at}
use Rattle.interface.specs.Instant.{host_instant}
use Rattle.interface.specs.OwnWork.{OwnWork}
use Rattle.interface.specs.Polls.{Polls}
use Rattle.interface.specs.State.{State, state, at_device}
use Rattle.interface.specs.Set.{slots}
use Rattle.interface.specs.SocketStorage.{SocketStorage}
use Rattle.sockets.specs.declared.socket.Socket.{Socket}
use Rattle.app_tun_services.specs.Begins.{Begins, RefusesSettings}
use Rattle.interface.specs.Backlog.Calls.{micros_of, Refreshes, accepted}
use Rattle.interface.specs.declared.listener.entry.Entry.{Entry}
use Rattle.app_tun_services.specs.Backlogs.{on_port, keepers_of, IsListener, HostState, BacklogServes}
use Rattle.app_tun_services.specs.Idle.{moment_at}
use Rattle.app_tun_services.specs.declared.idle.Moment.{Moment}
use Rattle.app_tun_services.specs.declared.site.Session.{Session}
use Rattle.app_tun_services.specs.Tallies.{counts_of, more_waiting, collected, no_more}
use Rattle.app_tun_services.specs.declared.tally.Tally.{Tally}
use Rattle.app_tun_services.specs.Services.{first_slot, socket_count, FirstServes, echo_room, most_request}
use Rattle.app_tun_services.specs.Settings.{settings_in}
use Rattle.app_tun_services.specs.declared.error.ServeError.{ServeError}
use Rattle.app_tun_services.specs.declared.error.ServeError.TheVariants.{Turn as NoTurn, Settings as NoSettings, Turns}
use Rattle.app_tun_services.specs.declared.host.Host.{Host}
use Rattle.app_tun_services.specs.declared.slot.Service.TheVariants.{Streams, Page}
use Rattle.app_tun_services.specs.declared.slot.TheConstants.{ECHO_PORT, PAGE_PORT}
use Rattle.app_tun_services.specs.declared.turns.TheConstants.{LONGEST}
use Rattle.app_tun_services.specs.declared.settings.Settings.{Settings}
use Rattle.app_tun_services.specs.Link.Answer.{answer_end}
use Rattle.app_tun_services.specs.Link.Drain.{DrainValue, DrainMove, brought}
use Rattle.app_tun_services.specs.Link.Turn.{Takes, Refuses}

abbrev pub state_of : Host → HostState
state_of h = record {
  net = state h.drain h.interface (slots h.sockets);
  echoes = h.echoes.entries.items;
  pages = h.pages.entries.items;
  echo_sessions = h.echo_sessions.items;
  sessions = h.sessions.items;
  tally = h.tally;
}

-- its services' buffers have their lengths, and its listeners their sockets
pub record IsSetUp (h : Host) : Type 0 where
  pub buffer : vec_len h.buffer ≡ echo_room
  pub request : vec_len h.request ≡ most_request
  pub echoes : IsListener Streams h.echoes
  pub pages : IsListener Page h.pages
  pub echo_sessions : vec_len h.echo_sessions ≡ socket_count Streams
  pub sessions : vec_len h.sessions ≡ socket_count Page

-- A TURN

-- how many frames a poll takes, and how many passes over the sockets it makes, at most
unfoldable pub budget : ℕ
budget = 64

-- the packet comes to the device; one of no bytes is none, and one that is too long is dropped
abbrev pub with_packet : State DrainValue → List ℕ → State DrainValue
with_packet s packet = at_device s (brought packet s.device)

-- sockets, how far those of the listeners came, and what the page's connections are in the middle of
pub record Served : Type 0 where
  pub sockets : List (SocketStorage Socket)
  pub echoes : List Entry
  pub pages : List Entry
  pub echo_sessions : List Session
  pub sessions : List Session

abbrev pub served_of : List (SocketStorage Socket) → List Entry → List Entry → List Session → List Session → Served
served_of sockets echoes pages echo_sessions sessions =
    record { sockets = sockets; echoes = echoes; pages = pages; echo_sessions = echo_sessions; sessions = sessions }

-- the datagrams are served, and the connections that were accepted
pub record ServicesServe (m : Moment) (old new : Served) : Type 0 where
  pub datagrams : List (SocketStorage Socket)
  pub streams : List (SocketStorage Socket)
  pub serves_datagrams : FirstServes m old.sockets datagrams
  pub serves_streams : BacklogServes m (first_slot Streams) Streams datagrams old.echo_sessions (map accepted old.echoes) streams new.echo_sessions new.echoes
  pub serves_pages : BacklogServes m (first_slot Page) Page streams old.sessions (map accepted old.pages) new.sockets new.sessions new.pages

-- The listeners see how far their sockets came; then the services do what can be done, and what they counted is taken over. A page of
-- counts has those of the turn's beginning.
pub record AreServed (instant : ℤ) (d : DrainValue) (old : Served) (t : Tally) (new : Served) (t' : Tally) : Type 0 where
  pub seen : List (SocketStorage Socket)
  pub ready : Served
  pub done : List Session
  pub sees_echoes : Refreshes (on_port ECHO_PORT) (micros_of instant) (keepers_of Streams) old.sockets old.echoes seen ready.echoes
  pub sees_pages : Refreshes (on_port PAGE_PORT) (micros_of instant) (keepers_of Page) seen old.pages ready.sockets ready.pages
  pub same : (ready.echo_sessions ≡ old.echo_sessions) × (ready.sessions ≡ old.sessions)
  pub serves : ServicesServe (moment_at instant ready.pages ready.sessions (counts_of d (more_waiting ready.echoes ready.pages t))) ready
      (record new { sessions = done })
  pub sessions : new.sessions ≡ map no_more done
  pub tally : t' ≡ collected done (more_waiting ready.echoes ready.pages t)

-- The packet comes, the interface is polled at the turn's instant, the services do what can be done, and the interface is polled again;
-- then it is asked when it wants to be polled next. Before each poll the host does what it does of its own. Nothing but the host before, the packet and the instant goes in.
pub record TakesTurn (old : HostState) (instant : ℤ) (packet : List ℕ) (next : Option ℤ) (new : HostState) : Type 0 where
  pub come : State DrainValue
  pub done : Served
  pub gone : State DrainValue
  pub changed : Bool
  pub changed_again : Bool
  pub begun : State DrainValue
  pub works : OwnWork DrainMove instant (with_packet old.net packet) begun
  pub takes : Polls DrainMove instant budget begun changed come
  pub tally : Tally
  pub serves : AreServed instant come.device (served_of come.slots old.echoes old.pages old.echo_sessions old.sessions) old.tally done tally
  pub begun_again : State DrainValue
  pub works_again : OwnWork DrainMove instant (state come.device come.host done.sockets) begun_again
  pub sends : Polls DrainMove instant budget begun_again changed_again gone
  pub asked : next ≡ host_instant (host_at instant gone.host) gone.slots
  pub after : new ≡ record {
    net = state gone.device (host_at instant gone.host) gone.slots;
    echoes = done.echoes;
    pages = done.pages;
    echo_sessions = done.echo_sessions;
    sessions = done.sessions;
    tally = tally;
  }

-- a turn, and what is written: the packets that were sent, and the instant of the next turn. After that the device has nothing sent.
pub record Answers (old : HostState) (instant : ℤ) (packet said : List ℕ) (new : HostState) : Type 0 where
  pub next : Option ℤ
  pub turned : HostState
  pub turn : TakesTurn old instant packet next turned
  pub writes : said ≡ turned.net.device.sent ++ answer_end next
  pub emptied : new ≡ record turned { net = at_device turned.net (record turned.net.device { sent = [] }) }

-- A RUN

-- a turn that was read
pub record Turn : Type 0 where
  pub instant : ℤ
  pub packet : List ℕ

abbrev pub Begun : Option Settings → ℤ → HostState → Type 0
Begun None instant host = ⊥
Begun (Some s) instant host = Begins s instant host

-- which host takes a turn, and with which packet: the first turn brings the settings with which the host begins, and no packet
abbrev pub Arrives : Option HostState → Turn → HostState → List ℕ → Type 0
Arrives None t host packet = Begun (settings_in t.packet) t.instant host × (packet ≡ [])
Arrives (Some old) t host packet = (host ≡ old) × (packet ≡ t.packet)

pub record Serves (old : Option HostState) (t : Turn) (said : List ℕ) (new : HostState) : Type 0 where
  pub host : HostState
  pub packet : List ℕ
  pub arrives : Arrives old t host packet
  pub answers : Answers host t.instant packet said new

-- what was written in these turns, the newest first, and the host after them
abbrev pub Runs : List Turn → List ℕ → Option HostState → Type 0
Runs [] output host = (output ≡ []) × (host ≡ None)
Runs (t ∷ past) output host =
    (before : List ℕ) × (old : Option HostState) × (said : List ℕ) × (new : HostState)
    × Runs past before old × Serves old t said new × (output ≡ before ++ said) × (host ≡ Some new)

-- these turns, the newest first, stand at the front of the bytes, each at an instant that isn't before the one before it; the last
-- instant, and the bytes that are left
abbrev pub Reads : List ℕ → List Turn → ℤ → List ℕ → Type 0
Reads bytes [] last left = (last ≡ pos 0) × (left ≡ bytes)
Reads bytes (t ∷ past) last left =
    (before : ℤ) × (mid : List ℕ) × Reads bytes past before mid × Takes LONGEST before mid t.instant t.packet left × (last ≡ t.instant)

-- ITS END

abbrev pub BeginsNone : Option Settings → ServeError → Type 0
BeginsNone None NoSettings = ⊤
BeginsNone None e = ⊥
BeginsNone (Some s) e = RefusesSettings s e

-- why no host takes a turn: the first one has no settings, or none that make a host
abbrev pub ArrivesNot : Option HostState → List ℕ → ServeError → Type 0
ArrivesNot None packet e = BeginsNone (settings_in packet) e
ArrivesNot (Some host) packet e = ⊥

-- where a run ends: at the end of the bytes, at a turn that can't be read, after as many turns as are counted, or at a turn that no
-- host takes
abbrev pub Ends : Result (Unit {0}) ServeError → List Turn → Option HostState → ℤ → List ℕ → Type 0
Ends (Ok u) past host last left = left ≡ []
Ends (Err (NoTurn e)) past host last left = Refuses LONGEST last left e
Ends (Err Turns) past host last left = length past ≡ 2 ^ 64 - 1
Ends (Err e) past host last left =
    (t : Turn) × (rest : List ℕ) × Takes LONGEST last left t.instant t.packet rest × ArrivesNot host t.packet e

-- what is written is what the turns at the front of the input write, up to the end of the run
pub record IsServed (input : Option (List ℕ)) (output : List ℕ) (result : Result (Unit {0}) ServeError) : Type 0 where
  pub past : List Turn
  pub host : Option HostState
  pub runs : Runs past output host
  pub reads : IfSome input (λ bytes. (last : ℤ) × (left : List ℕ) × Reads bytes past last left × Ends result past host last left)
