-- The listeners of a host.
use Rattle.std.specs.Prelude.{◌≡◌, ℕ, ◌==◌, nat_le, Bool, false, ◌||◌, if◌then◌else◌, List, [], ◌∷◌, ◌++◌, length, map, position, slice_get, slice_set, Option}
use Rattle.std.specs.Prelude.{None, Some, is_none, Result, Ok, Err, MatchResult}
use Rattle.std.specs.List.{list_any}
use Rattle.std.specs.Option.{MatchOption}
use Rattle.ip_wire.specs.IpListenEndpoint.{IpListenEndpoint}
use Rattle.interface.specs.SocketHandle.{SocketHandle}
use Rattle.interface.specs.SocketStorage.{SocketStorage}
use Rattle.sockets.specs.AnySocket.{as_tcp}
use Rattle.sockets.specs.TcpValue.{TcpValue}
use Rattle.sockets.specs.declared.socket.Socket.{Socket}
use Rattle.sockets.specs.TcpStates.{is_closed}
use Rattle.interface.specs.Backlog.Calls.{initial_entry, Refreshes, Accepts, given_back}
use Rattle.interface.specs.declared.listener.entry.Entry.{Entry}
use Rattle.interface.specs.declared.listener.Listener.{Listener}
use Rattle.c_calls.specs.Slots.{answer_at}
use Rattle.c_calls.specs.declared.code.Code.{Code}
use Rattle.c_calls.specs.declared.code.Code.TheVariants as Is
use Rattle.c_calls.specs.Host.{StackValue}
use Rattle.c_calls.specs.Numbers.{slot_of, number_of, is_some_socket, socket_named, without_socket}
use Rattle.c_calls.specs.SlotsValue.{SlotsValue}
use Rattle.c_calls.specs.declared.backlogs.Role.{Role}
use Rattle.c_calls.specs.declared.backlogs.Role.TheVariants as For

-- a host has sixteen at most
abbrev pub most_listeners : ℕ
most_listeners = 16

-- BEHIND A POLL

-- each listener in turn sees how far its sockets came; nothing else changes of it
abbrev pub RefreshesOne : ℕ → Listener → List (SocketStorage Socket) → Listener → List (SocketStorage Socket) → Type 0
RefreshesOne now l ps l' ps' =
    Refreshes l.endpoint now l.keepers.items ps l.entries.items ps' l'.entries.items
    × (l'.endpoint ≡ l.endpoint) × (l'.keepers.items ≡ l.keepers.items)

abbrev pub RefreshesAt : ℕ → Option Listener → List (SocketStorage Socket) → Option Listener → List (SocketStorage Socket) → Type 0
RefreshesAt now None ps l' ps' = (l' ≡ None) × (ps' ≡ ps)
RefreshesAt now (Some l) ps l' ps' = MatchOption l' ⊥ (λ l'. RefreshesOne now l ps l' ps')

abbrev pub RefreshesAll : ℕ → List (Option Listener) → List (SocketStorage Socket) → List (Option Listener) → List (SocketStorage Socket) → Type 0
RefreshesAll now [] ps ls' ps' = (ls' ≡ []) × (ps' ≡ ps)
RefreshesAll now (l ∷ ls) ps [] ps' = ⊥
RefreshesAll now (l ∷ ls) ps (l' ∷ ls') ps' =
    (seen : List (SocketStorage Socket)) × RefreshesAt now l ps l' seen × RefreshesAll now ls seen ls' ps'

-- MADE AND GIVEN UP

abbrev pub listener_slot_by : Option ℕ → List (Option Listener) → ℕ
listener_slot_by None ls = length ls
listener_slot_by (Some slot) ls = slot

-- the first free place of a listener, or one after the others
abbrev pub listener_slot : List (Option Listener) → ℕ
listener_slot ls = listener_slot_by (position is_none ls) ls

abbrev pub put_by : Option ℕ → List (Option Listener) → Listener → List (Option Listener)
put_by None ls l = ls ++ Some l ∷ []
put_by (Some slot) ls l = slice_set ls slot (Some l)

abbrev pub IsNewAt : IpListenEndpoint → Listener → Type 0
IsNewAt endpoint l = (l.endpoint ≡ endpoint) × (l.entries.items ≡ []) × (l.keepers.items ≡ [])

-- the listener is at its slot, or there is no memory and nothing changes
abbrev pub IsPut : List (Option Listener) → Listener → Result ℕ Code → List (Option Listener) → Type 0
IsPut ls l result ls' =
    MatchResult result (λ n. (n ≡ listener_slot ls) × (ls' ≡ put_by (position is_none ls) ls l)) (λ code. (code ≡ Is.Memory) × (ls' ≡ ls))

-- why there can be none, but for memory
abbrev pub listener_refusal : IpListenEndpoint → List (Option Listener) → Option Code
listener_refusal endpoint ls =
    if endpoint.port == 0 then Some Is.Unaddressable
    else if nat_le most_listeners (listener_slot ls) then Some Is.TableFull
    else None

abbrev pub MakesListenerUnless : Option Code → IpListenEndpoint → StackValue → Result ℕ Code → StackValue → Type 0
MakesListenerUnless (Some code) endpoint s result s' = (result ≡ Err code) × (s' ≡ s)
MakesListenerUnless None endpoint s result s' =
    (l : Listener) × ((ls : List (Option Listener)) × IsNewAt endpoint l × IsPut s.listeners l result ls × (s' ≡ record s { listeners = ls }))

abbrev pub MakesListener : IpListenEndpoint → StackValue → Result ℕ Code → StackValue → Type 0
MakesListener endpoint s result s' = MakesListenerUnless (listener_refusal endpoint s.listeners) endpoint s result s'

abbrev pub listener_in : Option (Option Listener) → Option Listener
listener_in None = None
listener_in (Some l) = l

abbrev pub listener_at : List (Option Listener) → ℕ → Option Listener
listener_at ls n = listener_in (slice_get ls n)

abbrev pub with_listener : StackValue → ℕ → Option Listener → StackValue
with_listener s n l = record s { listeners = slice_set s.listeners n l }

-- it is given up: its sockets stay as they are
abbrev pub is_there : Option Listener → Result (Unit {0}) Code
is_there None = Err Is.NoListener
is_there (Some l) = Ok tt

abbrev pub without_listener : Option Listener → StackValue → ℕ → StackValue
without_listener None s n = s
without_listener (Some l) s n = with_listener s n None

-- SOCKETS OF A BACKLOG

abbrev pub has_slot : ℕ → Option Listener → Bool
has_slot n None = false
has_slot n (Some l) = list_any (λ (e : Entry). e.handle.0 == n) l.entries.items || list_any (λ (h : SocketHandle). h.0 == n) l.keepers.items

-- the socket at the slot is in a backlog, or a keeper
abbrev pub is_in_backlog : List (Option Listener) → ℕ → Bool
is_in_backlog ls n = list_any (has_slot n) ls

-- only a closed socket is taken
abbrev pub closed_in : TcpValue → Result (Unit {0}) Code
closed_in v = if is_closed v.tcb.state then Ok tt else Err Is.InvalidState

abbrev pub unless_held : Bool → Result (Unit {0}) Code → Result (Unit {0}) Code
unless_held held (Err code) = Err code
unless_held held (Ok u) = if held then Err Is.InBacklog else Ok tt

-- whether the socket may be taken: there is one of this number, of TCP, closed, and in no backlog
abbrev pub may_be_taken : StackValue → ℕ → Result (Unit {0}) Code
may_be_taken s socket = unless_held (is_in_backlog s.listeners (slot_of socket)) (answer_at as_tcp closed_in s.slots socket)

abbrev pub handle : ℕ → SocketHandle
handle n = record { 0 = n }

-- the same but for what its vectors have room for
abbrev pub IsSame : Listener → Listener → Type 0
IsSame l l' = (l'.endpoint ≡ l.endpoint) × (l'.entries.items ≡ l.entries.items) × (l'.keepers.items ≡ l.keepers.items)

abbrev pub HasEntry : ℕ → Listener → Listener → Type 0
HasEntry socket l l' =
    (l'.endpoint ≡ l.endpoint) × (l'.entries.items ≡ l.entries.items ++ initial_entry (handle (slot_of socket)) ∷ []) × (l'.keepers.items ≡ l.keepers.items)

abbrev pub HasKeeper : ℕ → Listener → Listener → Type 0
HasKeeper socket l l' =
    (l'.endpoint ≡ l.endpoint) × (l'.entries.items ≡ l.entries.items) × (l'.keepers.items ≡ l.keepers.items ++ handle (slot_of socket) ∷ [])

-- what becomes of a listener that takes the socket in
abbrev pub Has : Role → ℕ → Listener → Listener → Type 0
Has For.Entry = HasEntry
Has For.Keeper = HasKeeper

-- the listener changes so, or there is no memory and it is the same
abbrev pub Grows : (Listener → Listener → Type 0) → Listener → Result (Unit {0}) Code → Listener → Type 0
Grows Changes l result l' = MatchResult result (λ u. Changes l l') (λ code. (code ≡ Is.Memory) × IsSame l l')

-- where there is a listener; else the call is refused
abbrev pub WhereThere : {A : Type 0} → (Listener → Result A Code → Option Listener → Type 0) → Option Listener → Result A Code → Option Listener → Type 0
WhereThere Does None result l' = (result ≡ Err Is.NoListener) × (l' ≡ None)
WhereThere Does (Some l) result l' = Does l result l'

-- a call of the listener at a slot, which leaves another there
abbrev pub OnSlot : {A : Type 0} → (Listener → Result A Code → Option Listener → Type 0) → Option Listener → List (Option Listener) → ℕ → Result A Code →
    List (Option Listener) → Type 0
OnSlot Does None ls n result ls' = (result ≡ Err Is.NoListener) × (ls' ≡ ls)
OnSlot Does (Some l) ls n result ls' = (l' : Option Listener) × Does l result l' × (ls' ≡ slice_set ls n l')

-- the same of a host's, of which nothing else changes
abbrev pub OnListener : {A : Type 0} → (Listener → Result A Code → Option Listener → Type 0) → Option Listener → StackValue → ℕ → Result A Code →
    StackValue → Type 0
OnListener Does l s n result s' =
    (ls : List (Option Listener)) × OnSlot Does l s.listeners n result ls × (s' ≡ record s { listeners = ls })

abbrev pub Grown : (Listener → Listener → Type 0) → Result (Unit {0}) Code → Listener → Result (Unit {0}) Code → Option Listener → Type 0
Grown Changes (Err code) l result l' = (result ≡ Err code) × (l' ≡ Some l)
Grown Changes (Ok u) l result l' = MatchOption l' ⊥ (λ l'. Grows Changes l result l')

-- the listener takes a socket in, or says why not, and is the same
abbrev pub Takes : (Listener → Listener → Type 0) → StackValue → ℕ → ℕ → Result (Unit {0}) Code → StackValue → Type 0
Takes Changes s n socket result s' = OnListener (Grown Changes (may_be_taken s socket)) (listener_at s.listeners n) s n result s'

-- ACCEPTING

abbrev pub numbered : SlotsValue → Result ℕ Code → Result ℕ Code
numbered s (Ok slot) = Ok (number_of s.tags slot)
numbered s (Err code) = Err code

-- the connection that has waited for longest is its user's
abbrev pub AcceptsOne : Option SocketHandle → Listener → Listener → Type 0
AcceptsOne h l l' = Accepts l.entries.items h l'.entries.items × (l'.endpoint ≡ l.endpoint) × (l'.keepers.items ≡ l.keepers.items)

abbrev pub Accepted : Listener → Result ℕ Code → Option Listener → Type 0
Accepted l result l' = MatchOption l' ⊥ (λ l'.
    MatchResult result (λ slot. AcceptsOne (Some (handle slot)) l l') (λ code. (code ≡ Is.Empty) × AcceptsOne None l l'))

-- what is answered is the number of the socket at that slot
abbrev pub AcceptsFrom : StackValue → ℕ → Result ℕ Code → StackValue → Type 0
AcceptsFrom s n result s' =
    (slot : Result ℕ Code) × OnListener Accepted (listener_at s.listeners n) s n slot s' × (result ≡ numbered s.slots slot)

abbrev pub IsGivenBack : ℕ → Listener → Listener → Type 0
IsGivenBack socket l l' =
    (l'.endpoint ≡ l.endpoint) × (l'.entries.items ≡ map (given_back (handle (slot_of socket))) l.entries.items) × (l'.keepers.items ≡ l.keepers.items)

abbrev pub GivenBack : Result (Unit {0}) Code → ℕ → Listener → Result (Unit {0}) Code → Option Listener → Type 0
GivenBack (Err code) socket l result l' = (result ≡ Err code) × (l' ≡ Some l)
GivenBack (Ok u) socket l result l' = MatchOption l' ⊥ (λ l'. (result ≡ Ok tt) × IsGivenBack socket l l')

-- an accepted socket ends, and listens again when its connection has ended
abbrev pub GivesBack : StackValue → ℕ → ℕ → Result (Unit {0}) Code → StackValue → Type 0
GivesBack s n socket result s' =
    OnListener (GivenBack (is_some_socket (socket_named s.slots socket)) socket) (listener_at s.listeners n) s n result s'

-- A SOCKET THAT IS REMOVED

abbrev pub removed_answer : Bool → Option Socket → Result (Unit {0}) Code
removed_answer held None = Err Is.NoSocket
removed_answer held (Some socket) = if held then Err Is.InBacklog else Ok tt

-- whether the socket may go: there is one of this number, and no listener has it
abbrev pub may_be_removed : StackValue → ℕ → Result (Unit {0}) Code
may_be_removed s n = removed_answer (is_in_backlog s.listeners (slot_of n)) (socket_named s.slots n)

abbrev pub removed_by : Result (Unit {0}) Code → StackValue → ℕ → StackValue
removed_by (Err code) s n = s
removed_by (Ok u) s n = record s { slots = without_socket s.slots (slot_of n) }
