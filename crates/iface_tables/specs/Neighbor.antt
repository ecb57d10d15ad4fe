-- What an interface knows of its neighbours, as a value (RFC 826; RFC 1122, section 2.3.2; RFC 4861, section 5.1).
use Rattle.std.specs.Prelude.{ℕ, ◌+◌, ℤ, pos, ◌+ℤ◌, int_lt, Bool, true, false, not, ◌&&◌, nat_lt, if◌then◌else◌, List, [], ◌∷◌, ◌++◌, length, slice_get, slice_set, remove, max}
use Rattle.std.specs.Prelude.{replicate, Option, None, Some, position}
use Rattle.ip_wire.specs.HardwareAddress.{HardwareAddress}
use Rattle.ip_wire.specs.HardwareAddress.TheVariants as Hardware
use Rattle.ip_wire.specs.IpAddress.{IpAddress}
use Rattle.ip_wire.specs.IpAddress.TheVariants as Address
use Rattle.ip_wire.specs.AddressTests.{is_same_address, is_same_hardware}
use Rattle.iface_tables.specs.Best.{at_index, index_of_first_best}
use Rattle.iface_tables.specs.declared.neighbor.Neighbor.{Neighbor}
use Rattle.iface_tables.specs.declared.neighbor.Search.{Search}
use Rattle.iface_tables.specs.declared.neighbor.Answer.{Answer}
use Rattle.iface_tables.specs.declared.neighbor.Answer.TheVariants as Known

-- The entries, the one that has stood longest first, and how many there can be; the instant until which no neighbour is asked for; and
-- the addresses that were asked for and haven't answered.
pub record CacheValue : Type 0 where
  pub entries : List Neighbor
  pub room : ℕ
  pub silent : ℤ
  pub searches : List Search
  pub search_room : ℕ

-- how many are asked for at a time, and on a network of many
abbrev pub search_room : ℕ
search_room = 8

abbrev pub search_room_of_many : ℕ
search_room_of_many = 64

-- a second and a minute, in microseconds
abbrev pub silent_time : ℕ
silent_time = 1_000_000

abbrev pub entry_lifetime : ℕ
entry_lifetime = 60_000_000

abbrev pub initial : ℕ → CacheValue
initial room = record { entries = []; room = room; silent = pos 0; searches = []; search_room = search_room }

-- on a network of many
abbrev pub for_many : CacheValue → CacheValue
for_many c = record c { search_room = search_room_of_many }

-- for so many neighbours there is room in a cache that is asked for this many: one at least
abbrev pub cache_room : ℕ → ℕ
cache_room count = max count 1

-- what stands in an unused place of a table
abbrev pub blank : Neighbor
blank = record { protocol_addr = Address.Ipv4 (record { 0 = replicate 4 0 }); hardware_addr = Hardware.Ip; expires_at = pos 0 }

-- LOOKUP

abbrev pub is_of : IpAddress → Neighbor → Bool
is_of address entry = is_same_address entry.protocol_addr address

-- where the entry of an address stands
abbrev pub neighbor_index_of : List Neighbor → IpAddress → Option ℕ
neighbor_index_of entries address = position (is_of address) entries

-- what is known of an address without an entry that is believed
abbrev pub missing : CacheValue → ℤ → Answer
missing c instant = if int_lt instant c.silent then Known.RateLimited else Known.NotFound

-- an entry is believed until it expires
abbrev pub answer_by : Option Neighbor → CacheValue → ℤ → Answer
answer_by None c instant = missing c instant
answer_by (Some entry) c instant =
    if int_lt instant entry.expires_at then Known.Found entry.hardware_addr else missing c instant

-- NEIGHBOURS THAT DON'T ANSWER

-- how often a neighbour is asked for (RFC 4861, section 10, MAX_MULTICAST_SOLICIT), and how long it then counts as without answer
abbrev pub most_requests : ℕ
most_requests = 3

abbrev pub failed_time : ℕ
failed_time = 3_000_000

-- what stands in an unused place of that table
abbrev pub no_search : Search
no_search = record { protocol_addr = Address.Ipv4 (record { 0 = replicate 4 0 }); requests = 0; answer_by = pos 0; failed_until = pos 0 }

abbrev pub is_search_for : IpAddress → Search → Bool
is_search_for address s = is_same_address s.protocol_addr address

-- where the search for an address stands, and that search
abbrev pub search_index : List Search → IpAddress → Option ℕ
search_index searches address = position (is_search_for address) searches

abbrev pub search_of : List Search → IpAddress → Option Search
search_of searches address = at_index (search_index searches address) searches

-- It was asked for three times, and none was answered within its second: for three seconds more the address is without answer.
abbrev pub is_failed : Search → ℤ → Bool
is_failed s instant = not (nat_lt s.requests most_requests) && (not (int_lt instant s.answer_by) && int_lt instant s.failed_until)

abbrev pub has_failed_by : Option Search → ℤ → Bool
has_failed_by None instant = false
has_failed_by (Some s) instant = is_failed s instant

abbrev pub has_failed : CacheValue → IpAddress → ℤ → Bool
has_failed c address instant = has_failed_by (search_of c.searches address) instant

-- what is known of an address without answer
abbrev pub unless_failed : Bool → Answer → Answer
unless_failed failed (Known.Found hardware) = Known.Found hardware
unless_failed failed Known.NotFound = if failed then Known.Unanswered else Known.NotFound
unless_failed failed Known.RateLimited = if failed then Known.Unanswered else Known.RateLimited
unless_failed failed Known.Unanswered = Known.Unanswered

abbrev pub lookup : CacheValue → IpAddress → ℤ → Answer
lookup c address instant =
    unless_failed (has_failed c address instant) (answer_by (at_index (neighbor_index_of c.entries address) c.entries) c instant)

abbrev pub is_found : Answer → Bool
is_found (Known.Found hardware) = true
is_found Known.NotFound = false
is_found Known.RateLimited = false
is_found Known.Unanswered = false

-- FILL

abbrev pub expires_before : Neighbor → Neighbor → Bool
expires_before a b = int_lt a.expires_at b.expires_at

-- where the entry stands that makes room: the first of those than which none expires before
abbrev pub victim : List Neighbor → ℕ
victim entries = index_of_first_best expires_before entries

-- An entry of the address is replaced where it stands. Else the new one comes last, and in a full table the victim goes.
abbrev pub filled_at : Option ℕ → ℕ → List Neighbor → Neighbor → List Neighbor
filled_at (Some at) room entries new = slice_set entries at new
filled_at None room entries new =
    if nat_lt (length entries) room then entries ++ new ∷ [] else remove entries (victim entries) ++ new ∷ []

-- a search that ends
abbrev pub ended_at : Option ℕ → List Search → List Search
ended_at None searches = searches
ended_at (Some at) searches = remove searches at

abbrev pub ended : List Search → IpAddress → List Search
ended searches address = ended_at (search_index searches address) searches

-- who answers isn't looked for any more
abbrev pub filled : CacheValue → Neighbor → CacheValue
filled c new = record c {
  entries = filled_at (neighbor_index_of c.entries new.protocol_addr) c.room c.entries new;
  searches = ended c.searches new.protocol_addr;
}

-- RENEWAL, SILENCE

-- an entry that has the hardware address is believed again
abbrev pub renewed_entry : Neighbor → HardwareAddress → ℤ → Neighbor
renewed_entry entry hardware instant =
    if is_same_hardware entry.hardware_addr hardware then record entry { expires_at = instant +ℤ pos entry_lifetime } else entry

-- it stays where it stands
abbrev pub renewed_at : Option ℕ → Option Neighbor → List Neighbor → HardwareAddress → ℤ → List Neighbor
renewed_at (Some at) (Some entry) entries hardware instant = slice_set entries at (renewed_entry entry hardware instant)
renewed_at index entry entries hardware instant = entries

abbrev pub is_known_by : Option Neighbor → HardwareAddress → Bool
is_known_by None hardware = false
is_known_by (Some entry) hardware = is_same_hardware entry.hardware_addr hardware

-- who is believed again isn't looked for any more
abbrev pub renewed : CacheValue → IpAddress → HardwareAddress → ℤ → CacheValue
renewed c address hardware instant = record c {
  entries = renewed_at (neighbor_index_of c.entries address) (at_index (neighbor_index_of c.entries address) c.entries) c.entries hardware instant;
  searches = if is_known_by (at_index (neighbor_index_of c.entries address) c.entries) hardware then ended c.searches address else c.searches;
}

-- after a request at this instant
abbrev pub silenced : CacheValue → ℤ → CacheValue
silenced c instant = record c { silent = instant +ℤ pos silent_time }

-- A request at this instant: the first one, or one more; after the last one the count begins again.
abbrev pub first_search : IpAddress → ℤ → Search
first_search address instant = record {
  protocol_addr = address;
  requests = 1;
  answer_by = instant +ℤ pos silent_time;
  failed_until = instant +ℤ pos (silent_time + failed_time);
}

abbrev pub count_after : ℕ → ℕ
count_after requests = if nat_lt requests most_requests then requests + 1 else 1

abbrev pub one_more : Search → ℤ → Search
one_more s instant = record (first_search s.protocol_addr instant) { requests = count_after s.requests }

-- where the search stands that makes room: the first of those than which none was asked for before
abbrev pub asked_before : Search → Search → Bool
asked_before a b = int_lt a.answer_by b.answer_by

abbrev pub oldest_search : List Search → ℕ
oldest_search searches = index_of_first_best asked_before searches

abbrev pub searched_at : ℕ → Option ℕ → Option Search → List Search → IpAddress → ℤ → List Search
searched_at room (Some at) (Some s) searches address instant = slice_set searches at (one_more s instant)
searched_at room index s searches address instant =
    if nat_lt (length searches) room then searches ++ first_search address instant ∷ []
    else remove searches (oldest_search searches) ++ first_search address instant ∷ []

-- a neighbour was asked for, and the silence begins
abbrev pub requested : CacheValue → IpAddress → ℤ → CacheValue
requested c address instant = record (silenced c instant) {
  searches = searched_at c.search_room (search_index c.searches address) (search_of c.searches address) c.searches address instant;
}

-- until when the last request for an address is to be answered, if it is asked for
abbrev pub answer_of : Option Search → Option ℤ
answer_of None = None
answer_of (Some s) = Some s.answer_by

abbrev pub last_request : CacheValue → IpAddress → Option ℤ
last_request c address = answer_of (search_of c.searches address)

-- Until when no request for an address goes that has a silence of its own: until its last one is to be answered; and where as many are asked
-- for as may, until the oldest of them is (so no more go in any second).
abbrev pub answer_due : Option Search → ℤ
answer_due None = pos 0
answer_due (Some s) = s.answer_by

abbrev pub own_silence : Option ℤ → CacheValue → ℤ
own_silence (Some until) c = until
own_silence None c = if nat_lt (length c.searches) c.search_room then pos 0 else answer_due (slice_get c.searches (oldest_search c.searches))

-- no entry and no search is left, and the silence goes on
abbrev pub flushed : CacheValue → CacheValue
flushed c = record c { entries = []; searches = [] }
