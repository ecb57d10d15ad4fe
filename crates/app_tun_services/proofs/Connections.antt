-- The connections of a service, made and served one after the other.
use Rattle.std.proofs.Common.{◌≡◌, ◌≢◌, ℕ, ◌+◌, ◌<◌, ◌≤◌, ◌==◌, Bool, true, false, List, [], ◌∷◌, ◌++◌, length, map, length-append, if◌then◌else◌, ◌&&◌, arith}
use Rattle.std.proofs.Common.{refl, sym, ap, ◌∙◌, subst, ◌⊎◌, inl, inr, Option, None, Some}
use Rattle.std.specs.Prelude.{slice_index_or, slice_set}
use Rattle.std.proofs.lemmas.Bool.{false≢true}
use Rattle.std.proofs.lemmas.List.{length-map, get_or-map, get_or-set_same, get_or-set_other, get_or_past, get_or_append_left, get_or_push, get_or_default}
use Rattle.std.proofs.lemmas.List.{set-get_or, set_past}
use Rattle.std.proofs.Math.ListN.{length-set}
use Rattle.interface.specs.Set.{free}
use Rattle.interface.specs.Item.{Item}
use Rattle.interface.specs.SocketHandle.{SocketHandle}
use Rattle.interface.specs.SocketStorage.{SocketStorage}
use Rattle.app_tun_services.specs.Site.{initial_session}
use Rattle.app_tun_services.specs.declared.idle.Moment.{Moment}
use Rattle.app_tun_services.specs.declared.site.Session.{Session}
use Rattle.sockets.specs.declared.socket.Socket.{Socket}
use Rattle.ip_wire.specs.IpListenEndpoint.{IpListenEndpoint}
use Rattle.interface.specs.Backlog.Calls.{initial_entry, accepted, given_back, Refreshes}
use Rattle.interface.specs.Backlog.Entries.{entry_at, no_entry}
use Rattle.interface.specs.Backlog.GivesWay.{Freed, GivesWay}
use Rattle.interface.specs.Backlog.Noted.{slot_at}
use Rattle.interface.specs.Backlog.Stages.{is_accepted, is_open}
use Rattle.interface.specs.declared.listener.entry.Entry.{Entry}
use Rattle.interface.specs.declared.listener.Listener.{Listener}
use Rattle.interface.specs.declared.listener.stage.Stage.TheVariants as Stage
use Rattle.app_tun_services.specs.Backlogs.{session_at, session_after, on_port, handle, keepers_of, IsListener, StandsFrom, AreInitialEntries, ended_if, EntryServesBy}
use Rattle.app_tun_services.specs.Backlogs.{EntryServes, BacklogServes, back_if, ServesAt, OneServesBy, OneServes}
use Rattle.app_tun_services.specs.Services.{first_slot, socket_count, port_of, SlotServes, is_over}
use Rattle.app_tun_services.specs.declared.slot.Service.{Service}

is_or_isnt : (i k : ℕ) → (i ≡ k) ⊎ (i ≢ k)
is_or_isnt i k = by_test (i == k) refl where
  by_test : (b : Bool) → (i == k) ≡ b → (i ≡ k) ⊎ (i ≢ k)
  by_test true h = inl (grind arith)
  by_test false h = inr (grind arith)

-- ENTRIES THAT ARE MADE

-- so many entries of new sockets, at the slots from the first one on
pub record InitialTo (n first : ℕ) (es : List Entry) : Type 0 where
  pub count : length es ≡ n
  pub each : (i : ℕ) → i < n → entry_at es i ≡ initial_entry (handle (first + i))

pub made_none : (first : ℕ) → InitialTo 0 first []
made_none first = record { count = refl; each = λ i h. absurd (omega arith) }

module _ (n first : ℕ) (es : List Entry) (so_far : InitialTo n first es) where
  made_at : (i : ℕ) → i < n + 1 → (i ≡ n) ⊎ (i ≢ n) → entry_at (es ++ initial_entry (handle (first + n)) ∷ []) i ≡ initial_entry (handle (first + i))
  made_at i h (inl is) =
      subst (λ (k : ℕ). entry_at (es ++ initial_entry (handle (first + n)) ∷ []) k ≡ initial_entry (handle (first + k))) (sym is)
      (get_or_push es (initial_entry (handle (first + n))) no_entry n so_far.count)
  made_at i h (inr isnt) =
      get_or_append_left es (initial_entry (handle (first + n)) ∷ []) no_entry i (omega (arith, so_far.count, isnt, h)) ∙ so_far.each i (omega (arith, isnt, h))

  pub made_more : InitialTo (n + 1) first (es ++ initial_entry (handle (first + n)) ∷ [])
  made_more = record {
    count = length-append es (initial_entry (handle (first + n)) ∷ []) ∙ omega (arith, so_far.count);
    each = λ i h. made_at i h (is_or_isnt i n);
  }

pub made_all : (service : Service) (es : List Entry) → InitialTo (socket_count service) (first_slot service) es → AreInitialEntries service es
made_all service es to = record { count = to.count; each = to.each }

pub initial_stand : (service : Service) (es : List Entry) → AreInitialEntries service es → StandsFrom (first_slot service) (socket_count service) es
initial_stand service es initial = record { long = initial.count; handles = λ i h. ap (λ (e : Entry). e.handle.0) (initial.each i h) }

-- WHERE ENTRIES STAND

entry_map : (f : Entry → Entry) (es : List Entry) (i : ℕ) → i < length es → entry_at (map f es) i ≡ f (entry_at es i)
entry_map f es i h = get_or-map f es i no_entry no_entry h

same_either : (b : Bool) (x y : Entry) (h : SocketHandle) → x.handle ≡ h → y.handle ≡ h → (if b then x else y).handle ≡ h
same_either true x y h p q = p
same_either false x y h p q = q

accepted_keeps : (e : Entry) → (accepted e).handle ≡ e.handle
accepted_keeps e = same_either (is_open e.stage) (record e { stage = Stage.Accepted }) e e.handle refl refl

module _ (first count : ℕ) (es : List Entry) (stands : StandsFrom first count es) where
  pub accepted_stand : StandsFrom first count (map accepted es)
  accepted_stand = record {
    long = length-map es accepted ∙ stands.long;
    handles = λ i h. ap (λ (e : Entry). e.handle.0) (entry_map accepted es i (omega (arith, stands.long, h))) ∙
        (ap (λ (x : SocketHandle). x.0) (accepted_keeps (entry_at es i)) ∙ stands.handles i h);
  }

  -- entries of the same handles stand at the same slots
  pub kept_stand : (es' : List Entry) → length es' ≡ length es → ((i : ℕ) → i < length es → (entry_at es' i).handle ≡ (entry_at es i).handle) →
      StandsFrom first count es'
  kept_stand es' long same = record {
    long = long ∙ stands.long;
    handles = λ i h. ap (λ (x : SocketHandle). x.0) (same i (omega (arith, stands.long, h))) ∙ stands.handles i h;
  }

-- an entry that is freed keeps its handle
freed_at : (es : List Entry) (k : ℕ) (e : Entry) → e.handle ≡ (entry_at es k).handle → (i : ℕ) → i < length es → (i ≡ k) ⊎ (i ≢ k)
    → (entry_at (slice_set es k e) i).handle ≡ (entry_at es i).handle
freed_at es k e same i h (inl is) =
    subst (λ (n : ℕ). (entry_at (slice_set es k e) n).handle ≡ (entry_at es n).handle) (sym is)
    (ap (λ (x : Entry). x.handle) (get_or-set_same es k e no_entry (subst (λ (n : ℕ). n < length es) is h)) ∙ same)
freed_at es k e same i h (inr isnt) = ap (λ (x : Entry). x.handle) (get_or-set_other es k i e no_entry isnt)

module _ (endpoint : IpListenEndpoint) (now first count : ℕ) where
  freed_stand : (next : Option ℕ) (ps : List (SocketStorage Socket)) (es : List Entry) (ps' : List (SocketStorage Socket)) (es' : List Entry)
      → Freed endpoint now next ps es ps' es' → StandsFrom first count es → StandsFrom first count es'
  freed_stand None ps es ps' es' (slots, same) stands = subst (StandsFrom first count) (sym same) stands
  freed_stand (Some k) ps es ps' es' (slots, set) stands =
      let e : Entry = record { handle = (entry_at es k).handle; stage = Stage.Free; since = now } in
      subst (StandsFrom first count) (sym set)
      (kept_stand first count es stands (slice_set es k e) (length-set es k e) (λ i h. freed_at es k e refl i h (is_or_isnt i k)))

  way_stand : (ps : List (SocketStorage Socket)) (es : List Entry) (ps' : List (SocketStorage Socket)) (es' : List Entry)
      → GivesWay endpoint now ps es ps' es' → StandsFrom first count es → StandsFrom first count es'
  way_stand ps es ps' es' (inl (one, slots, same)) stands = subst (StandsFrom first count) (sym same) stands
  way_stand ps es ps' es' (inr (none, (next, is, freed))) stands = freed_stand next ps es ps' es' freed stands

  pub refreshed_stand : (keepers : List SocketHandle) (ps : List (SocketStorage Socket)) (es : List Entry) (ps' : List (SocketStorage Socket))
      (es' : List Entry)
      → Refreshes endpoint now keepers ps es ps' es' → StandsFrom first count es → StandsFrom first count es'
  refreshed_stand keepers ps es ps' es' (seen, (noted, (freed, notes, way, kept))) stands =
      way_stand seen noted freed es' way (kept_stand first count es stands noted notes.entries (λ i h. notes.handles i))

-- ENTRIES THAT ARE SERVED

ended_keeps : (b : Bool) (e : Entry) → (ended_if b e).handle ≡ e.handle
ended_keeps true e = refl
ended_keeps false e = refl

entry_keeps : (b : Bool) (c : Moment) (service : Service) (e e' : Entry) (p p' : SocketStorage Socket) (x x' : Session) →
    EntryServesBy b c service e p x e' p' x' → e'.handle ≡ e.handle
entry_keeps true c service e e' p p' x x' (t, serves, session, is) = ap (λ (y : Entry). y.handle) is ∙ ended_keeps (is_over p') e
entry_keeps false c service e e' p p' x x' (slot, session, is) = ap (λ (y : Entry). y.handle) is

pub served_stand : (c : Moment) (first count : ℕ) (service : Service) (ps : List (SocketStorage Socket)) (ss : List Session) (es : List Entry)
    (ps' : List (SocketStorage Socket)) (ss' : List Session) (es' : List Entry)
    → BacklogServes c first service ps ss es ps' ss' es' → StandsFrom first count es → StandsFrom first count es'
served_stand c first count service ps ss es ps' ss' es' serves stands =
    kept_stand first count es stands es' serves.entries
    (λ i h. entry_keeps (is_accepted (entry_at es i).stage) c service (entry_at es i) (entry_at es' i) (slot_at ps (first + i)) (slot_at ps' (first + i))
    (session_at ss i) (session_at ss' i) (serves.each i h))

-- the first n entries were served, and the others, their slots and their sessions are as they were
pub record ServedTo (n : ℕ) (c : Moment) (first : ℕ) (service : Service) (ps : List (SocketStorage Socket)) (ss : List Session) (es : List Entry)
    (ps' : List (SocketStorage Socket)) (ss' : List Session) (es' : List Entry) : Type 0 where
  pub slots : length ps' ≡ length ps
  pub sessions : length ss' ≡ length ss
  pub entries : length es' ≡ length es
  pub below : (i : ℕ) → i < n
      → EntryServes c service (entry_at es i) (slot_at ps (first + i)) (session_at ss i) (entry_at es' i) (slot_at ps' (first + i)) (session_at ss' i)
  pub handles : (i : ℕ) → i < length es → (entry_at es' i).handle.0 ≡ first + i
  pub above : (i : ℕ) → n ≤ i → entry_at es' i ≡ entry_at es i
  pub before : (m : ℕ) → m < first → slot_at ps' m ≡ slot_at ps m
  pub following : (m : ℕ) → first + n ≤ m → slot_at ps' m ≡ slot_at ps m
  pub later : (m : ℕ) → n ≤ m → session_at ss' m ≡ session_at ss m

pub served_none : (c : Moment) (first count : ℕ) (service : Service) (ps : List (SocketStorage Socket)) (ss : List Session) (es : List Entry) →
    StandsFrom first count es → ServedTo 0 c first service ps ss es ps ss es
served_none c first count service ps ss es stands = record {
  slots = refl;
  sessions = refl;
  entries = refl;
  below = λ i h. absurd (omega (arith, h));
  handles = λ i h. stands.handles i (omega (arith, stands.long, h));
  above = λ i h. refl;
  before = λ m h. refl;
  following = λ m h. refl;
  later = λ m h. refl;
}

pub served_all : (n : ℕ) (c : Moment) (first : ℕ) (service : Service) (ps : List (SocketStorage Socket)) (ss : List Session) (es : List Entry)
    (ps' : List (SocketStorage Socket)) (ss' : List Session) (es' : List Entry)
    → ServedTo n c first service ps ss es ps' ss' es' → n ≡ length es → BacklogServes c first service ps ss es ps' ss' es'
served_all n c first service ps ss es ps' ss' es' to all = record {
  slots = to.slots;
  sessions = to.sessions;
  entries = to.entries;
  each = λ i h. to.below i (omega (arith, h, all));
  before = to.before;
  following = λ m h. to.following m (omega (arith, h, all));
  others = λ m h. to.later m (omega (arith, h, all));
}

both_hold : (a b : Bool) (x y : Entry) → a ≡ true → b ≡ true → (if a && b then x else y) ≡ x
both_hold true true x y p q = refl
both_hold true false x y p q = absurd (false≢true q)
both_hold false b x y p q = absurd (false≢true p)

one_fails : (a b : Bool) (x y : Entry) → b ≡ false → (if a && b then x else y) ≡ y
one_fails true true x y q = absurd (false≢true (sym q))
one_fails true false x y q = refl
one_fails false b x y q = refl

same_number : (a b : ℕ) → a ≡ b → (a == b) ≡ true
same_number a b is = grind (arith)

given_same : (x : SocketHandle) (e : Entry) → e.handle.0 ≡ x.0 → is_accepted e.stage ≡ true → given_back x e ≡ record e { stage = Stage.Ending }
given_same x e is accepted = both_hold (is_accepted e.stage) (e.handle.0 == x.0) (record e { stage = Stage.Ending }) e accepted (same_number e.handle.0 x.0 is)

other_number : (a b : ℕ) → a ≢ b → (a == b) ≡ false
other_number a b isnt = grind (arith)

given_other : (x : SocketHandle) (e : Entry) → e.handle.0 ≢ x.0 → given_back x e ≡ e
given_other x e isnt = one_fails (is_accepted e.stage) (e.handle.0 == x.0) (record e { stage = Stage.Ending }) e (other_number e.handle.0 x.0 isnt)

back_long : (b : Bool) (x : SocketHandle) (es : List Entry) → length (back_if b x es) ≡ length es
back_long true x es = length-map es (given_back x)
back_long false x es = refl

-- the entry of the handle ends if its connection is over
back_here : (b : Bool) (x : SocketHandle) (es : List Entry) (i : ℕ) → i < length es → (entry_at es i).handle.0 ≡ x.0 → is_accepted (entry_at es i).stage ≡ true
    → entry_at (back_if b x es) i ≡ ended_if b (entry_at es i)
back_here true x es i h is accepted = entry_map (given_back x) es i h ∙ given_same x (entry_at es i) is accepted
back_here false x es i h is accepted = refl

back_other : (b : Bool) (x : SocketHandle) (es : List Entry) (i : ℕ) → i < length es → (entry_at es i).handle.0 ≢ x.0 →
    entry_at (back_if b x es) i ≡ entry_at es i
back_other true x es i h isnt = entry_map (given_back x) es i h ∙ given_other x (entry_at es i) isnt
back_other false x es i h isnt = refl

back_past : (b : Bool) (x : SocketHandle) (es : List Entry) (i : ℕ) → length es ≤ i → entry_at (back_if b x es) i ≡ entry_at es i
back_past b x es i h =
    get_or_past (back_if b x es) i no_entry (omega (arith, h, back_long b x es)) ∙ sym (get_or_past es i no_entry h)

abbrev slot_with : Option (Item Socket) → SocketStorage Socket
slot_with o = record { inner = o }

-- where there is no slot, there is none afterwards
distance_after : (c : Moment) (service : Service) (p p' : SocketStorage Socket) (x x' : Session) → p ≡ free → SlotServes c service p x p' x' → p' ≡ free
distance_after c service p p' x x' none serves =
    let it : SlotServes c service free x p' x' = subst (λ (q : SocketStorage Socket). SlotServes c service q x p' x') none serves in
    ap slot_with it.0

set_here : (c : Moment) (service : Service) (ps : List (SocketStorage Socket)) (m : ℕ) (p' : SocketStorage Socket) (x x' : Session) →
    SlotServes c service (slot_at ps m) x p' x'
    → (m < length ps) ⊎ (length ps ≤ m) → slot_at (slice_set ps m p') m ≡ p'
set_here c service ps m p' x x' serves (inl less) = get_or-set_same ps m p' free less
set_here c service ps m p' x x' serves (inr past) =
    let none : slot_at ps m ≡ free = get_or_past ps m free past in
    ap (λ (qs : List (SocketStorage Socket)). slot_at qs m) (set_past ps m p' past) ∙ (none ∙ sym (distance_after c service (slot_at ps m) p' x x' none serves))

module _ (n : ℕ) (c : Moment) (first : ℕ) (service : Service) (ps : List (SocketStorage Socket)) (ss : List Session) (es : List Entry)
    (mid : List (SocketStorage Socket)) (mss : List Session) (ms : List Entry)
    (to : ServedTo n c first service ps ss es mid mss ms) (within : n < length ms) (after : List (SocketStorage Socket)) (fss : List Session)
    (fs : List Entry) where
  here : entry_at ms n ≡ entry_at es n
  here = to.above n (omega arith)

  at_index : (entry_at ms n).handle.0 ≡ first + n
  at_index = to.handles n (omega (arith, to.entries, within))

  -- what is shown of entry n, and that nothing else changed
  module _ (long : length after ≡ length ps) (long_sessions : length fss ≡ length ss) (count : length fs ≡ length es)
      (served : EntryServes c service (entry_at es n) (slot_at ps (first + n)) (session_at ss n) (entry_at fs n) (slot_at after (first + n))
      (session_at fss n))
      (others : (i : ℕ) → i ≢ n → entry_at fs i ≡ entry_at ms i) (same_handle : (entry_at fs n).handle.0 ≡ first + n)
      (elsewhere : (m : ℕ) → m ≢ first + n → slot_at after m ≡ slot_at mid m) (other_sessions : (m : ℕ) → m ≢ n → session_at fss m ≡ session_at mss m) where
    below_at : (i : ℕ) → i < n + 1 → (i ≡ n) ⊎ (i ≢ n)
        → EntryServes c service (entry_at es i) (slot_at ps (first + i)) (session_at ss i) (entry_at fs i) (slot_at after (first + i)) (session_at fss i)
    below_at i h (inl is) =
        subst (λ (k : ℕ). EntryServes c service (entry_at es k) (slot_at ps (first + k)) (session_at ss k) (entry_at fs k) (slot_at after (first + k))
        (session_at fss k)) (sym is) served
    below_at i h (inr isnt) =
        let less : i < n = omega (arith, h, isnt) in
        let there : EntryServes c service (entry_at es i) (slot_at ps (first + i)) (session_at ss i) (entry_at ms i) (slot_at mid (first + i))
        (session_at mss i) = to.below i less in
        subst (λ (p : SocketStorage Socket). EntryServes c service (entry_at es i) (slot_at ps (first + i)) (session_at ss i) (entry_at fs i) p
        (session_at fss i)) (sym (elsewhere (first + i) (λ q. absurd (omega (arith, q, less)))))
        (subst (λ (x : Session). EntryServes c service (entry_at es i) (slot_at ps (first + i)) (session_at ss i) (entry_at fs i) (slot_at mid (first + i)) x)
        (sym (other_sessions i isnt))
        (subst (λ (x : Entry). EntryServes c service (entry_at es i) (slot_at ps (first + i)) (session_at ss i) x (slot_at mid (first + i))
        (session_at mss i)) (sym (others i isnt)) there))

    handle_at : (i : ℕ) → i < length es → (i ≡ n) ⊎ (i ≢ n) → (entry_at fs i).handle.0 ≡ first + i
    handle_at i h (inl is) = subst (λ (k : ℕ). (entry_at fs k).handle.0 ≡ first + k) (sym is) same_handle
    handle_at i h (inr isnt) = ap (λ (x : Entry). x.handle.0) (others i isnt) ∙ to.handles i h

    step : ServedTo (n + 1) c first service ps ss es after fss fs
    step = record {
      slots = long;
      sessions = long_sessions;
      entries = count;
      below = λ i h. below_at i h (is_or_isnt i n);
      handles = λ i h. handle_at i h (is_or_isnt i n);
      above = λ i h. others i (λ q. absurd (omega (arith, q, h))) ∙ to.above i (omega (arith, h));
      before = λ m h. elsewhere m (λ q. absurd (omega (arith, q, h))) ∙ to.before m h;
      following = λ m h. elsewhere m (λ q. absurd (omega (arith, q, h))) ∙ to.following m (omega (arith, h));
      later = λ m h. other_sessions m (λ q. absurd (omega (arith, q, h))) ∙ to.later m (omega (arith, h));
    }

  -- one that isn't accepted
  left_alone : is_accepted (entry_at ms n).stage ≡ false → after ≡ mid → fss ≡ mss → fs ≡ ms → ServedTo (n + 1) c first service ps ss es after fss fs
  left_alone off slots sessions entries =
      let off_here : is_accepted (entry_at es n).stage ≡ false = ap (λ (x : Entry). is_accepted x.stage) (sym here) ∙ off in
      let slot : slot_at after (first + n) ≡ slot_at ps (first + n) = ap (λ (qs : List (SocketStorage Socket)). slot_at qs (first + n)) slots ∙
      to.following (first + n) (omega arith) in
      let session : session_at fss n ≡ session_at ss n = ap (λ (xs : List Session). session_at xs n) sessions ∙ to.later n (omega arith) in
      let entry : entry_at fs n ≡ entry_at es n = ap (λ (xs : List Entry). entry_at xs n) entries ∙ here in
      step (ap length slots ∙ to.slots) (ap length sessions ∙ to.sessions) (ap length entries ∙ to.entries)
      (subst (λ (b : Bool). EntryServesBy b c service (entry_at es n) (slot_at ps (first + n)) (session_at ss n) (entry_at fs n) (slot_at after (first + n))
      (session_at fss n)) (sym off_here) (slot, session, entry))
      (λ i isnt. ap (λ (xs : List Entry). entry_at xs i) entries) (ap (λ (xs : List Entry). (entry_at xs n).handle.0) entries ∙ at_index)
      (λ m isnt. ap (λ (qs : List (SocketStorage Socket)). slot_at qs m) slots) (λ m isnt. ap (λ (xs : List Session). session_at xs m) sessions)

  in_or_past : (m : ℕ) → (m < length mid) ⊎ (length mid ≤ m)
  in_or_past m = grind arith

  in_or_past_ms : (i : ℕ) → (i < length ms) ⊎ (length ms ≤ i)
  in_or_past_ms i = grind arith

  module _ (on : is_accepted (entry_at ms n).stage ≡ true) (p' : SocketStorage Socket) (t : Session)
      (serves : SlotServes c service (slot_at mid (entry_at ms n).handle.0) (session_at mss n) p' t)
      (session_is : session_at (slice_set mss n (session_after (is_over p') t)) n ≡ session_after (is_over p') t)
      (slots : after ≡ slice_set mid (entry_at ms n).handle.0 p') (sessions : fss ≡ slice_set mss n (session_after (is_over p') t))
      (entries : fs ≡ back_if (is_over p') (entry_at ms n).handle ms) where
    other_entry : (i : ℕ) → i ≢ n → (i < length ms) ⊎ (length ms ≤ i) → entry_at fs i ≡ entry_at ms i
    other_entry i isnt (inl less) =
        let differs : (entry_at ms i).handle.0 ≢ (entry_at ms n).handle.0 =
        λ q. absurd (omega (arith, q, isnt, to.handles i (omega (arith, less, to.entries)), at_index)) in
        ap (λ (xs : List Entry). entry_at xs i) entries ∙ back_other (is_over p') (entry_at ms n).handle ms i less differs
    other_entry i isnt (inr past) = ap (λ (xs : List Entry). entry_at xs i) entries ∙ back_past (is_over p') (entry_at ms n).handle ms i past

    this_entry : entry_at fs n ≡ ended_if (is_over p') (entry_at ms n)
    this_entry = ap (λ (xs : List Entry). entry_at xs n) entries ∙ back_here (is_over p') (entry_at ms n).handle ms n within refl on

    this_slot : slot_at after (first + n) ≡ p'
    this_slot =
        let there : slot_at after (entry_at ms n).handle.0 ≡ p' =
        ap (λ (qs : List (SocketStorage Socket)). slot_at qs (entry_at ms n).handle.0) slots ∙
        set_here c service mid (entry_at ms n).handle.0 p' (session_at mss n) t serves (in_or_past (entry_at ms n).handle.0) in
        subst (λ (m : ℕ). slot_at after m ≡ p') at_index there

    old_slot : slot_at mid (entry_at ms n).handle.0 ≡ slot_at ps (first + n)
    old_slot = ap (slot_at mid) at_index ∙ to.following (first + n) (omega arith)

    this_session : session_at fss n ≡ session_after (is_over p') t
    this_session = ap (λ (xs : List Session). session_at xs n) sessions ∙ session_is

    other_slot : (m : ℕ) → m ≢ first + n → slot_at after m ≡ slot_at mid m
    other_slot m isnt =
        ap (λ (qs : List (SocketStorage Socket)). slot_at qs m) slots ∙ get_or-set_other mid (entry_at ms n).handle.0 m p' free (λ q. isnt (q ∙ at_index))

    other_session : (m : ℕ) → m ≢ n → session_at fss m ≡ session_at mss m
    other_session m isnt =
        ap (λ (xs : List Session). session_at xs m) sessions ∙ get_or-set_other mss n m (session_after (is_over p') t) initial_session isnt

    served_here : EntryServes c service (entry_at es n) (slot_at ps (first + n)) (session_at ss n) (entry_at fs n) (slot_at after (first + n))
        (session_at fss n)
    served_here =
        let on_here : is_accepted (entry_at es n).stage ≡ true = ap (λ (x : Entry). is_accepted x.stage) (sym here) ∙ on in
        let slot : SlotServes c service (slot_at ps (first + n)) (session_at ss n) (slot_at after (first + n)) t =
        subst (λ (q : SocketStorage Socket). SlotServes c service (slot_at ps (first + n)) (session_at ss n) q t) (sym this_slot)
        (subst (λ (x : Session). SlotServes c service (slot_at ps (first + n)) x p' t) (to.later n (omega arith))
        (subst (λ (q : SocketStorage Socket). SlotServes c service q (session_at mss n) p' t) old_slot serves)) in
        let session : session_at fss n ≡ session_after (is_over (slot_at after (first + n))) t =
        subst (λ (q : SocketStorage Socket). session_at fss n ≡ session_after (is_over q) t) (sym this_slot) this_session in
        let entry : entry_at fs n ≡ ended_if (is_over (slot_at after (first + n))) (entry_at es n) =
        subst (λ (q : SocketStorage Socket). entry_at fs n ≡ ended_if (is_over q) (entry_at es n)) (sym this_slot)
        (subst (λ (x : Entry). entry_at fs n ≡ ended_if (is_over p') x) here this_entry) in
        subst (λ (b : Bool). EntryServesBy b c service (entry_at es n) (slot_at ps (first + n)) (session_at ss n) (entry_at fs n) (slot_at after (first + n))
        (session_at fss n)) (sym on_here) (t, slot, session, entry)

    served_one : ServedTo (n + 1) c first service ps ss es after fss fs
    served_one =
        step (ap length slots ∙ (length-set mid (entry_at ms n).handle.0 p' ∙ to.slots)) (ap length sessions ∙
        (length-set mss n (session_after (is_over p') t) ∙ to.sessions))
        (ap length entries ∙ (back_long (is_over p') (entry_at ms n).handle ms ∙ to.entries)) served_here
        (λ i isnt. other_entry i isnt (in_or_past_ms i))
        (ap (λ (x : Entry). x.handle.0) this_entry ∙ (ap (λ (x : SocketHandle). x.0) (ended_keeps (is_over p') (entry_at ms n)) ∙ at_index)) other_slot
        other_session

  module _ (kept : length ss ≡ length es) where
    by_stage : (b : Bool) → is_accepted (entry_at ms n).stage ≡ b → OneServesBy b c service n (entry_at ms n) mid mss ms after fss fs →
        ServedTo (n + 1) c first service ps ss es after fss fs
    by_stage true is (over, t, (p', serves, slots, over_is), sessions, entries) =
        let has : n < length mss = omega (arith, within, to.entries, to.sessions, kept) in
        served_one is p' t serves (get_or-set_same mss n (session_after (is_over p') t) initial_session has) slots
        (subst (λ (b : Bool). fss ≡ slice_set mss n (session_after b t)) over_is sessions)
        (subst (λ (b : Bool). fs ≡ back_if b (entry_at ms n).handle ms) over_is entries)
    by_stage false is (slots, sessions, entries) = left_alone is slots sessions entries

    pub served_more : OneServes c service n mid mss ms after fss fs → ServedTo (n + 1) c first service ps ss es after fss fs
    served_more one = by_stage (is_accepted (entry_at ms n).stage) refl one

-- ONE ENTRY

-- where there is no slot, nothing is served
pub served_nowhere : (c : Moment) (service : Service) (ps : List (SocketStorage Socket)) (at : ℕ) (x : Session) → length ps ≤ at →
    ServesAt c service at ps x ps x false
served_nowhere c service ps at x past =
    let none : slot_at ps at ≡ free = get_or_past ps at free past in
    let same : SlotServes c service free x free x = (refl, refl) in
    let serves : SlotServes c service (slot_at ps at) x (slot_at ps at) x =
    subst (λ (q : SocketStorage Socket). SlotServes c service q x q x) (sym none) same in
    (slot_at ps at, serves, sym (set-get_or ps at free), ap is_over (sym none))

-- the slot that was read is served
pub served_somewhere : (c : Moment) (service : Service) (ps : List (SocketStorage Socket)) (at : ℕ) (x p' : SocketStorage Socket) (y t : Session)
    (over : Bool) → at < length ps
    → SlotServes c service (slice_index_or ps at x) y p' t → over ≡ is_over p' → ServesAt c service at ps y (slice_set ps at p') t over
served_somewhere c service ps at x p' y t over within serves over_is =
    (p', subst (λ (q : SocketStorage Socket). SlotServes c service q y p' t) (get_or_default ps at x free within) serves, refl, over_is)

module _ (c : Moment) (service : Service) (at : ℕ) (ps : List (SocketStorage Socket)) (ss : List Session) (es : List Entry) (e : Entry) (within : at <
    length es) (read : e ≡ slice_index_or es at e) where
  entry_is : e ≡ entry_at es at
  entry_is = read ∙ get_or_default es at e no_entry within

  pub one_left : is_accepted e.stage ≡ false → OneServes c service at ps ss es ps ss es
  one_left off =
      subst (λ (x : Entry). OneServesBy (is_accepted x.stage) c service at x ps ss es ps ss es) entry_is
      (subst (λ (b : Bool). OneServesBy b c service at e ps ss es ps ss es) (sym off) (refl, refl, refl))

  pub one_served : (ps' : List (SocketStorage Socket)) (ss' : List Session) (es' : List Entry) → is_accepted e.stage ≡ true →
      OneServesBy true c service at e ps ss es ps' ss' es' → OneServes c service at ps ss es ps' ss' es'
  one_served ps' ss' es' on served =
      subst (λ (x : Entry). OneServesBy (is_accepted x.stage) c service at x ps ss es ps' ss' es') entry_is
      (subst (λ (b : Bool). OneServesBy b c service at e ps ss es ps' ss' es') (sym on) served)

-- LISTENERS

-- what a refresh of a listener says of its service's port and keeper
pub seen_as : (service : Service) (l : Listener) (now : ℕ) (ps : List (SocketStorage Socket)) (es : List Entry) (ps' : List (SocketStorage Socket))
    (es' : List Entry)
    → IsListener service l → Refreshes l.endpoint now l.keepers.items ps es ps' es' →
    Refreshes (on_port (port_of service)) now (keepers_of service) ps es ps' es'
seen_as service l now ps es ps' es' is refreshes =
    subst (λ (ks : List SocketHandle). Refreshes (on_port (port_of service)) now ks ps es ps' es') is.keepers
    (subst (λ (e : IpListenEndpoint). Refreshes e now l.keepers.items ps es ps' es') is.endpoint refreshes)

-- a listener whose sockets are seen and served stays one
pub still_listener : (c : Moment) (service : Service) (l m n : Listener) (now : ℕ) (ps ps' qs qs' : List (SocketStorage Socket)) (ss ss' : List Session) →
    IsListener service l
    → Refreshes l.endpoint now l.keepers.items ps l.entries.items ps' m.entries.items → m.endpoint ≡ l.endpoint → m.keepers.items ≡ l.keepers.items
    → BacklogServes c (first_slot service) service qs ss (map accepted m.entries.items) qs' ss' n.entries.items → n ≡ record m { entries = n.entries } →
    IsListener service n
still_listener c service l m n now ps ps' qs qs' ss ss' is refreshes endpoint keepers serves rest =
    let seen : StandsFrom (first_slot service) (socket_count service) m.entries.items =
    refreshed_stand l.endpoint now (first_slot service) (socket_count service) l.keepers.items ps l.entries.items ps' m.entries.items refreshes is.stands in
    record {
      endpoint = ap (λ (x : Listener). x.endpoint) rest ∙ (endpoint ∙ is.endpoint);
      keepers = ap (λ (x : Listener). x.keepers.items) rest ∙ (keepers ∙ is.keepers);
      stands = served_stand c (first_slot service) (socket_count service) service qs ss (map accepted m.entries.items) qs' ss' n.entries.items serves
          (accepted_stand (first_slot service) (socket_count service) m.entries.items seen);
    }
