-- What connections tell of paths, one after the other.
use Rattle.std.proofs.Common.{◌≡◌, ◌⊎◌, inl, inr, ℕ, zero, suc, ◌+◌, ◌<◌, ◌≤◌, nat_le, nat_lt, ◌&&◌, Bool, true, false, if◌then◌else◌, ℤ, pos, ◌+ℤ◌, ◌≤ℤ◌, ◌<ℤ◌}
use Rattle.std.proofs.Common.{List, [], ◌∷◌, ◌++◌, length, Option, Some, None, is_some, refl, sym, ap, ◌∙◌, subst, arith}
use Rattle.std.specs.List.{fold}
use Rattle.std.specs.Prelude.{remove}
use Rattle.std.proofs.lemmas.Bool.Decides.{nat_tests}
use Rattle.std.proofs.lemmas.Int.{ints}
use Rattle.std.proofs.lemmas.List.{length-append, length-set}
use Rattle.ip_wire.specs.AddressTests.{is_same_address}
use Rattle.ip_wire.specs.HardwareAddress.{HardwareAddress}
use Rattle.ip_wire.specs.HardwareAddress.TheVariants as Hardware
use Rattle.ip_wire.specs.IpAddress.{IpAddress}
use Rattle.iface_ingress.specs.Socket.{Socket}
use Rattle.iface_ingress.specs.Socket.TheVariants as Kind
use Rattle.iface_ingress.specs.TcpSocket.{times_out_after}
use Rattle.iface_ingress.specs.TcpValue.{TcpValue}
use Rattle.iface_tables.specs.Inner.{InnerValue, is_known_hop, is_known_on, mtu_to, next_hop}
use Rattle.iface_tables.specs.PathMtu.{entered, entered_at, heard_of, is_news, least_mtu, lowered, mtu_towards, path_index_of, path_room, path_time, victim}
use Rattle.iface_tables.specs.declared.path_mtu.Path.{Path}
use Rattle.iface_tables.proofs.PathMtu.{never_up, others, same_address}
use Rattle.iface_egress.specs.Meta.{neighbor_of, waits}
use Rattle.iface_egress.specs.declared.socket_meta.Meta.{Meta}
use Rattle.iface_egress.specs.declared.socket_set.Item.{Item}
use Rattle.iface_egress.specs.declared.socket_set.SocketStorage.{SocketStorage}
use Rattle.interface.specs.BlackHoles.{flight_len, is_swallowed, paths_after, paths_by, paths_checked, paths_if, paths_told, paths_towards}
use Rattle.interface.specs.BlackHoles.{tried_below, tried_next, with_paths}
use Rattle.interface.specs.Remote.{remote_of}
use Rattle.interface.specs.Serve.{is_known, is_waiting}
use Rattle.interface.proofs.BlackHoleLaws.{lost_shorter, lost_some}

fold_append : {X B : Type 0} (f : B → X → B) (b : B) (xs : List X) (y : X) (ys : List X) → fold f b (xs ++ y ∷ ys) ≡ fold f (f (fold f b xs) y) ys
fold_append f b [] y ys = refl
fold_append f b (x ∷ xs) y ys = fold_append f (f b x) xs y ys

-- ONE MORE PATH AT MOST

fewer : {X : Type 0} (xs : List X) (at : ℕ) → length (remove xs at) ≤ length xs
fewer [] zero = omega arith
fewer [] (suc at) = omega arith
fewer (x ∷ xs) zero = omega arith
fewer (x ∷ xs) (suc at) = let rest = fewer xs at in omega (arith, rest)

entered_grows : (paths : List Path) (new : Path) (o : Option ℕ) → length (entered_at o paths new) ≤ length paths + 1
entered_grows paths new (Some at) = let same = length-set paths at new in omega (arith, same)
entered_grows paths new None = by (nat_lt (length paths) path_room) where
  by : (b : Bool) → length (if b then paths ++ new ∷ [] else remove paths (victim paths) ++ new ∷ []) ≤ length paths + 1
  by true = let parts = length-append paths (new ∷ []) in omega (arith, parts)
  by false =
      let parts = length-append (remove paths (victim paths)) (new ∷ []) in
      let less = fewer paths (victim paths) in
      omega (arith, parts, less)

lowered_grows : (paths : List Path) (address : IpAddress) (told : ℕ) (now : ℤ) (whole : ℕ) → length (lowered paths address told now whole) ≤ length paths + 1
unfolding lowered
lowered_grows paths address told now whole = by (is_news paths address told now whole) where
  by : (b : Bool) → length (if b then entered paths (heard_of address told now) else paths) ≤ length paths + 1
  by true = entered_grows paths (heard_of address told now) (path_index_of paths address)
  by false = omega arith

-- WHAT A SOCKET TELLS: nothing, or that one path carries less

module _ (i : InnerValue) where
  abbrev Tells : List Path → List Path → Type 0
  Tells paths after = (after ≡ paths) ⊎ ((a : IpAddress) × (len : ℕ) × (after ≡ lowered paths a len i.instant i.mtu))

  -- who waits doesn't depend on paths
  known_on_same : (paths : List Path) (hop : IpAddress) (h : HardwareAddress) → is_known_on h (with_paths i paths) hop ≡ is_known_on h i hop
  known_on_same paths hop Hardware.Ip = refl
  known_on_same paths hop (Hardware.Ethernet local) = refl

  known_hop_same : (paths : List Path) (o : Option IpAddress) → is_known_hop (with_paths i paths) o ≡ is_known_hop i o
  known_hop_same paths None = refl
  known_hop_same paths (Some hop) = known_on_same paths hop i.hardware

  known_same : (paths : List Path) (o : Option IpAddress) → is_known (with_paths i paths) o ≡ is_known i o
  known_same paths None = refl
  known_same paths (Some neighbor) = known_hop_same paths (next_hop i neighbor)

  waiting_same : (paths : List Path) (m : Meta) → is_waiting (with_paths i paths) m ≡ is_waiting i m
  waiting_same paths m = ap (λ (known : Bool). waits m known i.instant) (known_same paths (neighbor_of m))

  told_so : (paths : List Path) (a : IpAddress) (o : Option ℕ) → Tells paths (paths_told (with_paths i paths) a o)
  told_so paths a None = inl refl
  told_so paths a (Some len) = inr (a, len, refl)

  towards_so : (paths : List Path) (to : Option IpAddress) (v : TcpValue) → Tells paths (paths_towards (with_paths i paths) to v)
  towards_so paths None v = inl refl
  towards_so paths (Some a) v = told_so paths a (tried_next (with_paths i paths) a v)

  by_so : (paths : List Path) (s : Socket) → Tells paths (paths_by (with_paths i paths) s)
  by_so paths (Kind.Raw v) = inl refl
  by_so paths (Kind.Icmp v) = inl refl
  by_so paths (Kind.Udp v) = inl refl
  by_so paths (Kind.Tcp v) = towards_so paths (remote_of (Kind.Tcp v)) v
  by_so paths (Kind.Dhcpv4 v) = inl refl
  by_so paths (Kind.Dns v) = inl refl

  unless_so : (paths : List Path) (b : Bool) (after : List Path) → Tells paths after → Tells paths (if b then paths else after)
  unless_so paths true after tells = inl refl
  unless_so paths false after tells = tells

  one_so : (paths : List Path) (slot : SocketStorage Socket) → Tells paths (paths_after i paths slot)
  one_so paths slot = by slot.inner where
    by : (o : Option (Item Socket)) → Tells paths (paths_after i paths (record { inner = o }))
    by None = inl refl
    by (Some item) = unless_so paths (is_waiting (with_paths i paths) item.meta) (paths_by (with_paths i paths) item.socket) (by_so paths item.socket)

  grows : (paths after : List Path) → Tells paths after → length after ≤ length paths + 1
  grows paths after (inl same) = let is = ap length same in omega (arith, is)
  grows paths after (inr tells) =
      let is = ap length tells.2 in
      let more = lowered_grows paths tells.0 tells.1 i.instant i.mtu in
      omega (arith, is, more)

  -- a path stays as short
  module _ (address : IpAddress) (most : ℕ) where
    abbrev IsShort : List Path → Type 0
    IsShort paths = mtu_towards paths address i.instant i.mtu < most

    soon : (now : ℤ) → (now ≤ℤ now) × (now <ℤ (now +ℤ pos path_time))
    soon now = (grind (arith, ints), grind (arith, ints))

    in_room : (paths : List Path) → length paths < path_room → nat_lt (length paths) path_room ≡ true
    in_room paths few = by (nat_lt (length paths) path_room) refl where
      by : (b : Bool) → nat_lt (length paths) path_room ≡ b → b ≡ true
      by true is = refl
      by false is = absurd (grind (arith, nat_tests))

    lowered_short : (paths : List Path) (a : IpAddress) (len : ℕ) → length paths < path_room → IsShort paths → IsShort (lowered paths a len i.instant i.mtu)
    lowered_short paths a len few short = by (is_same_address a address) refl where
      by : (b : Bool) → is_same_address a address ≡ b → IsShort (lowered paths a len i.instant i.mtu)
      by true is =
          let never = never_up paths a len i.instant i.instant i.mtu (soon i.instant).0 (soon i.instant).1 in
          let less : mtu_towards (lowered paths a len i.instant i.mtu) address i.instant i.mtu ≤ mtu_towards paths address i.instant i.mtu =
          subst (λ (b : IpAddress). mtu_towards (lowered paths a len i.instant i.mtu) b i.instant i.mtu ≤ mtu_towards paths b i.instant i.mtu)
          (same_address a address is) never in
          omega (arith, less, short)
      by false is =
          let same = others paths a address len i.instant i.instant i.mtu is (in_room paths few) in
          omega (arith, same, short)

    stays_short : (paths after : List Path) → length paths < path_room → IsShort paths → Tells paths after → IsShort after
    stays_short paths after few short (inl same) = subst IsShort (sym same) short
    stays_short paths after few short (inr tells) = subst IsShort (sym tells.2) (lowered_short paths tells.0 tells.1 few short)

    all_short : (ps : List (SocketStorage Socket)) (paths : List Path) → length paths + length ps ≤ path_room → IsShort paths
        → IsShort (fold (paths_after i) paths ps)
    all_short [] paths few short = short
    all_short (p ∷ ps) paths few short =
        let so = one_so paths p in
        let more = grows paths (paths_after i paths p) so in
        all_short ps (paths_after i paths p) (omega (arith, few, more)) (stays_short paths (paths_after i paths p) (omega (arith, few)) short so)

  all_grow : (ps : List (SocketStorage Socket)) (paths : List Path) → length (fold (paths_after i) paths ps) ≤ length paths + length ps
  all_grow [] paths = omega arith
  all_grow (p ∷ ps) paths =
      let more = grows paths (paths_after i paths p) (one_so paths p) in
      let rest = all_grow ps (paths_after i paths p) in
      omega (arith, more, rest)

  -- THE ONE WHOSE PACKET IS LOST

  module _ (meta : Meta) (v : TcpValue) (address : IpAddress) (to : remote_of (Kind.Tcp v) ≡ Some address) (free : is_waiting i meta ≡ false)
      (again : times_out_after 1 i.instant v.tcb ≡ true) (long : least_mtu address < flight_len address v) where
    abbrev slot : SocketStorage Socket
    slot = record { inner = Some (record { meta = meta; socket = Kind.Tcp v }) }

    is_told : (paths : List Path) → paths_after i paths slot ≡ paths_towards (with_paths i paths) (Some address) v
    is_told paths =
        ap (λ (b : Bool). if b then paths else paths_by (with_paths i paths) (Kind.Tcp v)) (waiting_same paths meta ∙ free)
        ∙ ap (λ (o : Option IpAddress). paths_towards (with_paths i paths) o v) to

    some_is : {A : Type 0} (o : Option A) → is_some o ≡ true → (x : A) × (o ≡ Some x)
    some_is None is = absurd cc
    some_is (Some x) is = (x, refl)

    shortened : (paths : List Path) → IsShort address (flight_len address v) (paths_towards (with_paths i paths) (Some address) v)
    shortened paths = by (nat_le (flight_len address v) (mtu_to j address)) refl where
      j : InnerValue
      j = with_paths i paths

      by : (b : Bool) → nat_le (flight_len address v) (mtu_to j address) ≡ b → IsShort address (flight_len address v) (paths_towards j (Some address) v)
      by true goes =
          let lost : is_swallowed j address v ≡ true =
          ap (λ (b : Bool). b && nat_le (flight_len address v) (mtu_to j address)) again ∙ goes in
          let next = some_is (tried_next j address v) (lost_some j address v lost long) in
          let so = lost_shorter j address v next.0 next.1 in
          let below = so.0 in
          let is = so.1 in
          omega (arith, below, is)
      by false stays =
          let none : tried_next j address v ≡ None =
          ap (λ (b : Bool). if b && nat_le (flight_len address v) (mtu_to j address) then tried_below address (flight_len address v) else None) again
          ∙ ap (λ (b : Bool). if b then tried_below address (flight_len address v) else None) stays in
          let above : mtu_to j address < flight_len address v = grind (arith, nat_tests) in
          subst (IsShort address (flight_len address v)) (sym (ap (paths_told j address) none)) above

    pub lost_goes_shorter : (before after : List (SocketStorage Socket)) → i.host_requirements ≡ true
        → length i.paths + (length before + (1 + length after)) ≤ path_room
        → mtu_to (paths_checked i (before ++ slot ∷ after)) address < flight_len address v
    lost_goes_shorter before after many few =
        let first : List Path = fold (paths_after i) i.paths before in
        let second : List Path = paths_after i first slot in
        let grown = all_grow before i.paths in
        let more = grows first second (one_so first slot) in
        let short : IsShort address (flight_len address v) second = subst (IsShort address (flight_len address v)) (sym (is_told first)) (shortened first) in
        let all = all_short address (flight_len address v) after second (omega (arith, few, grown, more)) short in
        let whole : paths_if i.host_requirements i (before ++ slot ∷ after) ≡ fold (paths_after i) second after =
        ap (λ (b : Bool). paths_if b i (before ++ slot ∷ after)) many ∙ fold_append (paths_after i) i.paths before slot after in
        subst (IsShort address (flight_len address v)) (sym whole) all
