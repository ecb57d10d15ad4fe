-- Packets that wait, whose bytes stand one after another.
use Rattle.std.proofs.Common.{◌≡◌, ℕ, zero, suc, ◌+◌, ◌-◌, ◌<◌, ◌≤◌, Bool, true, false, cond, if◌then◌else◌, List, [], ◌∷◌, ◌++◌, length, take, drop, get_or, Option, None, Some, refl, sym, ap, subst, ◌∙◌, arith}
use Rattle.std.specs.Prelude.{All, ◌&&◌, ◌==◌, nat_le, nat_lt, not, filter, position, remove, slice_get, sum_by}
use Rattle.std.specs.List.{copy_within, prefix_len}
use Rattle.std.proofs.lemmas.Bool.{and_parts}
use Rattle.std.proofs.lemmas.Bool.Decides.{nat_tests}
use Rattle.std.proofs.lemmas.List.{length-append, length-take-le, length-drop, take-take, take-append-drop, take_at, drop_at, drop-drop, drop-take, drop_more}
use Rattle.std.proofs.lemmas.List.Elements.{All-append}
use Rattle.std.proofs.lemmas.List.Edits.{take-paste, length-remove, get_or-remove_below, get_or-remove_above}
use Rattle.std.proofs.lemmas.List.Sums.{sum_by-cons, sum_by-append, sum_by-take-le, sum_by-remove, sum_by_more, sum_by_push}
use Rattle.std.proofs.lemmas.Option.{get_or_from_slice_get, slice_get_within}
use Rattle.wire_address.specs.AddressTests.{is_same_address}
use Rattle.ip_wire.specs.Ip as Ips
use Rattle.ip_wire.specs.IpAddress.{IpAddress}
use Rattle.ip_wire.specs.IpRepr.{IpRepr}
use Rattle.ip_wire.specs.IpRepr.TheVariants as Ip
use Rattle.iface_tables.specs.Parking.{IsMeasured, ParkedValue, ParkingValue, bytes_of, has_room, header_of, headers_of, is_for, is_holdable, parked_value, parking_size, place_to_go, parked_values, total_len, with_room_for}
use Rattle.iface_tables.specs.declared.parking.ParkedHeader.{ParkedHeader}

-- HEADERS AND BYTES

more_len : (h : ParkedHeader) (hs : List ParkedHeader) → total_len (h ∷ hs) ≡ h.len + total_len hs
more_len h hs = sum_by-cons (λ (h : ParkedHeader). h.len) h hs

-- bytes after theirs don't matter
pub values_front : (hs : List ParkedHeader) (bytes : List ℕ) (n : ℕ) → total_len hs ≤ n → parked_values hs (take n bytes) ≡ parked_values hs bytes
values_front [] bytes n fit = refl
values_front (h ∷ hs) bytes n fit =
    let long = more_len h hs in
    let whole : n ≡ h.len + (n - h.len) = omega (arith, long, fit) in
    let rest : total_len hs ≤ n - h.len = omega (arith, long, fit) in
    let one : take h.len (take n bytes) ≡ take h.len bytes = take-take h.len n bytes (omega (arith, long, fit)) in
    let more : drop h.len (take n bytes) ≡ take (n - h.len) (drop h.len bytes) =
    ap (λ (k : ℕ). drop h.len (take k bytes)) whole ∙ drop-take h.len (n - h.len) bytes in
    ap (λ (text : List ℕ). record { hop = h.hop; header = h.header; payload = text } ∷ parked_values hs (drop h.len (take n bytes))) one
    ∙ ap (λ (bs : List ℕ). parked_value h bytes ∷ parked_values hs bs) more
    ∙ ap (λ (ps : List ParkedValue). parked_value h bytes ∷ ps) (values_front hs (drop h.len bytes) (n - h.len) rest)

-- those at the front have the first bytes, and those after them the others
pub values_append : (xs ys : List ParkedHeader) (bytes : List ℕ) →
    parked_values (xs ++ ys) bytes ≡ parked_values xs bytes ++ parked_values ys (drop (total_len xs) bytes)
values_append [] ys bytes = refl
values_append (x ∷ xs) ys bytes =
    ap (λ (ps : List ParkedValue). parked_value x bytes ∷ ps) (values_append xs ys (drop x.len bytes))
    ∙ ap (λ (bs : List ℕ). parked_value x bytes ∷ (parked_values xs (drop x.len bytes) ++ parked_values ys bs))
    (drop-drop (total_len xs) x.len bytes ∙ ap (λ (n : ℕ). drop n bytes) (sym (more_len x xs)))

pub values_length : (hs : List ParkedHeader) (bytes : List ℕ) → length (parked_values hs bytes) ≡ length hs
values_length [] bytes = refl
values_length (h ∷ hs) bytes = ap suc (values_length hs (drop h.len bytes))

-- their headers say their lengths
pub values_headers : (hs : List ParkedHeader) (bytes : List ℕ) → total_len hs ≤ length bytes → headers_of (parked_values hs bytes) ≡ hs
values_headers [] bytes fit = refl
values_headers (h ∷ hs) bytes fit =
    let long = more_len h hs in
    let rest : total_len hs ≤ length (drop h.len bytes) = omega (arith, long, fit, length-drop h.len bytes) in
    ap (λ (n : ℕ). record { hop = h.hop; header = h.header; len = n } ∷ headers_of (parked_values hs (drop h.len bytes)))
    (length-take-le h.len bytes (omega (arith, long, fit)))
    ∙ ap (λ (xs : List ParkedHeader). h ∷ xs) (values_headers hs (drop h.len bytes) rest)

headers_len : (ps : List ParkedValue) → total_len (headers_of ps) ≡ bytes_of ps
headers_len [] = refl
headers_len (p ∷ ps) =
    more_len (header_of p) (headers_of ps) ∙ ap (λ (n : ℕ). length p.payload + n) (headers_len ps)
    ∙ sym (sum_by-cons (λ (p : ParkedValue). length p.payload) p ps)

pub values_bytes : (hs : List ParkedHeader) (bytes : List ℕ) → total_len hs ≤ length bytes → bytes_of (parked_values hs bytes) ≡ total_len hs
values_bytes hs bytes fit = sym (headers_len (parked_values hs bytes)) ∙ ap total_len (values_headers hs bytes fit)

-- one more of the first
pub front_more : (hs : List ParkedHeader) (i : ℕ) (h : ParkedHeader) → slice_get hs i ≡ Some h → total_len (take (i + 1) hs) ≡ total_len (take i hs) + h.len
front_more hs i h got =
    sum_by_more (λ (h : ParkedHeader). h.len) hs i h (slice_get_within hs i h got)
    ∙ ap (λ (x : ParkedHeader). total_len (take i hs) + x.len) (get_or_from_slice_get hs i h h got)

pub front_len : (hs : List ParkedHeader) (at : ℕ) → total_len (take at hs) ≤ total_len hs
front_len hs at = sum_by-take-le (λ (h : ParkedHeader). h.len) hs at

pub front_within : (hs : List ParkedHeader) (i : ℕ) (h : ParkedHeader) → slice_get hs i ≡ Some h → total_len (take i hs) + h.len ≤ total_len hs
front_within hs i h got = omega (arith, front_more hs i h got, front_len hs (i + 1))

-- IN THREE PARTS

-- a list around one of its places
split : (hs : List ParkedHeader) (at : ℕ) (d : ParkedHeader) → at < length hs → hs ≡ take at hs ++ get_or hs at d ∷ drop (at + 1) hs
split hs at d within = sym (take-append-drop at hs) ∙ ap (λ (xs : List ParkedHeader). take at hs ++ xs) (drop_more hs at d within)

module _ (xs : List ParkedHeader) (h : ParkedHeader) (ys : List ParkedHeader) (bytes : List ℕ) where
  abbrev begins : ℕ
  begins = total_len xs

  abbrev ends : ℕ
  ends = total_len xs + h.len

  pub parts : parked_values (xs ++ h ∷ ys) bytes ≡ parked_values xs bytes ++ parked_value h (drop begins bytes) ∷ parked_values ys (drop ends bytes)
  parts =
      values_append xs (h ∷ ys) bytes
      ∙ ap (λ (bs : List ℕ). parked_values xs bytes ++ parked_value h (drop begins bytes) ∷ parked_values ys bs) (drop-drop h.len begins bytes)

  pub parts_len : total_len (xs ++ h ∷ ys) ≡ ends + total_len ys
  parts_len =
      let whole = sum_by-append (λ (h : ParkedHeader). h.len) xs (h ∷ ys) in
      let more = more_len h ys in
      omega (arith, whole, more)

  -- the bytes of what follows are copied over those of one that leaves
  module _ (fit : total_len (xs ++ h ∷ ys) ≤ length bytes) where
    abbrev after : List ℕ
    after = copy_within bytes ends (total_len (xs ++ h ∷ ys)) begins

    abbrev rest : ℕ
    rest = total_len (xs ++ h ∷ ys) - ends

    copied : take (begins + rest) after ≡ take begins bytes ++ take rest (drop ends bytes)
    copied =
        take-paste bytes begins (drop ends bytes) rest (omega (arith, parts_len, fit)) (omega (arith, parts_len, fit, length-drop ends bytes))

    first_stay : parked_values xs after ≡ parked_values xs bytes
    first_stay =
        sym (values_front xs after (begins + rest) (omega arith)) ∙ ap (parked_values xs) copied
        ∙ sym (values_front xs (take begins bytes ++ take rest (drop ends bytes)) begins (omega arith))
        ∙ ap (parked_values xs) (take_at (take begins bytes) (take rest (drop ends bytes)) begins
        (length-take-le begins bytes (omega (arith, parts_len, fit))))
        ∙ values_front xs bytes begins (omega arith)

    last_stay : parked_values ys (drop begins after) ≡ parked_values ys (drop ends bytes)
    last_stay =
        let long : total_len ys ≤ rest = omega (arith, parts_len) in
        sym (values_front ys (drop begins after) rest long) ∙ ap (parked_values ys) (sym (drop-take begins rest after))
        ∙ ap (λ (bs : List ℕ). parked_values ys (drop begins bs)) copied
        ∙ ap (parked_values ys) (drop_at (take begins bytes) (take rest (drop ends bytes)) begins
        (length-take-le begins bytes (omega (arith, parts_len, fit))))
        ∙ values_front ys (drop ends bytes) rest long

    pub parts_left : parked_values (xs ++ ys) after ≡ parked_values xs bytes ++ parked_values ys (drop ends bytes)
    parts_left =
        values_append xs ys after ∙ ap (λ (ps : List ParkedValue). ps ++ parked_values ys (drop begins after)) first_stay
        ∙ ap (λ (ps : List ParkedValue). parked_values xs bytes ++ ps) last_stay

-- a list without what stands between two parts
without_middle : {X : Type 0} (xs ys : List X) (x : X) (at : ℕ) → length xs ≡ at → remove (xs ++ x ∷ ys) at ≡ xs ++ ys
without_middle xs ys x at is =
    ap (λ (zs : List _). zs ++ drop (suc at) (xs ++ x ∷ ys)) (take_at xs (x ∷ ys) at is)
    ∙ ap (λ (zs : List _). xs ++ zs) (past xs ys x at is) where
      past : {X : Type 0} (xs ys : List X) (x : X) (at : ℕ) → length xs ≡ at → drop (suc at) (xs ++ x ∷ ys) ≡ ys
      past xs ys x at is =
          let next : at + 1 ≡ suc at = omega arith in
          ap (λ (n : ℕ). drop n (xs ++ x ∷ ys)) (sym next) ∙ sym (drop-drop 1 at (xs ++ x ∷ ys))
          ∙ ap (drop 1) (drop_at xs (x ∷ ys) at is)

-- one is taken out
pub values_removed : (hs : List ParkedHeader) (bytes : List ℕ) (at : ℕ) (d : ParkedHeader) → at < length hs → total_len hs ≤ length bytes →
    parked_values (remove hs at) (copy_within bytes (total_len (take at hs) + (get_or hs at d).len) (total_len hs) (total_len (take at hs)))
    ≡ remove (parked_values hs bytes) at
values_removed hs bytes at d within fit =
    let xs : List ParkedHeader = take at hs in
    let h : ParkedHeader = get_or hs at d in
    let ys : List ParkedHeader = drop (at + 1) hs in
    let whole : hs ≡ xs ++ h ∷ ys = split hs at d within in
    let front : length xs ≡ at = length-take-le at hs (omega (arith, within)) in
    let next : suc at ≡ at + 1 = omega arith in
    let left : remove hs at ≡ xs ++ ys = ap (λ (n : ℕ). xs ++ drop n hs) next in
    let fits : total_len (xs ++ h ∷ ys) ≤ length bytes = subst (λ (l : List ParkedHeader). total_len l ≤ length bytes) whole fit in
    let before : length (parked_values xs bytes) ≡ at = values_length xs bytes ∙ front in
    ap (λ (l : List ParkedHeader). parked_values l (copy_within bytes (total_len xs + h.len) (total_len hs) (total_len xs))) left
    ∙ ap (λ (l : List ParkedHeader). parked_values (xs ++ ys) (copy_within bytes (total_len xs + h.len) (total_len l) (total_len xs))) whole
    ∙ parts_left xs h ys bytes fits
    ∙ sym (ap (λ (l : List ParkedHeader). remove (parked_values l bytes) at) whole ∙ ap (λ (ps : List ParkedValue). remove ps at) (parts xs h ys bytes)
    ∙ without_middle (parked_values xs bytes) (parked_values ys (drop (total_len xs + h.len) bytes)) (parked_value h (drop (total_len xs) bytes)) at before)

-- the one at a place
got_middle : {X : Type 0} (xs ys : List X) (x : X) (at : ℕ) → length xs ≡ at → slice_get (xs ++ x ∷ ys) at ≡ Some x
got_middle [] ys x zero is = refl
got_middle [] ys x (suc at) is = absurd (omega (arith, is))
got_middle (y ∷ xs) ys x zero is = absurd (omega (arith, is))
got_middle (y ∷ xs) ys x (suc at) is = got_middle xs ys x at (omega (arith, is))

pub values_got : (hs : List ParkedHeader) (bytes : List ℕ) (at : ℕ) (d : ParkedHeader) → at < length hs →
    slice_get (parked_values hs bytes) at ≡ Some (parked_value (get_or hs at d) (drop (total_len (take at hs)) bytes))
values_got hs bytes at d within =
    let xs : List ParkedHeader = take at hs in
    let h : ParkedHeader = get_or hs at d in
    let ys : List ParkedHeader = drop (at + 1) hs in
    let front : length xs ≡ at = length-take-le at hs (omega (arith, within)) in
    ap (λ (l : List ParkedHeader). slice_get (parked_values l bytes) at) (split hs at d within)
    ∙ ap (λ (ps : List ParkedValue). slice_get ps at) (parts xs h ys bytes)
    ∙ got_middle (parked_values xs bytes) (parked_values ys (drop (total_len xs + h.len) bytes)) (parked_value h (drop (total_len xs) bytes)) at
    (values_length xs bytes ∙ front)

-- one more comes last
pub values_added : (hs : List ParkedHeader) (h : ParkedHeader) (bytes bytes' : List ℕ) → take (total_len hs) bytes' ≡ take (total_len hs) bytes →
    parked_values (hs ++ h ∷ []) bytes' ≡ parked_values hs bytes ++ parked_value h (drop (total_len hs) bytes') ∷ []
values_added hs h bytes bytes' same =
    values_append hs (h ∷ []) bytes'
    ∙ ap (λ (ps : List ParkedValue). ps ++ parked_value h (drop (total_len hs) bytes') ∷ [])
    (sym (values_front hs bytes' (total_len hs) (omega arith)) ∙ ap (parked_values hs) same ∙ values_front hs bytes (total_len hs) (omega arith))

-- AS A VALUE

-- a list with a place has a first header
pub first_of : (hs : List ParkedHeader) (at : ℕ) → at < length hs → ParkedHeader
first_of [] at inside = absurd (omega (arith, inside))
first_of (h ∷ hs) at inside = h

abbrev pub as_stands : List ParkedHeader → List ℕ → ParkingValue
as_stands hs bytes = record { packets = parked_values hs bytes; room = length bytes }

pub same_parking : (a b : ParkingValue) → a.packets ≡ b.packets → a.room ≡ b.room → a ≡ b
same_parking a b packets room = λ i. record { packets = packets i; room = room i }

same_parked : (a b : ParkedValue) → a.hop ≡ b.hop → a.header ≡ b.header → a.payload ≡ b.payload → a ≡ b
same_parked a b hop header payload = λ i. record { hop = hop i; header = header i; payload = payload i }

pub places : (hs : List ParkedHeader) (bytes : List ℕ) (k : ParkingValue) (at : ℕ) → as_stands hs bytes ≡ k → at < length k.packets → at < length hs
places hs bytes k at is within =
    omega (arith, within, values_length hs bytes, ap (λ (k : ParkingValue). length k.packets) is)

pub taken_out : (hs hs' : List ParkedHeader) (bytes bytes' : List ℕ) (k : ParkingValue) (at start end used : ℕ) →
    as_stands hs bytes ≡ k → at < length k.packets → total_len hs ≤ length bytes → start ≡ total_len (take at hs) → end ≡ total_len (take (at + 1) hs) →
    used ≡ total_len hs → hs' ≡ remove hs at → bytes' ≡ copy_within bytes end used start → length bytes' ≡ length bytes →
    as_stands hs' bytes' ≡ record k { packets = remove k.packets at }
taken_out hs hs' bytes bytes' k at start end used is within fit start_is end_is used_is left moved as_long =
    let inside : at < length hs = places hs bytes k at is within in
    let d : ParkedHeader = first_of hs at inside in
    let h : ParkedHeader = get_or hs at d in
    let from : end ≡ total_len (take at hs) + h.len = end_is ∙ sum_by_more (λ (h : ParkedHeader). h.len) hs at d inside in
    let shifted : bytes' ≡ copy_within bytes (total_len (take at hs) + h.len) (total_len hs) (total_len (take at hs)) =
    moved ∙ ap (λ (n : ℕ). copy_within bytes n used start) from ∙ ap (λ (n : ℕ). copy_within bytes (total_len (take at hs) + h.len) n start) used_is
    ∙ ap (λ (n : ℕ). copy_within bytes (total_len (take at hs) + h.len) (total_len hs) n) start_is in
    let packets : parked_values hs' bytes' ≡ remove (parked_values hs bytes) at =
    ap (λ (xs : List ParkedHeader). parked_values xs bytes') left ∙ ap (parked_values (remove hs at)) shifted
    ∙ values_removed hs bytes at d inside fit in
    same_parking (as_stands hs' bytes') (record (as_stands hs bytes) { packets = remove (parked_values hs bytes) at }) packets as_long
    ∙ ap (λ (k : ParkingValue). record k { packets = remove k.packets at }) is

-- what is left is no longer than it was
pub left_fits : (hs : List ParkedHeader) (at : ℕ) → at < length hs → total_len (remove hs at) ≤ total_len hs
left_fits hs at inside = omega (arith, sum_by-remove (λ (h : ParkedHeader). h.len) hs at (first_of hs at inside) inside)

pub front_grows : (hs : List ParkedHeader) (at : ℕ) → at < length hs → total_len (take at hs) ≤ total_len (take (at + 1) hs)
front_grows hs at inside = omega (arith, sum_by_more (λ (h : ParkedHeader). h.len) hs at (first_of hs at inside) inside)

pub put_last : (hs hs' : List ParkedHeader) (bytes bytes' : List ℕ) (k : ParkingValue) (p : ParkedValue) (h : ParkedHeader) → as_stands hs bytes ≡ k →
    hs' ≡ hs ++ h ∷ [] → take (total_len hs) bytes' ≡ take (total_len hs) bytes → h.hop ≡ p.hop → h.header ≡ p.header →
    take h.len (drop (total_len hs) bytes') ≡ p.payload → length bytes' ≡ length bytes → as_stands hs' bytes' ≡ record k { packets = k.packets ++ p ∷ [] }
put_last hs hs' bytes bytes' k p h is more same hop header text as_long =
    let packets : parked_values hs' bytes' ≡ parked_values hs bytes ++ p ∷ [] =
    ap (λ (xs : List ParkedHeader). parked_values xs bytes') more ∙ values_added hs h bytes bytes' same
    ∙ ap (λ (x : ParkedValue). parked_values hs bytes ++ x ∷ [])
    (same_parked (parked_value h (drop (total_len hs) bytes')) p hop header text) in
    same_parking (as_stands hs' bytes') (record (as_stands hs bytes) { packets = parked_values hs bytes ++ p ∷ [] }) packets as_long
    ∙ ap (λ (k : ParkingValue). record k { packets = k.packets ++ p ∷ [] }) is

pub added_len : (hs hs' : List ParkedHeader) (h : ParkedHeader) → hs' ≡ hs ++ h ∷ [] → total_len hs' ≡ total_len hs + h.len
added_len hs hs' h more = ap total_len more ∙ sum_by_push (λ (h : ParkedHeader). h.len) hs h

pub found_at : (hs : List ParkedHeader) (bytes : List ℕ) (k : ParkingValue) (at start : ℕ) (h : ParkedHeader) (text : List ℕ) → as_stands hs bytes ≡ k →
    start ≡ total_len (take at hs) → slice_get hs at ≡ Some h → text ≡ take h.len (drop start bytes) →
    slice_get k.packets at ≡ Some (record { hop = h.hop; header = h.header; payload = text })
found_at hs bytes k at start h text is start_is got text_is =
    sym (ap (λ (k : ParkingValue). slice_get k.packets at) is) ∙ values_got hs bytes at h (slice_get_within hs at h got)
    ∙ ap (λ (x : ParkedHeader). Some (parked_value x (drop (total_len (take at hs)) bytes))) (get_or_from_slice_get hs at h h got)
    ∙ ap (λ (n : ℕ). Some (parked_value h (drop n bytes))) (sym start_is)
    ∙ ap (λ (bs : List ℕ). Some (record { hop = h.hop; header = h.header; payload = bs })) (sym text_is)

all_by : {X : Type 0} (P : X → Type 0) (xs : List X) (i k : ℕ) (d : X) → i < length xs → k < length (remove xs i) → All P xs → (b : Bool) →
    nat_lt k i ≡ b → P (get_or (remove xs i) k d)
all_by P xs i k d within inside all true is =
    subst P (sym (get_or-remove_below xs i d k (grind (arith, nat_tests)) within)) (all k d (omega (arith, inside, length-remove xs i within)))
all_by P xs i k d within inside all false is =
    subst P (sym (get_or-remove_above xs i d k (grind (arith, nat_tests)) within)) (all (k + 1) d (omega (arith, inside, length-remove xs i within)))

pub all_left : {X : Type 0} (P : X → Type 0) (xs : List X) (i : ℕ) → i < length xs → All P xs → All P (remove xs i)
all_left P xs i within all k d inside = all_by P xs i k d within inside all (nat_lt k i) refl

pub all_more : {X : Type 0} (P : X → Type 0) (xs : List X) (x : X) → All P xs → P x → All P (xs ++ x ∷ [])
all_more P xs x all is = All-append P xs (x ∷ []) all (only P x is) where
  only : {X : Type 0} (P : X → Type 0) (x : X) → P x → All P (x ∷ [])
  only P x is zero d inside = is
  only P x is (suc k) d inside = absurd (omega (arith, inside))

pub part_fits : (hs : List ParkedHeader) (bytes : List ℕ) (at start : ℕ) (h : ParkedHeader) → total_len hs ≤ length bytes → start ≡ total_len (take at hs) →
    slice_get hs at ≡ Some h → start + h.len ≤ length bytes
part_fits hs bytes at start h fit start_is got = omega (arith, fit, start_is, front_within hs at h got)

pub measured_at : (hs : List ParkedHeader) (at : ℕ) (h : ParkedHeader) → All IsMeasured hs → slice_get hs at ≡ Some h → IsMeasured h
measured_at hs at h all got = subst IsMeasured (get_or_from_slice_get hs at h h got) (all at h (slice_get_within hs at h got))

pub part_length : (bytes : List ℕ) (start len : ℕ) → start + len ≤ length bytes → length (take len (drop start bytes)) ≡ len
part_length bytes start len fits = length-take-le len (drop start bytes) (omega (arith, fits, length-drop start bytes))

-- WHO WAITS FOR A HOP

abbrev pub is_header_for : IpAddress → ParkedHeader → Bool
is_header_for hop h = is_same_address h.hop hop

both_longer : {X Y : Type 0} (b : Bool) (x : X) (xs : List X) (y : Y) (ys : List Y) → length xs ≡ length ys →
    length (cond b (x ∷ xs) xs) ≡ length (cond b (y ∷ ys) ys)
both_longer true x xs y ys same = ap suc same
both_longer false x xs y ys same = same

pub values_waiting : (hop : IpAddress) (hs : List ParkedHeader) (bytes : List ℕ) →
    length (filter (is_for hop) (parked_values hs bytes)) ≡ length (filter (is_header_for hop) hs)
values_waiting hop [] bytes = refl
values_waiting hop (h ∷ hs) bytes =
    both_longer (is_header_for hop h) (parked_value h bytes) (filter (is_for hop) (parked_values hs (drop h.len bytes))) h
    (filter (is_header_for hop) hs) (values_waiting hop hs (drop h.len bytes))

values_before : (hop : IpAddress) (hs : List ParkedHeader) (bytes : List ℕ) →
    prefix_len (λ p. not (is_for hop p)) (parked_values hs bytes) ≡ prefix_len (λ h. not (is_header_for hop h)) hs
values_before hop [] bytes = refl
values_before hop (h ∷ hs) bytes =
    ap (λ (n : ℕ). cond (not (is_header_for hop h)) (1 + n) 0) (values_before hop hs (drop h.len bytes))

pub values_first : (hop : IpAddress) (hs : List ParkedHeader) (bytes : List ℕ) →
    position (is_for hop) (parked_values hs bytes) ≡ position (is_header_for hop) hs
values_first hop hs bytes =
    ap (λ (n : ℕ). cond (nat_lt n (length (parked_values hs bytes))) (Some n) None) (values_before hop hs bytes)
    ∙ ap (λ (k : ℕ). cond (nat_lt (prefix_len (λ h. not (is_header_for hop h)) hs) k) (Some (prefix_len (λ h. not (is_header_for hop h)) hs)) None)
    (values_length hs bytes)

pub place_by : (hop : IpAddress) (hs : List ParkedHeader) (bytes : List ℕ) (k : ParkingValue) (count : ℕ) → as_stands hs bytes ≡ k →
    count ≡ length (filter (is_header_for hop) hs) →
    (if nat_le 4 count then position (is_header_for hop) hs else None) ≡ place_to_go hop k.packets
place_by hop hs bytes k count is count_is =
    ap (λ (n : ℕ). if nat_le 4 n then position (is_header_for hop) hs else None) (count_is ∙ sym (values_waiting hop hs bytes))
    ∙ ap (λ (o : Option ℕ). if nat_le 4 (length (filter (is_for hop) (parked_values hs bytes))) then o else None) (sym (values_first hop hs bytes))
    ∙ ap (λ (k : ParkingValue). place_to_go hop k.packets) is

few : (n : ℕ) → n < 4 → nat_le 4 n ≡ false
few n less = grind (arith, nat_tests)

many : (n : ℕ) → 4 ≤ n → nat_le 4 n ≡ true
many n more = grind (arith, nat_tests)

pub place_of_few : (count : ℕ) (o p : Option ℕ) → (if nat_le 4 count then o else None) ≡ p → count < 4 → None ≡ p
place_of_few count o p is less = ap (λ (b : Bool). if b then o else None) (sym (few count less)) ∙ is

pub place_of_many : (count : ℕ) (o p : Option ℕ) → (if nat_le 4 count then o else None) ≡ p → 4 ≤ count → o ≡ p
place_of_many count o p is more = ap (λ (b : Bool). if b then o else None) (sym (many count more)) ∙ is

-- ROOM

-- without room the oldest goes
pub record OldestGoes (room len : ℕ) (ps : List ParkedValue) : Type 0 where
  pub some : 0 < length ps
  pub same : with_room_for room len (remove ps 0) ≡ with_room_for room len ps
  pub fewer : length (remove ps 0) + 1 ≡ length ps

pub oldest_goes : (room len : ℕ) (ps : List ParkedValue) → is_holdable room len ≡ true → has_room room len ps ≡ false → OldestGoes room len ps
oldest_goes room len [] holds none =
    let none_yet : 0 + len ≡ len = omega arith in
    let has : has_room room len [] ≡ true =
    ap (λ (n : ℕ). nat_le n room) none_yet ∙ (and_parts (not (room == 0)) (nat_le len room) holds).1 in
    let clash : true ≡ false = sym has ∙ none in
    absurd cc
oldest_goes room len (p ∷ ps) holds none = record {
  some = omega arith;
  same = sym (ap (λ (b : Bool). cond b (p ∷ ps) (with_room_for room len ps)) none);
  fewer = omega arith;
}

pub room_there : (room len : ℕ) (ps : List ParkedValue) → has_room room len ps ≡ true → with_room_for room len ps ≡ ps
room_there room len [] has = refl
room_there room len (p ∷ ps) has = ap (λ (b : Bool). cond b (p ∷ ps) (with_room_for room len ps)) has

moved_over : (used room len : ℕ) → len ≤ room → nat_le used (room - len) ≡ nat_le (used + len) room
moved_over used room len fits = grind (arith, nat_tests)

pub room_by : (hs : List ParkedHeader) (bytes : List ℕ) (k : ParkingValue) (count used room len : ℕ) → as_stands hs bytes ≡ k → total_len hs ≤ length bytes →
    count ≡ length hs → used ≡ total_len hs → room ≡ length bytes - len → len ≤ k.room →
    (nat_lt count 16 && nat_le used room) ≡ has_room k.room len k.packets
room_by hs bytes k count used room len is fit count_is used_is room_is holds =
    let within : len ≤ length bytes = omega (arith, holds, ap (λ (k : ParkingValue). k.room) is) in
    ap (λ (n : ℕ). nat_lt n 16 && nat_le used room) (count_is ∙ sym (values_length hs bytes))
    ∙ ap (λ (n : ℕ). nat_lt (length (parked_values hs bytes)) 16 && nat_le n room) (used_is ∙ sym (values_bytes hs bytes fit))
    ∙ ap (λ (n : ℕ). nat_lt (length (parked_values hs bytes)) 16 && nat_le (bytes_of (parked_values hs bytes)) n) room_is
    ∙ ap (λ (b : Bool). nat_lt (length (parked_values hs bytes)) 16 && b) (moved_over (bytes_of (parked_values hs bytes)) (length bytes) len within)
    ∙ ap (λ (k : ParkingValue). has_room k.room len k.packets) is

below16 : (n : ℕ) → n < 16 → nat_lt n 16 ≡ true
below16 n less = grind (arith, nat_tests)

above16 : (n : ℕ) → 16 ≤ n → nat_lt n 16 ≡ false
above16 n more = grind (arith, nat_tests)

pub room_of_few : (n : ℕ) (b r : Bool) → (nat_lt n 16 && b) ≡ r → n < 16 → b ≡ r
room_of_few n b r is less = ap (λ (t : Bool). t && b) (sym (below16 n less)) ∙ is

pub room_other : (n : ℕ) (b r : Bool) → (nat_lt n 16 && b) ≡ r → 16 ≤ n → nat_lt n 16 ≡ r
room_other n b r is more = above16 n more ∙ ap (λ (t : Bool). t && b) (sym (above16 n more)) ∙ is

-- what has room fits its header's field
pub short_fits : (h : IpRepr) (n : ℕ) → Ips.payload_len_of h ≡ n → n ≤ parking_size → Ips.Fits h
short_fits (Ip.Ipv4 v) n is short = omega (arith, is, short)
short_fits (Ip.Ipv6 v) n is short = omega (arith, is, short)

pub record RoomLeft (hs : List ParkedHeader) (bytes : List ℕ) (len : ℕ) : Type 0 where
  pub places : length hs < 16
  pub bytes_left : total_len hs + len ≤ length bytes

pub room_left : (hs : List ParkedHeader) (bytes : List ℕ) (k : ParkingValue) (len : ℕ) → as_stands hs bytes ≡ k → total_len hs ≤ length bytes →
    has_room k.room len k.packets ≡ true → RoomLeft hs bytes len
room_left hs bytes k len is fit has =
    let parts =
    and_parts (nat_lt (length (parked_values hs bytes)) 16) (nat_le (bytes_of (parked_values hs bytes) + len) (length bytes))
    (ap (λ (k : ParkingValue). has_room k.room len k.packets) is ∙ has) in
    let few : length (parked_values hs bytes) < 16 = first_fits (length (parked_values hs bytes)) 16 parts.0 in
    let left : bytes_of (parked_values hs bytes) + len ≤ length bytes = rest_fits (bytes_of (parked_values hs bytes) + len) (length bytes) parts.1 in
    record {
      places = omega (arith, few, values_length hs bytes);
      bytes_left = omega (arith, left, values_bytes hs bytes fit);
    }
  where
    first_fits : (a b : ℕ) → nat_lt a b ≡ true → a < b
    first_fits a b is = grind (arith, nat_tests)

    rest_fits : (a b : ℕ) → nat_le a b ≡ true → a ≤ b
    rest_fits a b is = grind (arith, nat_tests)
