-- What two reads, of a turn's head and of its packet, say of the bytes that they come from.
use Rattle.std.proofs.Common.{◌≡◌, ◌≢◌, ℕ, ◌+◌, ◌<◌, ◌≤◌, ℤ, pos, List, [], ◌++◌, length, take, drop, Option, None, Some, IfSome, sym, ap, ◌∙◌, subst, arith}
use Rattle.std.proofs.Common.{take_at, drop_at, append_assoc}
use Rattle.std.proofs.lemmas.List.{length-append, drop-append-le}
use Rattle.std.specs.Io.KnownBytes.{Consumes, IsAtEnd}
use Rattle.byteorder.specs.Endian.{little_number}
use Rattle.byteorder.specs.Numbers.{little_from-append}
use Rattle.app_tun_services.specs.declared.link.turn.TurnError.{TurnError}
use Rattle.app_tun_services.specs.declared.link.turn.TurnError.TheVariants.{Length, Moment, Cut, Memory, Reader}
use Rattle.app_tun_services.specs.Link.Turn.{size_in, micros_in, MayFollow, Takes, Next, Refuses, LacksBytes}

-- the head says the length and the instant, whatever comes after it
pub size_following : (bytes head rest : List ℕ) → bytes ≡ head ++ rest → length head ≡ 10 → size_in bytes ≡ little_number 2 head
size_following bytes head rest e ten =
    ap (little_number 2) e ∙ little_from-append 2 head rest (omega (arith, ten))

pub micros_following : (bytes head rest : List ℕ) → bytes ≡ head ++ rest → length head ≡ 10 → micros_in bytes ≡ little_number 8 (drop 2 head)
micros_following bytes head rest e ten =
    let long : 8 ≤ length (drop 2 head) = grind (arith, ten) in
    ap (λ it. little_number 8 (drop 2 it)) e
    ∙ ap (little_number 8) (drop-append-le 2 head rest (omega (arith, ten)))
    ∙ little_from-append 8 (drop 2 head) rest long

module _ (most : ℕ) (last : ℤ) where
  taken : (bytes left head packet : List ℕ) (instant : ℤ) → bytes ≡ head ++ (packet ++ left) → length head ≡ 10
      → length packet ≡ little_number 2 head → little_number 2 head ≤ most
      → instant ≡ pos (little_number 8 (drop 2 head)) → MayFollow last instant → Takes most last bytes instant packet left
  taken bytes left head packet instant e ten size fits at follows =
      let said = size_following bytes head (packet ++ left) e ten in
      let when = micros_following bytes head (packet ++ left) e ten in
      let all : length bytes ≡ length head + (length packet + length left) = ap length e ∙ length-append head (packet ++ left) ∙
      ap (λ n. length head + n) (length-append packet left) in
      let same : instant ≡ pos (micros_in bytes) = at ∙ ap pos (sym when) in
      let following : drop 10 bytes ≡ packet ++ left = ap (drop 10) e ∙ drop_at head (packet ++ left) 10 ten in
      let len : length packet ≡ size_in bytes = size ∙ sym said in
      record {
        turn = record {
          whole = omega (arith, all, ten, len);
          size = omega (arith, said, fits);
          instant = subst (MayFollow last) same follows;
        };
        at = same;
        brings = sym (ap (take (size_in bytes)) following ∙ take_at packet left (size_in bytes) len);
        leaves = sym (ap (λ it. drop (10 + size_in bytes) it) (e ∙ sym (append_assoc head packet left)) ∙
            drop_at (head ++ packet) left (10 + size_in bytes) (length-append head packet ∙ omega (arith, ten, len)));
      }

  -- a head and then its packet are a turn
  pub turn_taken : (a b c : Option (List ℕ)) (head packet : List ℕ) (instant : ℤ) → Consumes a b head → Consumes b c packet → length head ≡ 10
      → length packet ≡ little_number 2 head → little_number 2 head ≤ most
      → instant ≡ pos (little_number 8 (drop 2 head)) → MayFollow last instant
      → IfSome a (λ bytes. Next most last bytes (Some instant) packet c)
  turn_taken None b c head packet instant p q ten size fits at follows = tt
  turn_taken (Some x) None c head packet instant p q ten size fits at follows = absurd p
  turn_taken (Some x) (Some y) None head packet instant p q ten size fits at follows = absurd q
  turn_taken (Some x) (Some y) (Some z) head packet instant p q ten size fits at follows =
      taken x z head packet instant (p ∙ ap (λ it. head ++ it) q) ten size fits at follows

  -- nothing was read where nothing is left
  pub none_left : (a b : Option (List ℕ)) (bytes packet : List ℕ) (c : Option (List ℕ)) → Consumes a b bytes → bytes ≡ [] → IsAtEnd b
      → IfSome a (λ it. Next most last it None packet c)
  none_left None b bytes packet c p none end = tt
  none_left (Some x) None bytes packet c p none end = absurd p
  none_left (Some x) (Some y) bytes packet c p none end = p ∙ ap (λ it. it ++ y) none ∙ end

  -- a head that ends early is that of no turn
  pub head_cut : (a b : Option (List ℕ)) (bytes : List ℕ) (count : ℕ) → Consumes a b bytes → IsAtEnd b → length bytes ≡ count → count ≢ 0 → count < 10
      → IfSome a (λ it. Refuses most last it Cut)
  head_cut None b bytes count p end len some short = tt
  head_cut (Some x) None bytes count p end len some short = absurd p
  head_cut (Some x) (Some y) bytes count p end len some short =
      let all : length x ≡ length bytes + length y = ap length p ∙ length-append bytes y in
      let none : length y ≡ 0 = ap length end in
      (λ nothing. some (sym len ∙ omega (arith, all, none, ap length nothing)), omega (arith, all, none, len, short))

  -- a head with a length that can't be
  pub too_long : (a b : Option (List ℕ)) (head : List ℕ) → Consumes a b head → length head ≡ 10 → most < little_number 2 head
      → IfSome a (λ it. Refuses most last it Length)
  too_long None b head p ten long = tt
  too_long (Some x) None head p ten long = absurd p
  too_long (Some x) (Some y) head p ten long =
      let said = size_following x head y p ten in
      let all : length x ≡ length head + length y = ap length p ∙ length-append head y in
      (omega (arith, all, ten), omega (arith, said, long))

  -- a head with an instant that can't follow
  pub out_of_order : (a b : Option (List ℕ)) (head : List ℕ) → Consumes a b head → length head ≡ 10 → little_number 2 head ≤ most
      → (MayFollow last (pos (little_number 8 (drop 2 head))) → ⊥) → IfSome a (λ it. Refuses most last it Moment)
  out_of_order None b head p ten fits never = tt
  out_of_order (Some x) None head p ten fits never = absurd p
  out_of_order (Some x) (Some y) head p ten fits never =
      let said = size_following x head y p ten in
      let when = micros_following x head y p ten in
      let all : length x ≡ length head + length y = ap length p ∙ length-append head y in
      (omega (arith, all, ten), omega (arith, said, fits), λ follows. never (subst (λ micros. MayFollow last (pos micros)) when follows))

  cut_after : (x y head : List ℕ) → x ≡ head ++ y → length head ≡ 10 → length y < little_number 2 head → Refuses most last x Cut
  cut_after x y head e ten short =
      let said = size_following x head y e ten in
      let all : length x ≡ length head + length y = ap length e ∙ length-append head y in
      (λ nothing. absurd (omega (arith, all, ten, ap length nothing)), omega (arith, all, ten, said, short))

  -- a packet that wasn't read, after its head
  pub packet_cut : (a b : Option (List ℕ)) (head : List ℕ) (error : TurnError) → Consumes a b head → length head ≡ 10
      → IfSome b (LacksBytes (little_number 2 head) error) → IfSome a (λ it. Refuses most last it error)
  packet_cut None b head error p ten lacks = tt
  packet_cut (Some x) None head error p ten lacks = absurd p
  packet_cut (Some x) (Some y) head Length p ten lacks = absurd lacks
  packet_cut (Some x) (Some y) head Moment p ten lacks = absurd lacks
  packet_cut (Some x) (Some y) head Cut p ten lacks = cut_after x y head p ten lacks
  packet_cut (Some x) (Some y) head Memory p ten lacks = tt
  packet_cut (Some x) (Some y) head Reader p ten lacks = tt

-- a packet that ends early lacks bytes
pub lacks : (a b : Option (List ℕ)) (bytes : List ℕ) (count size : ℕ) → Consumes a b bytes → IsAtEnd b → length bytes ≡ count → count < size
    → IfSome a (LacksBytes size Cut)
lacks None b bytes count size p end len short = tt
lacks (Some x) None bytes count size p end len short = absurd p
lacks (Some x) (Some y) bytes count size p end len short =
    let all : length x ≡ length bytes + length y = ap length p ∙ length-append bytes y in
    let none : length y ≡ 0 = ap length end in
    omega (arith, all, none, len, short)

-- the reader or the memory may fail at any bytes
pub unread : (most : ℕ) (last : ℤ) (a : Option (List ℕ)) → IfSome a (λ it. Refuses most last it Reader)
unread most last None = tt
unread most last (Some x) = tt
