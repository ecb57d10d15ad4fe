-- The link hands a frame over, or cuts one.
use Rattle.std.proofs.Common.{◌≡◌, ◌≢◌, ℕ, zero, suc, ◌+◌, ◌%◌, ◌^◌, ◌<◌, ◌≤◌, ◌==◌, Bool, true, false, cond, not, ◌||◌, List, [], ◌∷◌, ◌++◌, length, get_or}
use Rattle.std.proofs.Common.{Option, Some, None, refl, sym, ◌∙◌, ap, subst, arith}
use Rattle.std.specs.Prelude.{nat_lt}
use Rattle.std.specs.List.{AllByRecursion}
use Rattle.std.proofs.lemmas.Bool.Decides.{nat_tests}
use Rattle.sim_link.specs.Medium.{Medium}
use Rattle.iface_ingress.specs.Fields.{be16}
use Rattle.sim_link.specs.PacketInFrame.{names_tcp_or_udp}
use Rattle.sim_link.specs.Cuts.{ipv4_part, first_fragment, second_fragment}
use Rattle.sim_link.specs.Parts.{tcp_part, bytes_at}
use Rattle.sim_link.specs.declared.part.Part.{Part}
use Rattle.lan.specs.Worlds.AtLink.Kinds.{other, Origin, Delivered, Damaged, Noisy}
use Rattle.lan.specs.Worlds.AtLink.Tables.{first_refusal}
use Rattle.lan.specs.Worlds.AtLink.Refused.{Refused}
use Rattle.lan.specs.Worlds.AtLink.Refused.TheVariants as For
use Rattle.lan.specs.Worlds.AtLink.Side.{Side}
use Rattle.lan.specs.Worlds.AtLink.Side.TheVariants.{A, B}
use Rattle.lan.specs.Worlds.AtLink.Kinds.LinkAct.{Hands, Cuts}
use Rattle.lan.specs.Worlds.AtLink.Parties.{Net, party}
use Rattle.lan.specs.Worlds.AtLink.Port.{added, arrived}
use Rattle.lan.specs.Worlds.AtLink.Origins.{medium_of, frame_sent, damaged_in, frame_of_origin, handed, cut}
use Rattle.lan.specs.Worlds.AtLink.Refusals.{is_no_frame, is_no_slot, is_same_sum, segment_tests, is_no_cut, cut_tests, link_tests}
use Rattle.lan.specs.Worlds.AtLink.Node.{Nodes, node, with_link}
use Rattle.lan.specs.Worlds.Moves.Made.{MadeBy}
use Rattle.lan.specs.Worlds.Link.Frames.{medium_on, BringsFrom}
use Rattle.lan.specs.Worlds.Link.Sides.{IsHostFrame, IsDamage}
use Rattle.lan.proofs.Worlds.Link.DamagedFrames.{damaged_brings}
use Rattle.lan.proofs.Worlds.Link.HostFrames.{host_frame_brings, noise_brings, cut_is_host}
use Rattle.lan.proofs.Worlds.Link.Assemblers.{all_more}
use Rattle.lan.proofs.Worlds.Link.Taken.{handed_receiver}
use Rattle.lan.specs.Worlds.Events.{HasWord}
use Rattle.lan.specs.Worlds.Joins.{Sends, Receives, AreJoined}

-- TESTS

-- the first test doesn't hold, nor any of the rest
pub passed : (b : Bool) (r : Refused) (rest : Option Refused) → cond b (Some r) rest ≡ None → (b ≡ false) × (rest ≡ None)
passed true r rest none = absurd cc
passed false r rest none = (refl, none)

not_false : (b : Bool) → not b ≡ false → b ≡ true
not_false true none = refl
not_false false none = absurd cc

less : (k n : ℕ) → nat_lt k n ≡ true → k < n
less k n is = grind (arith, nat_tests)

equal : (n m : ℕ) → n == m ≡ true → n ≡ m
equal n m is = grind (arith, nat_tests)

pub below : (k n : ℕ) → not (nat_lt k n) ≡ false → k < n
below k n none = less k n (not_false (nat_lt k n) none)

pub all_get : {X : Type 0} (P : X → Type 0) (xs : List X) (k : ℕ) (d : X) → AllByRecursion P xs → k < length xs → P (get_or xs k d)
all_get P [] k d all within = absurd (omega arith)
all_get P (x ∷ xs) zero d all within = all.0
all_get P (x ∷ xs) (suc k) d all within = all_get P xs k d all.1 (omega arith)

pub either_none : (a b : Bool) → a || b ≡ false → (a ≡ false) × (b ≡ false)
either_none true b none = absurd cc
either_none false b none = (refl, none)

not_one : (m : ℕ) → m < 2 → m == 1 ≡ false → m ≡ 0
not_one m small none = grind (arith, nat_tests)

even_by : (n : ℕ) → n % 2 == 1 ≡ false → n % 2 ≡ 0
even_by n none = not_one (n % 2) (omega arith) none

fits_by : (len slot : ℕ) → nat_lt len (slot + 2) ≡ false → slot + 2 ≤ len
fits_by len slot none = grind (arith, nat_tests)

equal_so : (n m : ℕ) → n ≡ m → n == m ≡ true
equal_so n m same = grind (arith, nat_tests)

other_sum : (n m : ℕ) → n == m ≡ false → n ≢ m
other_sum n m none = λ same. let e : true ≡ false = sym (equal_so n m same) ∙ none in cc

pub unit_by : (n : ℕ) → not (n % 8 == 0) ≡ false → n % 8 ≡ 0
unit_by n none = equal (n % 8) 0 (not_false (n % 8 == 0) none)

pub inside_by : (n m : ℕ) → not (nat_lt n m) ≡ false → n ≤ m
inside_by n m none = let h : n < m = below n m none in omega arith

-- a word that may be exchanged
pub damage_of : (frame : List ℕ) (part : Part) (slot word : ℕ) → word < 2 ^ 16 → first_refusal (segment_tests frame (Some part) slot word) ≡ None →
    IsDamage frame part slot word
damage_of frame part slot word small allowed =
    let first = passed (is_no_slot part slot) For.Place (first_refusal ((is_same_sum frame part slot word, For.SameSum) ∷ [])) allowed in
    let second = passed (is_same_sum frame part slot word) For.SameSum None first.1 in
    let slot_is = either_none (slot % 2 == 1) (nat_lt part.len (slot + 2)) first.0 in
    record {
      even = even_by slot slot_is.0;
      within = fits_by part.len slot slot_is.1;
      small = small;
      other =
          other_sum (be16 (bytes_at frame part) slot % 65535) (word % 65535) second.0;
    }

-- FRAMES THAT ARE HANDED OVER

module _ (firsts most : Side → ℕ) (hosts : Nodes) (net : Net) (j : AreJoined firsts most hosts net) where
  -- a sent frame is a host's
  pub sent_frame : (from : Side) (k : ℕ) → is_no_frame (node hosts from) k ≡ false →
      IsHostFrame (medium_on (node hosts from).host.inner.hardware) (j.out from) (frame_sent hosts from k)
  sent_frame from k there =
      all_get (IsHostFrame (medium_on (node hosts from).host.inner.hardware) (j.out from)) (node hosts from).link.sent k [] (j.sends from).frames
      (below k (length (node hosts from).link.sent) there)

  -- on the medium of the host `to`
  module _ (from to : Side) (same : medium_on (node hosts from).host.inner.hardware ≡ medium_on (node hosts to).host.inner.hardware) where
    abbrev Brings : List ℕ → Type 0
    Brings frame = BringsFrom (MadeBy (party net from)) (j.out from) (node hosts to).host.inner.hardware frame

    there_frame : (k : ℕ) → is_no_frame (node hosts from) k ≡ false →
        IsHostFrame (medium_on (node hosts to).host.inner.hardware) (j.out from) (frame_sent hosts from k)
    there_frame k there = subst (λ (m : Medium). IsHostFrame m (j.out from) (frame_sent hosts from k)) same (sent_frame from k there)

    delivered : (k : ℕ) (padding : List ℕ) → is_no_frame (node hosts from) k ≡ false → Brings (frame_sent hosts from k ++ padding)
    delivered k padding there =
        host_frame_brings (MadeBy (party net from)) (node hosts to).host.inner.hardware (j.out from) (frame_sent hosts from k) padding
        (j.sends from).are_sent.packets (there_frame k there)

    damage_by : (k slot word : ℕ) (padding : List ℕ) (o : Option Part) → is_no_frame (node hosts from) k ≡ false → word < 2 ^ 16 →
        tcp_part (medium_on (node hosts to).host.inner.hardware) (frame_sent hosts from k) ≡ o
        → first_refusal (segment_tests (frame_sent hosts from k) o slot word) ≡ None → Brings (damaged_in o (frame_sent hosts from k) slot word ++ padding)
    damage_by k slot word padding None there small is allowed = absurd cc
    damage_by k slot word padding (Some part) there small is allowed =
        let frame : List ℕ = frame_sent hosts from k in
        damaged_brings (MadeBy (party net from)) (node hosts to).host.inner.hardware (j.out from) (j.sends from).are_sent.packets frame part slot word
        padding (there_frame k there) is
        (damage_of frame part slot word small allowed)

    damage : (k slot word : ℕ) (padding : List ℕ) → word < 2 ^ 16 → first_refusal (link_tests hosts (Hands (Damaged from k slot word padding))) ≡ None
        → Brings (damaged_in (tcp_part (medium_of (node hosts from)) (frame_sent hosts from k)) (frame_sent hosts from k) slot word ++ padding)
    damage k slot word padding small allowed =
        let o : Option Part = tcp_part (medium_of (node hosts from)) (frame_sent hosts from k) in
        let first = passed (is_no_frame (node hosts from) k) For.NoFrame (first_refusal (segment_tests (frame_sent hosts from k) o slot word)) allowed in
        damage_by k slot word padding o first.0 small (ap (λ (m : Medium). tcp_part m (frame_sent hosts from k)) (sym same ∙ sym (j.device from))) first.1

  -- THE HOSTS AFTERWARDS

  hand_a : (frame : List ℕ) → BringsFrom (MadeBy net.b) (j.out B) hosts.a.host.inner.hardware frame →
      AreJoined firsts most (record hosts { a = with_link hosts.a (arrived hosts.a.link frame) }) net
  hand_a frame brings = record {
    out = j.out;
    medium = j.medium;
    counted = j.counted;
    device = λ side. elim side as (λ x. (node (record hosts { a = with_link hosts.a (arrived hosts.a.link frame) }) x).link.capabilities.medium ≡
        medium_on (node (record hosts { a = with_link hosts.a (arrived hosts.a.link frame) }) x).host.inner.hardware) [ A ↦ j.device A | B ↦ j.device B ];
    sends = λ side. elim side as
        (λ x. Sends (party net x) (firsts x) (node (record hosts { a = with_link hosts.a (arrived hosts.a.link frame) }) x) (j.out x))
        [ A ↦ j.sends A | B ↦ j.sends B ];
    receives = λ side. elim side as
        (λ x. Receives (party net (other x)) (j.out (other x)) (node (record hosts { a = with_link hosts.a (arrived hosts.a.link frame) }) x)) [
          | A ↦ handed_receiver (MadeBy net.b) (j.out B) hosts.a.host.inner hosts.a.host.assemblers hosts.a.link.waiting frame brings (j.receives A)
          | B ↦ j.receives B
        ];
  }

  hand_b : (frame : List ℕ) → BringsFrom (MadeBy net.a) (j.out A) hosts.b.host.inner.hardware frame →
      AreJoined firsts most (record hosts { b = with_link hosts.b (arrived hosts.b.link frame) }) net
  hand_b frame brings = record {
    out = j.out;
    medium = j.medium;
    counted = j.counted;
    device = λ side. elim side as (λ x. (node (record hosts { b = with_link hosts.b (arrived hosts.b.link frame) }) x).link.capabilities.medium ≡
        medium_on (node (record hosts { b = with_link hosts.b (arrived hosts.b.link frame) }) x).host.inner.hardware) [ A ↦ j.device A | B ↦ j.device B ];
    sends = λ side. elim side as
        (λ x. Sends (party net x) (firsts x) (node (record hosts { b = with_link hosts.b (arrived hosts.b.link frame) }) x) (j.out x))
        [ A ↦ j.sends A | B ↦ j.sends B ];
    receives = λ side. elim side as
        (λ x. Receives (party net (other x)) (j.out (other x)) (node (record hosts { b = with_link hosts.b (arrived hosts.b.link frame) }) x)) [
          | A ↦ j.receives A
          | B ↦ handed_receiver (MadeBy net.a) (j.out A) hosts.b.host.inner hosts.b.host.assemblers hosts.b.link.waiting frame brings (j.receives B)
        ];
  }

  -- an allowed hand-over
  pub handed_joins : (o : Origin) → HasWord o → first_refusal (link_tests hosts (Hands o)) ≡ None → AreJoined firsts most (handed hosts o) net
  handed_joins (Delivered A k padding) word allowed =
      hand_b (frame_sent hosts A k ++ padding) (delivered A B j.medium k padding (passed (is_no_frame hosts.a k) For.NoFrame None allowed).0)
  handed_joins (Delivered B k padding) word allowed =
      hand_a (frame_sent hosts B k ++ padding) (delivered B A (sym j.medium) k padding (passed (is_no_frame hosts.b k) For.NoFrame None allowed).0)
  handed_joins (Damaged A k slot word padding) small allowed =
      hand_b (frame_of_origin hosts (Damaged A k slot word padding)) (damage A B j.medium k slot word padding small allowed)
  handed_joins (Damaged B k slot word padding) small allowed =
      hand_a (frame_of_origin hosts (Damaged B k slot word padding)) (damage B A (sym j.medium) k slot word padding small allowed)
  handed_joins (Noisy A bytes) word allowed =
      hand_a bytes (noise_brings (MadeBy net.b) hosts.a.host.inner.hardware (j.out B) bytes (ap (λ (m : Medium). names_tcp_or_udp m bytes) (sym (j.device A)) ∙
      (passed (names_tcp_or_udp (medium_of hosts.a) bytes) For.NamesTcpOrUdp None allowed).0))
  handed_joins (Noisy B bytes) word allowed =
      hand_b bytes (noise_brings (MadeBy net.a) hosts.b.host.inner.hardware (j.out A) bytes (ap (λ (m : Medium). names_tcp_or_udp m bytes) (sym (j.device B)) ∙
      (passed (names_tcp_or_udp (medium_of hosts.b) bytes) For.NamesTcpOrUdp None allowed).0))

  -- CUTS

  abbrev FragmentsOf : Side → ℕ → ℕ → Type 0
  FragmentsOf from k at =
      IsHostFrame (medium_on (node hosts from).host.inner.hardware) (j.out from) (first_fragment (medium_of (node hosts from)) (frame_sent hosts from k) at)
      × IsHostFrame (medium_on (node hosts from).host.inner.hardware) (j.out from)
      (second_fragment (medium_of (node hosts from)) (frame_sent hosts from k) at)

  cut_by : (from : Side) (k at : ℕ) (o : Option Part) → is_no_frame (node hosts from) k ≡ false →
      ipv4_part (medium_of (node hosts from)) (frame_sent hosts from k) ≡ o → first_refusal (cut_tests o at) ≡ None → FragmentsOf from k at
  cut_by from k at None there is allowed = absurd cc
  cut_by from k at (Some part) there is allowed =
      let first = passed (is_no_cut part at) For.CutPlace None allowed in
      let rest = either_none (at == 0) (not (at % 8 == 0) || not (nat_lt at part.len)) first.0 in
      let both = either_none (not (at % 8 == 0)) (not (nat_lt at part.len)) rest.1 in
      let frame : IsHostFrame (medium_of (node hosts from)) (j.out from) (frame_sent hosts from k) =
      subst (λ (m : Medium). IsHostFrame m (j.out from) (frame_sent hosts from k)) (sym (j.device from)) (sent_frame from k there) in
      let fragments = cut_is_host (medium_of (node hosts from)) (j.out from) (frame_sent hosts from k) part at frame is (inside_by at part.len both.1)
      (unit_by at both.0) in (
        subst (λ (m : Medium). IsHostFrame m (j.out from) (first_fragment (medium_of (node hosts from)) (frame_sent hosts from k) at)) (j.device from) fragments.0,
        subst (λ (m : Medium). IsHostFrame m (j.out from) (second_fragment (medium_of (node hosts from)) (frame_sent hosts from k) at))
            (j.device from) fragments.1,
      )

  fragments_of : (from : Side) (k at : ℕ) → first_refusal (link_tests hosts (Cuts from k at)) ≡ None → FragmentsOf from k at
  fragments_of from k at allowed =
      let o : Option Part = ipv4_part (medium_of (node hosts from)) (frame_sent hosts from k) in
      let first = passed (is_no_frame (node hosts from) k) For.NoFrame (first_refusal (cut_tests o at)) allowed in
      cut_by from k at o first.0 refl first.1

  more_frames : (from : Side) (one two : List ℕ) → IsHostFrame (medium_on (node hosts from).host.inner.hardware) (j.out from) one →
      IsHostFrame (medium_on (node hosts from).host.inner.hardware) (j.out from) two
      → Sends (party net from) (firsts from) (with_link (node hosts from) (added (added (node hosts from).link one) two)) (j.out from)
  more_frames from one two first second =
      let s = j.sends from in
      let P : List ℕ → Type 0 = IsHostFrame (medium_on (node hosts from).host.inner.hardware) (j.out from) in
      record {
        sound = s.sound;
        are_sent = s.are_sent;
        left_is = s.left_is;
        frames =
            all_more P ((node hosts from).link.sent ++ one ∷ []) two (all_more P (node hosts from).link.sent one s.frames first) second;
      }

  -- an allowed cut
  pub cut_joins : (from : Side) (k at : ℕ) → first_refusal (link_tests hosts (Cuts from k at)) ≡ None → AreJoined firsts most (cut hosts from k at) net
  cut_joins A k at allowed =
      let fragments = fragments_of A k at allowed in
      record {
        out = j.out;
        medium = j.medium;
        counted = j.counted;
        device = λ side. elim side as (λ x. (node (cut hosts A k at) x).link.capabilities.medium ≡
            medium_on (node (cut hosts A k at) x).host.inner.hardware) [ A ↦ j.device A | B ↦ j.device B ];
        sends = λ side. elim side as (λ x. Sends (party net x) (firsts x) (node (cut hosts A k at) x) (j.out x))
            [ A ↦ more_frames A _ _ fragments.0 fragments.1 | B ↦ j.sends B ];
        receives = λ side. elim side as (λ x. Receives (party net (other x)) (j.out (other x)) (node (cut hosts A k at) x))
            [ A ↦ j.receives A | B ↦ j.receives B ];
      }
  cut_joins B k at allowed =
      let fragments = fragments_of B k at allowed in
      record {
        out = j.out;
        medium = j.medium;
        counted = j.counted;
        device = λ side. elim side as (λ x. (node (cut hosts B k at) x).link.capabilities.medium ≡
            medium_on (node (cut hosts B k at) x).host.inner.hardware) [ A ↦ j.device A | B ↦ j.device B ];
        sends = λ side. elim side as (λ x. Sends (party net x) (firsts x) (node (cut hosts B k at) x) (j.out x))
            [ A ↦ j.sends A | B ↦ more_frames B _ _ fragments.0 fragments.1 ];
        receives = λ side. elim side as (λ x. Receives (party net (other x)) (j.out (other x)) (node (cut hosts B k at) x))
            [ A ↦ j.receives A | B ↦ j.receives B ];
      }
