-- A slot of TCP or UDP holds slices of one datagram that the other host sent, so what is reassembled in it is that datagram.
use Rattle.std.proofs.Common.{◌≡◌, ◌⊎◌, inl, inr, ℕ, zero, suc, Bool, true, false, cond, List, [], ◌∷◌, ◌++◌, Option, Some, None, refl, sym, ◌∙◌}
use Rattle.std.proofs.Common.{ap, subst}
use Rattle.std.specs.Prelude.{ℤ, map, slice_get, slice_set, position, is_some}
use Rattle.std.specs.List.{AllByRecursion}
use Rattle.wire_address.specs.declared.ipv4.Ipv4FragKey.{Ipv4FragKey}
use Rattle.interface.specs.Ipv6Repr.{Ipv6Repr}
use Rattle.interface.specs.IpRepr.TheVariants as Ip
use Rattle.iface_tables.specs.Best.{at_index}
use Rattle.iface_tables.specs.Inner.{InnerValue}
use Rattle.iface_tables.specs.FragmentList as FragmentList
use Rattle.iface_tables.specs.declared.key.FragKey.{FragKey}
use Rattle.iface_tables.specs.declared.key.FragKey.TheVariants as Keys
use Rattle.iface_tables.specs.declared.key.Ipv6FragKey.{Ipv6FragKey}
use Rattle.iface_tables.specs.Reassembly.{AssemblerValue, freed, taken, placed, completed, is_of, assembler_index_for}
use Rattle.iface_tables.specs.Assemblers.{changed, changed_at, completed_in, opened, is_expired, unless_expired, without_datagram, without_expired}
use Rattle.iface_tables.proofs.Apart.{placed-key, opened-key}
use Rattle.iface_tables.proofs.ReassembledDatagram.{HoldsSlicesOf-taken, HoldsSlicesOf-placed, completed-payload}
use Rattle.iface_ingress.specs.Reassembled.{Assemblers, FragmentValue, is_unfit, is_same_datagram, runs_kept, given_up_at, slot_of, with_part, with_fragment}
use Rattle.iface_ingress.specs.Reassembled.{bytes_at, released}
use Rattle.lan.specs.Worlds.Link.Made.{bytes_of}
use Rattle.lan.specs.Worlds.Link.Frames.{Outgoing, IsDatagramV4, IsDatagramV6, IsDatagram, IsFragmentOf, following_fragment}
use Rattle.lan.specs.Worlds.Link.Numbers.{AreNumbered, AreFew}
use Rattle.lan.specs.Worlds.Link.StoredFragments.{IsForeignKey, HoldsSent, IsOfKey, IsAssemblerOf, AreAssemblersOf}
use Rattle.iface_tables.proofs.Keys.{key_test}
use Rattle.lan.proofs.Worlds.Link.ReassembledDatagram.{IsReassembledOf}
use Rattle.lan.proofs.Worlds.Link.Numbers.{one_number, one_number_v4}

-- LISTS

module _ {X : Type 0} (P : X → Type 0) where
  pub all_set : (xs : List X) (k : ℕ) (y : X) → AllByRecursion P xs → P y → AllByRecursion P (slice_set xs k y)
  all_set [] k y all is = tt
  all_set (x ∷ xs) zero y all is = (is, all.1)
  all_set (x ∷ xs) (suc k) y all is = (all.0, all_set xs k y all.1 is)

  pub all_at : (xs : List X) (k : ℕ) (x : X) → AllByRecursion P xs → slice_get xs k ≡ Some x → P x
  all_at [] k x all is = absurd cc
  all_at (y ∷ xs) zero x all is = let e : y ≡ x = cc in subst P e all.0
  all_at (y ∷ xs) (suc k) x all is = all_at xs k x all.1 is

  pub all_map : (f : X → X) (xs : List X) → ((x : X) → P x → P (f x)) → AllByRecursion P xs → AllByRecursion P (map f xs)
  all_map f [] keeps all = tt
  all_map f (x ∷ xs) keeps all = (keeps x all.0, all_map f xs keeps all.1)

module _ {X : Type 0} (P : X → Type 0) where
  pub all_more : (xs : List X) (y : X) → AllByRecursion P xs → P y → AllByRecursion P (xs ++ y ∷ [])
  all_more [] y all is = (is, tt)
  all_more (x ∷ xs) y all is = (all.0, all_more xs y all.1 is)

set_at : {X : Type 0} (xs : List X) (k : ℕ) (x y : X) → slice_get xs k ≡ Some x → slice_get (slice_set xs k y) k ≡ Some y
set_at [] k x y is = absurd cc
set_at (z ∷ xs) zero x y is = refl
set_at (z ∷ xs) (suc k) x y is = set_at xs k x y is

-- CHANGES

abbrev Assembler : Type 0
Assembler = AssemblerValue FragKey

module _ (P : Assembler → Type 0) (f : Assembler → Assembler) where
  changed_by : (slot : Option ℕ) (o : Option Assembler) (assemblers : Assemblers) → at_index slot assemblers ≡ o → ((s : Assembler) → P s → P (f s)) → AllByRecursion P assemblers →
      AllByRecursion P (changed f slot o assemblers)
  changed_by None o assemblers is keeps all = all
  changed_by (Some at) None assemblers is keeps all = all
  changed_by (Some at) (Some s) assemblers is keeps all = all_set P assemblers at (f s) all (keeps s (all_at P assemblers at s all is))

  pub changed_keeps : (slot : Option ℕ) (assemblers : Assemblers) → ((s : Assembler) → P s → P (f s)) → AllByRecursion P assemblers → AllByRecursion P (changed_at f slot assemblers)
  changed_keeps slot assemblers keeps all = changed_by slot (at_index slot assemblers) assemblers refl keeps all

-- what stands at the slot after a change
pub changed_there : (f : Assembler → Assembler) (at : ℕ) (o : Option Assembler) (assemblers : Assemblers) (s' : Assembler) → at_index (Some at) assemblers ≡ o →
    at_index (Some at) (changed f (Some at) o assemblers) ≡ Some s' → (s : Assembler) × (s' ≡ f s)
changed_there f at None assemblers s' is there = absurd (let e : at_index (Some at) assemblers ≡ Some s' = there in cc)
changed_there f at (Some s) assemblers s' is there =
    let e : at_index (Some at) (slice_set assemblers at (f s)) ≡ Some (f s) = set_at assemblers at s (f s) is in
    (s, let e2 : Some s' ≡ Some (f s) = sym there ∙ e in cc)

-- FREED AND EXPIRED

pub freed_is : (out : List Outgoing) (s : Assembler) → IsAssemblerOf out (freed s)
freed_is out s key is = absurd cc

pub expired_keep : (out : List Outgoing) (assemblers : Assemblers) (instant : ℤ) → AreAssemblersOf out assemblers → AreAssemblersOf out (without_expired assemblers instant)
expired_keep out assemblers instant all =
    all_map (IsAssemblerOf out) (unless_expired instant) assemblers
    (λ s is. elim (is_expired instant s) as (λ b. IsAssemblerOf out (cond b (freed s) s)) [ true ↦ freed_is out s | false ↦ is ]) all

-- PIECES

-- a fragment of neither TCP nor UDP, or of a datagram that was sent
abbrev pub IsPartOf : List Outgoing → FragmentValue → Type 0
IsPartOf out p = IsForeignKey p.key ⊎ IsFragmentOf out p

module _ (first : ℕ) (out : List Outgoing) (next : ℕ) (are : AreNumbered first out next) (few : AreFew out) where
  -- one key is of one datagram
  one_key_v4 : (key : Ipv4FragKey) (b c : List ℕ) → IsDatagramV4 out key b → IsDatagramV4 out key c → b ≡ c
  one_key_v4 key b c one other =
      let ident : one.header.ident ≡ other.header.ident = ap (λ (k : Ipv4FragKey). k.id) (sym one.key_is ∙ other.key_is) in
      let packet : one.sent.packet ≡ other.sent.packet =
      one_number_v4 first out next one.sent.packet other.sent.packet one.header other.header are few one.sent.among other.sent.among one.sent.header
      other.sent.header ident in
      one.sent.bytes_are ∙ ap bytes_of packet ∙ sym other.sent.bytes_are

  same_v6 : (v w : Ipv6Repr) → Ip.Ipv6 v ≡ Ip.Ipv6 w → v ≡ w
  same_v6 v w same = cc

  one_key_v6 : (key : Ipv6FragKey) (b c : List ℕ) → IsDatagramV6 out key b → IsDatagramV6 out key c → b ≡ c
  one_key_v6 key b c one other =
      let packet : one.cut.sent.packet ≡ other.cut.sent.packet =
      one_number first out next one.cut.sent.packet other.cut.sent.packet key.id are few one.cut.numbered other.cut.numbered in
      let payload : one.payload ≡ other.payload = one.cut.sent.bytes_are ∙ ap bytes_of packet ∙ sym other.cut.sent.bytes_are in
      let header : one.header ≡ other.header =
      same_v6 one.header other.header (sym one.cut.sent.header ∙ ap (λ p. p.header) packet ∙ other.cut.sent.header) in
      one.bytes_are
      ∙ ap (λ (v : Ipv6Repr). following_fragment v.next_header key.id one.payload) header
      ∙ ap (following_fragment other.header.next_header key.id) payload
      ∙ sym other.bytes_are

  pub one_key : (key : FragKey) (b c : List ℕ) → IsDatagram out key b → IsDatagram out key c → b ≡ c
  one_key (Keys.Ipv4 key) b c one other = one_key_v4 key b c one other
  one_key (Keys.Ipv6 key) b c one other = one_key_v6 key b c one other

  module _ (p : FragmentValue) (expires : ℤ) (from : IsPartOf out p) where
    opened_holds : (s : Assembler) → IsAssemblerOf out s → IsFragmentOf out p → IsForeignKey p.key ⊎ HoldsSent out p.key (opened is_same_datagram p.key expires s)
    opened_holds s is fragment =
        elim (is_of is_same_datagram p.key s) as (λ b. (cond b s (taken p.key expires s)).key ≡ Some p.key →
        IsForeignKey p.key ⊎ HoldsSent out p.key (cond b s (taken p.key expires s))) [
          | true ↦ λ key. is p.key key
          | false ↦ λ key. inr (record {
            bytes = fragment.bytes;
            sent = fragment.sent;
            holds = HoldsSlicesOf-taken runs_kept fragment.bytes p.key expires s;
          })
        ] (opened-key is_same_datagram key_test p.key expires s)

    placed_holds : (o : Assembler) → IsFragmentOf out p → HoldsSent out p.key o → HoldsSent out p.key (placed runs_kept o p.bytes p.offset p.more)
    placed_holds o fragment held =
        let same : fragment.bytes ≡ held.bytes = one_key p.key fragment.bytes held.bytes fragment.sent held.sent in
        let slice : FragmentList.IsSliceOf held.bytes (record { offset = p.offset; more = p.more; bytes = p.bytes }) =
        subst (λ (b : List ℕ). FragmentList.IsSliceOf b (record { offset = p.offset; more = p.more; bytes = p.bytes })) same fragment.slice in
        record {
          bytes = held.bytes;
          sent = held.sent;
          holds = HoldsSlicesOf-placed runs_kept held.bytes o (record { offset = p.offset; more = p.more; bytes = p.bytes }) held.holds slice;
        }

    abbrev put : Assembler → Assembler
    put s = placed runs_kept (opened is_same_datagram p.key expires s) p.bytes p.offset p.more

    put_key : (s : Assembler) → (put s).key ≡ Some p.key
    put_key s = placed-key runs_kept (opened is_same_datagram p.key expires s) p.bytes p.offset p.more ∙
        opened-key is_same_datagram key_test p.key expires s

    put_by : (s : Assembler) → IsPartOf out p → IsAssemblerOf out s → IsForeignKey p.key ⊎ HoldsSent out p.key (put s)
    put_by s (inl none) is = inl none
    put_by s (inr fragment) is =
        elim (opened_holds s is fragment) [ inl none ↦ inl none | inr held ↦ inr (placed_holds (opened is_same_datagram p.key expires s) fragment held) ]

    -- a slot that the fragment comes to is one still
    put_is : (s : Assembler) → IsAssemblerOf out s → IsAssemblerOf out (put s)
    put_is s is key key_is =
        let e : Some p.key ≡ Some key = sym (put_key s) ∙ key_is in
        let same : p.key ≡ key = cc in
        subst (λ (k : FragKey). IsOfKey out k (put s)) same (put_by s from is)

    -- what is complete at the place of the fragment is a whole datagram
    complete_by : (s : Assembler) (bytes : List ℕ) → IsForeignKey p.key ⊎ HoldsSent out p.key s → completed s ≡ Some bytes → IsReassembledOf out p.key bytes
    complete_by s bytes (inl none) done = inl none
    complete_by s bytes (inr held) done =
        let is : bytes ≡ held.bytes = completed-payload runs_kept held.bytes s bytes held.holds done in
        inr (subst (IsDatagram out p.key) (sym is) held.sent)

    complete_at : (assemblers : Assemblers) (at : ℕ) (o : Option Assembler) (bytes : List ℕ) → AreAssemblersOf out assemblers → at_index (Some at) (changed_at put (Some at) assemblers) ≡ o →
        completed_in o ≡ Some bytes → IsReassembledOf out p.key bytes
    complete_at assemblers at None bytes are_assemblers is done = absurd cc
    complete_at assemblers at (Some s) bytes are_assemblers is done =
        let there = changed_there put at (at_index (Some at) assemblers) assemblers s refl is in
        let key : s.key ≡ Some p.key = ap (λ (t : Assembler). t.key) there.1 ∙ put_key there.0 in
        let now : AreAssemblersOf out (changed_at put (Some at) assemblers) = changed_keeps (IsAssemblerOf out) put (Some at) assemblers put_is are_assemblers in
        complete_by s bytes (all_at (IsAssemblerOf out) (changed_at put (Some at) assemblers) at s now is p.key key) done

    complete : (assemblers : Assemblers) (slot : Option ℕ) (bytes : List ℕ) → AreAssemblersOf out assemblers → bytes_at slot (changed_at put slot assemblers) ≡ Some bytes →
        IsReassembledOf out p.key bytes
    complete assemblers None bytes are_assemblers done = absurd cc
    complete assemblers (Some at) bytes are_assemblers done = complete_at assemblers at (at_index (Some at) (changed_at put (Some at) assemblers)) bytes are_assemblers refl done

    fragment_keeps : (assemblers : Assemblers) → AreAssemblersOf out assemblers → AreAssemblersOf out (changed_at put (assembler_index_for is_same_datagram assemblers p.key) assemblers)
    fragment_keeps assemblers are_assemblers = changed_keeps (IsAssemblerOf out) put (assembler_index_for is_same_datagram assemblers p.key) assemblers put_is are_assemblers

  -- A PIECE OR NONE

  abbrev pub MayBePartOf : Option FragmentValue → Type 0
  MayBePartOf o = (p : FragmentValue) → o ≡ Some p → IsPartOf out p

  module _ (i : InnerValue) (timeout : ℕ) (assemblers : Assemblers) (assemblers_are : AreAssemblersOf out assemblers) where
    kept_fit : (p : FragmentValue) → IsPartOf out p → (unfit : Bool) →
        AreAssemblersOf out (cond unfit (without_datagram is_same_datagram assemblers p.key) (with_part i timeout assemblers p))
    kept_fit p from true = changed_keeps (IsAssemblerOf out) freed (position (is_of is_same_datagram p.key) assemblers) assemblers (λ s so. freed_is out s) assemblers_are
    kept_fit p from false = fragment_keeps p (given_up_at i timeout) from assemblers assemblers_are

    pub part_keeps : (o : Option FragmentValue) → MayBePartOf o → AreAssemblersOf out (with_fragment i timeout assemblers o)
    part_keeps None from = assemblers_are
    part_keeps (Some p) from = kept_fit p (from p refl) (is_unfit assemblers p)

    reassembled_fit : (p : FragmentValue) → IsPartOf out p → (bytes : List ℕ) (unfit : Bool) →
        bytes_at (cond unfit None (assembler_index_for is_same_datagram assemblers p.key))
        (cond unfit (without_datagram is_same_datagram assemblers p.key) (with_part i timeout assemblers p)) ≡ Some bytes → IsReassembledOf out p.key bytes
    reassembled_fit p from bytes true done = absurd cc
    reassembled_fit p from bytes false done =
        complete p (given_up_at i timeout) from assemblers (assembler_index_for is_same_datagram assemblers p.key) bytes assemblers_are done

    -- what is whole once a fragment was taken in is a datagram that was sent
    pub part_rebuilds : (p : FragmentValue) → IsPartOf out p → (bytes : List ℕ) →
        bytes_at (slot_of assemblers (Some p)) (with_fragment i timeout assemblers (Some p)) ≡ Some bytes → IsReassembledOf out p.key bytes
    part_rebuilds p from bytes done = reassembled_fit p from bytes (is_unfit assemblers p) done

  pub released_keeps : (slot : Option ℕ) (assemblers : Assemblers) → AreAssemblersOf out assemblers → AreAssemblersOf out (released slot assemblers)
  released_keeps slot assemblers assemblers_are =
      elim (is_some (bytes_at slot assemblers)) as (λ b. AreAssemblersOf out (cond b (changed_at freed slot assemblers) assemblers)) [
        | true ↦ changed_keeps (IsAssemblerOf out) freed slot assemblers (λ s is. freed_is out s) assemblers_are
        | false ↦ assemblers_are
      ]
