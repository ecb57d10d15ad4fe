-- A line of a script says one thing.
use Rattle.std.proofs.Common.{◌≡◌, ℕ, List, [], ◌∷◌, Option, Some, None, refl, sym, ◌∙◌, ap, ap₂, subst}
use Rattle.std.specs.Prelude.{drop}
use Rattle.wire_address.specs.declared.ip.IpCidr.{IpCidr}
use Rattle.wire_address.specs.Text.{IsEndpointText, IsIpText, IsEthernetText}
use Rattle.wire_address.proofs.OneReading.{IsIpText-unique}
use Rattle.sim_link.specs.Lines.{IsLine, IsSocket, IsStream, IsDatagram, IsHost, IsLink, Host, Size, Short, Hex, AreQueueSizes, Queues, SaysWords, SaysLine}
use Rattle.sim_link.specs.Verbs.{verb_of}
use Rattle.sim_link.specs.Words.{words_of, first_as, First, FirstIs, AreCidrTexts, AreBlocks, Reads, ReadsAll, Ends, side_of, medium_of, kind_of, version_of}
use Rattle.sim_link.specs.Words.{protocol_of, size_of, short_of, four_digits_of, micros_of, hex_bytes_of}
use Rattle.sim_link.specs.declared.kinds.Side.{Side}
use Rattle.sim_link.specs.declared.kinds.SocketKind.{SocketKind}
use Rattle.sim_link.specs.declared.kinds.SocketKind.TheVariants as kind
use Rattle.sim_link.specs.declared.kinds.QueueSizes.{QueueSizes}
use Rattle.sim_link.specs.declared.kinds.SocketSpec.TheVariants as spec
use Rattle.sim_link.specs.declared.line.Line.{Line}
use Rattle.sim_link.specs.declared.line.Line.TheVariants as line
use Rattle.sim_link.specs.declared.verb.Verb.{Verb}
use Rattle.sim_link.specs.declared.verb.Verb.TheVariants as verb
use Rattle.sim_link.specs.declared.verb.StreamVerb.{StreamVerb}
use Rattle.sim_link.specs.declared.verb.StreamVerb.TheVariants as stream
use Rattle.sim_link.specs.declared.verb.DatagramVerb.{DatagramVerb}
use Rattle.sim_link.specs.declared.verb.DatagramVerb.TheVariants as datagram
use Rattle.sim_link.specs.declared.verb.HostVerb.{HostVerb}
use Rattle.sim_link.specs.declared.verb.HostVerb.TheVariants as host
use Rattle.sim_link.specs.declared.verb.LinkVerb.{LinkVerb}
use Rattle.sim_link.specs.declared.verb.LinkVerb.TheVariants as link
use Rattle.lan.proofs.TextsOnce.{endpoint_once, ethernet_once, block_once}

-- CHAINS

-- words say at most one value
abbrev Once : {Y : Type 0} → (List (List ℕ) → Y → Type 0) → Type 0
Once {Y} Says = (words : List (List ℕ)) (y z : Y) → Says words y → Says words z → y ≡ z

some_once : {X : Type 0} (o : Option X) (x y : X) → o ≡ Some x → o ≡ Some y → x ≡ y
some_once o x y first second = let same : Some x ≡ Some y = sym first ∙ second in cc

first : {X : Type 0} (class : List ℕ → Option X) → Once (First class)
first class words x y h k = some_once (first_as class words) x y h k

first_is : {X : Type 0} (IsTextOf : List ℕ → X → Type 0) → ((text : List ℕ) (x y : X) → IsTextOf text x → IsTextOf text y → x ≡ y) → Once (FirstIs IsTextOf)
first_is IsTextOf once [] x y h k = absurd h
first_is IsTextOf once (word ∷ words) x y h k = once word x y h k

following : {X Y : Type 0} (Class : List (List ℕ) → X → Type 0) (next : X → List (List ℕ) → Y → Type 0) (rest : List (List ℕ) → List (List ℕ))
    → Once Class → ((x : X) → Once (next x)) → Once (λ words y. (x : X) × Class words x × next x (rest words) y)
following {X} {Y} Class next rest class_once next_once words y z h k =
    let same : h.0 ≡ k.0 = class_once words h.0 k.0 h.1 k.1 in
    let there : next h.0 (rest words) z = subst (λ (x : X). next x (rest words) z) (sym same) k.2 in
    next_once h.0 (rest words) y z h.2 there

reads : {X Y : Type 0} (Class : List (List ℕ) → X → Type 0) (next : X → List (List ℕ) → Y → Type 0) → Once Class → ((x : X) → Once (next x)) →
    Once (Reads Class next)
reads Class next class_once next_once = following Class next (λ words. drop 1 words) class_once next_once

reads_all : {X Y : Type 0} (Class : List (List ℕ) → X → Type 0) (make : X → Y) → Once Class → Once (ReadsAll Class make)
reads_all Class make class_once words y z h k = h.2 ∙ ap make (class_once words h.0 k.0 h.1 k.1) ∙ sym k.2

ends : {Y : Type 0} (made : Y) → Once (Ends made)
ends made words y z h k = h.1 ∙ sym k.1

-- CLASSES

abbrev Next : Type 0 → Type 1
Next X = X → List (List ℕ) → Line → Type 0

abbrev AllOnce : {X : Type 0} → Next X → Type 0
AllOnce {X} next = (x : X) → Once (next x)

by : {X : Type 0} (class : List ℕ → Option X) (next : Next X) → AllOnce next → Once (Reads (First class) next)
by class next once = reads (First class) next (first class) once

size : (next : Next ℕ) → AllOnce next → Once (Size next)
size next once = by size_of next once

short : (next : Next ℕ) → AllOnce next → Once (Short next)
short next once = by short_of next once

hex : (next : Next (List ℕ)) → AllOnce next → Once (Hex next)
hex next once = by hex_bytes_of next once

sizes_once : Once AreQueueSizes
sizes_once words x y h k = λ i. record {
  receive_packets = first size_of words x.receive_packets y.receive_packets h.0 k.0 i;
  receive_bytes = first size_of (drop 1 words) x.receive_bytes y.receive_bytes h.1 k.1 i;
  send_packets = first size_of (drop 1 (drop 1 words)) x.send_packets y.send_packets h.2 k.2 i;
  send_bytes = first size_of (drop 1 (drop 1 (drop 1 words))) x.send_bytes y.send_bytes h.3 k.3 i;
}

queues : (next : Next QueueSizes) → AllOnce next → Once (Queues next)
queues next once = following AreQueueSizes next (λ words. drop 1 (drop 1 (drop 1 (drop 1 words)))) sizes_once once

blocks_once : (words : List (List ℕ)) (xs ys : List IpCidr) → AreCidrTexts words xs → AreCidrTexts words ys → xs ≡ ys
blocks_once [] [] [] h k = refl
blocks_once [] [] (y ∷ ys) h k = absurd k
blocks_once [] (x ∷ xs) ys h k = absurd h
blocks_once (word ∷ words) [] ys h k = absurd h
blocks_once (word ∷ words) (x ∷ xs) [] h k = absurd k
blocks_once (word ∷ words) (x ∷ xs) (y ∷ ys) h k = ap₂ ◌∷◌ (block_once word x y h.0 k.0) (blocks_once words xs ys h.1 k.1)

blocks : Once AreBlocks
blocks words xs ys h k = blocks_once words xs ys h.0 k.0

-- ROWS

socket : (h : Side) (k : SocketKind) → Once (IsSocket h k)
socket h kind.Udp = queues _ (λ q. ends (line.Socket h (spec.Udp q)))
socket h kind.Icmp = queues _ (λ q. ends (line.Socket h (spec.Icmp q)))
socket h kind.Raw = by version_of _ (λ v. by protocol_of _ (λ p. queues _ (λ q. ends (line.Socket h (spec.Raw v p q)))))
socket h kind.Tcp = size _ (λ r. size _ (λ s. ends _))

of_stream : (v : StreamVerb) (h : Side) (s : ℕ) → Once (IsStream v h s)
of_stream stream.Listen h s = short _ (λ p. ends _)
of_stream stream.Connect h s = reads (FirstIs IsEndpointText) _ (first_is IsEndpointText endpoint_once) (λ e. short _ (λ p. ends _))
of_stream stream.Send h s = hex _ (λ x. ends _)
of_stream stream.Recv h s = size _ (λ n. ends _)
of_stream stream.Close h s = ends _
of_stream stream.Abort h s = ends _
of_stream stream.State h s = ends _

of_datagram : (v : DatagramVerb) (h : Side) (s : ℕ) → Once (IsDatagram v h s)
of_datagram datagram.Bind h s = short _ (λ p. ends _)
of_datagram datagram.Ident h s = short _ (λ n. ends _)
of_datagram datagram.SendTo h s = reads (FirstIs IsEndpointText) _ (first_is IsEndpointText endpoint_once) (λ e. hex _ (λ x. ends _))
of_datagram datagram.SendIcmp h s = reads (FirstIs IsIpText) _ (first_is IsIpText IsIpText-unique) (λ a. hex _ (λ x. ends _))
of_datagram datagram.SendRaw h s = hex _ (λ x. ends _)
of_datagram datagram.RecvFrom h s = size _ (λ n. ends _)

of_host : (v : HostVerb) (h : Side) → Once (IsHost v h)
of_host host.Addrs h = reads_all AreBlocks _ blocks
of_host host.Hw h = reads (FirstIs IsEthernetText) _ (first_is IsEthernetText ethernet_once) (λ a. ends _)
of_host host.Route h = reads (FirstIs IsIpText) _ (first_is IsIpText IsIpText-unique) (λ a. ends _)
of_host host.Poll h = by micros_of _ (λ t. short _ (λ n. ends _))
of_host host.PollAt h = by micros_of _ (λ t. ends _)
of_host host.Room h = size _ (λ n. ends _)

of_link : (v : LinkVerb) (h : Side) → Once (IsLink v h)
of_link link.Deliver h = size _ (λ k. hex _ (λ x. ends _))
of_link link.Damage h = size _ (λ k. size _ (λ p. by four_digits_of _ (λ w. hex _ (λ x. ends _))))
of_link link.Noise h = hex _ (λ x. ends _)
of_link link.Cut h = size _ (λ k. size _ (λ p. ends _))

of_verb : (v : Verb) → Once (IsLine v)
of_verb verb.World = by medium_of _ (λ m. size _ (λ n. ends _))
of_verb verb.Socket = by side_of _ (λ h. by kind_of _ (λ k. socket h k))
of_verb verb.Start = ends _
of_verb (verb.Stream v) = by side_of _ (λ h. size _ (λ s. of_stream v h s))
of_verb (verb.Datagram v) = by side_of _ (λ h. size _ (λ s. of_datagram v h s))
of_verb (verb.Host v) = by side_of _ (λ h. of_host v h)
of_verb (verb.Link v) = by side_of _ (λ h. of_link v h)

pub line_once : (text : List ℕ) (one other : Line) → SaysLine text one → SaysLine text other → one ≡ other
line_once text one other h k = by verb_of IsLine of_verb (words_of 32 text) one other h.1 k.1
