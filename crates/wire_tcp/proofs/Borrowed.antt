-- When options and segments, which borrow bytes, are equal.
use Rattle.std.proofs.Common.{◌≡◌, ℕ, refl, ap, ap₂}
use Rattle.std.specs.Prelude.{◌==◌}
use Rattle.std.specs.Bool.{Decides}
use Rattle.std.specs.Cmp.{booleans_Decides}
use Rattle.std.proofs.lemmas.Bool.Decides.{Decides-and, Decides-eqb}
use Rattle.std.proofs.lemmas.Slice.Eq.{bytes_eq-Decides}
use Rattle.wire_address.specs.declared.seq_number.SeqNumber.{SeqNumber}
use Rattle.wire_tcp.proofs.Equal.{front, back, both, Decides-control, Decides-number, Decides-option, Decides-ranges, Decides-stamp}
use Rattle.wire_tcp.specs.Options.{OptionValue, EndOfList, NoOperation, MaxSegmentSize, WindowScale, SackPermitted, SackRange, TimeStamp, Unknown, value_of}
use Rattle.wire_tcp.specs.Tcp.{header_of}
use Rattle.wire_tcp.specs.contracts.option.TcpOptionPartialEq.TheImpl as TcpOptions
use Rattle.wire_tcp.specs.contracts.repr.TcpReprPartialEq.TheImpl as Segment
use Rattle.wire_tcp.specs.contracts.timestamp.TcpTimestampReprPartialEq.TheImpl as Stamp
use Rattle.wire_tcp.specs.declared.header.TcpHeader.{TcpHeader}
use Rattle.wire_tcp.specs.declared.option.TcpOption.{TcpOption}
use Rattle.wire_tcp.specs.declared.option.TcpOption.TheVariants as Tcp
use Rattle.wire_tcp.specs.declared.repr.TcpRepr.{TcpRepr}

-- an option is compared with its numbers, ranges and bytes
pub Decides-value : (a b : TcpOption) → Decides (TcpOptions.ghosts.eq a b) (value_of a ≡ value_of b)
Decides-value Tcp.EndOfList Tcp.EndOfList = (λ _. refl, λ _. refl)
Decides-value Tcp.NoOperation Tcp.NoOperation = (λ _. refl, λ _. refl)
Decides-value (Tcp.MaxSegmentSize n) (Tcp.MaxSegmentSize m) =
    let same = Decides-eqb n m in (λ yes. ap MaxSegmentSize (same.0 yes), λ e. same.1 (cc))
Decides-value (Tcp.WindowScale n) (Tcp.WindowScale m) =
    let same = Decides-eqb n m in (λ yes. ap WindowScale (same.0 yes), λ e. same.1 (cc))
Decides-value Tcp.SackPermitted Tcp.SackPermitted = (λ _. refl, λ _. refl)
Decides-value (Tcp.SackRange xs) (Tcp.SackRange ys) =
    let same = Decides-ranges xs ys in (λ yes. ap SackRange (same.0 yes), λ e. same.1 (cc))
Decides-value (Tcp.TimeStamp v r) (Tcp.TimeStamp w s) =
    let same = Decides-and _ _ (Decides-eqb v w) (Decides-eqb r s) in
    (λ yes. ap₂ TimeStamp (same.0 yes).0 (same.0 yes).1, λ e. let first : v ≡ w = cc in let second : r ≡ s = cc in same.1 (both first second))
Decides-value (Tcp.Unknown kind xs) (Tcp.Unknown other ys) =
    let same = Decides-and _ _ (Decides-eqb kind other) (bytes_eq-Decides xs.now ys.now) in
    (λ yes. ap₂ Unknown (same.0 yes).0 (same.0 yes).1, λ e. let first : kind ≡ other = cc in let second : xs.now ≡ ys.now = cc in same.1 (both first second))
Decides-value a b = (λ yes. absurd (cc), λ e. absurd (cc))

-- a segment is compared by its header and its payload's bytes
pub Decides-segment : (a b : TcpRepr) → Decides (Segment.ghosts.eq a b) ((header_of a ≡ header_of b) × (a.payload.now ≡ b.payload.now))
Decides-segment a b =
    let stamp = Decides-and _ _ (Decides-option (λ x y. Stamp.ghosts.eq x y) Decides-stamp a.timestamp b.timestamp)
    (bytes_eq-Decides a.payload.now b.payload.now) in
    let ranges = Decides-and _ _ (Decides-ranges a.sack_ranges b.sack_ranges) stamp in
    let permitted = Decides-and _ _ (booleans_Decides a.sack_permitted b.sack_permitted) ranges in
    let size = Decides-and _ _ (Decides-option (λ (x y : ℕ). x == y) Decides-eqb a.max_seg_size b.max_seg_size) permitted in
    let scale = Decides-and _ _ (Decides-option (λ (x y : ℕ). x == y) Decides-eqb a.window_scale b.window_scale) size in
    let window = Decides-and _ _ (Decides-eqb a.window_len b.window_len) scale in
    let ack = Decides-and _ _ (Decides-option (λ (x y : SeqNumber). x.0 == y.0) Decides-number a.ack_number b.ack_number) window in
    let sequence = Decides-and _ _ (Decides-eqb a.seq_number.0 b.seq_number.0) ack in
    let control = Decides-and _ _ (Decides-control a.control b.control) sequence in
    let destination = Decides-and _ _ (Decides-eqb a.dst_port b.dst_port) control in
    let all = Decides-and _ _ (Decides-eqb a.src_port b.src_port) destination in (
      λ yes.
          let p = all.0 yes in
          let two = back (back p) in
          let four = back (back two) in
          let six = back (back four) in
          let eight = back (back six) in
          let ten = back (back eight) in
          both (λ i. record {
            src_port = front p i;
            dst_port = front (back p) i;
            control = front two i;
            seq_number = record { 0 = front (back two) i };
            ack_number = front four i;
            window_len = front (back four) i;
            options = record {
              window_scale = front six i;
              max_seg_size = front (back six) i;
              sack_permitted = front eight i;
              sack_ranges = front (back eight) i;
              timestamp = front ten i;
            };
          })
          (back ten),
      λ e.
          let h : header_of a ≡ header_of b = e.0 in
          let last = both (ap (λ (v : TcpHeader). v.options.sack_ranges) h) (both (ap (λ (v : TcpHeader). v.options.timestamp) h) e.1) in
          let options = both (ap (λ (v : TcpHeader). v.options.window_scale) h)
          (both (ap (λ (v : TcpHeader). v.options.max_seg_size) h) (both (ap (λ (v : TcpHeader). v.options.sack_permitted) h) last)) in
          let middle = both (ap (λ (v : TcpHeader). v.seq_number.0) h)
          (both (ap (λ (v : TcpHeader). v.ack_number) h) (both (ap (λ (v : TcpHeader). v.window_len) h) options)) in
          all.1 (both (ap (λ (v : TcpHeader). v.src_port) h) (both (ap (λ (v : TcpHeader). v.dst_port) h) (both (ap (λ (v : TcpHeader). v.control) h) middle))),
    )
