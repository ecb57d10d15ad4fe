-- When options and headers are equal.
use Rattle.std.proofs.Common.{rules, ◌≡◌, ℕ, Bool, Option, Some, None, List, refl, ap}
use Rattle.std.specs.Prelude.{◌==◌, ◌&&◌}
use Rattle.std.specs.Bool.{Decides}
use Rattle.std.specs.Cmp.{booleans_Decides}
use Rattle.std.specs.Cmp.Lexicographic.{pointwise}
use Rattle.std.specs.Option.{option_eq}
use Rattle.std.proofs.lemmas.Bool.Decides.{Decides-and, Decides-eqb}
use Rattle.std.proofs.lemmas.Slice.Eq.{slice_eq-Decides}
use Rattle.wire_address.specs.declared.seq_number.SeqNumber.{SeqNumber}
use Rattle.wire_tcp.specs.contracts.control.TcpControlPartialEq.TheImpl as Control
use Rattle.wire_tcp.specs.contracts.header.TcpHeaderPartialEq.TheImpl as Header
use Rattle.wire_tcp.specs.contracts.option.TcpOptionsPartialEq.TheImpl as Options
use Rattle.wire_tcp.specs.contracts.timestamp.TcpTimestampReprPartialEq.TheImpl as Stamp
use Rattle.wire_tcp.specs.declared.control.TcpControl.{TcpControl}
use Rattle.wire_tcp.specs.declared.header.TcpHeader.{TcpHeader}
use Rattle.wire_tcp.specs.declared.option.TcpOptions.{TcpOptions}
use Rattle.wire_tcp.specs.declared.timestamp.TcpTimestampRepr.{TcpTimestampRepr}

pub front : {P Q : Type 0} → P × Q → P
front p = p.0

pub back : {P Q : Type 0} → P × Q → Q
back p = p.1

pub both : {P Q : Type 0} → P → Q → P × Q
both p q = (p, q)

-- an `Option` is compared by what is inside
pub Decides-option : {A : Type 0} (E : A → A → Bool) → ((a b : A) → Decides (E a b) (a ≡ b)) → (x y : Option A) → Decides (option_eq E x y) (x ≡ y)
Decides-option E each None None = (λ _. refl, λ _. refl)
Decides-option E each None (Some y) = (λ yes. absurd (cc), λ same. absurd (cc))
Decides-option E each (Some x) None = (λ yes. absurd (cc), λ same. absurd (cc))
Decides-option E each (Some x) (Some y) =
    let inside = each x y in (λ yes. ap Some (inside.0 yes), λ same. inside.1 (cc))

Decides-range : (a b : ℕ × ℕ) → Decides ((a.0 == b.0) && (a.1 == b.1)) (a ≡ b)
Decides-range a b =
    let parts = Decides-and _ _ (Decides-eqb a.0 b.0) (Decides-eqb a.1 b.1) in (
      λ yes. λ i. ((parts.0 yes).0 i, (parts.0 yes).1 i),
      λ same. parts.1 (both (ap (λ (r : ℕ × ℕ). r.0) same) (ap (λ (r : ℕ × ℕ). r.1) same)),
    )

abbrev pub range_eq : ℕ × ℕ → ℕ × ℕ → Bool
range_eq a b = (a.0 == b.0) && (a.1 == b.1)

pub Decides-ranges : (xs ys : List (Option (ℕ × ℕ))) → Decides (pointwise (option_eq range_eq) xs ys) (xs ≡ ys)
Decides-ranges xs ys = slice_eq-Decides (Decides-option range_eq Decides-range) xs ys (pointwise (option_eq range_eq) xs ys) refl

pub Decides-stamp : (a b : TcpTimestampRepr) → Decides (Stamp.ghosts.eq a b) (a ≡ b)
Decides-stamp a b = search rules

pub Decides-control : (a b : TcpControl) → Decides (Control.ghosts.eq a b) (a ≡ b)
Decides-control a b = search rules

pub Decides-number : (a b : SeqNumber) → Decides (a.0 == b.0) (a ≡ b)
Decides-number a b =
    let inside = Decides-eqb a.0 b.0 in
    let make : ℕ → SeqNumber = λ n. record { 0 = n } in
    (λ yes. ap make (inside.0 yes), λ same. inside.1 (ap (λ (x : SeqNumber). x.0) same))

same-options : (a b : TcpOptions) → a.max_seg_size ≡ b.max_seg_size → a.window_scale ≡ b.window_scale → a.sack_permitted ≡ b.sack_permitted →
    a.sack_ranges ≡ b.sack_ranges → a.timestamp ≡ b.timestamp
    → a ≡ b
same-options a b e f g h k = λ i. record {
  max_seg_size = e i;
  window_scale = f i;
  sack_permitted = g i;
  sack_ranges = h i;
  timestamp = k i;
}

-- options are compared whole
pub Decides-options : (a b : TcpOptions) → Decides (Options.ghosts.eq a b) (a ≡ b)
Decides-options a b =
    let stamp = Decides-option (λ x y. Stamp.ghosts.eq x y) Decides-stamp a.timestamp b.timestamp in
    let ranges = Decides-and _ _ (Decides-ranges a.sack_ranges b.sack_ranges) stamp in
    let permitted = Decides-and _ _ (booleans_Decides a.sack_permitted b.sack_permitted) ranges in
    let scale = Decides-and _ _ (Decides-option (λ (x y : ℕ). x == y) Decides-eqb a.window_scale b.window_scale) permitted in
    let all = Decides-and _ _ (Decides-option (λ (x y : ℕ). x == y) Decides-eqb a.max_seg_size b.max_seg_size) scale in (
      λ yes.
          let parts = all.0 yes in
          same-options a b (front parts) (front (back parts)) (front (back (back parts))) (front (back (back (back parts)))) (back (back (back (back parts)))),
      λ e. all.1 (both (ap (λ (v : TcpOptions). v.max_seg_size) e)
          (both (ap (λ (v : TcpOptions). v.window_scale) e)
          (both (ap (λ (v : TcpOptions). v.sack_permitted) e) (both (ap (λ (v : TcpOptions). v.sack_ranges) e) (ap (λ (v : TcpOptions). v.timestamp) e))))),
    )

same-header : (a b : TcpHeader) → a.src_port ≡ b.src_port → a.dst_port ≡ b.dst_port → a.control ≡ b.control → a.seq_number.0 ≡ b.seq_number.0 →
    a.ack_number ≡ b.ack_number
    → a.window_len ≡ b.window_len → a.options ≡ b.options → a ≡ b
same-header a b e f g h k l m = λ i. record {
  src_port = e i;
  dst_port = f i;
  control = g i;
  seq_number = record { 0 = h i };
  ack_number = k i;
  window_len = l i;
  options = m i;
}

-- headers are compared whole
pub Decides-header : (a b : TcpHeader) → Decides (Header.ghosts.eq a b) (a ≡ b)
Decides-header a b =
    let window = Decides-and _ _ (Decides-eqb a.window_len b.window_len) (Decides-options a.options b.options) in
    let ack = Decides-and _ _ (Decides-option (λ (x y : SeqNumber). x.0 == y.0) Decides-number a.ack_number b.ack_number) window in
    let sequence = Decides-and _ _ (Decides-eqb a.seq_number.0 b.seq_number.0) ack in
    let control = Decides-and _ _ (Decides-control a.control b.control) sequence in
    let destination = Decides-and _ _ (Decides-eqb a.dst_port b.dst_port) control in
    let all = Decides-and _ _ (Decides-eqb a.src_port b.src_port) destination in (
      λ yes.
          let two = back (back (all.0 yes)) in
          let four = back (back two) in
          same-header a b (front (all.0 yes)) (front (back (all.0 yes))) (front two) (front (back two)) (front four) (front (back four)) (back (back four)),
      λ e.
          let last = both (ap (λ (v : TcpHeader). v.ack_number) e) (both (ap (λ (v : TcpHeader). v.window_len) e) (ap (λ (v : TcpHeader). v.options) e)) in
          all.1 (both (ap (λ (v : TcpHeader). v.src_port) e)
          (both (ap (λ (v : TcpHeader). v.dst_port) e)
          (both (ap (λ (v : TcpHeader). v.control) e) (both (ap (λ (v : TcpHeader). v.seq_number.0) e) last)))),
    )
