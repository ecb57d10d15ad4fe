-- A word exchanged within a part of a frame.
use Rattle.std.proofs.Common.{◌≡◌, ◌≢◌, ℕ, ◌+◌, ◌-◌, ◌/◌, ◌%◌, ◌^◌, ◌<◌, ◌≤◌, true, List, length, take, drop, length-drop, ◌∙◌, ap, subst, arith}
use Rattle.std.proofs.Math.ListN.{set}
use Rattle.std.proofs.Math.Seq.{take-set-lt}
use Rattle.std.proofs.lemmas.List.{drop-set-add, length-take}
use Rattle.wire_address.specs.Fields.{be16, put16}
use Rattle.wire_address.specs.declared.ip.IpAddress.{IpAddress}
use Rattle.wire_tcp.specs.Tcp.{IsChecked, IsTcp}
use Rattle.wire_tcp.specs.declared.header.TcpHeader.{TcpHeader}
use Rattle.wire_tcp.proofs.Sealed.{IsTcp-put16}
use Rattle.sim_link.specs.Parts.{bytes_at, damaged}
use Rattle.sim_link.specs.declared.part.Part.{Part}

drop_put16 : (frame : List ℕ) (at offset word : ℕ) → drop at (put16 frame (at + offset) word) ≡ put16 (drop at frame) offset word
drop_put16 frame at offset word =
    let high : ℕ = word / 256 % 256 in
    let low : ℕ = word % 256 in
    let following : (at + offset) + 1 ≡ at + (offset + 1) = omega arith in
    ap (λ (i : ℕ). drop at (set (set frame (at + offset) high) i low)) following
    ∙ drop-set-add at (set frame (at + offset) high) (offset + 1) low
    ∙ ap (λ (l : List ℕ). set l (offset + 1) low) (drop-set-add at frame offset high)

take_put16 : (bytes : List ℕ) (n offset word : ℕ) → offset + 1 < n → take n (put16 bytes offset word) ≡ put16 (take n bytes) offset word
take_put16 bytes n offset word within =
    let high : ℕ = word / 256 % 256 in
    let low : ℕ = word % 256 in
    let first : offset < n = omega arith in
    take-set-lt n (set bytes offset high) (offset + 1) low within
    ∙ ap (λ (l : List ℕ). set l (offset + 1) low) (take-set-lt n bytes offset high first)

-- a word exchanged in a part of the frame is one exchanged in the part's bytes
pub bytes_at-damaged : (frame : List ℕ) (part : Part) (offset word : ℕ) → offset + 2 ≤ part.len
    → bytes_at (damaged frame part offset word) part ≡ put16 (bytes_at frame part) offset word
bytes_at-damaged frame part offset word within =
    let count : ℕ = part.at + part.len - part.at in
    let less : offset + 1 < part.at + part.len - part.at = omega arith in
    ap (take count) (drop_put16 frame part.at offset word) ∙ take_put16 (drop part.at frame) count offset word less

length-bytes_at : (frame : List ℕ) (part : Part) → part.at + part.len ≤ length frame → length (bytes_at frame part) ≡ part.len
length-bytes_at frame part within =
    omega (arith, length-take (part.at + part.len - part.at) (drop part.at frame), length-drop part.at frame)

-- a damaged segment isn't read
pub unread : (frame : List ℕ) (part : Part) (offset word : ℕ) (source destination : IpAddress) (v : TcpHeader) → part.at + part.len ≤ length frame
    → IsChecked source destination (bytes_at frame part) → offset % 2 ≡ 0 → offset + 2 ≤ part.len → word < 2 ^ 16
    → be16 (bytes_at frame part) offset % 65535 ≢ word % 65535
    → IsTcp source destination true (bytes_at (damaged frame part offset word) part) v → ⊥
unread frame part offset word source destination v room checked even within small other is =
    let inside : offset + 2 ≤ length (bytes_at frame part) = omega (arith, length-bytes_at frame part room) in
    IsTcp-put16 source destination (bytes_at frame part) offset word v checked even inside small other
    (subst (λ (bytes : List ℕ). IsTcp source destination true bytes v) (bytes_at-damaged frame part offset word within) is)
