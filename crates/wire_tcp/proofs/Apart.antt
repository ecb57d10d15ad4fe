-- The checksum of a segment whose header and payload are summed apart.
use Rattle.std.proofs.Common.{◌≡◌, ℕ, ◌+◌, ◌/◌, ◌%◌, ◌≤◌, List, ◌++◌, length, ◌∙◌, ap, arith, length-append}
use Rattle.std.proofs.lemmas.List.{set-append_left}
use Rattle.std.proofs.Math.ListN.{set, length-set}
use Rattle.wire_address.proofs.Covered.{folded-combined}
use Rattle.wire_address.proofs.Sums.{word_sum-append}
use Rattle.wire_address.specs.Fields.{put16}
use Rattle.wire_address.specs.Pseudo.{pseudo_of, covered}
use Rattle.wire_address.specs.Sum.{word_sum, folded}
use Rattle.wire_address.specs.declared.ip.IpAddress.{IpAddress}

-- a number written into the header leaves what is after it
pub put16-header : (header payload : List ℕ) (i n : ℕ) → i + 2 ≤ length header → put16 (header ++ payload) i n ≡ put16 header i n ++ payload
put16-header header payload i n within =
    let high = set-append_left header payload i (n / 256 % 256) (omega arith) in
    let len : length (set header i (n / 256 % 256)) ≡ length header = length-set {A = ℕ} _ _ _ in
    ap (λ xs. set xs (i + 1) (n % 256)) high ∙ set-append_left (set header i (n / 256 % 256)) payload (i + 1) (n % 256) (omega (arith, len))

-- the sum of the pseudo header, then the header, then the payload is that of all that the checksum covers
pub folded-parts : (source destination : IpAddress) (protocol : ℕ) (header payload : List ℕ) → length header % 2 ≡ 0
    → folded (folded (folded (word_sum (pseudo_of source destination protocol (length header + length payload))) + folded (word_sum header)) +
    folded (word_sum payload)) ≡ folded (covered source destination protocol (header ++ payload))
folded-parts source destination protocol header payload even =
    let pseudo : ℕ → ℕ = λ n. word_sum (pseudo_of source destination protocol n) in
    let len = length-append header payload in
    let offset : pseudo (length header + length payload) ≡ pseudo (length (header ++ payload)) = ap pseudo (omega (arith, len)) in
    let all : pseudo (length header + length payload) + word_sum header + word_sum payload ≡ pseudo (length (header ++ payload)) + word_sum (header ++ payload) =
    omega (arith, offset, word_sum-append header payload even) in
    ap (λ n. folded (n + folded (word_sum payload))) (folded-combined (pseudo (length header + length payload)) (word_sum header))
    ∙ folded-combined (pseudo (length header + length payload) + word_sum header) (word_sum payload)
    ∙ ap folded all
