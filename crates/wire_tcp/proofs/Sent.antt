-- Options that were sent, read back.
use Rattle.std.proofs.Common.{◌≡◌, ℕ, ◌-◌, ◌^◌, zero, suc, Bool, true, false, List, [], ◌∷◌, ◌++◌, length, replicate, refl, sym, ◌∙◌, ap, subst, arith}
use Rattle.std.proofs.Common.{append_assoc}
use Rattle.std.specs.Prelude.{Option, Some, None}
use Rattle.std.specs.Int.{w16, w32, to_be_bytes}
use Rattle.wire_tcp.proofs.First.{first_option}
use Rattle.wire_address.specs.Fields.{be32, IsNumber}
use Rattle.wire_tcp.proofs.Steps.{Says-fold}
use Rattle.wire_tcp.proofs.Grammar.{first_option-spelled}
use Rattle.std.proofs.lemmas.List.{append-nil}
use Rattle.wire_tcp.specs.Options.{OptionValue, Begins, EndOfList, NoOperation, MaxSegmentSize, WindowScale, SackPermitted, SackRange, TimeStamp, Unknown}
use Rattle.wire_tcp.specs.Options.{IsOption, IsOptionValue, normal_option, option_bytes, ranges_bytes, taken, Says, no_options, options_bytes, size_options}
use Rattle.wire_tcp.specs.Options.{scale_options, sack_options, range_options, timestamps_options, sent_bytes, options_room, padded, options_area, normal_options}
use Rattle.wire_tcp.specs.Options.{sent_ranges, closed_up, no_ranges, read_scale, IsRange, IsStamp, AreRanges, AreOptions}
use Rattle.wire_tcp.specs.Seen.{is_end}
use Rattle.wire_tcp.specs.declared.option.TcpOptions.{TcpOptions}
use Rattle.wire_tcp.specs.declared.timestamp.TcpTimestampRepr.{TcpTimestampRepr}

-- zeros hold no option
Says-zeros : (v : TcpOptions) (n : ℕ) → Says v (replicate n 0) v
Says-zeros v zero = ([], refl, refl)
Says-zeros v (suc n) = (EndOfList ∷ [], (replicate n 0, (0 ∷ [], refl, refl), refl), refl)

-- options from their fields
abbrev state : Option ℕ → Option ℕ → Bool → List (Option (ℕ × ℕ)) → Option TcpTimestampRepr → TcpOptions
state size scale permitted ranges stamp =
    record { max_seg_size = size; window_scale = scale; sack_permitted = permitted; sack_ranges = ranges; timestamp = stamp }

-- ranges that start and end alike are the same
pair : ℕ → ℕ → ℕ × ℕ
pair a b = (a, b)

pair-same : (a b : ℕ × ℕ) → a.0 ≡ b.0 → a.1 ≡ b.1 → a ≡ b
unfolding pair
pair-same a b first second = ap (λ n. pair n a.1) first ∙ ap (pair b.0) second

-- a range from its bytes
abbrev spelled : ℕ × ℕ → ℕ × ℕ
spelled a = (be32 (to_be_bytes w32 a.0) 0, be32 (to_be_bytes w32 a.1) 0)

spelled-same : (a : ℕ × ℕ) → IsRange (Some a) → a ≡ spelled a
spelled-same a small =
    let first : a.0 ≡ be32 (to_be_bytes w32 a.0) 0 = omega (arith, small.0) in
    let second : a.1 ≡ be32 (to_be_bytes w32 a.1) 0 = omega (arith, small.1) in
    pair-same a (spelled a) first second

-- one, two and three ranges
one-read : (a : ℕ × ℕ) → IsRange (Some a) → Some a ∷ None ∷ None ∷ [] ≡ Some (spelled a) ∷ None ∷ None ∷ []
one-read a small = ap (λ r. Some r ∷ None ∷ None ∷ []) (spelled-same a small)

two-read : (a b : ℕ × ℕ) → IsRange (Some a) → IsRange (Some b) → Some a ∷ Some b ∷ None ∷ [] ≡ Some (spelled a) ∷ Some (spelled b) ∷ None ∷ []
two-read a b first second = ap (λ r. Some r ∷ Some b ∷ None ∷ []) (spelled-same a first) ∙
    ap (λ r. Some (spelled a) ∷ Some r ∷ None ∷ []) (spelled-same b second)

three-read : (a b c : ℕ × ℕ) → IsRange (Some a) → IsRange (Some b) → IsRange (Some c) →
    Some a ∷ Some b ∷ Some c ∷ [] ≡ Some (spelled a) ∷ Some (spelled b) ∷ Some (spelled c) ∷ []
three-read a b c first second third =
    ap (λ r. Some r ∷ Some b ∷ Some c ∷ []) (spelled-same a first) ∙ ap (λ r. Some (spelled a) ∷ Some r ∷ Some c ∷ []) (spelled-same b second)
    ∙ ap (λ r. Some (spelled a) ∷ Some (spelled b) ∷ Some r ∷ []) (spelled-same c third)

-- ranges are spelled by their bytes
ranges-spelled : (ranges : List (Option (ℕ × ℕ))) → AreRanges ranges → IsOption (SackRange (closed_up ranges)) (option_bytes (SackRange ranges))
ranges-spelled (None ∷ None ∷ None ∷ []) small = ([], refl, refl, refl)
ranges-spelled (Some a ∷ None ∷ None ∷ []) small = (ranges_bytes (Some a ∷ []), refl, refl, one-read a small.0)
ranges-spelled (None ∷ Some a ∷ None ∷ []) small = (ranges_bytes (Some a ∷ []), refl, refl, one-read a small.1)
ranges-spelled (None ∷ None ∷ Some a ∷ []) small = (ranges_bytes (Some a ∷ []), refl, refl, one-read a small.2)
ranges-spelled (Some a ∷ Some b ∷ None ∷ []) small = (ranges_bytes (Some a ∷ Some b ∷ []), refl, refl, two-read a b small.0 small.1)
ranges-spelled (Some a ∷ None ∷ Some b ∷ []) small = (ranges_bytes (Some a ∷ Some b ∷ []), refl, refl, two-read a b small.0 small.2)
ranges-spelled (None ∷ Some a ∷ Some b ∷ []) small = (ranges_bytes (Some a ∷ Some b ∷ []), refl, refl, two-read a b small.1 small.2)
ranges-spelled (Some a ∷ Some b ∷ Some c ∷ []) small = (ranges_bytes (Some a ∷ Some b ∷ Some c ∷ []), refl, refl, three-read a b c small.0 small.1 small.2)
ranges-spelled _ small = absurd small

-- an option is spelled by its bytes
option-spelled : (o : OptionValue) → IsOptionValue o → IsOption (normal_option o) (option_bytes o)
option-spelled EndOfList value = refl
option-spelled NoOperation value = refl
option-spelled (MaxSegmentSize n) value = (to_be_bytes w16 n, refl, refl, omega arith)
option-spelled (WindowScale n) value = (n ∷ [], refl, refl, refl)
option-spelled SackPermitted value = refl
option-spelled (SackRange ranges) value = ranges-spelled ranges value
option-spelled (TimeStamp tsval tsecr) value = (to_be_bytes w32 tsval ++ to_be_bytes w32 tsecr, refl, refl, omega (arith, value.0), omega (arith, value.1))
option-spelled (Unknown kind inner) value = (refl, value)

-- an option that was sent is read back
pub option-read : (o : OptionValue) (rest : List ℕ) → IsOptionValue o → Begins (option_bytes o ++ rest) (normal_option o) rest
option-read o rest value = (option_bytes o, option-spelled o value, refl)

-- an option before what is read
Says-option : (o : OptionValue) (so_far v : TcpOptions) (rest : List ℕ) → IsOptionValue o → is_end (normal_option o) ≡ false →
    Says (taken so_far (normal_option o)) rest v
    → Says so_far (options_bytes (o ∷ []) ++ rest) v
Says-option o so_far v rest value more says =
    Says-fold so_far v (options_bytes (o ∷ []) ++ rest) (normal_option o) rest (ap (λ xs. first_option (xs ++ rest)) (append-nil (option_bytes o)) ∙
    (first_option-spelled (option_bytes o ++ rest) rest (normal_option o)).1 (option-read o rest value)) more says

-- a maximum segment size before what is read
Says-size : (m : Option ℕ) (v : TcpOptions) (rest : List ℕ) → IsNumber (2 ^ 16) m → Says (state m None false no_ranges None) rest v →
    Says no_options (options_bytes (size_options m) ++ rest) v
Says-size None v rest small says = says
Says-size (Some n) v rest small says = Says-option (MaxSegmentSize n) no_options v rest small refl says

-- a scale before what is read
Says-scale : (m scale : Option ℕ) (v : TcpOptions) (rest : List ℕ) → IsNumber 256 scale → Says (state m (read_scale scale) false no_ranges None) rest v →
    Says (state m None false no_ranges None) (options_bytes (scale_options scale) ++ rest) v
Says-scale m None v rest small says = says
Says-scale m (Some n) v rest small says = Says-option (WindowScale n) (state m None false no_ranges None) v rest small refl says

-- timestamps before what is read
Says-stamp : (m s : Option ℕ) (p : Bool) (ranges : List (Option (ℕ × ℕ))) (stamp : Option TcpTimestampRepr) (v : TcpOptions) (rest : List ℕ) → IsStamp stamp →
    Says (state m s p ranges stamp) rest v
    → Says (state m s p ranges None) (options_bytes (timestamps_options stamp) ++ rest) v
Says-stamp m s p ranges None v rest small says = says
Says-stamp m s p ranges (Some stamp) v rest small says = Says-option (TimeStamp stamp.tsval stamp.tsecr) (state m s p ranges None) v rest small refl says

-- ranges before what is read
Says-ranges : (ranges : List (Option (ℕ × ℕ))) (m s : Option ℕ) (v : TcpOptions) (rest : List ℕ) → AreRanges ranges →
    Says (state m s false (closed_up ranges) None) rest v
    → Says (state m s false no_ranges None) (options_bytes (range_options ranges) ++ rest) v
Says-ranges (None ∷ None ∷ None ∷ []) m s v rest small says = says
Says-ranges (Some a ∷ None ∷ None ∷ []) m s v rest small says =
    Says-option (SackRange (Some a ∷ None ∷ None ∷ [])) (state m s false no_ranges None) v rest small refl says
Says-ranges (None ∷ Some a ∷ None ∷ []) m s v rest small says =
    Says-option (SackRange (None ∷ Some a ∷ None ∷ [])) (state m s false no_ranges None) v rest small refl says
Says-ranges (None ∷ None ∷ Some a ∷ []) m s v rest small says =
    Says-option (SackRange (None ∷ None ∷ Some a ∷ [])) (state m s false no_ranges None) v rest small refl says
Says-ranges (Some a ∷ Some b ∷ None ∷ []) m s v rest small says =
    Says-option (SackRange (Some a ∷ Some b ∷ None ∷ [])) (state m s false no_ranges None) v rest small refl says
Says-ranges (Some a ∷ None ∷ Some b ∷ []) m s v rest small says =
    Says-option (SackRange (Some a ∷ None ∷ Some b ∷ [])) (state m s false no_ranges None) v rest small refl says
Says-ranges (None ∷ Some a ∷ Some b ∷ []) m s v rest small says =
    Says-option (SackRange (None ∷ Some a ∷ Some b ∷ [])) (state m s false no_ranges None) v rest small refl says
Says-ranges (Some a ∷ Some b ∷ Some c ∷ []) m s v rest small says =
    Says-option (SackRange (Some a ∷ Some b ∷ Some c ∷ [])) (state m s false no_ranges None) v rest small refl says
Says-ranges _ m s v rest small says = absurd small

-- SACK permitted, or ranges, before what is read
Says-sack : (p acks : Bool) (ranges : List (Option (ℕ × ℕ))) (m s : Option ℕ) (v : TcpOptions) (rest : List ℕ) → AreRanges ranges →
    Says (state m s p (sent_ranges p acks ranges) None) rest v
    → Says (state m s false no_ranges None) (options_bytes (sack_options p acks ranges) ++ rest) v
Says-sack true acks ranges m s v rest small says = Says-option SackPermitted (state m s false no_ranges None) v rest tt refl says
Says-sack false false ranges m s v rest small says = says
Says-sack false true ranges m s v rest small says = Says-ranges ranges m s v rest small says

-- the options of a header that was sent are read back
pub Says-area : (acks : Bool) (v : TcpOptions) → AreOptions v → Says no_options (options_area acks v) (normal_options acks v)
Says-area acks v small =
    let zeros : List ℕ = replicate (padded (options_room v) - length (sent_bytes acks v)) 0 in
    let apart : options_area acks v ≡ options_bytes (size_options v.max_seg_size) ++
    (options_bytes (scale_options v.window_scale) ++
    (options_bytes (sack_options v.sack_permitted acks v.sack_ranges) ++ (options_bytes (timestamps_options v.timestamp) ++ zeros))) = simp append_assoc in
    subst (λ xs. Says no_options xs (normal_options acks v)) (sym apart) (
    Says-size v.max_seg_size (normal_options acks v) _ small.size (
    Says-scale v.max_seg_size v.window_scale (normal_options acks v) _ small.scale (
    Says-sack v.sack_permitted acks v.sack_ranges v.max_seg_size (read_scale v.window_scale) (normal_options acks v) _ small.ranges (
    Says-stamp v.max_seg_size (read_scale v.window_scale) v.sack_permitted (sent_ranges v.sack_permitted acks v.sack_ranges) v.timestamp (normal_options acks v)
    _ small.stamp (
    Says-zeros (normal_options acks v) (padded (options_room v) - length (sent_bytes acks v))
    )
    )
    )
    )
    )
