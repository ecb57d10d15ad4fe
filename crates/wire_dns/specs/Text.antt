-- Names as text (RFC 1035, section 2.3.1): labels with a dot between each and the next. One dot may stand at the end.
use Rattle.std.specs.Prelude.{◌≡◌, ◌≢◌, ℕ, ◌+◌, ◌-◌, ◌<◌, ◌≤◌, ◌==◌, if◌then◌else◌, Result, Ok, Err, List, [], ◌∷◌, length, take, slice_index}
use Rattle.wire_dns.specs.Message.{AreLabels, labels_name}
use Rattle.wire_dns.specs.Name.{bytes_of_name}
use Rattle.wire_dns.specs.declared.name.DnsName.{DnsName}
use Rattle.wire_dns.specs.declared.text.DnsNameError.{DnsNameError}
use Rattle.wire_dns.specs.declared.text.DnsNameError.TheVariants.{Invalid, TooLong}

-- a byte before the first of some labels
abbrev pub put_first : ℕ → List (List ℕ) → List (List ℕ)
put_first c [] = (c ∷ []) ∷ []
put_first c (label ∷ labels) = (c ∷ label) ∷ labels

-- what stands between the dots, which are 46
abbrev pub labels_of : List ℕ → List (List ℕ)
labels_of [] = [] ∷ []
labels_of (c ∷ text) = if c == 46 then [] ∷ labels_of text else put_first c (labels_of text)

-- without the dot at the end, if there is one
abbrev pub without_last_dot : List ℕ → List ℕ
without_last_dot text = if slice_index text (length text - 1) == 46 then take (length text - 1) text else text

-- the labels of a text, each of 1 to 63 bytes, are those of a name of at most 255 bytes; or else this is why they aren't
abbrev pub IsNameOf : List (List ℕ) → Result DnsName DnsNameError → Type 0
IsNameOf labels (Ok name) = AreLabels labels × (bytes_of_name name ≡ labels_name labels) × (length (labels_name labels) ≤ 255)
IsNameOf labels (Err Invalid) = (AreLabels labels → ⊥) × (length (labels_name labels) ≤ 255)
IsNameOf labels (Err TooLong) = 255 < length (labels_name labels)

abbrev pub IsNameOfText : List ℕ → Result DnsName DnsNameError → Type 0
IsNameOfText text answer = IsNameOf (labels_of (without_last_dot text)) answer

-- before this offset there is no dot, and one stands at it, or the end
pub record IsLabelEnd (text : List ℕ) (n : ℕ) : Type 0 where
  pub within : n ≤ length text
  pub before : (k : ℕ) → k < n → slice_index text k ≢ 46
  pub here : n < length text → slice_index text n ≡ 46
