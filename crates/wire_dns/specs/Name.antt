-- Names (RFC 1035, sections 2.3.4, 3.1 and 4.1.4). A name in a message is labels of 1 to 63 bytes, each after its
-- length, and then a zero, or a pointer to a place where the name goes on. A pointer leads back: below the place where the
-- name begins, and below every pointer before it. So each name is read in finitely many steps.
use Rattle.std.specs.Prelude.{◌≡◌, ℕ, ◌+◌, ◌*◌, ◌<◌, ◌≤◌, Result, Ok, Err, List, [], ◌∷◌, ◌++◌, length, slice_index, slice_range}
use Rattle.wire_address.specs.Fields.{be16}
use Rattle.wire_address.specs.declared.Error.{Error}
use Rattle.wire_dns.specs.declared.name.DnsName.{DnsName}
use Rattle.wire_dns.specs.declared.name.Part.{Part}
use Rattle.wire_dns.specs.declared.name.Part.TheVariants as P

-- a step through a name: a label, or a pointer to an offset
pub data Step : Type 0 where
  Label : List ℕ → Step
  Jump : ℕ → Step

-- a label stands at an offset
pub record IsLabel (message : List ℕ) (at : ℕ) (label : List ℕ) : Type 0 where
  pub some : 0 < length label
  pub short : length label < 64
  pub within : at + 1 + length label ≤ length message
  pub count : slice_index message at ≡ length label
  pub bytes : slice_range message (at + 1) (at + 1 + length label) ≡ label

-- a pointer to an offset below a limit stands at an offset: two bits that are set, and a number of 14 bits
pub record IsPointer (message : List ℕ) (limit at offset : ℕ) : Type 0 where
  pub within : at + 2 ≤ length message
  pub first : 192 ≤ slice_index message at
  pub value : offset + 49152 ≡ be16 message at
  pub back : offset < limit

-- the end of a name stands at an offset
pub record IsRoot (message : List ℕ) (at : ℕ) : Type 0 where
  pub within : at < length message
  pub value : slice_index message at ≡ 0

-- nothing of a name stands at an offset
pub record IsNoPart (message : List ℕ) (limit at : ℕ) : Type 0 where
  pub root : IsRoot message at → ⊥
  pub label : (label : List ℕ) → IsLabel message at label → ⊥
  pub pointer : (offset : ℕ) → IsPointer message limit at offset → ⊥

-- a name is read from an offset by these steps, its pointers below a limit, and each below the ones before it
abbrev pub Leads : List ℕ → ℕ → ℕ → List Step → Type 0
Leads message limit at [] = IsRoot message at
Leads message limit at (Label label ∷ steps) = IsLabel message at label × Leads message limit (at + 1 + length label) steps
Leads message limit at (Jump offset ∷ steps) = IsPointer message limit at offset × Leads message offset offset steps

-- the name that steps make: its labels, each after its length, and a zero
abbrev pub name_of : List Step → List ℕ
name_of [] = 0 ∷ []
name_of (Label label ∷ steps) = length label ∷ (label ++ name_of steps)
name_of (Jump offset ∷ steps) = name_of steps

-- where a name's own bytes end: after its zero, or after its first pointer
abbrev pub end_of : ℕ → List Step → ℕ
end_of at [] = at + 1
end_of at (Label label ∷ steps) = end_of (at + 1 + length label) steps
end_of at (Jump offset ∷ steps) = at + 2

-- this name of at most 255 bytes stands from a place of a message to an end
pub record IsName (message : List ℕ) (at : ℕ) (name : List ℕ) (end : ℕ) : Type 0 where
  pub steps : List Step
  pub leads : Leads message at at steps
  pub name_is : name ≡ name_of steps
  pub end_is : end ≡ end_of at steps
  pub short : length name ≤ 255

-- what stands at a place of a name, as a reader tells it
abbrev pub IsPartAt : List ℕ → ℕ → ℕ → Result Part Error → Type 0
IsPartAt message limit at (Ok P.Root) = IsRoot message at
IsPartAt message limit at (Ok (P.Label label)) = IsLabel message at label.now
IsPartAt message limit at (Ok (P.Pointer offset)) = IsPointer message limit at offset
IsPartAt message limit at (Err e) = IsNoPart message limit at

-- the bytes of a name: its labels, each after its length, and a zero
abbrev pub bytes_of_name : DnsName → List ℕ
bytes_of_name name = name.bytes.items
