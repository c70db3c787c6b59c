-- Which numbers a reading step refuses with: in a record only those of its class. So no clause is reached that stands for what cannot come (numbers 0 and 8).
-- Assumes nothing.
use mathlib.Core.Path.{◌≡◌, refl}
use Prim.Native.Nat.{ℕ, zero, suc, ◌+◌, ◌-◌, ◌/◌, ◌≤◌, ◌<◌}
use mathlib.Core.Bool.{Bool, true}
use mathlib.Core.List.{List, [], ◌∷◌, map}
use lib.ListN.{length}
use lib.Dec.{ltb, leb, eqb, lit≤}
use native.Mathlib.Omega.{arith}
use Rattle.format.specs.declared.BlockVariant.{BlockVariant}
use Rattle.format.specs.Base.{Bytes, Out}
use Rattle.format.specs.Varint.{varint_bytes, read_varint_within, read_varint}
use Rattle.format.specs.Numbers.{numbers_bytes, read_number, read_numbers, read_bytes}
use Rattle.format.specs.Packed.{Bits, one, two, limit, more, packed, read_packed_after, read_packed}
use Rattle.format.specs.Difflist.{Entry, Rule, groups, number_width, Parts, read_entry, read_entries, read_first, read_parts, read_list}
use Rattle.format.specs.PairCode.{Coded, coded, not_coded, code_numbered}
use Rattle.format.specs.declared.Kind.{Kind}
use Rattle.format.specs.declared.Kind.TheVariants.{Array, Paired, AgainstAnchor, AgainstCategory, NoKind}
use Rattle.format.specs.Track.{kind, Track, plain, one_bit, leaning, sparse, off_pair}
use Rattle.format.specs.Track.{off_category, off_anchor, rule, bit_set, as_read, read_pair_code, read_listed, read_kind, read_track}
use Rattle.format.specs.Phase.{first_count, presence, ones, read_phase_track, phased, read_phases}
use Rattle.format.specs.Body.{kind_of, type_phased, Body, track_heterozygous, ended, read_body}
use Rattle.format.specs.Layout.{type_allowed}
use Rattle.format.proofs.Rules.{by_test, below_after}
use Rattle.format.proofs.Refuses.{Refuses, RecordNumber, refuses_need, refuses_map, refuses_bind, refuses_then}
use Rattle.format.proofs.AnchorLaws.{allowed}
use Rattle.format.proofs.VarintLaws.{IsVarint, varint_as_written}
use Rattle.format.proofs.NumbersLaws.{AreNumbers, numbers_as_written, AreBytes, bytes_as_written}
use Rattle.format.proofs.PackedLaws.{ArePacked, packed_as_written}
use Rattle.format.proofs.TrackLaws.{IsPairCode, pair_code_as_written}

-- ---- the smallest parts

-- from the middle of a varint
within_refusals : (end first more least : ℕ) (bs : List ℕ) → Refuses RecordNumber (read_varint_within end first more least bs)
unfolding read_varint_within
within_refusals end first zero least [] = refl
within_refusals end first (suc more) least [] = refl
within_refusals end first zero least (b ∷ bs) =
    refuses_need RecordNumber (ltb b 16) _ _ _ refl (refuses_need RecordNumber (leb least b) _ _ _ refl tt)
within_refusals end first (suc more) least (b ∷ bs) =
    by_test (Refuses RecordNumber) (ltb b 128)
    (λ t. refuses_need RecordNumber (leb least b) _ _ _ refl tt)
    (λ t. refuses_map RecordNumber _ (read_varint_within end first more 1 bs) (within_refusals end first more 1 bs))

-- a varint is refused with 12 or 15
pub varint_refusals : (end : ℕ) (bs : List ℕ) → Refuses RecordNumber (read_varint end bs)
varint_refusals end bs = within_refusals end _ 4 0 bs

-- a number only with 12
pub number_refusals : (end w : ℕ) (bs : List ℕ) → Refuses RecordNumber (read_number end w bs)
unfolding read_number
number_refusals end zero bs = tt
number_refusals end (suc w) [] = refl
number_refusals end (suc w) (b ∷ bs) = refuses_map RecordNumber _ (read_number end w bs) (number_refusals end w bs)

-- several numbers only with 12
pub numbers_refusals : (end w count : ℕ) (bs : List ℕ) → Refuses RecordNumber (read_numbers end w count bs)
unfolding read_numbers
numbers_refusals end w zero bs = tt
numbers_refusals end w (suc count) bs =
    refuses_then RecordNumber (read_number end w bs) _ (number_refusals end w bs) (λ n left.
    refuses_map RecordNumber _ (read_numbers end w count left) (numbers_refusals end w count left))

-- bytes only with 12
pub bytes_refusals : (end count : ℕ) (bs : List ℕ) → Refuses RecordNumber (read_bytes end count bs)
unfolding read_bytes
bytes_refusals end zero bs = tt
bytes_refusals end (suc count) [] = refl
bytes_refusals end (suc count) (b ∷ bs) = refuses_map RecordNumber _ (read_bytes end count bs) (bytes_refusals end count bs)

-- from the middle of a byte
after_refusals : (end b m room rest n : ℕ) (bs : List ℕ) → Refuses RecordNumber (read_packed_after end b m room rest n bs)
unfolding read_packed_after
after_refusals end b m room rest zero bs = refuses_need RecordNumber (eqb rest 0) _ _ _ refl tt
after_refusals end b m zero rest (suc n) [] = refl
after_refusals end b m zero rest (suc n) (x ∷ bs) =
    refuses_map RecordNumber _ (read_packed_after end b m m (x / b) n bs) (after_refusals end b m m (x / b) n bs)
after_refusals end b m (suc room) rest (suc n) bs =
    refuses_map RecordNumber _ (read_packed_after end b m room (rest / b) n bs) (after_refusals end b m room (rest / b) n bs)

-- a packed array with 12 or 18
pub packed_refusals : (end : ℕ) (bits : Bits) (n : ℕ) (bs : List ℕ) → Refuses RecordNumber (read_packed end bits n bs)
packed_refusals end bits n bs = after_refusals end (limit bits) (more bits) 0 0 n bs

-- ---- lists

-- an entry adds 16 and 17
entry_refusals : (held : Rule) (parts : Parts) (least q sample value : ℕ) (left : List ℕ) (next : Out (List Entry)) → Refuses RecordNumber next
    → Refuses RecordNumber (read_entry held parts least q sample value left next)
unfolding read_entry
entry_refusals held parts least q sample value left next r =
    refuses_need RecordNumber (leb least sample) _ _ _ refl
    (refuses_need RecordNumber (ltb sample held.samples) _ _ _ refl
    (refuses_need RecordNumber (held.may sample value) _ _ _ refl (refuses_map RecordNumber _ next r)))

-- from the middle of a group, where heads, sizes and values belong together
entries_refusals : (held : Rule) (parts : Parts) (room size before : ℕ) (hs zs vs bs : List ℕ) → room ≤ 63
    → length hs ≡ (length vs + (63 - room)) / 64 → length zs ≡ length hs → Refuses RecordNumber (read_entries held parts room size before hs zs vs bs)
unfolding read_entries
entries_refusals held parts room size before [] [] [] bs l i j = tt
entries_refusals held parts room size before [] (z ∷ zs) [] bs l i j = absurd (omega arith)
entries_refusals held parts room size before (h ∷ hs) zs [] bs l i j = absurd (omega arith)
entries_refusals held parts zero size before [] zs (v ∷ vs) bs l i j = absurd (omega arith)
entries_refusals held parts zero size before (h ∷ hs) [] (v ∷ vs) bs l i j = absurd (omega arith)
entries_refusals held parts zero size before (h ∷ hs) (z ∷ zs) (v ∷ vs) bs l i j =
    refuses_need RecordNumber (eqb size (z + 63)) _ _ _ refl
    (entry_refusals held parts (suc before) _ h v vs _ (entries_refusals held parts 63 0 h hs zs vs bs (lit≤ tt) (omega arith) (omega arith)))
entries_refusals held parts (suc room) size before hs zs (v ∷ vs) bs l i j =
    refuses_then RecordNumber (read_varint parts.end bs) _
    (varint_refusals parts.end bs) (λ step left.
    entry_refusals held parts (suc before) _ (before + step) v vs _
    (entries_refusals held parts room (size + (length bs - length left)) (before + step) hs zs vs left (omega arith) (omega arith) j))

-- a list's parts, where heads, sizes and values belong together
first_refusals : (held : Rule) (parts : Parts) (hs zs vs bs : List ℕ) → length hs ≡ groups (length vs) → length zs ≡ groups (length vs) - 1
    → Refuses RecordNumber (read_first held parts hs zs vs bs)
unfolding read_first
first_refusals held parts [] [] [] bs i j = tt
first_refusals held parts [] [] (v ∷ vs) bs i j = absurd (omega arith)
first_refusals held parts [] (z ∷ zs) vs bs i j = absurd (omega arith)
first_refusals held parts (h ∷ hs) zs [] bs i j = absurd (omega arith)
first_refusals held parts (h ∷ hs) zs (v ∷ vs) bs i j =
    entry_refusals held parts 0 _ h v vs _ (entries_refusals held parts 63 0 h hs zs vs bs (lit≤ tt) (omega arith) (omega arith))

-- a list is refused with a record's numbers: heads, sizes and values always belong together
pub list_refusals : (held : Rule) (w end : ℕ) (bs : List ℕ) → Bytes bs → Refuses RecordNumber (read_list held w end bs)
unfolding read_list read_parts
list_refusals held w end bs y =
    refuses_bind (IsVarint bs) RecordNumber (read_varint end bs) _ (varint_as_written end bs y)
    (varint_refusals end bs) (λ L left i.
    refuses_need RecordNumber (leb L held.samples) _ _ _ refl (
    let y₀ : Bytes left = below_after 256 (varint_bytes L) left (rw i.0 at y) in
    refuses_bind (AreNumbers w (groups L) left) RecordNumber (read_numbers end w (groups L) left) _ (numbers_as_written end w (groups L) left y₀)
    (numbers_refusals end w (groups L) left) (λ hs left₁ j.
    let y₁ : Bytes left₁ = below_after 256 (numbers_bytes w hs) left₁ (rw j.0 at y₀) in
    refuses_bind (AreBytes (groups L - 1) left₁) RecordNumber (read_bytes end (groups L - 1) left₁) _ (bytes_as_written end (groups L - 1) left₁)
    (bytes_refusals end (groups L - 1) left₁) (λ zs left₂ k.
    let y₂ : Bytes left₂ = below_after 256 zs left₂ (rw k.0 at y₁) in
    refuses_bind (ArePacked two L left₂) RecordNumber (read_packed end two L left₂) _ (packed_as_written end two L left₂ y₂) (packed_refusals end two L left₂)
    (λ vs left₃ m.
    first_refusals held _ hs zs vs left₃ (omega (arith, j.1, m.count)) (omega (arith, k.1, m.count)))))))

-- ---- records

-- an unknown code is 14
found_refusals : (place : ℕ) (left : List ℕ) (found : Coded) → Refuses RecordNumber (as_read place left found)
found_refusals place left (coded c) = tt
found_refusals place left not_coded = refl

-- a pair code is refused with 12 or 14
pair_code_refusals : (end : ℕ) (bs : List ℕ) → Refuses RecordNumber (read_pair_code end bs)
unfolding read_pair_code
pair_code_refusals end [] = refl
pair_code_refusals end (b ∷ left) = found_refusals _ left (code_numbered b)

-- a track made of a list
listed_refusals : (track : List Entry → Track) (end N : ℕ) (may : ℕ → ℕ → Bool) (bs : List ℕ) → Bytes bs → Refuses RecordNumber (read_listed track end N may bs)
unfolding read_listed
listed_refusals track end N may bs y =
    refuses_map RecordNumber track (read_list (rule N may) (number_width N) end bs) (list_refusals (rule N may) (number_width N) end bs y)

-- by the kind: each that there is
kind_refusals : (end N : ℕ) (anchor : List ℕ) (k : Kind) (bs : List ℕ) → (k ≡ NoKind → ⊥) → Bytes bs → Refuses RecordNumber (read_kind end N anchor k bs)
unfolding read_kind
kind_refusals end N anchor Array bs h y = refuses_map RecordNumber plain (read_packed end two N bs) (packed_refusals end two N bs)
kind_refusals end N anchor Paired bs h y =
    refuses_bind (IsPairCode bs) RecordNumber (read_pair_code end bs) _ (pair_code_as_written end bs) (pair_code_refusals end bs) (λ c left₁ i.
    let y₁ : Bytes left₁ = (rw i at y).1 in
    refuses_bind (ArePacked one N left₁) RecordNumber (read_packed end one N left₁) _ (packed_as_written end one N left₁ y₁) (packed_refusals end one N left₁)
    (λ bits left₂ g.
    listed_refusals (one_bit c (map bit_set bits)) end N (off_pair c) left₂ (below_after 256 (packed one bits) left₂ (rw g.written at y₁))))
kind_refusals end N anchor (AgainstAnchor inverted) bs h y = listed_refusals (leaning inverted) end N (off_anchor anchor) bs y
kind_refusals end N anchor (AgainstCategory category) bs h y = listed_refusals (sparse category) end N (off_category category) bs y
kind_refusals end N anchor NoKind bs h y = absurd (h refl)

-- a phase track with 12 or 18
phase_track_refusals : (end H : ℕ) (bs : List ℕ) → Refuses RecordNumber (read_phase_track end H bs)
unfolding read_phase_track
phase_track_refusals end H bs =
    refuses_then RecordNumber (read_packed end one (first_count H bs) bs) _ (packed_refusals end one (first_count H bs) bs) (λ first left.
    refuses_map RecordNumber _ (read_packed end one (ones (presence H first)) left) (packed_refusals end one (ones (presence H first)) left))

-- with it, if the record has one
phases_refusals : (has : Bool) (end H : ℕ) (bs : List ℕ) → Refuses RecordNumber (read_phases has end H bs)
phases_refusals has end H bs =
    by_test (Refuses RecordNumber) has (λ t. refuses_map RecordNumber phased (read_phase_track end H bs) (phase_track_refusals end H bs)) (λ t. tt)

-- bytes that are left are 13
ended_refusals : (end : ℕ) (body : Body) (left : List ℕ) → Refuses RecordNumber (ended end body left)
ended_refusals end body [] = tt
ended_refusals end body (b ∷ left) = refl

-- a record of a kind that there is is refused with a record's numbers
pub body_refusals : (end N : ℕ) (anchor : List ℕ) (type : ℕ) (bs : List ℕ) → (kind (kind_of type) ≡ NoKind → ⊥) → Bytes bs
    → Refuses RecordNumber (read_body end N anchor type bs)
unfolding read_body
body_refusals end N anchor type bs h y =
    refuses_then RecordNumber (read_track end N anchor (kind_of type) bs) _ (kind_refusals end N anchor (kind (kind_of type)) bs h y)
    (λ track left.
    refuses_then RecordNumber (read_phases (type_phased type) end (track_heterozygous N anchor track) left) _
    (phases_refusals (type_phased type) end (track_heterozygous N anchor track) left) (λ phases left₁.
    ended_refusals end (record { main = track; phases = phases }) left₁))

-- below 8 only 5 is no kind
kind_there : (number : ℕ) → number < 8 → (number ≡ 5 → ⊥) → kind number ≡ NoKind → ⊥
kind_there zero l h k = let z : ◌≡◌ {A = ℕ} 0 1 = cc in omega arith
kind_there (suc zero) l h k = let z : ◌≡◌ {A = ℕ} 0 1 = cc in omega arith
kind_there (suc (suc zero)) l h k = let z : ◌≡◌ {A = ℕ} 0 1 = cc in omega arith
kind_there (suc (suc (suc zero))) l h k = let z : ◌≡◌ {A = ℕ} 0 1 = cc in omega arith
kind_there (suc (suc (suc (suc zero)))) l h k = let z : ◌≡◌ {A = ℕ} 0 1 = cc in omega arith
kind_there (suc (suc (suc (suc (suc zero))))) l h k = h refl
kind_there (suc (suc (suc (suc (suc (suc zero)))))) l h k = let z : ◌≡◌ {A = ℕ} 0 1 = cc in omega arith
kind_there (suc (suc (suc (suc (suc (suc (suc zero))))))) l h k = let z : ◌≡◌ {A = ℕ} 0 1 = cc in omega arith
kind_there (suc (suc (suc (suc (suc (suc (suc (suc n)))))))) l h k = omega arith

-- what the header allows has a kind that there is
pub allowed_kind : (i : BlockVariant) (type : ℕ) → type_allowed i type ≡ true → kind (kind_of type) ≡ NoKind → ⊥
allowed_kind i type h k = kind_there (kind_of type) (omega arith) (allowed i type h).2 k
