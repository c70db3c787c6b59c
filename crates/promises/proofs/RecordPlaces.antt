-- Of a record 12 is refused at its end, and 13 to 18 and 23 to 25 at one of its bytes. `lo` is where the record starts.
-- Assumes nothing.
use mathlib.Core.Path.{◌≡◌, refl, sym, ap, subst}
use Prim.Native.Nat.{ℕ, zero, suc, ◌+◌, ◌-◌, ◌*◌, ◌/◌, ◌≤◌, ◌<◌}
use native.Mathlib.Nat.{mul-suc}
use mathlib.Core.Bool.{Bool, true, false}
use mathlib.Core.List.{List, [], ◌∷◌, ◌++◌, map}
use lib.ListN.{length, length-append}
use lib.Dec.{ltb, leb, eqb}
use native.Mathlib.Omega.{arith}
use Rattle.format.specs.declared.Refusal.{Refusal}
use Rattle.format.specs.Base.{Bytes, Out, refusal, place_of}
use Rattle.format.specs.Classes.{record_numbers, among}
use Rattle.format.specs.Varint.{varint_within, varint_bytes, read_varint_within, read_varint}
use Rattle.format.specs.Numbers.{numbers_bytes, read_numbers, read_bytes}
use Rattle.format.specs.Packed.{Bits, one, two, more, packed, read_packed}
use Rattle.format.specs.Difflist.{Entry, Rule, groups, number_width, Parts, read_entry, read_entries, read_first, read_parts, read_list}
use Rattle.format.specs.PairCode.{Coded, coded, not_coded, code_numbered}
use Rattle.format.specs.declared.Kind.{Kind}
use Rattle.format.specs.declared.Kind.TheVariants.{Array, Paired, AgainstAnchor, AgainstCategory, NoKind}
use Rattle.format.specs.Track.{kind, Track, plain, one_bit, leaning, sparse, off_pair}
use Rattle.format.specs.Track.{off_category, off_anchor, rule, bit_set, as_read, track_bytes, read_pair_code, read_listed, read_kind, read_track}
use Rattle.format.specs.Phase.{phased, phases_bytes, first_count, presence, ones, read_phase_track, read_phases}
use Rattle.format.specs.Body.{kind_of, type_phased, track_heterozygous, Body, ended, read_body}
use Rattle.format.proofs.Rules.{by_test, never_both, below_after}
use Rattle.format.proofs.Refuses.{RefusalIs, is_need, is_map, is_bind}
use Rattle.format.proofs.VarintLaws.{IsVarint, varint_as_written}
use Rattle.format.proofs.NumbersLaws.{AreNumbers, numbers_as_written, numbers_length, AreBytes, bytes_as_written}
use Rattle.format.proofs.PackedLaws.{ArePacked, packed_as_written, packed_length}
use Rattle.format.proofs.TrackLaws.{IsPairCode, pair_code_as_written, IsTrack, track_as_written}
use Rattle.format.proofs.PhaseLaws.{IsPhases, phases_as_written}
use Rattle.promises.proofs.PlaceRules.{numbers_places, bytes_places, packed_places, RefusedWithin}

-- what is left is not longer than what was there
left_shorter : (bs front left : List ℕ) → bs ≡ front ++ left → length front + length left ≡ length bs
left_shorter bs front left e = omega (arith, length-append front left, ap length e)

-- past a varint, which has a byte at least
past_varint : (n : ℕ) (bs left : List ℕ) → bs ≡ varint_bytes n ++ left → suc (length left) ≤ length bs
unfolding varint_within
past_varint n bs left e =
    let some : 1 ≤ length (varint_bytes n) = by_test (λ (x : List ℕ). 1 ≤ length x) (ltb n 128) (λ t. omega arith) (λ t. omega arith) in
    omega (arith, left_shorter bs (varint_bytes n) left e)

left_bytes : (bs front left : List ℕ) → bs ≡ front ++ left → Bytes bs → Bytes left
left_bytes bs front left e y = below_after 256 front left (rw e at y)

module _ (lo end : ℕ) where
  abbrev P : Refusal → Type 0
  P = RefusedWithin lo end

  -- 12 is at the end, all others before it
  twelve : lo ≤ end → P (refusal 12 end)
  twelve l t = record { from_start = l; at_end = λ e. refl; before_end = λ e. absurd (e refl) }

  at : (number place : ℕ) → (number ≡ 12 → ⊥) → lo ≤ place → place < end → P (refusal number place)
  at number place n a b t = record { from_start = a; at_end = λ e. absurd (n e); before_end = λ e. b }

  -- ---- the smallest parts

  varint_middle : (first more least : ℕ) (bs : List ℕ) → lo ≤ first → first < end → RefusalIs P (read_varint_within end first more least bs)
  unfolding read_varint_within
  varint_middle first zero least [] a b = twelve (omega arith)
  varint_middle first (suc more) least [] a b = twelve (omega arith)
  varint_middle first zero least (x ∷ bs) a b =
      is_need P (ltb x 16) 15 first _ (λ t. at 15 first (λ e. omega arith) a b) (λ t.
      is_need P (leb least x) 15 first _ (λ u. at 15 first (λ e. omega arith) a b) (λ u. tt))
  varint_middle first (suc more) least (x ∷ bs) a b =
      by_test (RefusalIs P) (ltb x 128)
      (λ t. is_need P (leb least x) 15 first _ (λ u. at 15 first (λ e. omega arith) a b) (λ u. tt))
      (λ t. is_map P _ (read_varint_within end first more 1 bs) (varint_middle first more 1 bs a b))

  varint_cut : (first more least : ℕ) → lo ≤ end → RefusalIs P (read_varint_within end first more least [])
  unfolding read_varint_within
  varint_cut first zero least l = twelve l
  varint_cut first (suc more) least l = twelve l

  varint_places : (bs : List ℕ) → lo + length bs ≤ end → RefusalIs P (read_varint end bs)
  varint_places [] l = varint_cut (place_of end []) 4 0 (omega arith)
  varint_places (b ∷ bs) l = varint_middle (place_of end (b ∷ bs)) 4 0 (b ∷ bs) (omega arith) (omega arith)

  array_places : (bits : Bits) (n : ℕ) (bs : List ℕ) → lo + length bs ≤ end → RefusalIs P (read_packed end bits n bs)
  array_places bits n bs l = packed_places P end (twelve (omega arith)) bits n bs (λ m k.
      at 18 (end - suc m) (λ e. omega arith) (omega arith) (omega arith))

  -- ---- lists

  -- where the parts of a list stand: `heads`, `sizes` of them are still to come
  record PartsWithin (parts : Parts) (heads sizes : ℕ) : Type 0 where
    ends : parts.end ≡ end
    heads_start : lo + parts.width * heads ≤ parts.heads_end
    heads_stop : parts.heads_end ≤ parts.sizes_end
    sizes_start : lo + sizes ≤ parts.sizes_end
    values_stop : 1 ≤ parts.count → parts.sizes_end + (parts.count - 1) / 4 < end

  entry_places : (held : Rule) (parts : Parts) (heads sizes : ℕ) (least q sample value : ℕ) (left : List ℕ) (next : Out (List Entry))
      → PartsWithin parts heads sizes → 1 ≤ parts.count → lo ≤ q → q < end → RefusalIs P next
      → RefusalIs P (read_entry held parts least q sample value left next)
  unfolding read_entry
  entry_places held parts heads sizes least q sample value left next i some a b r =
      is_need P (leb least sample) 23 q _ (λ t. at 23 q (λ e. omega arith) a b) (λ t.
      is_need P (ltb sample held.samples) 24 q _ (λ u. at 24 q (λ e. omega arith) a b) (λ u.
      is_need P (held.may sample value) 17 (parts.sizes_end + (parts.count - suc (length left)) / 4) _ (λ v.
      at 17 (parts.sizes_end + (parts.count - suc (length left)) / 4) (λ e. omega arith) (omega (arith, i.sizes_start))
      (omega (arith, i.values_stop some))) (λ v.
      is_map P _ next r)))

  -- one head less; and one size byte less
  one_fewer : (parts : Parts) (heads sizes : ℕ) → PartsWithin parts (suc heads) sizes → PartsWithin parts heads sizes
  one_fewer parts heads sizes i = record {
    ends = i.ends;
    heads_start = omega (arith, i.heads_start, mul-suc parts.width heads);
    heads_stop = i.heads_stop;
    sizes_start = i.sizes_start;
    values_stop = i.values_stop;
  }

  fewer : (parts : Parts) (heads sizes : ℕ) → PartsWithin parts (suc heads) (suc sizes) → PartsWithin parts heads sizes
  fewer parts heads sizes i =
      let less : PartsWithin parts heads (suc sizes) = one_fewer parts heads (suc sizes) i in
      record {
        ends = less.ends;
        heads_start = less.heads_start;
        heads_stop = less.heads_stop;
        sizes_start = omega (arith, less.sizes_start);
        values_stop = less.values_stop;
      }

  -- numbers 0 and 8, where parts do not belong together or the kind is none, are not a record's
  none : (number place : ℕ) → among record_numbers number ≡ false → P (refusal number place)
  none number place e t = never_both t e

  entries_places : (held : Rule) (parts : Parts) (room size before : ℕ) (hs zs vs bs : List ℕ) → PartsWithin parts (length hs) (length zs)
      → 1 ≤ parts.count → lo + length bs ≤ end → Bytes bs → RefusalIs P (read_entries held parts room size before hs zs vs bs)
  unfolding read_entries
  entries_places held parts room size before [] [] [] bs i some l y = tt
  entries_places held parts room size before [] (z ∷ zs) [] bs i some l y = none 0 0 refl
  entries_places held parts room size before (h ∷ hs) zs [] bs i some l y = none 0 0 refl
  entries_places held parts zero size before [] zs (v ∷ vs) bs i some l y = none 0 0 refl
  entries_places held parts zero size before (h ∷ hs) [] (v ∷ vs) bs i some l y = none 0 0 refl
  entries_places held parts zero size before (h ∷ hs) (z ∷ zs) (v ∷ vs) bs i some l y =
      is_need P (eqb size (z + 63)) 25 (parts.sizes_end - suc (length zs)) _ (λ t.
      at 25 (parts.sizes_end - suc (length zs)) (λ e. omega arith) (omega (arith, i.sizes_start)) (omega (arith, i.values_stop some))) (λ t.
      entry_places held parts (suc (length hs)) (suc (length zs)) (suc before) (parts.heads_end - parts.width * suc (length hs)) h v vs _ i some
      (omega (arith, i.heads_start)) (omega (arith, i.heads_stop, i.values_stop some))
      (entries_places held parts 63 0 h hs zs vs bs (fewer parts (length hs) (length zs) i) some l y))
  entries_places held parts (suc room) size before hs zs (v ∷ vs) bs i some l y =
      is_bind (IsVarint bs) P (read_varint parts.end bs) _ (varint_as_written parts.end bs y)
      (subst (λ (e : ℕ). RefusalIs P (read_varint e bs)) (sym i.ends) (varint_places bs l)) (λ step left j.
      entry_places held parts (length hs) (length zs) (suc before) (place_of parts.end bs) (before + step) v vs _ i some
      (omega (arith, i.ends)) (omega (arith, i.ends, past_varint step bs left j.0))
      (entries_places held parts room (size + (length bs - length left)) (before + step) hs zs vs left i some
      (omega (arith, past_varint step bs left j.0)) (left_bytes bs (varint_bytes step) left j.0 y)))

  first_places : (held : Rule) (parts : Parts) (hs zs vs bs : List ℕ) → PartsWithin parts (length hs) (length zs) → length vs ≡ parts.count
      → lo + length bs ≤ end → Bytes bs → RefusalIs P (read_first held parts hs zs vs bs)
  unfolding read_first
  first_places held parts [] [] [] bs i n l y = tt
  first_places held parts [] [] (v ∷ vs) bs i n l y = none 0 0 refl
  first_places held parts [] (z ∷ zs) vs bs i n l y = none 0 0 refl
  first_places held parts (h ∷ hs) zs [] bs i n l y = none 0 0 refl
  first_places held parts (h ∷ hs) zs (v ∷ vs) bs i n l y =
      entry_places held parts (suc (length hs)) (length zs) 0 (parts.heads_end - parts.width * suc (length hs)) h v vs _ i (omega arith)
      (omega (arith, i.heads_start)) (omega (arith, i.heads_stop, i.values_stop (omega arith)))
      (entries_places held parts 63 0 h hs zs vs bs (one_fewer parts (length hs) (length zs) i) (omega arith) l y)

  list_places : (held : Rule) (w : ℕ) (bs : List ℕ) → Bytes bs → lo + length bs ≤ end → RefusalIs P (read_list held w end bs)
  unfolding read_list read_parts
  list_places held w bs y l =
      is_bind (IsVarint bs) P (read_varint end bs) _ (varint_as_written end bs y) (varint_places bs l) (λ L left i.
      is_need P (leb L held.samples) 16 (place_of end bs) _ (λ t.
      let some : suc (length left) ≤ length bs = past_varint L bs left i.0 in
      at 16 (place_of end bs) (λ e. omega arith) (omega arith) (omega arith)) (λ t.
      let s₀ = left_shorter bs (varint_bytes L) left i.0 in
      let y₀ : Bytes left = left_bytes bs (varint_bytes L) left i.0 y in
      is_bind (AreNumbers w (groups L) left) P (read_numbers end w (groups L) left) _ (numbers_as_written end w (groups L) left y₀)
      (numbers_places P end (twelve (omega arith)) w (groups L) left) (λ hs left₁ j.
      let s₁ = left_shorter left (numbers_bytes w hs) left₁ j.0 in
      let y₁ : Bytes left₁ = left_bytes left (numbers_bytes w hs) left₁ j.0 y₀ in
      is_bind (AreBytes (groups L - 1) left₁) P (read_bytes end (groups L - 1) left₁) _ (bytes_as_written end (groups L - 1) left₁)
      (bytes_places P end (twelve (omega arith)) (groups L - 1) left₁) (λ zs left₂ k.
      let s₂ = left_shorter left₁ zs left₂ k.0 in
      let y₂ : Bytes left₂ = left_bytes left₁ zs left₂ k.0 y₁ in
      is_bind (ArePacked two L left₂) P (read_packed end two L left₂) _ (packed_as_written end two L left₂ y₂)
      (array_places two L left₂ (omega (arith, numbers_length w hs))) (λ vs left₃ m.
      let s₃ = left_shorter left₂ (packed two vs) left₃ m.written in
      let y₃ : Bytes left₃ = left_bytes left₂ (packed two vs) left₃ m.written y₂ in
      let n₁ : length (numbers_bytes w hs) ≡ w * length hs = numbers_length w hs in
      let n₃ : length (packed two vs) ≡ (L + 3) / 4 = packed_length two L vs m.count in
      first_places held _ hs zs vs left₃
      (record {
        ends = refl;
        heads_start = omega arith;
        heads_stop = omega arith;
        sizes_start = omega arith;
        values_stop = λ some. omega arith;
      })
      m.count (omega arith) y₃)))))

  -- ---- records

  found_places : (place : ℕ) (left : List ℕ) (found : Coded) → lo ≤ place → place < end → RefusalIs P (as_read place left found)
  found_places place left (coded c) a b = tt
  found_places place left not_coded a b = at 14 place (λ e. omega arith) a b

  pair_code_places : (bs : List ℕ) → lo + length bs ≤ end → RefusalIs P (read_pair_code end bs)
  unfolding read_pair_code
  pair_code_places [] l = twelve (omega arith)
  pair_code_places (b ∷ left) l = found_places (end - suc (length left)) left (code_numbered b) (omega arith) (omega arith)

  listed_places : (track : List Entry → Track) (N : ℕ) (may : ℕ → ℕ → Bool) (bs : List ℕ) → Bytes bs → lo + length bs ≤ end
      → RefusalIs P (read_listed track end N may bs)
  unfolding read_listed
  listed_places track N may bs y l = is_map P track (read_list (rule N may) (number_width N) end bs) (list_places (rule N may) (number_width N) bs y l)

  kind_places : (N : ℕ) (anchor : List ℕ) (k : Kind) (bs : List ℕ) → Bytes bs → lo + length bs ≤ end → RefusalIs P (read_kind end N anchor k bs)
  unfolding read_kind
  kind_places N anchor Array bs y l = is_map P plain (read_packed end two N bs) (array_places two N bs l)
  kind_places N anchor Paired bs y l =
      is_bind (IsPairCode bs) P (read_pair_code end bs) _ (pair_code_as_written end bs) (pair_code_places bs l) (λ c left₁ i.
      let y₁ : Bytes left₁ = (rw i at y).1 in
      let s₁ : length bs ≡ suc (length left₁) = ap length i in
      is_bind (ArePacked one N left₁) P (read_packed end one N left₁) _ (packed_as_written end one N left₁ y₁) (array_places one N left₁ (omega arith))
      (λ bits left₂ g.
      listed_places (one_bit c (map bit_set bits)) N (off_pair c) left₂ (left_bytes left₁ (packed one bits) left₂ g.written y₁)
      (omega (arith, left_shorter left₁ (packed one bits) left₂ g.written))))
  kind_places N anchor (AgainstAnchor inverted) bs y l = listed_places (leaning inverted) N (off_anchor anchor) bs y l
  kind_places N anchor (AgainstCategory category) bs y l = listed_places (sparse category) N (off_category category) bs y l
  kind_places N anchor NoKind bs y l = none 8 0 refl

  -- the phase track: its first part, then its phase bits
  phase_track_places : (H : ℕ) (bs : List ℕ) → Bytes bs → lo + length bs ≤ end → RefusalIs P (read_phase_track end H bs)
  unfolding read_phase_track
  phase_track_places H bs y l =
      is_bind (ArePacked one (first_count H bs) bs) P (read_packed end one (first_count H bs) bs) _ (packed_as_written end one (first_count H bs) bs y)
      (array_places one (first_count H bs) bs l) (λ first left g.
      is_map P _ (read_packed end one (ones (presence H first)) left)
      (array_places one (ones (presence H first)) left (omega (arith, left_shorter bs (packed one first) left g.written))))

  phases_places : (has : Bool) (H : ℕ) (bs : List ℕ) → Bytes bs → lo + length bs ≤ end → RefusalIs P (read_phases has end H bs)
  phases_places true H bs y l = is_map P phased (read_phase_track end H bs) (phase_track_places H bs y l)
  phases_places false H bs y l = tt

  -- bytes that are left stand in the record
  ended_places : (body : Body) (left : List ℕ) → lo + length left ≤ end → RefusalIs P (ended end body left)
  ended_places body [] l = tt
  ended_places body (b ∷ left) l = at 13 (end - suc (length left)) (λ e. omega arith) (omega arith) (omega arith)

  pub body_places : (N : ℕ) (anchor : List ℕ) (type : ℕ) (bs : List ℕ) → Bytes bs → lo + length bs ≤ end
      → RefusalIs P (read_body end N anchor type bs)
  unfolding read_body
  body_places N anchor type bs y l =
      is_bind (IsTrack N anchor (kind_of type) bs) P (read_track end N anchor (kind_of type) bs) _ (track_as_written end N anchor (kind_of type) bs y)
      (kind_places N anchor (kind (kind_of type)) bs y l) (λ t left i.
      let H : ℕ = track_heterozygous N anchor t in
      let s : length (track_bytes N t) + length left ≡ length bs = left_shorter bs (track_bytes N t) left i.written in
      let z : Bytes left = left_bytes bs (track_bytes N t) left i.written y in
      is_bind (IsPhases (type_phased type) H left) P (read_phases (type_phased type) end H left) _ (phases_as_written (type_phased type) end H left z)
      (phases_places (type_phased type) H left z (omega arith)) (λ p rest j.
      ended_places (record { main = t; phases = p }) rest (omega (arith, left_shorter left (phases_bytes p) rest j.written))))
