-- What each way out of the counts of a packed array and of a pair's bits says.
-- Assumes nothing.
use Rattle.std.specs.Prelude.{Result, Ok, Err}
use mathlib.Core.Path.{◌≡◌, refl, sym, ap, ◌∙◌}
use Prim.Native.Nat.{ℕ, zero, suc, ◌+◌, ◌-◌, ◌≤◌}
use native.Mathlib.Omega.{arith}
use mathlib.Core.Bool.{Bool, true, false}
use mathlib.Core.List.{List, [], ◌∷◌, map}
use lib.ListN.{get_or, length, take, drop, length-take}
use mir.Syntax.{w8, w64}
use mir.Val.{Fits as Bounded}
use Rattle.format.specs.declared.Refusal.{Refusal}
use Rattle.format.specs.Base.{pick, Below}
use Rattle.format.specs.Limits.{most_samples}
use Rattle.format.specs.Packed.{Bits, one, two, packed_size}
use Rattle.format.specs.declared.Kind.TheVariants.{Array}
use Rattle.format.specs.Track.{read_kind}
use Rattle.format.specs.Phase.{heterozygous, heterozygous_count, ones}
use Rattle.base_calls.specs.CallCount.{call_count}
use Rattle.base_calls.proofs.CallCountLaws.{count_cons}
use Rattle.base_cursor.specs.declared.Cursor.{Cursor}
use Rattle.head_index.specs.NumbersAt.{digits_at}
use Rattle.read_packed.specs.Unpacked.{array_at, of_pair}
use Rattle.read_packed.proofs.CheckLaws.{not_packed, accepted, next_inside, next_after, next_place, Held, accepted_held}
use Rattle.read_phase.specs.Phases.{byte_ones}
use Rattle.read_phase.proofs.OnesLaws.{packed_ones, ones_few}
use Rattle.read_list.specs.declared.ListRule.TheVariants.{OffPair}
use Rattle.read_calls.specs.Bases.{base_row, BaseThere}
use Rattle.read_calls.specs.Bytes.{byte_calls}
use Rattle.read_calls.specs.Counted.{counted}
use Rattle.read_calls.specs.Tracks.{track_counted, bits_counted}
use Rattle.read_calls.specs.declared.StoredBase.TheVariants as base
use Rattle.read_calls.proofs.BaseLaws.{bits_are}
use Rattle.read_calls.proofs.CallBytes.{packed_calls}

-- the bytes of an array that was accepted
module _ (bits : Bits) (l : List ℕ) (at n : ℕ) (got : Result Cursor Refusal) (told : got ≡ array_at bits n l at) (known : (i : ℕ) → Bounded w8 (get_or l i 0))
    (h : at ≤ length l) (next : Cursor) (q : got ≡ Ok next) where
  held : Held bits l at n next.at
  held = accepted_held bits l at n next (λ i. (known i).fits) (accepted bits l at n got told known h next q)

  part_few : packed_size bits n ≤ n → length (take (next.at - at) (drop at l)) ≤ n
  part_few s =
      let e : next.at ≡ at + packed_size bits n = ap (λ (z : Cursor). z.at) (accepted bits l at n got told known h next q).ends in
      omega (arith, length-take (next.at - at) (drop at l))

-- ---- kind 0

module _ (l : List ℕ) (start n : ℕ) (got : Result Cursor Refusal) (told : got ≡ array_at two n l start) where
  pub plain_refused : (why : Refusal) → got ≡ Err why → Err why ≡ track_counted Array n l start []
  unfolding track_counted read_kind
  plain_refused why q = rw (not_packed two l start n got told why q)

  module _ (known : (i : ℕ) → Bounded w8 (get_or l i 0)) (h : start ≤ length l) (next : Cursor) (q : got ≡ Ok next) where
    pub plain_few : n ≤ most_samples → length (take (next.at - start) (drop start l)) ≤ most_samples
    plain_few k = omega (arith, part_few two l start n got told known h next q (omega arith))

    pub plain_next : (H : ℕ) → H ≡ byte_calls (take (next.at - start) (drop start l)) → Ok (next, H) ≡ track_counted Array n l start []
    unfolding track_counted read_kind
    plain_next H e =
        let k : H ≡ heterozygous_count (digits_at two (drop start l) 0 n)
        = e ∙ ap byte_calls (held two l start n got told known h next q).part ∙ packed_calls _ (held two l start n got told known h next q).small in
        rw (k, (accepted two l start n got told known h next q).reads, next_place two l start n got told known h next q)

pub ruleset plain_laws = (next_inside, next_after, plain_refused, plain_few, plain_next)

-- ---- the ways out of `alike_calls`

module _ (category count : ℕ) (b : Bool) (e : b ≡ heterozygous category) where
  pub alike_all : b ≡ true → count ≡ pick (heterozygous category) count 0
  alike_all t = rw (← e, t) refl

  pub alike_none : b ≡ false → 0 ≡ pick (heterozygous category) count 0
  alike_none t = rw (← e, t) refl

pub ruleset alike_laws = (alike_all, alike_none)

-- ---- kind 1, after its pair code

alike_few : (b : Bool) (count : ℕ) → pick b count 0 ≤ count
alike_few true count = omega arith
alike_few false count = omega arith

-- a bit more, clear or set
clear_more : (lower higher : Bool) (set count : ℕ) → set ≤ count
    → pick lower 1 0 + (pick higher set 0 + pick lower (count - set) 0) ≡ pick higher set 0 + pick lower (suc count - set) 0
clear_more true true set count h = omega arith
clear_more true false set count h = omega arith
clear_more false true set count h = omega arith
clear_more false false set count h = omega arith

set_more : (lower higher : Bool) (set count : ℕ) → set ≤ count
    → pick higher 1 0 + (pick higher set 0 + pick lower (count - set) 0) ≡ pick higher (1 + set) 0 + pick lower (suc count - (1 + set)) 0
set_more true true set count h = omega arith
set_more true false set count h = omega arith
set_more false true set count h = omega arith
set_more false false set count h = omega arith

-- H of the categories that bits stand for: of those that are set, and of the others
pair_count : (lower higher : ℕ) (bits : List ℕ) → Below 2 bits
    → heterozygous_count (map (of_pair lower higher) bits)
    ≡ pick (heterozygous higher) (ones bits) 0 + pick (heterozygous lower) (length bits - ones bits) 0
unfolding heterozygous_count ones call_count
pair_count lower higher [] h = none (heterozygous higher) (heterozygous lower)
  where
    none : (a b : Bool) → 0 ≡ pick a 0 0 + pick b 0 0
    none true true = refl
    none true false = refl
    none false true = refl
    none false false = refl
pair_count lower higher (zero ∷ bits) h =
    rw (count_cons lower (map (of_pair lower higher) bits), pair_count lower higher bits h.1) (more (ones_few bits h.1))
  where
    more : ones bits ≤ length bits → call_count lower
        + (pick (heterozygous higher) (ones bits) 0 + pick (heterozygous lower) (length bits - ones bits) 0)
        ≡ pick (heterozygous higher) (0 + ones bits) 0 + pick (heterozygous lower) (suc (length bits) - (0 + ones bits)) 0
    more k = let z : 0 + ones bits ≡ ones bits = omega arith in rw z (clear_more (heterozygous lower) (heterozygous higher) (ones bits) (length bits) k)
pair_count lower higher (suc zero ∷ bits) h =
    rw (count_cons higher (map (of_pair lower higher) bits), pair_count lower higher bits h.1) (more (ones_few bits h.1))
  where
    more : ones bits ≤ length bits → call_count higher
        + (pick (heterozygous higher) (ones bits) 0 + pick (heterozygous lower) (length bits - ones bits) 0)
        ≡ pick (heterozygous higher) (1 + ones bits) 0 + pick (heterozygous lower) (suc (length bits) - (1 + ones bits)) 0
    more k = set_more (heterozygous lower) (heterozygous higher) (ones bits) (length bits) k
pair_count lower higher (suc (suc bit) ∷ bits) h = absurd (omega (arith, h.0))

module _ (l : List ℕ) (at n lower higher : ℕ) (got : Result Cursor Refusal) (told : got ≡ array_at one n l at) where
  pub bits_refused : (why : Refusal) → got ≡ Err why → Err why ≡ bits_counted lower higher n l at
  unfolding bits_counted
  bits_refused why q = rw (not_packed one l at n got told why q)

  module _ (known : (i : ℕ) → Bounded w8 (get_or l i 0)) (h : at ≤ length l) (next : Cursor) (q : got ≡ Ok next) where
    abbrev digits : List ℕ
    digits = digits_at one (drop at l) 0 n

    was : Held one l at n next.at
    was = held one l at n got told known h next q

    pub bits_few : n ≤ most_samples → length (take (next.at - at) (drop at l)) ≤ most_samples
    bits_few k = omega (arith, part_few one l at n got told known h next q (omega arith))

    pub bits_there : (row : List ℕ) → BaseThere (base.Bits at lower higher) n l row
    bits_there row = (accepted one l at n got told known h next q).inside

    module _ (set : ℕ) (e : set ≡ byte_ones (take (next.at - at) (drop at l))) where
      are_set : set ≡ ones digits
      are_set = e ∙ ap byte_ones was.part ∙ packed_ones digits was.small

      pub set_few : set ≤ n
      set_few = omega (arith, are_set, ones_few digits was.small, was.count)

      module _ (a : ℕ) (f : a ≡ pick (heterozygous higher) set 0) (b : ℕ) (g : b ≡ pick (heterozygous lower) (n - set) 0) where
        pub calls_fit : n ≤ most_samples → Bounded w64 (a + b)
        calls_fit k = omega (arith, f, g, alike_few (heterozygous higher) set, alike_few (heterozygous lower) (n - set), set_few)

        pub calls_are : (h : ℕ) → h ≡ a + b → (row : List ℕ) → h ≡ heterozygous_count (base_row (base.Bits at lower higher) n l row)
        calls_are h d row =
            rw (d, f, g, bits_are at lower higher n l row, are_set)
            (ap (λ (k : ℕ). pick (heterozygous higher) (ones digits) 0 + pick (heterozygous lower) (k - ones digits) 0) (sym was.count)
            ∙ sym (pair_count lower higher digits was.small))

    pub bits_listed : (row : List ℕ) (r : Result (Cursor × ℕ) Refusal)
        → r ≡ counted (OffPair lower higher) (base_row (base.Bits at lower higher) n l row) n l next.at
        → r ≡ bits_counted lower higher n l at
    unfolding bits_counted counted
    bits_listed row r d = rw (accepted one l at n got told known h next q).reads (rw (bits_are at lower higher n l row) at d)

pub ruleset bits_laws = (next_inside, next_after, bits_refused, bits_few, bits_there, set_few, calls_fit, calls_are, bits_listed)
