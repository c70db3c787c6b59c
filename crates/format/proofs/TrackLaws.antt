-- A record's main track: read back, as written.
-- Assumes nothing.
use mathlib.Core.Path.{◌≡◌, refl, ap, ◌∙◌}
use Prim.Native.Nat.{ℕ, zero, suc, ◌^◌, ◌≤◌, ◌<◌}
use mathlib.Core.Bool.{Bool, true, false}
use mathlib.Core.List.{List, [], ◌∷◌, ◌++◌, map, append_assoc}
use lib.ListN.{length-map}
use lib.Dec.{leb, lit<}
use native.Mathlib.Omega.{arith}
use borrow.Author.Tests.{leb-true}
use Rattle.format.specs.Base.{Below, Bytes, ok}
use Rattle.format.specs.Limits.{most_samples}
use Rattle.format.specs.Packed.{one, two, packed, read_packed}
use Rattle.format.specs.Difflist.{Entry, Rising, number_width, list_bytes, read_list}
use Rattle.format.specs.PairCode.{PairCode, pair, Coded, coded, not_coded, code_numbered}
use Rattle.format.specs.Track.{kind, Track, plain, one_bit, leaning, sparse, track_kind, off_pair, off_category, off_anchor, rule, Fits, bit_number}
use Rattle.format.specs.declared.Kind.TheVariants.{AgainstCategory}
use Rattle.format.specs.Track.{bit_set, track_bytes, as_read, read_pair_code, read_listed, read_kind, read_track, track_leans, leans}
use Rattle.format.proofs.Rules.{Holds, by_test, by_map, by_bind, below_after}
use Rattle.format.proofs.PackedLaws.{packed_read_back, packed_as_written, ArePacked}
use Rattle.format.proofs.DifflistLaws.{IsList, list_read_back, list_as_written}
use Rattle.format.proofs.PairLaws.{IsCode, code_read_back, code_as_written}

-- ---- kinds

-- what kinds 4, 6 and 7 list against is a category
pub category_below : (category : ℕ) → kind (suc (suc (suc (suc category)))) ≡ AgainstCategory category → category < 4
category_below zero h = lit< tt
category_below (suc zero) h = lit< tt
category_below (suc (suc zero)) h = lit< tt
category_below (suc (suc (suc zero))) h = lit< tt
category_below (suc (suc (suc (suc category)))) h = let z : ◌≡◌ {A = ℕ} 0 1 = cc in absurd (omega arith)

-- a track that fits has a kind below 8
pub track_kind_small : (N : ℕ) (anchor : List ℕ) (t : Track) → Fits N anchor t → track_kind t < 8
track_kind_small N anchor (plain categories) f = lit< tt
track_kind_small N anchor (one_bit c bits es) f = lit< tt
track_kind_small N anchor (leaning true es) f = lit< tt
track_kind_small N anchor (leaning false es) f = lit< tt
track_kind_small N anchor (sparse category es) f = omega (arith, category_below category f.0)

-- it leans exactly where its kind does
pub leans_track : (t : Track) → leans (track_kind t) ≡ track_leans t
leans_track (plain categories) = refl
leans_track (one_bit c bits es) = refl
leans_track (leaning true es) = refl
leans_track (leaning false es) = refl
leans_track (sparse zero es) = refl
leans_track (sparse (suc zero) es) = refl
leans_track (sparse (suc (suc zero)) es) = refl
leans_track (sparse (suc (suc (suc zero))) es) = refl
leans_track (sparse (suc (suc (suc (suc category)))) es) = refl

-- ---- bits

-- a bit's number is 0 or 1
pub bits_below : (bits : List Bool) → Below 2 (map bit_number bits)
bits_below [] = tt
bits_below (true ∷ bits) = (lit< tt, bits_below bits)
bits_below (false ∷ bits) = (lit< tt, bits_below bits)

-- bits are read from their numbers
pub bits_read_back : (bits : List Bool) → map bit_set (map bit_number bits) ≡ bits
bits_read_back [] = refl
bits_read_back (true ∷ bits) = ap (◌∷◌ true) (bits_read_back bits)
bits_read_back (false ∷ bits) = ap (◌∷◌ false) (bits_read_back bits)

-- numbers that are bits are the numbers of those bits
pub bits_as_written : (numbers : List ℕ) → Below 2 numbers → map bit_number (map bit_set numbers) ≡ numbers
bits_as_written [] h = refl
bits_as_written (zero ∷ numbers) h = ap (◌∷◌ 0) (bits_as_written numbers h.1)
bits_as_written (suc zero ∷ numbers) h = ap (◌∷◌ 1) (bits_as_written numbers h.1)
bits_as_written (suc (suc n) ∷ numbers) h = absurd (omega (arith, h.0))

-- ---- read back

-- the numbers of a list are wide enough for its samples
pub wide_enough : (N : ℕ) → N ≤ most_samples → N ≤ 256 ^ number_width N
wide_enough N h = by_test (λ (w : ℕ). N ≤ 256 ^ w) (leb N 256) (λ t. leb-true N 256 t) (λ t. h)

-- a code's number is read as the code
pair_code_read_back : (end : ℕ) (c : PairCode) (left : List ℕ) → read_pair_code end ((pair c).code ∷ left) ≡ ok c left
unfolding read_pair_code
pair_code_read_back end c left = simp code_read_back

-- a list that obeys, written out, is read as the track that it makes
listed_read_back : (track : List Entry → Track) (end N : ℕ) (may : ℕ → ℕ → Bool) (es : List Entry) (left : List ℕ) → N ≤ most_samples → Rising (rule N may) 0 es
    → read_listed track end N may (list_bytes (number_width N) es ++ left) ≡ ok (track es) left
unfolding read_listed
listed_read_back track end N may es left l g =
    let m : N < 2 ^ 32 = omega arith in
    simp (list_read_back (rule N may) (number_width N) end es left m (wide_enough N l) g)

-- a track that fits, written out, is read as itself
pub track_read_back : (end N : ℕ) (anchor : List ℕ) (t : Track) (left : List ℕ) → N ≤ most_samples → Fits N anchor t
    → read_track end N anchor (track_kind t) (track_bytes N t ++ left) ≡ ok t left
unfolding read_kind track_bytes
track_read_back end N anchor (plain categories) left l f =
    let q : read_packed end two N (packed two categories ++ left) ≡ ok categories left = packed_read_back end two N categories left f.0 f.1 in
    simp q
track_read_back end N anchor (one_bit c bits es) left l f =
    let rest : List ℕ = list_bytes (number_width N) es ++ left in
    let q : read_packed end one N (packed one (map bit_number bits) ++ rest) ≡ ok (map bit_number bits) rest
    = packed_read_back end one N (map bit_number bits) rest (length-map bits bit_number ∙ f.0) (bits_below bits) in
    simp (
      append_assoc (packed one (map bit_number bits)),
      pair_code_read_back,
      q,
      bits_read_back,
      listed_read_back (one_bit c bits) end N
          (off_pair c) es left l f.1,
    )
track_read_back end N anchor (leaning true es) left l f = listed_read_back (leaning true) end N (off_anchor anchor) es left l f
track_read_back end N anchor (leaning false es) left l f = listed_read_back (leaning false) end N (off_anchor anchor) es left l f
track_read_back end N anchor (sparse category es) left l f = rw f.0 (listed_read_back (sparse category) end N (off_category category) es left l f.1)

-- ---- as written

-- what was read is of the kind, fits, and was written out there
pub record IsTrack (N : ℕ) (anchor : List ℕ) (number : ℕ) (bs : List ℕ) (t : Track) (left : List ℕ) : Type 0 where
  pub kind : track_kind t ≡ number
  pub fits : Fits N anchor t
  pub written : bs ≡ track_bytes N t ++ left

abbrev pub IsPairCode : List ℕ → PairCode → List ℕ → Type 0
IsPairCode bs c left = bs ≡ (pair c).code ∷ left

-- the code that is handed on is the one of the byte
found_as_written : (place b : ℕ) (left : List ℕ) (found : Coded) → IsCode b found → Holds (IsPairCode (b ∷ left)) (as_read place left found)
found_as_written place b left (coded c) h = ap (λ (x : ℕ). x ∷ left) h
found_as_written place b left not_coded h = tt

-- whatever code was read, its number is the first byte
pub pair_code_as_written : (end : ℕ) (bs : List ℕ) → Holds (IsPairCode bs) (read_pair_code end bs)
unfolding read_pair_code
pair_code_as_written end [] = tt
pair_code_as_written end (b ∷ left) = found_as_written _ b left (code_numbered b) (code_as_written b)

-- to show Q of a track made of a list, show it of every list that obeys and was written there
by_listed : (Q : Track → List ℕ → Type 0) (track : List Entry → Track) (end N : ℕ) (may : ℕ → ℕ → Bool) (bs : List ℕ) → Bytes bs
    → ((es : List Entry) (left : List ℕ) → bs ≡ list_bytes (number_width N) es ++ left → Rising (rule N may) 0 es → Q (track es) left)
    → Holds Q (read_listed track end N may bs)
unfolding read_listed
by_listed Q track end N may bs y k =
    by_map (IsList (rule N may) (number_width N) bs) Q (read_list (rule N may) (number_width N) end bs) _
    (list_as_written (rule N may) (number_width N) end bs y) (λ es left h. k es left h.written h.rising)

-- whatever track was read fits, and the bytes are that track written out
pub track_as_written : (end N : ℕ) (anchor : List ℕ) (number : ℕ) (bs : List ℕ) → Bytes bs
    → Holds (IsTrack N anchor number bs) (read_track end N anchor number bs)
unfolding read_kind track_bytes
track_as_written end N anchor zero bs y =
    by_map (ArePacked two N bs) (IsTrack N anchor 0 bs) (read_packed end two N bs) _ (packed_as_written end two N bs y)
    (λ vs left h. record { kind = refl; fits = (h.count, h.small); written = h.written })
track_as_written end N anchor (suc zero) bs y =
    by_bind (IsPairCode bs) (IsTrack N anchor 1 bs) (read_pair_code end bs) _ (pair_code_as_written end bs) (λ c left₁ i.
    let y₁ : Bytes left₁ = (rw i at y).1 in
    by_bind (ArePacked one N left₁) (IsTrack N anchor 1 bs) (read_packed end one N left₁) _ (packed_as_written end one N left₁ y₁) (λ numbers left₂ h.
    by_listed (IsTrack N anchor 1 bs) (one_bit c (map bit_set numbers)) end N (off_pair c) left₂
    (below_after 256 (packed one numbers) left₂ (rw h.written at y₁))
    (λ es left w g.
    let b : map bit_number (map bit_set numbers) ≡ numbers = bits_as_written numbers h.small in
    record {
      kind = refl;
      fits = (length-map numbers bit_set ∙ h.count, g);
      written = simp (b, append_assoc (packed one numbers), i, h.written, w);
    })))
track_as_written end N anchor (suc (suc zero)) bs y =
    by_listed _ (leaning false) end N (off_anchor anchor) bs y (λ es left w g. record { kind = refl; fits = g; written = w })
track_as_written end N anchor (suc (suc (suc zero))) bs y =
    by_listed _ (leaning true) end N (off_anchor anchor) bs y (λ es left w g. record { kind = refl; fits = g; written = w })
track_as_written end N anchor (suc (suc (suc (suc zero)))) bs y =
    by_listed _ (sparse 0) end N (off_category 0) bs y (λ es left w g. record { kind = refl; fits = (refl, g); written = w })
track_as_written end N anchor (suc (suc (suc (suc (suc zero))))) bs y = tt
track_as_written end N anchor (suc (suc (suc (suc (suc (suc zero)))))) bs y =
    by_listed _ (sparse 2) end N (off_category 2) bs y (λ es left w g. record { kind = refl; fits = (refl, g); written = w })
track_as_written end N anchor (suc (suc (suc (suc (suc (suc (suc zero))))))) bs y =
    by_listed _ (sparse 3) end N (off_category 3) bs y (λ es left w g. record { kind = refl; fits = (refl, g); written = w })
track_as_written end N anchor (suc (suc (suc (suc (suc (suc (suc (suc number)))))))) bs y = tt
