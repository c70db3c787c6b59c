-- DEMAND 2, on bytes: "an accepted record, read and written again in its own kind and pair code, gives the same bytes, except the bits that kind 1 holds for
-- samples it also lists". What is promised of the bytes, and that it holds of a track whose bits the writer cleared.
-- Assumes nothing.
use mathlib.Core.Path.{◌≡◌, refl, sym, ap, ◌∙◌, subst}
use Prim.Native.Nat.{ℕ, zero, suc, ◌+◌, ◌/◌, ◌<◌}
use native.Mathlib.Omega.{arith}
use mathlib.Core.Bool.{Bool, true, false}
use mathlib.Core.List.{List, [], ◌∷◌, ◌++◌, map, append_assoc}
use lib.ListN.{length, get_or, set, take, drop, length-map, length-append, get_or-map, length-set}
use lib.Seq.{take_at, drop_at, get_or-set_other}
use lib.Dec.{eqb}
use borrow.Author.Tests.{ne_eqb, eqb-true, eqb-false}
use Rattle.format.specs.Base.{pick, Below, Out, ok}
use Rattle.format.specs.Packed.{one, packed}
use Rattle.format.specs.Difflist.{Entry, number_width, list_bytes}
use Rattle.format.specs.PairCode.{PairCode, pair}
use Rattle.format.specs.Track.{Track, plain, one_bit, leaning, sparse, track_kind, Fits, bit_number, track_bytes, put}
use Rattle.format.specs.Writer.{track_code, cleared}
use Rattle.format.specs.Reply.{refusal_of, given, Written, written}
use Rattle.format.proofs.PackedLaws.{packed_at, packed_length}
use Rattle.format.proofs.WriteReadLaws.{cleared_same}
use Rattle.head_index.specs.NumbersAt.{digit_at}
use Rattle.flip_body.specs.Edits.{list_place}

-- ---- what is promised

-- "its own kind and pair code": 01, Categories and kinds: "Kind 1: a pair code, a bit per sample"; The writer: "a pair code (0 unless kind 1)"
abbrev pub own_code : ℕ → List ℕ → ℕ
own_code number bs = pick (eqb number 1) (get_or bs 0 0) 0

-- "samples it also lists": not this one
abbrev pub Unlisted : List Entry → ℕ → Type 0
Unlisted [] sample = Unit {0}
Unlisted (e ∷ es) sample = (sample ≡ e.sample → ⊥) × Unlisted es sample

-- "except the bits that kind 1 holds for samples it also lists". bs is the record, and so a pair code, a bit per sample and a list that obey, with its phase
-- track after them, if it has one (law `record_exactly`); `written` is what was written. 01, Categories and kinds: "A listed sample's bit may be either; the
-- writer clears it."
pub record SameButListed (N : ℕ) (bs written : List ℕ) : Type 0 where
  pub pair_code : PairCode
  pub bits : List Bool
  pub listed : List Entry
  pub after : List ℕ
  pub fits : Fits N [] (one_bit pair_code bits listed)
  pub record_is : bs ≡ track_bytes N (one_bit pair_code bits listed) ++ after
  pub same_length : length written ≡ length bs
  pub same_code : get_or written 0 0 ≡ get_or bs 0 0
  pub same_behind : drop (list_place N) written ≡ drop (list_place N) bs
  pub same_bits : (sample : ℕ) → sample < N → Unlisted listed sample → digit_at one (drop 1 written) sample ≡ digit_at one (drop 1 bs) sample
  pub cleared_bits : (sample : ℕ) → sample < N → (Unlisted listed sample → ⊥) → digit_at one (drop 1 written) sample ≡ 0

-- "gives the same bytes": of the record bs, of a kind, written again into an output. 01, Replies: "bytes past it are untouched".
pub record WrittenAgain (N number : ℕ) (bs output : List ℕ) (left : Written) : Type 0 where
  pub no_refusal : left.verdict.refusal.number ≡ 0
  pub count_is : left.count ≡ length bs
  pub same_bytes : (number ≡ 1 → ⊥) → take (length bs) left.output ≡ bs
  pub same_but_listed : number ≡ 1 → SameButListed N bs (take (length bs) left.output)
  pub past_kept : drop (length bs) left.output ≡ drop (length bs) output

-- ---- a track's bytes, and those of the track with the bits of listed samples cleared

module _ (N : ℕ) (c : PairCode) (es : List Entry) (after : List ℕ) where
  abbrev behind : List ℕ
  behind = list_bytes (number_width N) es ++ after

  abbrev bytes_with : List Bool → List ℕ
  bytes_with bits = track_bytes N (one_bit c bits es) ++ after

  -- the code, the bits, and what is behind them
  bytes_apart : (bits : List Bool) → bytes_with bits ≡ (pair c).code ∷ (packed one (map bit_number bits) ++ behind)
  unfolding track_bytes
  bytes_apart bits = ap (◌∷◌ (pair c).code) (append_assoc (packed one (map bit_number bits)) (list_bytes (number_width N) es) after)

  bits_size : (bits : List Bool) → length bits ≡ N → length (packed one (map bit_number bits)) ≡ (N + 7) / 8
  bits_size bits e = packed_length one N (map bit_number bits) (length-map bits bit_number ∙ e)

  pair_length : (bits : List Bool) → length bits ≡ N → length (bytes_with bits) ≡ suc ((N + 7) / 8 + length behind)
  pair_length bits e =
      ap length (bytes_apart bits)
      ∙ ap suc (length-append (packed one (map bit_number bits)) behind ∙ ap (λ (n : ℕ). n + length behind) (bits_size bits e))

  first_byte : (bits : List Bool) → get_or (bytes_with bits) 0 0 ≡ (pair c).code
  first_byte bits = ap (λ (bs : List ℕ). get_or bs 0 0) (bytes_apart bits)

  list_after : (bits : List Bool) → length bits ≡ N → drop (list_place N) (bytes_with bits) ≡ behind
  list_after bits e =
      let z : list_place N ≡ suc ((N + 7) / 8) = omega arith in
      ap (drop (list_place N)) (bytes_apart bits) ∙ rw z (drop_at (packed one (map bit_number bits)) behind ((N + 7) / 8) (bits_size bits e))

  bits_small : (bits : List Bool) → Below 2 (map bit_number bits)
  bits_small [] = tt
  bits_small (true ∷ bits) = (omega arith, bits_small bits)
  bits_small (false ∷ bits) = (omega arith, bits_small bits)

  bit_there : (bits : List Bool) (sample : ℕ) → sample < length bits → digit_at one (drop 1 (bytes_with bits)) sample ≡ bit_number (get_or bits sample false)
  unfolding digit_at
  bit_there bits sample l =
      ap (λ (bs : List ℕ). digit_at one (drop 1 bs) sample) (bytes_apart bits)
      ∙ packed_at one sample (map bit_number bits) behind (bits_small bits) (rw length-map l)
      ∙ get_or-map bit_number bits sample false

-- entries leave what stands at no entry's sample
unlisted_kept : (es : List Entry) (bits : List Bool) (sample : ℕ) → Unlisted es sample
    → get_or (put (λ (e : Entry). false) es bits) sample false ≡ get_or bits sample false
unlisted_kept [] bits sample h = refl
unlisted_kept (e ∷ es) bits sample h =
    unlisted_kept es (set bits e.sample false) sample h.1 ∙ get_or-set_other bits e.sample sample false false h.0

-- and clear what stands at one's
set_clear : (bits : List Bool) (i sample : ℕ) → get_or bits sample false ≡ false → get_or (set bits i false) sample false ≡ false
set_clear [] i sample h = h
set_clear (b ∷ bits) zero zero h = refl
set_clear (b ∷ bits) zero (suc sample) h = h
set_clear (b ∷ bits) (suc i) zero h = h
set_clear (b ∷ bits) (suc i) (suc sample) h = set_clear bits i sample h

set_there : (bits : List Bool) (sample : ℕ) → get_or (set bits sample false) sample false ≡ false
set_there [] sample = refl
set_there (b ∷ bits) zero = refl
set_there (b ∷ bits) (suc sample) = set_there bits sample

stays_clear : (es : List Entry) (bits : List Bool) (sample : ℕ) → get_or bits sample false ≡ false
    → get_or (put (λ (e : Entry). false) es bits) sample false ≡ false
stays_clear [] bits sample h = h
stays_clear (e ∷ es) bits sample h = stays_clear es (set bits e.sample false) sample (set_clear bits e.sample sample h)

listed_clear : (es : List Entry) (bits : List Bool) (sample : ℕ) → (Unlisted es sample → ⊥)
    → get_or (put (λ (e : Entry). false) es bits) sample false ≡ false
listed_clear [] bits sample h = absurd (h tt)
listed_clear (e ∷ es) bits sample h =
    go (eqb sample e.sample) refl (λ u. listed_clear es (set bits e.sample false) sample u)
  where
    go : (t : Bool) → eqb sample e.sample ≡ t
        → ((Unlisted es sample → ⊥) → get_or (put (λ (e : Entry). false) es (set bits e.sample false)) sample false ≡ false)
        → get_or (put (λ (e : Entry). false) es (set bits e.sample false)) sample false ≡ false
    go true q f =
        let at : sample ≡ e.sample = eqb-true sample e.sample q in
        stays_clear es (set bits e.sample false) sample (rw at (set_there bits e.sample))
    go false q f = f (λ u. h (eqb-false sample e.sample q, u))

put_length : (es : List Entry) (bits : List Bool) → length (put (λ (e : Entry). false) es bits) ≡ length bits
put_length [] bits = refl
put_length (e ∷ es) bits = put_length es (set bits e.sample false) ∙ length-set bits e.sample false

pub cleared_length : (N : ℕ) (anchor : List ℕ) (t : Track) (after : List ℕ) → Fits N anchor t
    → length (track_bytes N (cleared t) ++ after) ≡ length (track_bytes N t ++ after)
cleared_length N anchor (plain categories) after f = refl
cleared_length N anchor (one_bit c bits es) after f = pair_length N c es after _ (put_length es bits ∙ f.0) ∙ sym (pair_length N c es after bits f.0)
cleared_length N anchor (leaning inverted es) after f = refl
cleared_length N anchor (sparse category es) after f = refl

same_but_listed_of : (N : ℕ) (anchor : List ℕ) (t : Track) (after : List ℕ) → Fits N anchor t → track_kind t ≡ 1
    → SameButListed N (track_bytes N t ++ after) (track_bytes N (cleared t) ++ after)
same_but_listed_of N anchor (one_bit c bits es) after f k =
    let new : List Bool = put (λ (e : Entry). false) es bits in
    let count : length new ≡ N = put_length es bits ∙ f.0 in
    record {
      pair_code = c;
      bits = bits;
      listed = es;
      after = after;
      fits = f;
      record_is = refl;
      same_length = cleared_length N anchor (one_bit c bits es) after f;
      same_code = first_byte N c es after new ∙ sym (first_byte N c es after bits);
      same_behind = list_after N c es after new count ∙ sym (list_after N c es after bits f.0);
      same_bits = λ sample l h.
          bit_there N c es after new sample (omega (arith, count)) ∙ ap bit_number (unlisted_kept es bits sample h)
          ∙ sym (bit_there N c es after bits sample (omega (arith, f.0)));
      cleared_bits = λ sample l h. bit_there N c es after new sample (omega (arith, count)) ∙ ap bit_number (listed_clear es bits sample h);
    }
same_but_listed_of N anchor (plain categories) after f k = absurd (omega (arith, k))
same_but_listed_of N anchor (leaning true es) after f k = absurd (omega (arith, k))
same_but_listed_of N anchor (leaning false es) after f k = absurd (omega (arith, k))
same_but_listed_of N anchor (sparse category es) after f k = absurd (omega (arith, k))

-- a track's pair code is in its bytes
pub code_in_bytes : (N : ℕ) (t : Track) (after : List ℕ) → track_code t ≡ own_code (track_kind t) (track_bytes N t ++ after)
unfolding track_bytes
code_in_bytes N (plain categories) after = refl
code_in_bytes N (one_bit c bits es) after = refl
code_in_bytes N (leaning true es) after = refl
code_in_bytes N (leaning false es) after = refl
code_in_bytes N (sparse category es) after = simp (ne_eqb (track_kind (sparse category es)) 1 (λ e. omega (arith, e)))

-- a track that fits, with what is after it, written so by a call, with room for its own length
pub again_of : (N : ℕ) (anchor : List ℕ) (t : Track) (after : List ℕ) (number : ℕ) (out : Out (List ℕ)) (output : List ℕ)
    → Fits N anchor t → track_kind t ≡ number → out ≡ ok (track_bytes N (cleared t) ++ after) []
    → WrittenAgain N number (track_bytes N t ++ after) output (written out output)
again_of N anchor t after number out output f k e =
    let new : List ℕ = track_bytes N (cleared t) ++ after in
    let n : ℕ = length (track_bytes N t ++ after) in
    let size : length new ≡ n = cleared_length N anchor t after f in
    let left : List ℕ = (written out output).output in
    let left_is : left ≡ new ++ drop (length new) output = ap (given (λ (bs : List ℕ). bs ++ drop (length bs) output) output) e in
    let new_is : take n left ≡ new = ap (take n) left_is ∙ take_at new (drop (length new) output) n size in
    record {
      no_refusal = ap (λ (x : Out (List ℕ)). (refusal_of x).number) e;
      count_is = ap (given length 0) e ∙ size;
      same_bytes = λ other. new_is ∙ ap (λ (x : Track). track_bytes N x ++ after) (cleared_same t (λ z. other (sym k ∙ z)));
      same_but_listed = λ z. subst (SameButListed N (track_bytes N t ++ after)) (sym new_is) (same_but_listed_of N anchor t after f (k ∙ z));
      past_kept = ap (drop n) left_is ∙ drop_at new (drop (length new) output) n size ∙ ap (λ (m : ℕ). drop m output) size;
    }
