-- A track of kind 1 as its reader takes it, from the byte that its pair code was found to be: over any anchor, read into a row or only checked.
-- Assumes nothing.
use Rattle.std.specs.Prelude.{Option, Some, None, Result, Ok, Err}
use mathlib.Core.Path.{◌≡◌, refl, sym, ◌∙◌}
use Prim.Native.Nat.{ℕ, suc, ◌+◌, ◌-◌, ◌≤◌}
use native.Mathlib.Omega.{arith}
use native.Mathlib.Numerals.{add-one}
use mathlib.Core.List.{List, [], ◌∷◌, map}
use lib.ListN.{length, drop, length-drop, drop_of_length-le}
use lib.Seq.{drop-cons}
use Rattle.format.specs.declared.Refusal.{Refusal}
use Rattle.format.specs.Base.{Out, refused, refusal, refuse, bind}
use Rattle.format.specs.Packed.{one, read_packed}
use Rattle.format.specs.PairCode.{PairCode, pair, Coded, coded, not_coded, code_numbered, as_found, found}
use Rattle.format.specs.declared.Kind.TheVariants.{Paired}
use Rattle.format.specs.Track.{Track, one_bit, off_pair, bit_set, as_read, read_pair_code, read_listed, read_kind}
use Rattle.format.specs.declared.Pair.{Pair}
use Rattle.base_cursor.specs.declared.Cursor.{Cursor}
use Rattle.base_cursor.specs.Steps.{byte_at}
use Rattle.format.proofs.Exits.{ok_parts}
use Rattle.read_record.specs.Rows.{pair_found, pair_step, pair_at}
use Rattle.base_cursor.proofs.ByteLaws.{ByteRead, ByteRefused, byte_read, byte_refused}

-- `got` is what the byte was
module _ (l : List ℕ) (start : ℕ) (got : Result (ℕ × Cursor) Refusal) (told : got ≡ byte_at l start) where
  none_there : (why : Refusal) → got ≡ Err why → ByteRefused l start why
  none_there why e = byte_refused l start why (sym e ∙ told)

  was_read : (code : ℕ) (next : Cursor) → got ≡ Ok (code, next) → ByteRead l start code next
  was_read code next e = byte_read l start code next (sym e ∙ told)

  pub code_inside : (code : ℕ) (next : Cursor) → got ≡ Ok (code, next) → next.at ≤ length l
  code_inside code next e = let b : ByteRead l start code next = was_read code next e in rw b.moved (omega (arith, b.inside))

-- the bits and the list under a pair code, from what is left after it
abbrev pub under_code : ℕ → ℕ → PairCode → List ℕ → Out Track
under_code end n c left = bind (read_packed end one n left) (λ bits left₂. read_listed (one_bit c (map bit_set bits)) end n (off_pair c) left₂)

-- a track that was read under a code whose pair is p
pub record UnderCode (l : List ℕ) (n : ℕ) (p : Pair) (at : ℕ) (track : Out Track) : Type 0 where
  pub code : PairCode
  pub is : p ≡ pair code
  pub reads : track ≡ under_code (length l) n code (drop at l)

module _ (l : List ℕ) (start n : ℕ) (anchor : List ℕ) (got : Result (ℕ × Cursor) Refusal) (told : got ≡ byte_at l start) where
  abbrev track : Out Track
  track = read_kind (length l) n anchor Paired (drop start l)

  pub code_missing : (why : Refusal) → got ≡ Err why → track ≡ refused why
  unfolding read_kind read_pair_code
  code_missing why e =
      let h : ByteRefused l start why = none_there l start got told why e in
      rw (h.is, drop_of_length-le l h.outside)

  module _ (code : ℕ) (next : Cursor) (e : got ≡ Ok (code, next)) where
    h : ByteRead l start code next
    h = was_read l start got told code next e

    code_at : drop start l ≡ code ∷ drop next.at l
    code_at = rw (h.moved, add-one start, h.value) (drop-cons l start 0 h.inside)

    place_at : length l - suc (length (drop next.at l)) ≡ start
    place_at = rw h.moved (omega (arith, length-drop (start + 1) l, h.inside))

    abbrev decided : Coded → Out Track
    decided (coded c) = under_code (length l) n c (drop next.at l)
    decided not_coded = refuse 14 start

    code_read : track ≡ decided (code_numbered code)
    unfolding read_kind read_pair_code
    code_read = rw code_at (through (code_numbered code))
      where
        through : (k : Coded)
            → bind (as_read (length l - suc (length (drop next.at l))) (drop next.at l) k) (λ c left. under_code (length l) n c left) ≡ decided k
        through (coded c) = refl
        through not_coded = rw place_at

    pub code_unknown : (f : Option Pair) → f ≡ found code → f ≡ None → track ≡ refuse 14 start
    code_unknown f g u = code_read ∙ through (code_numbered code) g
      where
        through : (k : Coded) → f ≡ as_found k → decided k ≡ refuse 14 start
        through (coded c) q = absurd (let z : ◌≡◌ {A = ℕ} 0 1 = cc in omega arith)
        through not_coded q = refl

    pub code_known : (f : Option Pair) → f ≡ found code → (p : Pair) → f ≡ Some p → UnderCode l n p next.at track
    code_known f g p q = rw code_read (through (code_numbered code) g)
      where
        through : (k : Coded) → f ≡ as_found k → UnderCode l n p next.at (decided k)
        through (coded c) d = record { code = c; is = cc; reads = refl }
        through not_coded d = absurd (let z : ◌≡◌ {A = ℕ} 0 1 = cc in omega arith)

-- ---- the ways out of `pair_at`: `got` is what the byte was

module _ (l : List ℕ) (start : ℕ) (got : Result (ℕ × Cursor) Refusal) (told : got ≡ byte_at l start) where
  pub at_no_byte : (why : Refusal) → got ≡ Err why → Err why ≡ pair_at l start
  unfolding pair_at
  at_no_byte why e = rw (← told, e)

  module _ (code : ℕ) (next : Cursor) (e : got ≡ Ok (code, next)) (f : Option Pair) (g : f ≡ found code) where
    pub at_no_pair : f ≡ None → (why : Refusal) → why ≡ refusal 14 start → Err why ≡ pair_at l start
    unfolding pair_at
    at_no_pair u why w = rw (← told, e, ← g, u, w)

    pub at_pair : (p : Pair) → f ≡ Some p → Ok (p, next) ≡ pair_at l start
    unfolding pair_at
    at_pair p q = rw (← told, e, ← g, q)

pub ruleset code_laws = (at_no_byte, at_no_pair, at_pair)

-- ---- what its answer tells of the track

module _ (l : List ℕ) (start n : ℕ) (anchor : List ℕ) (r : Result (Pair × Cursor) Refusal) (told : r ≡ pair_at l start) where
  abbrev main : Out Track
  main = read_kind (length l) n anchor Paired (drop start l)

  pub no_pair : (why : Refusal) → r ≡ Err why → main ≡ refused why
  unfolding pair_at
  no_pair why e = go (byte_at l start) refl (sym e ∙ told)
    where
      decided : (code : ℕ) (next : Cursor) → Ok (code, next) ≡ byte_at l start → (f : Option Pair) → f ≡ found code
          → ◌≡◌ {A = Result (Pair × Cursor) Refusal} (Err why) (pair_found start next f) → main ≡ refused why
      decided code next q None g d =
          let z : why ≡ refusal 14 start = cc in rw z (code_unknown l start n anchor (Ok (code, next)) q code next refl None g refl)
      decided code next q (Some p) g d = absurd (let z : ◌≡◌ {A = ℕ} 0 1 = cc in omega arith)

      go : (m : Result (ℕ × Cursor) Refusal) → m ≡ byte_at l start → ◌≡◌ {A = Result (Pair × Cursor) Refusal} (Err why) (pair_step start m)
          → main ≡ refused why
      go (Err other) q d = let z : why ≡ other = cc in rw z (code_missing l start n anchor (Err other) q other refl)
      go (Ok (code, next)) q d = decided code next q (found code) refl d

  -- a pair that was read, and where what follows its code begins
  record There (p : Pair) (next : Cursor) : Type 0 where
    inside : next.at ≤ length l
    under : UnderCode l n p next.at main

  module _ (p : Pair) (next : Cursor) (e : r ≡ Ok (p, next)) where
    there : There p next
    unfolding pair_at
    there = go (byte_at l start) refl (sym e ∙ told)
      where
        decided : (code : ℕ) (next₁ : Cursor) → Ok (code, next₁) ≡ byte_at l start → (f : Option Pair) → f ≡ found code
            → ◌≡◌ {A = Result (Pair × Cursor) Refusal} (Ok (p, next)) (pair_found start next₁ f) → There p next
        decided code next₁ q None g d = absurd (let z : ◌≡◌ {A = ℕ} 0 1 = cc in omega arith)
        decided code next₁ q (Some p₁) g d =
            let k = ok_parts d in
            rw (k.0, k.1)
            (record {
              inside = code_inside l start (Ok (code, next₁)) q code next₁ refl;
              under = code_known l start n anchor (Ok (code, next₁)) q code next₁ refl (Some p₁) g p₁ refl;
            })

        go : (m : Result (ℕ × Cursor) Refusal) → m ≡ byte_at l start → ◌≡◌ {A = Result (Pair × Cursor) Refusal} (Ok (p, next)) (pair_step start m)
            → There p next
        go (Err other) q d = absurd (let z : ◌≡◌ {A = ℕ} 0 1 = cc in omega arith)
        go (Ok (code, next₁)) q d = decided code next₁ q (found code) refl d

    pub pair_under : UnderCode l n p next.at main
    pair_under = there.under

pub pair_inside : (l : List ℕ) (start : ℕ) (r : Result (Pair × Cursor) Refusal) → r ≡ pair_at l start → (p : Pair) (next : Cursor) → r ≡ Ok (p, next)
    → next.at ≤ length l
pair_inside l start r told p next e = (there l start 0 [] r told p next e).inside
