-- What the check of an array says, and what an array is to a row.
-- Assumes nothing.
use Rattle.std.specs.Prelude.{Result, Ok, Err}
use mathlib.Core.Path.{◌≡◌, sym, ap, ◌∙◌}
use Prim.Native.Nat.{ℕ, ◌+◌, ◌-◌, ◌≤◌, ◌<◌}
use native.Mathlib.Omega.{arith}
use native.Mathlib.Decide.{ℕ_discrete}
use mathlib.Core.List.{List, ◌++◌, map}
use lib.ListN.{get_or, length, take, drop, length-drop}
use lib.Seq.{take_at, drop_at}
use mir.Syntax.{w8}
use mir.Val.{Fits}
use borrow.Author.Tests.{eq-eqb, ne_eqb}
use Rattle.format.specs.declared.Refusal.{Refusal}
use Rattle.format.specs.Base.{Out, ok, refused, refusal, Below}
use Rattle.format.specs.Packed.{Bits, one, two, limit, packed, packed_size, read_packed}
use Rattle.format.proofs.Rules.{split, below_drop}
use Rattle.format.proofs.PackedLaws.{ArePacked, packed_as_written, packed_length}
use Rattle.head_index.specs.NumbersAt.{digits_at}
use Rattle.head_index.proofs.ByIndex.{digits_length, bytes_of}
use Rattle.head_index.proofs.UnusedBits.{has_byte}
use Rattle.base_cursor.specs.Steps.{cursor_at}
use Rattle.base_cursor.specs.declared.Cursor.{Cursor}
use Rattle.base_cursor.proofs.ByteLaws.{here}
use Rattle.read_packed.specs.Arrays.{unused}
use Rattle.read_packed.specs.Unpacked.{packed_step, array_at, UnpackLeft, unpack_left, unpacked, unpacked_two, unpacked_one, of_pair}
use Rattle.read_packed.proofs.ReadsAt.{array_fits, array_unused, array_short}

-- ---- each return of `check`: `size` and `x` are what the calls for the size and the unused bits gave

module _ (bits : Bits) (l : List ℕ) (at n size : ℕ) (e : size ≡ packed_size bits n) where
  pub check_short : at ≤ length l → length l - at < size → (why : Refusal) → why ≡ refusal 12 (length l) → Err why ≡ array_at bits n l at
  unfolding array_at
  check_short h g why f = rw (f, array_short bits l at n (omega arith) h)

  module _ (x : ℕ) (u : x ≡ unused bits l at n) where
    -- an array with unused bits has a byte
    pub some_size : (x ≡ 0 → ⊥) → 1 ≤ at + size
    unfolding unused
    some_size z = omega (arith, has_byte bits n (drop at l) (λ o. z (u ∙ o)))

    module _ (known : (i : ℕ) → Fits w8 (get_or l i 0)) (h : at ≤ length l) (g : size ≤ length l - at) where
      pub check_unused : (x ≡ 0 → ⊥) → (why : Refusal) → why ≡ refusal 18 (at + size - 1) → Err why ≡ array_at bits n l at
      unfolding array_at
      check_unused z why f = rw (f, e, array_unused bits l (λ i. (known i).fits) at n (omega arith) (λ o. z (u ∙ o)))

      pub check_fits : x ≡ 0 → (end : Cursor) → end ≡ cursor_at (at + size) → Ok end ≡ array_at bits n l at
      unfolding array_at
      check_fits z end f =
          let p : length l - length (drop (at + packed_size bits n) l) ≡ at + packed_size bits n = omega (arith, length-drop (at + packed_size bits n) l) in
          rw (f, e, array_fits bits l (λ i. (known i).fits) at n (omega arith) (sym u ∙ z), p)

pub ruleset check_laws = (check_short, some_size, check_unused, check_fits)

-- what is known of an array that was accepted
pub record Accepted (bits : Bits) (l : List ℕ) (at n : ℕ) (end : Cursor) : Type 0 where
  pub ends : end ≡ cursor_at (at + packed_size bits n)
  pub inside : at + packed_size bits n ≤ length l
  pub reads : read_packed (length l) bits n (drop at l) ≡ ok (digits_at bits (drop at l) 0 n) (drop end.at l)

module _ (bits : Bits) (l : List ℕ) (at n : ℕ) where
  pub was_accepted : (end : Cursor) → ((i : ℕ) → get_or l i 0 < 256) → at ≤ length l → Ok end ≡ array_at bits n l at → Accepted bits l at n end
  unfolding array_at
  was_accepted end y h e =
      split (at + packed_size bits n) (length l)
      (λ g. elim (ℕ_discrete (unused bits l at n) 0) [
        | yes z ↦
            let r : read_packed (length l) bits n (drop at l) ≡ ok (digits_at bits (drop at l) 0 n) (drop (at + packed_size bits n) l)
            = array_fits bits l y at n g z in
            let p : length l - length (drop (at + packed_size bits n) l) ≡ at + packed_size bits n = omega (arith, length-drop (at + packed_size bits n) l) in
            let q : Ok end ≡ Ok (cursor_at (at + packed_size bits n)) = rw (r, p) at e in
            let s : end ≡ cursor_at (at + packed_size bits n) = cc in
            record { ends = s; inside = g; reads = rw s r }
        | no z ↦
            let q : Ok end ≡ Err (refusal 18 (at + packed_size bits n - 1)) = rw (array_unused bits l y at n g z) at e in
            let o : ◌≡◌ {A = ℕ} 0 1 = cc in
            absurd (omega arith)
      ])
      (λ g.
      let q : Ok end ≡ Err (refusal 12 (length l)) = rw (array_short bits l at n g h) at e in
      let o : ◌≡◌ {A = ℕ} 0 1 = cc in
      absurd (omega arith))

  pub was_refused : (why : Refusal) → Err why ≡ array_at bits n l at → read_packed (length l) bits n (drop at l) ≡ refused why
  unfolding array_at
  was_refused why e = through (read_packed (length l) bits n (drop at l)) e
    where
      through : (m : Out (List ℕ)) → Err why ≡ packed_step (length l) m → m ≡ refused why
      through (ok vs left) q = absurd (let z : ◌≡◌ {A = ℕ} 0 1 = cc in omega arith)
      through (refused because) q = cc

-- ---- what the check gave, `got`

module _ (bits : Bits) (l : List ℕ) (at n : ℕ) (got : Result Cursor Refusal) (e : got ≡ array_at bits n l at) where
  pub not_packed : (why : Refusal) → got ≡ Err why → read_packed (length l) bits n (drop at l) ≡ refused why
  not_packed why q = was_refused bits l at n why (sym q ∙ e)

  module _ (known : (i : ℕ) → Fits w8 (get_or l i 0)) (h : at ≤ length l) (end : Cursor) (q : got ≡ Ok end) where
    pub accepted : Accepted bits l at n end
    accepted = was_accepted bits l at n end (λ i. (known i).fits) h (sym q ∙ e)

    pub next_inside : end.at ≤ length l
    next_inside = rw accepted.ends accepted.inside

    pub next_after : at ≤ end.at
    next_after = rw accepted.ends (omega arith)

    pub next_place : length l - length (drop end.at l) ≡ end.at
    next_place = rw accepted.ends (here l (at + packed_size bits n) accepted.inside)

-- ---- the two ways out of each unpacking

module _ (bits : Bits) (l : List ℕ) (at n : ℕ) (got : Result Cursor Refusal) (e : got ≡ array_at bits n l at) where
  abbrev Unpacks : (List ℕ → List ℕ) → List ℕ → UnpackLeft → Type 0
  Unpacks g row left = left ≡ unpacked (length l) g n row (read_packed (length l) bits n (drop at l))

  untouched : (g : List ℕ → List ℕ) (row : List ℕ) (why : Refusal) → got ≡ Err why → Unpacks g row (unpack_left (Err why) row)
  untouched g row why q = rw (not_packed bits l at n got e why q)

  module _ (known : (i : ℕ) → Fits w8 (get_or l i 0)) (h : at ≤ length l) (end : Cursor) (q : got ≡ Ok end) where
    pub array_room : at + packed_size bits n ≤ length l
    array_room = (accepted bits l at n got e known h end q).inside

    stored : (g : List ℕ → List ℕ) (row new : List ℕ) → new ≡ g (digits_at bits (drop at l) 0 n) ++ drop n row → Unpacks g row (unpack_left (Ok end) new)
    stored g row new f = rw ((accepted bits l at n got e known h end q).reads, next_place bits l at n got e known h end q, f)

module _ (l : List ℕ) (at n : ℕ) (got : Result Cursor Refusal) (e : got ≡ array_at two n l at) (row : List ℕ) where
  pub two_refused : (why : Refusal) → got ≡ Err why → unpack_left (Err why) row ≡ unpacked_two n l at row
  unfolding unpacked_two
  two_refused = untouched two l at n got e (λ vs. vs) row

  pub two_accepted : ((i : ℕ) → Fits w8 (get_or l i 0)) → at ≤ length l → (end : Cursor) → got ≡ Ok end → (new : List ℕ)
      → new ≡ digits_at two (drop at l) 0 n ++ drop n row → unpack_left (Ok end) new ≡ unpacked_two n l at row
  unfolding unpacked_two
  two_accepted known h end q = stored two l at n got e known h end q (λ vs. vs) row

module _ (l : List ℕ) (at n : ℕ) (got : Result Cursor Refusal) (e : got ≡ array_at one n l at) (row : List ℕ) (lower higher : ℕ) where
  pub one_refused : (why : Refusal) → got ≡ Err why → unpack_left (Err why) row ≡ unpacked_one lower higher n l at row
  unfolding unpacked_one
  one_refused = untouched one l at n got e (map (of_pair lower higher)) row

  pub one_accepted : ((i : ℕ) → Fits w8 (get_or l i 0)) → at ≤ length l → (end : Cursor) → got ≡ Ok end → (mid new : List ℕ)
      → mid ≡ digits_at one (drop at l) 0 n ++ drop n row → new ≡ map (of_pair lower higher) (take n mid) ++ drop n mid
      → unpack_left (Ok end) new ≡ unpacked_one lower higher n l at row
  unfolding unpacked_one
  one_accepted known h end q mid new o f =
      let bits = digits_at one (drop at l) 0 n in
      let t : take n mid ≡ bits = rw o (take_at bits (drop n row) n (digits_length one (drop at l) 0 n)) in
      let d : drop n mid ≡ drop n row = rw o (drop_at bits (drop n row) n (digits_length one (drop at l) 0 n)) in
      stored one l at n got e known h end q (map (of_pair lower higher)) row new (f ∙ rw (t, d))

pub pair_lower : (lower higher bit : ℕ) → bit ≡ 0 → lower ≡ of_pair lower higher bit
pair_lower lower higher bit e = simp (eq-eqb bit 0 e)

pub pair_higher : (lower higher bit : ℕ) → (bit ≡ 0 → ⊥) → higher ≡ of_pair lower higher bit
pair_higher lower higher bit e = simp (ne_eqb bit 0 e)

pub ruleset unpack_laws = (array_room, two_refused, two_accepted, one_refused, one_accepted)

-- ---- the bytes of an accepted array are those that pack its numbers

pub record Held (bits : Bits) (l : List ℕ) (at n end : ℕ) : Type 0 where
  pub part : take (end - at) (drop at l) ≡ packed bits (digits_at bits (drop at l) 0 n)
  pub small : Below (limit bits) (digits_at bits (drop at l) 0 n)
  pub count : length (digits_at bits (drop at l) 0 n) ≡ n

pub accepted_held : (bits : Bits) (l : List ℕ) (at n : ℕ) (end : Cursor) → ((i : ℕ) → get_or l i 0 < 256) → Accepted bits l at n end → Held bits l at n end.at
accepted_held bits l at n end y a =
    let digits : List ℕ = digits_at bits (drop at l) 0 n in
    let p : ArePacked bits n (drop at l) digits (drop end.at l)
    = rw a.reads at (packed_as_written (length l) bits n (drop at l) (below_drop 256 at l (bytes_of l y))) in
    let s : end.at ≡ at + packed_size bits n = ap (λ (z : Cursor). z.at) a.ends in
    let k : length (packed bits digits) ≡ end.at - at = packed_length bits n digits p.count ∙ omega arith in
    record {
      part = ap (take (end.at - at)) p.written ∙ take_at (packed bits digits) (drop end.at l) (end.at - at) k;
      small = p.small;
      count = p.count;
    }
