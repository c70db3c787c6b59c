-- The whole list by position is the format's list.
-- Assumes nothing.
use Rattle.std.specs.Prelude.{Result, Ok, Err}
use Rattle.format.specs.declared.Refusal.{Refusal}
use mathlib.Core.Path.{◌≡◌, refl, sym, ap, ◌∙◌}
use Prim.Native.Nat.{ℕ, zero, suc, ◌+◌, ◌-◌, ◌*◌, ◌≤◌, ◌<◌}
use native.Mathlib.Omega.{arith}
use native.Mathlib.Nat.{mul-suc}
use native.Mathlib.Decide.{ℕ_discrete}
use mathlib.Core.List.{List}
use lib.ListN.{get_or, length, set, drop}
use lib.Seq.{get_or-set_other}
use lib.Dec.{eqb}
use borrow.Author.Tests.{le-leb, lt-leb, eq-eqb, ne_eqb}
use Rattle.format.specs.Base.{pick, Out, ok, refuse, bind, place_of}
use Rattle.format.specs.Numbers.{read_numbers, read_bytes}
use Rattle.format.specs.Packed.{two, read_packed_after, read_packed}
use Rattle.format.specs.Difflist.{Entry, Rule, number_width, groups, read_first, read_parts, read_list}
use Rattle.format.specs.Track.{rule}
use Rattle.format.proofs.Rules.{split}
use Rattle.head_index.specs.NumbersAt.{digits_at}
use Rattle.read_packed.specs.Arrays.{number_in, unused}
use Rattle.read_packed.proofs.ReadsAt.{array_fits, array_unused, array_short}
use Rattle.base_cursor.specs.Steps.{cursor_at, varint_at}
use Rattle.base_cursor.proofs.ByteLaws.{here}
use Rattle.base_cursor.proofs.VarintLaws.{Read, was_read, was_refused}
use Rattle.base_cursor.specs.declared.Cursor.{Cursor}
use Rattle.read_list.specs.Entries.{value_at, put_entries, ListLeft, list_left, bump}
use Rattle.read_list.specs.Parts.{count_of, sizes_at, values_at, steps_at, first_at, lay_out, laid_out, counted_out, put_parts}
use Rattle.read_list.specs.Listed.{may_hold}
use Rattle.read_list.specs.declared.ListRule.{ListRule}
use Rattle.read_list.specs.declared.State.{State}
use Rattle.read_list.proofs.EntriesAgree.{numbers_of, values_of, applied, cleared, head_of, head_agrees, walk_agrees, parts}
use Rattle.read_list.proofs.SampleLaws.{is_head, is_first}
use Rattle.read_list.proofs.FitLaws.{row_fits, row_short, bytes_fits, bytes_short}

-- `base` is what the list is against; the row holds it
module _ (l : List ℕ) (y : (i : ℕ) → get_or l i 0 < 256) (n : ℕ) (held : ListRule) (base work : List ℕ)
    (against : (j : ℕ) → j < n → get_or work j 0 ≡ get_or base j 1) where
  abbrev asked : Rule
  asked = rule n (may_hold held base)

  abbrev Same : ListLeft → Out (List Entry) → Type 0
  Same o m = cleared n o ≡ applied (length l) n work m

  abbrev stop : Result Cursor Refusal → ListLeft
  stop r = list_left r work

  abbrev entries : ℕ → ℕ → State → ListLeft
  entries m vals st = put_entries m l n vals held st work

  abbrev laid : Result (ℕ × State) Refusal → ℕ → ListLeft
  laid d m = laid_out stop (entries m) d

  -- the first group begins with no size byte before it
  module _ (at size steps v : ℕ) (i : steps ≤ length l) where
    abbrev reads_first : ℕ → ℕ → ℕ → ℕ → Out (List Entry)
    reads_first m g g' he =
        read_first asked (parts l y n held base v he m) (numbers_of g (number_width n) l at) (numbers_of g' 1 l size) (values_of m l v 0) (drop steps l)

    start_agrees : (m g : ℕ) → suc g ≡ groups (suc m) → size + g ≡ v
        → Same (put_entries (suc m) l n v held (first_at at size steps) work) (reads_first (suc m) (suc g) g (at + number_width n * suc g))
    unfolding put_entries read_first numbers_of digits_at number_in
    start_agrees m g e s =
        let he : ℕ = at + number_width n * suc g in
        let st : State = first_at at size steps in
        let t : State = head_of l y n held base v he (suc m) (cursor_at size) st in
        rw (is_head l n st refl, ← is_first l n st _ _ _ refl refl refl refl)
        (head_agrees l y n held base v he (suc m) 0 (cursor_at size) m g st work (omega arith) refl (λ h f. against _ f)
        (λ h f. walk_agrees l y n held base v he (suc m) m 63 g 0 (bump t) (set work t.last (value_at l v 0))
        (record {
          left_is = refl;
          group = omega arith;
          heads_left = omega arith;
          begun = omega arith;
          inside = i;
          so_far = omega arith;
          heads_end = omega (arith, mul-suc (number_width n) g);
          sizes_end = s;
          counts = omega arith;
          later = λ j o i. get_or-set_other work t.last j (value_at l v 0) 0 (λ q. omega arith) ∙ against j i;
        })))

    start_from : (m g he m' g' : ℕ) → m ≡ suc m' → g ≡ suc g' → he ≡ at + number_width n * suc g' → suc g' ≡ groups (suc m') → size + g' ≡ v
        → Same (put_entries m l n v held (first_at at size steps) work) (reads_first m g g' he)
    start_from m g he m' g' a b c d e = rw (a, b, c) (start_agrees m' g' d e)

  module _ (m at : ℕ) (i : at ≤ length l) (p : 0 < m) where
    abbrev sizes : ℕ
    sizes = sizes_at n m at

    abbrev values : ℕ
    values = values_at n m at

    abbrev steps : ℕ
    steps = steps_at n m at

    body_fits : steps ≤ length l → read_parts asked (number_width n) (length l) m (drop at l)
        ≡ bind (read_packed (length l) two m (drop values l)) (λ vs left.
        read_first asked (parts l y n held base values sizes m) (numbers_of (groups m) (number_width n) l at)
        (numbers_of (groups m - 1) 1 l sizes) vs left)
    unfolding read_parts
    body_fits h =
        let a : place_of (length l) (drop sizes l) ≡ sizes = here l sizes (omega arith) in
        let b : place_of (length l) (drop values l) ≡ values = here l values (omega arith) in
        simp (row_fits l (number_width n) (groups m) at (omega arith), bytes_fits l (groups m - 1) sizes (omega arith), a, b)

    body_short : length l < steps → read_parts asked (number_width n) (length l) m (drop at l) ≡ refuse 12 (length l)
    unfolding read_parts
    body_short h =
        split sizes (length l)
        (λ s. split values (length l)
        (λ v. simp (row_fits l (number_width n) (groups m) at s, bytes_fits l (groups m - 1) sizes v, array_short two l values m h v))
        (λ v. simp (row_fits l (number_width n) (groups m) at s, bytes_short l (groups m - 1) sizes v s)))
        (λ s. simp (row_short l (number_width n) (groups m) at s i))

    lay_short : length l < steps → Same (laid (lay_out l n m at) m) (refuse 12 (length l))
    unfolding lay_out
    lay_short h = simp (lt-leb steps (length l) h)

    lay_spare : steps ≤ length l → (unused two l values m ≡ 0 → ⊥) → Same (laid (lay_out l n m at) m) (refuse 18 (steps - 1))
    unfolding lay_out
    lay_spare h z = simp (le-leb steps (length l) h, ne_eqb (unused two l values m) 0 z)

    lay_fits : steps ≤ length l → unused two l values m ≡ 0
        → laid (lay_out l n m at) m ≡ put_entries m l n values held (first_at at sizes steps) work
    unfolding lay_out
    lay_fits h z = simp (le-leb steps (length l) h, eq-eqb (unused two l values m) 0 z)

    body_agrees : Same (laid (lay_out l n m at) m) (read_parts asked (number_width n) (length l) m (drop at l))
    body_agrees =
        split steps (length l)
        (λ h. rw (body_fits h) (elim (ℕ_discrete (unused two l values m) 0) [
          | yes z ↦
              let e : m ≡ suc (m - 1) = omega arith in
              let q : groups m ≡ suc (groups m - 1) = omega arith in
              let o : suc (groups m - 1) ≡ groups (suc (m - 1)) = omega arith in
              let f : read_packed (length l) two m (drop values l) ≡ ok (values_of m l values 0) (drop steps l) = array_fits two l y values m h z in
              rw (lay_fits h z, f)
              (start_from at sizes steps values h m (groups m) sizes (m - 1) (groups m - 1) e q (ap (λ (k : ℕ). at + number_width n * k) q) o refl)
          | no z ↦ rw (array_unused two l y values m h z) (lay_spare h z)
        ]))
        (λ h. rw (body_short h) (lay_short h))

  none : (m : ℕ) (c : Cursor) → m ≡ 0 → c.at ≤ length l
      → Same (pick (eqb m 0) (list_left (Ok c) work) (laid (lay_out l n m c.at) m))
      (read_parts asked (number_width n) (length l) m (drop c.at l))
  unfolding read_parts read_numbers read_bytes read_packed_after read_first
  none zero c z h = let e : length l - length (drop c.at l) ≡ c.at = here l c.at h in rw e
  none (suc m) c z h = absurd (omega arith)

  list_by : (at : ℕ) (r : Result (ℕ × Cursor) Refusal) → varint_at l at ≡ r → at ≤ length l
      → Same (counted_out stop entries l n (count_of r n at)) (read_list asked (number_width n) (length l) (drop at l))
  unfolding count_of read_list
  list_by at (Err why) e i = rw (was_refused l at why (sym e))
  list_by at (Ok (m, c)) e i =
      let q : Read l at m c = was_read l at m c y i (sym e) in
      rw (q.reads, here l at i)
      (split m n
      (λ h. simp (le-leb m n h) (elim (ℕ_discrete m 0) [
        | yes z ↦ none m c z q.inside
        | no z ↦ simp (ne_eqb m 0 z) (body_agrees m c.at q.inside (omega arith))
      ]))
      (λ h. simp (lt-leb m n h)))

  pub list_agrees : (at : ℕ) → at ≤ length l
      → Same (put_parts held n l at work) (read_list asked (number_width n) (length l) (drop at l))
  unfolding put_parts
  list_agrees at i = list_by at (varint_at l at) refl i
