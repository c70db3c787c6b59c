-- A list against one category, which is not heterozygous: H is that of its values, and these are counted where their bytes stand.
-- Assumes nothing.
use Rattle.std.specs.Prelude.{Result, Ok, Err}
use mathlib.Core.Path.{◌≡◌, refl, sym, ap, ◌∙◌, subst}
use Prim.Native.Nat.{ℕ, zero, suc, ◌+◌, ◌-◌, ◌*◌, ◌≤◌, ◌<◌, zero-le}
use native.Mathlib.Omega.{arith}
use mathlib.Core.Bool.{Bool, false}
use mathlib.Core.List.{List, [], ◌∷◌, ◌++◌, append_assoc}
use lib.ListN.{get_or, length, set, take, drop, replicate, length-set, length-take, length-append, length-replicate, get_or-replicate}
use lib.Seq.{get_or-set_other, take_at, drop_at, drop-drop}
use lib.Dec.{leb, eqb}
use borrow.Author.Tests.{leb-true}
use Rattle.format.specs.declared.Refusal.{Refusal}
use Rattle.format.specs.Base.{Bytes, Out, ok, refused}
use Rattle.format.specs.Limits.{most_samples}
use Rattle.format.specs.Varint.{varint_bytes, read_varint}
use Rattle.format.specs.Numbers.{numbers_bytes}
use Rattle.format.specs.Packed.{two, packed, packed_size}
use Rattle.format.specs.Difflist.{Entry, Rule, Rising, number_width, groups, heads, size_bytes, values, steps, list_parts, read_list}
use Rattle.format.specs.Track.{rule, apply}
use Rattle.format.specs.Phase.{heterozygous, heterozygous_count}
use Rattle.format.proofs.Rules.{Holds, by_test, below_drop}
use Rattle.format.proofs.VarintLaws.{varint_read_back}
use Rattle.format.proofs.NumbersLaws.{numbers_length}
use Rattle.format.proofs.PackedLaws.{packed_length}
use Rattle.format.proofs.EntriesLaws.{heads_count, sizes_count, values_length, values_below, rising_length}
use Rattle.format.proofs.DifflistLaws.{IsList, list_as_written}
use Rattle.base_calls.specs.CallCount.{call_count}
use Rattle.base_calls.proofs.CallCountLaws.{count_cons}
use Rattle.base_cursor.specs.Steps.{varint_at}
use Rattle.base_cursor.specs.declared.Cursor.{Cursor}
use Rattle.base_cursor.proofs.ByteLaws.{bytes_of}
use Rattle.base_cursor.proofs.VarintLaws.{Read, was_read}
use Rattle.read_packed.specs.Arrays.{unused}
use Rattle.read_list.specs.Parts.{count_of, values_at, steps_at, lay_out}
use Rattle.read_list.specs.Listed.{may_hold}
use Rattle.read_list.specs.Checked.{stepped, checked}
use Rattle.read_list.specs.declared.ListRule.TheVariants.{OffPair}
use Rattle.read_list.specs.declared.State.{State}
use Rattle.read_list.proofs.NumberLaws.{Known}
use Rattle.read_calls.specs.Bytes.{byte_calls}
use Rattle.read_calls.specs.Counted.{count_replied, counted}
use Rattle.read_calls.proofs.CallBytes.{packed_calls}
use Rattle.read_calls.proofs.CountedEntryLaws.{count_set}
use Rattle.read_calls.proofs.CountAgrees.{parts_laws}

-- ---- H of what a list makes of samples of which none is heterozygous

-- a sample that is listed comes in with its value, and none leaves
apply_count : (u : Rule) (least : ℕ) (es : List Entry) (base : List ℕ) → u.samples ≤ length base → Rising u least es
    → ((j : ℕ) → least ≤ j → j < u.samples → call_count (get_or base j 0) ≡ 0)
    → heterozygous_count (apply es base) ≡ heterozygous_count base + heterozygous_count (values es)
unfolding values heterozygous_count
apply_count u least [] base h g none = omega arith
apply_count u least (e ∷ es) base h g none =
    let new : List ℕ = set base e.sample e.value in
    let later : (j : ℕ) → suc e.sample ≤ j → j < u.samples → call_count (get_or new j 0) ≡ 0
    = λ j a i. ap call_count (get_or-set_other base e.sample j e.value 0 (λ q. omega arith)) ∙ none j (omega (arith, g.0.rises)) i in
    omega (
      arith,
      apply_count u (suc e.sample) es new (omega (arith, length-set base e.sample e.value)) g.1 later,
      count_set base e.sample e.value (omega (arith, g.0.inside)),
      none e.sample g.0.rises g.0.inside,
      count_cons e.value (values es),
    )

-- samples that are all in one such category
module _ (category : ℕ) (z : heterozygous category ≡ false) where
  call_none : call_count category ≡ 0
  unfolding call_count
  call_none = rw z

  pub alike_count : (n : ℕ) → 0 ≡ heterozygous_count (replicate n category)
  unfolding heterozygous_count
  alike_count zero = refl
  alike_count (suc n) = rw z (alike_count n)

  sparse_count : (n : ℕ) (may : ℕ → ℕ → Bool) (es : List Entry) → Rising (rule n may) 0 es
      → heterozygous_count (apply es (replicate n category)) ≡ heterozygous_count (values es)
  sparse_count n may es g =
      omega (
        arith,
        alike_count n,
        apply_count (rule n may) 0 es (replicate n category) (omega (arith, length-replicate n category)) g
            (λ j a i. ap call_count (get_or-replicate n j category 0 i) ∙ call_none),
      )

pub alike_long : (n category : ℕ) → n ≤ length (replicate n category)
alike_long n category = omega (arith, length-replicate n category)

-- ---- where the values stand

-- written out, behind the heads and the size bytes
values_written : (w : ℕ) (es : List Entry) (left : List ℕ) → let m = length es in
    take (packed_size two m) (drop (w * groups m + (groups m - 1)) (list_parts w es ++ left)) ≡ packed two (values es)
unfolding list_parts
values_written w es left =
    let first : List ℕ = numbers_bytes w (heads 0 es) ++ size_bytes es in
    let rest : List ℕ = packed two (values es) ++ (steps 0 0 es ++ left) in
    let parted : list_parts w es ++ left ≡ first ++ rest = simp append_assoc in
    let head_bytes : length (numbers_bytes w (heads 0 es)) ≡ w * groups (length es) = rw (heads_count es) at (numbers_length w (heads 0 es)) in
    let size : length first ≡ w * groups (length es) + (groups (length es) - 1)
    = omega (arith, length-append (numbers_bytes w (heads 0 es)) (size_bytes es), head_bytes, sizes_count es) in
    rw (parted, drop_at first rest _ size) (take_at (packed two (values es)) _ _ (packed_length two (length es) (values es) (values_length es)))

-- the parts of a list that fit
abbrev Placed : List ℕ → ℕ → ℕ → ℕ → Result (ℕ × State) Refusal → Type 0
Placed l n m at (Err why) = Unit {0}
Placed l n m at (Ok (vals, st)) = (vals ≡ values_at n m at) × (st.at.at ≡ steps_at n m at) × (steps_at n m at ≤ length l)

module _ (l : List ℕ) (n m : ℕ) (c : Cursor) (d : Result (ℕ × State) Refusal) (f : d ≡ lay_out l n m c.at) (vals : ℕ) (st : State) (p : d ≡ Ok (vals, st)) where
  placed : Placed l n m c.at (Ok (vals, st))
  unfolding lay_out
  placed =
      let laid : Placed l n m c.at (lay_out l n m c.at)
      = by_test (Placed l n m c.at) (leb (steps_at n m c.at) (length l))
      (λ s. by_test (Placed l n m c.at) (eqb (unused two l (values_at n m c.at) m) 0) (λ u. (refl, refl, leb-true _ _ s)) (λ u. tt)) (λ s. tt) in
      subst (Placed l n m c.at) (sym f ∙ p) laid

  pub parts_inside : st.at.at ≤ length l
  parts_inside = omega (arith, placed.1, placed.2)

  pub parts_after : vals ≤ st.at.at
  parts_after = omega (arith, placed.0, placed.1)

  pub parts_few : m ≤ most_samples → length (take (st.at.at - vals) (drop vals l)) ≤ most_samples
  parts_few k = omega (arith, placed.0, placed.1, length-take (st.at.at - vals) (drop vals l))

  -- the list that was read
  module _ (at : ℕ) (x : Read l at m c) (may : ℕ → ℕ → Bool) (es : List Entry) (left : List ℕ)
      (w : IsList (rule n may) (number_width n) (drop at l) es left) (k : n ≤ most_samples) where
    behind_count : ok m (drop c.at l) ≡ ok (length es) (list_parts (number_width n) es ++ left)
    behind_count =
        sym x.reads ∙ ap (read_varint (length l)) (w.written ∙ append_assoc (varint_bytes (length es)) (list_parts (number_width n) es) left)
        ∙ varint_read_back (length l) (length es) _ (omega (arith, rising_length (rule n may) 0 es zero-le w.rising))

    values_are : take (st.at.at - vals) (drop vals l) ≡ packed two (values es)
    values_are =
        let many : m ≡ length es = cc behind_count in
        let rest : drop c.at l ≡ list_parts (number_width n) es ++ left = cc behind_count in
        let size : st.at.at - vals ≡ packed_size two m = omega (arith, placed.0, placed.1) in
        let place : vals ≡ c.at + (number_width n * groups m + (groups m - 1)) = omega (arith, placed.0) in
        rw (size, place, ← drop-drop (number_width n * groups m + (groups m - 1)) c.at l, rest, many) (values_written (number_width n) es left)

-- the count that was read
abbrev CountRead : List ℕ → ℕ → Result (ℕ × Cursor) Refusal → Type 0
CountRead l at (Err why) = Unit {0}
CountRead l at (Ok (m, c)) = Read l at m c

count_read : (l : List ℕ) (at n : ℕ) → Known l → at ≤ length l → (x : Result (ℕ × Cursor) Refusal) → x ≡ varint_at l at → CountRead l at (count_of x n at)
unfolding count_of
count_read l at n known a (Err why) e = tt
count_read l at n known a (Ok (m, c)) e =
    by_test (CountRead l at) (leb m n) (λ t. was_read l at m c (λ i. (known i).fits) a e) (λ t. tt)

-- ---- the ways out of `count_sparse` after the parts: `got` is what `check_list` gave, off a pair of two equal categories, which asks no row

module _ (l : List ℕ) (at n category : ℕ) (row : List ℕ) (got : Result Cursor Refusal) (e : got ≡ checked (OffPair category category) n l at row) where
  abbrev whole : Result (Cursor × ℕ) Refusal
  whole = counted (OffPair category category) (replicate n category) n l at

  abbrev asked : Rule
  asked = rule n (may_hold (OffPair category category) (replicate n category))

  abbrev reads : Out (List Entry)
  reads = read_list asked (number_width n) (length l) (drop at l)

  pub sparse_refused : (why : Refusal) → got ≡ Err why → Err why ≡ whole
  unfolding counted checked
  sparse_refused why q = through reads (sym q ∙ e)
    where
      through : (o : Out (List Entry)) → Err why ≡ stepped (length l) o → Err why ≡ count_replied (length l) (replicate n category) o
      through (ok es left) p = absurd (let z : ◌≡◌ {A = ℕ} 0 1 = cc in omega arith)
      through (refused other) p = let same : why ≡ other = cc in ap Err same

  module _ (past : Cursor) (q : got ≡ Ok past) (z : heterozygous category ≡ false) (known : Known l) (a : at ≤ length l) (k : n ≤ most_samples)
      (r : Result (ℕ × Cursor) Refusal) (g : r ≡ count_of (varint_at l at) n at) (m : ℕ) (c : Cursor) (t : r ≡ Ok (m, c))
      (d : Result (ℕ × State) Refusal) (f : d ≡ lay_out l n m c.at) (vals : ℕ) (st : State) (p : d ≡ Ok (vals, st)) where
    pub sparse_listed : (H : ℕ) → H ≡ byte_calls (take (st.at.at - vals) (drop vals l)) → Ok (past, H) ≡ whole
    unfolding counted checked
    sparse_listed H h =
        let bytes : Bytes (drop at l) = below_drop 256 at l (bytes_of l (λ i. (known i).fits)) in
        through reads (sym q ∙ e) (list_as_written asked (number_width n) (length l) (drop at l) bytes)
      where
        through : (o : Out (List Entry)) → Ok past ≡ stepped (length l) o → Holds (IsList asked (number_width n) (drop at l)) o
            → Ok (past, H) ≡ count_replied (length l) (replicate n category) o
        through (refused why) u w = absurd (let z : ◌≡◌ {A = ℕ} 0 1 = cc in omega arith)
        through (ok es left) u w =
            let x : Read l at m c = subst (CountRead l at) (sym g ∙ t) (count_read l at n known a (varint_at l at) refl) in
            let calls : H ≡ heterozygous_count (apply es (replicate n category))
            = h ∙ ap byte_calls (values_are l n m c d f vals st p at x _ es left w k) ∙ packed_calls (values es) (values_below asked 0 es w.rising)
            ∙ sym (sparse_count category z n _ es w.rising) in
            cc (u, calls)

pub ruleset sparse_laws = (parts_laws, alike_long, alike_count, parts_inside, parts_after, parts_few, sparse_refused, sparse_listed)
