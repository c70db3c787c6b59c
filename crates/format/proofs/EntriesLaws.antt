-- The entries of a difference list, once its parts have been cut out: its parts' lengths and bounds, entries read back, entries as written.
-- Assumes nothing.
use mathlib.Core.Path.{◌≡◌, refl, ap, ◌∙◌}
use Prim.Native.Nat.{ℕ, zero, suc, ◌+◌, ◌-◌, ◌/◌, ◌^◌, ◌≤◌, ◌<◌, zero-le}
use mathlib.Core.List.{List, [], ◌∷◌, ◌++◌, append_assoc}
use lib.ListN.{length, length-append}
use lib.Dec.{ltb, leb, eqb, lit≤}
use native.Mathlib.Omega.{arith}
use borrow.Author.Tests.{lt-ltb, le-leb, eq-eqb, ltb-true, leb-true, eqb-true}
use Rattle.format.specs.Base.{Below, Bytes, Out, ok, map_out}
use Rattle.format.specs.Varint.{varint_bytes, read_varint}
use Rattle.format.specs.Difflist.{Entry, Rule, Good, Rising, groups, heads, sizes_after, size_bytes, values, steps, Parts, read_entry, read_entries}
use Rattle.format.specs.Difflist.{read_first}
use Rattle.format.proofs.Rules.{Holds, by_need, by_map, by_bind, weaken, below_after}
use Rattle.format.proofs.VarintLaws.{varint_read_back, varint_as_written, varint_length, IsVarint}

-- ---- how long the parts are

-- from the middle of a group: a head for each group that begins later
heads_length : (room : ℕ) (es : List Entry) → room ≤ 63 → length (heads room es) ≡ (length es + (63 - room)) / 64
unfolding heads
heads_length room [] l = omega arith
heads_length zero (e ∷ es) l = omega (arith, heads_length 63 es (lit≤ tt))
heads_length (suc room) (e ∷ es) l = omega (arith, heads_length room es (omega arith))

-- from the middle of a group: a size byte for each group that ends before the last entry
sizes_length : (room size before : ℕ) (es : List Entry) → room ≤ 63 → length (sizes_after room size before es) ≡ (length es + (63 - room)) / 64
unfolding sizes_after
sizes_length room size before [] l = omega arith
sizes_length zero size before (e ∷ es) l = omega (arith, sizes_length 63 0 e.sample es (lit≤ tt))
sizes_length (suc room) size before (e ∷ es) l =
    omega (arith, sizes_length room (size + length (varint_bytes (e.sample - before))) e.sample es (omega arith))

-- a list has a head for each group
pub heads_count : (es : List Entry) → length (heads 0 es) ≡ groups (length es)
heads_count es = omega (arith, heads_length 0 es zero-le)

-- and a size byte for each but the last
pub sizes_count : (es : List Entry) → length (size_bytes es) ≡ groups (length es) - 1
unfolding size_bytes
sizes_count [] = refl
sizes_count (e ∷ es) = omega (arith, sizes_length 63 0 e.sample es (lit≤ tt))

-- and a value for each entry
pub values_length : (es : List Entry) → length (values es) ≡ length es
unfolding values
values_length [] = refl
values_length (e ∷ es) = ap suc (values_length es)

-- ---- how large

-- a value has two bits
pub values_below : (rule : Rule) (least : ℕ) (es : List Entry) → Rising rule least es → Below 4 (values es)
unfolding values
values_below rule least [] g = tt
values_below rule least (e ∷ es) g = (g.0.two_bits, values_below rule (suc e.sample) es g.1)

-- a head is a sample
pub heads_below : (rule : Rule) (m room least : ℕ) (es : List Entry) → rule.samples ≤ m → Rising rule least es → Below m (heads room es)
unfolding heads
heads_below rule m room least [] l g = tt
heads_below rule m zero least (e ∷ es) l g = (omega (arith, g.0.inside), heads_below rule m 63 (suc e.sample) es l g.1)
heads_below rule m (suc room) least (e ∷ es) l g = heads_below rule m room (suc e.sample) es l g.1

-- a list that rises has no more entries than there are samples
pub rising_length : (rule : Rule) (least : ℕ) (es : List Entry) → least ≤ rule.samples → Rising rule least es → least + length es ≤ rule.samples
rising_length rule least [] l g = omega arith
rising_length rule least (e ∷ es) l g = omega (arith, g.0.rises, rising_length rule (suc e.sample) es g.0.inside g.1)

-- the bytes that were read are all but those left
pub consumed : (xs left : List ℕ) → length (xs ++ left) - length left ≡ length xs
consumed xs left = simp length-append (omega arith)

-- ---- read back

-- an entry that the rule lets in is read
pub entry_read_back : (rule : Rule) (parts : Parts) (least q : ℕ) (e : Entry) (left : List ℕ) (next : Out (List Entry)) → Good rule least e
    → read_entry rule parts least q e.sample e.value left next ≡ map_out (◌∷◌ e) next
unfolding read_entry
entry_read_back rule parts least q e left next g =
    simp (le-leb least e.sample g.rises, lt-ltb e.sample rule.samples g.inside, g.allowed)

-- the parts of entries, from the middle of a group, give the entries back
pub entries_read_back : (rule : Rule) (parts : Parts) (room size before : ℕ) (es : List Entry) (left : List ℕ)
    → rule.samples < 2 ^ 32 → 63 ≤ size + room → Rising rule (suc before) es
    → read_entries rule parts room size before (heads room es) (sizes_after room size before es) (values es) (steps room before es ++ left) ≡ ok es left
unfolding heads sizes_after values steps read_entries
entries_read_back rule parts room size before [] left m i g = refl
entries_read_back rule parts zero size before (e ∷ es) left m i g =
    simp (eq-eqb size (size - 63 + 63) (omega arith), entry_read_back, g.0, entries_read_back rule parts 63 0 e.sample es left m (omega arith) g.1)
entries_read_back rule parts (suc room) size before (e ∷ es) left m i g =
    let step : ℕ = e.sample - before in
    let now : ℕ = size + length (varint_bytes step) in
    let h : suc before ≤ e.sample = g.0.rises in
    let l : e.sample < rule.samples = g.0.inside in
    let back : before + step ≡ e.sample = omega arith in
    let rest : List ℕ = steps room e.sample es ++ left in
    let ih : read_entries rule parts room now e.sample (heads room es) (sizes_after room now e.sample es) (values es) rest ≡ ok es left
    = entries_read_back rule parts room now e.sample es left m (omega (arith, (varint_length step).0)) g.1 in
    simp (append_assoc, varint_read_back parts.end step rest (omega arith), consumed (varint_bytes step) rest, back, entry_read_back, g.0, ih)

-- the parts of a whole list give its entries back
pub first_read_back : (rule : Rule) (parts : Parts) (es : List Entry) (left : List ℕ) → rule.samples < 2 ^ 32 → Rising rule 0 es
    → read_first rule parts (heads 0 es) (size_bytes es) (values es) (steps 0 0 es ++ left) ≡ ok es left
unfolding read_first heads size_bytes values steps
first_read_back rule parts [] left m g = refl
first_read_back rule parts (e ∷ es) left m g =
    simp (entry_read_back, g.0, entries_read_back rule parts 63 0 e.sample es left m (lit≤ tt) g.1)

-- ---- as written

-- to show Q of an entry and what follows, show it where the rule lets the entry in
pub by_entry : (Q : List Entry → List ℕ → Type 0) (rule : Rule) (parts : Parts) (least q sample value : ℕ) (left : List ℕ) (next : Out (List Entry)) → value < 4
    → (Good rule least (record { sample = sample; value = value })
    → Holds (λ (es : List Entry) (rest : List ℕ). Q (record { sample = sample; value = value } ∷ es) rest) next)
    → Holds Q (read_entry rule parts least q sample value left next)
unfolding read_entry
by_entry Q rule parts least q sample value left next f g =
    by_need Q (leb least sample) _ _ _ (λ t.
    by_need Q (ltb sample rule.samples) _ _ _ (λ t'.
    by_need Q (rule.may sample value) _ _ _ (λ t''.
    by_map (λ (es : List Entry) (rest : List ℕ). Q (record { sample = sample; value = value } ∷ es) rest) Q next _
    (g (record { rises = leb-true least sample t; inside = ltb-true sample rule.samples t'; two_bits = f; allowed = t'' })) (λ es rest h. h))))

-- what was read from the middle of a group are the parts of the entries
pub record AreEntries (rule : Rule) (room size before : ℕ) (hs zs vs bs : List ℕ) (es : List Entry) (left : List ℕ) : Type 0 where
  pub the_heads : hs ≡ heads room es
  pub the_sizes : zs ≡ sizes_after room size before es
  pub the_values : vs ≡ values es
  pub the_steps : bs ≡ steps room before es ++ left
  pub rising : Rising rule (suc before) es

-- whatever entries were read, their parts are what they were read from
pub entries_as_written : (rule : Rule) (parts : Parts) (room size before : ℕ) (hs zs vs bs : List ℕ) → Below 4 vs → Bytes bs
    → Holds (AreEntries rule room size before hs zs vs bs) (read_entries rule parts room size before hs zs vs bs)
unfolding heads sizes_after values steps read_entries
entries_as_written rule parts room size before [] [] [] bs f y =
    record { the_heads = refl; the_sizes = refl; the_values = refl; the_steps = refl; rising = tt }
entries_as_written rule parts room size before [] (z ∷ zs) [] bs f y = tt
entries_as_written rule parts room size before (h ∷ hs) zs [] bs f y = tt
entries_as_written rule parts zero size before [] zs (v ∷ vs) bs f y = tt
entries_as_written rule parts zero size before (h ∷ hs) [] (v ∷ vs) bs f y = tt
entries_as_written rule parts zero size before (h ∷ hs) (z ∷ zs) (v ∷ vs) bs f y =
    by_need (AreEntries rule zero size before (h ∷ hs) (z ∷ zs) (v ∷ vs) bs) (eqb size (z + 63)) _ _ _ (λ t.
    by_entry (AreEntries rule zero size before (h ∷ hs) (z ∷ zs) (v ∷ vs) bs) rule parts (suc before) _ h v vs
    (read_entries rule parts 63 0 h hs zs vs bs) f.0 (λ g.
    weaken (AreEntries rule 63 0 h hs zs vs bs) _ (read_entries rule parts 63 0 h hs zs vs bs)
    (λ es left w.
    let e : z ≡ size - 63 = omega (arith, eqb-true size (z + 63) t) in
    record {
      the_heads = ap (◌∷◌ h) w.the_heads;
      the_sizes = cc w.the_sizes;
      the_values = ap (◌∷◌ v) w.the_values;
      the_steps = w.the_steps;
      rising = (g, w.rising);
    })
    (entries_as_written rule parts 63 0 h hs zs vs bs f.1 y)))
entries_as_written rule parts (suc room) size before hs zs (v ∷ vs) bs f y =
    by_bind (IsVarint bs) (AreEntries rule (suc room) size before hs zs (v ∷ vs) bs) (read_varint parts.end bs) _
    (varint_as_written parts.end bs y) (λ step left i.
    let now : ℕ = size + (length bs - length left) in
    let same : now ≡ size + length (varint_bytes step)
    = ap (λ (x : List ℕ). size + (length x - length left)) i.0 ∙ ap (◌+◌ size) (consumed (varint_bytes step) left) in
    by_entry (AreEntries rule (suc room) size before hs zs (v ∷ vs) bs) rule parts (suc before) _ (before + step) v vs
    (read_entries rule parts room now (before + step) hs zs vs left) f.0 (λ g.
    weaken (AreEntries rule room now (before + step) hs zs vs left) _ (read_entries rule parts room now (before + step) hs zs vs left)
    (λ es rest w.
    let e : before + step - before ≡ step = omega arith in
    record {
      the_heads = w.the_heads;
      the_sizes = rw (e, ← same) w.the_sizes;
      the_values = ap (◌∷◌ v) w.the_values;
      the_steps = simp (e, append_assoc, i.0, w.the_steps);
      rising = (g, w.rising);
    })
    (entries_as_written rule parts room now (before + step) hs zs vs left f.1 (below_after 256 (varint_bytes step) left (rw i.0 at y)))))

-- the same of a whole list's parts
pub record AreAllEntries (rule : Rule) (hs zs vs bs : List ℕ) (es : List Entry) (left : List ℕ) : Type 0 where
  pub the_heads : hs ≡ heads 0 es
  pub the_sizes : zs ≡ size_bytes es
  pub the_values : vs ≡ values es
  pub the_steps : bs ≡ steps 0 0 es ++ left
  pub rising : Rising rule 0 es

-- whatever list was read, its parts are what it was read from
pub first_as_written : (rule : Rule) (parts : Parts) (hs zs vs bs : List ℕ) → Below 4 vs → Bytes bs
    → Holds (AreAllEntries rule hs zs vs bs) (read_first rule parts hs zs vs bs)
unfolding read_first heads size_bytes values steps
first_as_written rule parts [] [] [] bs f y = record { the_heads = refl; the_sizes = refl; the_values = refl; the_steps = refl; rising = tt }
first_as_written rule parts [] [] (v ∷ vs) bs f y = tt
first_as_written rule parts [] (z ∷ zs) vs bs f y = tt
first_as_written rule parts (h ∷ hs) zs [] bs f y = tt
first_as_written rule parts (h ∷ hs) zs (v ∷ vs) bs f y =
    by_entry (AreAllEntries rule (h ∷ hs) zs (v ∷ vs) bs) rule parts 0 _ h v vs (read_entries rule parts 63 0 h hs zs vs bs) f.0 (λ g.
    weaken (AreEntries rule 63 0 h hs zs vs bs) _ (read_entries rule parts 63 0 h hs zs vs bs)
    (λ es left w. record {
      the_heads = ap (◌∷◌ h) w.the_heads;
      the_sizes = w.the_sizes;
      the_values = ap (◌∷◌ v) w.the_values;
      the_steps = w.the_steps;
      rising = (g, w.rising);
    })
    (entries_as_written rule parts 63 0 h hs zs vs bs f.1 y))
