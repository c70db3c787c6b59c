-- The entries by position are the format's entries.
-- Assumes nothing.
use Rattle.std.specs.Prelude.{Result, Ok, Err}
use mathlib.Core.Path.{◌≡◌, refl, sym, ap, ◌∙◌}
use Prim.Native.Nat.{ℕ, zero, suc, ◌+◌, ◌-◌, ◌*◌, ◌/◌, ◌≤◌, ◌<◌}
use native.Mathlib.Omega.{arith}
use native.Mathlib.Nat.{mul-suc}
use native.Mathlib.Decide.{ℕ_discrete}
use native.Mathlib.Numerals.{add-one}
use mathlib.Core.List.{List, [], ◌∷◌, ◌++◌}
use mathlib.Core.Bool.{Bool, true, false}
use lib.ListN.{get_or, length, set, drop, replicate, length-drop}
use lib.Seq.{drop-set-lt, get_or-set_other}
use borrow.Author.Tests.{le-leb, lt-leb, lt-ltb, le-ltb, eq-eqb, ne_eqb}
use Rattle.format.specs.declared.Refusal.{Refusal}
use Rattle.format.specs.Base.{pick, Out, ok, refused, refusal, refuse, bind, map_out, place_of}
use Rattle.format.specs.Varint.{read_varint}
use Rattle.format.specs.Packed.{two}
use Rattle.format.specs.Difflist.{Entry, Rule, Parts, number_width, read_entry, read_entries}
use Rattle.format.specs.Track.{rule, apply}
use Rattle.format.proofs.Rules.{split}
use Rattle.read_packed.specs.Arrays.{number_in}
use Rattle.head_index.specs.NumbersAt.{number_at, digits_at}
use Rattle.head_index.proofs.ByIndex.{digits_length}
use Rattle.base_cursor.specs.Steps.{cursor_at, before, varint_at}
use Rattle.base_cursor.proofs.ByteLaws.{here}
use Rattle.base_cursor.proofs.VarintLaws.{Read, was_read, was_refused}
use Rattle.base_cursor.specs.declared.Cursor.{Cursor}
use Rattle.read_list.specs.Entries.{turn, value_at, allows, reach, take_head, take_step, put_value, go_on, put_entries}
use Rattle.read_list.specs.Entries.{headed, moved, group_bytes, bump, ListLeft, list_left}
use Rattle.read_list.specs.Listed.{may_hold}
use Rattle.read_list.specs.declared.ListRule.{ListRule}
use Rattle.read_list.specs.declared.State.{State}
use Rattle.read_list.proofs.SampleLaws.{is_head, is_step, is_wrong, is_next}

-- ---- the parts of a list as lists, by position

-- g numbers of w bytes from p on: the heads, and with w = 1 the size bytes
unfoldable pub numbers_of : ℕ → ℕ → List ℕ → ℕ → List ℕ
numbers_of zero w l p = []
numbers_of (suc g) w l p = number_at w (drop p l) ∷ numbers_of g w l (p + w)

abbrev pub values_of : ℕ → List ℕ → ℕ → ℕ → List ℕ
values_of m l v k = digits_at two (drop v l) k m

numbers_many : (g w : ℕ) (l : List ℕ) (p : ℕ) → length (numbers_of g w l p) ≡ g
unfolding numbers_of
numbers_many zero w l p = refl
numbers_many (suc g) w l p = ap suc (numbers_many g w l (p + w))

-- ---- what a reading does to a row, and a walk whose row is then cleared

abbrev pub applied : ℕ → ℕ → List ℕ → Out (List Entry) → ListLeft
applied end n row (ok es left) = list_left (Ok (before end left)) (apply es row)
applied end n row (refused why) = list_left (Err why) (replicate n 0 ++ drop n row)

abbrev pub cleared : ℕ → ListLeft → ListLeft
cleared n (list_left (Ok c) row) = list_left (Ok c) row
cleared n (list_left (Err why) row) = list_left (Err why) (replicate n 0 ++ drop n row)

applied_cons : (end n : ℕ) (row : List ℕ) (s v : ℕ) (m : Out (List Entry)) → s < n
    → applied end n (set row s v) m ≡ applied end n row (map_out (◌∷◌ (record { sample = s; value = v })) m)
applied_cons end n row s v (ok es left) h = refl
applied_cons end n row s v (refused why) h =
    ap (λ (d : List ℕ). list_left (Err why) (replicate n 0 ++ d)) (drop-set-lt n row s v h)

module _ (l : List ℕ) (y : (i : ℕ) → get_or l i 0 < 256) (n : ℕ) (held : ListRule) (base : List ℕ) (vals he count : ℕ) where
  abbrev pub rule_of : Rule
  rule_of = rule n (may_hold held base)

  abbrev pub parts : Parts
  parts = record { end = length l; width = number_width n; heads_end = he; sizes_end = vals; count = count }

  -- a walk by position, its row cleared after a refusal, and what the format's reading does to the row
  abbrev Same : ListLeft → List ℕ → Out (List Entry) → Type 0
  Same o work m = cleared n o ≡ applied (length l) n work m

  -- the value of t's entry, the row with it, and the entry as the format reads it: m values follow
  abbrev value : State → ℕ
  value t = value_at l vals t.passed

  abbrev with_value : State → List ℕ → List ℕ
  with_value t work = set work t.last (value t)

  abbrev after_values : ℕ → State → List ℕ
  after_values m t = values_of m l vals (t.passed + 1)

  abbrev reads_entry : ℕ → ℕ → State → ℕ → Out (List Entry) → Out (List Entry)
  reads_entry lo q t m next = read_entry rule_of parts lo q t.last (value t) (after_values m t) next

  -- one entry, whose sample is t's, and what follows
  entry_agrees : (lo q : ℕ) (t : State) (work : List ℕ) (m : ℕ) (next : Out (List Entry)) (go : State → List ℕ → ListLeft) → t.passed + suc m ≡ count
      → (lo ≤ t.last → t.last < n → get_or work t.last 0 ≡ get_or base t.last 1)
      → (lo ≤ t.last → t.last < n → Same (go (bump t) (with_value t work)) (with_value t work) next)
      → Same (go_on (put_value l vals held (reach n lo q t) work) go) work (reads_entry lo q t m next)
  unfolding put_value read_entry
  entry_agrees lo q t work m next go e same ih =
      split lo t.last
      (λ h. split (suc t.last) n
      (λ g. simp (le-leb lo t.last h, lt-ltb t.last n g, same h g) (last (allows held (get_or base t.last 1) (value t)) h g))
      (λ g. simp (le-leb lo t.last h, le-ltb t.last n (omega arith))))
      (λ h. simp (lt-leb lo t.last h))
    where
      at17 : count - suc (length (after_values m t)) ≡ t.passed
      at17 = omega (arith, digits_length two (drop vals l) (t.passed + 1) m)

      last : (b : Bool) → lo ≤ t.last → t.last < n
          → Same (go_on (pick b (turn (Ok (bump t)) (with_value t work)) (turn (Err (refusal 17 (vals + t.passed / 4))) work)) go) work
          (pick b (map_out (◌∷◌ (record { sample = t.last; value = value t })) next) (refuse 17 (vals + (count - suc (length (after_values m t))) / 4)))
      last true h g = ih h g ∙ applied_cons (length l) n work t.last (value t) next g
      last false h g = rw at17

  -- what joins a place of the code to the format's walk: c entries to come in the group, g heads and sizes, m values, acc bytes of this group
  pub record Walks (c g m acc : ℕ) (st : State) (work : List ℕ) : Type 0 where
    pub left_is : st.room ≡ c
    pub group : c ≤ 63
    pub heads_left : g ≡ (m + (63 - c)) / 64
    pub begun : 1 ≤ st.passed
    pub inside : st.at.at ≤ length l
    pub so_far : st.from.at + acc ≡ st.at.at
    pub heads_end : st.head.at + number_width n * g ≡ he
    pub sizes_end : st.size.at + g ≡ vals
    pub counts : st.passed + m ≡ count
    pub later : (j : ℕ) → st.last < j → j < n → get_or work j 0 ≡ get_or base j 1

  abbrev rest : ℕ → State → List ℕ → ListLeft
  rest m st work = put_entries m l n vals held st work

  -- the format's walk from such a place, over the steps `bs`, and over those that stand there
  abbrev reads : ℕ → ℕ → ℕ → ℕ → State → List ℕ → Out (List Entry)
  reads c g m acc st bs =
      read_entries rule_of parts c acc st.last (numbers_of g (number_width n) l st.head.at) (numbers_of g 1 l st.size.at)
      (values_of m l vals st.passed) bs

  abbrev their : ℕ → ℕ → ℕ → ℕ → State → Out (List Entry)
  their c g m acc st = reads c g m acc st (drop st.at.at l)

  later_set : (work : List ℕ) (p s v : ℕ) → suc p ≤ s → ((j : ℕ) → p < j → j < n → get_or work j 0 ≡ get_or base j 1)
      → (j : ℕ) → s < j → j < n → get_or (set work s v) j 0 ≡ get_or base j 1
  later_set work p s v h f j g i = get_or-set_other work s j v 0 (λ e. omega arith) ∙ f j (omega arith) i

  -- a head, and what follows
  abbrev pub head_of : Cursor → State → State
  head_of size st = headed (number_at (number_width n) (drop st.head.at l)) (number_width n) size st

  pub head_agrees : (lo : ℕ) (size : Cursor) (m g : ℕ) (st : State) (work : List ℕ) → st.passed + suc m ≡ count → st.head.at + number_width n * suc g ≡ he
      → let t = head_of size st in (lo ≤ t.last → t.last < n → get_or work t.last 0 ≡ get_or base t.last 1)
      → (lo ≤ t.last → t.last < n → Same (rest m (bump t) (with_value t work)) (with_value t work) (their 63 g m 0 (bump t)))
      → Same (go_on (put_value l vals held (take_head l n lo size st) work) (rest m)) work
      (reads_entry lo (he - number_width n * suc (length (numbers_of g (number_width n) l t.head.at))) t m (their 63 g m 0 (bump t)))
  unfolding take_head
  head_agrees lo size m g st work e h same ih =
      let t : State = head_of size st in
      let q : he - number_width n * suc (length (numbers_of g (number_width n) l t.head.at)) ≡ st.head.at
      = rw (numbers_many g (number_width n) l t.head.at) (omega arith) in
      rw q (entry_agrees lo st.head.at t work m (their 63 g m 0 (bump t)) (rest m) e same ih)

  -- the bytes from one place to another, as the reader counts them
  abbrev bytes_to : ℕ → ℕ → ℕ
  bytes_to from to = length (drop from l) - length (drop to l)

  -- a step, and what follows
  step_agrees : (c m g acc : ℕ) (st : State) (work : List ℕ) (r : Result (ℕ × Cursor) Refusal) → varint_at l st.at.at ≡ r → st.at.at ≤ length l
      → st.passed + suc m ≡ count
      → ((j : ℕ) → st.last < j → j < n → get_or work j 0 ≡ get_or base j 1)
      → ((d : ℕ) (x : Cursor) → Read l st.at.at d x → let t = moved d x st in suc st.last ≤ t.last → t.last < n
      → Same (rest m (bump t) (with_value t work)) (with_value t work) (their c g m (acc + bytes_to st.at.at x.at) (bump t)))
      → Same (go_on (put_value l vals held (take_step r n st) work) (rest m)) work
      (bind (read_varint (length l) (drop st.at.at l)) (λ d left.
      let t = moved d st.at st in
      reads_entry (suc st.last) (place_of (length l) (drop st.at.at l)) t m
      (reads c g m (acc + (length (drop st.at.at l) - length left)) (bump t) left)))
  unfolding take_step put_value
  step_agrees c m g acc st work (Err why) e i k later ih = rw (was_refused l st.at.at why (sym e))
  step_agrees c m g acc st work (Ok (d, x)) e i k later ih =
      let q : Read l st.at.at d x = was_read l st.at.at d x y i (sym e) in
      let t : State = moved d x st in
      rw (q.reads, here l st.at.at i)
      (entry_agrees (suc st.last) st.at.at t work m (their c g m (acc + bytes_to st.at.at x.at) (bump t)) (rest m) k
      (λ h f. later (st.last + d) h f) (λ h f. ih d x q h f))

  size_refused : (why : Refusal) (work : List ℕ) (m : ℕ) → Same (go_on (put_value l vals held (Err why) work) (rest m)) work (refused why)
  unfolding put_value
  size_refused why work m = refl

  pub walk_agrees : (m c g acc : ℕ) (st : State) (work : List ℕ) → Walks c g m acc st work → Same (rest m st work) work (their c g m acc st)
  unfolding put_entries read_entries numbers_of digits_at number_in
  walk_agrees zero c zero acc st work w = let e : length l - length (drop st.at.at l) ≡ st.at.at = here l st.at.at w.inside in rw e
  walk_agrees zero c (suc g) acc st work w = absurd (omega (arith, w.heads_left, w.group))
  walk_agrees (suc m) zero zero acc st work w = absurd (omega (arith, w.heads_left))
  walk_agrees (suc m) zero (suc g) acc st work w =
      let some : st.passed ≡ 0 → ⊥ = λ o. omega (arith, w.begun) in
      let t : State = head_of (cursor_at (st.size.at + 1)) st in
      elim (ℕ_discrete acc (group_bytes l st)) [
        | yes e ↦
            rw (is_head l n st w.left_is, ← is_next l n st some _ refl (omega (arith, w.so_far)) _ _ _ refl refl refl, add-one st.last)
            (simp (eq-eqb acc (group_bytes l st) e)
            (head_agrees (suc st.last) (cursor_at (st.size.at + 1)) m g st work w.counts w.heads_end (λ h f. w.later _ h f)
            (λ h f. walk_agrees m 63 g 0 (bump t) (with_value t work)
            (record {
              left_is = refl;
              group = omega arith;
              heads_left = omega (arith, w.heads_left);
              begun = omega arith;
              inside = w.inside;
              so_far = omega arith;
              heads_end = omega (arith, w.heads_end, mul-suc (number_width n) g);
              sizes_end = omega (arith, w.sizes_end);
              counts = omega (arith, w.counts);
              later = later_set work st.last t.last (value st) h w.later;
            }))))
        | no e ↦
            let q : vals - suc (length (numbers_of g 1 l (st.size.at + 1))) ≡ st.size.at
            = rw (numbers_many g 1 l (st.size.at + 1)) (omega (arith, w.sizes_end)) in
            rw (is_head l n st w.left_is, ← is_wrong l n st some _ refl (λ o. e (omega (arith, w.so_far))) _ refl)
            (simp (ne_eqb acc (group_bytes l st) e, q) (size_refused (refusal 25 st.size.at) work m))
      ]
  walk_agrees (suc m) (suc c) g acc st work w =
      rw (is_step l n st (λ o. omega (arith, w.left_is)))
      (step_agrees c m g acc st work (varint_at l st.at.at) refl w.inside w.counts w.later
      (λ d x q h f. walk_agrees m c g (acc + bytes_to st.at.at x.at) (bump (moved d x st)) (with_value (moved d x st) work)
      (record {
        left_is = omega (arith, w.left_is);
        group = omega (arith, w.group);
        heads_left = omega (arith, w.heads_left, w.group);
        begun = omega arith;
        inside = q.inside;
        so_far = omega (arith, w.so_far, q.on, q.inside, length-drop st.at.at l, length-drop x.at l);
        heads_end = w.heads_end;
        sizes_end = w.sizes_end;
        counts = omega (arith, w.counts);
        later = later_set work st.last (st.last + d) (value st) h w.later;
      })))
