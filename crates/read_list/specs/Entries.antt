-- The entries of a list by position: what each function of the code answers. (That this is the format's own reading is proofs/EntriesAgree.)
-- Assumes nothing.
use Rattle.std.specs.Prelude.{ℕ, zero, suc, ◌+◌, ◌-◌, ◌/◌, ◌≤◌, Bool, not, ◌||◌, List, get_or, length, drop, set, ltb, leb, eqb, Result, Ok, Err}
use Rattle.format.specs.declared.Refusal.{Refusal}
use Rattle.format.specs.Base.{pick, refusal}
use Rattle.format.specs.Difflist.{number_width}
use Rattle.format.specs.Packed.{two}
use Rattle.head_index.specs.NumbersAt.{number_at}
use Rattle.base_cursor.specs.Steps.{cursor_at, varint_at}
use Rattle.base_cursor.specs.declared.Cursor.{Cursor}
use Rattle.read_packed.specs.Arrays.{number_in}
use Rattle.read_list.specs.declared.ListRule.{ListRule}
use Rattle.read_list.specs.declared.ListRule.TheVariants.{OffPair, OffRow}
use Rattle.read_list.specs.declared.State.{State}

-- entry k of the packed values that start at v
abbrev pub value_at : List ℕ → ℕ → ℕ → ℕ
value_at l v k = number_in two l v k

-- may a sample that has `old` be listed with `value`?
abbrev pub allows : ListRule → ℕ → ℕ → Bool
allows (OffPair lower higher) old value = not (eqb value lower || eqb value higher)
allows OffRow old value = not (eqb value old)

-- the row has what a list over n samples is against: a list off a pair asks none
abbrev pub Against : ListRule → ℕ → List ℕ → Type 0
Against (OffPair lower higher) n row = Unit {0}
Against OffRow n row = n ≤ length row

-- the place after a head `last`, and after a step
abbrev pub headed : ℕ → ℕ → Cursor → State → State
headed last width size st =
    record { room = 63; from = st.at; last = last; head = cursor_at (st.head.at + width); size = size; passed = st.passed; at = st.at }

abbrev pub moved : ℕ → Cursor → State → State
moved step next st =
    record { room = st.room - 1; from = st.from; last = st.last + step; head = st.head; size = st.size; passed = st.passed; at = next }

-- 01, Difference lists: "Sample numbers rise strictly through the whole list and are below N." On to st, whose sample, read at q, is to be `least` or more.
-- 02, Ask 2: "23 is a number not rising, 24 a number not below N, 25 a size byte"
abbrev pub reach : ℕ → ℕ → ℕ → State → Result State Refusal
reach n least q st =
    pick (leb least st.last) (pick (ltb st.last n) (Ok st) (Err (refusal 24 q))) (Err (refusal 23 q))

-- the head of a group; the size byte of the group before has been passed, and the next stands at `size`
unfoldable pub take_head : List ℕ → ℕ → ℕ → Cursor → State → Result State Refusal
take_head l n least size st = reach n least st.head.at (headed (number_at (number_width n) (drop st.head.at l)) (number_width n) size st)

-- a step, from what its varint reads as
unfoldable pub take_step : Result (ℕ × Cursor) Refusal → ℕ → State → Result State Refusal
take_step (Err why) n st = Err why
take_step (Ok (d, c)) n st = reach n (suc st.last) st.at.at (moved d c st)

-- 01, Difference lists: a group's varints take 63 bytes more than its size byte says
abbrev pub group_bytes : List ℕ → State → ℕ
group_bytes l st = number_at 1 (drop st.size.at l) + 63

-- the head of the next group, after the size byte of the group before it if there is one
unfoldable pub next_head : List ℕ → ℕ → State → Result State Refusal
next_head l n st =
    pick (eqb st.passed 0) (take_head l n 0 st.size st)
    (pick (eqb st.at.at (st.from.at + group_bytes l st))
    (take_head l n (suc st.last) (cursor_at (st.size.at + 1)) st)
    (Err (refusal 25 st.size.at)))

-- the next sample: a head, or a step
unfoldable pub next_sample : List ℕ → ℕ → State → Result State Refusal
next_sample l n st = pick (eqb st.room 0) (next_head l n st) (take_step (varint_at l st.at.at) n st)

-- the same place with one entry more passed
abbrev pub bump : State → State
bump st = record { room = st.room; from = st.from; last = st.last; head = st.head; size = st.size; passed = st.passed + 1; at = st.at }

-- ---- an entry and `more` of them, put into the row

-- a step of the walk, with what the row then holds
pub data Turn : Type 0 where
  turn : Result State Refusal → List ℕ → Turn

unfoldable pub put_value : List ℕ → ℕ → ListRule → Result State Refusal → List ℕ → Turn
put_value l vals held (Err why) row = turn (Err why) row
put_value l vals held (Ok st) row =
    pick (allows held (get_or row st.last 0) (value_at l vals st.passed))
    (turn (Ok (bump st)) (set row st.last (value_at l vals st.passed)))
    (turn (Err (refusal 17 (vals + st.passed / 4))) row)

abbrev pub put_entry : List ℕ → ℕ → ℕ → ListRule → State → List ℕ → Turn
put_entry l n vals held st row = put_value l vals held (next_sample l n st) row

-- a reply, with what the row then holds
pub data ListLeft : Type 0 where
  list_left : Result Cursor Refusal → List ℕ → ListLeft

-- it is no refusal
abbrev pub Lists : ListLeft → Type 0
Lists (list_left (Ok c) row) = Unit {0}
Lists (list_left (Err why) row) = ⊥

abbrev pub go_on : Turn → (State → List ℕ → ListLeft) → ListLeft
go_on (turn (Err why) row) f = list_left (Err why) row
go_on (turn (Ok st) row) f = f st row

unfoldable pub put_entries : ℕ → List ℕ → ℕ → ℕ → ListRule → State → List ℕ → ListLeft
put_entries zero l n vals held st row = list_left (Ok st.at) row
put_entries (suc more) l n vals held st row = go_on (put_entry l n vals held st row) (λ st row. put_entries more l n vals held st row)

-- ---- the same only checked, over a row that stays

unfoldable pub check_value : List ℕ → ℕ → ListRule → Result State Refusal → List ℕ → Result State Refusal
check_value l vals held (Err why) row = Err why
check_value l vals held (Ok st) row =
    pick (allows held (get_or row st.last 0) (value_at l vals st.passed))
    (Ok (bump st))
    (Err (refusal 17 (vals + st.passed / 4)))

abbrev pub check_entry : List ℕ → ℕ → ℕ → ListRule → State → List ℕ → Result State Refusal
check_entry l n vals held st row = check_value l vals held (next_sample l n st) row

abbrev pub on_to : Result State Refusal → (State → Result Cursor Refusal) → Result Cursor Refusal
on_to (Err why) f = Err why
on_to (Ok st) f = f st

unfoldable pub check_entries : ℕ → List ℕ → ℕ → ℕ → ListRule → State → List ℕ → Result Cursor Refusal
check_entries zero l n vals held st row = Ok st.at
check_entries (suc more) l n vals held st row = on_to (check_entry l n vals held st row) (λ st. check_entries more l n vals held st row)
