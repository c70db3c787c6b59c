-- For each public call the reply and the later content of every buffer it was lent, for all inputs. K is the number of variants to a block.
-- Assumes nothing.
use Rattle.std.specs.Prelude.{ℕ, ◌+◌, ◌/◌, ◌%◌, ◌^◌, Bool, true, false, ◌&&◌, List, [], ◌++◌, length, drop, get_or, replicate, eqb, ltb, leb, Result, Ok, Err, ⊤}
use Rattle.format.specs.declared.FileVariant.{FileVariant}
use Rattle.format.specs.declared.Fields.{Fields}
use Rattle.format.specs.declared.Refusal.{Refusal}
use Rattle.format.specs.Base.{pick, Out, ok, refused, refusal, named, bind, map_out, need_of}
use Rattle.format.specs.Classes.{header_numbers, call_numbers, among}
use Rattle.format.specs.Variant.{file_variant, no_variant}
use Rattle.format.specs.Layout.{fields_of, Layout, fixed_of, record_start}
use Rattle.format.specs.Header.{read_layout}
use Rattle.format.specs.Body.{Body, body_categories, body_phases}
use Rattle.format.specs.File.{read_all, variant_as, read_variant, flip_bytes}
use Rattle.format.specs.Writer.{write_record, write_phased}

-- ---- the parts of a reply

abbrev pub is_accepted : {A : Type 0} → Out A → Bool
is_accepted (ok a left) = true
is_accepted (refused why) = false

-- 01, Replies: "An accepted call has refusal 0 and place 0." 02, Ask 2: the variant is "0 in 1 to 4, from a writer and when accepted".
abbrev pub refusal_of : {A : Type 0} → Out A → Refusal
refusal_of (ok a left) = refusal 0 0
refusal_of (refused why) = why

-- what every reply has. `accepted` tells acceptance from a refusal with number 0, which no call gives.
pub record Verdict : Type 0 where
  pub accepted : Bool
  pub refusal : Refusal

abbrev pub verdict : {A : Type 0} → Out A → Verdict
verdict out = record { accepted = is_accepted out; refusal = refusal_of out }

-- what was accepted, else what stands for it on a refusal
abbrev pub given : {A B : Type 0} → (A → B) → B → Out A → B
given f other (ok a left) = f a
given f other (refused why) = other

abbrev pub given_or : {A : Type 0} → A → Out A → A
given_or other out = given (λ a. a) other out

-- a reply's refusal, with the variant that it names
abbrev pub named_reply : FileVariant → Result ⊤ Refusal → Result ⊤ Refusal
named_reply v (Ok tt) = Ok tt
named_reply v (Err why) = Err (named v why)

-- 01, Forms for each place: "Where an answer is an enum, a definition gives this paper's number and values for each of its cases". The `-left` of each
-- call has the numbers and values of its answer, and the lent buffers as the call leaves them.
abbrev pub answer : {A : Type 0} → Result A Refusal → Out A
answer (Ok value) = ok value []
answer (Err why) = refused why

-- 01: "After 1 to 11 and 21 the work area is unchanged; after every other reply its first N bytes are zero and the rest unchanged."
abbrev pub keeps_work : ℕ → Bool
keeps_work number = among (header_numbers ++ call_numbers) number

abbrev pub emptied : ℕ → List ℕ → List ℕ
emptied N row = replicate N 0 ++ drop N row

abbrev pub work_after : ℕ → Refusal → List ℕ → List ℕ
work_after N why work = pick (keeps_work why.number) work (emptied N work)

-- N of a file whose header is accepted
abbrev pub samples_of : ℕ → List ℕ → ℕ
samples_of K file = given (λ (l : Layout). l.samples) 0 (read_layout K file)

-- 01: "Outputs and the work area need at least N bytes, a flip set exactly ceil(M/8)"
abbrev pub holds_row : List ℕ → Layout → Bool
holds_row buffer l = leb l.samples (length buffer)

abbrev pub holds_set : List ℕ → Layout → Bool
holds_set set l = eqb (length set) ((length l.bodies + 7) / 8)

-- the header check; 10, "a lent buffer of wrong size"; then what comes next. 02, Ask 2: "M where no variant is concerned"
abbrev pub with_layout : {A : Type 0} → ℕ → List ℕ → (Layout → Bool) → (Layout → Out A) → Out A
with_layout K file sized next = bind (read_layout K file) (λ l left. need_of (no_variant (length l.bodies)) (sized l) 10 0 (next l))

-- ---- header check and whole-file check

-- 01: "the header check and the whole-file check give mode, M, N and the form byte (0 for each on a refusal)"
pub record Summary : Type 0 where
  pub verdict : Verdict
  pub fields : Fields

abbrev pub no_fields : Fields
no_fields = record { mode = 0; variants = 0; samples = 0; form = 0 }

abbrev pub summary : Out Layout → Summary
summary out = record { verdict = verdict out; fields = given (λ (l : Layout). fields_of (fixed_of l)) no_fields out }

abbrev pub header_left : Result Fields Refusal → Summary
header_left reply = record { verdict = verdict (answer reply); fields = given_or no_fields (answer reply) }

unfoldable pub header_call : ℕ → List ℕ → Summary
header_call K file = summary (read_layout K file)

pub record Checked : Type 0 where
  pub reply : Summary
  pub work : List ℕ

abbrev pub check_left : Result Fields Refusal → List ℕ → Checked
check_left reply work = record { reply = header_left reply; work = work }

-- every record of a layout is checked
abbrev pub checked : ℕ → Layout → Out Layout
checked K l = map_out (λ (bodies : List Body). l) (read_all K l)

abbrev pub check_out : ℕ → List ℕ → List ℕ → Out Layout
check_out K file work = with_layout K file (holds_row work) (checked K)

unfoldable pub check_call : ℕ → List ℕ → List ℕ → Checked
check_call K file work = record {
  reply = summary (check_out K file work);
  work = work_after (samples_of K file) (refusal_of (check_out K file work)) work;
}

-- ---- read and lookup

-- 01: 11, "variant not below M, or sample not below N"
abbrev pub need_variant : {A : Type 0} → FileVariant → Layout → Out A → Out A
need_variant v l next = need_of (no_variant (length l.bodies)) (ltb v.0 (length l.bodies)) 11 0 next

pub record Read : Type 0 where
  pub verdict : Verdict
  pub output : List ℕ
  pub work : List ℕ

abbrev pub read_left : Result ⊤ Refusal → List ℕ → List ℕ → Read
read_left reply output work = record { verdict = verdict (answer reply); output = output; work = work }

-- `what` of variant v's body
abbrev pub out_as : {A : Type 0} → (ℕ → List ℕ → Body → A) → ℕ → List ℕ → FileVariant → List ℕ → List ℕ → Out A
out_as what K file v output work =
    with_layout K file (λ (l : Layout). holds_row output l && holds_row work l) (λ (l : Layout). need_variant v l (variant_as what K l v))

abbrev pub read_as : (ℕ → List ℕ → Body → List ℕ) → ℕ → List ℕ → FileVariant → List ℕ → List ℕ → Read
read_as what K file v output work = record {
  verdict = verdict (out_as what K file v output work);
  output = given (λ (row : List ℕ). row ++ drop (samples_of K file) output) output (out_as what K file v output work);
  work = work_after (samples_of K file) (refusal_of (out_as what K file v output work)) work;
}

abbrev pub read_out : ℕ → List ℕ → FileVariant → List ℕ → List ℕ → Out (List ℕ)
read_out K file v output work = out_as body_categories K file v output work

-- 01: "A read changes the output's first N bytes and no others."
unfoldable pub read_call : ℕ → List ℕ → FileVariant → List ℕ → List ℕ → Read
read_call K file v output work = read_as body_categories K file v output work

-- 02, Ask 1: "A new reading fills N bytes: 0 unphased, 1 unswapped, 2 swapped."
unfoldable pub phases_call : ℕ → List ℕ → FileVariant → List ℕ → List ℕ → Read
phases_call K file v output work = read_as body_phases K file v output work

pub record Lookup : Type 0 where
  pub verdict : Verdict
  pub category : ℕ
  pub work : List ℕ

abbrev pub lookup_left : Result ℕ Refusal → List ℕ → Lookup
lookup_left reply work = record { verdict = verdict (answer reply); category = given_or 0 (answer reply); work = work }

-- 02, Ask 2: the variant is named "by 11 for a sample of a variant below M"
abbrev pub need_sample : {A : Type 0} → FileVariant → ℕ → Layout → Out A → Out A
need_sample v sample l next = need_of v (ltb sample l.samples) 11 0 next

abbrev pub lookup_out : ℕ → List ℕ → FileVariant → ℕ → List ℕ → Out (List ℕ)
lookup_out K file v sample work =
    with_layout K file (holds_row work) (λ (l : Layout). need_variant v l (need_sample v sample l (read_variant K l v)))

-- 01: "a lookup gives the category (0 on a refusal)"
unfoldable pub lookup_call : ℕ → List ℕ → FileVariant → ℕ → List ℕ → Lookup
lookup_call K file v sample work = record {
  verdict = verdict (lookup_out K file v sample work);
  category = given (λ (row : List ℕ). get_or row sample 0) 0 (lookup_out K file v sample work);
  work = work_after (samples_of K file) (refusal_of (lookup_out K file v sample work)) work;
}

-- ---- view

-- the part of the file that is handed back: its bytes, and where in the file it starts
pub record View : Type 0 where
  pub refusal : Refusal
  pub part : List ℕ
  pub start : ℕ

-- 01: "A view checks 1 to 9 and 11 only."
abbrev pub view_out : ℕ → List ℕ → FileVariant → Out Layout
view_out K file v = bind (read_layout K file) (λ l left. need_variant v l (ok l []))

-- 01: "A refused view is the empty part." It starts where the file does.
unfoldable pub view_call : ℕ → List ℕ → FileVariant → View
view_call K file v = record {
  refusal = refusal_of (view_out K file v);
  part = given (λ (l : Layout). get_or l.bodies v.0 []) [] (view_out K file v);
  start = given (λ (l : Layout). record_start K l v) 0 (view_out K file v);
}

-- what a view leaves: the refusal's number, place and variant in three lent numbers, the part's bytes, and where they lie in memory: a block of it, and how
-- many bytes into it
pub record Viewed : Type 0 where
  pub refusal : Refusal
  pub part : List ℕ
  pub lies : ℕ × ℕ

abbrev pub view_left : ℕ → ℕ → ℕ → List ℕ → ℕ × ℕ → Viewed
view_left number place variant part lies = record { refusal = named (file_variant variant) (refusal number place); part = part; lies = lies }

-- 01: "as a part of the caller's file", which itself lies at `lies`
abbrev pub part_of_file : ℕ × ℕ → View → Viewed
part_of_file lies view = record { refusal = view.refusal; part = view.part; lies = (lies.0, view.start + lies.1) }

-- ---- write

pub record Written : Type 0 where
  pub verdict : Verdict
  pub count : ℕ
  pub output : List ℕ

abbrev pub write_left : Result ℕ Refusal → List ℕ → Written
write_left reply output = record { verdict = verdict (answer reply); count = given_or 0 (answer reply); output = output }

-- 01: "It replies with the byte count; bytes past it are untouched. A refusal has count 0."
abbrev pub written : Out (List ℕ) → List ℕ → Written
written out output = record {
  verdict = verdict out;
  count = given length 0 out;
  output = given (λ (bs : List ℕ). bs ++ drop (length bs) output) output out;
}

unfoldable pub write_call : List ℕ → ℕ → ℕ → List ℕ → List ℕ → Written
write_call categories number code anchor output = written (write_record categories number code anchor (length output)) output

unfoldable pub write_phased_call : List ℕ → List ℕ → ℕ → ℕ → List ℕ → List ℕ → Written
write_phased_call categories phases number code anchor output = written (write_phased categories phases number code anchor (length output)) output

-- ---- flip

-- 01, Flipping: "The set has bit v for variant v."
abbrev pub member : List ℕ → FileVariant → Bool
member set v = eqb (get_or set (v.0 / 8) 0 / 2 ^ (v.0 % 8) % 2) 1

-- 01: 21, "flip set has bits past the last variant": what the set holds from bit M on, 0 where M bits fill its last byte
abbrev pub past_last : ℕ → List ℕ → ℕ
past_last M set = get_or set (M / 8) 0 / 2 ^ (M % 8)

pub record Flipped : Type 0 where
  pub verdict : Verdict
  pub file : List ℕ
  pub work : List ℕ

abbrev pub flip_left : Result ⊤ Refusal → List ℕ → List ℕ → Flipped
flip_left reply file work = record { verdict = verdict (answer reply); file = file; work = work }

-- 01: "For flips 21 comes next." Then the records, all of them
abbrev pub flip_out : ℕ → List ℕ → List ℕ → List ℕ → Out Layout
flip_out K file set work =
    with_layout K file (λ (l : Layout). holds_set set l && holds_row work l) (λ (l : Layout).
    need_of (no_variant (length l.bodies)) (eqb (past_last (length l.bodies) set) 0) 21 0 (checked K l))

unfoldable pub flip_call : ℕ → List ℕ → List ℕ → List ℕ → Flipped
flip_call K file set work = record {
  verdict = verdict (flip_out K file set work);
  file = given (λ (l : Layout). flip_bytes K (member set) file) file (flip_out K file set work);
  work = work_after (samples_of K file) (refusal_of (flip_out K file set work)) work;
}
