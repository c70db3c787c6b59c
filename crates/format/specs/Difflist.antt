-- Difference lists: one definition for every number width and every rule of what a list may hold.
-- Assumes nothing.
use Rattle.std.specs.Prelude.{◌≡◌, ℕ, zero, suc, ◌+◌, ◌-◌, ◌*◌, ◌/◌, ◌≤◌, ◌<◌, Bool, true, List, [], ◌∷◌, ◌++◌, length, ltb, leb, eqb}
use Rattle.format.specs.Base.{pick, Out, ok, refuse, bind, map_out, need, place_of}
use Rattle.format.specs.Varint.{varint_bytes, read_varint}
use Rattle.format.specs.Numbers.{numbers_bytes, read_numbers, read_bytes}
use Rattle.format.specs.Packed.{two, packed, read_packed}

-- ---- what a list is

pub record Entry : Type 0 where
  pub sample : ℕ
  pub value : ℕ

-- what a list is held to: its samples are below N, and `may sample value` says what it may hold
pub record Rule : Type 0 where
  pub samples : ℕ
  pub may : ℕ → ℕ → Bool

-- 01, Difference lists: "Sample numbers rise strictly through the whole list and are below N."
-- 01, Categories and kinds: "No list holds a value it need not". The entry's sample is `least` or more.
pub record Good (rule : Rule) (least : ℕ) (e : Entry) : Type 0 where
  pub rises : least ≤ e.sample
  pub inside : e.sample < rule.samples
  pub two_bits : e.value < 4
  pub allowed : rule.may e.sample e.value ≡ true

abbrev pub Rising : Rule → ℕ → List Entry → Type 0
Rising rule least [] = Unit {0}
Rising rule least (e ∷ es) = Good rule least e × Rising rule (suc e.sample) es

-- ---- its bytes. `room` entries are still to come in the group, `before` is the sample before, `size` the bytes of the group's varints so far

-- 01: "G = ceil(L/64) groups"; "1 byte if N is at most 256, else 2"
abbrev pub groups : ℕ → ℕ
groups L = (L + 63) / 64

abbrev pub number_width : ℕ → ℕ
number_width N = pick (leb N 256) 1 2

-- 01: "the first sample number of each group"
unfoldable pub heads : ℕ → List Entry → List ℕ
heads room [] = []
heads zero (e ∷ es) = e.sample ∷ heads 63 es
heads (suc room) (e ∷ es) = heads room es

-- 01: "G − 1 size bytes, each 63 less than the byte size of its group's varints"
unfoldable pub sizes_after : ℕ → ℕ → ℕ → List Entry → List ℕ
sizes_after room size before [] = []
sizes_after zero size before (e ∷ es) = (size - 63) ∷ sizes_after 63 0 e.sample es
sizes_after (suc room) size before (e ∷ es) = sizes_after room (size + length (varint_bytes (e.sample - before))) e.sample es

unfoldable pub size_bytes : List Entry → List ℕ
size_bytes [] = []
size_bytes (e ∷ es) = sizes_after 63 0 e.sample es

-- 01: "ceil(L/4) bytes of 2-bit values"
unfoldable pub values : List Entry → List ℕ
values [] = []
values (e ∷ es) = e.value ∷ values es

-- 01: "L − G varints, each the step from the sample before it in its group"
unfoldable pub steps : ℕ → ℕ → List Entry → List ℕ
steps room before [] = []
steps zero before (e ∷ es) = steps 63 e.sample es
steps (suc room) before (e ∷ es) = varint_bytes (e.sample - before) ++ steps room e.sample es

-- 01: "A count L ... Nothing more if L is 0." (Every other part of an empty list is empty.) w: the number width.
unfoldable pub list_parts : ℕ → List Entry → List ℕ
list_parts w es = numbers_bytes w (heads 0 es) ++ (size_bytes es ++ (packed two (values es) ++ steps 0 0 es))

abbrev pub list_bytes : ℕ → List Entry → List ℕ
list_bytes w es = varint_bytes (length es) ++ list_parts w es

-- ---- its reader

-- where the parts of a list of `count` entries end, in the file
pub record Parts : Type 0 where
  pub end : ℕ
  pub width : ℕ
  pub heads_end : ℕ
  pub sizes_end : ℕ
  pub count : ℕ

-- 01, Replies: "entry by entry its varint (12, 15), its number (16), its value (17)". 02, Ask 2: "23 is a number not rising, 24 a number not below N".
-- The number stands at q; `left` values follow the entry's.
unfoldable pub read_entry : Rule → Parts → ℕ → ℕ → ℕ → ℕ → List ℕ → Out (List Entry) → Out (List Entry)
read_entry rule parts least q sample value left next =
    need (leb least sample) 23 q
    (need (ltb sample rule.samples) 24 q
    (need (rule.may sample value) 17 (parts.sizes_end + (parts.count - suc (length left)) / 4)
    (map_out (◌∷◌ (record { sample = sample; value = value })) next)))

-- 01, Replies: "and after each group but the last its size byte (16)". 02, Ask 2: "25 a size byte". A step's bytes are those that were read: from bs to
-- what is left.
-- The clauses with `refuse 0 0` are where heads, sizes and values do not belong together: law `list_refusals` shows that none is reached.
unfoldable pub read_entries : Rule → Parts → ℕ → ℕ → ℕ → List ℕ → List ℕ → List ℕ → List ℕ → Out (List Entry)
read_entries rule parts room size before [] [] [] bs = ok [] bs
read_entries rule parts room size before [] (z ∷ zs) [] bs = refuse 0 0
read_entries rule parts room size before (h ∷ hs) zs [] bs = refuse 0 0
read_entries rule parts zero size before [] zs (v ∷ vs) bs = refuse 0 0
read_entries rule parts zero size before (h ∷ hs) [] (v ∷ vs) bs = refuse 0 0
read_entries rule parts zero size before (h ∷ hs) (z ∷ zs) (v ∷ vs) bs =
    need (eqb size (z + 63)) 25 (parts.sizes_end - suc (length zs))
    (read_entry rule parts (suc before) (parts.heads_end - parts.width * suc (length hs)) h v vs (read_entries rule parts 63 0 h hs zs vs bs))
read_entries rule parts (suc room) size before hs zs (v ∷ vs) bs =
    bind (read_varint parts.end bs) (λ step left.
    read_entry rule parts (suc before) (place_of parts.end bs) (before + step) v vs
    (read_entries rule parts room (size + (length bs - length left)) (before + step) hs zs vs left))

unfoldable pub read_first : Rule → Parts → List ℕ → List ℕ → List ℕ → List ℕ → Out (List Entry)
read_first rule parts [] [] [] bs = ok [] bs
read_first rule parts [] [] (v ∷ vs) bs = refuse 0 0
read_first rule parts [] (z ∷ zs) vs bs = refuse 0 0
read_first rule parts (h ∷ hs) zs [] bs = refuse 0 0
read_first rule parts (h ∷ hs) zs (v ∷ vs) bs =
    read_entry rule parts 0 (parts.heads_end - parts.width * suc (length hs)) h v vs (read_entries rule parts 63 0 h hs zs vs bs)

-- 01, Replies: "the heads, size bytes and values must fit; unused value bits (18); then entry by entry"
unfoldable pub read_parts : Rule → ℕ → ℕ → ℕ → List ℕ → Out (List Entry)
read_parts rule w end L bs =
    bind (read_numbers end w (groups L) bs) (λ hs left₁.
    bind (read_bytes end (groups L - 1) left₁) (λ zs left₂.
    bind (read_packed end two L left₂) (λ vs left₃.
    read_first rule (record { end = end; width = w; heads_end = place_of end left₁; sizes_end = place_of end left₂; count = L }) hs zs vs left₃)))

-- 01, Replies: "In a list: count (12, 15, 16)". 02, Ask 2: "16 stays for the count".
unfoldable pub read_list : Rule → ℕ → ℕ → List ℕ → Out (List Entry)
read_list rule w end bs = bind (read_varint end bs) (λ L left. need (leb L rule.samples) 16 (place_of end bs) (read_parts rule w end L left))
