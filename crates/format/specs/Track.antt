-- A record's main track: the four shapes it can have, its bytes, its reader, the categories it stands for, its flip.
-- Assumes nothing.
use Rattle.std.specs.Prelude.{◌≡◌, ℕ, suc, ◌-◌, Bool, true, false, not, ◌&&◌, List, [], ◌∷◌, ◌++◌, map, length, get_or, set, replicate, eqb}
use Rattle.format.specs.declared.Kind.{Kind}
use Rattle.format.specs.declared.Kind.TheVariants.{Array, Paired, AgainstAnchor, AgainstCategory, NoKind}
use Rattle.format.specs.Base.{pick, Out, ok, refuse, bind, map_out, Below}
use Rattle.format.specs.Category.{exchange_if, exchange_all, just_one}
use Rattle.format.specs.Packed.{one, two, packed, read_packed}
use Rattle.format.specs.Difflist.{Entry, Rule, Rising, number_width, list_bytes, read_list}
use Rattle.format.specs.PairCode.{PairCode, pair, image, category_of, in_pair, Coded, coded, not_coded, code_numbered}

-- ---- kinds, by their numbers: 0 to 7, the low three bits of a record's type

abbrev pub kinds : List Kind
kinds =
    Array ∷ Paired ∷ AgainstAnchor false ∷ AgainstAnchor true ∷ AgainstCategory 0 ∷ NoKind ∷ AgainstCategory 2 ∷ AgainstCategory 3 ∷ []

abbrev pub kind : ℕ → Kind
kind number = get_or kinds number NoKind

abbrev pub KindNumbered : ℕ → Kind → Type 0
KindNumbered number k = k ≡ kind number

-- whether a record of the kind leans on an anchor: 2 and 3
abbrev pub leans_kind : Kind → Bool
leans_kind Array = false
leans_kind Paired = false
leans_kind (AgainstAnchor inverted) = true
leans_kind (AgainstCategory category) = false
leans_kind NoKind = false

abbrev pub leans : ℕ → Bool
leans number = leans_kind (kind number)

-- ---- what a track is

pub data Track : Type 0 where
  plain : List ℕ → Track
  one_bit : PairCode → List Bool → List Entry → Track
  leaning : Bool → List Entry → Track
  sparse : ℕ → List Entry → Track

-- the number of its kind
abbrev pub track_kind : Track → ℕ
track_kind (plain categories) = 0
track_kind (one_bit c bits es) = 1
track_kind (leaning inverted es) = pick inverted 3 2
track_kind (sparse category es) = suc (suc (suc (suc category)))

-- whether it leans on an anchor, as its kind does (law `leans_track`)
abbrev pub track_leans : Track → Bool
track_leans (plain categories) = false
track_leans (one_bit c bits es) = false
track_leans (leaning inverted es) = true
track_leans (sparse category es) = false

-- 01: "No list holds a value it need not: none equal to the base category in 4, 6, 7, none in the pair in 1, none equal to the anchor's category of that
-- sample in 2 and 3." (An anchor has N categories. Past its end 1 stands, which an exchange keeps.)
abbrev pub off_pair : PairCode → ℕ → ℕ → Bool
off_pair c sample value = not (in_pair c value)

abbrev pub off_category : ℕ → ℕ → ℕ → Bool
off_category category sample value = not (eqb value category)

abbrev pub off_anchor : List ℕ → ℕ → ℕ → Bool
off_anchor anchor sample value = not (eqb value (get_or anchor sample 1))

abbrev pub rule : ℕ → (ℕ → ℕ → Bool) → Rule
rule N may = record { samples = N; may = may }

-- a track of N samples obeys, over its anchor's categories
abbrev pub Fits : ℕ → List ℕ → Track → Type 0
Fits N anchor (plain categories) = (length categories ≡ N) × Below 4 categories
Fits N anchor (one_bit c bits es) = (length bits ≡ N) × Rising (rule N (off_pair c)) 0 es
Fits N anchor (leaning inverted es) = Rising (rule N (off_anchor anchor)) 0 es
Fits N anchor (sparse category es) = (kind (suc (suc (suc (suc category)))) ≡ AgainstCategory category) × Rising (rule N (off_category category)) 0 es

-- ---- its bytes

abbrev pub bit_number : Bool → ℕ
bit_number bit = pick bit 1 0

-- 01: "Kind 1: a pair code, a bit per sample (set: the higher category of the pair), then a list"
unfoldable pub track_bytes : ℕ → Track → List ℕ
track_bytes N (plain categories) = packed two categories
track_bytes N (one_bit c bits es) = (pair c).code ∷ (packed one (map bit_number bits) ++ list_bytes (number_width N) es)
track_bytes N (leaning inverted es) = list_bytes (number_width N) es
track_bytes N (sparse category es) = list_bytes (number_width N) es

-- ---- its reader

abbrev pub as_read : ℕ → List ℕ → Coded → Out PairCode
as_read place left (coded c) = ok c left
as_read place left not_coded = refuse 14 place

-- 01, Replies: 14, "pair code unknown", at "that byte"
unfoldable pub read_pair_code : ℕ → List ℕ → Out PairCode
read_pair_code end [] = refuse 12 end
read_pair_code end (b ∷ left) = as_read (end - suc (length left)) left (code_numbered b)

abbrev pub bit_set : ℕ → Bool
bit_set b = not (eqb b 0)

unfoldable pub read_listed : (List Entry → Track) → ℕ → ℕ → (ℕ → ℕ → Bool) → List ℕ → Out Track
read_listed track end N may bs = map_out track (read_list (rule N may) (number_width N) end bs)

-- the header lets no other kind through (8): laws `body_refusals` and `allowed_kind`
unfoldable pub read_kind : ℕ → ℕ → List ℕ → Kind → List ℕ → Out Track
read_kind end N anchor Array bs = map_out plain (read_packed end two N bs)
read_kind end N anchor Paired bs =
    bind (read_pair_code end bs) (λ c left₁.
    bind (read_packed end one N left₁) (λ bits left₂. read_listed (one_bit c (map bit_set bits)) end N (off_pair c) left₂))
read_kind end N anchor (AgainstAnchor inverted) bs = read_listed (leaning inverted) end N (off_anchor anchor) bs
read_kind end N anchor (AgainstCategory category) bs = read_listed (sparse category) end N (off_category category) bs
read_kind end N anchor NoKind bs = refuse 8 0

abbrev pub read_track : ℕ → ℕ → List ℕ → ℕ → List ℕ → Out Track
read_track end N anchor number bs = read_kind end N anchor (kind number) bs

-- ---- the categories it stands for

-- what f gives for each entry, at its sample; each entry's value at its sample
abbrev pub put {ℓ} : {A : Type ℓ} → (Entry → A) → List Entry → List A → List A
put f [] row = row
put f (e ∷ es) row = put f es (set row e.sample (f e))

abbrev pub apply : List Entry → List ℕ → List ℕ
apply es row = put (λ (e : Entry). e.value) es row

-- 01: "Kind 3: as kind 2, then 0 and 2 exchanged for all samples."
abbrev pub track_categories : ℕ → List ℕ → Track → List ℕ
track_categories N anchor (plain categories) = categories
track_categories N anchor (one_bit c bits es) = apply es (map (category_of c) bits)
track_categories N anchor (leaning inverted es) = exchange_all inverted (apply es anchor)
track_categories N anchor (sparse category es) = apply es (replicate N category)

-- ---- its flip

abbrev pub revalue : Bool → List Entry → List Entry
revalue b [] = []
revalue b (e ∷ es) = record { sample = e.sample; value = exchange_if b e.value } ∷ revalue b es

abbrev pub image_if : Bool → PairCode → PairCode
image_if member c = pick member (image c) c

-- 01, Flipping: "A leaning record's treatment depends both on its own membership and on its anchor's."
-- lent: the anchor is in the set; member: the record is.
abbrev pub flip_track : Bool → Bool → Track → Track
flip_track lent member (plain categories) = plain (exchange_all member categories)
flip_track lent member (one_bit c bits es) = one_bit (image_if member c) (map (just_one (member && (pair c).turns)) bits) (revalue member es)
flip_track lent member (leaning inverted es) = leaning (just_one (just_one lent member) inverted) (revalue lent es)
flip_track lent member (sparse category es) = sparse (exchange_if member category) (revalue member es)
