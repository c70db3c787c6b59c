-- What each return of the code says, from the tests that led to it.
-- Assumes nothing.
use Rattle.std.specs.Prelude.{Option, Some, None, Result, Ok, Err}
use mathlib.Core.Path.{◌≡◌, refl, ap, ap₂, ◌∙◌, sym}
use Prim.Native.Nat.{ℕ, zero, suc, ◌+◌, ◌-◌, ◌*◌, ◌/◌, ◌^◌, ◌≤◌, ◌<◌}
use native.Mathlib.Nat.{zero-mul}
use native.Mathlib.Omega.{arith}
use mathlib.Core.Bool.{Bool, true, false}
use mathlib.Core.List.{List}
use lib.ListN.{length, get_or, set, length-set}
use lib.Dec.{leb}
use mir.Syntax.{w64}
use mir.Val.{Fits}
use borrow.Author.Tests.{le-leb, lt-leb}
use Rattle.format.specs.declared.Pair.{Pair}
use Rattle.format.specs.declared.Refusal.{Refusal}
use Rattle.format.specs.Base.{pick, Out, ok, refused}
use Rattle.format.specs.Limits.{most_samples}
use Rattle.format.specs.Varint.{read_varint}
use Rattle.format.specs.Difflist.{groups, number_width}
use Rattle.format.specs.PairCode.{found}
use Rattle.format.specs.Body.{kind_of, type_leans}
use Rattle.format.specs.File.{next_anchor}
use Rattle.format.proofs.Exits.{ok_parts}
use Rattle.base_list.proofs.ShapeLaws.{width_few}
use Rattle.base_cursor.specs.declared.Cursor.{Cursor}
use Rattle.base_cursor.specs.Steps.{cursor_at, step, varint_at}
use Rattle.flip_bytes.specs.Changed.{values_exchanged}
use Rattle.flip_body.specs.Edits.{values_flipped, before_values, count_read, list_flipped, list_flipped_at}
use Rattle.flip_body.specs.Edits.{bits_turned, list_place, pair_flipped, kind_flipped, body_flipped}

-- ---- values

module _ (p L : ℕ) (s : List ℕ) where
  pub values_fit : p ≤ length s → (L + 3) / 4 ≤ length s - p → (later : List ℕ) → later ≡ values_exchanged p L s → later ≡ values_flipped p L s
  unfolding values_flipped
  values_fit h k later w = rw w (simp (le-leb (p + (L + 3) / 4) (length s) (omega arith)))

  values_over : length s < p + (L + 3) / 4 → s ≡ values_flipped p L s
  unfolding values_flipped
  values_over h = simp lt-leb

  pub values_end_past : p ≤ length s → length s - p < (L + 3) / 4 → s ≡ values_flipped p L s
  values_end_past h k = values_over (omega arith)

  pub values_start_past : length s < p → s ≡ values_flipped p L s
  values_start_past h = values_over (omega arith)

-- ---- a list

before_small : (N L : ℕ) → L ≤ most_samples → before_values N L ≤ 4096
before_small N L h = go (number_width N) (width_few N)
  where
    go : (w : ℕ) → w ≤ 2 → w * groups L + (groups L - 1) ≤ 4096
    go zero l = omega (arith, zero-mul (groups L))
    go (suc zero) l = omega arith
    go (suc (suc zero)) l = omega arith
    go (suc (suc (suc w))) l = absurd (omega arith)

module _ (N L width few sizes : ℕ) (ew : width ≡ number_width N) (eg : few ≡ groups L) where
  before_is : sizes ≡ few - 1 → width * few + sizes ≡ before_values N L
  before_is ez = rw (ez, ew, eg) refl

  pub heads_fit : N ≤ most_samples → L ≤ N → Fits w64 (width * few)
  heads_fit n h = rw (ew, eg) (omega (arith, before_small N L (omega arith)))

  pub before_fits : sizes ≡ few - 1 → N ≤ most_samples → L ≤ N → Fits w64 (width * few + sizes)
  before_fits ez n h = omega (arith, before_small N L (omega arith), before_is ez)

module _ (N : ℕ) (s : List ℕ) where
  not_counted : (m : Out ℕ) (why : Refusal) → step (length s) m ≡ Err why → s ≡ count_read N s m
  not_counted (ok L left) why e = absurd (let z : ◌≡◌ {A = ℕ} 0 1 = cc in omega arith)
  not_counted (refused other) why e = refl

  counted : (m : Out ℕ) (L : ℕ) (c : Cursor) → step (length s) m ≡ Ok (L, c)
      → count_read N s m ≡ pick (leb L N) (values_flipped (c.at + before_values N L) L s) s
  counted (ok n left) L c e =
      let p : (n ≡ L) × (cursor_at (length s - length left) ≡ c) = ok_parts e in
      ap₂ (λ (j : ℕ) (d : Cursor). pick (leb j N) (values_flipped (d.at + before_values N j) j s) s) p.0 p.1
  counted (refused why) L c e = absurd (let z : ◌≡◌ {A = ℕ} 0 1 = cc in omega arith)

  within : (m : Out ℕ) (L : ℕ) (c : Cursor) → step (length s) m ≡ Ok (L, c) → c.at ≤ length s
  within (ok n left) L c e =
      let p : (n ≡ L) × (cursor_at (length s - length left) ≡ c) = ok_parts e in
      let k : length s - length left ≡ c.at = ap (λ (d : Cursor). d.at) p.1 in
      omega arith
  within (refused why) L c e = absurd (let z : ◌≡◌ {A = ℕ} 0 1 = cc in omega arith)

  -- what the cursor's varint gave
  module _ {got : Result (ℕ × Cursor) Refusal} (g : got ≡ varint_at s 0) where
    same : got ≡ step (length s) (read_varint (length s) s)
    unfolding varint_at
    same = g

    pub list_refused : (why : Refusal) → got ≡ Err why → s ≡ list_flipped N s
    unfolding list_flipped
    list_refused why e = not_counted (read_varint (length s) s) why (sym same ∙ e)

    list_within : (L : ℕ) (c : Cursor) → got ≡ Ok (L, c) → c.at ≤ length s
    list_within L c e = within (read_varint (length s) s) L c (sym same ∙ e)

    list_counted : (L : ℕ) (c : Cursor) → got ≡ Ok (L, c) → list_flipped N s ≡ pick (leb L N) (values_flipped (c.at + before_values N L) L s) s
    unfolding list_flipped
    list_counted L c e = counted (read_varint (length s) s) L c (sym same ∙ e)

    pub list_over : (L : ℕ) (c : Cursor) → got ≡ Ok (L, c) → N < L → s ≡ list_flipped N s
    list_over L c e h = rw (list_counted L c e, lt-leb L N h) refl

    -- its values come after the heads and the size bytes
    module _ (L : ℕ) (c : Cursor) (e : got ≡ Ok (L, c)) (h : L ≤ N) (width few sizes : ℕ)
        (ew : width ≡ number_width N) (eg : few ≡ groups L) (ez : sizes ≡ few - 1) where
      -- a slice takes less than 2^63 bytes
      pub place_fits : N ≤ most_samples → length s * 1 < 2 ^ 63 → c.at + (width * few + sizes) < 2 ^ 64
      place_fits n k = omega (arith, before_small N L (omega arith), list_within L c e, before_is N L width few sizes ew eg ez)

      pub list_found : (values : Cursor) → values ≡ cursor_at (c.at + (width * few + sizes)) → (later : List ℕ) → later ≡ values_flipped values.at L s
          → later ≡ list_flipped N s
      list_found values v later w = rw (w, v, before_is N L width few sizes ew eg ez, list_counted L c e, le-leb L N h) refl

-- ---- a pair

module _ (N : ℕ) (s : List ℕ) where
  pub pair_short : length s < list_place N → s ≡ pair_flipped N s
  unfolding pair_flipped
  pair_short h = simp lt-leb

  module _ (r : Option Pair) (told : r ≡ found (get_or s 0 0)) (h : list_place N ≤ length s) where
    pub pair_other : r ≡ None → s ≡ pair_flipped N s
    unfolding pair_flipped
    pair_other q = simp (le-leb, sym told ∙ q)

    pub pair_known : (p : Pair) → r ≡ Some p → (turned later : List ℕ) → turned ≡ bits_turned p.turns N (set s 0 p.image)
        → later ≡ list_flipped_at (list_place N) N turned → later ≡ pair_flipped N s
    unfolding pair_flipped
    pair_known p q turned later e w = rw (w, e) (simp (le-leb, sym told ∙ q))

-- its bytes are as many after each step
pub list_inside : (N x : ℕ) (s turned : List ℕ) → length turned ≡ length (set s 0 x) → list_place N ≤ length s → list_place N ≤ length turned
list_inside N x s turned e h = omega (arith, length-set s 0 x)

pub pair_kept : (x : ℕ) (s turned later : List ℕ) → length turned ≡ length (set s 0 x) → length later ≡ length turned → length later ≡ length s
pair_kept x s turned later e d = d ∙ e ∙ length-set s 0 x

-- ---- a body

module _ (N kind : ℕ) (s later : List ℕ) where
  pub kind_values : kind ≡ 0 → later ≡ values_flipped 0 N s → later ≡ kind_flipped N kind s
  kind_values k w = rw k w

  pub kind_pair : kind ≡ 1 → later ≡ pair_flipped N s → later ≡ kind_flipped N kind s
  kind_pair k w = rw k w

  pub kind_list : (kind ≡ 0 → ⊥) → (kind ≡ 1 → ⊥) → later ≡ list_flipped N s → later ≡ kind_flipped N kind s
  kind_list a b w = w ∙ go kind a b
    where
      go : (kind : ℕ) → (kind ≡ 0 → ⊥) → (kind ≡ 1 → ⊥) → list_flipped N s ≡ kind_flipped N kind s
      go zero a b = absurd (a refl)
      go (suc zero) a b = absurd (b refl)
      go (suc (suc kind)) a b = refl

module _ (N type : ℕ) (lent member m : Bool) (s : List ℕ) (e : m ≡ next_anchor (type_leans type) lent member) where
  pub body_moves : (later : List ℕ) (kind : ℕ) → m ≡ true → kind ≡ kind_of type → later ≡ kind_flipped N kind s → later ≡ body_flipped N type lent member s
  unfolding body_flipped
  body_moves later kind t k w = rw (← e, t, ← k) w

  pub body_stays : m ≡ false → s ≡ body_flipped N type lent member s
  unfolding body_flipped
  body_stays t = rw (← e, t) refl

pub ruleset values_laws = (values_fit, values_end_past, values_start_past)

pub ruleset list_laws = (list_refused, list_over, list_found, heads_fit, before_fits, place_fits)

pub ruleset pair_laws = (pair_short, pair_other, pair_known, list_inside, pair_kept)

pub ruleset body_laws = (kind_values, kind_pair, kind_list, body_moves, body_stays)
