-- DEMAND 3 over any container: what its parts must obey, and that a flip is then accepted again, its members read exchanged and all others as before, and
-- two flips are one.
-- Assumes nothing.
use mathlib.Core.Path.{◌≡◌, refl, sym, ap, ◌∙◌, fun_ext}
use mathlib.Core.Logic.{◌↔◌}
use mathlib.Core.Bool.{Bool, false}
use mathlib.Core.List.{List, []}
use Prim.Native.Nat.{ℕ, ◌<◌}
use Rattle.format.specs.declared.FileVariant.{FileVariant}
use Rattle.format.specs.Base.{Out, ok, refused, map_out}
use Rattle.format.specs.Category.{just_one}
use Rattle.format.specs.Container.{Container, flipped, flip_stored}
use Rattle.format.proofs.CategoryLaws.{just_one_self}

-- ---- what an instance must show

module _ (C : Container) where
  open C use {Stored, AreBytes, Value, Obeys, bytes, read, variants, Row, row, read_row, exchange, flip}

  -- what was read is a value that obeys, and what is stored is its bytes and no more
  pub record IsStored (s : Stored) (a : Value) (left : List ℕ) : Type 0 where
    pub obeys : Obeys a
    pub written : s ≡ bytes a
    pub ended : left ≡ []

  -- Of values, these ask only about those that obey.
  pub record IsContainer : Type 0 where
    -- what is written is read back, and what is read is what is written: by these two, accepted exactly when it is the bytes of a value that obeys
    pub read_back : (a : Value) → Obeys a → read (bytes a) ≡ ok a []
    pub as_written : (s : Stored) (a : Value) (left : List ℕ) → AreBytes s → read s ≡ ok a left → IsStored s a left
    -- a variant read from the bytes gives its row
    pub row_reads : (a : Value) → Obeys a → (v : FileVariant) → v.0 < variants a → read_row (bytes a) v ≡ ok (row a v) []
    -- a flipped value obeys, has as many variants, and the row of each is exchanged exactly if it is in the set
    pub flip_obeys : (member : FileVariant → Bool) (a : Value) → Obeys a → Obeys (flip member a)
    pub flip_variants : (member : FileVariant → Bool) (a : Value) → Obeys a → variants (flip member a) ≡ variants a
    pub flip_row : (member : FileVariant → Bool) (a : Value) → Obeys a → (v : FileVariant) → v.0 < variants a
        → row (flip member a) v ≡ exchange (member v) (row a v)
    -- a row that is not exchanged stays
    pub exchange_none : (r : Row) → exchange false r ≡ r
    -- two flips are one, of those in just one of the two sets; the empty set changes nothing
    pub flip_just_one : (m m' : FileVariant → Bool) (a : Value) → Obeys a → flip m (flip m' a) ≡ flip (λ (v : FileVariant). just_one (m v) (m' v)) a
    pub flip_none : (a : Value) → Obeys a → flip (λ (v : FileVariant). false) a ≡ a

-- ---- what then holds

module _ (C : Container) (laws : IsContainer C) where
  open C use {Stored, AreBytes, Value, Obeys, bytes, read, variants, Row, row, read_row, exchange, flip}
  open laws use {read_back, as_written, row_reads, flip_obeys, flip_variants, flip_row, exchange_none, flip_just_one, flip_none}

  -- DEMAND 2: accepted exactly when it is the bytes of a value that obeys
  pub exactly : (s : Stored) (a : Value) → AreBytes s → (read s ≡ ok a []) ↔ (Obeys a × (s ≡ bytes a))
  exactly s a y = (
    λ e. let w = as_written s a [] y e in (w.obeys, w.written),
    λ h. ap read h.1 ∙ read_back a h.0,
  )

  -- the flip of a value's bytes are the bytes of the flipped value
  pub flip_written : (member : FileVariant → Bool) (a : Value) → Obeys a → flip_stored C member (bytes a) ≡ bytes (flip member a)
  flip_written member a h = ap (flipped C member (bytes a)) (read_back a h)

  -- so what is stored for a value that obeys becomes the bytes of the flipped one
  pub stored_flip : (member : FileVariant → Bool) (s : Stored) (a : Value) → Obeys a → s ≡ bytes a → flip_stored C member s ≡ bytes (flip member a)
  stored_flip member s a h w = ap (flip_stored C member) w ∙ flip_written member a h

  -- DEMAND 3: "still accepted"
  pub flip_accepted : (member : FileVariant → Bool) (s : Stored) (a : Value) → AreBytes s → read s ≡ ok a []
      → read (flip_stored C member s) ≡ ok (flip member a) []
  flip_accepted member s a y e =
      let w = as_written s a [] y e in
      ap read (stored_flip member s a w.obeys w.written) ∙ read_back (flip member a) (flip_obeys member a w.obeys)

  -- DEMAND 3: "members read with categories 0 and 2 exchanged, all others as before", for whatever an exchanged row is in this container
  pub flip_reads : (member : FileVariant → Bool) (s : Stored) (a : Value) → AreBytes s → read s ≡ ok a [] → (v : FileVariant) → v.0 < variants a
      → read_row (flip_stored C member s) v ≡ map_out (exchange (member v)) (read_row s v)
  flip_reads member s a y e v l =
      let w = as_written s a [] y e in
      let still : v.0 < variants (flip member a) = rw (flip_variants member a w.obeys) l in
      let before : read_row s v ≡ ok (row a v) [] = ap (λ (x : Stored). read_row x v) w.written ∙ row_reads a w.obeys v l in
      ap (λ (x : Stored). read_row x v) (stored_flip member s a w.obeys w.written)
      ∙ row_reads (flip member a) (flip_obeys member a w.obeys) v still
      ∙ ap (λ (r : Row). ok r []) (flip_row member a w.obeys v l)
      ∙ sym (ap (map_out (exchange (member v))) before)

  -- the second half of it in its own words: a variant that is not in the set reads as before
  pub flip_others : (member : FileVariant → Bool) (s : Stored) (a : Value) → AreBytes s → read s ≡ ok a [] → (v : FileVariant) → v.0 < variants a
      → member v ≡ false → read_row (flip_stored C member s) v ≡ read_row s v
  flip_others member s a y e v l n =
      let w = as_written s a [] y e in
      let before : read_row s v ≡ ok (row a v) [] = ap (λ (x : Stored). read_row x v) w.written ∙ row_reads a w.obeys v l in
      flip_reads member s a y e v l
      ∙ ap (map_out (exchange (member v))) before
      ∙ ap (λ (b : Bool). ok (exchange b (row a v)) []) n
      ∙ ap (λ (r : Row). ok r []) (exchange_none (row a v))
      ∙ sym before

  -- what is stored is accepted, or every flip leaves it
  accepted_or : (P : Type 0) (s : Stored) → AreBytes s → ((a : Value) → Obeys a → s ≡ bytes a → P)
      → (((member : FileVariant → Bool) → flip_stored C member s ≡ s) → P) → P
  accepted_or P s y accepted stays = go (read s) refl
    where
      go : (out : Out Value) → read s ≡ out → P
      go (ok a left) e = let w = as_written s a left y e in accepted a w.obeys w.written
      go (refused why) e = stays (λ member. ap (flipped C member s) e)

  -- DEMAND 3: "Flipping one set, then a second, gives byte for byte the flip of the variants in just one of the two". Also of what is not accepted.
  pub flip_xor : (m m' : FileVariant → Bool) (s : Stored) → AreBytes s
      → flip_stored C m (flip_stored C m' s) ≡ flip_stored C (λ (v : FileVariant). just_one (m v) (m' v)) s
  flip_xor m m' s y =
      accepted_or _ s y
      (λ a h w.
      ap (flip_stored C m) (stored_flip m' s a h w)
      ∙ flip_written m (flip m' a) (flip_obeys m' a h)
      ∙ ap bytes (flip_just_one m m' a h)
      ∙ sym (stored_flip (λ (v : FileVariant). just_one (m v) (m' v)) s a h w))
      (λ stays. ap (flip_stored C m) (stays m') ∙ stays m ∙ sym (stays (λ (v : FileVariant). just_one (m v) (m' v))))

  -- the empty set leaves what is stored
  pub flip_empty : (s : Stored) → AreBytes s → flip_stored C (λ (v : FileVariant). false) s ≡ s
  flip_empty s y =
      accepted_or _ s y
      (λ a h w. stored_flip (λ (v : FileVariant). false) s a h w ∙ ap bytes (flip_none a h) ∙ sym w)
      (λ stays. stays (λ (v : FileVariant). false))

  -- DEMAND 3: "so twice restores the file"
  pub flip_twice : (m : FileVariant → Bool) (s : Stored) → AreBytes s → flip_stored C m (flip_stored C m s) ≡ s
  flip_twice m s y =
      flip_xor m m s y
      ∙ ap (λ (x : FileVariant → Bool). flip_stored C x s) (fun_ext (λ v. just_one_self (m v)))
      ∙ flip_empty s y
