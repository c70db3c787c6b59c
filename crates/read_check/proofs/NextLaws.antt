-- The next record of a check of all: each way out of its check, and what that leaves for the records after it.
-- Assumes nothing.
use Rattle.std.specs.Prelude.{Result, ⊤}
use mathlib.Core.Path.{◌≡◌, refl, sym, ap, ◌∙◌}
use Prim.Native.Nat.{ℕ}
use mathlib.Core.Bool.{Bool, true, false, not, ◌&&◌}
use mathlib.Core.List.{List, ◌++◌}
use mathlib.Core.Logic.{◌⊎◌, inl, inr}
use lib.ListN.{length, take, drop, replicate, length-replicate}
use lib.Seq.{drop_at}
use Rattle.format.specs.declared.Refusal.{Refusal}
use Rattle.format.specs.Base.{pick, Out, ok, refused}
use Rattle.format.specs.Body.{type_leans, Body, read_body, body_categories}
use Rattle.read_record.specs.Recorded.{replied, RecordLeft, record_left, record_replied, recorded}
use Rattle.read_record.proofs.BodyLaws.{reply_of, row_of, reply_as}
use Rattle.read_check.specs.Checked.{body_checked}
use Rattle.read_check.specs.Next.{row_made, next_checked}

-- ---- the ways out of `row_made`

module _ (type after : ℕ) (leaning : Bool) (e : leaning ≡ type_leans type) where
  pub made_not : leaning ≡ true → false ≡ row_made type after
  unfolding row_made
  made_not t = simp (sym e ∙ t)

  pub made_anchor : leaning ≡ false → (r : Bool) → r ≡ type_leans after → r ≡ row_made type after
  unfolding row_made
  made_anchor t r d = simp (sym e ∙ t) d

pub ruleset made_laws = (made_not, made_anchor)

-- ---- the ways out of `check_next`: `made` is what `row_made` gave

module _ (n type after : ℕ) (l : List ℕ) (start : ℕ) (row : List ℕ) (made : Bool) (e : made ≡ row_made type after) where
  abbrev Next : Result ⊤ Refusal → List ℕ → Type 0
  Next r new = record_left r new ≡ next_checked n type after l start row

  pub next_read : made ≡ true → (r : Result ⊤ Refusal) (new : List ℕ) → record_left r new ≡ recorded n type l start row → Next r new
  unfolding next_checked
  next_read t r new d = rw (← e, t) d

  pub next_only : made ≡ false → (r : Result ⊤ Refusal) → r ≡ body_checked n type l start row → Next r row
  unfolding next_checked
  next_only t r d = rw (← e, t, d)

pub ruleset next_laws = (next_read, next_only)

-- ---- what is left after it

-- what a record does to a row that those after it lean on
abbrev carried : Bool → ℕ → List ℕ → Body → List ℕ
carried leans n row body = pick leans row (body_categories n (take n row) body ++ drop n row)

module _ (n type after : ℕ) (l : List ℕ) (start : ℕ) (row : List ℕ) (r : Result ⊤ Refusal) (new : List ℕ)
    (d : record_left r new ≡ next_checked n type after l start row) where
  abbrev read : Out Body
  read = read_body (length l) n (take n row) type (drop start l)

  abbrev Left : Bool → Bool → Type 0
  Left a b = record_left r new ≡ pick (not a && b) (record_replied n row read) (record_left (replied read) row)

  was_left : Left (type_leans type) (type_leans after)
  unfolding next_checked recorded body_checked row_made
  was_left = d

  pub next_reply : r ≡ replied read
  next_reply = go (type_leans type) (type_leans after) was_left
    where
      go : (a b : Bool) → Left a b → r ≡ replied read
      go true b e = ap reply_of e
      go false false e = ap reply_of e
      go false true e = ap reply_of e ∙ reply_as n row read

  pub next_row : (body : Body) (left : List ℕ) → read ≡ ok body left
      → (new ≡ carried (type_leans type) n row body) ⊎ ((new ≡ row) × (type_leans after ≡ false))
  next_row body left q = go (type_leans type) (type_leans after) was_left
    where
      go : (a b : Bool) → Left a b → (new ≡ carried a n row body) ⊎ ((new ≡ row) × (b ≡ false))
      go true b e = inl (ap row_of e)
      go false false e = inr (ap row_of e, refl)
      go false true e = inl (ap row_of (e ∙ ap (record_replied n row) q))

  -- what stands behind the row's first n bytes stays
  pub next_rest : (why : Refusal) → read ≡ refused why → drop n new ≡ drop n row
  next_rest why q = go (type_leans type) (type_leans after) was_left
    where
      go : (a b : Bool) → Left a b → drop n new ≡ drop n row
      go true b e = ap (λ (z : RecordLeft). drop n (row_of z)) e
      go false false e = ap (λ (z : RecordLeft). drop n (row_of z)) e
      go false true e =
          ap (λ (z : RecordLeft). drop n (row_of z)) (e ∙ ap (record_replied n row) q) ∙ drop_at (replicate n 0) (drop n row) n (length-replicate n 0)
