-- The list by position, its row cleared after a refusal, is the contract's `listed`.
-- Assumes nothing.
use Rattle.std.specs.Prelude.{Result, Ok, Err}
use Rattle.std.specs.Result.{is_err}
use mathlib.Core.Path.{◌≡◌, refl, sym, ap, ◌∙◌, subst}
use mathlib.Core.Bool.{Bool, true, false}
use Prim.Native.Nat.{ℕ, zero, suc, ◌≤◌, ◌<◌}
use native.Mathlib.Omega.{arith}
use mathlib.Core.List.{List, [], ◌∷◌, ◌++◌}
use lib.ListN.{get_or, length, set, drop, take, replicate, length-set, take-append-drop}
use lib.Seq.{set-append_left, get_or-take, length-take-le}
use Rattle.format.specs.declared.Refusal.{Refusal}
use Rattle.format.specs.Base.{Out, ok, refused}
use Rattle.format.specs.Difflist.{Entry, Rule, Rising, number_width}
use Rattle.format.specs.Track.{rule, apply}
use Rattle.format.proofs.Rules.{Holds, below_drop}
use Rattle.format.proofs.DifflistLaws.{IsList, list_as_written}
use Rattle.base_cursor.proofs.ByteLaws.{bytes_of}
use Rattle.base_cursor.specs.declared.Cursor.{Cursor}
use Rattle.read_list.specs.Entries.{ListLeft, list_left, Lists}
use Rattle.read_list.specs.Parts.{put_parts}
use Rattle.read_list.specs.Listed.{may_hold, list_at, list_replied, listed}
use Rattle.read_list.specs.declared.ListRule.{ListRule}
use Rattle.read_list.proofs.NumberLaws.{Known}
use Rattle.read_list.proofs.EntriesAgree.{applied, cleared}
use Rattle.read_list.proofs.ListAgrees.{list_agrees}

-- a list whose samples are within the first part changes no other
apply_first : (u : Rule) (least : ℕ) (es : List Entry) (first rest : List ℕ) → Rising u least es → u.samples ≤ length first
    → apply es (first ++ rest) ≡ apply es first ++ rest
apply_first u least [] first rest g h = refl
apply_first u least (e ∷ es) first rest g h =
    rw (set-append_left first rest e.sample e.value (omega (arith, g.0.inside)))
    (apply_first u (suc e.sample) es (set first e.sample e.value) rest g.1 (rw (length-set first e.sample e.value) h))

apply_within : (u : Rule) (es : List Entry) (n : ℕ) (row : List ℕ) → u.samples ≡ n → n ≤ length row → Rising u 0 es
    → apply es row ≡ apply es (take n row) ++ drop n row
apply_within u es n row e h g =
    let k : u.samples ≤ length (take n row) = omega (arith, length-take-le n row h) in
    rw (take-append-drop n row) at (apply_first u 0 es (take n row) (drop n row) g k)

within : (u : Rule) (w end n : ℕ) (bs row : List ℕ) → u.samples ≡ n → n ≤ length row
    → (o : Out (List Entry)) → Holds (IsList u w bs) o → applied end n row o ≡ list_replied end n row o
within u w end n bs row e h (ok es left) k = rw (apply_within u es n row e h k.rising)
within u w end n bs row e h (refused why) k = refl

-- inside a list the default does not matter
pub get_d_any : (l : List ℕ) (j : ℕ) → j < length l → get_or l j 0 ≡ get_or l j 1
get_d_any [] j h = absurd (omega arith)
get_d_any (x ∷ l) zero h = refl
get_d_any (x ∷ l) (suc j) h = get_d_any l j (omega arith)

pub against : (n : ℕ) (row : List ℕ) → n ≤ length row → (j : ℕ) → j < n → get_or row j 0 ≡ get_or (take n row) j 1
against n row h j i = get_d_any row j (omega arith) ∙ sym (get_or-take n row j 1 i)

agrees : (l : List ℕ) (at n : ℕ) (held : ListRule) (row : List ℕ) → ((i : ℕ) → get_or l i 0 < 256) → at ≤ length l → n ≤ length row
    → cleared n (put_parts held n l at row) ≡ listed held n l at row
unfolding listed
agrees l at n held row y a h =
    let u : Rule = rule n (may_hold held (take n row)) in
    list_agrees l y n held (take n row) row (against n row h) at a
    ∙ within u (number_width n) (length l) n (drop at l) row refl h (list_at held n l at row)
    (list_as_written u (number_width n) (length l) (drop at l) (below_drop 256 at l (bytes_of l y)))

-- an accepted list is no refusal before a refusal has cleared the row
pub list_known : (l : List ℕ) (at n : ℕ) (held : ListRule) (row : List ℕ) → Known l → at ≤ length l → n ≤ length row → (k : Bool)
    → (k ≡ true → Lists (listed held n l at row)) → k ≡ true → Lists (put_parts held n l at row)
list_known l at n held row known a h k f t = go (put_parts held n l at row) (agrees l at n held row (λ i. (known i).fits) a h)
  where
    go : (o : ListLeft) → cleared n o ≡ listed held n l at row → Lists o
    go (list_left (Ok c) new) e = tt
    go (list_left (Err why) new) e = subst Lists (sym e) (f t)

-- the ways out of `put_list`: r and `new` are what `put_parts` gave
module _ (l : List ℕ) (at n : ℕ) (held : ListRule) (row : List ℕ) (r : Result Cursor Refusal) (new : List ℕ)
    (e : list_left r new ≡ put_parts held n l at row) (known : Known l) (a : at ≤ length l) (h : n ≤ length row) where
  run : cleared n (list_left r new) ≡ listed held n l at row
  run = ap (cleared n) e ∙ agrees l at n held row (λ i. (known i).fits) a h

  module _ (b : Bool) (q : b ≡ is_err r) where
    pub end_listed : b ≡ false → list_left r new ≡ listed held n l at row
    end_listed z = go r run (sym q ∙ z)
      where
        go : (o : Result Cursor Refusal) → cleared n (list_left o new) ≡ listed held n l at row → is_err o ≡ false → list_left o new ≡ listed held n l at row
        go (Ok c) g f = g
        go (Err why) g f = cc

    pub end_cleared : b ≡ true → (last : List ℕ) → last ≡ replicate n 0 ++ drop n new → list_left r last ≡ listed held n l at row
    end_cleared z last d = rw d (go r run (sym q ∙ z))
      where
        go : (o : Result Cursor Refusal) → cleared n (list_left o new) ≡ listed held n l at row → is_err o ≡ true
            → list_left o (replicate n 0 ++ drop n new) ≡ listed held n l at row
        go (Ok c) g f = cc
        go (Err why) g f = g

pub ruleset list_laws = (end_listed, end_cleared)
