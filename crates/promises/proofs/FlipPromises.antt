-- DEMAND 3, of the call itself: what its contract says of a flip that it accepted.
-- Assumes nothing.
use mathlib.Core.Path.{◌≡◌, refl, sym, ap, ◌∙◌, fun_ext}
use mathlib.Core.Bool.{Bool}
use Prim.Native.Nat.{ℕ, ◌<◌}
use mathlib.Core.List.{List, []}
use lib.ListN.{length}
use lib.Dec.{lit<}
use Rattle.format.specs.declared.FileVariant.{FileVariant}
use Rattle.format.specs.Base.{Bytes, Out, ok, refused, map_out}
use Rattle.format.specs.Limits.{variants_to_a_block}
use Rattle.format.specs.Category.{just_one}
use Rattle.format.specs.Body.{exchange_reading}
use Rattle.format.specs.Container.{Container}
use Rattle.format.specs.Layout.{Layout}
use Rattle.format.specs.File.{File, layout_of_file, file_bytes, Obeys, read_file, read_row, flip_file, pgen_file, flip_bytes}
use Rattle.format.specs.Reply.{refusal_of, given, member, flip_out, flip_call}
use Rattle.format.proofs.Rules.{Holds}
use Rattle.format.proofs.Refuses.{Refuses, Among, not_none}
use Rattle.format.proofs.CallRefusals.{flip_numbers, flip_refusals}
use Rattle.format.proofs.ContainerLaws.{IsContainer}
use Rattle.format.proofs.FlipLaws.{SameLayout, flip_layout, pgen_laws}
use Rattle.format.proofs.FileLaws.{file_exactly}
use Rattle.promises.proofs.ContainerPromises.{WasFlipped, still_accepted, members_exchanged, just_one_flipped, restored}
use Rattle.promises.proofs.FlipExactly.{flip_whole}

abbrev K : ℕ
K = variants_to_a_block

-- the files that the call is lent, and their laws
abbrev pub files : Container
files = pgen_file K

laws : IsContainer files
laws = pgen_laws K (lit< tt)

-- ---- an accepted flip has checked the whole file

-- with refusal 0 the file was accepted and flipped
pub was_flipped : (file set work : List ℕ) → Bytes file → (flip_call K file set work).verdict.refusal.number ≡ 0
    → WasFlipped files (member set) file (flip_call K file set work).file
unfolding flip_call flip_bytes
was_flipped file set work y q = go (flip_out K file set work) (flip_whole K file set work (lit< tt) y) (flip_refusals K file set work (lit< tt) y) q
  where
    go : (m : Out Layout) → Holds (λ (l : Layout) (left : List ℕ). (f : File) × Obeys K f × (file ≡ file_bytes K f)) m
        → Refuses (Among flip_numbers) m → (refusal_of m).number ≡ 0
        → WasFlipped files (member set) file (given (λ (l : Layout). flip_bytes K (member set) file) file m)
    go (refused why) h f e = absurd (not_none flip_numbers refl (rw e at f))
    go (ok l left) h f e = record { whole = h.0; accepted = (file_exactly K file h.0 (lit< tt) y).1 (h.1, h.2); flipped = refl }

-- ---- one call, and a second after it

-- the file as the call leaves it, and the number of the refusal that it gives
abbrev after : List ℕ → List ℕ → List ℕ → List ℕ
after file set work = (flip_call K file set work).file

abbrev refusal : List ℕ → List ℕ → List ℕ → ℕ
refusal file set work = (flip_call K file set work).verdict.refusal.number

module _ (file set work : List ℕ) (y : Bytes file) (q : refusal file set work ≡ 0) where
  pub done : WasFlipped files (member set) file (after file set work)
  done = was_flipped file set work y q

  -- "still accepted"
  pub call_accepted : read_file K (after file set work) ≡ ok (flip_file (member set) done.whole) []
  call_accepted = still_accepted files laws y done

  -- "same lengths and offsets"; 01, Flipping: "The flag bits and every length and offset stay"
  pub call_layout : SameLayout K (layout_of_file done.whole) (layout_of_file (flip_file (member set) done.whole))
  call_layout = flip_layout K (member set) done.whole

  -- phases too: "members read with categories 0 and 2 exchanged, all others as before, even where their stored differences lean on a flipped one"
  pub call_reads : (v : FileVariant) → v.0 < length done.whole.bodies
      → read_row K (after file set work) v ≡ map_out (exchange_reading (member set v)) (read_row K file v)
  call_reads v l = members_exchanged files laws y done v l

  module _ (second work₂ : List ℕ) (y₂ : Bytes (after file set work)) (q₂ : refusal (after file set work) second work₂ ≡ 0) where
    done₂ : WasFlipped files (member second) (after file set work) (after (after file set work) second work₂)
    done₂ = was_flipped (after file set work) second work₂ y₂ q₂

    -- "Flipping one set, then a second, gives byte for byte the flip of the variants in just one of the two"
    pub call_xor : after (after file set work) second work₂ ≡ flip_bytes K (λ (v : FileVariant). just_one (member second v) (member set v)) file
    unfolding flip_bytes
    call_xor = just_one_flipped files laws y done done₂

    -- the same of three calls
    pub call_just_one : (both work₃ : List ℕ) → ((v : FileVariant) → member both v ≡ just_one (member second v) (member set v))
        → refusal file both work₃ ≡ 0 → after (after file set work) second work₂ ≡ after file both work₃
    unfolding flip_bytes
    call_just_one both work₃ e q₃ =
        call_xor ∙ ap (λ (m : FileVariant → Bool). flip_bytes K m file) (sym (fun_ext e)) ∙ sym (was_flipped file both work₃ y q₃).flipped

    -- "so twice restores the file"
    pub call_twice : second ≡ set → after (after file set work) second work₂ ≡ file
    call_twice e = restored files laws y done done₂ (ap member e)
