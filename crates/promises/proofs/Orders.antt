-- Which refusal comes first, and which variant it names: inputs with two faults or more, one list under one statement, proved by computation.
-- 01, Replies: "Order: 1 to 11 by number, the lowest place first within a number (offset fields before the end)."
-- Why they are proved and not only run: that a file is accepted exactly when it obeys does not say which refusal another gets, and the code follows the
-- definitions. Two rules that changed places in a definition would pass every other proof. Document 01's own examples are format's list `examples`.
-- Assumes nothing.
use mathlib.Core.Path.{◌≡◌, refl}
use Prim.Native.Nat.{ℕ, ◌+◌}
use mathlib.Core.Bool.{not}
use mathlib.Core.List.{List, [], ◌∷◌, ◌++◌, map}
use lib.ListN.{length, take, set, replicate}
use lib.Dec.{eqb}
use Rattle.format.specs.declared.Refusal.{Refusal}
use Rattle.format.specs.Limits.{variants_to_a_block}
use Rattle.format.specs.Varint.{varint_within, read_varint_within}
use Rattle.format.specs.Numbers.{number_bytes, read_number, numbers_bytes, read_numbers, read_bytes}
use Rattle.format.specs.Packed.{byte_of, packed_after, read_packed_after}
use Rattle.format.specs.Difflist.{number_width, heads, sizes_after, size_bytes, values, steps, list_parts}
use Rattle.format.specs.Difflist.{read_entry, read_entries, read_first, read_parts, read_list}
use Rattle.format.specs.PairCode.{code_numbered}
use Rattle.format.specs.Track.{track_bytes, read_pair_code, read_listed, read_kind}
use Rattle.format.specs.Body.{read_body}
use Rattle.format.specs.Variant.{file_variant, last_standing, anchor}
use Rattle.format.specs.Layout.{fixed_bytes, sum, block_count, cut, block_bytes, blocks_bytes, blocked_bytes, arrays_bytes, block_size, blocked_size}
use Rattle.format.specs.Layout.{arrays_size, header_bytes, block_starts, joined, in_parts, layout_bytes, record_start}
use Rattle.format.specs.Header.{read_fixed, need_fixed, read_block, read_blocks, read_blocked, unblocked_arrays, read_arrays, block_place, type_place}
use Rattle.format.specs.Header.{need_types, read_after_fixed, read_header, need_offsets, split_bodies, read_bodies, read_data, read_layout}
use Rattle.format.specs.File.{file_bytes, read_records, read_all, read_file, over_as, variant_as, flip_bytes}
use Rattle.format.specs.Phase.{heterozygous_count, some_unphased, phase_bits, phase_track_bytes, ones, phases_told, read_phase_track, spread, gathered}
use Rattle.format.specs.Writer.{differences, kind_track, need_categories, write_record, need_phases, write_phased}
use Rattle.format.specs.Reply.{refusal_of, header_call, check_call, read_call, lookup_call, view_call, write_call, write_phased_call}
use Rattle.format.specs.Reply.{flip_call}
use Rattle.format.specs.Examples.{A, one_record, number_and_place, Example, ◌gives◌}

-- what a refusal tells: its number, its place and the variant that it names
abbrev all_told : Refusal → List ℕ
all_told why = why.number ∷ why.place ∷ why.variant.0 ∷ []

-- of a header check; of a whole-file check with a work area of so many bytes; of a read of variant v into so many bytes, with a work area of five; of a
-- lookup of a sample; of a view; of a flip of a set; of a write
abbrev header : List ℕ → List ℕ
header file = all_told (header_call variants_to_a_block file).verdict.refusal

abbrev check : List ℕ → ℕ → List ℕ
check file lent = all_told (check_call variants_to_a_block file (replicate lent 7)).reply.verdict.refusal

abbrev read : List ℕ → ℕ → ℕ → List ℕ
read file v lent = all_told (read_call variants_to_a_block file (file_variant v) (replicate lent 7) (replicate 5 7)).verdict.refusal

abbrev lookup : List ℕ → ℕ → ℕ → ℕ → List ℕ
lookup file v sample lent = all_told (lookup_call variants_to_a_block file (file_variant v) sample (replicate lent 7)).verdict.refusal

abbrev view : List ℕ → ℕ → List ℕ
view file v = all_told (view_call variants_to_a_block file (file_variant v)).refusal

abbrev flip : List ℕ → List ℕ → List ℕ
flip file bits = all_told (flip_call variants_to_a_block file bits (replicate 5 7)).verdict.refusal

abbrev write : List ℕ → ℕ → ℕ → List ℕ → ℕ → List ℕ
write categories kind code lent room = all_told (write_call categories kind code lent (replicate room 7)).verdict.refusal

abbrev write_both : List ℕ → List ℕ → ℕ → ℕ → List ℕ → ℕ → List ℕ
write_both categories phases kind code lent room =
    all_told (write_phased_call categories phases kind code lent (replicate room 7)).verdict.refusal

-- number and place in a list, where no variant is named yet: of a record that ends at `end`, of N samples, none of them with value 0
abbrev list_reply : ℕ → ℕ → List ℕ → List ℕ
list_reply N end bs =
    number_and_place (refusal_of (read_list (record { samples = N; may = λ (sample value : ℕ). not (eqb value 0) }) (number_width N) end bs))

-- such a list of 65 samples in two groups, of 64 and of one: the first has the samples 0 to 63, in one-byte steps
abbrev two_groups : ℕ → ℕ → List ℕ
two_groups size head = (65 ∷ 0 ∷ head ∷ size ∷ []) ++ (replicate 16 0x55 ++ (1 ∷ replicate 63 1))

-- one of 129 samples in three groups, whose size bytes stand at the 6th and 7th of its 166 bytes
abbrev three_groups : ℕ → ℕ → List ℕ
three_groups first second = (0x81 ∷ 1 ∷ 0 ∷ 64 ∷ 128 ∷ first ∷ second ∷ []) ++ (replicate 32 0x55 ++ (1 ∷ replicate 126 1))

-- a file of one variant and five samples, of a kind: its record starts at byte 22
abbrev of_kind : ℕ → List ℕ → List ℕ
of_kind kind body = set (set (one_record body) 20 kind) 21 (length body)

-- the same of a phased record, with 8-bit types
abbrev of_phased : ℕ → List ℕ → List ℕ
of_phased kind body = set (of_kind (kind + 16) body) 11 0x44

-- a file of mode 0x02, of one variant and five samples, with a form and the bytes after it
abbrev unblocked_file : ℕ → List ℕ → List ℕ
unblocked_file form rest = (0x6c ∷ 0x1b ∷ 0x02 ∷ 1 ∷ 0 ∷ 0 ∷ 0 ∷ 5 ∷ 0 ∷ 0 ∷ 0 ∷ form ∷ []) ++ rest

abbrev pub orders : List Example
orders =
    -- 1 at the file's length, whatever stands in it
    (header [] gives (1 ∷ 0 ∷ 0 ∷ []))
    ∷ (header (replicate 11 0) gives (1 ∷ 11 ∷ 0 ∷ []))
    -- 2 before 3 before 4, M before N, before 5, before 6
    ∷ (header (set (set A 0 0) 2 0) gives (2 ∷ 0 ∷ 0 ∷ []))
    ∷ (header (set (set A 2 3) 3 0) gives (3 ∷ 2 ∷ 0 ∷ []))
    ∷ (header (set (set A 3 0) 7 0) gives (4 ∷ 3 ∷ 0 ∷ []))
    ∷ (header (set (set A 7 0) 11 0x08) gives (4 ∷ 7 ∷ 0 ∷ []))
    ∷ (header (take 20 (set A 11 0x48)) gives (5 ∷ 11 ∷ 3 ∷ []))
    -- 5 for bit 4 and for bit 5, before 6; in mode 0x02 for each of bits 0 to 5
    ∷ (header (take 20 (set A 11 0x50)) gives (5 ∷ 11 ∷ 3 ∷ []))
    ∷ (header (take 20 (set A 11 0x60)) gives (5 ∷ 11 ∷ 3 ∷ []))
    ∷ (header (unblocked_file 0xc1 []) gives (5 ∷ 11 ∷ 1 ∷ []))
    ∷ (header (unblocked_file 0xc8 []) gives (5 ∷ 11 ∷ 1 ∷ []))
    ∷ (header (unblocked_file 0xd0 []) gives (5 ∷ 11 ∷ 1 ∷ []))
    ∷ (header (unblocked_file 0xe0 []) gives (5 ∷ 11 ∷ 1 ∷ []))
    -- mode 0x02: 6 for the flag bits, 7 for their unused bits before 9; its record's unused bits (18)
    ∷ (header (unblocked_file 0xc0 []) gives (6 ∷ 12 ∷ 1 ∷ []))
    ∷ (header (unblocked_file 0xc0 (0x02 ∷ [])) gives (7 ∷ 12 ∷ 1 ∷ []))
    ∷ (header (unblocked_file 0xc0 (0x01 ∷ 0xe4 ∷ [])) gives (9 ∷ 14 ∷ 1 ∷ []))
    ∷ (header (unblocked_file 0x80 (0xe4 ∷ 0x00 ∷ 0x00 ∷ [])) gives (9 ∷ 15 ∷ 1 ∷ []))
    ∷ (read (unblocked_file 0x40 (0xe4 ∷ 0x04 ∷ [])) 0 5 gives (18 ∷ 13 ∷ 0 ∷ []))
    -- 6 before 7, 7 before 8, 8 before 9, whatever stands first
    ∷ (header (take 24 (set A 21 0x14)) gives (6 ∷ 24 ∷ 3 ∷ []))
    ∷ (header (set (set A 20 0x50) 21 0x14) gives (7 ∷ 21 ∷ 3 ∷ []))
    ∷ (header (set (set A 20 0x50) 12 0) gives (8 ∷ 20 ∷ 1 ∷ []))
    -- 8 names the lower of two such types in a byte, and the lower of two in two bytes
    ∷ (header (set A 20 0x55) gives (8 ∷ 20 ∷ 0 ∷ []))
    ∷ (header (set (set A 20 0x50) 21 0x05) gives (8 ∷ 20 ∷ 1 ∷ []))
    ∷ (header (set A 21 0x05) gives (8 ∷ 21 ∷ 2 ∷ []))
    -- 9: an offset field before the end
    ∷ (header (take 33 (set A 12 0)) gives (9 ∷ 12 ∷ 3 ∷ []))
    ∷ (header (take 33 A) gives (9 ∷ 33 ∷ 3 ∷ []))
    -- 9 before 10 before 11; 11 before the records
    ∷ (read (set A 12 0) 3 4 gives (9 ∷ 12 ∷ 3 ∷ []))
    ∷ (read A 3 4 gives (10 ∷ 0 ∷ 3 ∷ []))
    ∷ (read (set A 26 0xff) 4 5 gives (11 ∷ 0 ∷ 3 ∷ []))
    -- an anchor before the record that leans on it; a record's own fault where the anchor has none; no other record is looked at
    ∷ (read (set (set A 26 0x04) 29 0x05) 1 5 gives (18 ∷ 26 ∷ 0 ∷ []))
    ∷ (read (set A 29 0x05) 1 5 gives (17 ∷ 29 ∷ 1 ∷ []))
    ∷ (read (set A 29 0x05) 2 5 gives (0 ∷ 0 ∷ 0 ∷ []))
    -- a lookup: the same, and 11 for its sample too; the whole record is checked
    ∷ (lookup (set A 12 0) 3 5 4 gives (9 ∷ 12 ∷ 3 ∷ []))
    ∷ (lookup A 3 5 4 gives (10 ∷ 0 ∷ 3 ∷ []))
    ∷ (lookup (set A 26 0xff) 3 0 5 gives (11 ∷ 0 ∷ 3 ∷ []))
    ∷ (lookup (set A 29 0x05) 1 5 5 gives (11 ∷ 0 ∷ 1 ∷ []))
    ∷ (lookup A 4 5 5 gives (11 ∷ 0 ∷ 3 ∷ []))
    ∷ (lookup (set (set A 26 0x04) 29 0x05) 1 0 5 gives (18 ∷ 26 ∷ 0 ∷ []))
    ∷ (lookup (set A 29 0x05) 1 0 5 gives (17 ∷ 29 ∷ 1 ∷ []))
    ∷ (lookup (set A 29 0x05) 2 0 5 gives (0 ∷ 0 ∷ 0 ∷ []))
    -- a view: 9 before 11, and no record
    ∷ (view (set A 12 0) 3 gives (9 ∷ 12 ∷ 3 ∷ []))
    ∷ (view (set A 29 0x05) 4 gives (11 ∷ 0 ∷ 3 ∷ []))
    ∷ (view (set A 29 0x05) 1 gives (0 ∷ 0 ∷ 0 ∷ []))
    -- a whole-file check: 9 before 10 before the records, in variant order
    ∷ (check (set A 12 0) 4 gives (9 ∷ 12 ∷ 3 ∷ []))
    ∷ (check (set A 29 0x05) 4 gives (10 ∷ 0 ∷ 3 ∷ []))
    ∷ (check (set (set A 26 0x04) 29 0x05) 5 gives (18 ∷ 26 ∷ 0 ∷ []))
    ∷ (check (set (set A 29 0x05) 33 0x00) 5 gives (17 ∷ 29 ∷ 1 ∷ []))
    ∷ (check (set A 33 0x00) 5 gives (17 ∷ 33 ∷ 2 ∷ []))
    -- a flip: 10 before 21 before the records, of which the first comes first
    ∷ (flip (set A 29 0x05) (0x0f ∷ 0 ∷ []) gives (10 ∷ 0 ∷ 3 ∷ []))
    ∷ (flip (set A 29 0x05) (0x0f ∷ []) gives (21 ∷ 0 ∷ 3 ∷ []))
    ∷ (flip (set (set A 29 0x05) 33 0x00) (0x07 ∷ []) gives (17 ∷ 29 ∷ 1 ∷ []))
    -- kind 1, part by part: its code (12, 14), its bits (12, 18), its list (17), lastly 13
    ∷ (read (of_kind 1 []) 0 5 gives (12 ∷ 22 ∷ 0 ∷ []))
    ∷ (read (of_kind 1 (4 ∷ [])) 0 5 gives (14 ∷ 22 ∷ 0 ∷ []))
    ∷ (read (of_kind 1 (4 ∷ 0x26 ∷ [])) 0 5 gives (14 ∷ 22 ∷ 0 ∷ []))
    ∷ (read (of_kind 1 (1 ∷ [])) 0 5 gives (12 ∷ 23 ∷ 0 ∷ []))
    ∷ (read (of_kind 1 (1 ∷ 0x26 ∷ [])) 0 5 gives (18 ∷ 23 ∷ 0 ∷ []))
    ∷ (read (of_kind 1 (1 ∷ 0x26 ∷ 1 ∷ 4 ∷ 1 ∷ [])) 0 5 gives (18 ∷ 23 ∷ 0 ∷ []))
    ∷ (read (of_kind 1 (1 ∷ 0x06 ∷ 1 ∷ 4 ∷ 1 ∷ 9 ∷ [])) 0 5 gives (17 ∷ 26 ∷ 0 ∷ []))
    ∷ (read (of_kind 1 (1 ∷ 0x06 ∷ 1 ∷ 4 ∷ 3 ∷ 9 ∷ [])) 0 5 gives (13 ∷ 27 ∷ 0 ∷ []))
    -- 13 last in the other kinds too: after a packed array (12, 18), after a list (17), also an empty one
    ∷ (read (of_kind 0 (0xe4 ∷ [])) 0 5 gives (12 ∷ 23 ∷ 0 ∷ []))
    ∷ (read (of_kind 0 (0xe4 ∷ 0x04 ∷ 9 ∷ [])) 0 5 gives (18 ∷ 23 ∷ 0 ∷ []))
    ∷ (read (of_kind 0 (0xe4 ∷ 0x00 ∷ 9 ∷ [])) 0 5 gives (13 ∷ 24 ∷ 0 ∷ []))
    ∷ (read (of_kind 4 (1 ∷ 2 ∷ 0 ∷ 9 ∷ [])) 0 5 gives (17 ∷ 24 ∷ 0 ∷ []))
    ∷ (read (of_kind 4 (1 ∷ 2 ∷ 3 ∷ 9 ∷ [])) 0 5 gives (13 ∷ 25 ∷ 0 ∷ []))
    ∷ (read (of_kind 4 (0 ∷ 9 ∷ [])) 0 5 gives (13 ∷ 23 ∷ 0 ∷ []))
    -- a phase track: the main track (18); its first part (12, 18), then its phase bits (12, 18); then bytes left (13)
    ∷ (read (of_phased 0 (0x55 ∷ 0x05 ∷ [])) 0 5 gives (18 ∷ 23 ∷ 0 ∷ []))
    ∷ (read (of_phased 0 (0x55 ∷ 0x01 ∷ [])) 0 5 gives (12 ∷ 24 ∷ 0 ∷ []))
    ∷ (read (of_phased 0 (0x55 ∷ 0x01 ∷ 0x02 ∷ [])) 0 5 gives (18 ∷ 24 ∷ 0 ∷ []))
    ∷ (read (of_phased 0 (0x55 ∷ 0x01 ∷ 0x7f ∷ [])) 0 5 gives (18 ∷ 24 ∷ 0 ∷ []))
    ∷ (read (of_phased 0 (0x55 ∷ 0x01 ∷ 0x00 ∷ [])) 0 5 gives (12 ∷ 25 ∷ 0 ∷ []))
    ∷ (read (of_phased 0 (0x55 ∷ 0x01 ∷ 0x00 ∷ 0x20 ∷ 9 ∷ [])) 0 5 gives (18 ∷ 25 ∷ 0 ∷ []))
    ∷ (read (of_phased 0 (0x55 ∷ 0x01 ∷ 0x00 ∷ 0x1f ∷ 9 ∷ [])) 0 5 gives (13 ∷ 26 ∷ 0 ∷ []))
    ∷ (read (of_phased 0 (0x55 ∷ 0x01 ∷ 0x01 ∷ 9 ∷ [])) 0 5 gives (13 ∷ 25 ∷ 0 ∷ []))
    ∷ (read (of_phased 0 (0x55 ∷ 0x01 ∷ 0x3f ∷ 0x1f ∷ [])) 0 5 gives (0 ∷ 0 ∷ 0 ∷ []))
    -- the writer of phased records: 19, 10 (phases), 20 (categories, then anchor), 22, 10 (output)
    ∷ (write_both (4 ∷ []) [] 5 0 [] 0 gives (19 ∷ 0 ∷ 0 ∷ []))
    ∷ (write_both (4 ∷ []) [] 0 0 [] 0 gives (10 ∷ 0 ∷ 0 ∷ []))
    ∷ (write_both (1 ∷ 4 ∷ []) (3 ∷ 0 ∷ []) 0 0 [] 0 gives (20 ∷ 1 ∷ 0 ∷ []))
    ∷ (write_both (1 ∷ 1 ∷ []) (3 ∷ 0 ∷ []) 2 0 (0 ∷ 9 ∷ []) 0 gives (20 ∷ 1 ∷ 0 ∷ []))
    ∷ (write_both (1 ∷ 0 ∷ []) (2 ∷ 1 ∷ []) 0 0 [] 0 gives (22 ∷ 1 ∷ 0 ∷ []))
    ∷ (write_both (1 ∷ 0 ∷ []) (3 ∷ 1 ∷ []) 0 0 [] 0 gives (22 ∷ 0 ∷ 0 ∷ []))
    ∷ (write_both (1 ∷ 0 ∷ []) (2 ∷ 0 ∷ []) 0 0 [] 2 gives (10 ∷ 0 ∷ 0 ∷ []))
    ∷ (write_both (1 ∷ 0 ∷ []) (2 ∷ 0 ∷ []) 0 0 [] 3 gives (0 ∷ 0 ∷ 0 ∷ []))
    -- the writer: 4, 19, 10 (anchor), 20 (categories, then anchor), 10 (output)
    ∷ (write (replicate 65537 4) 5 0 [] 0 gives (4 ∷ 0 ∷ 0 ∷ []))
    ∷ (write [] 2 0 (9 ∷ []) 0 gives (4 ∷ 0 ∷ 0 ∷ []))
    ∷ (write [] 5 7 (1 ∷ []) 0 gives (4 ∷ 0 ∷ 0 ∷ []))
    ∷ (write (4 ∷ []) 5 0 (1 ∷ []) 0 gives (19 ∷ 0 ∷ 0 ∷ []))
    ∷ (write (4 ∷ []) 1 4 (1 ∷ []) 0 gives (19 ∷ 0 ∷ 0 ∷ []))
    ∷ (write (4 ∷ []) 0 1 (1 ∷ []) 0 gives (19 ∷ 0 ∷ 0 ∷ []))
    ∷ (write (4 ∷ []) 0 0 (1 ∷ []) 0 gives (10 ∷ 0 ∷ 0 ∷ []))
    ∷ (write (0 ∷ 4 ∷ []) 2 0 (9 ∷ 9 ∷ []) 0 gives (20 ∷ 1 ∷ 0 ∷ []))
    ∷ (write (0 ∷ 1 ∷ []) 2 0 (9 ∷ 9 ∷ []) 0 gives (20 ∷ 0 ∷ 0 ∷ []))
    ∷ (write (0 ∷ 1 ∷ []) 0 0 [] 0 gives (10 ∷ 0 ∷ 0 ∷ []))
    -- a list: its count (12, 15, 16); the parts fit (12); unused value bits (18); a number (23, 24) before its value (17)
    ∷ (list_reply 9 40 (0x80 ∷ 0x80 ∷ 0x80 ∷ 0x80 ∷ []) gives (12 ∷ 40 ∷ []))
    ∷ (list_reply 9 40 (0x80 ∷ 0x80 ∷ 0x80 ∷ 0x80 ∷ 0x80 ∷ []) gives (15 ∷ 35 ∷ []))
    ∷ (list_reply 9 40 (10 ∷ []) gives (16 ∷ 39 ∷ []))
    ∷ (list_reply 9 40 (1 ∷ 9 ∷ []) gives (12 ∷ 40 ∷ []))
    ∷ (list_reply 9 40 (1 ∷ 9 ∷ 0xf0 ∷ []) gives (18 ∷ 39 ∷ []))
    ∷ (list_reply 9 40 (1 ∷ 9 ∷ 0x00 ∷ []) gives (24 ∷ 38 ∷ []))
    ∷ (list_reply 9 40 (1 ∷ 8 ∷ 0x00 ∷ []) gives (17 ∷ 39 ∷ []))
    -- entry by entry: the first one's value (17) before the second one's varint (15)
    ∷ (list_reply 9 40 (2 ∷ 3 ∷ 0x04 ∷ 0x80 ∷ 0x00 ∷ []) gives (17 ∷ 37 ∷ []))
    -- an entry's varint (12, 15) before its number (23, 24)
    ∷ (list_reply 9 40 (2 ∷ 8 ∷ 0x05 ∷ []) gives (12 ∷ 40 ∷ []))
    ∷ (list_reply 9 40 (2 ∷ 8 ∷ 0x05 ∷ 0x80 ∷ 0x00 ∷ []) gives (15 ∷ 38 ∷ []))
    ∷ (list_reply 9 40 (2 ∷ 8 ∷ 0x01 ∷ 0x00 ∷ []) gives (23 ∷ 39 ∷ []))
    ∷ (list_reply 9 40 (2 ∷ 8 ∷ 0x01 ∷ 0x01 ∷ []) gives (24 ∷ 39 ∷ []))
    -- a group's last value (17) before its size byte (25), that before the next group's head (23, 24), that before its value (17)
    ∷ (list_reply 256 100 (two_groups 0 64) gives (0 ∷ 0 ∷ []))
    ∷ (list_reply 256 100 (set (two_groups 1 63) 19 0x15) gives (17 ∷ 35 ∷ []))
    ∷ (list_reply 256 100 (two_groups 1 63) gives (25 ∷ 19 ∷ []))
    ∷ (list_reply 256 100 (set (two_groups 0 63) 20 0) gives (23 ∷ 18 ∷ []))
    ∷ (list_reply 200 100 (set (two_groups 0 200) 20 0) gives (24 ∷ 18 ∷ []))
    ∷ (list_reply 256 100 (set (two_groups 0 64) 20 0) gives (17 ∷ 36 ∷ []))
    -- 25 at its own size byte, of the first group that has a wrong one
    ∷ (list_reply 256 300 (three_groups 0 0) gives (0 ∷ 0 ∷ []))
    ∷ (list_reply 256 300 (three_groups 1 1) gives (25 ∷ 139 ∷ []))
    ∷ (list_reply 256 300 (three_groups 0 1) gives (25 ∷ 140 ∷ []))
    ∷ []

pub orders_hold : map (λ (e : Example). e.what) orders ≡ map (λ (e : Example). e.is) orders
unfolding header_call check_call read_call lookup_call view_call write_call flip_call write_record need_categories kind_track differences flip_bytes
    variant_as over_as read_file write_phased_call write_phased need_phases gathered some_unphased heterozygous_count phase_bits phase_track_bytes
    read_phase_track ones phases_told spread
    read_all read_records file_bytes read_layout read_data read_bodies split_bodies need_offsets read_header read_after_fixed need_types type_place block_place
    read_arrays unblocked_arrays
    read_blocked read_blocks read_block need_fixed read_fixed record_start layout_bytes in_parts header_bytes joined block_starts arrays_size blocked_size
    block_size arrays_bytes blocked_bytes blocks_bytes block_bytes cut block_count sum fixed_bytes anchor last_standing read_body read_kind read_listed
    read_pair_code track_bytes code_numbered read_list read_parts read_first read_entries read_entry list_parts steps values size_bytes sizes_after
    heads read_packed_after packed_after byte_of read_bytes read_numbers numbers_bytes read_number number_bytes read_varint_within varint_within
orders_hold = refl
