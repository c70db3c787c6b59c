-- Examples (a) to (j) of document 01: one list under one statement, proved by computation.
-- Assumes nothing.
use Rattle.std.specs.Prelude.{◌≡◌, refl, ℕ, ◌-◌, List, [], ◌∷◌, ◌++◌, map, take, replicate}
use Rattle.format.specs.declared.Refusal.{Refusal}
use Rattle.format.specs.Limits.{variants_to_a_block}
use Rattle.format.specs.Varint.{varint_within, varint_bytes, read_varint_within, read_varint}
use Rattle.format.specs.Numbers.{number_bytes, read_number, numbers_bytes, read_numbers, read_bytes}
use Rattle.format.specs.Packed.{byte_of, packed_after, read_packed_after}
use Rattle.format.specs.Difflist.{heads, sizes_after, size_bytes, values, steps, list_parts, read_entry, read_entries, read_first, read_parts, read_list}
use Rattle.format.specs.PairCode.{code_numbered}
use Rattle.format.specs.Track.{track_bytes, read_pair_code, read_listed, read_kind}
use Rattle.format.specs.Body.{read_body}
use Rattle.format.specs.Variant.{file_variant, last_standing, anchor}
use Rattle.format.specs.Layout.{fixed_bytes, sum, block_count, cut, block_bytes, blocks_bytes, blocked_bytes, arrays_bytes, block_size, blocked_size}
use Rattle.format.specs.Layout.{arrays_size, header_bytes, block_starts, joined, in_parts, layout_bytes, record_start}
use Rattle.format.specs.Header.{read_fixed, need_fixed, read_block, read_blocks, read_blocked, unblocked_arrays, read_arrays, block_place, type_place}
use Rattle.format.specs.Header.{need_types, read_after_fixed, read_header, need_offsets, split_bodies, read_bodies, read_data, read_layout}
use Rattle.format.specs.File.{file_bytes, read_records, read_all, read_file, over_as, variant_as, flip_bytes}
use Rattle.format.specs.Writer.{differences, kind_track, need_categories, write_record}
use Rattle.format.specs.Reply.{refusal_of, header_call, read_call, write_call, flip_call}

infix 60 ◌gives◌
-- ---- what the examples are about

-- 01, Small file used below: file A, here with its two type bytes and its bodies apart
abbrev a_with : ℕ → ℕ → List ℕ → List ℕ
a_with byte-20 byte-21 bodies =
    (0x6c ∷ 0x1b ∷ 0x10 ∷ 3 ∷ 0 ∷ 0 ∷ 0 ∷ 5 ∷ 0 ∷ 0 ∷ 0 ∷ 0x40 ∷ 0x19 ∷ 0 ∷ 0 ∷ 0 ∷ 0 ∷ 0 ∷ 0 ∷ 0 ∷ byte-20 ∷ byte-21 ∷ 2 ∷ 4 ∷ 3 ∷ []) ++ bodies

abbrev bodies_a : List ℕ
bodies_a = 0xe4 ∷ 0x00 ∷ 0x02 ∷ 0x01 ∷ 0x06 ∷ 0x03 ∷ 0x01 ∷ 0x02 ∷ 0x03 ∷ []

abbrev bodies_b : List ℕ
bodies_b = 0xc6 ∷ 0x02 ∷ 0x02 ∷ 0x01 ∷ 0x04 ∷ 0x03 ∷ 0x01 ∷ 0x02 ∷ 0x03 ∷ []

abbrev pub A : List ℕ
A = a_with 0x20 0x04 bodies_a

-- a file of one variant and five samples, whose record is of kind 1
abbrev pub one_record : List ℕ → List ℕ
one_record body = (0x6c ∷ 0x1b ∷ 0x10 ∷ 1 ∷ 0 ∷ 0 ∷ 0 ∷ 5 ∷ 0 ∷ 0 ∷ 0 ∷ 0x40 ∷ 22 ∷ 0 ∷ 0 ∷ 0 ∷ 0 ∷ 0 ∷ 0 ∷ 0 ∷ 1 ∷ 5 ∷ []) ++ body

abbrev record_f : List ℕ
record_f = 0x01 ∷ 0x06 ∷ 0x01 ∷ 0x04 ∷ 0x03 ∷ []

-- what the calls give: the row of a read, the file after a flip, the record written into as many bytes as are lent
abbrev row_of : List ℕ → ℕ → List ℕ
row_of file v = (read_call variants_to_a_block file (file_variant v) (replicate 5 7) (replicate 5 7)).output

abbrev flip_of : List ℕ → ℕ → List ℕ
flip_of file set = (flip_call variants_to_a_block file (set ∷ []) (replicate 5 7)).file

abbrev record_of : List ℕ → ℕ → ℕ → ℕ → List ℕ
record_of categories kind code lent = (write_call categories kind code [] (replicate lent 7)).output

abbrev pub number_and_place : Refusal → List ℕ
number_and_place why = why.number ∷ why.place ∷ []

-- a row of N samples, sample 3 heterozygous and all others in category 0
abbrev row_with_one : ℕ → List ℕ
row_with_one N = (0 ∷ 0 ∷ 0 ∷ 1 ∷ []) ++ replicate (N - 4) 0

-- ---- the list

pub record Example : Type 0 where
  pub what : List ℕ
  pub is : List ℕ

abbrev pub ◌gives◌ : List ℕ → List ℕ → Example
◌gives◌ what is = record { what = what; is = is }

abbrev pub examples : List Example
examples =
    -- (a) the three rows of A
    (row_of A 0 gives (0 ∷ 1 ∷ 2 ∷ 3 ∷ 0 ∷ []))
    ∷ (row_of A 1 gives (0 ∷ 2 ∷ 2 ∷ 3 ∷ 1 ∷ []))
    ∷ (row_of A 2 gives (0 ∷ 0 ∷ 3 ∷ 0 ∷ 0 ∷ []))
    -- (b) A with variant 0 flipped: byte 20 is 30, the bodies are c6 02, 02 01 04 03, 01 02 03; row 1 still reads 02231
    ∷ (flip_of A 1 gives a_with 0x30 0x04 bodies_b)
    ∷ (row_of (flip_of A 1) 1 gives (0 ∷ 2 ∷ 2 ∷ 3 ∷ 1 ∷ []))
    -- (c) variant 1 flipped: only byte 20 differs, 30; row 1 reads 20031
    ∷ (flip_of A 2 gives a_with 0x30 0x04 bodies_a)
    ∷ (row_of (flip_of A 2) 1 gives (2 ∷ 0 ∷ 0 ∷ 3 ∷ 1 ∷ []))
    -- (d) both flipped: byte 20 stays 20, bodies as in (b)
    ∷ (flip_of A 3 gives a_with 0x20 0x04 bodies_b)
    -- (e) variant 2 flipped: byte 21 is 06, and it reads 22322
    ∷ (flip_of A 4 gives a_with 0x20 0x06 bodies_a)
    ∷ (row_of (flip_of A 4) 2 gives (2 ∷ 2 ∷ 3 ∷ 2 ∷ 2 ∷ []))
    -- (f) 01103 in kind 1, code 1: 01 06 01 04 03
    ∷ (record_of (0 ∷ 1 ∷ 1 ∷ 0 ∷ 3 ∷ []) 1 1 5 gives record_f)
    -- (g) that record flipped: 05 19 01 04 03; writing 21123 in kind 1, code 5 gives 05 09 01 04 03
    ∷ (flip_of (one_record record_f) 1 gives one_record (0x05 ∷ 0x19 ∷ 0x01 ∷ 0x04 ∷ 0x03 ∷ []))
    ∷ (record_of (2 ∷ 1 ∷ 1 ∷ 2 ∷ 3 ∷ []) 1 5 5 gives (0x05 ∷ 0x09 ∷ 0x01 ∷ 0x04 ∷ 0x03 ∷ []))
    -- (h) N = 256 uses one-byte numbers, 257 two: a list of sample 3 alone
    ∷ (record_of (row_with_one 256) 4 0 3 gives (0x01 ∷ 0x03 ∷ 0x01 ∷ []))
    ∷ (record_of (row_with_one 257) 4 0 4 gives (0x01 ∷ 0x03 ∷ 0x00 ∷ 0x01 ∷ []))
    -- (i) varint 300 is ac 02; 80 00 is refusal 15
    ∷ (varint_bytes 300 gives (0xac ∷ 0x02 ∷ []))
    ∷ (((refusal_of (read_varint 2 (0x80 ∷ 0x00 ∷ []))).number ∷ []) gives (15 ∷ []))
    -- (j) A cut by one byte is refusal 9 at 33
    ∷ (number_and_place (header_call variants_to_a_block (take 33 A)).verdict.refusal gives (9 ∷ 33 ∷ []))
    ∷ []

pub examples_hold : map (λ (e : Example). e.what) examples ≡ map (λ (e : Example). e.is) examples
unfolding read_call header_call write_call flip_call write_record need_categories kind_track differences flip_bytes variant_as over_as read_file
    read_all read_records file_bytes read_layout read_data read_bodies split_bodies need_offsets read_header read_after_fixed need_types type_place block_place
    read_arrays unblocked_arrays
    read_blocked read_blocks read_block need_fixed read_fixed record_start layout_bytes in_parts header_bytes joined block_starts arrays_size blocked_size
    block_size arrays_bytes blocked_bytes blocks_bytes block_bytes cut block_count sum fixed_bytes anchor last_standing read_body read_kind read_listed
    read_pair_code track_bytes code_numbered read_list read_parts read_first read_entries read_entry list_parts steps values size_bytes sizes_after
    heads read_packed_after packed_after byte_of read_bytes read_numbers numbers_bytes read_number number_bytes read_varint_within varint_within
examples_hold = refl
