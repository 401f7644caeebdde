-- What any bytes mean as a parcel: its contents, or the number and place of the refusal. Assumes nothing.
use Rattle.std.specs.Prelude.{◌≡◌, ℕ, zero, suc, ◌-◌, cond, not, ◌↔◌, List, [], ◌∷◌, length, take, drop, Some, None, Ok, Err, Option, Result, ◌==◌, nat_le, nat_lt, slice_index}
use Rattle.std.specs.Result.{result_map_both}
use Rattle.std.specs.Str.{bytes_eq}
use Rattle.fields.specs.Numbers.{number, part}
use Rattle.parcels.specs.Format.{ItemValue, message, note, Contents, parcel_mark, parcel_version, encode, Fits}

-- the first k bytes made into an item, with the bytes after them, if there are as many
abbrev pub cut_item : ℕ → (List ℕ → ItemValue) → List ℕ → Option (ItemValue × List ℕ)
cut_item k item bytes = cond (nat_le k (length bytes)) (Some (item (take k bytes), drop k bytes)) None

-- a length, and a note of that length
abbrev pub read_note : List ℕ → Option (ItemValue × List ℕ)
read_note [] = None
read_note (n ∷ rest) = cut_item n note rest

-- the item at the front, with the bytes after it; none if it is cut short, missing or of an unknown first byte
abbrev pub read_item : ℕ → List ℕ → Option (ItemValue × List ℕ)
read_item width [] = None
read_item width (first ∷ rest) = cond (first == 1) (cut_item width message rest) (cond (first == 2) (read_note rest) None)

-- an item put before those that are read after it, or the refusal where there is none
abbrev pub item_then : Option (ItemValue × List ℕ) → ℕ × ℕ → (List ℕ → Result (List ItemValue) (ℕ × ℕ)) → Result (List ItemValue) (ℕ × ℕ)
item_then None refusal others = Err refusal
item_then (Some p) refusal others = result_map_both (λ items. p.0 ∷ items) (λ e. e) (others p.1)

-- as many items as counted, and nothing after them. What is refused begins where the bytes left begin, which is the
-- parcel's length less theirs.
abbrev pub read_items : (width total count : ℕ) → List ℕ → Result (List ItemValue) (ℕ × ℕ)
read_items width total zero [] = Ok []
read_items width total zero (b ∷ rest) = Err (33, total - length (b ∷ rest))
read_items width total (suc n) bytes = item_then (read_item width bytes) (33, total - length bytes) (read_items width total n)

-- the fields of the header, which has twelve bytes
abbrev pub chapter_of : List ℕ → ℕ
chapter_of bytes = number (part 6 4 bytes)

abbrev pub count_of : List ℕ → ℕ
count_of bytes = number (part 10 2 bytes)

-- the refusal of a header, if any: it is cut short, or mark, version or kind differs, in this order
abbrev pub header_refusal : ℕ → List ℕ → Option (ℕ × ℕ)
header_refusal kind bytes =
    cond (nat_lt (length bytes) 12) (Some (31, length bytes))
    (cond (not (bytes_eq (part 0 3 bytes) parcel_mark)) (Some (32, 0))
    (cond (not (number (part 3 2 bytes) == parcel_version)) (Some (32, 3))
    (cond (not (slice_index bytes 5 == kind)) (Some (32, 5)) None)))

-- what follows, unless there was a refusal before it
abbrev pub unless_refused : {X : Type 0} → Option (ℕ × ℕ) → Result X (ℕ × ℕ) → Result X (ℕ × ℕ)
unless_refused None r = r
unless_refused (Some e) r = Err e

-- items under the chapter number of the header
abbrev pub for_chapter : List ℕ → List ItemValue → Contents
for_chapter bytes items = record { chapter = chapter_of bytes; items = items }

-- a whole parcel of a kind and its message width
abbrev pub read_parcel : (kind width : ℕ) → List ℕ → Result Contents (ℕ × ℕ)
read_parcel kind width bytes =
    unless_refused (header_refusal kind bytes)
    (result_map_both (for_chapter bytes) (λ e. e) (read_items width (length bytes) (count_of bytes) (drop 12 bytes)))

-- the items that can be read from the front, at most n of them
abbrev pub front_then : Option (ItemValue × List ℕ) → (List ℕ → List ItemValue) → List ItemValue
front_then None others = []
front_then (Some p) others = p.0 ∷ others p.1

abbrev pub front_items : (width n : ℕ) → List ℕ → List ItemValue
front_items width zero bytes = []
front_items width (suc n) bytes = front_then (read_item width bytes) (front_items width n)

-- an answer to bytes that accepts exactly what was written: it is Ok c exactly if the bytes are c written down
abbrev pub AcceptsWritten : (kind width : ℕ) → List ℕ → Result Contents (ℕ × ℕ) → Type 0
AcceptsWritten kind width bytes r = (c : Contents) → (r ≡ Ok c) ↔ ((bytes ≡ encode kind c) × Fits width c)
