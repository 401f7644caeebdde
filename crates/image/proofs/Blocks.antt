-- A node's block, written and read back. Assumes nothing.
use Rattle.std.proofs.Common.{◌≡◌, ℕ, zero, suc, ◌+◌, ◌-◌, ◌*◌, ◌/◌, ◌%◌, ◌^◌, ◌<◌, ◌≤◌, Bool, true, false, cond, eqb, ltb, List, [], ◌∷◌, ◌++◌, map, length, get_or, drop, replicate, count_by, sym, refl, ap, ◌∙◌, ap₂, append_assoc, mul-le-mul_right, div-one, arith, pow_mono}
use native.Mathlib.Nat.{pow-succ', div-div-eq-div-mul, div-eq_of_lt}
use lib.Count.{ones, ones_step}
use Rattle.std.specs.List.{flat_map, AllByRecursion}
use Rattle.std.proofs.lemmas.List.FromFn.{fill_by_all}
use Rattle.std.proofs.ByRecursion.{All-append, All-get_or}
use Rattle.std.proofs.lemmas.List.{length-append, length-map, length-replicate, get_or-map, drop_at, drop-drop}
use Rattle.std.proofs.lemmas.List.Sums.{sum_by-cons, count_by-le-length}
use Rattle.std.proofs.lemmas.Bool.{and_parts, leb-true, le-ltb}
use Rattle.fields.specs.Numbers.{Bytes, le, part, filled}
use Rattle.fields.proofs.Numbers.{bytes_le, number-le}
use Rattle.fields.proofs.Parts.{part_past, length_joined, part_joined}
use Rattle.kinds.specs.Kind.{Kind, Lawful}
use Rattle.tree.proofs.Lists.{all_of}
use Rattle.tree.specs.Tree.{Section, Node}
use Rattle.image.specs.Image.{block_of, mask_of, section_record, tree_block}
use Rattle.image.specs.Laws.{Block, section_says, SectionFits, NodeFits, ReadsBack, TreeBlockReadsBack}
use Rattle.image.specs.Messages.{total_measure}
use Rattle.image.specs.Reading.{section_fields, mask, section_count, slot, section_at, sections_of}
use Rattle.image.specs.Settings.{alpha_fits}

pub length-filled : {X : Type 0} (x : X) (n : ℕ) (xs : List X) → length xs ≤ n → length (filled n x xs) ≡ n
length-filled x n xs h = omega (arith, length-append xs (replicate (n - length xs) x), length-replicate (n - length xs) x)

pub bytes_zeros : (n : ℕ) → Bytes (replicate n 0)
bytes_zeros zero = tt
bytes_zeros (suc n) = (omega arith, bytes_zeros n)

-- what is laid down fits, so the block has 256 bytes
pub block_of_lem : (bytes : List ℕ) → length bytes ≤ 256 → Bytes bytes → Block (block_of bytes)
block_of_lem bytes short small = record { long = length-filled 0 256 bytes short; small = All-append _ bytes _ small (bytes_zeros (256 - length bytes)) }

-- the mask: fewer bits than flags, the flags as bits, and as many ones
mask_lt : (flags : List Bool) → mask_of flags < 2 ^ length flags
mask_lt [] = omega arith
mask_lt (true ∷ flags) = omega (arith, mask_lt flags, pow-succ' 2 (length flags))
mask_lt (false ∷ flags) = omega (arith, mask_lt flags, pow-succ' 2 (length flags))

-- one flag more: the lowest bit, and the mask of the others above it
mask_low : (b : Bool) (flags : List Bool) → (mask_of (b ∷ flags) % 2 ≡ cond b 1 0) × (mask_of (b ∷ flags) / 2 ≡ mask_of flags)
mask_low true flags = (omega arith, omega arith)
mask_low false flags = (omega arith, omega arith)

pub ones-mask : (flags : List Bool) → ones (mask_of flags) ≡ count_by (λ b. b) flags
unfolding ones
ones-mask [] = refl
ones-mask (b ∷ flags) =
    let low = mask_low b flags in
    ones_step (mask_of (b ∷ flags)) ∙ ap₂ ◌+◌ low.0 (ap ones low.1 ∙ ones-mask flags) ∙ sym (sum_by-cons (λ b. cond b 1 0) b flags)

one_is : (b : Bool) → eqb (cond b 1 0) 1 ≡ b
one_is true = refl
one_is false = refl

pub bit_of_mask : (flags : List Bool) (i : ℕ) → i < length flags → eqb (mask_of flags / 2 ^ i % 2) 1 ≡ get_or flags i false
bit_of_mask [] i lt = absurd (omega arith)
bit_of_mask (b ∷ flags) zero lt = ap (λ n. eqb (n % 2) 1) (div-one (mask_of (b ∷ flags))) ∙ ap (λ n. eqb n 1) (mask_low b flags).0 ∙ one_is b
bit_of_mask (b ∷ flags) (suc i) lt =
    let shifted : mask_of (b ∷ flags) / 2 ^ suc i ≡ mask_of flags / 2 ^ i = ap (λ p. mask_of (b ∷ flags) / p) (pow-succ' 2 i) ∙ sym (div-div-eq-div-mul (mask_of (b ∷ flags)) 2 (2 ^ i)) ∙ ap (λ n. n / 2 ^ i) (mask_low b flags).1 in
    ap (λ n. eqb (n % 2) 1) shifted ∙ bit_of_mask flags i (omega arith)

-- what a section record says of a section that fits
record_says : (kind : Kind) (s : Section (List ℕ)) → SectionFits kind s → section_fields (section_record kind s) ≡ section_says kind s
record_says kind s fits =
    let number' = number-le 2 s.number fits.number in
    let weight' = number-le 2 (length s.members) fits.weight in
    let measure' = number-le 4 (total_measure kind s.members) fits.measure in
    λ i. record { number = number' i; weight = weight' i; measure = measure' i }

bytes_joined : {X : Type 0} (f : X → List ℕ) (xs : List X) → AllByRecursion (λ x. Bytes (f x)) xs → Bytes (flat_map f xs)
bytes_joined f [] h = tt
bytes_joined f (x ∷ xs) h = All-append _ (f x) (flat_map f xs) h.0 (bytes_joined f xs h.1)

bytes_append : (xs ys : List ℕ) → Bytes xs → Bytes ys → Bytes (xs ++ ys)
bytes_append xs ys = All-append (λ b. b < 256) xs ys

-- a number and what follows it
pub bytes_then : (k n : ℕ) (rest : List ℕ) → Bytes rest → Bytes (le k n ++ rest)
bytes_then k n rest = bytes_append (le k n) rest (bytes_le k n)

record_bytes_lem : (kind : Kind) (s : Section (List ℕ)) → Bytes (section_record kind s)
record_bytes_lem kind s =
    let measure = le 4 (total_measure kind s.members) in
    bytes_then 2 s.number (le 2 (length s.members) ++ measure) (bytes_then 2 (length s.members) measure (bytes_le 4 (total_measure kind s.members)))

-- alpha is small enough for its slots and section records
pub record Room (width alpha : ℕ) : Type 0 where
  pub low : alpha ≤ 16
  pub all : 8 + alpha * width + 8 * (alpha + 1) ≤ 256

pub room : (width alpha : ℕ) → alpha_fits width alpha ≡ true → Room width alpha
room width alpha fits =
    let high = and_parts _ _ (and_parts _ _ fits).1 in
    record { low = leb-true alpha 16 high.0; all = leb-true _ 256 high.1 }

module _ (kind : Kind) (alpha : ℕ) (node : Node (List ℕ)) (lawful : Lawful kind) (fits : NodeFits kind alpha node) (r : Room kind.width alpha) where
  abbrev message_bytes : List ℕ
  message_bytes = flat_map (λ m. m) node.entries

  -- the slots that hold no entry
  abbrev unused : List ℕ
  unused = replicate (alpha * kind.width - length message_bytes) 0

  abbrev slot_bytes : List ℕ
  slot_bytes = message_bytes ++ unused

  abbrev records : List ℕ
  records = flat_map (section_record kind) node.sections

  -- what is laid down after the first eight bytes
  abbrev laid : List ℕ
  laid = slot_bytes ++ records

  abbrev zeros : List ℕ
  zeros = replicate (256 - length (0 ∷ 0 ∷ 0 ∷ 0 ∷ 0 ∷ 0 ∷ 0 ∷ 0 ∷ laid)) 0

  record_long : AllByRecursion (λ s. length (section_record kind s) ≡ 8) node.sections
  record_long = all_of (λ s. refl) node.sections

  slots_long : length slot_bytes ≡ alpha * kind.width
  slots_long =
      length-filled 0 (alpha * kind.width) message_bytes
      (omega (arith, length_joined (λ m. m) kind.width node.entries fits.wide, mul-le-mul_right kind.width fits.few))

  section_count_lem : length node.sections ≤ alpha + 1
  section_count_lem = omega (arith, fits.few, fits.flags, fits.fan, count_by-le-length (λ b. b) node.active)

  laid_short : 8 + length laid ≤ 256
  laid_short =
      omega (arith, r.all, length-append slot_bytes records, slots_long, length_joined (section_record kind) 8 node.sections record_long, section_count_lem)

  -- a part of the block past its first eight bytes
  part-after : (at k : ℕ) → part (8 + at) k (tree_block kind alpha node) ≡ part at k (laid ++ zeros)
  part-after at k = part_past 8 at k (tree_block kind alpha node)

  regrouped : laid ++ zeros ≡ message_bytes ++ (unused ++ (records ++ zeros))
  regrouped = simp append_assoc

  slot_back : (i : ℕ) → i < length node.entries → slot kind (tree_block kind alpha node) i ≡ get_or node.entries i []
  slot_back i lt =
      part-after (i * kind.width) kind.width
      ∙ ap (part (i * kind.width) kind.width) regrouped
      ∙ part_joined (λ m. m) kind.width node.entries (unused ++ (records ++ zeros)) fits.wide i [] lt

  -- the block past its slots
  after_slots : drop (8 + alpha * kind.width) (tree_block kind alpha node) ≡ records ++ zeros
  after_slots =
      sym (drop-drop (alpha * kind.width) 8 (tree_block kind alpha node))
      ∙ ap (drop (alpha * kind.width)) (append_assoc slot_bytes records zeros)
      ∙ drop_at slot_bytes (records ++ zeros) (alpha * kind.width) slots_long

  section_back : (i : ℕ) (d : Section (List ℕ)) → i < length node.sections → section_at kind alpha (tree_block kind alpha node) i ≡ section_says kind (get_or node.sections i d)
  section_back i d lt =
      let bytes = part_past (8 + alpha * kind.width) (i * 8) 8 (tree_block kind alpha node) ∙ ap (part (i * 8) 8) after_slots ∙ part_joined (section_record kind) 8 node.sections zeros record_long i d lt in
      ap section_fields bytes ∙ record_says kind _ (All-get_or _ node.sections i d lt fits.each)

  mask_back : mask (tree_block kind alpha node) ≡ mask_of node.active
  mask_back =
      let small : length node.active ≤ 16 = omega (arith, fits.flags, fits.few, r.low) in
      number-le 2 (mask_of node.active) (omega (arith, mask_lt node.active, pow_mono small))

  section_count_back : section_count (tree_block kind alpha node) ≡ length node.sections
  section_count_back = ap (λ m. ones m + 1) mask_back ∙ ap (λ n. n + 1) (ones-mask node.active) ∙ sym fits.fan

  sections_back : sections_of kind alpha (tree_block kind alpha node) ≡ map (section_says kind) node.sections
  sections_back =
      let none : Section (List ℕ) = record { number = 0; members = [] } in
      sym (fill_by_all (section_at kind alpha (tree_block kind alpha node)) (map (section_says kind) node.sections) _ (section_says kind none)
      (length-map node.sections (section_says kind) ∙ sym section_count_back)
      (λ i lt. let within : i < length node.sections = omega (arith, section_count_back) in get_or-map (section_says kind) node.sections i none (section_says kind none) within ∙ sym (section_back i none within)))

  node_reads_back : ReadsBack kind alpha node (tree_block kind alpha node)
  node_reads_back = record {
    count = refl;
    same_kind = refl;
    separators = mask_back;
    active = λ i lt. ap (λ m. eqb (m / 2 ^ i % 2) 1) mask_back ∙ bit_of_mask node.active i lt;
    weight = number-le 2 node.weight fits.weight;
    parent = number-le 2 node.parent fits.parent;
    messages = sym (fill_by_all (slot kind (tree_block kind alpha node)) node.entries _ [] refl (λ i lt. sym (slot_back i lt)));
    sections = sections_back;
  }

  laid_bytes : Bytes laid
  laid_bytes =
      bytes_append slot_bytes records
      (bytes_append message_bytes unused (bytes_joined (λ m. m) node.entries fits.small) (bytes_zeros (alpha * kind.width - length message_bytes)))
      (bytes_joined (section_record kind) node.sections (all_of (record_bytes_lem kind) node.sections))

  node_block : Block (tree_block kind alpha node)
  node_block =
      let parent = le 2 node.parent ++ laid in
      let weight = le 2 node.weight ++ parent in
      block_of_lem (length node.entries ∷ kind.number ∷ (le 2 (mask_of node.active) ++ weight)) (omega (arith, laid_short))
      (omega (arith, fits.few, r.low), (omega (arith, lawful.number_high), bytes_then 2 (mask_of node.active) weight (bytes_then 2 node.weight parent (bytes_then 2 node.parent laid laid_bytes))))

pub tree_block_reads_back : TreeBlockReadsBack
tree_block_reads_back kind alpha node lawful fit fits =
    let r = room kind.width alpha fit in
    record { block = node_block kind alpha node lawful fits r; reads_back = node_reads_back kind alpha node lawful fits r }

-- a bit of the mask past its sixteen
pub no_bit : (m i : ℕ) → m < 65536 → 16 ≤ i → ltb i 16 ≡ eqb (m / 2 ^ i % 2) 1
no_bit m i small past =
    let none : m / 2 ^ i ≡ 0 = div-eq_of_lt (omega (arith, pow_mono past)) in
    le-ltb i 16 past ∙ sym (ap (λ n. eqb (n % 2) 1) none)
