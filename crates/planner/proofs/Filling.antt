-- A block's entries and mask, filled in from the left. Assumes nothing.
use Rattle.std.proofs.Common.{◌≡◌, ℕ, suc, ◌+◌, ◌-◌, ◌*◌, ◌^◌, ◌<◌, Bool, true, false, cond, List, [], ◌∷◌, ◌++◌, map, length, get_or, take, drop, set, replicate, filter, sym, refl, ap, ◌∙◌, one-mul, pow-suc, arith}
use lib.Bits.{bit_or}
use lib.Count.{ones}
use lib.Lanes.{mask_l as mask_of}
use Rattle.std.specs.List.{AllByRecursion}
use Rattle.std.proofs.lemmas.Nat.{or_shifted, or_comm}
use Rattle.std.proofs.lemmas.List.Elements.{filter-append}
use Rattle.std.proofs.lemmas.Simd.{mask_l-lt, ones-mask_l}
use Rattle.std.proofs.lemmas.List.{append-nil, append_assoc, length-append, length_push, map_push, set_at, take-append-drop, drop_more}
use Rattle.std.proofs.lemmas.List.Sums.{length-filter}
use Rattle.fields.specs.Numbers.{filled}
use Rattle.tree.specs.Tree.{Node}
use Rattle.tree.proofs.Lists.{count_by_kept}
use Rattle.planner.specs.declared.row.Row.{Row}
use Rattle.planner.specs.Rows.{no_section, section_row, row_of}
use Rattle.planner.specs.Steps.{with_entry}

filled_more : {X : Type 0} (n : ℕ) (blank : X) (ys : List X) (x : X) → length ys < n → set (filled n blank ys) (length ys) x ≡ filled n blank (ys ++ x ∷ [])
filled_more n blank ys x less =
    let left : n - length ys ≡ suc (n - length (ys ++ x ∷ [])) = omega (arith, length_push ys x) in
    rw left (set_at ys blank (replicate (n - length (ys ++ x ∷ [])) blank) x (length ys) refl ∙ sym (append_assoc ys (x ∷ []) _))

mask_push : (bs : List Bool) (b : Bool) → mask_of (bs ++ b ∷ []) ≡ mask_of bs + cond b (2 ^ length bs) 0
mask_push [] true = refl
mask_push [] false = refl
mask_push (a ∷ bs) b = go b (mask_push bs b)
  where
    go : (b : Bool) → mask_of (bs ++ b ∷ []) ≡ mask_of bs + cond b (2 ^ length bs) 0 → cond a 1 0 + 2 * mask_of (bs ++ b ∷ []) ≡ cond a 1 0 + 2 * mask_of bs + cond b (2 ^ suc (length bs)) 0
    go true h = rw pow-suc (omega arith)
    go false h = omega arith

-- the row of a node, with one more entry written into it
pub row_pushed : (node : Node ℕ) (rank : ℕ) (active : Bool) (mask : ℕ) → length node.active ≡ length node.entries → length node.entries < 16
    → mask ≡ cond active (bit_or (mask_of node.active) (2 ^ length node.entries)) (mask_of node.active)
    → record {
      parent = node.parent;
      count = length node.entries + 1;
      entries = set (filled 16 0 node.entries) (length node.entries) rank;
      mask = mask;
      weight = node.weight;
      sections = filled 17 no_section (map (section_row []) node.sections);
    } ≡ row_of [] (with_entry node rank active)
row_pushed node rank active mask paired fits marked =
    λ i. record {
      parent = node.parent;
      count = sym (length_push node.entries rank) i;
      entries = filled_more 16 0 node.entries rank fits i;
      mask = (marked ∙ go active ∙ sym (mask_push node.active active)) i;
      weight = node.weight;
      sections = filled 17 no_section (map (section_row []) node.sections);
    }
  where
    below : mask_of node.active < 2 ^ length node.entries
    below = rw (← paired) (mask_l-lt node.active)

    go : (t : Bool) → cond t (bit_or (mask_of node.active) (2 ^ length node.entries)) (mask_of node.active) ≡ mask_of node.active + cond t (2 ^ length node.active) 0
    go true =
        or_comm (mask_of node.active) (2 ^ length node.entries)
        ∙ ap (λ n. bit_or n (mask_of node.active)) (sym (one-mul (2 ^ length node.entries)))
        ∙ or_shifted 1 (length node.entries) (mask_of node.active) below
        ∙ omega (arith, ap (λ n. 2 ^ n) paired)
    go false = omega arith

pub row_counts : (row : Row) (node : Node ℕ) → row ≡ row_of [] node → row.count ≡ length node.entries
row_counts row node is = ap (λ row. row.count) is

-- the node of a block, with what the first elements of its subtree give
abbrev pub begun : (p q : ℕ → Bool) (parent weight : ℕ) (front : List ℕ) → Node ℕ
begun p q parent weight front = record { parent = parent; entries = filter p front; active = map q (filter p front); weight = weight; sections = [] }

module _ (p q : ℕ → Bool) (parent weight : ℕ) (front : List ℕ) (x : ℕ) where
  kept_push : (t : Bool) → p x ≡ t → filter p (front ++ x ∷ []) ≡ filter p front ++ cond t (x ∷ []) []
  kept_push t h = filter-append p front (x ∷ []) ∙ rw h refl

  pub begun_skip : p x ≡ false → begun p q parent weight front ≡ begun p q parent weight (front ++ x ∷ [])
  begun_skip h = rw (kept_push false h, append-nil (filter p front)) refl

  pub begun_more : p x ≡ true → with_entry (begun p q parent weight front) x (q x) ≡ begun p q parent weight (front ++ x ∷ [])
  begun_more h = rw (kept_push true h, map_push q (filter p front) x) refl

-- an entry that is still to come has a place
pub place_left : (p : ℕ → Bool) (xs : List ℕ) (i : ℕ) → i < length xs → p (get_or xs i 0) ≡ true → length (filter p (take i xs)) < length (filter p xs)
place_left p xs i within h =
    let parts : filter p xs ≡ filter p (take i xs) ++ filter p (drop i xs) = ap (filter p) (sym (take-append-drop i xs)) ∙ filter-append p (take i xs) (drop i xs) in
    let here : filter p (drop i xs) ≡ get_or xs i 0 ∷ filter p (drop (i + 1) xs) = ap (filter p) (drop_more xs i 0 within) ∙ rw h refl in
    rw (parts, here) (omega (arith, length-append (filter p (take i xs)) (get_or xs i 0 ∷ filter p (drop (i + 1) xs))))

-- the mask has a one for each active separator, if those are in the block
pub ones_marks : (p q : ℕ → Bool) (xs : List ℕ) → AllByRecursion (λ x. q x ≡ true → p x ≡ true) xs → ones (mask_of (map q (filter p xs))) ≡ length (filter q xs)
ones_marks p q xs among = ones-mask_l q (filter p xs) ∙ count_by_kept p q xs among ∙ sym (length-filter q xs)
