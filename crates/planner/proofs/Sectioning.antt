-- The sections of a block, one after the other. Assumes nothing.
use Rattle.std.proofs.Common.{◌≡◌, ℕ, ◌+◌, ◌-◌, ◌*◌, ◌<◌, ◌≤◌, cond, eqb, ◌⊎◌, List, [], ◌∷◌, map, length, take, drop, set, sym, ap, ◌∙◌, subst, ap₂, inl, inr, ⊎_elim, add-zero, add-one, arith}
use lib.Dec.{eqb-suc-zero}
use lib.Seq.{sets}
use Rattle.std.specs.List.{AllByRecursion}
use Rattle.std.proofs.lemmas.List.{map-append, length-append, length-drop, length-map, length-take-le, take-take}
use Rattle.std.proofs.lemmas.List.Sums.{sum_by-append}
use Rattle.tree.specs.Laws.{Distinct}
use Rattle.tree.specs.Tree.{Node, forest, numbered}
use Rattle.tree.proofs.Cutting.{together, length_cut, pairwise_cut}
use Rattle.planner.specs.declared.bounds.Bounds.{Bounds}
use Rattle.planner.specs.declared.row.Row.{Row}
use Rattle.planner.specs.declared.row.SectionRow.{SectionRow}
use Rattle.planner.specs.Bounding.{in_block, separates}
use Rattle.planner.specs.Rows.{measure_of, section_row, row_of}
use Rattle.planner.specs.Steps.{cut_by, left_by, section_from, FirstSection}
use Rattle.planner.specs.Subtrees.{visits}
use Rattle.planner.proofs.Apart.{distinct_drop}
use Rattle.planner.proofs.Placing.{sets-append}

module _ (ps : List ℕ) (b : Bounds) (xs : List ℕ) where
  pub some_part : 0 < length (cut_by ps b xs)
  some_part = omega (arith, length_cut (separates ps b) (in_block ps b) xs)

  -- what is known of the first section
  module _ (s : List ℕ) (parts : List (List ℕ)) (are : cut_by ps b xs ≡ s ∷ parts) where
    pub left_first : left_by ps b xs ≡ length s + length (together parts)
    left_first = ap (λ l. length (together l)) are ∙ length-append s (together parts)

    pub apart_first : Distinct xs → Distinct s
    apart_first apart = (subst (AllByRecursion Distinct) are (pairwise_cut (separates ps b) (in_block ps b) _ xs apart)).0

-- xs with its first section gathered, in the first `count` of `part`, and what is left of it in `rest`
pub record Parted (ps : List ℕ) (b : Bounds) (xs part rest zs : List ℕ) (count end : ℕ) : Type 0 where
  pub sections : ((cut_by ps b xs ≡ take count part ∷ []) × (end ≡ length xs)) ⊎ (cut_by ps b xs ≡ take count part ∷ cut_by ps b rest)
  pub same : take count part ≡ take count zs
  pub long : length (take count part) ≡ count
  pub kept : rest ≡ drop end xs
  pub left : length rest + end ≡ length xs
  pub behind : count ≤ end

pub parted : {ps : List ℕ} {b : Bounds} {xs part rest zs : List ℕ} {count end : ℕ} → FirstSection ps b xs zs count end → length zs ≡ length xs → part ≡ take end zs → rest ≡ drop end zs → Parted ps b xs part rest zs count end
parted {ps} {b} {xs} {part} {rest} {zs} {count} {end} first long front back =
    record {
      sections = go first.sections;
      same = same;
      long = ap length same ∙ length-take-le count zs (omega (arith, first.behind, first.within));
      kept = kept;
      left = omega (arith, ap length kept, length-drop end xs, first.within);
      behind = first.behind;
    }
  where
    same : take count part ≡ take count zs
    same = ap (take count) front ∙ take-take count end zs first.behind

    kept : rest ≡ drop end xs
    kept = back ∙ first.rest

    go : ((cut_by ps b xs ≡ take count zs ∷ []) × (end ≡ length xs)) ⊎ (cut_by ps b xs ≡ take count zs ∷ cut_by ps b (drop end xs)) → ((cut_by ps b xs ≡ take count part ∷ []) × (end ≡ length xs)) ⊎ (cut_by ps b xs ≡ take count part ∷ cut_by ps b rest)
    go (inl last) = inl (rw same last.0, last.1)
    go (inr more) = inr (rw (same, kept) more)

module _ {ps : List ℕ} {b : Bounds} {xs part rest zs : List ℕ} {count end : ℕ} (known : Parted ps b xs part rest zs count end) where
  pub first_part : (parts : List (List ℕ)) × (cut_by ps b xs ≡ take count part ∷ parts)
  first_part = ⊎_elim (λ last. ([], last.0)) (λ more. (cut_by ps b rest, more)) known.sections

  -- it is the last, or others come after it
  pub last_part : length (cut_by ps b xs) ≡ 1 → (cut_by ps b xs ≡ take count part ∷ []) × (end ≡ length xs)
  last_part one = ⊎_elim (λ last. last) (λ more. absurd (omega (arith, ap length more, some_part ps b rest))) known.sections

  pub more_parts : (length (cut_by ps b xs) ≡ 1 → ⊥) → cut_by ps b xs ≡ take count part ∷ cut_by ps b rest
  more_parts several = ⊎_elim (λ last. absurd (several (ap length last.0))) (λ more. more) known.sections

  -- the first section is some of the ranks, and neither in it nor in what is left does a rank stand twice
  pub first_left : count ≤ left_by ps b xs
  first_left = omega (arith, known.long, left_first ps b xs _ first_part.0 first_part.1)

  pub first_apart : Distinct xs → Distinct (take count part)
  first_apart = apart_first ps b xs _ first_part.0 first_part.1

  pub rest_apart : Distinct xs → Distinct rest
  rest_apart apart = subst Distinct (sym known.kept) (distinct_drop end xs apart)

  pub rest_left : cut_by ps b xs ≡ take count part ∷ cut_by ps b rest → left_by ps b xs ≡ count + left_by ps b rest
  rest_left more = rw (known.long) at (left_first ps b xs _ _ more)

module _ (below : ℕ → List ℕ → List (Node ℕ)) (none : (k : ℕ) → below k [] ≡ []) where
  -- the rows of sections, the first of them apart
  noted_first : (measures : List ℕ) (k : ℕ) (s : List ℕ) (parts : List (List ℕ)) (n m : ℕ) → n ≡ length s → m ≡ measure_of measures s → map (section_row measures) (numbered below k (s ∷ parts)) ≡ section_from k n m ∷ map (section_row measures) (numbered below (k + length (below k s)) parts)
  noted_first measures k [] parts n m is sums =
      let block = ap (λ n. cond (eqb n 0) 0 k) is in
      ap₂ ◌∷◌ (λ i. record { block = sym block i; weight = sym is i; measure = sym sums i }) (ap (λ at. map (section_row measures) (numbered below at parts)) (sym (ap (λ l. k + length l) (none k) ∙ add-zero k)))
  noted_first measures k (x ∷ s) parts n m is sums =
      let block = ap (λ n. cond (eqb n 0) 0 k) is ∙ ap (λ b. cond b 0 k) (eqb-suc-zero (length s)) in
      ap (λ r. r ∷ map (section_row measures) (numbered below (k + length (below k (x ∷ s))) parts)) (λ i. record { block = sym block i; weight = sym is i; measure = sym sums i })

  module _ (k : ℕ) {s : List ℕ} {parts all : List (List ℕ)} {blocks : ℕ} (are : blocks ≡ length (below k s)) (split : all ≡ s ∷ parts) where
    -- the rows of the first section, and then those of the others, are the rows of all
    pub rows_on : (measures : List ℕ) (t u v : List Row) → 1 ≤ k → u ≡ sets t (k - 1) (map (row_of measures) (below k s)) → v ≡ sets u (k + blocks - 1) (map (row_of measures) (forest below (k + blocks) parts)) → v ≡ sets t (k - 1) (map (row_of measures) (forest below k all))
    rows_on measures t u v first now' then' =
        let next : k + blocks - 1 ≡ k - 1 + length (map (row_of measures) (below k s)) = omega (arith, length-map (below k s) (row_of measures)) in
        then'
        ∙ rw (now', next, are, split, map-append (row_of measures) (below k s) (forest below (k + length (below k s)) parts))
        (sym (sets-append t (k - 1) (map (row_of measures) (below k s)) (map (row_of measures) (forest below (k + length (below k s)) parts))))

    pub noted_on : (measures : List ℕ) (l : List SectionRow) (at : ℕ) (row : SectionRow) (n m : ℕ) → row ≡ section_from k n m → n ≡ length s → m ≡ measure_of measures s → sets (set l at row) (at + 1) (map (section_row measures) (numbered below (k + blocks) parts)) ≡ sets l at (map (section_row measures) (numbered below k all))
    noted_on measures l at row n m noted is sums =
        rw (noted, split, noted_first measures k s parts n m is sums, are, add-one at)

    pub count_on : blocks + length (forest below (k + blocks) parts) ≡ length (forest below k all)
    count_on = rw (split, are) (sym (length-append (below k s) (forest below (k + length (below k s)) parts)))

    pub visits_on : visits (below k s) + visits (forest below (k + blocks) parts) ≡ visits (forest below k all)
    visits_on = rw (split, are) (sym (sum_by-append (λ node. 3 * node.weight) (below k s) (forest below (k + length (below k s)) parts)))
