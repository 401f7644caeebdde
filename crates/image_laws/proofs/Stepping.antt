-- Bytes that read back as a node: what a walk reads off them, in the node's own terms. Assumes nothing.
use Rattle.std.proofs.Common.{◌≡◌, ℕ, suc, ◌+◌, ◌<◌, Bool, false, cond, ◌&&◌, List, [], ◌∷◌, map, length, get_or, take, sum_by, sym, refl, ap, ◌∙◌, ap₂, arith}
use Rattle.std.proofs.lemmas.List.FromFn.{length-map-range_with_len, get_or-map-range_with_len}
use Rattle.std.proofs.lemmas.List.{length-map, get_or-map, take-map}
use Rattle.std.proofs.lemmas.List.Sums.{sum_by-cons}
use Rattle.kinds.specs.Kind.{Kind}
use Rattle.tree.specs.Tree.{Section, Node}
use Rattle.tree.proofs.Passing.{weight_below, passed}
use Rattle.image.specs.Laws.{ReadsBack, section_says}
use Rattle.image.specs.Messages.{total_measure, standing}
use Rattle.image.specs.Reading.{active_at, section_at, section_count}
use Rattle.image.specs.Walk.{in_block, separators_below, section_for, next_block, measure_below, measure_before}
use Rattle.image_laws.specs.Walking.{entered}
use Rattle.image_laws.proofs.Compared.{is_below}

module _ (kind : Kind) (key : List ℕ) where
  -- the measure below a key as a sum of weights
  pub measure_below_lem : (ms : List (List ℕ)) → measure_below kind key ms ≡ sum_by (weight_below (is_below kind key) kind.measured) ms
  measure_below_lem [] = refl
  measure_below_lem (m ∷ ms) =
      ap (λ n. weight_below (is_below kind key) kind.measured m + n) (measure_below_lem ms) ∙ sym (sum_by-cons (weight_below (is_below kind key) kind.measured) m ms)

  -- where the bits from i on are the flags of a test, its separators below the key are counted
  separators_passed : (bytes : List ℕ) (p : List ℕ → Bool) (i : ℕ) (ms : List (List ℕ)) → ((n j : ℕ) → i + n ≡ j → n < length ms → active_at bytes j ≡ get_or (map p ms) n false) → separators_below kind key bytes i ms ≡ passed p (is_below kind key) ms
  separators_passed bytes p i [] flags = refl
  separators_passed bytes p i (m ∷ ms) flags =
      ap₂ ◌+◌
      (ap (λ t. cond (t && is_below kind key m) 1 0) (flags 0 i (omega arith) (omega arith)))
      (separators_passed bytes p (i + 1) ms (λ n j is lt. flags (suc n) j (omega arith) (omega arith)))
      ∙ sym (sum_by-cons (λ l. cond (p l && is_below kind key l) 1 0) m ms)

-- the measures of the records are those of the members
says_measure : (kind : Kind) (ss : List (Section (List ℕ))) → sum_by (λ s. s.measure) (map (section_says kind) ss) ≡ sum_by (total_measure kind) (map (λ s. s.members) ss)
says_measure kind [] = refl
says_measure kind (s ∷ ss) =
    sum_by-cons (λ r. r.measure) (section_says kind s) (map (section_says kind) ss)
    ∙ ap (λ n. total_measure kind s.members + n) (says_measure kind ss)
    ∙ sym (sum_by-cons (total_measure kind) s.members (map (λ s. s.members) ss))

module _ {kind : Kind} {alpha : ℕ} {node : Node (List ℕ)} {bytes : List ℕ} (back : ReadsBack kind alpha node bytes) (key : List ℕ) where
  -- the message that the block has of the key
  pub found_in : in_block kind key bytes ≡ standing kind key node.entries
  found_in = ap (standing kind key) back.messages

  -- the section is found by the separators among the entries
  pub section_passed : (p : List ℕ → Bool) → node.active ≡ map p node.entries → section_for kind key bytes ≡ passed p (is_below kind key) node.entries
  section_passed p flags =
      ap (separators_below kind key bytes 0) back.messages
      ∙ separators_passed kind key bytes p 0 node.entries (λ n j is lt. back.active j (omega (arith, ap length flags, length-map node.entries p)) ∙ ap₂ (λ l i. get_or l i false) flags (omega arith))

  section_count_lem : section_count bytes ≡ length node.sections
  section_count_lem =
      sym (length-map-range_with_len (section_at kind alpha bytes) 0 (section_count bytes)) ∙ ap length back.sections ∙ length-map node.sections (section_says kind)

  -- the record of a section
  section_at_lem : (i : ℕ) → i < length node.sections → section_at kind alpha bytes i ≡ section_says kind (entered node i)
  section_at_lem i lt =
      let none : Section (List ℕ) = record { number = 0; members = [] } in
      sym (get_or-map-range_with_len (section_at kind alpha bytes) 0 (section_count bytes) i i (section_says kind none) (omega (arith, section_count_lem)) (omega arith))
      ∙ ap (λ l. get_or l i (section_says kind none)) back.sections
      ∙ get_or-map (section_says kind) node.sections i none (section_says kind none) lt

  pub next_of : section_for kind key bytes < length node.sections → next_block kind key alpha bytes ≡ (entered node (section_for kind key bytes)).number
  next_of lt = ap (λ s. s.number) (section_at_lem (section_for kind key bytes) lt)

  -- the measure before the key: the entries below it, and all members of the sections passed
  pub measure_before_lem : measure_before kind key alpha bytes ≡ measure_below kind key node.entries + sum_by (total_measure kind) (take (section_for kind key bytes) (map (λ s. s.members) node.sections))
  measure_before_lem =
      let j = section_for kind key bytes in
      ap₂ ◌+◌
      (ap (measure_below kind key) back.messages)
      (ap (λ l. sum_by (λ s. s.measure) (take j l)) back.sections
      ∙ ap (sum_by (λ s. s.measure)) (take-map (section_says kind) j node.sections)
      ∙ says_measure kind (take j node.sections)
      ∙ ap (sum_by (total_measure kind)) (sym (take-map (λ s. s.members) j node.sections)))
