-- A walk through the first block of a subtree follows the tree. Assumes nothing.
use Rattle.std.proofs.Common.{◌≡◌, ℕ, zero, suc, ◌+◌, ◌<◌, Bool, true, List, [], ◌∷◌, map, length, get_or, take, sum_by, sym, refl, ap, ◌∙◌, subst, ap₂, arith}
use Rattle.std.specs.Option.{option_or}
use Rattle.std.proofs.lemmas.List.{get_or-map}
use Rattle.kinds.specs.Kind.{Kind}
use Rattle.tree.specs.Tree.{Node, among_earliest, is_active, sections, nodes}
use Rattle.tree.proofs.Forest.{numbered_members, length-numbered}
use Rattle.tree.proofs.Nodes.{root_node}
use Rattle.tree.proofs.Passing.{passed, part_for, passed-lt, passed_kept, weight_parted}
use Rattle.tree.proofs.Sections.{active_in_block}
use Rattle.image.specs.Laws.{ReadsBack}
use Rattle.image.specs.Messages.{before, standing, total_measure}
use Rattle.image.specs.Walk.{section_for, measure_below}
use Rattle.image_laws.specs.Walking.{entered, WalkLaws, WalksFollowTheTree}
use Rattle.image_laws.proofs.Compared.{is_below, Passing, passing_front, messages_passing}
use Rattle.image_laws.proofs.Standing.{standing_parted_lem}
use Rattle.image_laws.proofs.Stepping.{measure_below_lem, found_in, section_passed, next_of, measure_before_lem}

module _ (kind : Kind) (alpha rho : ℕ) (key : List ℕ) (xs : List (List ℕ)) (pass : Passing kind key xs) where
  abbrev active : List ℕ → Bool
  active = is_active (before kind) alpha rho xs

  abbrev taken : List ℕ → Bool
  taken = among_earliest (before kind) alpha xs

  among : (m : List ℕ) → active m ≡ true → taken m ≡ true
  among = active_in_block (before kind) alpha rho xs

  abbrev parts : List (List (List ℕ))
  parts = sections (before kind) alpha rho xs

  -- how many separators are below the key
  abbrev j : ℕ
  j = passed active (is_below kind key) xs

  module _ (below : ℕ → List (List ℕ) → List (Node (List ℕ))) (parent k : ℕ) where
    abbrev root : Node (List ℕ)
    root = root_node (before kind) alpha rho below parent k xs

    few : j < length root.sections
    few = omega (arith, passed-lt active taken (is_below kind key) xs, length-numbered below (k + 1) parts)

    members_of : (entered root j).members ≡ part_for active taken (is_below kind key) xs
    members_of =
        sym (get_or-map (λ s. s.members) root.sections j (record { number = 0; members = [] }) [] few) ∙ ap (λ l. get_or l j []) (numbered_members below (k + 1) parts)

    module _ (bytes : List ℕ) (back : ReadsBack kind alpha root bytes) where
      section_is : section_for kind key bytes ≡ j
      section_is = section_passed back key active refl ∙ passed_kept active (is_below kind key) taken among xs

      in_range : section_for kind key bytes < length root.sections
      in_range = omega (arith, section_is, few)

      members_are : (entered root (section_for kind key bytes)).members ≡ part_for active taken (is_below kind key) xs
      members_are = ap (λ i. (entered root i).members) section_is ∙ members_of

      passed_measure : sum_by (total_measure kind) (take (section_for kind key bytes) (map (λ s. s.members) root.sections)) ≡ sum_by (total_measure kind) (take j parts)
      passed_measure = ap₂ (λ i l. sum_by (total_measure kind) (take i l)) section_is (numbered_members below (k + 1) parts)

      root-walk : WalkLaws kind alpha key xs root bytes
      root-walk = record {
        found = found_in back key;
        one_of = in_range;
        next = next_of back key in_range;
        holds =
            standing_parted_lem kind key active taken among xs pass ∙ ap (λ ms. option_or (standing kind key root.entries) (standing kind key ms)) (sym members_are);
        sum =
            omega (arith, measure_below_lem kind key xs, weight_parted active taken (is_below kind key) kind.measured among xs (passing_front kind key xs pass), measure_below_lem kind key root.entries, measure_before_lem back key, passed_measure, ap (measure_below kind key) members_are, measure_below_lem kind key (part_for active taken (is_below kind key) xs));
      }

pub walks_follow_the_tree : WalksFollowTheTree
walks_follow_the_tree kind alpha rho key zero parent k xs node rest bytes lawful keyed set is back =
    let z : ◌≡◌ {A = ℕ} 0 1 = cc in absurd (omega arith)
walks_follow_the_tree kind alpha rho key (suc fuel) parent k [] node rest bytes lawful keyed set is back =
    let z : ◌≡◌ {A = ℕ} 0 1 = cc in absurd (omega arith)
walks_follow_the_tree kind alpha rho key (suc fuel) parent k (x ∷ xs) node rest bytes lawful keyed set is back =
    let below = nodes (before kind) alpha rho fuel k in
    let first : root_node (before kind) alpha rho below parent k (x ∷ xs) ≡ node = cc in
    subst (λ n. ReadsBack kind alpha n bytes → WalkLaws kind alpha key (x ∷ xs) n bytes) first
    (root-walk kind alpha rho key (x ∷ xs) (messages_passing kind key lawful keyed (x ∷ xs) set) below parent k bytes) back
