-- The image of a set of messages: every node fits its block. Assumes nothing.
use Rattle.std.proofs.Common.{◌≡◌, ℕ, zero, suc, ◌+◌, ◌*◌, ◌≤◌, true, List, ◌∷◌, map, length, replicate, refl, le_refl, arith}
use Rattle.std.specs.List.{AllByRecursion}
use Rattle.std.proofs.ByRecursion.{All-append, all_has_itself, All-map, All-weaker, sum_by_le}
use Rattle.std.proofs.lemmas.List.{length-map}
use Rattle.std.proofs.lemmas.Bool.{and_parts}
use Rattle.kinds.specs.Kind.{Kind, Lawful}
use Rattle.tree.specs.Laws.{NodeLaws}
use Rattle.tree.specs.Tree.{Section, Node}
use Rattle.tree.proofs.Bounds.{Bounded, Numbered, nodes_bounded, nodes-numbered}
use Rattle.tree.proofs.Lists.{all_join, all_both}
use Rattle.tree.proofs.Nodes.{nodes_lawful, nodes_few}
use Rattle.image.specs.Image.{zero_block, tree_block, head_block, tree_of, counts_of}
use Rattle.image.specs.Laws.{Block, SectionFits, NodeFits, CountsFit, ImageReadsBack}
use Rattle.image.specs.Messages.{Valid, Messages, total_measure, before}
use Rattle.image.specs.declared.settings.Settings.{Settings}
use Rattle.image.specs.Settings.{settings_fit}
use Rattle.image.proofs.Blocks.{length-filled, bytes_zeros, tree_block_reads_back}
use Rattle.image.proofs.Drawn.{messages_apart, messages_strict}
use Rattle.image.proofs.Heads.{Limits, limits, head_reads_back}

all_replicate : {X : Type 0} (P : X → Type 0) (n : ℕ) (x : X) → P x → AllByRecursion P (replicate n x)
all_replicate P zero x h = tt
all_replicate P (suc n) x h = (h, all_replicate P n x h)

-- no message measures more than 1,000
pub measure_le : (kind : Kind) → Lawful kind → (ms : List (List ℕ)) → AllByRecursion (Valid kind) ms → total_measure kind ms ≤ length ms * 1000
measure_le kind lawful ms valid = sum_by_le kind.measured 1000 ms (All-weaker _ _ (λ m v. lawful.measure m v.bytes) ms valid)

module _ (kind : Kind) (s : Settings) (ms : List (List ℕ)) (lawful : Lawful kind) (fit : settings_fit kind.width s ≡ true) (set : Messages kind ms) (room : length ms ≤ s.capacity) where
  l : Limits s
  l = limits kind.width s fit

  abbrev nodes : List (Node (List ℕ))
  nodes = tree_of kind s ms

  few_nodes : length nodes ≤ length ms
  few_nodes =
      nodes_few (messages_strict kind lawful ms set) s.alpha s.rho l.alpha_low (length ms) 0 1 ms (all_has_itself ms) (messages_apart kind lawful ms set.each set.rising) (le_refl (length ms))

  section_fits : (sec : Section (List ℕ)) → AllByRecursion (Valid kind) sec.members × (length sec.members ≤ length ms) → sec.number ≤ length ms + 1 → SectionFits kind sec
  section_fits sec small number = record {
    number = omega (arith, number, room, l.capacity);
    weight = omega (arith, small.1, room, l.capacity);
    measure = omega (arith, measure_le kind lawful sec.members small.0, small.1, room, l.capacity);
  }

  -- what is known of each node of the tree
  pub record Known (node : Node (List ℕ)) : Type 0 where
    pub laws : NodeLaws (before kind) s.alpha s.rho node
    pub bounded : Bounded (Valid kind) (length ms) node
    pub numbered : Numbered (length ms + 1) node

  pub known : AllByRecursion Known nodes
  known =
      all_join (λ node laws others. record { laws = laws; bounded = others.0; numbered = others.1 }) nodes
      (nodes_lawful (messages_strict kind lawful ms set) s.alpha s.rho l.alpha_low l.rho_low (length ms) 0 1 ms (all_has_itself ms) (messages_apart kind lawful ms set.each set.rising))
      (all_both (Bounded (Valid kind) (length ms)) (Numbered (length ms + 1)) nodes
      (nodes_bounded (before kind) s.alpha s.rho (Valid kind) (length ms) (length ms) 0 1 ms set.each (le_refl (length ms)))
      (nodes-numbered (before kind) s.alpha s.rho (length ms + 1) (length ms) 0 1 ms (omega arith) (omega (arith, few_nodes))))

  pub node_fits : (node : Node (List ℕ)) → Known node → NodeFits kind s.alpha node
  node_fits node k =
      let b = k.bounded in
      record {
        few = omega (arith, k.laws.full);
        wide = All-weaker _ _ (λ m v. v.long) node.entries b.entries;
        small = All-weaker _ _ (λ m v. v.bytes) node.entries b.entries;
        flags = b.flags;
        fan = b.fan;
        weight = omega (arith, b.weight, room, l.capacity);
        parent = omega (arith, k.numbered.parent, room, l.capacity);
        each = all_join section_fits node.sections b.members k.numbered.sections;
      }

  counts_fit : CountsFit s (counts_of kind s ms)
  counts_fit = record { entries = room; blocks = few_nodes; measure = omega (arith, measure_le kind lawful ms set.each, room, l.capacity) }

pub image_reads_back : ImageReadsBack
image_reads_back kind s chapter n ms lawful fit low long set room =
    let head = head_reads_back kind s chapter (counts_of kind s ms) lawful fit low (counts_fit kind s ms lawful fit set room) in
    let alpha-fits = (and_parts _ _ fit).0 in
    let nodes' = tree_of kind s ms in
    let each = All-weaker _ _ (λ node k. tree_block_reads_back kind s.alpha node lawful alpha-fits (node_fits kind s ms lawful fit set room node k)) nodes' (known kind s ms lawful fit set room) in
    let tree-blocks = map (tree_block kind s.alpha) nodes' in
    record {
      size = length-filled zero_block n (head_block kind s chapter (counts_of kind s ms) ∷ tree-blocks) (omega (arith, long, room, few_nodes kind s ms lawful fit set room, length-map nodes' (tree_block kind s.alpha)));
      blocks = (head.block, All-append Block tree-blocks _ (All-map Block (tree_block kind s.alpha) nodes' (All-weaker _ _ (λ node laws. laws.block) nodes' each)) (all_replicate Block _ zero_block (record { long = refl; small = bytes_zeros 256 })));
      head = head.reads_back;
      nodes = All-weaker _ _ (λ node laws. laws.reads_back) nodes' each;
    }
