-- Each node of the tree of a set of messages is sound, so its block is well formed. Assumes nothing.
use Rattle.std.proofs.Common.{◌≡◌, ℕ, ◌+◌, ◌<◌, ◌≤◌, true, List, length, get_or, le_refl, arith}
use Rattle.std.specs.List.{ContainsAt as Has, AllByRecursion}
use Rattle.std.proofs.ByRecursion.{All-get_or, all_has_itself, All-weaker}
use Rattle.std.proofs.lemmas.Bool.{and_parts}
use Rattle.kinds.specs.Kind.{Kind, Lawful}
use Rattle.tree.specs.Laws.{Strict, Distinct, Pairwise}
use Rattle.tree.specs.Tree.{Node}
use Rattle.tree.proofs.Nodes.{nodes-filled}
use Rattle.tree.proofs.Onward.{Onward, onward_at, nodes_onward}
use Rattle.tree.proofs.Pairs.{nodes_pairwise}
use Rattle.image.specs.Image.{tree_block, tree_of}
use Rattle.image.specs.Messages.{Messages, before, total_measure}
use Rattle.image.specs.Settings.{settings_fit}
use Rattle.image.specs.declared.settings.Settings.{Settings}
use Rattle.image.proofs.Blocks.{tree_block_reads_back}
use Rattle.image.proofs.Drawn.{KeyBelow, messages_apart, messages_rise, messages_strict}
use Rattle.image.proofs.Heads.{Limits, limits}
use Rattle.image.proofs.Images.{Known, known, node_fits, measure_le}
use Rattle.image_laws.specs.Formed.{BlocksAreWellFormed}
use Rattle.image_laws.proofs.Formed.{Sound, well_formed_lem}

module _ (kind : Kind) (s : Settings) (ms : List (List ℕ)) (lawful : Lawful kind) (fit : settings_fit kind.width s ≡ true) (set : Messages kind ms) (room : length ms ≤ s.capacity) where
  l : Limits s
  l = limits kind.width s fit

  abbrev nodes : List (Node (List ℕ))
  nodes = tree_of kind s ms

  strict : Strict (Has ms) (before kind)
  strict = messages_strict kind lawful ms set

  apart : Distinct ms
  apart = messages_apart kind lawful ms set.each set.rising

  filled : AllByRecursion (λ node. 0 < length node.entries) nodes
  filled = nodes-filled strict s.alpha s.rho l.alpha_low (length ms) 0 1 ms (all_has_itself ms) apart

  rising : AllByRecursion (λ node. Pairwise (KeyBelow kind) node.entries) nodes
  rising = nodes_pairwise (KeyBelow kind) (before kind) s.alpha s.rho (length ms) 0 1 ms (messages_rise kind lawful ms set.each set.rising)

  onward : Onward (length nodes + 1) 1 nodes
  onward =
      nodes_onward strict s.alpha s.rho l.alpha_low (length nodes + 1) (length ms) 0 1 ms (all_has_itself ms) apart (le_refl (length ms)) (omega arith)

  -- no section measures more than 2,000 messages of 1,000 each
  measures : (node : Node (List ℕ)) → Known kind s ms lawful fit set room node → AllByRecursion (λ sec. total_measure kind sec.members ≤ 2000000) node.sections
  measures node k =
      All-weaker _ _ (λ sec small. omega (arith, measure_le kind lawful sec.members small.0, small.1, room, l.capacity)) node.sections k.bounded.members

  sound : (i : ℕ) (d : Node (List ℕ)) → i < length nodes → Sound kind s.alpha (length nodes) (i + 1) (get_or nodes i d)
  sound i d lt =
      let k = All-get_or _ nodes i d lt (known kind s ms lawful fit set room) in
      let fits = node_fits kind s ms lawful fit set room (get_or nodes i d) k in
      record {
        some = All-get_or _ nodes i d lt filled;
        few = fits.few;
        valid = k.bounded.entries;
        rising = All-get_or _ nodes i d lt rising;
        flags = fits.flags;
        onward = onward_at (length nodes + 1) 1 nodes i d lt onward;
        measures = measures (get_or nodes i d) k;
      }

pub blocks_are_well_formed : BlocksAreWellFormed
blocks_are_well_formed kind s ms lawful fit set room i d lt =
    let nodes = tree_of kind s ms in
    let node = get_or nodes i d in
    let fits = node_fits kind s ms lawful fit set room node (All-get_or _ nodes i d lt (known kind s ms lawful fit set room)) in
    well_formed_lem kind s.alpha (length nodes) (i + 1) node (tree_block kind s.alpha node) (sound kind s ms lawful fit set room i d lt) (tree_block_reads_back kind s.alpha node lawful (and_parts _ _ fit).0 fits).reads_back
