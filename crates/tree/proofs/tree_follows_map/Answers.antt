-- The tree over mapped elements, for the elements of the list itself. Assumes nothing.
use Rattle.std.proofs.Common.{map, length, ap, ◌∙◌}
use Rattle.std.proofs.ByRecursion.{all_has_itself}
use Rattle.std.proofs.lemmas.List.{length-map}
use Rattle.tree.specs.Tree.{nodes}
use Rattle.tree.proofs.Mapping.{nodes-map}
use Rattle.tree.proofs.tree_follows_map.Goals as goal

pub returns : goal.returns
returns g c before_x before_y f alpha rho xs keeps =
    ap (λ n. nodes before_y alpha rho n 0 1 (map f xs)) (length-map xs f)
    ∙ nodes-map f before_x before_y keeps alpha rho (length xs) 0 1 xs (all_has_itself xs)
