-- The tree's laws, for the elements of the list itself. Assumes nothing.
use Rattle.std.proofs.Common.{length, le_refl}
use Rattle.std.proofs.ByRecursion.{all_has_itself}
use Rattle.tree.proofs.Nodes.{nodes_lawful, nodes_shuffled, nodes_few, nodes_some, fuel_enough}
use Rattle.tree.proofs.Sections.{length-block, length_sections}
use Rattle.tree.proofs.tree_is_lawful.Goals as goal

pub returns : goal.returns
returns g c before alpha rho xs strict apart holds shares =
    let all = all_has_itself xs in
    let n = length xs in
    record {
      fills = length-block strict alpha xs all apart;
      divides = length_sections strict alpha rho shares xs all apart;
      each = nodes_lawful strict alpha rho holds shares n 0 1 xs all apart;
      once = nodes_shuffled strict alpha rho holds n 0 1 xs all apart (le_refl n);
      few = nodes_few strict alpha rho holds n 0 1 xs all apart (le_refl n);
      some = λ some. nodes_some before alpha rho n 0 1 xs some some;
      enough = λ fuel parent k l. fuel_enough strict alpha rho holds fuel n parent k xs all apart l (le_refl n);
    }
